-- `itineraries::write_routes` meets its contract: the lines of the first v nodes are written.
use mathlib.Core.Path.{◌≡◌, refl, ◌∙◌, ap}
use mathlib.Core.List.{List}
use Prim.Native.Nat.{ℕ}
use native.Mathlib.Numerals.{add-one}
use native.Mathlib.Omega.{arith}
use lib.ListN.{get_or}
use borrow.Author.Rules.{rules}
use Rattle.fields.proofs.Written.{writes_nothing, writes_then, writes_same, writes_length}
use Rattle.itineraries.specs.Itineraries.{route_lines, nodes_to, words_if_reached, route_fields}
use Rattle.itineraries.proofs.Lines.{lines_next, words_next, lines_most}
use Rattle.itineraries.proofs.write_routes.Goals as goal

pub loop-v-init : goal.loop-v-init
unfolding route_lines route_fields
loop-v-init c = (refl, writes_nothing _ _ (omega arith), refl)

pub bounds-distances-v : goal.bounds-distances-v
bounds-distances-v c = omega (arith, c.requires.all_routable.distances_fit, c.loop-v-test.true)

pub write_route-next-requires : goal.write_route-next-requires
write_route-next-requires c =
    let routes : ℕ → List ℕ = nodes_to c.args.n c.args.source.0 c.args.starts.now c.args.heads.now c.args.parents.now in
    let loop = c.loop-v in
    let all = c.requires.all_routable in
    let most = lines_most loop.v c.args.distances.now routes (omega (arith, c.loop-v-test.true, all.nodes_fit)) (λ w. omega (arith, c.type_inv.distances w))
    (λ w l q. (all.routable w (omega (arith, c.loop-v-test.true)) q).few) in record { line_bytes_in_bounds = omega (arith, most, loop.invariant.1.behind, writes_length loop.invariant.1, c.requires.n_in_bounds, c.loop-v-test.true); route_len = loop.invariant.0 ∙ c.requires.route_len; routable = all.routable loop.v c.loop-v-test.true }

pub loop-v-preserved : goal.loop-v-preserved
loop-v-preserved c =
    let routes : ℕ → List ℕ = nodes_to c.args.n c.args.source.0 c.args.starts.now c.args.heads.now c.args.parents.now in
    let line = c.write_route-next in
    let loop = c.loop-v in
    let distances = c.args.distances.now in (
      omega (arith, line.auto.route, loop.invariant.0),
      rw (add-one loop.v) (writes_same (lines_next loop.v distances routes) (writes_then loop.invariant.1 line.ensures.text)),
      rw (add-one loop.v) (line.ensures.list ∙ ap (words_if_reached (get_or distances loop.v 0) (routes loop.v)) loop.invariant.2
          ∙ words_next loop.v distances routes c.args.route.now),
    )

pub shape_of-route : goal.shape_of-route
shape_of-route c = c.loop-v.invariant.0

pub shape_of-output : goal.shape_of-output
shape_of-output c = writes_length c.loop-v.invariant.1

pub returns : goal.returns
returns c =
    let loop = c.loop-v in
    let all : loop.v ≡ c.args.n = search rules in
    record { text = rw all at loop.invariant.1; list = rw all at loop.invariant.2 }
