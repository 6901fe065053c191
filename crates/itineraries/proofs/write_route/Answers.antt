-- `itineraries::write_route` meets its contract: a route of a node with a distance is never refused.
use native.Mathlib.Omega.{arith}
use mathlib.Core.Path.{sym, ◌∙◌, ap, subst}
use lib.Seq.{length-take-le}
use Rattle.fields.proofs.Written.{writes_nothing, writes_same}
use Rattle.itineraries.specs.Itineraries.{route_line, Few, Routable}
use Rattle.itineraries.proofs.Lines.{unreached_line, reached_line, unreached_words, reached_words}
use Rattle.itineraries.proofs.Routed.{found_list, found_count, found_nodes, never_refused}
use Rattle.itineraries.proofs.write_route.Goals as goal

pub returns-then-distance-eq4294967295 : goal.returns-then-distance-eq4294967295
returns-then-distance-eq4294967295 c =
    let unreached = c.if-distance-eq4294967295.true in
    record { text = writes_same (unreached_line _ _ _ unreached) (writes_nothing _ _ (omega (arith, c.requires.line_bytes_in_bounds))); list = unreached_words c.args.v.0 _ _ _ unreached }

pub slice_bounds-write_line-end : goal.slice_bounds-write_line-end
slice_bounds-write_line-end c =
    let routable : Routable c.args.n c.args.source.0 c.args.starts.now c.args.heads.now c.args.parents.now c.args.v.0 = c.requires.routable c.if-distance-eq4294967295.false in
    omega (arith, found_count c.requires.route_len routable c.route.ensures c.in-Ok.is, routable.few.count, c.route.auto.route, c.requires.route_len)

pub slice_bounds-write_line-end-in-Ok : goal.slice_bounds-write_line-end-in-Ok
slice_bounds-write_line-end-in-Ok c =
    let routable : Routable c.args.n c.args.source.0 c.args.starts.now c.args.heads.now c.args.parents.now c.args.v.0 = c.requires.routable c.if-distance-eq4294967295.false in
    sym (length-take-le _ _ (omega (arith, found_count c.requires.route_len routable c.route.ensures c.in-Ok.is, routable.few.count, c.route.auto.route, c.requires.route_len)))

pub write_line-requires : goal.write_line-requires
write_line-requires c =
    let routable : Routable c.args.n c.args.source.0 c.args.starts.now c.args.heads.now c.args.parents.now c.args.v.0 = c.requires.routable c.if-distance-eq4294967295.false in
    record { line_bytes_in_bounds = c.requires.line_bytes_in_bounds; v_bound = (routable.node, subst Few (sym (found_nodes c.requires.route_len routable c.route.ensures c.in-Ok.is)) routable.few) }

pub returns-in-Ok : goal.returns-in-Ok
returns-in-Ok c =
    let routable : Routable c.args.n c.args.source.0 c.args.starts.now c.args.heads.now c.args.parents.now c.args.v.0 = c.requires.routable c.if-distance-eq4294967295.false in
    let nodes = found_nodes c.requires.route_len routable c.route.ensures c.in-Ok.is in record { text = writes_same (ap (route_line c.args.v.0 c.args.distance) nodes ∙ reached_line _ _ _ c.if-distance-eq4294967295.false) c.write_line.ensures; list = found_list c.requires.route_len routable c.route.ensures ∙ reached_words c.args.v.0 _ _ _ c.if-distance-eq4294967295.false }

pub returns-in-Err : goal.returns-in-Err
returns-in-Err c =
    let routable : Routable c.args.n c.args.source.0 c.args.starts.now c.args.heads.now c.args.parents.now c.args.v.0 = c.requires.routable c.if-distance-eq4294967295.false in
    absurd (never_refused c.requires.route_len routable c.route.ensures c.in-Err.is)
