use Prim.Native.Nat.{ℕ}
use native.Mathlib.Omega.{arith}
use mathlib.Core.Path.{sym, ◌∙◌}
use Rattle.std.proofs.Common.{rules}
use Rattle.std.proofs.lemmas.Result.{err_from_is_err_and}
use Rattle.walk.proofs.Walking.{back_source, back_stops, back_misfit, parent_inside, arc_fits, misfit, walks_on, lost_walk, GoesOn, came_back_lost, came_back}
use Rattle.walk.proofs.+walk_on.Goals.{After-walk_on}
use Rattle.walk.proofs.+walk_on.Goals as goal

pub returns-then-v-lists : goal.returns-then-v-lists
returns-then-v-lists t c =
    let lists = c.args.lists.now in
    let e = back_source lists.n lists.source.0 lists.starts.now lists.heads.now lists.parents.now c.args.allowed c.args.v.0 c.if-v-lists.true in
    record { answer = rw e c.arrive.ensures.answer; list = rw e c.arrive.ensures.list }

pub returns-then-allowed-eq0 : goal.returns-then-allowed-eq0
returns-then-allowed-eq0 t c =
    let e = c.if-allowed-eq0.true in
    let f = lost_walk _ _ (rw e (back_stops _ _ _ _ _ _ c.if-v-lists.false)) in record { answer = f.0; list = f.1 }

pub returns-then-not-leads_to : goal.returns-then-not-leads_to
returns-then-not-leads_to t c =
    let e = lost_walk _ _ (back_misfit _ _ _ _ _ _ _ c.if-v-lists.false (misfit c.requires c.leads_to.ensures c.if-not-leads_to.true)) in record { answer = e.0; list = e.1 }

pub tail_of-tail-requires : goal.tail_of-tail-requires
tail_of-tail-requires t c = arc_fits c.requires c.leads_to.ensures c.if-not-leads_to.false

pub overflow_sub-allowed : goal.overflow_sub-allowed
overflow_sub-allowed t c = omega (arith, c.if-allowed-eq0.false)

pub overflow_add-behind : goal.overflow_add-behind
overflow_add-behind t c = let w = c.requires in omega (arith, w.short, w.table.sound.few_nodes)

pub walk_on-requires : goal.walk_on-requires
walk_on-requires t c =
    (omega arith, walks_on c.requires c.tail_of-tail.ensures (omega (arith, c.if-allowed-eq0.false)))

pub bounds-lists-v : goal.bounds-lists-v
bounds-lists-v t c = parent_inside c.requires

-- The parent of v leads on, as far as the call has told.
goes_on : (t : ℕ) (c : After-walk_on t) → GoesOn c.requires c.tail_of-tail.result.0
goes_on t c = record {
  away = c.if-v-lists.false;
  fits = sym c.leads_to.ensures ∙ c.if-not-leads_to.false;
  leaves = c.tail_of-tail.ensures;
  some = omega (arith, c.if-allowed-eq0.false);
}

pub bounds-route-nodes : goal.bounds-route-nodes
bounds-route-nodes t c = (came_back c.requires (goes_on t (goal.at.bounds-route-nodes t c).After-walk_on) _ c.walk_on.ensures.answer c.walk_on.ensures.list c.in_ok-nodes.was).0

pub offset_bounds-route-nodes : goal.offset_bounds-route-nodes
offset_bounds-route-nodes t c = let inside = bounds-route-nodes t c in search rules

pub overflow_add-result : goal.overflow_add-result
overflow_add-result t c = let inside = bounds-route-nodes t c in search rules

pub returns-in_err-nodes : goal.returns-in_err-nodes
returns-in_err-nodes t c =
    let passed_on = err_from_is_err_and c.from_residual.result c.from_residual.ensures.1 in
    let away = goes_on t (goal.at.returns-in_err-nodes t c).After-walk_on in
    let back = came_back_lost c.requires away _ c.walk_on.ensures.answer c.walk_on.ensures.list c.in_err-nodes.was in
    rw (passed_on.1, passed_on.2) (record { answer = back.0; list = back.1 })

pub returns : goal.returns
returns t c =
    let away = goes_on t (goal.at.returns t c).After-walk_on in
    let back = came_back c.requires away _ c.walk_on.ensures.answer c.walk_on.ensures.list c.in_ok-nodes.was in
    record { answer = back.1; list = back.2 }
