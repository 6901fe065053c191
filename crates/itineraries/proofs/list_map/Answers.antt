-- `itineraries::list_map` meets its contract.
use native.Mathlib.Omega.{arith}
use mathlib.Core.Path.{sym}
use lib.Seq.{length-take-le}
use Rattle.planning.proofs.Both.{never_refused}
use Rattle.itineraries.proofs.Listing.{run_routable, run_listed}
use Rattle.itineraries.proofs.list_map.Goals as goal

pub write_routes-requires : goal.write_routes-requires
write_routes-requires c =
    let p = c.requires in
    record { n_in_bounds = omega (arith, p.map_runnable.nodes_fit, p.route_len.1); route_len = p.route_len.0; all_routable = run_routable p.map_runnable _ c.run-run.ensures }

pub returns-in-Ok : goal.returns-in-Ok
returns-in-Ok c = run_listed c.requires.map_runnable _ c.run-run.ensures c.write_routes.ensures.text c.write_routes.ensures.list

pub returns-in-Err : goal.returns-in-Err
returns-in-Err c = absurd (never_refused c.requires.map_runnable.accepted (rw c.in-Err.is at c.run-run.ensures))

pub slice_bounds-given-end : goal.slice_bounds-given-end
slice_bounds-given-end c = sym (length-take-le _ _ c.requires.map_runnable.starts_fit)

pub slice_bounds-given-end-2 : goal.slice_bounds-given-end-2
slice_bounds-given-end-2 c = sym (length-take-le _ _ c.requires.map_runnable.heads_fit)

pub slice_bounds-given-end-3 : goal.slice_bounds-given-end-3
slice_bounds-given-end-3 c = sym (length-take-le _ _ c.requires.map_runnable.costs_fit)

pub slice_bounds-given-end-4 : goal.slice_bounds-given-end-4
slice_bounds-given-end-4 c = sym (length-take-le _ _ c.requires.map_runnable.holds_fit)
