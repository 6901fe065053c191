-- `itineraries::write_routes` meets its contract: the lines of the first v nodes are written.
use mathlib.Core.Path.{◌≡◌}
use lib.ListN.{length}
use Rattle.fields.specs.Writing.{Writes}
use Rattle.itineraries.specs.Itineraries.{route_lines, nodes_to, route_fields}
use Rattle.itineraries.proofs.write_routes.Given as goal

abbrev pub invariant-loop-v : goal.invariant-loop-v
invariant-loop-v l =
    (length l.route ≡ length l.initial.route)
    × Writes 0 (route_lines l.v l.distances (nodes_to l.n l.source.0 l.starts l.heads l.parents)) l.initial.output l.output l.next
    × (l.route ≡ route_fields l.v l.distances (nodes_to l.n l.source.0 l.starts l.heads l.parents) l.initial.route)
