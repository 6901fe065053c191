-- The arcs still allowed are the falling number.
use Rattle.walk.proofs.+walk_on.Given as goal

abbrev pub decreases-walk_on : goal.decreases-walk_on
decreases-walk_on l = l.allowed
