use native.Mathlib.Omega.{arith}
use Rattle.dimacs_checks.proofs.last_line.Goals as goal

pub returns-then-lines-lt1 : goal.returns-then-lines-lt1
returns-then-lines-lt1 c = omega arith

pub returns-else-lines-lt1 : goal.returns-else-lines-lt1
returns-else-lines-lt1 c = omega arith
