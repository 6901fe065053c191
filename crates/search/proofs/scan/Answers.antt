-- `search::scan` meets its contract.
use native.Mathlib.Omega.{arith}
use Rattle.search.proofs.Arcs.{scanned_start, scanned_some, scanned_next, scanned_end}
use Rattle.search.proofs.scan.Goals as goal

pub loop-a-init : goal.loop-a-init
loop-a-init c = scanned_start c.requires.scans.rising

pub bounds-costs-a : goal.bounds-costs-a
bounds-costs-a c = omega (arith, c.requires.scans.costs_long)

pub overflow_add-costs : goal.overflow_add-costs
overflow_add-costs c = omega (arith, c.requires.scans.sums_low c.loop-a.a c.loop-a.invariant.from (omega arith))

pub relax-reached-requires : goal.relax-reached-requires
relax-reached-requires c = scanned_some c.loop-a.invariant c.requires (omega arith)

pub loop-a-preserved : goal.loop-a-preserved
loop-a-preserved c = scanned_next c.loop-a.invariant (omega arith) c.relax-reached.ensures.stands c.relax-reached.ensures.front

pub returns : goal.returns
returns c = let D = c.loop-a.invariant in record { stands = scanned_end D (omega arith); front = D.front }

pub bounds-heads-a : goal.bounds-heads-a
bounds-heads-a c = omega (arith, c.requires.scans.heads_long)

pub overflow_cast-a : goal.overflow_cast-a
overflow_cast-a c = omega (arith, c.requires.scans.few)
