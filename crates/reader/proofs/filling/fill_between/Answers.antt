use native.Mathlib.Omega.{arith}
use Rattle.reader.proofs.Lists.{between_start, between_next, between_end, same_length}
use Rattle.reader.proofs.filling.fill_between.Goals as goal

pub loop-i-init : goal.loop-i-init
loop-i-init c = between_start _ _ _ _ c.requires.0 c.requires.1

pub offset_bounds-words-i : goal.offset_bounds-words-i
offset_bounds-words-i c = omega (arith, same_length c.loop-i.invariant, c.loop-i.invariant.fits)

pub bounds-words-i : goal.bounds-words-i
bounds-words-i c = omega (arith, same_length c.loop-i.invariant, c.loop-i.invariant.fits)

pub loop-i-preserved : goal.loop-i-preserved
loop-i-preserved c = between_next c.loop-i.invariant c.loop-i-test.true

pub shape_of-words : goal.shape_of-words
shape_of-words c = same_length c.loop-i.invariant

pub returns : goal.returns
returns c = between_end c.loop-i.invariant c.loop-i-test.false
