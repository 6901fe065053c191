-- `bits::smallest` meets its contract: the words of the summary before word j are 0, so word j is within it.
use Rattle.std.proofs.Common.{◌+◌, below_more, arith}
use Rattle.bits.specs.Sets.Find.{summary_goes_on, word_some, smallest_at}
use Rattle.bits.proofs.smallest.Goals as goal

pub loop-j-init : goal.loop-j-init
loop-j-init c = record {
  zero_before = λ t h. absurd (omega arith);
  within = summary_goes_on c.requires.bit_set c.requires.inhabited 0 (λ t h. absurd (omega arith));
}

pub loop-j-preserved : goal.loop-j-preserved
loop-j-preserved c =
    let zero_before = below_more _ _ c.loop-j.invariant.zero_before c.loop-j-test.true in record {
      zero_before = zero_before;
      within = summary_goes_on c.requires.bit_set c.requires.inhabited (c.loop-j.j + 1) zero_before;
    }

pub bounds-words-bits : goal.bounds-words-bits
bounds-words-bits c =
    let some = word_some c.requires.bit_set c.loop-j.j c.loop-j.invariant.within c.loop-j.invariant.zero_before c.loop-j-test.false in
    omega (arith, some.0)

pub returns : goal.returns
returns c =
    smallest_at c.requires.bit_set c.loop-j.j c.loop-j.invariant.within c.loop-j.invariant.zero_before c.loop-j-test.false
