-- `bits::smallest` meets its contract: the words of the summary before word j are 0, so word j is within it.
use Rattle.std.proofs.Common.{◌≡◌, ℕ, ◌+◌, ◌-◌, ◌<◌, get_or}
use Rattle.bits.specs.Sets.{summary_words}
use Rattle.bits.proofs.smallest.Given as goal

abbrev pub invariant-loop-j : goal.invariant-loop-j
invariant-loop-j l = record {
  zero_before : (t : ℕ) → t < l.j → get_or l.words (l.summary + t) 0 ≡ 0;
  within : l.j < summary_words 32 l.n;
}

abbrev pub decreases-loop-j : goal.decreases-loop-j
decreases-loop-j l = summary_words 32 l.n - l.j
