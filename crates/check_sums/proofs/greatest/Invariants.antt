-- `check_sums::greatest` meets its contract: no word passed is above the greatest, which is above no limit of all words.
use Prim.Native.Nat.{ℕ, ◌≤◌, ◌<◌}
use lib.ListN.{get_or}
use Rattle.check_lists.specs.Lists.{NoneAbove}
use Rattle.check_sums.proofs.greatest.Given as goal

abbrev pub invariant-loop-word : goal.invariant-loop-word
invariant-loop-word l = ((k : ℕ) → k < l.word-index → get_or l.words k 0 ≤ l.most) × ((limit : ℕ) → NoneAbove limit l.words → l.most ≤ limit)
