-- `check_sums::greatest` meets its contract: no word passed is above the greatest, which is above no limit of all words.
use native.Mathlib.Omega.{arith}
use borrow.Author.Count.{below_more}
use borrow.Author.Rules.{rules}
use Rattle.check_sums.proofs.greatest.Goals as goal
use Rattle.check_sums.proofs.greatest.Goals.{else-word-most, then-word-most}

pub loop-word-preserved : goal.loop-word-preserved
loop-word-preserved c =
    let i = c.loop-word.word-index in
    elim c.if-word-most.branch [ then-word-most w ↦ (below_more _ i (λ k m. omega (arith, c.loop-word.invariant.0 k m)) (omega arith), λ limit h. omega (arith, h i (search rules))) | else-word-most w ↦ (below_more _ i (λ k m. omega (arith, c.loop-word.invariant.0 k m)) (omega arith), λ limit h. omega (arith, c.loop-word.invariant.1 limit h)) ]

pub returns : goal.returns
returns c = record { none_above = λ k m. c.loop-word.invariant.0 k (search rules); least = c.loop-word.invariant.1 }

pub loop-word-init : goal.loop-word-init
loop-word-init c = (λ k l. absurd (search rules), λ limit h. search rules)
