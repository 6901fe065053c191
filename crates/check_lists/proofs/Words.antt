-- What the checks of heads and holds say. Assumes nothing.
use mathlib.Core.Path.{◌≡◌, refl}
use mathlib.Core.Bool.{Bool, true, false, cond}
use mathlib.Core.List.{List}
use Prim.Native.Nat.{ℕ, ◌<◌}
use native.Mathlib.Omega.{arith}
use lib.Dec.{leb, eqb}
use lib.ListN.{length, get_or}
use borrow.Author.Tests.{ltb-false, leb-false, eqb-true, le-ltb, lt-leb, eq-eqb}
use Rattle.model.specs.declared.Kind.{Kind}
use Rattle.std.specs.Prelude.{Ok, Err}
use Rattle.model.specs.Answers.{fault_of}
use Rattle.model.specs.declared.Kind.TheVariants.{Hold}
use Rattle.check_lists.specs.Lists.{word_above, above_check, heads_check, holds_check, NoneAbove}
use Rattle.check_lists.proofs.Least.{each_passes, passed_each}

module _ (kind : Kind) (limit : ℕ) (words : List ℕ) where
  passed_above : above_check kind limit words ≡ Ok tt → NoneAbove limit words
  passed_above e i l =
      ltb-false limit (get_or words i 0) (passed_each kind (word_above limit words) (length words) i e l)

  pub none_above_passes : NoneAbove limit words → above_check kind limit words ≡ Ok tt
  none_above_passes h =
      each_passes kind (word_above limit words) (length words) (λ i l. le-ltb limit (get_or words i 0) (h i l))

module _ (n : ℕ) (heads : List ℕ) where
  pub heads_below : heads_check n heads ≡ Ok tt → (a : ℕ) → a < length heads → get_or heads a 0 < n
  unfolding heads_check
  heads_below e a l = leb-false n (get_or heads a 0) (passed_each _ (λ k. leb n (get_or heads k 0)) (length heads) a e l)

  pub heads_pass : ((a : ℕ) → a < length heads → get_or heads a 0 < n) → heads_check n heads ≡ Ok tt
  unfolding heads_check
  heads_pass h = each_passes _ (λ k. leb n (get_or heads k 0)) (length heads) (λ a l. lt-leb n (get_or heads a 0) (h a l))

module _ (n C : ℕ) (holds : List ℕ) where
  pub passed_holds : holds_check n C holds ≡ Ok tt → (length holds ≡ n) × NoneAbove C holds
  unfolding holds_check
  passed_holds e = go (eqb (length holds) n) refl e
    where
      go : (t : Bool) → eqb (length holds) n ≡ t → cond t (above_check Hold C holds) (Err (fault_of Hold 0)) ≡ Ok tt → (length holds ≡ n) × NoneAbove C holds
      go true f e = (eqb-true (length holds) n f, passed_above _ C holds e)
      go false f e = absurd (let z : ◌≡◌ {A = ℕ} 0 1 = cc in omega arith)

  pub holds_pass : length holds ≡ n → NoneAbove C holds → holds_check n C holds ≡ Ok tt
  unfolding holds_check
  holds_pass long most = rw (eq-eqb (length holds) n long) (none_above_passes _ C holds most)
