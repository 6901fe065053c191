-- The sizes and the number of buckets agree with the shapes of both heaps (document 01, "One-level heap" and "Two-level heap").
use Prim.Native.Nat.{ℕ, ◌-◌, ◌^◌, ◌≤◌, ◌<◌}
use native.Mathlib.Nat.{one-le-pow}
use native.Mathlib.Omega.{arith}
use mathlib.Core.Path.{◌≡◌, refl, sym, ◌∙◌}
use mathlib.Core.Logic.{inl, inr}
use mathlib.Core.List.{[], ◌∷◌}
use lib.ListN.{length-append, get_or-append}
use borrow.Author.Tests.{lt-ltb, le-ltb}
use Rattle.theory.specs.Shape.{one_level_buckets, one_level, two_level_buckets, two_level}
use Rattle.theory.proofs.Cases.{split}
use Rattle.theory.proofs.Sums.{get_d_list_below}
use Rattle.theory.proofs.Shapes.Logarithm.{one_level_most, two_level_most}
use Rattle.theory.proofs.Shapes.OneLevel.{lawful_one}
use Rattle.theory.proofs.Shapes.TwoLevel.{lawful_two}
use Rattle.powers.specs.Powers.{power_row}
use Rattle.powers.proofs.Rule.{row_length}
use Rattle.powers.proofs.Used.{row_used}
use Rattle.bounds.specs.Words.{size_of, segment_number, segment_end, segment_looks, Agrees}
use Rattle.sizes.specs.Sizes.{one_level_sizes, two_level_sizes}

module _ (n C : ℕ) (few : C ≤ 1048575) where
  one_size : (i : ℕ) → i < one_level_buckets C → size_of one_level_sizes i ≡ (one_level n C).size i
  unfolding one_level_sizes one_level
  one_size i h = get_d_list_below 22 i (one_level n C).size 0 (omega (arith, one_level_most C))

  pub one_agrees : Agrees (one_level n C) (one_level_buckets C) 1 one_level_sizes
  unfolding one_level_sizes one_level segment_number segment_end segment_looks
  one_agrees = record {
    buckets = refl;
    size = λ i l h. sym (one_size i h);
    segment = λ i u x. refl;
    end = λ i u k. refl;
    looks = λ k. refl;
    sized = record {
      two = (lawful_one n C few).two;
      few = one_level_most C;
      long = refl;
      positive = λ i h. rw (one_size i h) ((lawful_one n C few).sizes i);
    };
    some = omega arith;
    most = omega arith;
  }

module _ (n C K : ℕ) (few : C ≤ 1048575) (low : 2 ≤ K) (high : K ≤ 64) where
  two_size : (i : ℕ) → i < two_level_buckets C K → size_of (two_level_sizes K) i ≡ K ^ i
  unfolding two_level_sizes
  two_size i h =
      get_or-append (power_row K) (0 ∷ []) 0 i (omega (arith, row_length K, two_level_most C K)) ∙ row_used C K i few low high h

  pub two_agrees : Agrees (two_level n C K) (two_level_buckets C K) K (two_level_sizes K)
  unfolding two_level_sizes two_level segment_number segment_end segment_looks
  two_agrees = record {
    buckets = refl;
    size = λ i l h. sym (two_size i h);
    segment = λ i u x. elim (split i (two_level_buckets C K)) [
      | inl h ↦ rw (lt-ltb i (two_level_buckets C K) h, lt-ltb 1 K low, two_size (i - 1) (omega arith))
      | inr h ↦ rw (le-ltb i (two_level_buckets C K) h, lt-ltb 1 K low)
    ];
    end = λ i u k. elim (split i (two_level_buckets C K)) [
      | inl h ↦ rw (lt-ltb i (two_level_buckets C K) h, lt-ltb 1 K low, two_size (i - 1) (omega arith))
      | inr h ↦ rw (le-ltb i (two_level_buckets C K) h, lt-ltb 1 K low)
    ];
    looks = λ k. rw (lt-ltb 1 K low);
    sized = record {
      two = (lawful_two n C K low few).two;
      few = omega (arith, two_level_most C K);
      long = simp length-append (omega (arith, row_length K));
      positive = λ i h. rw (two_size i h) (one-le-pow i K (omega arith));
    };
    some = omega arith;
    most = high;
  }
