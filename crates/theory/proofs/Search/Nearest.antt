-- `nearest` chooses the labelled node of smallest distance, and of smallest number among equals.
use Prim.Native.Nat.{ℕ, zero, suc, ◌<◌}
use mathlib.Core.Path.{◌≡◌, refl, sym, ◌∙◌}
use mathlib.Core.Logic.{inl, inr}
use mathlib.Core.Bool.{Bool, true, false, cond}
use native.Mathlib.Omega.{arith}
use lib.ListN.{length}
use lib.Dec.{ltb}
use borrow.Author.Tests.{ltb-true, ltb-false}
use Rattle.theory.specs.Search.{Mark, unlabelled, labelled, scanned, Search, mark, distance, Choice, nothing, chosen, nearer, consider, nearest}
use Rattle.theory.specs.Invariants.{LeastOf, Labelled, LabelledBelow, Least}
use Rattle.theory.proofs.Cases.{split, labelled≢scanned, labelled≢unlabelled}
use Rattle.theory.proofs.Lists.{inside}

-- What a choice says of the nodes below n.
pub data Chosen (s : Search) (n : ℕ) : Choice → Type 0 where
  empty : ((w : ℕ) → w < n → Labelled s w → ⊥) → Chosen s n nothing
  least : {v d : ℕ} → LeastOf (LabelledBelow s n) (distance s) v d → Chosen s n (chosen v d)

module _ (s : Search) (v : ℕ) where
  -- A node that is not labelled changes nothing.
  pass : (mark s v ≡ labelled → ⊥) → {c : Choice} → Chosen s v c → Chosen s (suc v) c
  pass not (empty h) = empty (λ w l on. elim (split w v) [
    | inl k ↦ h w k on
    | inr k ↦ let e : w ≡ v = omega arith in not (rw e at on)
  ])
  pass not (least {v = x} {d} a) = least {v = x} {d = d} (record {
    member = (omega (arith, a.member.0), a.member.1);
    key = a.key;
    least = λ w m. elim (split w v) [ inl k ↦ a.least w (k, m.1) | inr k ↦ let e : w ≡ v = omega (arith, m.0) in absurd (not (rw e at m.1)) ];
    first = λ w m q. elim (split w v) [ inl k ↦ a.first w (k, m.1) q | inr k ↦ omega (arith, a.member.0) ];
  })

  take : Labelled s v → {c : Choice} → Chosen s v c → Chosen s (suc v) (nearer v (distance s v) c)
  take on (empty h) = least {v = v} {d = distance s v} (record {
    member = (omega arith, on);
    key = refl;
    least = λ w m. elim (split w v) [ inl k ↦ absurd (h w k m.1) | inr k ↦ let e : w ≡ v = omega (arith, m.0) in rw e (omega arith) ];
    first = λ w m q. elim (split w v) [ inl k ↦ absurd (h w k m.1) | inr k ↦ k ];
  })
  take on (least {v = x} {d} a) = go (ltb (distance s v) d) refl
    where
      go : (t : Bool) → ltb (distance s v) d ≡ t → Chosen s (suc v) (cond t (chosen v (distance s v)) (chosen x d))
      go true t = let less = ltb-true (distance s v) d t in least {v = v} {d = distance s v} (record {
        member = (omega arith, on);
        key = refl;
        least = λ w m. elim (split w v) [ inl k ↦ omega (arith, a.least w (k, m.1)) | inr k ↦ let e : w ≡ v = omega (arith, m.0) in rw e (omega arith) ];
        first = λ w m q. elim (split w v) [ inl k ↦ absurd (omega (arith, a.least w (k, m.1))) | inr k ↦ k ];
      })
      go false t = let more = ltb-false (distance s v) d t in least {v = x} {d = d} (record {
        member = (omega (arith, a.member.0), a.member.1);
        key = a.key;
        least = λ w m. elim (split w v) [ inl k ↦ a.least w (k, m.1) | inr k ↦ let e : w ≡ v = omega (arith, m.0) in rw e more ];
        first = λ w m q. elim (split w v) [ inl k ↦ a.first w (k, m.1) q | inr k ↦ omega (arith, a.member.0) ];
      })

  step : {c : Choice} → Chosen s v c → Chosen s (suc v) (consider (mark s v) v (distance s v) c)
  step {c} h = go (mark s v) refl
    where
      go : (m : Mark) → mark s v ≡ m → Chosen s (suc v) (consider m v (distance s v) c)
      go unlabelled e = pass (λ q. labelled≢unlabelled (sym q ∙ e)) h
      go labelled e = take e h
      go scanned e = pass (λ q. labelled≢scanned (sym q ∙ e)) h

chosen_below : (s : Search) (n : ℕ) → Chosen s n (nearest s n)
unfolding nearest
chosen_below s zero = empty (λ w l on. omega arith)
chosen_below s (suc v) = step s v (chosen_below s v)

-- What a choice says of all nodes.
abbrev pub Right : Search → Choice → Type 0
Right s nothing = (v : ℕ) → Labelled s v → ⊥
Right s (chosen v d) = Least s v d

pub labelled_inside : (s : Search) (v : ℕ) → Labelled s v → v < length s.marks
labelled_inside s v on = inside s.marks v unlabelled (λ e. labelled≢unlabelled (sym on ∙ e))

pub nearest_right : (s : Search) (n : ℕ) → length s.marks ≡ n → Right s (nearest s n)
nearest_right s n long = go (nearest s n) (chosen_below s n)
  where
    in_range : (w : ℕ) → Labelled s w → w < n
    in_range w on = omega (arith, labelled_inside s w on)

    go : (c : Choice) → Chosen s n c → Right s c
    go nothing (empty h) = λ w on. h w (in_range w on) on
    go (chosen v d) (least a) = record {
      member = a.member.1;
      key = a.key;
      least = λ w on. a.least w (in_range w on, on);
      first = λ w on q. a.first w (in_range w on, on) q;
    }
