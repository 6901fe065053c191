-- The tests of buckets and of segments, one after the other, end at the lowest that is not empty.
use Prim.Native.Nat.{ℕ, suc, ◌+◌, ◌-◌, ◌*◌, ◌≤◌, ◌<◌}
use native.Mathlib.Omega.{arith}
use mathlib.Core.Path.{◌≡◌, refl, ap}
use mathlib.Core.Bool.{Bool, true, false}
use mathlib.Core.Logic.{inl, inr}
use mathlib.Core.List.{List}
use lib.ListN.{get_or}
use Rattle.theory.proofs.Cases.{split, differ}
use Rattle.buckets.specs.Words.{places, place_bucket, slot_bucket, bucket_count}
use Rattle.buckets.specs.Words.Laws.{bucket_count_lem, bucket_range}
use Rattle.buckets.specs.Answer.{InSlot, InBucket, SomeNode, NoNode, EmptyBucket, FirstIn}
use Rattle.std.specs.Prelude.{Option, Some, None, is_some}
use Rattle.model.specs.declared.Node.{Node}
use Rattle.buckets.specs.Links.Laws.{held_bucket, bucket_slot}
use Rattle.state.specs.declared.Layout.{Layout}
use Rattle.state.specs.Slots.{slot_of}
use Rattle.finding.specs.Finding.{Holds, LowestBucket, InBucketSome, LowestSegment}

-- ---- a test of one after the other

-- Of those that are counted from 1, the ones below i are empty, and a node stands in the last, which is i or above.
pub record From (Within : ℕ → ℕ → Type 0) (last i : ℕ) : Type 0 where
  pub low : 1 ≤ i
  pub lower : (m w : ℕ) → 1 ≤ m → m < i → Within m w → ⊥
  pub held : SomeNode (Within last)
  pub high : i ≤ last

from_next : {Within : ℕ → ℕ → Type 0} {last i : ℕ} → From Within last i → NoNode (Within i) → From Within last (i + 1)
from_next {last = last} {i} F none = record {
  low = omega arith;
  lower = λ m w l k h. elim (split m i) [ inl j ↦ F.lower m w l j h | inr j ↦ let e : m ≡ i = omega arith in none w (rw e at h) ];
  held = F.held;
  high = elim (split i last) [
    | inl l ↦ omega (arith, l)
    | inr l ↦ let e : last ≡ i = omega (arith, F.high) in absurd (none F.held.node (rw e at F.held.holds))
  ];
}

-- ---- buckets

-- The buckets below this one are empty, and a node stands in this one or above.
pub record Above (n : ℕ) (words : List ℕ) (bucket : ℕ) : Type 0 where
  pub top : ℕ
  pub from : From (λ b. InBucket n b words) top bucket
  pub few : top ≤ 22

pub above_next : {n bucket : ℕ} {words : List ℕ} → Above n words bucket → (r : Bool) → EmptyBucket n bucket words r → r ≡ true → Above n words (bucket + 1) × (22 - (bucket + 1) < 22 - bucket)
above_next A false some e = differ (cc)
above_next A true none e = let F = from_next A.from none in (record { top = A.top; from = F; few = A.few }, omega (arith, F.high, A.few))

module _ {layout : Layout} {words : List ℕ} (H : Holds layout words) where
  count_is : bucket_count layout.slots layout.segments ≡ layout.buckets
  count_is = rw H.slots (bucket_count_lem layout.segments layout.buckets H.frontier.linked.fits.whole (omega (arith, H.two)))

  in_range : (b w : ℕ) → 1 ≤ b → InBucket layout.nodes b words w → b ≤ layout.buckets
  in_range b w low i =
      let h = held_bucket H.frontier.linked w i.0 (omega (arith, i.1)) in
      omega (arith, h.1, i.1, count_is)

  pub above_start : Above layout.nodes words 1
  above_start =
      let h = held_bucket H.frontier.linked H.node H.below H.held in
      record {
        top = place_bucket (get_or (places layout.nodes words) H.node 0);
        from = record { low = omega arith; lower = λ b w l k. absurd (omega arith); held = record { node = H.node; holds = (H.below, refl) }; high = h.0 };
        few = omega (arith, h.1, count_is, H.few);
      }

  module _ {bucket : ℕ} (A : Above layout.nodes words bucket) where
    pub above_range : (0 < bucket) × (bucket ≤ bucket_count layout.slots layout.segments)
    above_range =
        let F = A.from in
        (F.low, omega (arith, F.high, in_range A.top F.held.node (omega (arith, F.low, F.high)) F.held.holds, count_is))

    pub above_end : (r : Bool) → EmptyBucket layout.nodes bucket words r → r ≡ false → LowestBucket layout words bucket
    above_end true none e = differ (cc)
    above_end false some e = record { low = A.from.low; high = in_range bucket some.node A.from.low some.holds; some = some; lower = A.from.lower }

-- ---- segments

-- The segments of the bucket below this one are empty, and a node stands in this one or above.
pub record Past (n slots K : ℕ) (words : List ℕ) (bucket k : ℕ) : Type 0 where
  pub last : ℕ
  pub from : From (λ m. InSlot n K (slot_of K bucket m) words) last k
  pub most : last ≤ K
  pub below : slot_of K bucket last < slots

pub past_next : {n slots K bucket k : ℕ} {words : List ℕ} → Past n slots K words bucket k → NoNode (InSlot n K (slot_of K bucket k) words)
    → Past n slots K words bucket (k + 1) × (K - (k + 1) < K - k)
past_next P none = let F = from_next P.from none in (record { last = P.last; from = F; most = P.most; below = P.below }, omega (arith, F.high, P.most))

-- What the test of a slot says.
pub past_none : (n K slot : ℕ) (words : List ℕ) (f : Option Node) → FirstIn n K slot words f → is_some f ≡ false → NoNode (InSlot n K slot words)
past_none n K slot words (Some v) first e = differ (cc)
past_none n K slot words None first e = first

pub past_some : (n K slot : ℕ) (words : List ℕ) (f : Option Node) → FirstIn n K slot words f → is_some f ≡ true → SomeNode (InSlot n K slot words)
past_some n K slot words (Some v) first e = record { node = v.0; holds = first }
past_some n K slot words None first e = differ (cc)

pub past_below : {n slots K bucket k : ℕ} {words : List ℕ} → Past n slots K words bucket k → slot_of K bucket k < slots
past_below P = omega (arith, P.from.low, P.from.high, P.below)

module _ {layout : Layout} {words : List ℕ} {bucket : ℕ} (H : InBucketSome layout words bucket) where
  abbrev K : ℕ
  K = layout.segments

  -- The slot of the node that is known to be there.
  abbrev known : (s : ℕ) × (s < layout.slots) × (slot_bucket K s ≡ bucket) × InSlot layout.nodes K s words H.some.node
  known = bucket_slot H.frontier.linked H.some.node H.some.holds.0 bucket H.low H.some.holds.1

  known_range : ((bucket - 1) * K ≤ known.0) × (known.0 < (bucket - 1) * K + K)
  known_range =
      let r = rw known.2 at (bucket_range K known.0 H.frontier.linked.fits.whole) in
      let e : bucket ≡ suc (bucket - 1) = omega (arith, H.low) in
      let m : bucket * K ≡ suc (bucket - 1) * K = ap (λ (b : ℕ). b * K) e in
      (r.0, omega (arith, r.1))

  pub past_start : Past layout.nodes layout.slots K words bucket 1
  past_start =
      let e : slot_of K bucket (known.0 - (bucket - 1) * K + 1) ≡ known.0 = omega (arith, known_range.0) in
      record {
        last = known.0 - (bucket - 1) * K + 1;
        from = record { low = omega arith; lower = λ m w l k. absurd (omega arith); held = record { node = H.some.node; holds = rw e known.3 }; high = omega arith };
        most = omega (arith, known_range);
        below = omega (arith, e, known.1);
      }

  module _ {k : ℕ} (P : Past layout.nodes layout.slots K words bucket k) where
    pub past_few : (bucket - 1) * K + (k - 1) < 512
    past_few = omega (arith, past_below P, H.frontier.linked.fits.few)

    pub past_end : SomeNode (InSlot layout.nodes K (slot_of K bucket k) words) → LowestSegment layout words bucket k
    past_end some = record {
      slot = record {
        first = H.low;
        last = H.high;
        low = P.from.low;
        high = omega (arith, P.from.high, P.most);
        whole = λ e. let m : (bucket - 1) * K ≡ (layout.buckets - 1) * K = ap (λ (b : ℕ). (b - 1) * K) e in omega (arith, P.from.low, past_below P, H.slots);
      };
      some = some;
      earlier = P.from.lower;
    }
