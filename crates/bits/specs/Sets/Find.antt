-- The smallest member: the first word of the summary that is not 0 tells by its lowest bit of the first word of the bits that is not 0, whose
-- lowest bit is the smallest member. Assumes nothing.
use Rattle.std.specs.Prelude.{◌≡◌, ◌⊎◌, ◌≢◌, List, ℕ, ◌+◌, ◌*◌, ◌/◌, ◌%◌, ◌^◌, ◌≤◌, ◌<◌, get_or}
use Rattle.std.proofs.Common.{ap, ap₂, ◌∙◌, inl, inr, arith}
use Rattle.std.proofs.Math.Arith.{digits_lt, digits_div, digits_mod}
use Rattle.std.specs.Int.Count.{count_trailing_zeros}
use Rattle.bits.specs.Word.{bit}
use Rattle.bits.specs.Word.Laws.{nonzero, lowest_lt, lowest_set, lowest_least}
use Rattle.bits.specs.Sets.{bit_words, summary_words, at, In, Inhabited, BitSet, Smallest}
use Rattle.bits.specs.Sets.Places.{split, word_below, before}

-- ---- the lowest bit of word i of the region at a

module _ (d a i : ℕ) (w : List ℕ) (some : get_or w (a + i) 0 ≢ 0) (low : get_or w (a + i) 0 < 2 ^ d) where
  abbrev lowest : ℕ
  lowest = i * d + count_trailing_zeros d (get_or w (a + i) 0)

  place : count_trailing_zeros d (get_or w (a + i) 0) < d
  place = lowest_lt d (get_or w (a + i) 0) some low

  lowest_marked : at d a w lowest ≡ 1
  lowest_marked =
      ap₂ (λ (j k : ℕ). bit (get_or w (a + j) 0) k) (digits_div i place) (digits_mod i place)
      ∙ lowest_set d (get_or w (a + i) 0) some low

  -- a bit of the region before it stands in an earlier word
  lowest_first : (u : ℕ) → at d a w u ≡ 1 → u < lowest → u / d < i
  lowest_first u e h = go (before d u i (count_trailing_zeros d (get_or w (a + i) 0)) place h)
    where
      go : (u / d < i) ⊎ ((u / d ≡ i) × (u % d < count_trailing_zeros d (get_or w (a + i) 0))) → u / d < i
      go (inl g) = g
      go (inr g) =
          let z : at d a w u ≡ 0 =
          ap (λ (j : ℕ). bit (get_or w (a + j) 0) (u % d)) g.0 ∙ lowest_least d (get_or w (a + i) 0) (u % d) g.1 in
          absurd (omega arith)

-- ---- the summary of a set

module _ {d n bits summary : ℕ} {w : List ℕ} (B : BitSet d n bits summary w) where
  -- the summary tells of the word of a member
  member_told : (u : ℕ) → In d n bits w u → at d summary w (u / d) ≡ 1
  member_told u m =
      B.agree.told (u / d) (word_below d n u B.room.wide m.below)
      (nonzero (get_or w (bits + u / d) 0) (u % d) m.marked)

  member_nonzero : (u : ℕ) → In d n bits w u → get_or w (summary + u / d / d) 0 ≢ 0
  member_nonzero u m = nonzero (get_or w (summary + u / d / d) 0) (u / d % d) (member_told u m)

  -- where the words before j are 0 and the set has a member, j is within the summary
  pub summary_goes_on : Inhabited d n bits w → (j : ℕ) → ((t : ℕ) → t < j → get_or w (summary + t) 0 ≡ 0) → j < summary_words d n
  summary_goes_on I j first = go (split (I.node / d / d) j)
    where
      within : I.node / d / d < summary_words d n
      within =
          word_below d (bit_words d n) (I.node / d) B.room.wide (word_below d n I.node B.room.wide I.member.below)

      go : (I.node / d / d < j) ⊎ (j ≤ I.node / d / d) → j < summary_words d n
      go (inl h) = absurd (member_nonzero I.node I.member (first (I.node / d / d) h))
      go (inr h) = omega (arith, within)

  -- ---- the first word j of the summary that is not 0

  module _ (j : ℕ) (hj : j < summary_words d n) (first : (t : ℕ) → t < j → get_or w (summary + t) 0 ≡ 0)
      (some : get_or w (summary + j) 0 ≢ 0) where
    abbrev word : ℕ
    word = j * d + count_trailing_zeros d (get_or w (summary + j) 0)

    pub word_some : (word < bit_words d n) × (get_or w (bits + word) 0 ≢ 0)
    word_some =
        let low : get_or w (summary + j) 0 < 2 ^ d = B.agree.summary_low j hj in
        B.agree.only word (digits_lt hj (place d summary j w some low)) (lowest_marked d summary j w some low)

    word_first : (u : ℕ) → In d n bits w u → word ≤ u / d
    word_first u m = go (split (u / d) word)
      where
        go : (u / d < word) ⊎ (word ≤ u / d) → word ≤ u / d
        go (inl h) =
            absurd (member_nonzero u m (first (u / d / d)
            (lowest_first d summary j w some (B.agree.summary_low j hj) (u / d) (member_told u m) h)))
        go (inr h) = h

    word_low : get_or w (bits + word) 0 < 2 ^ d
    word_low = B.agree.low word word_some.0

    abbrev least : ℕ
    least = word * d + count_trailing_zeros d (get_or w (bits + word) 0)

    least_marked : at d bits w least ≡ 1
    least_marked = lowest_marked d bits word w word_some.1 word_low

    least_in : In d n bits w least
    least_in = record { below = go (split least n); marked = least_marked }
      where
        go : (least < n) ⊎ (n ≤ least) → least < n
        go (inl h) = h
        go (inr h) =
            let z : at d bits w least ≡ 0 =
            B.agree.over least h (digits_lt word_some.0 (place d bits word w word_some.1 word_low)) in
            absurd (omega (arith, least_marked))

    least_least : (u : ℕ) → In d n bits w u → least ≤ u
    least_least u m = go (split u least)
      where
        go : (u < least) ⊎ (least ≤ u) → least ≤ u
        go (inl h) =
            absurd (omega (arith, word_first u m, lowest_first d bits word w word_some.1 word_low u m.marked h))
        go (inr h) = h

    pub smallest_at : Smallest d n bits w least
    smallest_at = record { member = least_in; least = least_least }
