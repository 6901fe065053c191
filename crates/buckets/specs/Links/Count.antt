-- The count words: `count_in` and `count_out` change one of them, and with `link` and `unlink` after them every count is right again.
-- Assumes nothing.
use Rattle.std.specs.Prelude.{◌≡◌, refl, ◌≢◌, List, ℕ, ◌+◌, ◌*◌, ◌-◌, ◌≤◌, ◌<◌, length, get_or, set}
use Rattle.std.proofs.Common.{sym, ap, ◌∙◌, subst, inl, inr, arith, length-set, get_or-set_same, get_or-set_other}
use Rattle.std.proofs.Math.Decide.{ℕ_discrete, dec_lt}
use Rattle.buckets.specs.Tally.{tally}
use Rattle.buckets.specs.Tally.Laws.{tally_leave, tally_enter, tally_stay, tally_le, tally_some}
use Rattle.buckets.specs.Words.{slot_bucket, place_word, place_bucket, Held, Free, places, bucket_count, count_at, recount, owned, Ours, Other, WordsFit}
use Rattle.buckets.specs.Words.Laws.{named_bucket, count_words_lem, no_count_words, count_low, recount_cases, place_word_lem, places_length, places_same}
use Rattle.buckets.specs.Links.{Chains, Counted, Linked, Relinked, Moved}
use Rattle.buckets.specs.Links.Chain.{chains_same}

module _ {n slots segments : ℕ} {words : List ℕ} (L : Linked n slots segments words) where
  size : (v : ℕ) → v < n → v < length (places n words)
  size v h = omega (arith, places_length n words (omega (arith, L.fits.long)))

  right : (bucket : ℕ) → 0 < bucket → bucket ≤ bucket_count slots segments → 1 < segments
      → get_or words (count_at n slots bucket) 0 ≡ tally place_bucket bucket (places n words)
  right bucket hb hc more = L.counted bucket hb (omega (arith, count_words_lem slots segments more))

  -- ---- one count word changes

  module _ (bucket count : ℕ) (hb : 0 < bucket) (hc : bucket ≤ bucket_count slots segments)
      {words₁ : List ℕ} (is : words₁ ≡ recount n slots segments bucket count words) where
    ways : (P : List ℕ → Type 0) → (1 < segments → P (set words (count_at n slots bucket) count)) → (segments ≤ 1 → P words) → P words₁
    ways P more one = subst P (sym is) (recount_cases n slots segments bucket count words P more one)

    recount_length : length words₁ ≡ length words
    recount_length =
        ways (λ l. length l ≡ length words) (λ h. length-set words (count_at n slots bucket) count) (λ h. refl)

    recount_other : (j : ℕ) → j ≢ count_at n slots bucket → get_or words₁ j 0 ≡ get_or words j 0
    recount_other j d =
        ways (λ l. get_or l j 0 ≡ get_or words j 0) (λ h. get_or-set_other words (count_at n slots bucket) j count 0 d) (λ h. refl)

    recount_here : 1 < segments → get_or words₁ (count_at n slots bucket) 0 ≡ count
    recount_here more =
        ways (λ l. get_or l (count_at n slots bucket) 0 ≡ count)
        (λ h. get_or-set_same words (count_at n slots bucket) count 0 (count_low L.fits bucket hc h))
        (λ h. absurd (omega arith))

    -- the caller's words are as they were, though they begin at the counts where there are none
    recount_same : (j : ℕ) → Other n (owned slots segments) j → get_or words₁ j 0 ≡ get_or words j 0
    recount_same j o =
        ways (λ l. get_or l j 0 ≡ get_or words j 0)
        (λ h. get_or-set_other words (count_at n slots bucket) j count 0 (off h o)) (λ h. refl)
      where
        off : 1 < segments → Other n (owned slots segments) j → j ≢ count_at n slots bucket
        off h (inl o) = omega arith
        off h (inr o) = omega (arith, count_words_lem slots segments h)

    recounted : WordsFit n slots segments (length words₁) × Chains n slots segments words₁ × (places n words₁ ≡ places n words)
    recounted = (
      subst (λ (k : ℕ). WordsFit n slots segments k) (sym recount_length) L.fits,
      chains_same L.chains (λ j o. recount_other j (off j o)),
      places_same n words words₁ (omega (arith, L.fits.long)) recount_length (λ v h. recount_other (2 * n + v) (omega arith)),
    )
      where
        off : (j : ℕ) → Ours n slots j → j ≢ count_at n slots bucket
        off j (inl o) = omega arith
        off j (inr o) = omega arith

    -- what `link` and `unlink` ask of the words
    ready : (P : ℕ → Type 0) (v : ℕ) → P (get_or (places n words) v 0)
        → WordsFit n slots segments (length words₁) × Chains n slots segments words₁ × P (get_or (places n words₁) v 0)
    ready P v p =
        (recounted.0, recounted.1, subst (λ (l : List ℕ). P (get_or l v 0)) (sym recounted.2) p)

    -- a count that is right for the place words after a move of v, between that bucket and none
    module _ (v x : ℕ) (hv : v < n) (now : 1 < segments → tally place_bucket bucket (set (places n words) v x) ≡ count)
        (apart : (other : ℕ) → 0 < other → other ≢ bucket → (place_bucket (get_or (places n words) v 0) ≢ other) × (place_bucket x ≢ other)) where
      counted : Counted n slots segments words₁ (set (places n words) v x)
      counted other ho hw = go (dec_lt 1 segments) (ℕ_discrete other bucket)
        where
          go : Dec (1 < segments) → Dec (other ≡ bucket)
              → get_or words₁ (count_at n slots other) 0 ≡ tally place_bucket other (set (places n words) v x)
          go (no m) d = absurd (omega (arith, no_count_words slots segments (omega arith)))
          go (yes m) (yes e) =
              ap (λ (k : ℕ). get_or words₁ (count_at n slots k) 0) e ∙ recount_here m ∙ sym (now m)
              ∙ ap (λ (k : ℕ). tally place_bucket k (set (places n words) v x)) (sym e)
          go (yes m) (no d) =
              recount_other (count_at n slots other) (omega arith) ∙ L.counted other ho hw
              ∙ sym (tally_stay place_bucket other (places n words) v x (size v hv) (apart other ho d).0 (apart other ho d).1)

      moved : {words₂ : List ℕ} → Relinked n slots segments words₁ words₂ v x → Moved n slots segments words words₂ v x
      moved {words₂} R =
          let same_length : length words₂ ≡ length words = R.kept.same_length ∙ recount_length in
          let place : places n words₂ ≡ set (places n words) v x = R.place ∙ ap (λ (l : List ℕ). set l v x) recounted.2 in
          record {
            linked = record {
              fits = subst (λ (k : ℕ). WordsFit n slots segments k) (sym same_length) L.fits;
              chains = R.chains;
              counted = λ other ho hw.
                  R.kept.same (count_at n slots other) (inr (omega arith))
                  ∙ counted other ho hw
                  ∙ ap (λ (l : List ℕ). tally place_bucket other l) (sym place);
            };
            place = place;
            kept = record { same_length = same_length; same = λ j o. R.kept.same j (wider j o) ∙ recount_same j o };
          }
        where
          wider : (j : ℕ) → Other n (owned slots segments) j → Other n slots j
          wider j (inl o) = inl o
          wider j (inr o) = inr (omega arith)

  -- ---- a node comes into a bucket

  module _ (bucket : ℕ) (hb : 0 < bucket) (hc : bucket ≤ bucket_count slots segments) where
    -- a count is at most the number of nodes
    pub count_le : 1 < segments → get_or words (count_at n slots bucket) 0 ≤ n
    count_le more =
        omega (
          arith,
          right bucket hb hc more,
          tally_le place_bucket bucket (places n words),
          places_length n words (omega (arith, L.fits.long)),
        )

    module _ (v : ℕ) (free : Free (get_or (places n words) v 0)) {words₁ : List ℕ}
        (is : words₁ ≡ recount n slots segments bucket (get_or words (count_at n slots bucket) 0 + 1) words) where
      pub put_ready : WordsFit n slots segments (length words₁) × Chains n slots segments words₁ × Free (get_or (places n words₁) v 0)
      put_ready = ready bucket (get_or words (count_at n slots bucket) 0 + 1) hb hc is Free v free

      pub put_moved : (s : ℕ) {words₂ : List ℕ} → v < n → s < slots → bucket ≡ slot_bucket segments s
          → Relinked n slots segments words₁ words₂ v (place_word segments s) → Moved n slots segments words words₂ v (place_word segments s)
      put_moved s hv hs of R =
          let few : slots < 512 = L.fits.few in
          moved bucket (get_or words (count_at n slots bucket) 0 + 1) hb hc is v (place_word segments s) hv
          (λ more.
          omega (
            arith,
            right bucket hb hc more,
            tally_enter place_bucket bucket (places n words) v (place_word segments s) (size v hv) (omega arith) (omega arith),
          ))
          (λ other ho d. omega arith)
          R

  -- ---- a node leaves its bucket

  module _ (v : ℕ) (hv : v < n) (held : Held (get_or (places n words) v 0)) where
    -- the bucket that v is in
    abbrev from : ℕ
    from = place_bucket (get_or words (2 * n + v) 0)

    pub from_bucket : (0 < from) × (from ≤ bucket_count slots segments)
    from_bucket =
        let b = named_bucket L.fits.few L.fits.whole (L.chains.named v hv (omega (arith, place_word_lem n words v hv))) in
        (b.0, b.1)

    from_place : place_bucket (get_or (places n words) v 0) ≡ from
    from_place = ap place_bucket (place_word_lem n words v hv)

    pub count_some : 1 < segments → 0 < get_or words (count_at n slots from) 0
    count_some more =
        omega (
          arith,
          right from from_bucket.0 from_bucket.1 more,
          tally_some place_bucket from (places n words) v (size v hv) from_place,
        )

    module _ {words₁ : List ℕ} (is : words₁ ≡ recount n slots segments from (get_or words (count_at n slots from) 0 - 1) words) where
      pub take_ready : WordsFit n slots segments (length words₁) × Chains n slots segments words₁ × Held (get_or (places n words₁) v 0)
      take_ready =
          ready from (get_or words (count_at n slots from) 0 - 1) from_bucket.0 from_bucket.1 is Held v held

      pub take_before : get_or words₁ (n + v) 0 ≡ get_or words (n + v) 0
      take_before =
          recount_other from (get_or words (count_at n slots from) 0 - 1) from_bucket.0 from_bucket.1 is (n + v) (omega arith)

      pub take_moved : {words₂ : List ℕ} → Relinked n slots segments words₁ words₂ v 0 → Moved n slots segments words words₂ v 0
      take_moved R =
          moved from (get_or words (count_at n slots from) 0 - 1) from_bucket.0 from_bucket.1 is v 0 hv
          (λ more.
          omega (
            arith,
            right from from_bucket.0 from_bucket.1 more,
            tally_leave place_bucket from (places n words) v 0 (size v hv) from_place (omega (arith, from_bucket.0)),
          ))
          (λ other ho d. (λ e. d (sym e ∙ from_place), omega arith))
          R
