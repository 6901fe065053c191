-- A line read field by field: what is known after i fields. Assumes nothing.
use Prim.Native.Nat.{ℕ, suc, ◌+◌, ◌-◌, ◌≤◌, ◌<◌}
use native.Mathlib.Omega.{arith}
use native.Mathlib.Numerals.{add-one}
use mathlib.Core.Path.{◌≡◌, refl, sym, ◌∙◌, ap, subst}
use mathlib.Core.List.{List, [], ◌∷◌, ◌++◌}
use lib.ListN.{length, get_or, take, drop, set, replicate, length-set, take-append-drop, length-replicate, get_or-append, get_or-replicate}
use lib.Seq.{drop-cons, drop-drop, take-suc-set, append_snoc, drop-set-lt, drop-length, get_or-append_seam}
use Rattle.fields.specs.declared.Field.{Field}
use Rattle.std.specs.Prelude.{Option, None, Some}
use Rattle.fields.specs.Fields.{field, Line, NoLine, Numbers, joined, followed, fields, line_feed, line_ends, line}
use Rattle.fields.specs.Reading.{line_taken, value_into, fields_into}
use Rattle.fields.proofs.Parsing.{ends_length}
use Rattle.fields.proofs.Lines.{behind_within}

-- ---- what ends each field

pub separator_ends : (separator count i : ℕ) → i + 1 < count → separator ≡ get_or (line_ends separator count) i 0
separator_ends separator count i l =
    sym (get_or-append (replicate (count - 1) separator) (line_feed ∷ []) 0 i (omega (arith, length-replicate (count - 1) separator)) ∙ get_or-replicate (count - 1) i separator 0 (omega arith))

pub feed_ends : (separator count i : ℕ) → i < count → count ≤ i + 1 → line_feed ≡ get_or (line_ends separator count) i 0
feed_ends separator count i l h =
    let last : length (replicate (count - 1) separator) ≡ i = length-replicate (count - 1) separator ∙ omega arith in
    sym (subst (λ (k : ℕ). get_or (replicate (count - 1) separator ++ (line_feed ∷ [])) k 0 ≡ line_feed) last (get_or-append_seam (replicate (count - 1) separator) line_feed [] 0))

-- ---- bytes taken before and behind

abbrev further : (before : ℕ) → Option ℕ → Option ℕ
further before None = None
further before (Some taken) = Some (before + taken)

further_none : (read : Option ℕ) → read ≡ further 0 read
further_none None = refl
further_none (Some taken) = let e : 0 + taken ≡ taken = omega arith in ap Some (sym e)

further_twice : (a b : ℕ) (read : Option ℕ) → further a (further b read) ≡ further (a + b) read
further_twice a b None = refl
further_twice a b (Some taken) = let e : a + (b + taken) ≡ a + b + taken = omega arith in ap Some e

taken_joined : (value taken : ℕ) (behind : Line) → line_taken (joined value taken behind) ≡ further taken (line_taken behind)
taken_joined value taken NoLine = refl
taken_joined value taken (Numbers values more) = refl

-- ---- after i fields

module _ (separator count : ℕ) (bytes : List ℕ) (at : ℕ) (words₀ : List ℕ) where
  abbrev ends : List ℕ
  ends = line_ends separator count

  pub record ReadTo (words : List ℕ) (next i : ℕ) : Type 0 where
    pub some : 1 ≤ count
    pub start : at ≤ next
    pub within : next ≤ length bytes
    pub few : i ≤ count
    pub room : length words ≡ count
    pub taken : line_taken (fields ends (drop at bytes)) ≡ further (next - at) (line_taken (fields (drop i ends) (drop next bytes)))
    pub filled : fields_into ends (drop at bytes) words₀ ≡ take i words ++ fields_into (drop i ends) (drop next bytes) (drop i words)

  pub read_start : 1 ≤ count → at ≤ length bytes → length words₀ ≡ count → ReadTo words₀ at 0
  read_start s h e = record {
    some = s;
    start = omega arith;
    within = h;
    few = omega arith;
    room = e;
    taken = let z : at - at ≡ 0 = omega arith in rw z (further_none (line_taken (fields ends (drop at bytes))));
    filled = refl;
  }

  module _ {words : List ℕ} {next i : ℕ} (R : ReadTo words next i) (l : i < count) where
    ends_here : drop i ends ≡ get_or ends i 0 ∷ drop (suc i) ends
    ends_here = drop-cons ends i 0 (omega (arith, ends_length separator count R.some))

    words_here : drop i words ≡ get_or words i 0 ∷ drop (suc i) words
    words_here = drop-cons words i 0 (omega (arith, R.room))

    pub read_missing : {end : ℕ} → end ≡ get_or ends i 0 → field end (drop next bytes) ≡ None
        → (None ≡ line_taken (fields ends (drop at bytes))) × (words ≡ fields_into ends (drop at bytes) words₀)
    unfolding fields fields_into
    read_missing a f = let e = subst (λ (k : ℕ). field k (drop next bytes) ≡ None) a f in (
      sym (R.taken ∙ rw (ends_here, e) refl),
      sym (R.filled ∙ rw (ends_here, words_here, e) (ap (λ (k : List ℕ). take i words ++ k) (sym words_here) ∙ take-append-drop i words)),
    )

    pub read_next : {end : ℕ} {read : Field} → end ≡ get_or ends i 0 → end < 256 → field end (drop next bytes) ≡ Some read → ReadTo (set words i read.value) (next + read.taken) (i + 1)
    unfolding fields fields_into
    read_next {end} {read} a byte f = let e = subst (λ (k : ℕ). field k (drop next bytes) ≡ Some read) a f in record {
      some = R.some;
      start = omega (arith, R.start);
      within = behind_within bytes next end byte R.within f;
      few = omega arith;
      room = length-set words i read.value ∙ R.room;
      taken =
          let sum : next - at + read.taken ≡ next + read.taken - at = omega (arith, R.start) in
          R.taken
          ∙ rw (ends_here, e, drop-drop read.taken next bytes, taken_joined read.value read.taken (fields (drop (suc i) ends) (drop (next + read.taken) bytes)))
          (further_twice (next - at) read.taken (line_taken (fields (drop (suc i) ends) (drop (next + read.taken) bytes))) ∙ rw (sum, add-one) refl);
      filled =
          R.filled
          ∙ rw (ends_here, words_here, e, drop-drop read.taken next bytes, add-one, take-suc-set words i read.value (omega (arith, R.room)), drop-set-lt (suc i) words i read.value (omega arith))
          (sym (append_snoc (take i words) read.value (fields_into (drop (suc i) ends) (drop (next + read.taken) bytes) (drop (suc i) words))));
    }

  pub read_end : {words : List ℕ} {next i : ℕ} → ReadTo words next i → count ≤ i
      → (Some (next - at) ≡ line_taken (fields ends (drop at bytes))) × (words ≡ fields_into ends (drop at bytes) words₀)
  unfolding fields fields_into
  read_end {words} {next} {i} R h =
      let last : i ≡ length ends = omega (arith, R.few, ends_length separator count R.some) in
      let full : drop i ends ≡ [] = ap (λ (k : ℕ). drop k ends) last ∙ drop-length ends in
      let z : next - at + 0 ≡ next - at = omega arith in (
        sym (R.taken ∙ rw full (ap Some z)),
        sym (R.filled ∙ rw full (take-append-drop i words)),
      )

-- ---- the line behind what is given back

pub missing_line : (found : Line) → line_taken found ≡ None → found ≡ NoLine
missing_line NoLine e = refl
missing_line (Numbers values taken) e = absurd (let z : ◌≡◌ {A = ℕ} 0 1 = cc in omega arith)

into_numbers : (ends bytes words values : List ℕ) (taken : ℕ) → length words ≡ length ends → fields ends bytes ≡ Numbers values taken → fields_into ends bytes words ≡ values
unfolding fields fields_into
into_numbers [] bytes [] values taken l e = let same : [] ≡ values = cc in same
into_numbers [] bytes (word ∷ words) values taken l e = absurd (omega arith)
into_numbers (end ∷ ends) bytes [] values taken l e = absurd (omega arith)
into_numbers (end ∷ ends) bytes (word ∷ words) values taken l e = go (field end bytes) e (λ at. into_numbers ends (drop at bytes) words)
  where
    behind : (value at : ℕ) (line : Line) → joined value at line ≡ Numbers values taken → fields ends (drop at bytes) ≡ line
        → ((values : List ℕ) (taken : ℕ) → length words ≡ length ends → fields ends (drop at bytes) ≡ Numbers values taken → fields_into ends (drop at bytes) words ≡ values)
        → value ∷ fields_into ends (drop at bytes) words ≡ values
    behind value at NoLine e f rest = absurd (let z : ◌≡◌ {A = ℕ} 0 1 = cc in omega arith)
    behind value at (Numbers values' more) e f rest =
        let same : value ∷ values' ≡ values = cc in
        ap {B = List ℕ} (λ (k : List ℕ). value ∷ k) (rest values' more (omega arith) f) ∙ same

    go : (found : Option Field) → followed found (λ at. fields ends (drop at bytes)) ≡ Numbers values taken
        → ((at : ℕ) (values : List ℕ) (taken : ℕ) → length words ≡ length ends → fields ends (drop at bytes) ≡ Numbers values taken → fields_into ends (drop at bytes) words ≡ values)
        → value_into found word words (λ at. fields_into ends (drop at bytes) words) ≡ values
    go None e rest = absurd (let z : ◌≡◌ {A = ℕ} 0 1 = cc in omega arith)
    go (Some read) e rest = behind read.value read.taken (fields ends (drop read.taken bytes)) e refl (rest read.taken)

-- A line that is taken has the values that are written.
pub line_read : (separator count : ℕ) (bytes words : List ℕ) {taken : ℕ} → 1 ≤ count → length words ≡ count → line_taken (line separator count bytes) ≡ Some taken
    → line separator count bytes ≡ Numbers (fields_into (line_ends separator count) bytes words) taken
line_read separator count bytes words {taken} some l e = go (line separator count bytes) refl e
  where
    go : (found : Line) → line separator count bytes ≡ found → line_taken found ≡ Some taken → found ≡ Numbers (fields_into (line_ends separator count) bytes words) taken
    go NoLine f e = absurd (let z : ◌≡◌ {A = ℕ} 0 1 = cc in omega arith)
    go (Numbers values taken') f e =
        let same : taken' ≡ taken = cc in
        let into = into_numbers (line_ends separator count) bytes words values taken' (l ∙ sym (ends_length separator count some)) f in
        rw (sym into, same) refl
