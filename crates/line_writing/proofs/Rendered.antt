-- A line rendered field by field, and how long it can be. Assumes nothing.
use mathlib.Core.Path.{◌≡◌, refl, sym, ap, ap₂, ◌∙◌}
use mathlib.Core.List.{List, [], ◌∷◌, ◌++◌, append_assoc}
use Prim.Native.Nat.{ℕ, suc, ◌+◌, ◌*◌, ◌≤◌, ◌<◌}
use native.Mathlib.Numerals.{add-one}
use native.Mathlib.Omega.{arith}
use lib.ListN.{length, get_or, take, drop, length-append, take-append-drop}
use lib.Seq.{take-suc, length-take-le, take-length}
use Rattle.fields.specs.Fields.{comma, line_ends, decimal, render_fields, render_line}
use Rattle.fields.proofs.Decimals.{decimal_most}
use Rattle.fields.proofs.Parsing.{ends_length}

fields_parts : (ends values ends' values' : List ℕ) → length ends ≡ length values
    → render_fields (ends ++ ends') (values ++ values') ≡ render_fields ends values ++ render_fields ends' values'
unfolding render_fields
fields_parts [] [] ends' values' e = refl
fields_parts [] (x ∷ values) ends' values' e = absurd (omega arith)
fields_parts (x ∷ ends) [] ends' values' e = absurd (omega arith)
fields_parts (x ∷ ends) (y ∷ values) ends' values' e =
    rw (fields_parts ends values ends' values' (omega arith))
    (sym (append_assoc (decimal y) (x ∷ render_fields ends values) (render_fields ends' values')))

-- The first i fields of a line.
unfoldable pub first_fields : (values : List ℕ) → (i : ℕ) → List ℕ
first_fields values i = render_fields (take i (line_ends comma (length values))) (take i values)

module _ (values : List ℕ) where
  abbrev ends : List ℕ
  ends = line_ends comma (length values)

  pub first_none : first_fields values 0 ≡ []
  unfolding first_fields render_fields
  first_none = refl

  module _ (i : ℕ) where
    same_length : i ≤ length values → 1 ≤ length values → length (take i ends) ≡ length (take i values)
    same_length l some =
        length-take-le i ends (omega (arith, ends_length comma (length values) some)) ∙ sym (length-take-le i values l)

    pub first_next : i < length values
        → first_fields values (i + 1) ≡ first_fields values i ++ (decimal (get_or values i 0) ++ (get_or ends i 0 ∷ []))
    unfolding first_fields render_fields
    first_next l =
        rw (add-one i, take-suc ends i 0 (omega (arith, ends_length comma (length values) (omega arith))), take-suc values i 0 l)
        (fields_parts (take i ends) (take i values) (get_or ends i 0 ∷ []) (get_or values i 0 ∷ []) (same_length (omega arith) (omega arith)))

    -- no more than the whole line
    pub first_within : i ≤ length values → 1 ≤ length values → length (first_fields values i) ≤ length (render_line comma values)
    unfolding first_fields
    first_within l some =
        let whole : render_fields (take i ends ++ drop i ends) (take i values ++ drop i values) ≡ render_line comma values =
        ap₂ render_fields (take-append-drop i ends) (take-append-drop i values) in
        let parts : render_line comma values ≡ render_fields (take i ends) (take i values) ++ render_fields (drop i ends) (drop i values) =
        sym whole ∙ fields_parts (take i ends) (take i values) (drop i ends) (drop i values) (same_length l some) in
        omega (arith, ap length parts, length-append (render_fields (take i ends) (take i values)) (render_fields (drop i ends) (drop i values)))

    pub next_length : i < length values
        → length (first_fields values (i + 1)) ≡ length (first_fields values i) + (length (decimal (get_or values i 0)) + 1)
    next_length l =
        let last = get_or ends i 0 ∷ [] in
        omega (
          arith,
          ap length (first_next l),
          length-append (first_fields values i) (decimal (get_or values i 0) ++ last),
          length-append (decimal (get_or values i 0)) last,
        )

  pub first_all : (i : ℕ) → i ≡ length values → first_fields values i ≡ render_line comma values
  unfolding first_fields render_fields
  first_all i e = rw e (go values)
    where
      go : (values : List ℕ) → render_fields (take (length values) (line_ends comma (length values))) (take (length values) values) ≡ render_line comma values
      go [] = refl
      go (value ∷ values) =
          let long = ends_length comma (suc (length values)) (omega arith) in
          let all : take (suc (length values)) (line_ends comma (suc (length values))) ≡ line_ends comma (suc (length values)) =
          ap (λ (k : ℕ). take k (line_ends comma (suc (length values)))) (sym long) ∙ take-length (line_ends comma (suc (length values))) in
          rw (all, take-length (value ∷ values)) refl

-- A field takes 21 bytes at the most.
fields_most : (ends values : List ℕ) → length (render_fields ends values) ≤ 21 * length values
unfolding render_fields
fields_most [] values = omega arith
fields_most (end ∷ ends) [] = omega arith
fields_most (end ∷ ends) (value ∷ values) =
    omega (arith, length-append (decimal value) (end ∷ render_fields ends values), decimal_most value, fields_most ends values)

pub line_most : (values : List ℕ) → length (render_line comma values) ≤ 21 * length values
line_most values = fields_most (line_ends comma (length values)) values
