-- The lines that `routes` prints, piece by piece, and how many bytes each takes at the most. Assumes nothing.
use mathlib.Core.Path.{◌≡◌, refl, sym, ap, ◌∙◌}
use mathlib.Core.Logic.{inl, inr}
use mathlib.Core.List.{List, [], ◌∷◌, ◌++◌, append_assoc, append-nil}
use Prim.Native.Nat.{ℕ, zero, suc, ◌-◌, ◌*◌, ◌^◌, ◌/◌, ◌≤◌, ◌<◌}
use native.Mathlib.Omega.{arith}
use lib.ListN.{length, get_or, take, replicate, length-append}
use lib.Seq.{length-take-le, get_or-take, append_snoc, take-suc}
use borrow.Author.Tests.{eq-eqb, ne_eqb}
use Rattle.std.specs.Prelude.{Ok}
use Rattle.model.specs.Answers.{words_after}
use Rattle.theory.specs.Maps.{none}
use Rattle.theory.proofs.Cases.{same?}
use Rattle.fields.specs.Fields.{comma, line_feed, decimal_by, decimal, render_fields, render_line}
use Rattle.fields.proofs.Decimals.{by_digits, one_digit, tenth_length, tenth_below}
use Rattle.itineraries.specs.Itineraries.{route_line, line_if_reached, route_lines, words_if_reached, route_fields, behind_commas, Few}

-- ---- digits

-- A number below a power of ten has no more digits than the power has zeros.
digits_few : (places power value : ℕ) → value < 10 ^ suc power → length (decimal_by places value) ≤ suc power
unfolding decimal_by
digits_few zero power value l = omega arith
digits_few (suc places) power value l = elim (by_digits value) [
  | inl m ↦ omega (arith, ap length (one_digit (suc places) value m))
  | inr m ↦ more power l m (digits_few places)
]
  where
    more : (power : ℕ) → value < 10 ^ suc power → 10 ≤ value → ((power value : ℕ) → value < 10 ^ suc power → length (decimal_by places value) ≤ suc power)
        → length (decimal_by (suc places) value) ≤ suc power
    more zero l m few = absurd (omega arith)
    more (suc power) l m few = omega (arith, tenth_length places value m, few power (value / 10) (tenth_below (suc power) value l))

node_most : (value : ℕ) → value < 1000 → length (decimal value) ≤ 3
node_most value l = digits_few 19 2 value (omega arith)

pub field_most : (value : ℕ) → value < 1000 → length (decimal value ++ (comma ∷ [])) ≤ 4
field_most value l = omega (arith, length-append (decimal value) (comma ∷ []), node_most value l)

pub word_most : (value : ℕ) → value < 4294967296 → length (decimal value) ≤ 10
word_most value l = digits_few 19 9 value (omega arith)

-- ---- numbers behind commas

pub commas_none : behind_commas [] ≡ []
unfolding behind_commas
commas_none = refl

commas_snoc : (values : List ℕ) (value : ℕ) → behind_commas values ++ (comma ∷ decimal value) ≡ behind_commas (values ++ (value ∷ []))
unfolding behind_commas
commas_snoc [] value = sym (append-nil (comma ∷ decimal value))
commas_snoc (first ∷ values) value =
    append_assoc (comma ∷ decimal first) (behind_commas values) (comma ∷ decimal value)
    ∙ ap (λ (l : List ℕ). (comma ∷ decimal first) ++ l) (commas_snoc values value)

pub commas_next : (nodes : List ℕ) (i : ℕ) → i < length nodes
    → behind_commas (take i nodes) ++ (comma ∷ []) ++ decimal (get_or nodes i 0) ≡ behind_commas (take (suc i) nodes)
commas_next nodes i l =
    append_snoc (behind_commas (take i nodes)) comma (decimal (get_or nodes i 0)) ∙ commas_snoc (take i nodes) (get_or nodes i 0)
    ∙ ap behind_commas (sym (take-suc nodes i 0 l))

pub commas_most : (values : List ℕ) → ((i : ℕ) → i < length values → get_or values i 0 < 1000) → length (behind_commas values) ≤ 4 * length values
unfolding behind_commas
commas_most [] small = omega arith
commas_most (value ∷ values) small = omega (
  arith,
  length-append (comma ∷ decimal value) (behind_commas values),
  node_most value (small 0 (omega arith)),
  commas_most values (λ i l. small (suc i) (omega arith)),
)

-- The first of a line's nodes.
pub first_most : (nodes : List ℕ) → Few nodes → (i : ℕ) → i ≤ length nodes → length (behind_commas (take i nodes)) ≤ 4 * i
first_most nodes few i l =
    let count = length-take-le i nodes l in
    omega (arith, count, commas_most (take i nodes) (λ j m. rw (get_or-take i nodes j 0 (omega (arith, count))) (few.small j (omega (arith, count)))))

-- ---- a line

-- A line of fields is its first number, the others behind commas, and the line feed.
fields_parted : (value : ℕ) (values : List ℕ)
    → render_fields (replicate (length values) comma ++ (line_feed ∷ [])) (value ∷ values) ≡ decimal value ++ (behind_commas values ++ (line_feed ∷ []))
unfolding render_fields behind_commas
fields_parted value [] = refl
fields_parted value (second ∷ values) =
    ap (λ (l : List ℕ). decimal value ++ (comma ∷ l))
    (fields_parted second values ∙ sym (append_assoc (decimal second) (behind_commas values) (line_feed ∷ [])))

line_parted : (value : ℕ) (values : List ℕ) → render_line comma (value ∷ values) ≡ decimal value ++ (behind_commas values ++ (line_feed ∷ []))
line_parted value values =
    let e : suc (length values) - 1 ≡ length values = omega arith in
    rw e (fields_parted value values)

pub line_whole : (v distance : ℕ) (nodes : List ℕ)
    → decimal v ++ (comma ∷ []) ++ decimal distance ++ behind_commas nodes ++ (line_feed ∷ []) ≡ route_line v distance nodes
unfolding route_line behind_commas
line_whole v distance nodes = rw (line_parted v (distance ∷ nodes)) (simp append_assoc)

pub line_most : (v distance : ℕ) (nodes : List ℕ) → v < 1000 → distance < 4294967296 → Few nodes → length (route_line v distance nodes) ≤ 2064
line_most v distance nodes node word few = omega (
  arith,
  ap length (line_whole v distance nodes),
  length-append (decimal v ++ (comma ∷ []) ++ decimal distance ++ behind_commas nodes) (line_feed ∷ []),
  length-append (decimal v ++ (comma ∷ []) ++ decimal distance) (behind_commas nodes),
  length-append (decimal v ++ (comma ∷ [])) (decimal distance),
  length-append (decimal v) (comma ∷ []),
  node_most v node,
  word_most distance word,
  commas_most nodes few.small,
  few.count,
)

-- ---- a node that is reached, or not

module _ (v distance : ℕ) (nodes : List ℕ) where
  pub unreached_line : distance ≡ none → [] ≡ line_if_reached v distance nodes
  unfolding line_if_reached
  unreached_line e = rw (eq-eqb distance none e)

  pub reached_line : (distance ≡ none → ⊥) → route_line v distance nodes ≡ line_if_reached v distance nodes
  unfolding line_if_reached
  reached_line q = rw (ne_eqb distance none q)

  pub unreached_words : (words : List ℕ) → distance ≡ none → words ≡ words_if_reached distance nodes words
  unfolding words_if_reached
  unreached_words words e = rw (eq-eqb distance none e)

  pub reached_words : (words : List ℕ) → (distance ≡ none → ⊥) → words_after (Ok tt) nodes words ≡ words_if_reached distance nodes words
  unfolding words_if_reached
  reached_words words q = rw (ne_eqb distance none q)

  if_reached_most : v < 1000 → distance < 4294967296 → ((distance ≡ none → ⊥) → Few nodes) → length (line_if_reached v distance nodes) ≤ 2064
  if_reached_most node word few = elim (same? distance none) [
    | inl e ↦ omega (arith, ap length (unreached_line e))
    | inr q ↦ omega (arith, ap length (reached_line q), line_most v distance nodes node word (few q))
  ]

-- ---- the lines

pub lines_next : (v : ℕ) (distances : List ℕ) (routes : ℕ → List ℕ)
    → route_lines v distances routes ++ line_if_reached v (get_or distances v 0) (routes v) ≡ route_lines (suc v) distances routes
unfolding route_lines
lines_next v distances routes = refl

pub words_next : (v : ℕ) (distances : List ℕ) (routes : ℕ → List ℕ) (words : List ℕ)
    → words_if_reached (get_or distances v 0) (routes v) (route_fields v distances routes words) ≡ route_fields (suc v) distances routes words
unfolding route_fields
words_next v distances routes words = refl

pub lines_most : (n : ℕ) (distances : List ℕ) (routes : ℕ → List ℕ) → n ≤ 1000 → ((v : ℕ) → get_or distances v 0 < 4294967296)
    → ((v : ℕ) → v < n → (get_or distances v 0 ≡ none → ⊥) → Few (routes v)) → length (route_lines n distances routes) ≤ 2064 * n
unfolding route_lines
lines_most zero distances routes h word few = omega arith
lines_most (suc v) distances routes h word few = omega (
  arith,
  length-append (route_lines v distances routes) (line_if_reached v (get_or distances v 0) (routes v)),
  lines_most v distances routes (omega arith) word (λ w l. few w (omega arith)),
  if_reached_most v (get_or distances v 0) (routes v) (omega arith) (word v) (few v (omega arith)),
)
