-- Numbers 6, 7 and 20, each of which looks at every word of one list (document 01, "What a call returns"; document 02, paper 2).
use Rattle.std.specs.Prelude.{ℕ, zero, suc, ◌+◌, ◌-◌, ◌≤◌, ◌<◌, Bool, cond, not, ◌&&◌, ◌||◌, List, ltb, leb, eqb, length, get_or, Option, None, Some, Ok, Err}
use Rattle.model.specs.Answers.{Check, fault_of}
use Rattle.model.specs.declared.Kind.{Kind}
use Rattle.model.specs.declared.Kind.TheVariants.{Starts, Head, Hold}

-- ---- what the checks are made of

-- A test of each index, `left` of them from i on: the least that fails (document 01, "What a call returns").
unfoldable pub least_failing : (fails : ℕ → Bool) → (i left : ℕ) → Option ℕ
least_failing fails i zero = None
least_failing fails i (suc left) = cond (fails i) (Some i) (least_failing fails (suc i) left)

-- The same test: the least index that fails is the place (document 01, "What a call returns").
unfoldable pub least_fault : Kind → (fails : ℕ → Bool) → (i left : ℕ) → Check
least_fault kind fails i zero = Ok tt
least_fault kind fails i (suc left) = cond (fails i) (Err (fault_of kind i)) (least_fault kind fails (suc i) left)

-- The word at index i is above a limit (document 01, "What a call returns").
abbrev pub word_above : (limit : ℕ) → (words : List ℕ) → (i : ℕ) → Bool
word_above limit words i = ltb limit (get_or words i 0)

-- A limit for each word: the least index of a word above it is the place (document 01, "What a call returns").
abbrev pub above_check : Kind → (limit : ℕ) → (words : List ℕ) → Check
above_check kind limit words = least_fault kind (word_above limit words) 0 (length words)

-- ---- one definition for each number

-- 6 at index i: first not 0; one below its predecessor or above m; last not m (document 01, "What a call returns").
unfoldable pub start_fails : (n m : ℕ) → (starts : List ℕ) → (i : ℕ) → Bool
start_fails n m starts i =
    eqb i 0 && not (eqb (get_or starts i 0) 0)
    || ltb 0 i && ltb (get_or starts i 0) (get_or starts (i - 1) 0)
    || ltb m (get_or starts i 0)
    || eqb i n && not (eqb (get_or starts i 0) m)

-- 6: the least such index of 0 to n (document 01, "What a call returns").
unfoldable pub starts_check : (n m : ℕ) → (starts : List ℕ) → Check
starts_check n m starts = least_fault Starts (start_fails n m starts) 0 (n + 1)

-- 7: the least arc whose head is not below n (document 01, "What a call returns").
unfoldable pub heads_check : (n : ℕ) → (heads : List ℕ) → Check
heads_check n heads = least_fault Head (λ a. leb n (get_or heads a 0)) 0 (length heads)

-- 20: not a hold for each of n nodes, with place 0; or the least node whose hold is above C (document 02, paper 2).
unfoldable pub holds_check : (n C : ℕ) → (holds : List ℕ) → Check
holds_check n C holds = cond (eqb (length holds) n) (above_check Hold C holds) (Err (fault_of Hold 0))

-- ---- what a pass over a list shows where it finds nothing

-- No word is above the limit: heads pass 7, holds pass 20 (document 01, "What a call returns"; document 02, paper 2).
abbrev pub NoneAbove : (limit : ℕ) → List ℕ → Type 0
NoneAbove limit words = (i : ℕ) → i < length words → get_or words i 0 ≤ limit

-- No word is below its predecessor, as 6 asks of starts (document 01, "What a call returns").
abbrev pub NoneFalls : List ℕ → Type 0
NoneFalls words = (i : ℕ) → i < length words → 0 < i → get_or words (i - 1) 0 ≤ get_or words i 0
