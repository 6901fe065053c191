-- A turn of a loop that copies words to the front of a list. Assumes nothing.
use Rattle.std.proofs.Common.{◌≡◌, ℕ, ◌+◌, ◌<◌, List, length, get_or, sym, ap, ◌∙◌, arith, zero-add}
use Rattle.std.proofs.Math.ListN.{set}
use Rattle.std.proofs.Math.Seq.{paste}
use Rattle.std.proofs.lemmas.List.Edits.{paste_more}

pub copied_more : (list words : List ℕ) (i : ℕ) → i < length list → i < length words
    → set (paste list 0 words i) i (get_or words i 0) ≡ paste list 0 words (i + 1)
copied_more list words i room h =
    ap (λ (k : ℕ). set (paste list 0 words i) k (get_or words i 0)) (sym (zero-add i)) ∙ paste_more list 0 words i 0 (omega arith) h
