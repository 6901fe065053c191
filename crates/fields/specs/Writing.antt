-- Bytes written into a lent buffer at a place (document 01, "Planning file").
use Rattle.std.specs.Prelude.{ℕ, ◌+◌, ◌≤◌, ◌≡◌, List, ◌++◌, length, take, drop}

-- A buffer once bytes were written at a place of it: what stood before the place and behind the bytes is as it was.
unfoldable pub written : (at : ℕ) → (bytes buffer : List ℕ) → List ℕ
written at bytes buffer = take at buffer ++ bytes ++ drop (at + length bytes) buffer

-- Bytes that fit the buffer were written at a place of it, and the place behind them is given back.
pub record Writes (at : ℕ) (bytes before after : List ℕ) (next : ℕ) : Type 0 where
  pub told : after ≡ written at bytes before
  pub behind : next ≡ at + length bytes
  pub fits : at + length bytes ≤ length before
