-- Lines that are all there: as many arcs or holds as lines were asked for. Assumes nothing.
use Prim.Native.Nat.{ℕ, zero, suc, ◌-◌, ◌≤◌}
use native.Mathlib.Nat.{sub-zero}
use native.Mathlib.Omega.{arith}
use mathlib.Core.Path.{◌≡◌, refl, sym, ◌∙◌, ap}
use mathlib.Core.List.{List, ◌∷◌}
use lib.ListN.{length, drop}
use lib.Seq.{drop-drop}
use Rattle.std.specs.Prelude.{Option, None, Some}
use Rattle.plan_lines.specs.declared.ArcLine.{ArcLine}
use Rattle.plan_lines.specs.declared.HoldLine.{HoldLine}
use Rattle.plan_lines.specs.Lines.{arc_line, hold_line}
use Rattle.plan_lines.specs.Told.{lines_taken, behind_lines, lines_arcs, lines_holds}
use Rattle.plan_lines.proofs.Reach.{taken_next}
use Rattle.plan_lines.proofs.Fields.{hold_line_lem}

-- ---- arcs

module _ (left : ℕ) (bytes : List ℕ) where
  pub arc_there : length (lines_arcs (suc left) bytes) ≡ suc left → arc_line bytes ≡ None → ⊥
  unfolding lines_arcs
  arc_there count e = let none : ◌≡◌ {A = ℕ} 0 (suc left) = rw e at count in omega arith

  pub arcs_next : {line : ArcLine} → arc_line bytes ≡ Some line
      → lines_arcs (suc left) bytes ≡ record { tail = line.tail; head = line.head; cost = line.cost } ∷ lines_arcs left (drop line.taken bytes)
  unfolding lines_arcs
  arcs_next e = rw e

-- ---- holds

module _ (left : ℕ) (bytes : List ℕ) where
  pub hold_there : length (lines_holds (suc left) bytes) ≡ suc left → hold_line bytes ≡ None → ⊥
  unfolding lines_holds
  hold_there count e = let none : ◌≡◌ {A = ℕ} 0 (suc left) = rw e at count in omega arith

  pub holds_next : {line : HoldLine} → hold_line bytes ≡ Some line → lines_holds (suc left) bytes ≡ line.hold ∷ lines_holds left (drop line.taken bytes)
  unfolding lines_holds
  holds_next e = rw e

-- The holds behind k of them are those of the lines behind k lines.
pub holds_behind : (k left : ℕ) (bytes : List ℕ) → length (lines_holds left bytes) ≡ left → k ≤ left
    → drop k (lines_holds left bytes) ≡ lines_holds (left - k) (behind_lines 1 k bytes)
unfolding lines_taken
holds_behind zero left bytes count l = rw sub-zero
holds_behind (suc k) zero bytes count l = absurd (omega arith)
holds_behind (suc k) (suc left) bytes count l = go (hold_line bytes) refl (λ taken. holds_behind k left (drop taken bytes))
  where
    go : (line : Option HoldLine) → hold_line bytes ≡ line
        → ((taken : ℕ) → length (lines_holds left (drop taken bytes)) ≡ left → k ≤ left
        → drop k (lines_holds left (drop taken bytes)) ≡ lines_holds (left - k) (behind_lines 1 k (drop taken bytes)))
        → drop (suc k) (lines_holds (suc left) bytes) ≡ lines_holds (suc left - suc k) (behind_lines 1 (suc k) bytes)
    go None e rest = absurd (hold_there left bytes count e)
    go (Some line) e rest =
        let next = holds_next left bytes e in
        let long : length (lines_holds left (drop line.taken bytes)) ≡ left = omega (arith, ap length next, count) in
        let same : suc left - suc k ≡ left - k = omega arith in
        let place : behind_lines 1 k (drop line.taken bytes) ≡ behind_lines 1 (suc k) bytes =
        drop-drop (lines_taken 1 k (drop line.taken bytes)) line.taken bytes
        ∙ ap (λ (at : ℕ). drop at bytes) (sym (taken_next 1 k bytes (hold_line_lem bytes e))) in
        ap (drop (suc k)) next ∙ rest line.taken long (omega arith) ∙ rw (same, place)
