-- The lines up to the `p` line, one line at a time. Assumes nothing.
use Prim.Native.Nat.{ℕ, ◌+◌, ◌≤◌, ◌<◌, max}
use native.Mathlib.Omega.{arith}
use native.Mathlib.Numerals.{add-one}
use mathlib.Core.Path.{◌≡◌, refl, sym, ◌∙◌, ap}
use mathlib.Core.List.{List}
use lib.ListN.{length, drop}
use Rattle.std.specs.Prelude.{Option, Some, None, Ok, Err}
use Rattle.model.specs.Answers.{fault_of}
use Rattle.model.specs.declared.Kind.TheVariants.{RoadForm, RoadOrder}
use Rattle.dimacs_lines.specs.declared.RoadLine.{RoadLine}
use Rattle.dimacs_lines.specs.declared.Told.{Told}
use Rattle.dimacs_lines.specs.declared.Told.TheVariants.{Comment, Problem, RoadArc}
use Rattle.dimacs_lines.specs.Lines.{road_line, line_and_behind, road_lines}
use Rattle.dimacs_lines.proofs.Behind.{lines_at, lines_end, line_some, line_within}
use Rattle.dimacs_checks.specs.Checking.{Heading, heading_at, heading_from, road_heading}
use Rattle.dimacs_checks.specs.Finding.{ProblemFound}

module _ (bytes : List ℕ) where
  -- `line` comments take the bytes before `at`
  pub record Searched (at line : ℕ) : Type 0 where
    pub passed : line ≤ at
    pub within : at ≤ length bytes
    pub same : road_heading bytes ≡ heading_from line (road_lines (drop at bytes))

  pub searched_start : Searched 0 0
  searched_start = record { passed = omega arith; within = omega arith; same = refl }

  module _ {at line : ℕ} (S : Searched at line) where
    pub searched_end : length bytes ≤ at → ProblemFound bytes (Err (fault_of RoadOrder (max line 1)))
    unfolding heading_from
    searched_end l = record { told = sym (S.same ∙ rw (lines_end bytes at l)); within = tt }

    -- the lines left, by the first of them
    searched_first : {found : Option RoadLine} → at < length bytes → road_line (drop at bytes) ≡ found
        → road_heading bytes ≡ heading_from line (line_and_behind found (λ taken. road_lines (drop (at + taken) bytes)))
    searched_first l e = S.same ∙ ap (heading_from line) (lines_at bytes at l ∙ rw e refl)

    pub searched_ill : at < length bytes → road_line (drop at bytes) ≡ None → ProblemFound bytes (Err (fault_of RoadForm (line + 1)))
    unfolding heading_from
    searched_ill l e = record { told = rw add-one (sym (searched_first l e)); within = tt }

    module _ {found : RoadLine} (l : at < length bytes) (e : road_line (drop at bytes) ≡ Some found) where
      abbrev heading_by : Told → Heading
      heading_by told =
          let behind = road_lines (drop (at + found.taken) bytes) in
          heading_at told (line + 1) behind (heading_from (line + 1) behind)

      by_kind : {told : Told} → found.told ≡ told → heading_by told ≡ road_heading bytes
      unfolding heading_from
      by_kind f = rw add-one (sym (searched_first l e ∙ rw f))

      pub searched_arc : {tail head cost : ℕ} → found.told ≡ RoadArc tail head cost → ProblemFound bytes (Err (fault_of RoadOrder (line + 1)))
      searched_arc f = record { told = by_kind f; within = tt }

      pub searched_problem : {nodes arcs : ℕ} → found.told ≡ Problem nodes arcs
          → ProblemFound bytes (Ok (record { nodes = nodes; arcs = arcs; at = at + found.taken; line = line + 1 }))
      searched_problem f = record {
        told = by_kind f;
        within = (omega (arith, S.passed, line_some (drop at bytes) e), line_within bytes at S.within e);
      }

      pub searched_next : found.told ≡ Comment → Searched (at + found.taken) (line + 1)
      searched_next f = record {
        passed = omega (arith, S.passed, line_some (drop at bytes) e);
        within = line_within bytes at S.within e;
        same = sym (by_kind f);
      }
