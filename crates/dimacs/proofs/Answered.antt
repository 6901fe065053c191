-- What the reader promises, from what its passes give. Assumes nothing.
use Prim.Native.Nat.{ℕ, ◌+◌, ◌≤◌}
use native.Mathlib.Omega.{arith}
use mathlib.Core.Path.{◌≡◌, refl, sym, ◌∙◌}
use mathlib.Core.List.{List, [], ◌∷◌, ◌++◌}
use lib.ListN.{length, drop}
use Rattle.std.specs.Prelude.{Ok, Err}
use Rattle.model.specs.declared.Fault.{Fault}
use Rattle.checks.specs.Checks.{first_fault, lent_checks}
use Rattle.checks.proofs.Order.{AllPass, none, more, passed_all}
use Rattle.checks.proofs.Sizes.{passed_heads, passed_lent}
use Rattle.grouping.specs.Filled.{Filled}
use Rattle.dimacs_lines.specs.Lines.{road_lines}
use Rattle.dimacs_checks.specs.Checking.{unheaded, headed, road_heading, problem_checks, lines_check, road_check}
use Rattle.dimacs.specs.Promise.{DimacsPromised}
use Rattle.dimacs.specs.Filling.{arcs_at, RoadFillable}
use Rattle.dimacs.proofs.Passing.{lines_shown}

-- ---- a refusal

module _ (bytes : List ℕ) (C : ℕ) (starts heads costs : List ℕ) where
  pub refused_promised : {fault : Fault} → road_check bytes C (length starts) (length heads) (length costs) ≡ Err fault
      → DimacsPromised bytes C starts heads costs starts heads costs (Err fault)
  refused_promised e = rw e (record { answered = refl; starts_after = refl; heads_after = refl; costs_after = refl })

  pub no_problem_promised : {fault : Fault} → unheaded fault ≡ road_heading bytes
      → DimacsPromised bytes C starts heads costs starts heads costs (Err fault)
  unfolding road_check
  no_problem_promised e = refused_promised (rw (sym e))

-- ---- a file that is read

module _ (bytes : List ℕ) (C : ℕ) (starts heads costs : List ℕ) {n m line : ℕ} (at : ℕ)
    (e : headed n m line (road_lines (drop at bytes)) ≡ road_heading bytes) where
  pub road_check_is : road_check bytes C (length starts) (length heads) (length costs)
      ≡ first_fault (problem_checks n m C (length starts) (length heads) (length costs) ++ (lines_check n m C 0 line (road_lines (drop at bytes)) ∷ []))
  unfolding road_check
  road_check_is = rw (sym e)

  pub fillable : at ≤ length bytes → road_check bytes C (length starts) (length heads) (length costs) ≡ Ok tt
      → RoadFillable n bytes at starts heads costs
  unfolding problem_checks lent_checks
  fillable within p = go (passed_all _ (sym road_check_is ∙ p))
    where
      go : AllPass (problem_checks n m C (length starts) (length heads) (length costs) ++ (lines_check n m C 0 line (road_lines (drop at bytes)) ∷ []))
          → RoadFillable n bytes at starts heads costs
      go (more by-1 (more by_4 (more by_2 (more first (more second (more third (more lines none))))))) =
          let shown = lines_shown n m C 0 line (road_lines (drop at bytes)) (omega arith) lines in
          record {
            lines = record { ceiling = C; ranged = shown.ranged; within = within; few = omega (arith, shown.count, passed_heads m by_4) };
            starts_fit = passed_lent 0 (length starts) (n + 1) first;
            heads_fit = omega (arith, shown.count, passed_lent 1 (length heads) m second);
            costs_fit = omega (arith, shown.count, passed_lent 2 (length costs) m third);
          }

  pub read_promised : {starts' heads' costs' : List ℕ} → road_check bytes C (length starts) (length heads) (length costs) ≡ Ok tt
      → Filled n (arcs_at bytes at) starts heads costs starts' heads' costs'
      → DimacsPromised bytes C starts heads costs starts' heads' costs' (Ok (record { nodes = n; arcs = m }))
  read_promised p f =
      rw p
      (record {
        answered = rw (sym e);
        starts_after = rw (sym e) f.starts_filled;
        heads_after = rw (sym e) f.heads_filled;
        costs_after = rw (sym e) f.costs_filled;
      })
