-- Demand 2 over paths: the distances of a search are the costs of cheapest paths, and its parents spell such paths.
use Prim.Native.Nat.{ℕ, ◌≤◌}
use mathlib.Core.Path.{◌≡◌, sym, ◌∙◌}
use mathlib.Core.Logic.{◌≢◌, ◌⊎◌, inl, inr, ⊎_elim}
use mathlib.Core.List.{List}
use native.Mathlib.Omega.{arith}
use Rattle.theory.specs.Network.{Network, Path, SpelledPath, Admissible}
use Rattle.theory.specs.Search.{Mark, unlabelled, scanned, Search, mark, distance, search}
use Rattle.theory.specs.Demands.{CheapestPaths}
use Rattle.theory.proofs.Cases.{labelled≢unlabelled, scanned≢unlabelled, mark_cases}
use Rattle.theory.proofs.Search.Invariant.{known_spelled, known_finite}
use Rattle.theory.proofs.Search.Ends.{Ended, search_ends}

unlabelled? : (k : Mark) → (k ≡ unlabelled) ⊎ (k ≢ unlabelled)
unlabelled? k = mark_cases k (λ e. inl e) (λ e. inr (λ q. labelled≢unlabelled (sym e ∙ q))) (λ e. inr (λ q. scanned≢unlabelled (sym e ∙ q)))

-- What the parents spell is a path.
pub spelled_path : {N : Network} {parents : List ℕ} {v c : ℕ} → SpelledPath N parents v c → Path N v c
spelled_path SpelledPath.here = Path.here
spelled_path (SpelledPath.on r l m e _) = Path.on (spelled_path r) l m

module _ {N : Network} {C : ℕ} {Kept : Search → Type 0} {s : Search} (E : Ended N C Kept s) where
  -- At the end a node is scanned or unlabelled.
  end_scanned : (v : ℕ) → mark s v ≢ unlabelled → mark s v ≡ scanned
  end_scanned v n = mark_cases (mark s v) (λ e. absurd (n e)) (λ e. absurd (E.over v e)) (λ e. e)

  -- Whatever a path leads to is scanned, and no farther than the path.
  pub path_scanned : {v c : ℕ} → Path N v c → (mark s v ≡ scanned) × (distance s v ≤ c)
  path_scanned Path.here = (end_scanned N.source E.inv.source_known, omega (arith, E.inv.source_zero))
  path_scanned (Path.on {v} p l m) =
      let h = path_scanned p in
      ⊎_elim (λ e. absurd e) (λ q. (end_scanned l.head q.met, omega (arith, h.1, q.near))) (E.inv.settled v h.0 l m)

  pub scanned_path : (v : ℕ) → mark s v ≡ scanned → Path N v (distance s v)
  scanned_path v k = spelled_path (known_spelled E.inv v (λ e. scanned≢unlabelled (sym k ∙ e)))

  pub ended_cheapest : {m : ℕ} → Admissible N C m → CheapestPaths N s.distances s.parents
  ended_cheapest A = record {
    distances_length = E.inv.distances_length;
    parents_length = E.inv.parents_length;
    spelled = λ v _ n. known_spelled E.inv v (λ e. n (E.inv.unknown v e));
    least = λ v c p. (path_scanned p).1;
    unreached = λ v _. (
      λ e c p. omega (arith, known_finite A E.inv v (λ q. scanned≢unlabelled (sym (path_scanned p).0 ∙ q))),
      λ no-path. ⊎_elim (λ q. E.inv.unknown v q) (λ q. absurd (no-path (distance s v) (scanned_path v (end_scanned v q)))) (unlabelled? (mark s v)),
    );
    source_parent = E.inv.source_orphan;
    unreached_parent = λ v _ e. ⊎_elim (λ q. E.inv.orphan v q) (λ q. absurd (omega (arith, known_finite A E.inv v q))) (unlabelled? (mark s v));
  }

pub search_cheapest : {N : Network} {C m : ℕ} → Admissible N C m → CheapestPaths N (search N).distances (search N).parents
search_cheapest A = ended_cheapest (search_ends A) A
