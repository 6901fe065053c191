-- A search starts with its invariant, keeps it, and ends with no node labelled.
use Prim.Native.Nat.{ℕ, zero, suc, ◌+◌, ◌*◌, ◌≤◌}
use mathlib.Core.Path.{◌≡◌, refl, sym, ◌∙◌, ap}
use mathlib.Core.Logic.{◌≢◌}
use mathlib.Core.List.Memᴰ
use mathlib.Core.List.{[], ◌∷◌}
use native.Mathlib.Omega.{arith}
use lib.ListN.{length, length-set, length-replicate, length-append}
use Rattle.theory.specs.Sums.{sum_below}
use Rattle.theory.specs.Maps.{none}
use Rattle.theory.specs.Network.{Network, Admissible}
use Rattle.theory.specs.Search.{Mark, unlabelled, labelled, scanned, Search, mark, distance, parent, Choice, nothing, chosen, nearest, label, scan, search_from, blank, start, search}
use Rattle.theory.proofs.Cases.{labelled≢scanned, labelled≢unlabelled, scanned≢unlabelled}
use Rattle.theory.proofs.Lists.{get_d_replicate_same}
use Rattle.theory.proofs.Sums.{sum_change, sum_zero}
use Rattle.theory.proofs.Search.Nearest.{Right, nearest_right}
use Rattle.theory.specs.Invariants.{Least, scans, known, Tree, AtRest}
use Rattle.theory.proofs.Search.Invariant.{scans_fewer}
use Rattle.theory.proofs.Search.Relaxing.{label_everywhere}
use Rattle.theory.proofs.Search.Scanning.{scan_kept, scan_roster}

pub blank_mark : (N : Network) (v : ℕ) → mark (blank N) v ≡ unlabelled
unfolding blank
blank_mark N v = get_d_replicate_same N.nodes v unlabelled

module _ {N : Network} {C m : ℕ} (A : Admissible N C m) where
  start_everywhere : (P : ℕ → Mark → ℕ → ℕ → Type 0) → P N.source labelled 0 none
      → ((w : ℕ) → w ≢ N.source → P w unlabelled none none) → (w : ℕ) → P w (mark (start N) w) (distance (start N) w) (parent (start N) w)
  unfolding blank start
  start_everywhere P new old = label_everywhere P (blank N) N.source 0 none
      (rw length-replicate A.source_node) (rw length-replicate A.source_node) (rw length-replicate A.source_node)
      (λ e. scanned≢unlabelled (sym e ∙ blank_mark N N.source))
      new (λ w n. rw (get_d_replicate_same N.nodes w unlabelled, get_d_replicate_same N.nodes w none) (old w n))

  at_source : (mark (start N) N.source ≡ labelled) × (distance (start N) N.source ≡ 0) × (parent (start N) N.source ≡ none)
  at_source = start_everywhere (λ w k x p. w ≡ N.source → (k ≡ labelled) × (x ≡ 0) × (p ≡ none)) (λ e. (refl, refl, refl)) (λ w n e. absurd (n e)) N.source refl

  no_scanned : (w : ℕ) → mark (start N) w ≢ scanned
  no_scanned = start_everywhere (λ w k x p. k ≢ scanned) labelled≢scanned (λ w _ e. scanned≢unlabelled (sym e))

  pub start_others : (w : ℕ) → w ≢ N.source → mark (start N) w ≡ unlabelled
  start_others = start_everywhere (λ w k x p. w ≢ N.source → k ≡ unlabelled) (λ q. absurd (q refl)) (λ w _ _. refl)

  start_sum : (f : ℕ → Mark → ℕ) → ((v : ℕ) → f v unlabelled ≡ 0) → sum_below N.nodes (λ w. f w (mark (start N) w)) ≡ f N.source labelled
  start_sum f z =
      let h = sum_change N.nodes N.source (λ w. f w unlabelled) (λ w. f w (mark (start N) w)) A.source_node
      (λ w q. rw (start_others w q)) in
      omega (arith, rw at_source.0 at h, z N.source, sum_zero N.nodes (λ w. f w unlabelled) (λ w _. z w))

  start_counts : ((start N).insertions ≡ 1) × ((start N).decreases ≡ 0)
  unfolding blank start label
  start_counts = rw (get_d_replicate_same N.nodes N.source unlabelled) (refl, refl)

  pub start_kept : AtRest N C 0 (start N)
  unfolding blank start label
  start_kept = record {
    marks_length = rw (length-set, length-replicate) refl;
    distances_length = rw (length-set, length-replicate) refl;
    parents_length = rw (length-set, length-replicate) refl;
    unknown = start_everywhere (λ w k x p. k ≡ unlabelled → x ≡ none) (λ e. absurd (labelled≢unlabelled e)) (λ w _ _. refl);
    orphan = start_everywhere (λ w k x p. k ≡ unlabelled → p ≡ none) (λ e. absurd (labelled≢unlabelled e)) (λ w _ _. refl);
    source_known = λ e. labelled≢unlabelled (sym at_source.0 ∙ e);
    source_zero = at_source.1;
    source_orphan = at_source.2;
    tree = start_everywhere (λ w k x p. k ≢ unlabelled → Tree N (start N) w) (λ e. Tree.here) (λ w _ n. absurd (n refl));
    settled = λ w k. absurd (no_scanned w k);
    behind = λ w k. absurd (no_scanned w k);
    ahead = λ w k. omega arith;
    window = start_everywhere (λ w k x p. k ≡ labelled → x ≤ 0 + C) (λ e. omega arith) (λ w _ e. absurd (labelled≢unlabelled (sym e)));
    small = start_everywhere (λ w k x p. k ≢ unlabelled → x ≤ 0 * C) (λ e. omega arith) (λ w _ n. absurd (n refl));
    smaller = λ w k. absurd (no_scanned w k);
    listed = λ w k. absurd (no_scanned w k);
    rostered = λ w r. absurd (Memᴰ.not-nil r);
    distinct = tt;
    rising = refl;
    scans_count = sym (start_sum (λ w k. scans k) (λ v. refl));
    insertions_count = omega (arith, start_sum (λ w k. known k) (λ v. refl), start_counts);
    updates_count = omega (arith, start_counts);
  }

-- A search that is over, with what was kept of it.
pub record Ended (N : Network) (C : ℕ) (Kept : Search → Type 0) (s : Search) : Type 0 where
  pub front : ℕ
  pub inv : AtRest N C front s
  pub over : (v : ℕ) → mark s v ≢ labelled
  pub kept : Kept s

-- Whatever each scan of a nearest node keeps holds at the end, and as many removals as there are nodes are enough.
module _ {N : Network} {C m : ℕ} (A : Admissible N C m) (Kept : Search → Type 0)
    (keep : (front v d : ℕ) (s : Search) → AtRest N C front s → Least s v d → Kept s → Kept (scan N v s)) where
  ends_from : (fuel front : ℕ) (s : Search) → AtRest N C front s → Kept s → N.nodes ≤ fuel + length s.roster → Ended N C Kept (search_from N fuel s)
  unfolding search_from
  ends_from zero front s I k enough = record { front = front; inv = I; over = λ v on. omega (arith, scans_fewer I v on); kept = k }
  ends_from (suc fuel) front s I k enough = go (λ front' s'. ends_from fuel front' s') (nearest s N.nodes) (nearest_right s N.nodes I.marks_length)
    where
      go : ((front' : ℕ) (s' : Search) → AtRest N C front' s' → Kept s' → N.nodes ≤ fuel + length s'.roster → Ended N C Kept (search_from N fuel s'))
          → (c : Choice) → Right s c → Ended N C Kept (elim c [ nothing ↦ s | chosen v d ↦ search_from N fuel (scan N v s) ])
      go rest nothing h = record { front = front; inv = I; over = h; kept = k }
      go rest (chosen v d) h = rest d (scan N v s) (scan_kept A I h) (keep front v d s I h k)
          (omega (arith, ap length (scan_roster N v s), length-append s.roster (v ∷ [])))

  pub search_keeps : Kept (start N) → Ended N C Kept (search N)
  unfolding search
  search_keeps k = ends_from N.nodes 0 (start N) (start_kept A) k (omega arith)

-- The search ends.
pub search_ends : {N : Network} {C m : ℕ} → Admissible N C m → Ended N C (λ s. Unit {0}) (search N)
search_ends A = search_keeps A (λ s. Unit {0}) (λ front v d s I min k. tt) tt
