-- A removal and a scan keep the invariant.
use Prim.Native.Nat.{ℕ, suc, ◌+◌, ◌*◌, ◌≤◌}
use mathlib.Core.Path.{◌≡◌, refl, sym, ◌∙◌}
use mathlib.Core.Logic.{◌≢◌, ◌⊎◌, inl, ⊎_map, ⊎_elim}
use mathlib.Core.Bool.{Bool, true, false, cond}
use mathlib.Core.List.Memᴰ
use mathlib.Core.List.{List, [], ◌∷◌, ◌++◌, Memᴰ}
use native.Mathlib.Omega.{arith}
use lib.ListN.{length, length-set, length-append}
use Rattle.theory.specs.Sums.{sum_below}
use Rattle.theory.specs.Maps.{none}
use Rattle.theory.specs.Network.{Link, Network, Admissible}
use Rattle.theory.specs.Search.{Mark, unlabelled, labelled, scanned, Search, mark, distance, parent, improves, label, relax, relax_all, remove, scan}
use Rattle.theory.proofs.Cases.{labelled≢scanned, labelled≢unlabelled, scanned≢unlabelled}
use Rattle.theory.proofs.Lists.{set_everywhere, distinct_snoc, mem_snoc, snoc_last, rising_snoc}
use Rattle.theory.proofs.Sums.{sum_change}
use Rattle.theory.proofs.Search.Nearest.{labelled_inside}
use Rattle.theory.specs.Invariants.{Least, scans, known, links_of, Tree, Relaxed, AtRest, Scanning}
use Rattle.theory.proofs.Search.Invariant.{labelled_node}
use Rattle.theory.proofs.Search.Relaxing.{tree_kept, left_changed, relax_all_kept}

-- No link is left: the scan is over.
pub scan_over : {N : Network} {C u d : ℕ} {s : Search} → Scanning N C u d [] s → AtRest N C d s
scan_over S = left_changed S.inv (omega arith) (λ w k l. ⊎_map (λ p. Memᴰ.not-nil p.1) (λ h. h))

-- A nearest labelled node is removed.
module _ {N : Network} {C front : ℕ} {s : Search} (I : AtRest N C front s) {v d : ℕ} (min : Least s v d) where
  v_known : mark s v ≢ unlabelled
  v_known e = labelled≢unlabelled (sym min.member ∙ e)

  late : front ≤ d
  late = omega (arith, I.ahead v min.member, min.key)

  remove_everywhere : (P : ℕ → Mark → Type 0) → P v scanned → ((w : ℕ) → w ≢ v → P w (mark s w)) → (w : ℕ) → P w (mark (remove v s) w)
  unfolding remove
  remove_everywhere P new old = set_everywhere P s.marks v scanned _ (labelled_inside s v min.member) new old

  pub remove_here : mark (remove v s) v ≡ scanned
  remove_here = remove_everywhere (λ w k. w ≡ v → k ≡ scanned) (λ e. refl) (λ w n e. absurd (n e)) v refl

  pub remove_other : (w : ℕ) → w ≢ v → mark (remove v s) w ≡ mark s w
  remove_other = remove_everywhere (λ w k. w ≢ v → k ≡ mark s w) (λ n. absurd (n refl)) (λ w _ n. refl)

  scanned_grows : (w : ℕ) → mark s w ≡ scanned → mark (remove v s) w ≡ scanned
  scanned_grows = remove_everywhere (λ w k. mark s w ≡ scanned → k ≡ scanned) (λ e. refl) (λ w _ e. e)

  known_stays : (w : ℕ) → mark s w ≢ unlabelled → mark (remove v s) w ≢ unlabelled
  known_stays = remove_everywhere (λ w k. mark s w ≢ unlabelled → k ≢ unlabelled) (λ e. scanned≢unlabelled) (λ w _ e. e)

  remove_sum : (f : ℕ → Mark → ℕ) → sum_below N.nodes (λ w. f w (mark (remove v s) w)) + f v labelled ≡ sum_below N.nodes (λ w. f w (mark s w)) + f v scanned
  remove_sum f = rw (min.member, remove_here) at
      (sum_change N.nodes v (λ w. f w (mark s w)) (λ w. f w (mark (remove v s) w)) (labelled_node I v min.member) (λ w q. rw (remove_other w q)))

  one_more : length (remove v s).roster ≡ suc (length s.roster)
  unfolding remove
  one_more = rw length-append (omega arith)

  grown : (w : ℕ) → mark s w ≢ unlabelled → Tree N (remove v s) w
  unfolding remove
  grown w k = tree_kept (λ t e. (scanned_grows t e, refl, refl)) (I.tree w k) refl refl

  pub remove_kept : Scanning N C v d (N.out v) (remove v s)
  unfolding remove
  remove_kept = record {
    inv = record {
      marks_length = rw length-set I.marks_length;
      distances_length = I.distances_length;
      parents_length = I.parents_length;
      unknown = remove_everywhere (λ w k. k ≡ unlabelled → distance s w ≡ none) (λ e. absurd (scanned≢unlabelled e)) (λ w _. I.unknown w);
      orphan = remove_everywhere (λ w k. k ≡ unlabelled → parent s w ≡ none) (λ e. absurd (scanned≢unlabelled e)) (λ w _. I.orphan w);
      source_known = known_stays N.source I.source_known;
      source_zero = I.source_zero;
      source_orphan = I.source_orphan;
      tree = remove_everywhere (λ w k. k ≢ unlabelled → Tree N (remove v s) w) (λ e. grown v v_known) (λ w _. grown w);
      settled = remove_everywhere (λ w k. k ≡ scanned → (l : Link) → Memᴰ l (N.out w) → ((w ≡ v) × Memᴰ l (N.out v)) ⊎ Relaxed (remove v s) w l)
          (λ e l m. inl (refl, m))
          (λ w _ k l m. ⊎_map (λ e. absurd e) (λ h. record { met = known_stays l.head h.met; near = h.near }) (I.settled w k l m));
      behind = remove_everywhere (λ w k. k ≡ scanned → distance s w ≤ d) (λ e. omega (arith, min.key)) (λ w _ k. omega (arith, I.behind w k, late));
      ahead = remove_everywhere (λ w k. k ≡ labelled → d ≤ distance s w) (λ e. absurd (labelled≢scanned (sym e))) (λ w _. min.least w);
      window = remove_everywhere (λ w k. k ≡ labelled → distance s w ≤ d + C) (λ e. absurd (labelled≢scanned (sym e))) (λ w _ k. omega (arith, I.window w k, late));
      small = remove_everywhere (λ w k. k ≢ unlabelled → distance s w ≤ length (remove v s).roster * C) (λ e. rw one_more (omega (arith, I.small v v_known))) (λ w _ k. rw one_more (omega (arith, I.small w k)));
      smaller = remove_everywhere (λ w k. k ≡ scanned → distance s w + C ≤ length (remove v s).roster * C) (λ e. rw one_more (omega (arith, I.small v v_known))) (λ w _ k. rw one_more (omega (arith, I.smaller w k)));
      listed = remove_everywhere (λ w k. k ≡ scanned → Memᴰ w (remove v s).roster) (λ e. snoc_last s.roster v) (λ w _ k. Memᴰ.append_left (v ∷ []) (I.listed w k));
      rostered = remove_everywhere (λ w k. Memᴰ w (remove v s).roster → k ≡ scanned) (λ e. refl) (λ w n m. ⊎_elim (I.rostered w) (λ e. absurd (n e)) (mem_snoc s.roster m));
      distinct = distinct_snoc s.roster v I.distinct (λ m. labelled≢scanned (sym min.member ∙ I.rostered v m));
      rising = rw min.key at (rising_snoc s.distances s.roster 0 front v I.rising (I.ahead v min.member));
      scans_count = omega (arith, one_more, remove_sum (λ w k. scans k), I.scans_count);
      insertions_count = omega (arith, remove_sum (λ w k. known k), I.insertions_count);
      updates_count = omega (arith, remove_sum (links_of N), I.updates_count);
    };
    is_scanned = remove_here;
    is_at = min.key;
  }

-- A nearest labelled node is scanned.
pub scan_kept : {N : Network} {C m front : ℕ} {s : Search} → Admissible N C m → AtRest N C front s → {v d : ℕ} → Least s v d → AtRest N C d (scan N v s)
unfolding scan
scan_kept {N} A I {v} min = rw min.key (scan_over (relax_all_kept A (N.out v) (λ l m. m) (remove_kept I min)))

-- A scan lists one node more, at the end.
relax_all_roster : (d : ℕ) (ls : List Link) (s : Search) → (relax_all d ls s).roster ≡ s.roster
unfolding relax_all relax label
relax_all_roster d [] s = refl
relax_all_roster d (l ∷ ls) s = relax_all_roster d ls (relax d l s) ∙ go (improves d l s)
  where
    go : (b : Bool) → (cond b (label l.head (d + l.cost) l.arc s) s).roster ≡ s.roster
    go true = refl
    go false = refl

pub scan_roster : (N : Network) (v : ℕ) (s : Search) → (scan N v s).roster ≡ s.roster ++ (v ∷ [])
unfolding scan remove
scan_roster N v s = relax_all_roster (distance s v) (N.out v) (remove v s)
