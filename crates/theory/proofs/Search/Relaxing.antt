-- A link relaxed keeps the invariant of a scan.
use Prim.Native.Nat.{ℕ, ◌+◌, ◌*◌, ◌≤◌, ◌<◌}
use mathlib.Core.Path.{◌≡◌, refl, sym, ◌∙◌}
use mathlib.Core.Logic.{◌≢◌, ◌⊎◌, inl, inr}
use mathlib.Core.Bool.{Bool, true, false, cond}
use mathlib.Core.List.Memᴰ
use mathlib.Core.List.{List, [], ◌∷◌, Memᴰ}
use native.Mathlib.Omega.{arith}
use lib.ListN.{length, length-set}
use lib.Seq.{get_or-set_same, get_or-set_other}
use borrow.Author.Tests.{ltb-true, ltb-false}
use Rattle.theory.specs.Sums.{sum_below}
use Rattle.theory.specs.Maps.{none}
use Rattle.theory.specs.Network.{Link, Network, Admissible}
use Rattle.theory.specs.Search.{Mark, unlabelled, labelled, scanned, Search, mark, distance, parent, as_labelled, inserted, decreased, improves, below, label, relax, relax_all}
use Rattle.theory.proofs.Cases.{same?, differ, labelled≢scanned, labelled≢unlabelled, scanned≢unlabelled, mark_cases}
use Rattle.theory.proofs.Lists.{inside, rising_same}
use Rattle.theory.proofs.Sums.{sum_change}
use Rattle.theory.proofs.Search.Invariant.{known_few}
use Rattle.theory.specs.Invariants.{scans, known, links_of, Tree, Relaxed, SearchInv, Scanning}

-- What holds of a node that is labelled, and of every other node, holds of every node: of its mark, distance and parent.
pub label_everywhere : (P : ℕ → Mark → ℕ → ℕ → Type 0) (s : Search) (v x a : ℕ)
    → v < length s.marks → v < length s.distances → v < length s.parents → mark s v ≢ scanned
    → P v labelled x a → ((w : ℕ) → w ≢ v → P w (mark s w) (distance s w) (parent s w))
    → (w : ℕ) → P w (mark (label v x a s) w) (distance (label v x a s) w) (parent (label v x a s) w)
unfolding label
label_everywhere P s v x a hm hd hp n new old w = go (same? w v)
  where
    as_labelled_is : (k : Mark) → k ≢ scanned → as_labelled k ≡ labelled
    as_labelled_is unlabelled n = refl
    as_labelled_is labelled n = refl
    as_labelled_is scanned n = absurd (n refl)

    go : (w ≡ v) ⊎ (w ≢ v) → P w (mark (label v x a s) w) (distance (label v x a s) w) (parent (label v x a s) w)
    go (inl e) = rw e (rw (
      get_or-set_same s.marks v (as_labelled (mark s v)) _ hm,
      get_or-set_same s.distances v x _ hd,
      get_or-set_same s.parents v a _ hp,
      as_labelled_is (mark s v) n,
    ) new)
    go (inr q) = rw (
      get_or-set_other s.marks v w (as_labelled (mark s v)) _ q,
      get_or-set_other s.distances v w x _ q,
      get_or-set_other s.parents v w a _ q,
    ) (old w q)

-- A part of the tree stays where its tails stay scanned, with their parents and distances.
pub tree_kept : {N : Network} {s s' : Search} {v : ℕ}
    → ((w : ℕ) → mark s w ≡ scanned → (mark s' w ≡ scanned) × (parent s' w ≡ parent s w) × (distance s' w ≡ distance s w))
    → Tree N s v → parent s' v ≡ parent s v → distance s' v ≡ distance s v → Tree N s' v
tree_kept same Tree.here p d = Tree.here
tree_kept same (Tree.on {t} r k l m arc apart sum) p d =
    let q = same t k in
    Tree.on (tree_kept same r q.1 q.2) q.0 l m (p ∙ arc) apart (rw (q.2, d) sum)

-- The first of the links left is done with.
one_less : {u w : ℕ} {l l₁ : Link} {ls : List Link} {X Y : Type 0} → (w ≡ u → l₁ ≡ l → Y) → (X → Y)
    → ((w ≡ u) × Memᴰ l₁ (l ∷ ls)) ⊎ X → ((w ≡ u) × Memᴰ l₁ ls) ⊎ Y
one_less {u} {w} {l} {l₁} {ls} {Y = Y} first f (inl p) = which p.0 (Memᴰ.cases_cons p.1)
  where
    which : w ≡ u → (l₁ ≡ l) ⊎ Memᴰ l₁ ls → ((w ≡ u) × Memᴰ l₁ ls) ⊎ Y
    which e (inl q) = inr (first e q)
    which e (inr q) = inl (e, q)
one_less first f (inr x) = inr (f x)

-- Other links are left.
pub left_changed : {N : Network} {C front n n' : ℕ} {Left Left' : ℕ → Link → Type 0} {s : Search} → SearchInv N C front Left n s → n' ≤ n
    → ((v : ℕ) → mark s v ≡ scanned → (l : Link) → Left v l ⊎ Relaxed s v l → Left' v l ⊎ Relaxed s v l) → SearchInv N C front Left' n' s
left_changed i le f = record {
  marks_length = i.marks_length;
  distances_length = i.distances_length;
  parents_length = i.parents_length;
  unknown = i.unknown;
  orphan = i.orphan;
  source_known = i.source_known;
  source_zero = i.source_zero;
  source_orphan = i.source_orphan;
  tree = i.tree;
  settled = λ w k l m. f w k l (i.settled w k l m);
  behind = i.behind;
  ahead = i.ahead;
  window = i.window;
  small = i.small;
  smaller = i.smaller;
  listed = i.listed;
  rostered = i.rostered;
  distinct = i.distinct;
  rising = i.rising;
  scans_count = i.scans_count;
  insertions_count = i.insertions_count;
  updates_count = omega (arith, i.updates_count);
}

-- What a label counts of its node's mark.
new_known : (k : Mark) → k ≢ scanned → inserted k + known k ≡ known labelled
new_known unlabelled n = refl
new_known labelled n = refl
new_known scanned n = absurd (n refl)

no_scan : (k : Mark) → k ≢ scanned → scans k ≡ 0
no_scan unlabelled n = refl
no_scan labelled n = refl
no_scan scanned n = absurd (n refl)

no_links : (N : Network) (v : ℕ) (k : Mark) → k ≢ scanned → links_of N v k ≡ 0
no_links N v unlabelled n = refl
no_links N v labelled n = refl
no_links N v scanned n = absurd (n refl)

one_update : (k : Mark) → inserted k + decreased k ≤ 1
one_update unlabelled = omega arith
one_update labelled = omega arith
one_update scanned = omega arith

-- The next link of a scan: its tail and head are nodes, and the sum lies in the window and is not too large.
module _ {N : Network} {C m u d : ℕ} {l : Link} {ls : List Link} {s : Search} (A : Admissible N C m) (S : Scanning N C u d (l ∷ ls) s) (out : Memᴰ l (N.out u)) where
  pub tail_node : u < N.nodes
  tail_node = rw (← S.inv.marks_length) (inside s.marks u unlabelled (λ e. scanned≢unlabelled (sym S.is_scanned ∙ e)))

  pub head_node : l.head < N.nodes
  head_node = A.heads u tail_node l out

  pub sum_window : d + l.cost ≤ d + C
  sum_window = omega (arith, A.costs u tail_node l out)

  pub sum_few : d + l.cost ≤ N.nodes * C
  sum_few = omega (arith, sum_window, S.is_at, known_few S.inv u (λ e. scanned≢unlabelled (sym S.is_scanned ∙ e)))

-- That link is relaxed and its head is labelled anew.
module _ {N : Network} {C m u d : ℕ} {l : Link} {ls : List Link} {s : Search} (A : Admissible N C m) (S : Scanning N C u d (l ∷ ls) s)
    (out : Memᴰ l (N.out u)) (n : mark s l.head ≢ scanned) (less : mark s l.head ≡ labelled → d + l.cost < distance s l.head) where
  abbrev pub after : Search
  after = label l.head (d + l.cost) l.arc s

  inside_all : (l.head < length s.marks) × (l.head < length s.distances) × (l.head < length s.parents)
  inside_all = rw (S.inv.marks_length, S.inv.distances_length, S.inv.parents_length) (head_node A S out, head_node A S out, head_node A S out)

  everywhere : (P : ℕ → Mark → ℕ → ℕ → Type 0) → P l.head labelled (d + l.cost) l.arc
      → ((w : ℕ) → w ≢ l.head → P w (mark s w) (distance s w) (parent s w)) → (w : ℕ) → P w (mark after w) (distance after w) (parent after w)
  everywhere P new old = label_everywhere P s l.head (d + l.cost) l.arc inside_all.0 inside_all.1 inside_all.2 n new old

  pub at_head : (mark after l.head ≡ labelled) × (parent after l.head ≡ l.arc) × (distance after l.head ≡ d + l.cost)
  at_head = everywhere (λ w k x p. w ≡ l.head → (k ≡ labelled) × (p ≡ l.arc) × (x ≡ d + l.cost)) (λ e. (refl, refl, refl)) (λ w q e. absurd (q e)) l.head refl

  pub elsewhere : (w : ℕ) → w ≢ l.head → (mark after w ≡ mark s w) × (parent after w ≡ parent s w) × (distance after w ≡ distance s w)
  elsewhere = everywhere (λ w k x p. w ≢ l.head → (k ≡ mark s w) × (p ≡ parent s w) × (x ≡ distance s w)) (λ q. absurd (q refl)) (λ w q _. (refl, refl, refl))

  apart : (w : ℕ) → mark s w ≡ scanned → w ≢ l.head
  apart w k e = n (rw e at k)

  pub scanned_stays : (w : ℕ) → mark s w ≡ scanned → (mark after w ≡ scanned) × (parent after w ≡ parent s w) × (distance after w ≡ distance s w)
  scanned_stays w k = let e = elsewhere w (apart w k) in (e.0 ∙ k, e.1, e.2)

  source_apart : N.source ≢ l.head
  source_apart e = mark_cases (mark s N.source) S.inv.source_known (λ k. let h = less (rw e at k) in let z = S.inv.source_zero in omega (arith, rw e at z)) (λ k. apart N.source k e)

  no_farther : (w : ℕ) → mark s w ≢ unlabelled → (mark after w ≢ unlabelled) × (distance after w ≤ distance s w)
  no_farther = everywhere (λ w k x p. mark s w ≢ unlabelled → (k ≢ unlabelled) × (x ≤ distance s w))
      (λ q. (labelled≢unlabelled, mark_cases (mark s l.head) (λ e. absurd (q e)) (λ e. let h = less e in omega arith) (λ e. absurd (n e))))
      (λ w _ q. (q, omega arith))

  pub settled_after : (w : ℕ) (l₁ : Link) → mark s w ≡ scanned → Relaxed s w l₁ → Relaxed after w l₁
  settled_after w l₁ k h =
      let f = no_farther l₁.head h.met in
      let e = (scanned_stays w k).2 in
      record { met = f.0; near = omega (arith, h.near) }

  pub settled_now : Relaxed after u l
  settled_now =
      let e = (scanned_stays u S.is_scanned).2 in
      let at = S.is_at in
      record { met = λ k. labelled≢unlabelled (sym at_head.0 ∙ k); near = omega (arith, at_head.2) }

  tree_on : Tree N after l.head
  tree_on =
      let q = scanned_stays u S.is_scanned in
      let at = S.is_at in
      Tree.on (tree_kept scanned_stays (S.inv.tree u (λ e. scanned≢unlabelled (sym S.is_scanned ∙ e))) q.1 q.2) q.0 l out at_head.1 source_apart (omega (arith, at_head.2))

  label_settles : (w : ℕ) → mark s w ≡ scanned → (l₁ : Link) → Memᴰ l₁ (N.out w) → ((w ≡ u) × Memᴰ l₁ ls) ⊎ Relaxed after w l₁
  label_settles w k l₁ m₁ = one_less (λ e q. rw (e, q) settled_now) (settled_after w l₁ k) (S.inv.settled w k l₁ m₁)

  label_sum : (f : ℕ → Mark → ℕ) → sum_below N.nodes (λ w. f w (mark after w)) + f l.head (mark s l.head) ≡ sum_below N.nodes (λ w. f w (mark s w)) + f l.head labelled
  label_sum f = rw at_head.0 at (sum_change N.nodes l.head (λ w. f w (mark s w)) (λ w. f w (mark after w)) (head_node A S out) (λ w q. rw (elsewhere w q).0))

  label_inv : SearchInv N C d (λ v l₁. (v ≡ u) × Memᴰ l₁ ls) (length ls) after
  unfolding label
  label_inv = record {
    marks_length = rw length-set S.inv.marks_length;
    distances_length = rw length-set S.inv.distances_length;
    parents_length = rw length-set S.inv.parents_length;
    unknown = everywhere (λ w k x p. k ≡ unlabelled → x ≡ none) (λ e. absurd (labelled≢unlabelled e)) (λ w _. S.inv.unknown w);
    orphan = everywhere (λ w k x p. k ≡ unlabelled → p ≡ none) (λ e. absurd (labelled≢unlabelled e)) (λ w _. S.inv.orphan w);
    source_known = (no_farther N.source S.inv.source_known).0;
    source_zero = (elsewhere N.source source_apart).2 ∙ S.inv.source_zero;
    source_orphan = (elsewhere N.source source_apart).1 ∙ S.inv.source_orphan;
    tree = everywhere (λ w k x p. k ≢ unlabelled → Tree N after w) (λ _. tree_on) (λ w q h. tree_kept scanned_stays (S.inv.tree w h) (elsewhere w q).1 (elsewhere w q).2);
    settled = everywhere (λ w k x p. k ≡ scanned → (l₁ : Link) → Memᴰ l₁ (N.out w) → ((w ≡ u) × Memᴰ l₁ ls) ⊎ Relaxed after w l₁) (λ e. absurd (labelled≢scanned e)) (λ w _. label_settles w);
    behind = everywhere (λ w k x p. k ≡ scanned → x ≤ d) (λ e. absurd (labelled≢scanned e)) (λ w _. S.inv.behind w);
    ahead = everywhere (λ w k x p. k ≡ labelled → d ≤ x) (λ e. omega arith) (λ w _. S.inv.ahead w);
    window = everywhere (λ w k x p. k ≡ labelled → x ≤ d + C) (λ e. omega (arith, sum_window A S out)) (λ w _. S.inv.window w);
    small = everywhere (λ w k x p. k ≢ unlabelled → x ≤ length s.roster * C) (λ e. omega (arith, sum_window A S out, S.inv.smaller u S.is_scanned, S.is_at)) (λ w _. S.inv.small w);
    smaller = everywhere (λ w k x p. k ≡ scanned → x + C ≤ length s.roster * C) (λ e. absurd (labelled≢scanned e)) (λ w _. S.inv.smaller w);
    listed = everywhere (λ w k x p. k ≡ scanned → Memᴰ w s.roster) (λ e. absurd (labelled≢scanned e)) (λ w _. S.inv.listed w);
    rostered = everywhere (λ w k x p. Memᴰ w s.roster → k ≡ scanned) (λ e. absurd (n (S.inv.rostered l.head e))) (λ w _. S.inv.rostered w);
    distinct = S.inv.distinct;
    rising = rising_same s.distances after.distances s.roster 0 d (λ w r. (scanned_stays w (S.inv.rostered w r)).2) S.inv.rising;
    scans_count = omega (arith, label_sum (λ w k. scans k), S.inv.scans_count, no_scan (mark s l.head) n);
    insertions_count = omega (arith, label_sum (λ w k. known k), S.inv.insertions_count, new_known (mark s l.head) n);
    updates_count = omega (arith, label_sum (links_of N), S.inv.updates_count, no_links N l.head (mark s l.head) n, one_update (mark s l.head));
  }

  pub label_kept : Scanning N C u d ls after
  label_kept =
      let q = scanned_stays u S.is_scanned in
      record { inv = label_inv; is_scanned = q.0; is_at = q.2 ∙ S.is_at }

-- A link of u is relaxed and its head is near enough already.
pub skip_kept : {N : Network} {C u d : ℕ} {l : Link} {ls : List Link} {s : Search} → Scanning N C u d (l ∷ ls) s
    → mark s l.head ≢ unlabelled → distance s l.head ≤ d + l.cost → Scanning N C u d ls s
skip_kept S met near = record {
  inv = left_changed S.inv (omega arith) (λ w k l₁. one_less (λ e q. rw (e, q) (record { met = met; near = rw S.is_at near })) (λ h. h));
  is_scanned = S.is_scanned;
  is_at = S.is_at;
}

-- What the test of a link says.
below_true : (k : Mark) (x y : ℕ) → below k x y ≡ true → k ≢ unlabelled → x < y
below_true unlabelled x y e n = absurd (n refl)
below_true labelled x y e n = ltb-true x y e
below_true scanned x y e n = ltb-true x y e

pub below_false : (k : Mark) (x y : ℕ) → below k x y ≡ false → (k ≢ unlabelled) × (y ≤ x)
below_false unlabelled x y e = differ (cc)
below_false labelled x y e = (labelled≢unlabelled, ltb-false x y e)
below_false scanned x y e = (scanned≢unlabelled, ltb-false x y e)

module _ {N : Network} {C u d : ℕ} {l : Link} {ls : List Link} {s : Search} (S : Scanning N C u d (l ∷ ls) s) (e : improves d l s ≡ true) where
  -- A head that improves is not scanned, and if it is labelled its distance falls.
  pub improves_open : mark s l.head ≢ scanned
  improves_open k =
      let h = below_true (mark s l.head) (d + l.cost) (distance s l.head) e (λ q. scanned≢unlabelled (sym k ∙ q)) in
      omega (arith, S.inv.behind l.head k)

  pub improves_less : mark s l.head ≡ labelled → d + l.cost < distance s l.head
  improves_less k = below_true (mark s l.head) (d + l.cost) (distance s l.head) e (λ q. labelled≢unlabelled (sym k ∙ q))

module _ {N : Network} {C m : ℕ} (A : Admissible N C m) where
  pub relax_kept : {u d : ℕ} {l : Link} {ls : List Link} {s : Search} → Memᴰ l (N.out u) → Scanning N C u d (l ∷ ls) s → Scanning N C u d ls (relax d l s)
  unfolding relax
  relax_kept {u} {d} {l} {ls} {s} out S = go (improves d l s) refl
    where
      go : (b : Bool) → improves d l s ≡ b → Scanning N C u d ls (cond b (label l.head (d + l.cost) l.arc s) s)
      go true e = label_kept A S out (improves_open S e) (improves_less S e)
      go false e = let h = below_false (mark s l.head) (d + l.cost) (distance s l.head) e in skip_kept S h.0 h.1

  pub relax_all_kept : {u d : ℕ} (ls : List Link) {s : Search} → ((l : Link) → Memᴰ l ls → Memᴰ l (N.out u)) → Scanning N C u d ls s → Scanning N C u d [] (relax_all d ls s)
  unfolding relax_all
  relax_all_kept [] out S = S
  relax_all_kept (l ∷ ls) out S = relax_all_kept ls (λ l₁ m. out l₁ (Memᴰ.tail m)) (relax_kept (out l (Memᴰ.head refl)) S)
