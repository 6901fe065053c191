-- The parent of a reached node other than the source is the first arc examined that gives its final distance. What has been
-- examined is settled; a head that improves gets a sum strictly below all that was offered to it before.
use Prim.Native.Nat.{ℕ, ◌+◌, ◌≤◌, ◌<◌}
use mathlib.Core.Path.{◌≡◌, refl, sym, ◌∙◌, ap}
use mathlib.Core.Logic.{◌≢◌, ⊎_elim}
use mathlib.Core.Bool.{Bool, true, false, cond}
use mathlib.Core.List.Memᴰ
use mathlib.Core.List.{List, [], ◌∷◌, ◌++◌, append_assoc, append-nil, Memᴰ}
use native.Mathlib.Omega.{arith}
use Rattle.theory.specs.Network.{Link, Network, Path, Admissible}
use Rattle.theory.specs.Search.{unlabelled, labelled, scanned, Search, mark, distance, parent, improves, label, relax, relax_all, remove, scan, blank, start, search}
use Rattle.theory.specs.Examined.{Examined, examined_of, examined, FirstOf}
use Rattle.theory.proofs.Cases.{same?, scanned≢unlabelled, labelled≢unlabelled, mark_cases}
use Rattle.theory.proofs.Lists.{mem_snoc}
use Rattle.theory.specs.Invariants.{Least, Relaxed, AtRest, Scanning}
use Rattle.theory.proofs.Search.Relaxing.{at_head, elsewhere, scanned_stays, settled_after, settled_now, relax_kept, improves_open, improves_less, below_false}
use Rattle.theory.proofs.Search.Scanning.{remove_kept, remove_here, remove_other, scan_roster}
use Rattle.theory.proofs.Search.Ends.{search_keeps, start_others}
use Rattle.theory.proofs.Search.Cheapest.{path_scanned}

-- More is examined, and what was examined keeps its offers.
first_more : {s s' : Search} {seen : List Examined} {v : ℕ} (more : List Examined) → FirstOf s seen v
    → parent s' v ≡ parent s v → distance s' v ≡ distance s v
    → ((x : Examined) → Memᴰ x seen → distance s' x.tail ≡ distance s x.tail)
    → FirstOf s' (seen ++ more) v
first_more {s} {s'} {seen} {v} more f p d same = record {
  earlier = f.earlier;
  first = f.first;
  later = f.later ++ more;
  split = ap (λ (l : List Examined). l ++ more) f.split ∙ append_assoc f.earlier (f.first ∷ f.later) more;
  leads = f.leads;
  names = p ∙ f.names;
  gives = let e = same f.first (rw f.split (Memᴰ.append_right f.earlier (Memᴰ.head refl))) in omega (arith, f.gives);
  dearer = λ x m q.
      let e = same x (rw f.split (Memᴰ.append_left (f.first ∷ f.later) m)) in
      omega (arith, f.dearer x m q);
}

-- What holds of the links that have been examined.
record Seen (N : Network) (s : Search) (seen : List Examined) : Type 0 where
  tails : (x : Examined) → Memᴰ x seen → mark s x.tail ≡ scanned
  settled : (x : Examined) → Memᴰ x seen → Relaxed s x.tail x.link
  first : (v : ℕ) → mark s v ≢ unlabelled → v ≢ N.source → FirstOf s seen v

-- What holds of all that was seen, and of one more, holds of both.
all_more : (P : Examined → Type 0) (seen : List Examined) (x : Examined) → ((y : Examined) → Memᴰ y seen → P y) → P x
    → (y : Examined) → Memᴰ y (seen ++ (x ∷ [])) → P y
all_more P seen x old new y m = ⊎_elim (old y) (λ e. rw e new) (mem_snoc seen m)

module _ {N : Network} {C m u d : ℕ} {l : Link} {ls : List Link} {s : Search} (A : Admissible N C m) (S : Scanning N C u d (l ∷ ls) s)
    (out : Memᴰ l (N.out u)) {seen : List Examined} (I : Seen N s seen) where
  abbrev now : Examined
  now = record { tail = u; link = l }

  -- The head improves: the link is the first that gives its new distance.
  labelled_seen : (n : mark s l.head ≢ scanned) (less : mark s l.head ≡ labelled → d + l.cost < distance s l.head)
      → Seen N (label l.head (d + l.cost) l.arc s) (seen ++ (now ∷ []))
  labelled_seen n less = record {
    tails = all_more (λ x. mark after x.tail ≡ scanned) seen now (λ x q. (stays x.tail (I.tails x q)).0) (stays u S.is_scanned).0;
    settled = all_more (λ x. Relaxed after x.tail x.link) seen now
        (λ x q. settled_after A S out n less x.tail x.link (I.tails x q) (I.settled x q)) (settled_now A S out n less);
    first = λ v k apart. ⊎_elim (λ e. rw e newest) (λ e. older v k apart e) (same? v l.head);
  }
    where
      after : Search
      after = label l.head (d + l.cost) l.arc s

      stays : (w : ℕ) → mark s w ≡ scanned → (mark after w ≡ scanned) × (parent after w ≡ parent s w) × (distance after w ≡ distance s w)
      stays = scanned_stays A S out n less

      newest : FirstOf after (seen ++ (now ∷ [])) l.head
      newest = record {
        earlier = seen;
        first = now;
        later = [];
        split = refl;
        leads = refl;
        names = (at_head A S out n less).1;
        gives = omega (arith, (stays u S.is_scanned).2, S.is_at, (at_head A S out n less).2);
        dearer = λ x q e.
            let far : distance s l.head ≤ distance s x.tail + x.link.cost = rw e at (I.settled x q).near in
            let met : mark s l.head ≢ unlabelled = rw e at (I.settled x q).met in
            let fall : d + l.cost < distance s l.head = mark_cases (mark s l.head) (λ k. absurd (met k)) less (λ k. absurd (n k)) in
            omega (arith, (at_head A S out n less).2, (stays x.tail (I.tails x q)).2);
      }

      older : (v : ℕ) → mark after v ≢ unlabelled → v ≢ N.source → v ≢ l.head → FirstOf after (seen ++ (now ∷ [])) v
      older v k apart e =
          let q = elsewhere A S out n less v e in
          first_more (now ∷ []) (I.first v (λ z. k (q.0 ∙ z)) apart) q.1 q.2 (λ x o. (stays x.tail (I.tails x o)).2)

  skipped_seen : mark s l.head ≢ unlabelled → distance s l.head ≤ d + l.cost → Seen N s (seen ++ (now ∷ []))
  skipped_seen met near = record {
    tails = all_more (λ x. mark s x.tail ≡ scanned) seen now I.tails S.is_scanned;
    settled = all_more (λ x. Relaxed s x.tail x.link) seen now I.settled (record { met = met; near = rw S.is_at near });
    first = λ v k apart. first_more (now ∷ []) (I.first v k apart) refl refl (λ x o. refl);
  }

  relax_seen : Seen N (relax d l s) (seen ++ (now ∷ []))
  unfolding relax
  relax_seen = go (improves d l s) refl
    where
      go : (b : Bool) → improves d l s ≡ b → Seen N (cond b (label l.head (d + l.cost) l.arc s) s) (seen ++ (now ∷ []))
      go true e = labelled_seen (improves_open S e) (improves_less S e)
      go false e = let h = below_false (mark s l.head) (d + l.cost) (distance s l.head) e in skipped_seen h.0 h.1

relax_all_seen : {N : Network} {C m u d : ℕ} → Admissible N C m → (ls : List Link) {s : Search} {seen : List Examined}
    → ((l : Link) → Memᴰ l ls → Memᴰ l (N.out u)) → Scanning N C u d ls s → Seen N s seen
    → Seen N (relax_all d ls s) (seen ++ examined_of u ls)
unfolding relax_all
relax_all_seen A [] {seen = seen} out S I = rw append-nil I
relax_all_seen {u = u} A (l ∷ ls) {seen = seen} out S I =
    rw append_assoc at
    (relax_all_seen A ls (λ k q. out k (Memᴰ.tail q)) (relax_kept A (out l (Memᴰ.head refl)) S)
    (relax_seen A S (out l (Memᴰ.head refl)) I))

-- A removal examines nothing.
remove_seen : {N : Network} {C front v d : ℕ} {s : Search} {seen : List Examined} → AtRest N C front s → Least s v d → Seen N s seen → Seen N (remove v s) seen
unfolding remove
remove_seen {v = v} {s = s} {seen = seen} R min I = record {
  tails = λ x q. grows x.tail (I.tails x q);
  settled = λ x q. record { met = λ e. back x.link.head (I.settled x q).met e; near = (I.settled x q).near };
  first = λ w k apart. rw append-nil at (first_more {s' = remove v s} [] (I.first w (λ e. k (keeps w e)) apart) refl refl (λ x o. refl));
}
  where
    keeps : (w : ℕ) → mark s w ≡ unlabelled → mark (remove v s) w ≡ unlabelled
    keeps w e = remove_other R min w (λ q. labelled≢unlabelled (sym min.member ∙ (rw q at e))) ∙ e

    back : (w : ℕ) → mark s w ≢ unlabelled → mark (remove v s) w ≢ unlabelled
    back w n e = ⊎_elim
        (λ q. scanned≢unlabelled (sym (remove_here R min) ∙ (rw q at e)))
        (λ q. n (sym (remove_other R min w q) ∙ e)) (same? w v)

    grows : (w : ℕ) → mark s w ≡ scanned → mark (remove v s) w ≡ scanned
    grows w e = ⊎_elim (λ q. rw q (remove_here R min)) (λ q. remove_other R min w q ∙ e) (same? w v)

examined_snoc : (N : Network) (vs : List ℕ) (v : ℕ) → examined N (vs ++ (v ∷ [])) ≡ examined N vs ++ examined_of v (N.out v)
unfolding examined
examined_snoc N [] v = append-nil (examined_of v (N.out v))
examined_snoc N (w ∷ vs) v = ap (λ (l : List Examined). examined_of w (N.out w) ++ l) (examined_snoc N vs v) ∙ sym (append_assoc (examined_of w (N.out w)) (examined N vs) (examined_of v (N.out v)))

scan_adds : {N : Network} {C m front v d : ℕ} {s : Search} → Admissible N C m → AtRest N C front s → Least s v d
    → Seen N s (examined N s.roster) → Seen N (scan N v s) (examined N s.roster ++ examined_of v (N.out v))
unfolding scan
scan_adds {N} {v = v} {s = s} A R min I =
    rw min.key (relax_all_seen A (N.out v) (λ l q. q) (remove_kept R min) (remove_seen R min I))

abbrev AllSeen : Network → Search → Type 0
AllSeen N s = Seen N s (examined N s.roster)

scan_seen : {N : Network} {C m : ℕ} → Admissible N C m → (front v d : ℕ) (s : Search) → AtRest N C front s → Least s v d
    → AllSeen N s → AllSeen N (scan N v s)
scan_seen {N} A front v d s R min I =
    let e : examined N (scan N v s).roster ≡ examined N s.roster ++ examined_of v (N.out v) =
    ap (examined N) (scan_roster N v s) ∙ examined_snoc N s.roster v in
    rw e (scan_adds A R min I)

start_seen : {N : Network} {C m : ℕ} → Admissible N C m → AllSeen N (start N)
unfolding examined start blank label
start_seen {N} A = record {
  tails = λ x q. absurd (Memᴰ.not-nil q);
  settled = λ x q. absurd (Memᴰ.not-nil q);
  first = λ v k apart. absurd (k (start_others A v apart));
}

pub search_first : {N : Network} {C m : ℕ} → Admissible N C m → (v c : ℕ) → Path N v c → v ≢ N.source
    → FirstOf (search N) (examined N (search N).roster) v
search_first {N} A v c p apart =
    let E = search_keeps A (AllSeen N) (scan_seen A) (start_seen A) in
    E.kept.first v (λ k. scanned≢unlabelled (sym (path_scanned E p).0 ∙ k)) apart
