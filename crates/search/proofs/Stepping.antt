-- The steps of a run: while a node is labelled, the least is removed and scanned; then the heap is the run's last.
use Prim.Native.Nat.{ℕ, zero, suc, ◌+◌, ◌-◌, ◌<◌, ◌≤◌}
use native.Mathlib.Omega.{arith}
use native.Mathlib.Numerals.{add-one}
use mathlib.Core.Path.{◌≡◌, refl, sym, ◌∙◌, ap}
use mathlib.Core.List.{List, [], ◌∷◌, Memᴰ}
use lib.ListN.{length, get_or, length-append}
use Rattle.theory.specs.Sums.{sum_below}
use Rattle.theory.specs.Maps.{Map, map_of}
use Rattle.theory.specs.Network.{Network, network, tail_hold}
use Rattle.theory.specs.Shape.{Shape}
use Rattle.theory.specs.Search.{Mark, unlabelled, labelled, scanned, Search, mark, blank, label}
use Rattle.theory.specs.Heap.{Heap, nothing, picked, pick, heap_remove, heap_relax_all, heap_scan, heap_from, heap_label, heap_blank, heap_start, heap}
use Rattle.theory.proofs.Sums.{sum_add, sum_same, sum_at}
use Rattle.theory.specs.Invariants.{Labelled, AtRest, known, scans, seg}
use Rattle.theory.proofs.Search.Invariant.{labelled_node, scans_fewer}
use Rattle.theory.proofs.Search.Scanning.{scan_roster}
use Rattle.theory.proofs.Heap.Pick.{lowest_of_min, pick_lowest, pick_nothing}
use Rattle.theory.proofs.Heap.Run.{remove_relaxing, scan_resting, scan_search, start_resting}
use Rattle.theory.proofs.Maps.Arcs.{starts_mono, link_of, leaves_out}
use Rattle.state.specs.declared.Layout.{Layout}
use Rattle.state.specs.declared.State.{State}
use Rattle.state.specs.Stands.{Setting, Lists, Stands}
use Rattle.state.proofs.Find.{sum_some}
use Rattle.state.proofs.Tallies.{same_insertions}
use Rattle.placing.specs.Placing.{lists}
use Rattle.removal.specs.declared.Removed.{Removed}
use Rattle.removal.specs.Removing.{Rests, SomeRests, Removal, Removes}
use Rattle.search.specs.Scans.{links_between, Scans, SomeScans}
use Rattle.search.specs.Running.{Runs, Steps, SomeSteps}

-- 1 if the node is labelled.
abbrev waits : Mark → ℕ
waits unlabelled = 0
waits labelled = 1
waits scanned = 0

known_either : (m : Mark) → known m ≡ scans m + waits m
known_either unlabelled = refl
known_either labelled = refl
known_either scanned = refl

waits_labelled : (m : Mark) → 0 < waits m → m ≡ labelled
waits_labelled unlabelled l = absurd (omega arith)
waits_labelled labelled l = refl
waits_labelled scanned l = absurd (omega arith)

-- Between two removals the insertions are the nodes scanned and the nodes labelled.
module _ {N : Network} {C front : ℕ} {s : Search} (rest : AtRest N C front s) where
  waiting : s.insertions ≡ length s.roster + sum_below N.nodes (λ v. waits (mark s v))
  waiting = omega (
    arith,
    rest.insertions_count,
    rest.scans_count,
    sum_same N.nodes (λ v. known (mark s v)) (λ v. scans (mark s v) + waits (mark s v)) (λ v _. known_either (mark s v)),
    sum_add N.nodes (λ v. scans (mark s v)) (λ v. waits (mark s v)),
  )

  some_labelled : length s.roster < s.insertions → (v : ℕ) × Labelled s v
  some_labelled less =
      let r = sum_some N.nodes (λ v. waits (mark s v)) (omega (arith, waiting)) in
      (r.0, waits_labelled (mark s r.0) r.2)

  none_labelled : s.insertions ≤ length s.roster → (v : ℕ) → Labelled s v → ⊥
  none_labelled over v on =
      let one : 1 ≤ sum_below N.nodes (λ v. waits (mark s v)) = rw on at (sum_at N.nodes v (λ v. waits (mark s v)) (labelled_node rest v on)) in
      omega (arith, waiting)

-- Where nothing is picked, no removal is made.
idle_heap : (N : Network) (sh : Shape) (left : ℕ) (h : Heap) → pick sh h N.nodes ≡ nothing → heap_from N sh left h ≡ h
unfolding heap_from
idle_heap N sh zero h e = refl
idle_heap N sh (suc left) h e = rw (e, heap_from)

next_heap : (N : Network) (sh : Shape) (left j k d v : ℕ) (h : Heap) → pick sh h N.nodes ≡ picked j k d v
    → heap_from N sh (suc left) h ≡ heap_from N sh left (heap_scan N sh j k d v h)
unfolding heap_from
next_heap N sh left j k d v h e = rw (e, heap_from)

-- One step: a removal and the scan of the node removed.
module _ {layout : Layout} {sizes starts heads costs holds : List ℕ} {X : Setting layout sizes} {source : ℕ} {before : List ℕ} {h : Heap} {l : Lists} {s : State}
    (T : Steps X (map_of layout.nodes starts heads costs holds) source before h l s) where
  abbrev M : Map
  M = map_of layout.nodes starts heads costs holds

  abbrev N : Network
  N = X.network

  abbrev sh : Shape
  sh = X.shape

  step_rests : s.reached < s.tally.insertions → Rests X before h l s
  step_rests less =
      let r = some_labelled T.resting.rest (omega (arith, T.stands.reached, same_insertions T.stands.tally)) in
      record { stands = T.stands; resting = T.resting; long = T.long; node = r.0; labelled = r.1 }

  step_over : s.tally.insertions ≤ s.reached → Stands layout sh before (heap N sh) l s
  step_over over =
      let no_one = none_labelled T.resting.rest (omega (arith, T.stands.reached, same_insertions T.stands.tally)) in
      let e = idle_heap N sh T.left h ((pick_nothing X.lawful T.resting.rest T.resting.inv).1 no_one) in
      rw (sym e ∙ T.leads) at T.stands

  module _ {l' : Lists} {s' : State} {v : ℕ} (R : Removal X before h l' s' v) where
    step_node : v < layout.nodes
    step_node = omega (arith, labelled_node T.resting.rest v R.least.member, X.nodes)

    abbrev first : ℕ
    first = get_or starts v 0

    abbrev last : ℕ
    last = get_or starts (v + 1) 0

    abbrev removed : Heap
    removed = heap_remove sh R.bucket (seg sh h.bounds R.bucket s'.front) s'.front v h

    abbrev after : Heap
    after = heap_scan N sh R.bucket (seg sh h.bounds R.bucket s'.front) s'.front v h

    -- The node's links are those of the arcs between its two starts.
    abbrev hold : ℕ
    hold = tail_hold holds source v

    out_links : N.out v ≡ links_between heads costs hold first last
    unfolding network
    out_links = rw (T.network_is, add-one)

    last_low : last ≤ length heads
    last_low = rw add-one (omega (arith, starts_mono T.sound (suc v) layout.nodes (omega (arith, step_node)) (omega arith), T.sound.starts_last))

    step_scans : Scans X before v removed l' s' heads costs hold first last
    step_scans = record {
      stands = R.stands;
      relaxing = rw out_links at (remove_relaxing X.admissible X.lawful X.room T.resting R.fit R.least);
      members = λ k q. rw out_links q;
      rising = rw add-one (T.sound.starts_rise v step_node);
      heads_long = last_low;
      costs_long = omega (arith, last_low, T.sound.costs_length);
      few = omega (arith, last_low, T.sound.few_arcs);
      sums_low = λ a low high.
          let below : a < get_or starts (suc v) 0 = rw add-one at high in
          let member : Memᴰ (link_of M source v a) (N.out v) = rw T.network_is (leaves_out M source v a (low, below)) in
          omega (arith, X.admissible.costs v (omega (arith, step_node, X.nodes)) (link_of M source v a) member, X.admissible.low_ceiling);
    }

    more_scanned : length after.search.roster ≡ suc (length h.search.roster)
    more_scanned = omega (
      arith,
      ap (λ (s : Search). length s.roster) (scan_search X.admissible X.lawful X.room R.bucket (seg sh h.bounds R.bucket s'.front) s'.front v h R.least),
      ap length (scan_roster N v h.search),
      length-append h.search.roster (v ∷ []),
    )

    fewer : length h.search.roster < N.nodes
    fewer = scans_fewer T.resting.rest v R.least.member

    step_leads : heap_from N sh (T.left - 1) after ≡ heap N sh
    step_leads =
        let e : T.left ≡ suc (T.left - 1) = omega (arith, T.enough, fewer) in
        let p = (pick_lowest X.lawful T.resting.rest T.resting.inv _ _ _ _).1 (lowest_of_min X.lawful T.resting.rest T.resting.inv R.fit R.least) in
        sym (next_heap N sh (T.left - 1) _ _ _ _ h p) ∙ ap (λ (k : ℕ). heap_from N sh k h) (sym e) ∙ T.leads

    module _ {l'' : Lists} {s'' : State} (S : Stands layout sh before (heap_relax_all sh s'.front (links_between heads costs hold first last) removed) l'' s'') (front : s''.front ≡ s'.front) where
      step_stands : Stands layout sh before after l'' s''
      unfolding heap_scan
      step_stands = rw out_links S

      step_next : Steps X M source before after l'' s''
      step_next = record {
        sound = T.sound;
        network_is = T.network_is;
        stands = step_stands;
        resting = rw front (scan_resting X.admissible X.lawful X.room T.resting R.fit R.least);
        long = T.long;
        left = T.left - 1;
        enough = omega (arith, T.enough, fewer, more_scanned);
        leads = step_leads;
      }

      step_less : layout.nodes - s''.reached < layout.nodes - s.reached
      step_less = omega (arith, step_stands.reached, T.stands.reached, more_scanned, fewer, X.nodes)

-- A run begins with the source labelled, and every removal left.
pub start_steps : {layout : Layout} {sizes starts heads costs holds : List ℕ} {X : Setting layout sizes} {source top : ℕ} {words distances parents roster words' distances' parents' : List ℕ} {s : State}
    → Runs X (map_of layout.nodes starts heads costs holds) source words distances parents roster top
    → Stands layout X.shape roster (heap_start X.network X.shape) (lists words' distances' parents' roster) s → s.front ≡ 0
    → Steps X (map_of layout.nodes starts heads costs holds) source roster (heap_start X.network X.shape) (lists words' distances' parents' roster) s
start_steps {X} R S front = record {
  sound = R.sound;
  network_is = R.network_is;
  stands = S;
  resting = rw front (start_resting X.admissible X.lawful X.room);
  long = R.roster_long;
  left = X.network.nodes;
  enough = unfold heap_start heap_label heap_blank blank label in (omega arith);
  leads = unfold heap in refl;
}

-- Some heap at which the steps have come.
record Reaches {layout : Layout} {sizes : List ℕ} (X : Setting layout sizes) (M : Map) (source : ℕ) (before : List ℕ) (l : Lists) (s : State) : Type 0 where
  heap : Heap
  steps : Steps X M source before heap l s

-- Whatever heap the words stood for when the steps began, they now stand for one from which the steps left lead to the same end.
pub record Stepped (layout : Layout) (sizes starts heads costs holds : List ℕ) (source : ℕ) (words₀ distances₀ parents₀ roster₀ : List ℕ) (s₀ : State) (words distances parents roster : List ℕ) (s : State) : Type 0 where
  reaches : (X : Setting layout sizes) (before : List ℕ) (h : Heap) → Steps X (map_of layout.nodes starts heads costs holds) source before h (lists words₀ distances₀ parents₀ roster₀) s₀
      → Reaches X (map_of layout.nodes starts heads costs holds) source before (lists words distances parents roster) s

pub stepped_start : {layout : Layout} {sizes starts heads costs holds : List ℕ} {source : ℕ} {words distances parents roster : List ℕ} {s : State}
    → Stepped layout sizes starts heads costs holds source words distances parents roster s words distances parents roster s
stepped_start = record { reaches = λ X before h T. record { heap = h; steps = T } }

module _ {layout : Layout} {sizes starts heads costs holds : List ℕ} {source : ℕ} {words₀ distances₀ parents₀ roster₀ : List ℕ} {s₀ : State} {words distances parents roster : List ℕ} {s : State}
    (D : Stepped layout sizes starts heads costs holds source words₀ distances₀ parents₀ roster₀ s₀ words distances parents roster s) where
  pub stepped_end : s.tally.insertions ≤ s.reached → (X : Setting layout sizes) (before : List ℕ) (h : Heap)
      → Steps X (map_of layout.nodes starts heads costs holds) source before h (lists words₀ distances₀ parents₀ roster₀) s₀
      → Stands layout X.shape before (heap X.network X.shape) (lists words distances parents roster) s
  stepped_end over X before h T = step_over (D.reaches X before h T).steps over

  module _ (less : s.reached < s.tally.insertions) where
    module _ (P : SomeSteps layout sizes words₀ distances₀ parents₀ roster₀ starts heads costs holds s₀ source) where
      abbrev now : Reaches P.setting (map_of layout.nodes starts heads costs holds) source P.before (lists words distances parents roster) s
      now = D.reaches P.setting P.before P.heap P.steps

      pub stepped_rests : SomeRests layout sizes words distances roster s
      stepped_rests = record { parents = parents; setting = P.setting; before = P.before; heap = now.heap; rests = step_rests now.steps less }

    module _ {words' roster' : List ℕ} {r : Removed} (removes : Removes layout sizes words words' distances roster roster' s r) where
      abbrev removal : {X : Setting layout sizes} {before : List ℕ} {h : Heap} → Steps X (map_of layout.nodes starts heads costs holds) source before h (lists words distances parents roster) s
          → Removal X before h (lists words' distances parents roster') r.state r.node.0
      removal {X} {before} {h} T = removes X before parents h (step_rests T less)

      module _ (P : SomeSteps layout sizes words₀ distances₀ parents₀ roster₀ starts heads costs holds s₀ source) where
        -- The node removed has two starts.
        pub stepped_node : r.node.0 + 1 < length starts
        stepped_node = let T = (now P).steps in omega (arith, step_node T (removal T), T.sound.starts_length)

        -- and a hold
        pub stepped_held : r.node.0 < length holds
        stepped_held = let T = (now P).steps in omega (arith, step_node T (removal T), T.sound.holds_length)

        pub stepped_scans : {hold : ℕ} → hold ≡ tail_hold holds source r.node.0
            → SomeScans layout sizes words' distances parents r.state heads costs hold (get_or starts r.node.0 0) (get_or starts (r.node.0 + 1) 0)
        stepped_scans e = let T = (now P).steps in rw e record { setting = P.setting; before = P.before; roster = roster'; tail = r.node.0; heap = _; scans = step_scans T (removal T) }

      -- What the scan makes of the words.
      module _ {words'' distances'' parents'' : List ℕ} {s'' : State} {hold : ℕ} (paid : hold ≡ tail_hold holds source r.node.0)
          (scanned : (X : Setting layout sizes) (before roster : List ℕ) (u : ℕ) (h : Heap)
          → Scans X before u h (lists words' distances parents roster) r.state heads costs hold (get_or starts r.node.0 0) (get_or starts (r.node.0 + 1) 0)
          → Stands layout X.shape before (heap_relax_all X.shape r.state.front (links_between heads costs hold (get_or starts r.node.0 0) (get_or starts (r.node.0 + 1) 0)) h) (lists words'' distances'' parents'' roster) s'')
          (front : s''.front ≡ r.state.front) where
        pub stepped_next : Stepped layout sizes starts heads costs holds source words₀ distances₀ parents₀ roster₀ s₀ words'' distances'' parents'' roster' s''
        stepped_next = record {
          reaches = λ X before h T₀.
              let T = (D.reaches X before h T₀).steps in
              let R = removal T in
              record { heap = _; steps = step_next T R ((rw paid at scanned) X before roster' r.node.0 _ (step_scans T R)) front };
        }

        pub stepped_less : SomeSteps layout sizes words₀ distances₀ parents₀ roster₀ starts heads costs holds s₀ source → layout.nodes - s''.reached < layout.nodes - s.reached
        stepped_less P =
            let T = (now P).steps in
            let R = removal T in
            step_less T R ((rw paid at scanned) P.setting P.before roster' r.node.0 _ (step_scans T R)) front
