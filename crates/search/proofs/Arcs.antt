-- The arcs of a scan are taken one by one, whatever heap the words stand for.
use Prim.Native.Nat.{ℕ, suc, ◌+◌, ◌-◌, ◌<◌, ◌≤◌}
use native.Mathlib.Omega.{arith}
use native.Mathlib.Numerals.{add-one}
use mathlib.Core.Path.{◌≡◌, refl, ◌∙◌}
use mathlib.Core.List.Memᴰ
use mathlib.Core.List.{List, [], ◌∷◌}
use lib.ListN.{get_or}
use Rattle.theory.specs.Network.{Link, links_from}
use Rattle.theory.specs.Heap.{Heap, heap_relax, heap_relax_all}
use Rattle.theory.proofs.Heap.Run.{relax_relaxing}
use Rattle.state.specs.declared.Layout.{Layout}
use Rattle.state.specs.declared.State.{State}
use Rattle.state.specs.Stands.{Setting, Lists, Stands}
use Rattle.placing.specs.Placing.{lists, link, Relaxes, SomeRelaxes}
use Rattle.search.specs.Scans.{links_between, Scans, SomeScans}

-- The link of one arc, which costs `hold` besides itself.
abbrev pub link_of : (heads costs : List ℕ) → (hold a : ℕ) → Link
link_of heads costs hold a = link a (get_or heads a 0) (get_or costs a 0 + hold)

links_next : (heads costs : List ℕ) (hold a last : ℕ) → a < last → links_between heads costs hold a last ≡ link_of heads costs hold a ∷ links_between heads costs hold (a + 1) last
unfolding links_from
links_next heads costs hold a last less =
    let e : last - a ≡ suc (last - (a + 1)) = omega arith in
    rw (e, add-one)

links_end : (heads costs : List ℕ) (hold a : ℕ) → links_between heads costs hold a a ≡ []
unfolding links_from
links_end heads costs hold a = let e : a - a ≡ 0 = omega arith in rw e

-- Some heap for which the words stand with the arcs from a on left, and from which taking them leads to the heap `end`.
record Leads {layout : Layout} {sizes : List ℕ} (X : Setting layout sizes) (before : List ℕ) (u : ℕ) (l : Lists) (s : State) (heads costs : List ℕ) (hold a last : ℕ) (end : Heap) : Type 0 where
  heap : Heap
  scans : Scans X before u heap l s heads costs hold a last
  same : heap_relax_all X.shape s.front (links_between heads costs hold a last) heap ≡ end

module _ {layout : Layout} {sizes : List ℕ} {X : Setting layout sizes} {before : List ℕ} {u : ℕ} {l : Lists} {s : State} {heads costs : List ℕ} {hold a last : ℕ} where
  module _ {h : Heap} (S : Scans X before u h l s heads costs hold a last) (less : a < last) where
    next_relaxes : Relaxes X before u (link_of heads costs hold a) (links_between heads costs hold (a + 1) last) h l s
    next_relaxes =
        let e = links_next heads costs hold a last less in
        record { stands = S.stands; relaxing = rw e at S.relaxing; member = S.members _ (rw e (Memᴰ.head refl)) }

    module _ {l' : Lists} {s' : State} (T : Stands layout X.shape before (heap_relax X.shape s.front (link_of heads costs hold a) h) l' s') (front : s'.front ≡ s.front) where
      next_scans : Scans X before u (heap_relax X.shape s.front (link_of heads costs hold a) h) l' s' heads costs hold (a + 1) last
      next_scans =
          let R = next_relaxes in
          record {
            stands = T;
            relaxing = rw front (relax_relaxing X.admissible X.lawful X.room R.member R.relaxing);
            members = λ k q. S.members k (rw (links_next heads costs hold a last less) (Memᴰ.tail q));
            rising = omega arith;
            heads_long = S.heads_long;
            costs_long = S.costs_long;
            few = S.few;
            sums_low = λ i low high. S.sums_low i (omega arith) high;
          }

      next_leads : {end : Heap} → heap_relax_all X.shape s.front (links_between heads costs hold a last) h ≡ end → Leads X before u l' s' heads costs hold (a + 1) last end
      unfolding heap_relax_all
      next_leads same = record {
        heap = heap_relax X.shape s.front (link_of heads costs hold a) h;
        scans = next_scans;
        same = rw front (rw (links_next heads costs hold a last less) at same);
      }

  end_stands : {end : Heap} → Leads X before u l s heads costs hold a last end → a ≡ last → Stands layout X.shape before end l s
  unfolding heap_relax_all
  end_stands L e = rw (rw (e, links_end heads costs hold last) at L.same) at L.scans.stands

-- Whatever heap the words stood for when the scan began, with the arcs from a on left they lead where it leads.
pub record Scanned (layout : Layout) (sizes heads costs : List ℕ) (hold first last : ℕ) (words₀ distances₀ parents₀ : List ℕ) (s₀ : State) (words distances parents : List ℕ) (s : State) (a : ℕ) : Type 0 where
  pub from : first ≤ a
  pub within : a ≤ last
  pub front : s.front ≡ s₀.front
  leads : (X : Setting layout sizes) (before roster : List ℕ) (u : ℕ) (h : Heap) → Scans X before u h (lists words₀ distances₀ parents₀ roster) s₀ heads costs hold first last
      → Leads X before u (lists words distances parents roster) s heads costs hold a last (heap_relax_all X.shape s₀.front (links_between heads costs hold first last) h)

pub scanned_start : {layout : Layout} {sizes heads costs : List ℕ} {hold first last : ℕ} {words distances parents : List ℕ} {s : State} → first ≤ last
    → Scanned layout sizes heads costs hold first last words distances parents s words distances parents s first
scanned_start rising = record { from = omega arith; within = rising; front = refl; leads = λ X before roster u h S. record { heap = h; scans = S; same = refl } }

module _ {layout : Layout} {sizes heads costs : List ℕ} {hold first last : ℕ} {words₀ distances₀ parents₀ : List ℕ} {s₀ : State} {words distances parents : List ℕ} {s : State} {a : ℕ}
    (D : Scanned layout sizes heads costs hold first last words₀ distances₀ parents₀ s₀ words distances parents s a) where
  pub scanned_some : SomeScans layout sizes words₀ distances₀ parents₀ s₀ heads costs hold first last → a < last
      → SomeRelaxes layout sizes words distances parents s (link_of heads costs hold a)
  scanned_some P less =
      let L = D.leads P.setting P.before P.roster P.tail P.heap P.scans in
      record { setting = P.setting; before = P.before; roster = P.roster; tail = P.tail; left = _; heap = L.heap; relaxes = next_relaxes L.scans less }

  pub scanned_next : a < last → {words' distances' parents' : List ℕ} {s' : State}
      → ((X : Setting layout sizes) (before roster : List ℕ) (u : ℕ) (ls : List Link) (h : Heap) → Relaxes X before u (link_of heads costs hold a) ls h (lists words distances parents roster) s
      → Stands layout X.shape before (heap_relax X.shape s.front (link_of heads costs hold a) h) (lists words' distances' parents' roster) s')
      → s'.front ≡ s.front
      → Scanned layout sizes heads costs hold first last words₀ distances₀ parents₀ s₀ words' distances' parents' s' (a + 1)
  scanned_next less stands front = record {
    from = omega (arith, D.from);
    within = omega arith;
    front = front ∙ D.front;
    leads = λ X before roster u h S.
        let L = D.leads X before roster u h S in
        next_leads L.scans less (stands X before roster u _ L.heap (next_relaxes L.scans less)) front L.same;
  }

  pub scanned_end : last ≤ a → (X : Setting layout sizes) (before roster : List ℕ) (u : ℕ) (h : Heap) → Scans X before u h (lists words₀ distances₀ parents₀ roster) s₀ heads costs hold first last
      → Stands layout X.shape before (heap_relax_all X.shape s₀.front (links_between heads costs hold first last) h) (lists words distances parents roster) s
  scanned_end over X before roster u h S = end_stands (D.leads X before roster u h S) (omega (arith, D.within))
