-- The tallies as one value: what each event makes of them, and those of the steps (document 01, "The tallies"; document 02, paper 3).
use Rattle.std.specs.Prelude.{ℕ, ◌+◌}
use Rattle.theory.specs.Search.{Mark, inserted, decreased}
use Rattle.theory.specs.Heap.{Heap}
use Rattle.state.specs.declared.Tally.{Tally}

-- What is counted (document 01, "The tallies"; document 02, paper 3).
pub data Event : Type 0 where
  insertion : Event
  decrease : Event
  shifts : ℕ → Event
  looks : ℕ → Event
  reads : ℕ → Event

-- The tallies after an event (document 01, "The tallies"; document 02, paper 3).
abbrev pub after_event : Event → Tally → Tally
after_event insertion t =
    record { insertions = t.insertions + 1; decreases = t.decreases; shifts = t.shifts; looks = t.looks; reads = t.reads }
after_event decrease t =
    record { insertions = t.insertions; decreases = t.decreases + 1; shifts = t.shifts; looks = t.looks; reads = t.reads }
after_event (shifts k) t =
    record { insertions = t.insertions; decreases = t.decreases; shifts = t.shifts + k; looks = t.looks; reads = t.reads }
after_event (looks k) t =
    record { insertions = t.insertions; decreases = t.decreases; shifts = t.shifts; looks = t.looks + k; reads = t.reads }
after_event (reads k) t =
    record { insertions = t.insertions; decreases = t.decreases; shifts = t.shifts; looks = t.looks; reads = t.reads + k }

-- The tallies of the steps (document 01, "The tallies"; document 02, paper 3).
abbrev pub counts_of : Heap → Tally
counts_of h =
    record { insertions = h.search.insertions; decreases = h.search.decreases; shifts = h.shifts; looks = h.looks; reads = h.reads }

-- The tallies after a node with this mark gets a distance, and its search has read so many bounds (document 01, "The tallies"; document
-- 02, paper 3).
abbrev pub after_label : Mark → (read : ℕ) → Tally → Tally
after_label m read t = record {
  insertions = t.insertions + inserted m;
  decreases = t.decreases + decreased m;
  shifts = t.shifts;
  looks = t.looks;
  reads = t.reads + read;
}

-- The tallies after so many shifts, whose searches have read so many bounds (document 01, "The tallies"; document 02, paper 3).
abbrev pub after_shifts : (shifted read : ℕ) → Tally → Tally
after_shifts shifted read t = after_event (reads read) (after_event (shifts shifted) t)

-- The tallies after a removal with these shifts, looks and reads (document 01, "The tallies"; document 02, paper 3).
abbrev pub after_removal : (shifted looked read : ℕ) → Tally → Tally
after_removal shifted looked read t = after_shifts shifted read (after_event (looks looked) t)
