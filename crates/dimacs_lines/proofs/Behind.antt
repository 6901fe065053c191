-- The lines of a road file by their places in the bytes: the bytes that a line takes, and the lines behind it. Assumes nothing.
use Prim.Native.Nat.{ℕ, zero, suc, ◌+◌, ◌-◌, ◌≤◌, ◌<◌}
use native.Mathlib.Omega.{arith}
use mathlib.Core.Path.{◌≡◌, refl, ◌∙◌, ap, subst}
use mathlib.Core.Bool.{Bool, true, false, cond, ◌&&◌, false≢true}
use mathlib.Core.List.{List, [], ◌∷◌}
use lib.Dec.{eqb}
use lib.ListN.{length, drop, length-drop, drop_of_length-le}
use lib.Seq.{drop-drop}
use Rattle.std.specs.Prelude.{Option, Some, None}
use Rattle.fields.specs.Fields.{Line, line_feed, line}
use Rattle.fields.specs.Fields as fields
use Rattle.fields.proofs.Lines as fields-lines
use Rattle.dimacs_lines.specs.declared.RoadLine.{RoadLine}
use Rattle.dimacs_lines.specs.declared.Told.TheVariants.{Comment}
use Rattle.dimacs_lines.specs.Lines.{space, comment_prefix, problem_prefix, arc_prefix, begins, line_of, comment_from, problem_of, problem_line, road_arc_of, road_arc_line, road_line, line_and_behind, lines_from, road_lines}

-- ---- the bytes that a line takes

-- A line takes one byte at the least, and no more than there are.
abbrev Takes : (most : ℕ) → Option RoadLine → Type 0
Takes most None = Unit {0}
Takes most (Some line) = (1 ≤ line.taken) × (line.taken ≤ most)

-- bytes that begin with a prefix are as many as it has
pub begins_fits : (prefix bytes : List ℕ) → begins prefix bytes ≡ true → length prefix ≤ length bytes
unfolding begins
begins_fits [] bytes e = omega arith
begins_fits (letter ∷ prefix) [] e = absurd (false≢true e)
begins_fits (letter ∷ prefix) (byte ∷ bytes) e = go (eqb byte letter) e (begins_fits prefix bytes)
  where
    go : (t : Bool) → (t && begins prefix bytes) ≡ true → (begins prefix bytes ≡ true → length prefix ≤ length bytes)
        → suc (length prefix) ≤ suc (length bytes)
    go true e rest = let l = rest e in omega arith
    go false e rest = absurd (false≢true e)

comment_takes : (taken most : ℕ) (bytes : List ℕ) → taken + length bytes ≤ most → Takes most (comment_from taken bytes)
unfolding comment_from
comment_takes taken most [] h = tt
comment_takes taken most (byte ∷ bytes) h = go (eqb byte line_feed) (comment_takes (suc taken) most bytes (omega arith))
  where
    go : (t : Bool) → Takes most (comment_from (suc taken) bytes) → Takes most (cond t (Some (line_of Comment (suc taken))) (comment_from (suc taken) bytes))
    go true rest = (omega arith, omega arith)
    go false rest = rest

-- numbers that `of` tells the meaning of, `count` of them behind `skipped` bytes
numbers_takes : (of : Line → Option RoadLine) (count skipped : ℕ) (bytes : List ℕ) → skipped ≤ length bytes → Takes (length bytes) (of fields.NoLine)
    → ((values : List ℕ) (taken : ℕ) → skipped + taken ≤ length bytes → Takes (length bytes) (of (fields.Numbers values taken)))
    → Takes (length bytes) (of (line space count (drop skipped bytes)))
numbers_takes of count skipped bytes h none numbers = go (line space count (drop skipped bytes)) refl
  where
    go : (found : Line) → line space count (drop skipped bytes) ≡ found → Takes (length bytes) (of found)
    go fields.NoLine e = none
    go (fields.Numbers values taken) e =
        numbers values taken
        (omega (arith, fields-lines.line_within space count (omega arith) (drop skipped bytes) values taken e, length-drop skipped bytes))

problem_takes : (bytes : List ℕ) → 5 ≤ length bytes → Takes (length bytes) (problem_line bytes)
problem_takes bytes h = numbers_takes problem_of 2 5 bytes h tt (λ values taken l. (omega arith, l))

arc_takes : (bytes : List ℕ) → 2 ≤ length bytes → Takes (length bytes) (road_arc_line bytes)
arc_takes bytes h = numbers_takes road_arc_of 3 2 bytes h tt (λ values taken l. (omega arith, l))

line_takes : (bytes : List ℕ) → Takes (length bytes) (road_line bytes)
unfolding road_line
line_takes bytes =
    either (begins comment_prefix bytes) (comment_from 0 bytes) _ (λ e. comment_takes 0 (length bytes) bytes (omega arith))
    (either (begins problem_prefix bytes) (problem_line bytes) _ (λ e. problem_takes bytes (begins_fits problem_prefix bytes e))
    (either (begins arc_prefix bytes) (road_arc_line bytes) None (λ e. arc_takes bytes (begins_fits arc_prefix bytes e)) tt))
  where
    either : (t : Bool) (one other : Option RoadLine) → (t ≡ true → Takes (length bytes) one) → Takes (length bytes) other
        → Takes (length bytes) (cond t one other)
    either true one other f rest = f refl
    either false one other f rest = rest

line_taken : (bytes : List ℕ) {line : RoadLine} → road_line bytes ≡ Some line → (1 ≤ line.taken) × (line.taken ≤ length bytes)
line_taken bytes e = subst (Takes (length bytes)) e (line_takes bytes)

pub line_some : (bytes : List ℕ) {line : RoadLine} → road_line bytes ≡ Some line → 1 ≤ line.taken
line_some bytes e = (line_taken bytes e).0

pub line_within : (bytes : List ℕ) (at : ℕ) {line : RoadLine} → at ≤ length bytes → road_line (drop at bytes) ≡ Some line → at + line.taken ≤ length bytes
line_within bytes at h e = omega (arith, (line_taken (drop at bytes) e).1, length-drop at bytes)

-- ---- the lines behind a line

-- bytes that belong to the line before are passed over
passed_over : (passed : ℕ) (bytes : List ℕ) → lines_from passed bytes ≡ road_lines (drop passed bytes)
unfolding lines_from
passed_over zero bytes = refl
passed_over (suc passed) [] = refl
passed_over (suc passed) (byte ∷ bytes) = passed_over passed bytes

behind : (taken byte : ℕ) (bytes : List ℕ) → 1 ≤ taken → lines_from (taken - 1) bytes ≡ road_lines (drop taken (byte ∷ bytes))
behind zero byte bytes l = absurd (omega arith)
behind (suc taken) byte bytes l =
    let e : suc taken - 1 ≡ taken = omega arith in
    rw e (passed_over taken bytes)

-- The line at the front, and those behind the bytes that it takes.
lines_front : (bytes : List ℕ) → 1 ≤ length bytes → road_lines bytes ≡ line_and_behind (road_line bytes) (λ taken. road_lines (drop taken bytes))
unfolding lines_from
lines_front [] l = absurd (omega arith)
lines_front (byte ∷ bytes) l = go (road_line (byte ∷ bytes)) refl
  where
    go : (found : Option RoadLine) → road_line (byte ∷ bytes) ≡ found
        → line_and_behind found (λ taken. lines_from (taken - 1) bytes) ≡ line_and_behind found (λ taken. road_lines (drop taken (byte ∷ bytes)))
    go None e = refl
    go (Some line) e = ap (λ (lines : List (Option RoadLine)). Some line ∷ lines) (behind line.taken byte bytes (line_some (byte ∷ bytes) e))

pub lines_at : (bytes : List ℕ) (at : ℕ) → at < length bytes
    → road_lines (drop at bytes) ≡ line_and_behind (road_line (drop at bytes)) (λ taken. road_lines (drop (at + taken) bytes))
lines_at bytes at l = lines_front (drop at bytes) (omega (arith, length-drop at bytes)) ∙ simp drop-drop

pub lines_end : (bytes : List ℕ) (at : ℕ) → length bytes ≤ at → road_lines (drop at bytes) ≡ []
unfolding lines_from
lines_end bytes at l = ap road_lines (drop_of_length-le bytes l)
