-- The kinds of line, by what the bytes begin with. Assumes nothing.
use Prim.Native.Nat.{ℕ}
use mathlib.Core.Path.{◌≡◌}
use mathlib.Core.Bool.{true, false}
use mathlib.Core.List.{List}
use Rattle.std.specs.Prelude.{None}
use Rattle.dimacs_lines.specs.Lines.{comment_prefix, problem_prefix, arc_prefix, begins, comment_from, problem_line, road_arc_line, road_line}

module _ (bytes : List ℕ) where
  pub line_comment : begins comment_prefix bytes ≡ true → comment_from 0 bytes ≡ road_line bytes
  unfolding road_line
  line_comment e = rw e

  module _ (c : begins comment_prefix bytes ≡ false) where
    pub line_problem : begins problem_prefix bytes ≡ true → problem_line bytes ≡ road_line bytes
    unfolding road_line
    line_problem e = rw (c, e)

    module _ (p : begins problem_prefix bytes ≡ false) where
      pub line_arc : begins arc_prefix bytes ≡ true → road_arc_line bytes ≡ road_line bytes
      unfolding road_line
      line_arc e = rw (c, p, e)

      pub line_none : begins arc_prefix bytes ≡ false → None ≡ road_line bytes
      unfolding road_line
      line_none e = rw (c, p, e)
