-- A key that is found to be in a segment belongs there, by the division (document 01, "Two-level heap").
use Prim.Native.Nat.{ℕ, ◌-◌, ◌≤◌, ◌<◌}
use mathlib.Core.Path.{◌≡◌}
use mathlib.Core.Bool.{true}
use mathlib.Core.List.{List}
use lib.Dec.{ltb}
use borrow.Author.Tests.{ltb-true}
use Rattle.bounds.specs.Words.{size_of, segmented, segment_number, segment_end, in_segment}
use Rattle.bounds.proofs.Segments.{number_near}

pub segment_belongs : (B K : ℕ) (sizes : List ℕ) (i u k x : ℕ) → k ≤ K → x < segment_end B K sizes i u k → in_segment B K sizes i u k x ≡ true
    → segmented B K i ≡ true → segment_number B K sizes i u x ≡ k
unfolding in_segment
segment_belongs B K sizes i u k x high under e s =
    let near : ltb (segment_end B K sizes i u k - x) (size_of sizes (i - 1)) ≡ true = rw s at e in
    number_near B K sizes i u x k s high under (ltb-true _ (size_of sizes (i - 1)) near)
