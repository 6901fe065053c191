-- The settings of both runs, and the room that their work words give.
use Prim.Native.Nat.{ℕ, ◌+◌, ◌-◌, ◌*◌, ◌^◌, ◌≤◌, max}
use native.Mathlib.Omega.{arith}
use native.Mathlib.Nat.{mul-le-mul_right, pow-le-pow_left}
use mathlib.Core.Path.{◌≡◌, refl}
use mathlib.Core.Logic.{inl, inr}
use Rattle.theory.specs.Maps.{arcs}
use Rattle.theory.specs.Network.{network}
use Rattle.theory.specs.Shape.{ceil_log, one_level_buckets, two_level_buckets}
use Rattle.theory.proofs.Cases.{split}
use Rattle.theory.proofs.Maps.Arcs.{map_admissible}
use Rattle.theory.proofs.Shapes.Logarithm.{ceil_log_least, ceil_log_most, one_level_most, two_level_most}
use Rattle.theory.proofs.Shapes.OneLevel.{lawful_one}
use Rattle.theory.proofs.Demands.{most_segment_looks, lawful, top_is, allowed_segmented}
use Rattle.bounds.specs.Words.{Agrees}
use Rattle.sizes.specs.Sizes.{sizes_of}
use Rattle.sizes.proofs.Shapes.{one_agrees, two_agrees}
use Rattle.buckets.specs.Words.{WordsFit}
use Rattle.buckets.specs.Words.Laws.{bucket_count_lem, count_words_lem, no_count_words}
use Rattle.state.specs.declared.Layout.{Layout}
use Rattle.state.specs.Stands.{Setting}
use Rattle.theory.specs.Runs.{Inputs, Allowed, heap_buckets, segment_count, work_words, shape_of}
use Rattle.theory.specs.declared.Levels.{Levels}
use Rattle.theory.specs.declared.Levels.TheVariants.{One, Two}
use Rattle.checks.specs.Checks.{Lengths, Ready}

-- A layout from its numbers.
abbrev pub layout_of : (n B K slots : ℕ) → Layout
layout_of n B K slots = record { nodes = n; buckets = B; segments = K; slots = slots }

-- The segments of the buckets below the last are few, so that all of them have a word.
few_slots : (C K : ℕ) → C ≤ 1048575 → 2 ≤ K → K ≤ 64 → ceil_log K (C + 1) * K ≤ 300
few_slots C K few low high = elim (split K 16) [
  | inl l ↦ omega (arith, mul-le-mul_right K (ceil_log_most K (C + 1)))
  | inr l ↦ elim (split K 32) [
    | inl m ↦ omega (arith, mul-le-mul_right K (at_most 5 (omega (arith, pow-le-pow_left l 5))))
    | inr m ↦ omega (arith, mul-le-mul_right K (at_most 4 (omega (arith, pow-le-pow_left m 4))))
  ]
]
  where
    at_most : (e : ℕ) → C + 1 ≤ K ^ e → ceil_log K (C + 1) ≤ e
    at_most e h = elim (split e (ceil_log K (C + 1))) [ inl l ↦ absurd (omega (arith, ceil_log_least K (C + 1) e l)) | inr l ↦ l ]

pub two_slots : (C K : ℕ) → C ≤ 1048575 → 2 ≤ K → K ≤ 64 → (two_level_buckets C K - 1) * K ≤ 300
unfolding two_level_buckets
two_slots C K few low high = elim (split (ceil_log K (C + 1)) 1) [
  | inl l ↦ let e : max 2 (ceil_log K (C + 1) + 1) - 1 ≡ 1 = omega arith in rw e (omega arith)
  | inr l ↦ let e : max 2 (ceil_log K (C + 1) + 1) - 1 ≡ ceil_log K (C + 1) = omega arith in rw e (few_slots C K few low high)
]

-- The work words hold the lists of all segments.
pub one_fits : (n C : ℕ) → n ≤ 4096 → C ≤ 1048575 → WordsFit n (one_level_buckets C) 1 (4 * n + 64)
one_fits n C few low = record {
  long = omega (arith, one_level_most C, no_count_words (one_level_buckets C) 1 (omega arith));
  small = omega (arith, one_level_most C);
  some = omega (arith, (lawful_one n C low).two, (one_agrees n C low).buckets);
  few = omega (arith, one_level_most C);
  whole = omega arith;
}

pub two_fits : (n C K : ℕ) → n ≤ 4096 → C ≤ 1048575 → 2 ≤ K → K ≤ 64 → WordsFit n ((two_level_buckets C K - 1) * K + 1) K (4 * n + 384)
two_fits n C K few ceiling low high =
    let s = two_slots C K ceiling low high in
    let two = (two_agrees n C K ceiling low high).sized.two in
    record {
      long = omega (arith, s, two_level_most C K, count_words_lem ((two_level_buckets C K - 1) * K + 1) K (omega arith), bucket_count_lem K (two_level_buckets C K) (omega arith) (omega (arith, two)));
      small = omega (arith, s);
      some = omega arith;
      few = omega (arith, s);
      whole = omega arith;
    }

-- What sets the kinds of heap apart, each fact by the kind.
module _ (n C : ℕ) (low : C ≤ 1048575) where
  pub few_buckets : (L : Levels) → heap_buckets L C ≤ 22
  few_buckets One = one_level_most C
  few_buckets (Two K) = omega (arith, two_level_most C K)

  pub few_looks : (L : Levels) → Allowed L → most_segment_looks L ≤ 64
  few_looks One a = omega arith
  few_looks (Two K) a = a.1

  pub agrees : (L : Levels) → Allowed L → Agrees (shape_of L n C) (heap_buckets L C) (segment_count L) (sizes_of L)
  agrees One a = one_agrees n C low
  agrees (Two K) a = two_agrees n C K low a.0 a.1

  -- The segments are few, and the work words hold the lists of all of them.
  pub few_segments : (L : Levels) → Allowed L → (heap_buckets L C - 1) * segment_count L ≤ 300
  few_segments One a = omega (arith, one_level_most C)
  few_segments (Two K) a = two_slots C K low a.0 a.1

  pub fits : (L : Levels) → Allowed L → n ≤ 4096 → WordsFit n ((heap_buckets L C - 1) * segment_count L + 1) (segment_count L) (work_words L n)
  fits One a few =
      let e : (one_level_buckets C - 1) * 1 + 1 ≡ one_level_buckets C = omega (arith, (one_agrees n C low).sized.two) in
      rw e (one_fits n C few low)
  fits (Two K) a few = two_fits n C K few low a.0 a.1

-- The setting of a run that its checks let pass.
module _ {L : Levels} {I : Inputs} {room : Lengths} (ready : Ready L I room) where
  abbrev n : ℕ
  n = I.map.nodes

  abbrev C : ℕ
  C = I.ceiling

  pub enough : (network I.map I.source).nodes * C ≤ (shape_of L n C).top
  unfolding network
  enough = omega (arith, top_is L n C)

  pub nodes_same : (network I.map I.source).nodes ≡ n
  unfolding network
  nodes_same = refl

  pub buckets_two : 2 ≤ heap_buckets L C
  buckets_two = (agrees n C ready.valid.low_ceiling L ready.allowed).sized.two

  abbrev pub setting : Setting (layout_of n (heap_buckets L C) (segment_count L) ((heap_buckets L C - 1) * segment_count L + 1)) (sizes_of L)
  setting = record {
    network = network I.map I.source;
    shape = shape_of L n C;
    ceiling = C;
    segment_looks = most_segment_looks L;
    few_looks = few_looks n C ready.valid.low_ceiling L ready.allowed;
    arcs = arcs I.map;
    admissible = map_admissible ready.valid;
    lawful = lawful n C ready.valid.low_ceiling L (allowed_segmented L ready.allowed);
    room = enough;
    agrees = agrees n C ready.valid.low_ceiling L ready.allowed;
    nodes = nodes_same;
    slots = refl;
  }

  pub slots_few : (heap_buckets L C - 1) * segment_count L ≤ 300
  slots_few = few_segments n C ready.valid.low_ceiling L ready.allowed

  pub work_fits : WordsFit n ((heap_buckets L C - 1) * segment_count L + 1) (segment_count L) (work_words L n)
  work_fits = fits n C ready.valid.low_ceiling L ready.allowed ready.valid.sound.few_nodes

  pub top_same : (shape_of L n C).top ≡ n * C + 1
  top_same = top_is L n C
