-- What `convert` prints for every road file, C, source and K (document 02, papers 1 and 5).
use Rattle.std.specs.Prelude.{ℕ, ◌+◌, ◌≤◌, cond, ◌≡◌, List, ◌∷◌, ◌++◌, ltb, length, take, replicate, Ok, Err}
use Rattle.model.specs.Answers.{Check, fault_of, words_after}
use Rattle.model.specs.declared.Kind.TheVariants.{InputSize}
use Rattle.theory.specs.Runs.{Inputs, inputs}
use Rattle.theory.specs.declared.Levels.TheVariants.{Two}
use Rattle.checks.specs.Checks.{first_fault, map_checks, levels_checks}
use Rattle.fields.specs.Writing.{Writes}
use Rattle.dimacs_checks.specs.Checking.{road_check}
use Rattle.dimacs.specs.Roads.{road_starts, road_heads, road_costs, road_inputs}
use Rattle.report.specs.Report.{refused_text}
use Rattle.plan_text.specs.Files.{plan_file}

-- ---- the text

-- 13 before any line is read, then the reader's checks of a road file, with `plan`'s limits (document 01, "Planning file"; document 02,
-- papers 1 and 5).
unfoldable pub road_file_check : (bytes : List ℕ) → (C : ℕ) → Check
road_file_check bytes C = cond (ltb 65536 (length bytes)) (Err (fault_of InputSize 0)) (road_check bytes C 513 2048 2048)

-- The reader's checks, then the writer's: a run's numbers, 9 included. The output is always long enough (document 02, paper 5).
unfoldable pub conversion_check : (bytes : List ℕ) → (C source K : ℕ) → Check
conversion_check bytes C source K = first_fault (road_file_check bytes C ∷ (map_checks (road_inputs bytes C source) ++ levels_checks (Two K)))

-- A file, or the line of a refusal (document 01, "Planning file").
abbrev pub text_or_refusal : Check → (text : List ℕ) → List ℕ
text_or_refusal (Ok tt) text = text
text_or_refusal (Err fault) text = refused_text fault

-- What `convert` prints: the planning file of the road file's map, with holds of 0 (document 02, paper 5).
unfoldable pub conversion_text : (bytes : List ℕ) → (C source K : ℕ) → List ℕ
conversion_text bytes C source K = text_or_refusal (conversion_check bytes C source K) (plan_file (road_inputs bytes C source) K)

-- ---- the promise

-- The text is written, and the lists hold the map of a road file that is read (document 02, papers 1 and 5).
pub record ConversionPromised (bytes : List ℕ) (C source K : ℕ) (starts heads costs starts' heads' costs' output output' : List ℕ) (size : ℕ) : Type 0
  where
    pub text : Writes 0 (conversion_text bytes C source K) output output' size
    pub starts_after : starts' ≡ words_after (road_file_check bytes C) (road_starts bytes) starts
    pub heads_after : heads' ≡ words_after (road_file_check bytes C) (road_heads bytes) heads
    pub costs_after : costs' ≡ words_after (road_file_check bytes C) (road_costs bytes) costs

-- ---- what the code goes by

-- The words and bytes that `convert` lends: a file of 512 nodes and 2,048 arcs has at most 29 + 18 × 2,048 + 8 × 512 bytes (document 02,
-- paper 5).
pub record ConversionLends (starts heads costs output : List ℕ) : Type 0 where
  pub starts_words : length starts ≡ 513
  pub heads_words : length heads ≡ 2048
  pub costs_words : length costs ≡ 2048
  pub output_bytes : length output ≡ 40992

-- What the writer is given of a map of n nodes and m arcs that stands at the front of the lists, with holds of 0 (document 02, paper 5).
abbrev pub front_inputs : (n m C source : ℕ) → (starts heads costs : List ℕ) → Inputs
front_inputs n m C source starts heads costs = inputs n C source (take (n + 1) starts) (take m heads) (take m costs) (replicate n 0)

-- The map is within the lists, and the output takes the line of a refusal (document 02, paper 5).
pub record FrontFits (n m : ℕ) (starts heads costs output : List ℕ) : Type 0 where
  pub starts_fit : n + 1 ≤ length starts
  pub heads_fit : m ≤ length heads
  pub costs_fit : m ≤ length costs
  pub nodes_fit : n ≤ 512
  pub output_fits : 64 ≤ length output
