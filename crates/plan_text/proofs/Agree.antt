-- Two planning files have the same bytes exactly if their maps, C, sources and K agree. Assumes nothing.
use Prim.Native.Nat.{ℕ, ◌≤◌}
use mathlib.Core.Path.{◌≡◌, sym, ◌∙◌, ap}
use mathlib.Core.List.{List}
use Rattle.theory.specs.Runs.{Inputs, ValidInputs}
use Rattle.reader.specs.Plans.{plan_of, plan_run}
use Rattle.plan_text.specs.Files.{arcs_of, plan_file, Agree}
use Rattle.plan_text.proofs.Files.{file_run, file_segments}

-- Equal bytes tell the same (document 02, paper 5).
pub files_agree : (I : Inputs) (K : ℕ) → ValidInputs I → 2 ≤ K → K ≤ 64 → (I' : Inputs) (K' : ℕ) → ValidInputs I' → 2 ≤ K' → K' ≤ 64
    → plan_file I K ≡ plan_file I' K' → Agree I I' K K'
files_agree I K valid low high I' K' valid' low' high' e =
    let same : I ≡ I' =
    sym (file_run I K valid low high) ∙ ap (λ (bytes : List ℕ). plan_run (plan_of bytes)) e ∙ file_run I' K' valid' low' high' in
    record {
      nodes = ap (λ (run : Inputs). run.map.nodes) same;
      arcs = ap (λ (run : Inputs). arcs_of run.map) same;
      ceiling = ap (λ (run : Inputs). run.ceiling) same;
      source = ap (λ (run : Inputs). run.source) same;
      segments = sym (file_segments I K valid low high) ∙ ap (λ (bytes : List ℕ). (plan_of bytes).header.segments) e ∙ file_segments I' K' valid' low' high';
      holds = ap (λ (run : Inputs). run.map.holds) same;
    }

-- What agrees has equal bytes (document 02, paper 5).
pub agree_files : {I I' : Inputs} {K K' : ℕ} → Agree I I' K K' → plan_file I K ≡ plan_file I' K'
unfolding plan_file
agree_files a = cc
