-- `dimacs::read` meets its contract: nothing is written where a check fails, and the lists are filled where all pass.
use mathlib.Core.Path.{◌≡◌, sym, ◌∙◌, subst}
use mathlib.Core.List.{List}
use lib.ListN.{length}
use Prim.Native.Nat.{ℕ}
use borrow.Author.Rules.{rules}
use Rattle.std.specs.Prelude.{Ok, Err}
use Rattle.dimacs_checks.specs.Finding.{ProblemFound}
use Rattle.dimacs_checks.specs.Checking.{road_check}
use Rattle.dimacs.proofs.Answered.{refused_promised, no_problem_promised, road_check_is, fillable, read_promised}
use Rattle.dimacs.proofs.read.Goals as goal

-- ---- no `p` line

pub returns-in_err-nodes : goal.returns-in_err-nodes
returns-in_err-nodes c =
    let a = c.args in
    let bytes : List ℕ = a.bytes.now in
    let found : ProblemFound bytes (Err c.in_err-nodes.field-0.0) = subst (ProblemFound bytes) c.in_err-nodes.was c.find_problem.ensures in
    let same : c.from_residual.result ≡ Err c.in_err-nodes.field-0.0 = search rules in
    rw same (no_problem_promised bytes a.ceiling a.starts.now a.heads.now a.costs.now found.told)

pub problem_check-requires : goal.problem_check-requires
problem_check-requires c =
    let bytes : List ℕ = c.args.bytes.now in
    let found : ProblemFound bytes (Ok c.in_ok-nodes.field-0) = subst (ProblemFound bytes) c.in_ok-nodes.was c.find_problem.ensures in
    record { line_le_at = found.within.0; at_in_bounds = found.within.1 }

pub returns-in_err-problem_check : goal.returns-in_err-problem_check
returns-in_err-problem_check c =
    let a = c.args in
    let bytes : List ℕ = a.bytes.now in
    let at : ℕ = c.in_ok-nodes.field-0.at in
    let found : ProblemFound bytes (Ok c.in_ok-nodes.field-0) = subst (ProblemFound bytes) c.in_ok-nodes.was c.find_problem.ensures in
    let checks : c.problem_check.result ≡ road_check bytes a.ceiling (length a.starts.now) (length a.heads.now) (length a.costs.now) =
    c.problem_check.ensures ∙ sym (road_check_is bytes a.ceiling a.starts.now a.heads.now a.costs.now at found.told) in
    let same : c.from_residual-in_err-problem_check.result ≡ Err c.in_err-problem_check.field-0.0 = search rules in
    rw same (refused_promised bytes a.ceiling a.starts.now a.heads.now a.costs.now (sym checks ∙ c.in_err-problem_check.was))

-- ---- every check has passed

pub fill-requires : goal.fill-requires
fill-requires c =
    let a = c.args in
    let bytes : List ℕ = a.bytes.now in
    let at : ℕ = c.in_ok-nodes.field-0.at in
    let found : ProblemFound bytes (Ok c.in_ok-nodes.field-0) = subst (ProblemFound bytes) c.in_ok-nodes.was c.find_problem.ensures in
    let checks : c.problem_check.result ≡ road_check bytes a.ceiling (length a.starts.now) (length a.heads.now) (length a.costs.now) =
    c.problem_check.ensures ∙ sym (road_check_is bytes a.ceiling a.starts.now a.heads.now a.costs.now at found.told) in
    fillable bytes a.ceiling a.starts.now a.heads.now a.costs.now at found.told found.within.1 (sym checks ∙ c.in_ok-problem_check.was)

pub returns : goal.returns
returns c =
    let a = c.args in
    let bytes : List ℕ = a.bytes.now in
    let at : ℕ = c.in_ok-nodes.field-0.at in
    let found : ProblemFound bytes (Ok c.in_ok-nodes.field-0) = subst (ProblemFound bytes) c.in_ok-nodes.was c.find_problem.ensures in
    let checks : c.problem_check.result ≡ road_check bytes a.ceiling (length a.starts.now) (length a.heads.now) (length a.costs.now) =
    c.problem_check.ensures ∙ sym (road_check_is bytes a.ceiling a.starts.now a.heads.now a.costs.now at found.told) in
    read_promised bytes a.ceiling a.starts.now a.heads.now a.costs.now at found.told (sym checks ∙ c.in_ok-problem_check.was) c.fill.ensures
