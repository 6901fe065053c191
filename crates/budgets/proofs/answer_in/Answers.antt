-- `budgets::answer_in` meets its contract.
use mathlib.Core.Path.{sym, ◌∙◌}
use Rattle.fields.proofs.Written.{writes_same}
use Rattle.budgets.proofs.Sizing.{missing_text, line_inside, fault_text, passed_text, passed_size}
use Rattle.budgets.proofs.answer_in.Goals as goal

pub returns-in_default : goal.returns-in_default
returns-in_default c = writes_same (missing_text c.args.bytes.now (sym c.line_at.ensures.answer ∙ c.in_default.is)) c.write_refusal.ensures

pub overflow_sub-bytes : goal.overflow_sub-bytes
overflow_sub-bytes c = line_inside c.args.bytes.now _ (sym c.line_at.ensures.answer ∙ c.in-Some.is) c.line_at.ensures.list

pub returns-in-Err : goal.returns-in-Err
returns-in-Err c =
    writes_same
    (fault_text c.args.bytes.now _ (sym c.line_at.ensures.answer ∙ c.in-Some.is) c.line_at.ensures.list
    (sym c.size_check.ensures ∙ c.in-Err.is)) c.write_refusal-in-Err.ensures

pub write_size-requires : goal.write_size-requires
write_size-requires c =
    record {
      segments_value = passed_size c.args.bytes.now _ (sym c.line_at.ensures.answer ∙ c.in-Some.is) c.line_at.ensures.list
          (sym c.size_check.ensures ∙ c.in_default-size_check.is);
      in_bounds = c.requires;
    }

pub returns : goal.returns
returns c =
    writes_same
    (passed_text c.args.bytes.now _ (sym c.line_at.ensures.answer ∙ c.in-Some.is) c.line_at.ensures.list
    (sym c.size_check.ensures ∙ c.in_default-size_check.is)) c.write_size.ensures
