-- Nothing is written where the room is too small.
use Prim.Native.Nat.{ℕ}
use mathlib.Core.Path.{◌≡◌, sym, ap, ◌∙◌}
use lib.ListN.{length}
use borrow.Author.Rules.{rules}
use Rattle.std.specs.Prelude.{Err}
use Rattle.model.specs.Answers.{Check}
use Rattle.check_numbers.specs.Numbers.{lent_check}
use Rattle.checks.proofs.Sizes.{passed_lent}
use Rattle.writer.proofs.Answered.{refused_answered, text_answered}
use Rattle.writer.proofs.write_text.Goals as goal

-- the room is held against the length of the text
room_is : {found : Check} {size needed : ℕ} (room : ℕ) → found ≡ lent_check 0 room size → size ≡ needed → found ≡ lent_check 0 room needed
room_is room e f = e ∙ ap (λ (k : ℕ). lent_check 0 room k) f

pub returns-in_err-lent_check : goal.returns-in_err-lent_check
returns-in_err-lent_check c =
    let same : c.from_residual.result ≡ Err c.in_err-lent_check.field-0.0 = search rules in
    rw same (refused_answered (sym (room_is (length c.args.bytes.now) c.lent_check.ensures c.text_length-length.ensures) ∙ c.in_err-lent_check.was))

pub put_text-requires : goal.put_text-requires
put_text-requires c = record {
  text_lines = c.requires;
  told_in_bounds =
      passed_lent 0 (length c.args.bytes.now) _
      (sym (room_is (length c.args.bytes.now) c.lent_check.ensures c.text_length-length.ensures) ∙ c.in_ok-lent_check.was);
}

pub returns : goal.returns
returns c =
    text_answered (sym (room_is (length c.args.bytes.now) c.lent_check.ensures c.text_length-length.ensures) ∙ c.in_ok-lent_check.was)
    c.text_length-length.ensures c.put_text.ensures
