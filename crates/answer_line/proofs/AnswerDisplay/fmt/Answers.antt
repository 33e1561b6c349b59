-- The text of an answer is that of the definition.
use Rattle.std.proofs.Common.{refl, append-nil, rules, FitsSigned, arith}
use Rattle.std.specs.Int.{w128}
use Rattle.std.proofs.Output.{has_written_of_eq}
use Rattle.std.proofs.Math.Facts.{to_z-of_z}
use Rattle.amount.specs.Value.{value}
use Rattle.answer_line.proofs.Printed.{decimal_printed, signed_printed}
use Rattle.answer_line.specs.Decimal.{answer_words, answer_text, value_text, events_text}
use Rattle.answer_line.proofs.AnswerDisplay.fmt.Goals as goal

pub returns-clause-writes : goal.returns-clause-writes
unfolding answer_words answer_text value_text events_text value
returns-clause-writes g c = λ plain ok.
    let a = c.args.self.now in
    let f : FitsSigned w128 a.value.0 = search rules in
    has_written_of_eq _ _ _ _ _
    (rw (to_z-of_z f, decimal_printed a.number (omega arith), signed_printed a.value.0 f, decimal_printed a.events (omega arith), append-nil) refl)
    (c.write.ensures.writes plain ok)
