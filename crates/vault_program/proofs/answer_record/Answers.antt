-- `answer_record` meets its contract.
use Rattle.std.proofs.Common.{refl, rules, arith, FitsSigned}
use Rattle.std.specs.Int.{w128}
use Rattle.amount.specs.Value.{value}
use Rattle.answer_line.specs.Lengths.{line_length}
use Rattle.journal.specs.Step.{blank}
use Rattle.vault_program.specs.Program.{record_step}
use Rattle.vault_program.proofs.Lines.{prints}
use Rattle.vault_program.proofs.answer_record.Goals as goal

pub returns : goal.returns
unfolding record_step blank value
returns c =
    let p = c.printed.ensures in
    let a = c.printed.result in
    let f : FitsSigned w128 a.value.0 = search rules in
    let short = line_length a.number a.value.0 a.events (omega arith) f (omega arith) in
    (prints c.call_without_journal.ensures.answered c.call_without_journal.ensures.changed p.0 p.1 p.2 refl, omega arith)
