-- `next_record` meets its contract.
use Rattle.std.proofs.Common.{arith}
use Rattle.vault_program.proofs.Taken.{text_read, all_read}
use Rattle.vault_program.proofs.next_record.Goals as goal

pub returns-clause-answered : goal.returns-clause-answered
returns-clause-answered g c =
    let r = c.read_full-read in
    (all_read _ r.new.buf r.result (omega arith) (rw (text_read c.args.image.now r.new.buf r.result (omega arith)) at c.answer_read-written.ensures.answered), omega arith)

pub returns-clause-printed : goal.returns-clause-printed
returns-clause-printed g c =
    let r = c.read_full-read in
    rw (text_read c.args.image.now r.new.buf r.result (omega arith)) at c.answer_read-written.ensures.printed
