-- `batch_deposits::Batch::transfer_items` meets its contract.
use Rattle.batch_deposits.proofs.Loops.{Underway}
use Rattle.batch_deposits.proofs.Batch.transfer_items.Given as goal

abbrev pub invariant-loop-i : goal.invariant-loop-i
invariant-loop-i l = Underway l.self.items.rec.now l.self.token.address l.self.items.count l.initial.img l.i l.img l.events
