-- `batch_deposits::add_items` meets its contract.
use Rattle.batch_deposits.proofs.Loops.{Added}
use Rattle.amount.specs.Biased.{biased}
use Rattle.batch_deposits.proofs.add_items.Given as goal

abbrev pub invariant-loop-i : goal.invariant-loop-i
invariant-loop-i l = Added l.items.rec.now l.signers l.items.count l.i (biased l.sum)
