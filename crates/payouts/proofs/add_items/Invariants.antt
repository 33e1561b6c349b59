-- `payouts::add_items` meets its contract.
use Rattle.payouts.proofs.Loops.{Added}
use Rattle.amount.specs.Biased.{biased}
use Rattle.payouts.proofs.add_items.Given as goal

abbrev pub invariant-loop-i : goal.invariant-loop-i
invariant-loop-i l = Added l.listed.rec.now l.listed.count l.i (biased l.sum)
