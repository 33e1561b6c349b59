-- `payouts::Withdrawal::pay_items` meets its contract.
use Rattle.payouts.proofs.Loops.{Paying}
use Rattle.amount.specs.Biased.{num}
use Rattle.payouts.proofs.Withdrawal.pay_items.Given as goal

abbrev pub invariant-loop-i : goal.invariant-loop-i
invariant-loop-i l = Paying l.listed.rec.now l.self.token.address l.self.sequence l.self.caller.number (num l.self.by_operator) l.listed.count l.initial.img l.initial.events l.i l.img l.events
