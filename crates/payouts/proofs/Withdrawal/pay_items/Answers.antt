-- `payouts::Withdrawal::pay_items` meets its contract. By hand: the invariant holds a list, which the search does not guess.
use Rattle.payouts.proofs.Loops.{pay_ends, pay_stops, pay_goes_on}
use Rattle.payouts.proofs.Steps.{passed_pays}
use Rattle.refusal.specs.Laws.{some_number}
use mathlib.Core.Path.{refl}
use native.Mathlib.Omega.{arith}
use Rattle.payouts.proofs.Withdrawal.pay_items.Goals as goal

pub returns-in_err-pay : goal.returns-in_err-pay
returns-in_err-pay c =
    passed_pays _ _ c.from_residual.ensures
    (pay_stops _ _ _ _ _ _ _ c.loop-i.invariant (omega arith) c.get-item.ensures.0 c.get-item.ensures.1 c.in_err-pay.ensures (some_number _))

pub loop-i-preserved : goal.loop-i-preserved
loop-i-preserved c = pay_goes_on _ _ _ _ _ _ _ c.loop-i.invariant (omega arith) c.get-item.ensures.0 c.get-item.ensures.1 c.in_ok-pay.ensures refl

pub returns : goal.returns
returns c = pay_ends _ _ _ _ _ _ _ c.loop-i.invariant (omega arith)
