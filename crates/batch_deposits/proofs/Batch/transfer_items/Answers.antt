-- `batch_deposits::Batch::transfer_items` meets its contract. By hand: the invariant holds a list, which the search does not guess.
use mathlib.Core.Path.{refl, ◌∙◌}
use Rattle.batch_deposits.proofs.Loops.{stops, goes_on, ends}
use Rattle.refusal.specs.Laws.{code_passed, some_number}
use native.Mathlib.Omega.{arith}
use Rattle.batch_deposits.proofs.Batch.transfer_items.Goals as goal

pub returns-in_err-transfer_item-clause-value : goal.returns-in_err-transfer_item-clause-value
returns-in_err-transfer_item-clause-value c =
    code_passed _ _ c.from_residual.ensures ∙ stops _ _ _ _ _ _ _ c.loop-i.invariant (omega arith) c.in_err-transfer_item.ensures.value (some_number _)

pub loop-i-preserved : goal.loop-i-preserved
loop-i-preserved c =
    let b = c.args.self in
    let y = c.in_ok-transfer_item.ensures in
    goes_on _ _ _ _ _ _ _ c.loop-i.invariant (omega arith) y.value b.items.fit (b.items.addressed c.loop-i.i (omega arith)) (b.above c.loop-i.i (omega arith)) refl y.img_after y.events_after

pub returns : goal.returns
returns c = let e = ends _ _ _ _ _ _ _ c.loop-i.invariant (omega arith) in record { value = e.0; img_after = (e.1, e.2) }
