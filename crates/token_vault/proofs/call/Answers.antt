-- `token_vault::call` meets its contract.
use Rattle.journal.specs.Calls.{operation}
use Rattle.storage.specs.Facts.{facts}
use Rattle.token_vault.proofs.Called.{stops, replies, good_state, bad_state, bad_call, view_step, operated_is, looked, head_view, head_no_view}
use Rattle.token_vault.proofs.Accepted.{call_long, form_zero}
use Rattle.refusal.specs.Laws.{some_number}
use Rattle.outcome.specs.Outcome.{silent}
use mathlib.Core.Path.{refl, sym}
use Rattle.token_vault.proofs.call.Goals as goal

pub returns-in_err-state_check : goal.returns-in_err-state_check
returns-in_err-state_check c =
    let x = c.args in
    let e = c.in_err-state_check.ensures in
    let s = silent _ _ c.from_residual.ensures in
    stops _ _ (bad_state x.image.now x.journal.now c.good_image-is_image_good.ensures e (operation x.«record».now x.events.now) (some_number _)) s refl

pub returns-in_err-parsed : goal.returns-in_err-parsed
returns-in_err-parsed c =
    let x = c.args in
    let (g, h) = good_state _ _ c.good_image-is_image_good.ensures c.in_ok-state_check.ensures refl in
    stops _ _ (bad_call x.image.now x.journal.now x.«record».now x.events.now g h c.in_err-parsed.ensures.number (some_number _)) (silent _ _ c.from_residual-in_err-parsed.ensures) refl

pub unwrap-image-requires : goal.unwrap-image-requires
unwrap-image-requires c = c.as_mut_array.ensures.variant.1 (facts _ (good_state _ _ c.good_image-is_image_good.ensures c.in_ok-state_check.ensures refl).0).long

pub unwrap-events-requires : goal.unwrap-events-requires
unwrap-events-requires c = c.as_mut_array-2.ensures.variant.1 (call_long _ _ (sym c.in_ok-parsed.ensures.number)).1

pub run_view-requires : goal.run_view-requires
run_view-requires c =
    let i = rw c.unwrap-image.ensures at c.as_mut_array.ensures in
    rw i.cases.same (facts _ (good_state _ _ c.good_image-is_image_good.ensures c.in_ok-state_check.ensures refl).0)

pub returns-in-View : goal.returns-in-View
returns-in-View c =
    let x = c.args in
    let (g, k) = good_state _ _ c.good_image-is_image_good.ensures c.in_ok-state_check.ensures refl in
    let i = rw c.unwrap-image.ensures at c.as_mut_array.ensures in
    let h = c.in_ok-parsed.ensures in
    let w = rw i.cases.same at c.run_view.ensures in
    rw i.cases.same
    (replies (view_step x.image.now x.journal.now x.«record».now x.events.now g k (head_view x.«record».now c.in_ok-parsed.parsed.head c.in-View.view (rw h.parsed at c.in_ok-parsed.parsed.read) c.in-View.is))
    (looked x.image.now x.«record».now x.events.now c.in_ok-parsed.parsed.head c.in-View.view _ (form_zero _ _ (sym h.number)) (call_long _ _ (sym h.number)).1 (rw h.parsed at c.in_ok-parsed.parsed.read) c.in-View.is w.0 w.1))

pub run_operation-requires : goal.run_operation-requires
run_operation-requires c =
    let (g, k) = good_state _ _ c.good_image-is_image_good.ensures c.in_ok-state_check.ensures refl in
    let i = rw c.unwrap-image.ensures at c.as_mut_array.ensures in
    rw i.cases.same (facts _ g, k)

pub returns : goal.returns
returns c =
    let x = c.args in
    let (g, k) = good_state _ _ c.good_image-is_image_good.ensures c.in_ok-state_check.ensures refl in
    let i = rw c.unwrap-image.ensures at c.as_mut_array.ensures in
    let e = rw c.unwrap-events.ensures at c.as_mut_array-2.ensures in
    rw (operated_is x.image.now x.journal.now x.«record».now x.events.now g k (head_no_view x.«record».now c.in_ok-parsed.parsed.head (rw c.in_ok-parsed.ensures.parsed at c.in_ok-parsed.parsed.read) c.in_default.not-View))
    (rw (i.cases.same, e.cases.same, c.in_ok-parsed.ensures.parsed) at c.run_operation.ensures)
