-- `token_vault::preview` meets its contract.
use mathlib.Core.Path.{refl, sym, ◌∙◌}
use Rattle.storage.specs.Facts.{facts}
use Rattle.refusal.specs.Laws.{some_number}
use Rattle.outcome.specs.Outcome.{silent}
use Rattle.token_vault.proofs.Previewed.{preview_good, preview_30, preview_malformed}
use Rattle.token_vault.proofs.Called.{good_pick, bad_pick, stopped}
use Rattle.token_vault.proofs.Accepted.{call_long}
use Rattle.token_vault.proofs.preview.Goals as goal

pub returns-in_err-refuse_if : goal.returns-in_err-refuse_if
returns-in_err-refuse_if c =
    let x = c.args in
    let (f, n) = bad_pick _ _ c.in_err-refuse_if.ensures in
    stopped 30 _ (preview_30 x.image.now x.«record».now x.events.now (sym c.good_image.ensures ∙ f)) (let s = silent _ _ c.from_residual.ensures in (s.0 ∙ n, s.1, s.2)) refl

pub returns-in_err-parsed : goal.returns-in_err-parsed
returns-in_err-parsed c =
    let x = c.args in
    stopped _ _ (preview_malformed x.image.now x.«record».now x.events.now (sym c.good_image.ensures ∙ good_pick _ c.in_ok-refuse_if.ensures) c.in_err-parsed.ensures.number (some_number _)) (silent _ _ c.from_residual-in_err-parsed.ensures) refl

pub unwrap-image-requires : goal.unwrap-image-requires
unwrap-image-requires c = c.as_array.ensures.variant.1 (facts _ (sym c.good_image.ensures ∙ good_pick _ c.in_ok-refuse_if.ensures)).long

pub unwrap-events-requires : goal.unwrap-events-requires
unwrap-events-requires c = c.as_mut_array.ensures.variant.1 (call_long _ _ (sym c.in_ok-parsed.ensures.number)).1

pub preview_operation-requires : goal.preview_operation-requires
preview_operation-requires c =
    let i = rw c.unwrap-image.ensures at c.as_array.ensures in
    rw i.cases.same (facts _ (sym c.good_image.ensures ∙ good_pick _ c.in_ok-refuse_if.ensures))

pub returns : goal.returns
returns c =
    let x = c.args in
    let i = rw c.unwrap-image.ensures at c.as_array.ensures in
    let e = rw c.unwrap-events.ensures at c.as_mut_array.ensures in
    rw (preview_good x.image.now x.«record».now x.events.now (sym c.good_image.ensures ∙ good_pick _ c.in_ok-refuse_if.ensures))
    (rw (i.cases.same, e.cases.same, c.in_ok-parsed.ensures.parsed) at c.preview_operation.ensures)
