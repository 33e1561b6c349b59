-- `token_vault::run_operation` meets its contract.
use Rattle.token_vault.proofs.Called.{blank_is, kept_full, kept-done, stops, replies}
use Rattle.token_vault.specs.Vault.{op}
use Rattle.journal.proofs.Dispatch.{operated-refused}
use Rattle.journal.specs.Step.{vault, blank}
use Rattle.image.specs.Layout.{cells}
use Rattle.refusal.specs.Laws.{some_number}
use mathlib.Core.Path.{refl, sym, ◌∙◌}
use Rattle.std.proofs.lemmas.Result.{err_from_is_err_and}
use Rattle.token_vault.proofs.run_operation.Goals as goal

pub returns-in_err-done : goal.returns-in_err-done
returns-in_err-done c =
    let x = c.args in
    let t = c.in_err-done.ensures in
    let p = err_from_is_err_and c.from_residual.result c.from_residual.ensures.1 in
    rw (p.1, p.2)
    (replies (operated-refused cells (vault x.image.now x.journal.now) (op x.image.now x.parsed.rec.now x.events.now) _ (λ z. some_number _ (t.answered.numbered ∙ z))) t.answered)

pub returns-in-Err : goal.returns-in-Err
returns-in-Err c =
    let x = c.args in
    let t = c.in_ok-done.ensures in
    let z = sym t.answered.numbered in
    let f = kept_full x.image.now _ x.journal.now c.in-Err.ensures (op x.image.now x.parsed.rec.now x.events.now) z (t.changed z) (some_number _) in
    rw (f.2, f.3) (stops 34 blank f.0 (f.1, refl, refl) (c.clear_events.ensures ∙ blank_is))

pub returns : goal.returns
returns c =
    let x = c.args in
    let t = c.in_ok-done.ensures in
    let z = sym t.answered.numbered in
    replies (kept-done x.image.now _ x.journal.now c.in_default.ensures (op x.image.now x.parsed.rec.now x.events.now) z (t.changed z) refl) t.answered
