-- `record::parse` meets its contract.
use Rattle.std.proofs.Common.{sym, ◌∙◌}
use Rattle.refusal.specs.Laws.{code_passed, refused_if}
use Rattle.record.proofs.Decoded.{decoded, undecoded}
use Rattle.record.proofs.Form.{no_operation, passed_if, head_refused, items_refused, good_form}
use native.Mathlib.Omega.{arith}
use Rattle.record.proofs.parse.Goals as goal

pub returns-in_err-operation-clause-number : goal.returns-in_err-operation-clause-number
returns-in_err-operation-clause-number c =
    let u = undecoded c.in-Ok.rec.now _ c.try_from-2.ensures _ c.in_err-operation.was in
    rw (code_passed _ _ c.from_residual.ensures, u.1) (no_operation _ _ c.in-Ok.ensures.1 u.0)

pub returns-in_err-refuse_if-clause-number : goal.returns-in_err-refuse_if-clause-number
returns-in_err-refuse_if-clause-number c =
    let d = decoded c.in-Ok.rec.now _ c.try_from-2.ensures _ c.in_ok-operation.was in
    let h = refused_if _ _ c.in_err-refuse_if.ensures in
    rw (code_passed _ _ c.from_residual-in_err-refuse_if.ensures, h.1) (head_refused _ _ c.in-Ok.ensures.1 _ d (sym c.head_exceeds.ensures ∙ h.0))

pub returns-in_err-refuse_if-2-clause-number : goal.returns-in_err-refuse_if-2-clause-number
returns-in_err-refuse_if-2-clause-number c =
    let d = decoded c.in-Ok.rec.now _ c.try_from-2.ensures _ c.in_ok-operation.was in
    let g = passed_if _ c.in_ok-refuse_if.ensures in
    let h = refused_if _ _ c.in_err-refuse_if-2.ensures in
    rw (code_passed _ _ c.from_residual-in_err-refuse_if-2.ensures, h.1) (items_refused _ _ c.in-Ok.ensures.1 _ d (sym c.head_exceeds.ensures ∙ g) (sym c.items_exceed.ensures ∙ h.0))

pub invariant_of-result : goal.invariant_of-result
invariant_of-result c =
    let d = decoded c.in-Ok.rec.now _ c.try_from-2.ensures _ c.in_ok-operation.was in
    record {
      good_form = good_form _ _ c.in-Ok.ensures.1 _ d (sym c.head_exceeds.ensures ∙ passed_if _ c.in_ok-refuse_if.ensures) (sym c.items_exceed.ensures ∙ passed_if _ c.in_ok-refuse_if-2.ensures) (λ i. omega (arith, c.type_inv.rec i));
      read = c.head.ensures;
    }
