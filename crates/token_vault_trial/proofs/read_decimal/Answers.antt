-- No text, a sign, a zero in front, or what `parse` answers.
use Rattle.token_vault_trial.proofs.read_decimal.Goals.{then-is_empty-via-then-is_empty, then-is_empty-via-else-is_empty+then-text-eq43, else-text-gt1-via-then-text-gt1+else-text-eq48, else-text-gt1-via-else-text-gt1}
use Rattle.std.proofs.Common.{◌≡◌, ◌<◌, ◌∙◌, ap, arith, eqb-true, get_or, length, sym}
use Rattle.std.proofs.lemmas.Bool.{eqb-false}
use Rattle.token_vault_trial.specs.Run.{reading_of}
use Rattle.token_vault_trial.proofs.Read.{empty_text, sign_in_front, zero_in_front, no_text, parsed}
use Rattle.token_vault_trial.proofs.read_decimal.Goals as goal

pub returns-then-is_empty : goal.returns-then-is_empty
returns-then-is_empty c =
    let t = c.args.text.now in
    elim c.then-is_empty.branch [
      | then-is_empty-via-then-is_empty w ↦ sym (empty_text t (eqb-true (length t) 0 (sym c.is_empty.ensures ∙ w.if-is_empty.true)))
      | then-is_empty-via-else-is_empty+then-text-eq43 w ↦ sym (sign_in_front t w.if-text-eq43.true)
    ]

pub returns-then-text-eq48 : goal.returns-then-text-eq48
returns-then-text-eq48 c = sym (zero_in_front c.args.text.now c.if-text-gt1.true c.if-text-eq48.true)

pub returns-in_default : goal.returns-in_default
returns-in_default c =
    let t = c.args.text.now in
    let some = eqb-false (length t) 0 (sym c.is_empty.ensures ∙ c.if-is_empty.false) in
    let zero : 1 < length t → get_or t 0 0 ≡ 48 → ⊥ = elim c.else-text-gt1.branch [
      | else-text-gt1-via-then-text-gt1+else-text-eq48 w ↦ λ _. w.if-text-eq48.false
      | else-text-gt1-via-else-text-gt1 w ↦ λ h _. omega (arith, w.if-text-gt1.false)
    ] in
    no_text t (omega (arith, some)) zero c.in_default.ensures.cases.0

pub returns : goal.returns
returns c =
    let t = c.args.text.now in
    let some = eqb-false (length t) 0 (sym c.is_empty.ensures ∙ c.if-is_empty.false) in
    let zero : 1 < length t → get_or t 0 0 ≡ 48 → ⊥ = elim c.else-text-gt1.branch [
      | else-text-gt1-via-then-text-gt1+else-text-eq48 v ↦ λ _. v.if-text-eq48.false
      | else-text-gt1-via-else-text-gt1 v ↦ λ h _. omega (arith, v.if-text-gt1.false)
    ] in
    ap reading_of c.ok.ensures.value
    ∙ parsed t (omega (arith, some)) zero c.parse.result c.if-text-eq43.false (rw c.in-Ok.ensures.cases.0 at c.parse.ensures.value.0)
