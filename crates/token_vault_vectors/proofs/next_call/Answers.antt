-- A call that is answered, whether its line was written or not.
use Rattle.std.proofs.Common.{List, ℕ, refl, subst, ◌∙◌}
use Rattle.std.specs.Io.KnownBytes.{Appends}
use Rattle.token_vault_vectors.proofs.Parsed.{taken, no_fault, nothing_said}
use Rattle.token_vault_vectors.proofs.next_call.Goals as goal

pub returns-in_err-line : goal.returns-in_err-line
returns-in_err-line g c =
    let r = c.from_residual-in_err-line.ensures in
    taken _ c.in_ok-head.ensures c.answer_call-answer.ensures.0 (no_fault _ _ r) (nothing_said _ _ r.0)

pub returns-in_err-write_step_line : goal.returns-in_err-write_step_line
returns-in_err-write_step_line g c =
    let r = c.from_residual-in_err-write_step_line.ensures in
    taken _ c.in_ok-head.ensures c.answer_call-answer.ensures.0 (no_fault _ _ r) (nothing_said _ _ r.0)

pub returns : goal.returns
returns g c =
    taken _ c.in_ok-head.ensures c.answer_call-answer.ensures.0 refl
    (subst (λ (l : List ℕ). Appends (g.O.Write.contents c.args.output.now) (g.O.Write.contents c.write_step_line.new.output) l)
    (c.as_bytes.ensures.value ∙ c.as_str.ensures.value ∙ c.in_ok-line.ensures) c.in_ok-write_step_line.ensures)
