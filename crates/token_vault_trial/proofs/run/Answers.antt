-- What is wrong is said.
use Rattle.std.proofs.Common.{ℕ, subst}
use Rattle.std.specs.Io.KnownBytes.{Appends}
use Rattle.token_vault_trial.specs.Arguments.{fault_line}
use Rattle.token_vault_trial.proofs.run.Goals as goal

pub returns-in_ok-write_fault-in-Err-clause-said : goal.returns-in_ok-write_fault-in-Err-clause-said
returns-in_ok-write_fault-in-Err-clause-said g c = λ _.
    subst (λ (n : ℕ). Appends (g.E.Write.contents c.args.error.now) (g.E.Write.contents c.write_fault.new.error) (fault_line n))
    c.in-Err.ensures.fault c.in_ok-write_fault-in-Err.ensures
