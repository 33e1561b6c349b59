-- The text of a fault is its sentence.
use Rattle.token_vault_trial.proofs.FaultDisplay.fmt.Goals.{in-NotThree, in-Start, in-First, in-Count, in-FirstIsZero, in-LastTooLarge}
use Rattle.std.proofs.Common.{◌≡◌, refl}
use Rattle.std.proofs.Output.{has_written_of_eq}
use Rattle.token_vault_trial.specs.Arguments.{sentences, fault_text}
use Rattle.token_vault_trial.specs.Run.{number_of}
use Rattle.token_vault_trial.proofs.FaultDisplay.fmt.Goals as goal

pub returns-clause-writes : goal.returns-clause-writes
unfolding sentences fault_text
returns-clause-writes g c = λ plain ok.
    let text : c.match-self.write_str.now ≡ fault_text (number_of c.args.self.now) = elim c.match-self.branch [
      | in-NotThree w ↦ rw (w.write_str-is, w.in-NotThree.is) refl
      | in-Start w ↦ rw (w.write_str-is, w.in-Start.is) refl
      | in-First w ↦ rw (w.write_str-is, w.in-First.is) refl
      | in-Count w ↦ rw (w.write_str-is, w.in-Count.is) refl
      | in-FirstIsZero w ↦ rw (w.write_str-is, w.in-FirstIsZero.is) refl
      | in-LastTooLarge w ↦ rw (w.write_str-is, w.in-LastTooLarge.is) refl
    ] in
    has_written_of_eq _ _ _ _ _ text (c.write_str.ensures.writes plain ok)
