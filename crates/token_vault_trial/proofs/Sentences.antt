-- How long the line of a fault is.
use Rattle.std.proofs.Common.{◌≤◌, refl, length, leb-true}
use Rattle.token_vault_trial.specs.declared.Fault.{Fault}
use Rattle.token_vault_trial.specs.declared.Fault.TheVariants.{NotThree, Start, First, Count, FirstIsZero, LastTooLarge}
use Rattle.token_vault_trial.specs.Arguments.{sentences, fault_text, fault_line}
use Rattle.token_vault_trial.specs.Run.{number_of}

pub line_short : (fault : Fault) → length (fault_line (number_of fault)) ≤ 128
unfolding fault_line fault_text sentences
line_short NotThree = leb-true _ _ refl
line_short Start = leb-true _ _ refl
line_short First = leb-true _ _ refl
line_short Count = leb-true _ _ refl
line_short FirstIsZero = leb-true _ _ refl
line_short LastTooLarge = leb-true _ _ refl
