-- How long the line of a fault is.
use Rattle.std.proofs.Common.{◌≤◌, refl, length, leb-true}
use Rattle.token_vault_vectors.specs.declared.Fault.{Fault}
use Rattle.token_vault_vectors.specs.declared.Fault.TheVariants.{HeadCut, ImageTooLong, JournalTooLong, HeadNotZero, ImageCut, JournalCut, CallCut, Kind, CallNotZero, Needless, RecordTooLong, EventsTooLong, RecordCut}
use Rattle.token_vault_vectors.specs.Faults.{sentences, fault_text, fault_line}
use Rattle.token_vault_vectors.specs.Numbers.{number_of}

pub line_short : (fault : Fault) → length (fault_line (number_of fault)) ≤ 128
unfolding fault_line fault_text sentences
line_short HeadCut = leb-true _ _ refl
line_short ImageTooLong = leb-true _ _ refl
line_short JournalTooLong = leb-true _ _ refl
line_short HeadNotZero = leb-true _ _ refl
line_short ImageCut = leb-true _ _ refl
line_short JournalCut = leb-true _ _ refl
line_short CallCut = leb-true _ _ refl
line_short Kind = leb-true _ _ refl
line_short CallNotZero = leb-true _ _ refl
line_short Needless = leb-true _ _ refl
line_short RecordTooLong = leb-true _ _ refl
line_short EventsTooLong = leb-true _ _ refl
line_short RecordCut = leb-true _ _ refl
