-- The number of each fault, and of an answer that may be one; and whether the lines were written.
use Rattle.std.specs.Prelude.{◌≡◌, ℕ, Result, Ok, Err, Bool, true, false}
use Rattle.std.proofs.Common.{arith}
use Rattle.token_vault_vectors.specs.declared.Fault.{Fault}
use Rattle.token_vault_vectors.specs.declared.Stop.{Stop}
use Rattle.token_vault_vectors.specs.declared.Stop.TheVariants.{Faulty, Unwritten}
use Rattle.token_vault_vectors.specs.declared.Fault.TheVariants.{HeadCut, ImageTooLong, JournalTooLong, HeadNotZero, ImageCut, JournalCut, CallCut, Kind, CallNotZero, Needless, RecordTooLong, EventsTooLong, RecordCut}

abbrev pub number_of : Fault → ℕ
number_of HeadCut = 1
number_of ImageTooLong = 2
number_of JournalTooLong = 3
number_of HeadNotZero = 4
number_of ImageCut = 5
number_of JournalCut = 6
number_of CallCut = 7
number_of Kind = 8
number_of CallNotZero = 9
number_of Needless = 10
number_of RecordTooLong = 11
number_of EventsTooLong = 12
number_of RecordCut = 13

-- 0 where there is none
abbrev pub code : {T : Type 0} → Result T Fault → ℕ
code (Ok _) = 0
code (Err fault) = number_of fault

abbrev pub fault_of : {T : Type 0} → Result T Stop → ℕ
fault_of (Ok _) = 0
fault_of (Err (Faulty fault)) = number_of fault
fault_of (Err (Unwritten _)) = 0

abbrev pub is_written : {T : Type 0} → Result T Stop → Bool
is_written (Ok _) = true
is_written (Err (Faulty _)) = true
is_written (Err (Unwritten _)) = false

-- no fault has the number 0
pub some_number : (fault : Fault) → number_of fault ≡ 0 → ⊥
some_number HeadCut h = absurd (omega arith)
some_number ImageTooLong h = absurd (omega arith)
some_number JournalTooLong h = absurd (omega arith)
some_number HeadNotZero h = absurd (omega arith)
some_number ImageCut h = absurd (omega arith)
some_number JournalCut h = absurd (omega arith)
some_number CallCut h = absurd (omega arith)
some_number Kind h = absurd (omega arith)
some_number CallNotZero h = absurd (omega arith)
some_number Needless h = absurd (omega arith)
some_number RecordTooLong h = absurd (omega arith)
some_number EventsTooLong h = absurd (omega arith)
some_number RecordCut h = absurd (omega arith)
