-- What the program does: the arguments as it has read them, its faults by their numbers, and the records that are asked for.
use Rattle.std.specs.Prelude.{◌≡◌, List, ℕ, ◌+◌, ◌^◌, ◌<◌, ◌≤◌, Option, Some, None, is_some, Result, Ok, Err, IfOk}
use Rattle.trial_records.specs.Trial.{records_from, reached_from}
use Rattle.token_vault_trial.specs.Arguments.{Reading, malformed, number, argument_fault}
use Rattle.token_vault_trial.specs.declared.Arguments.{Arguments}
use Rattle.token_vault_trial.specs.declared.order.Records.{Records}
use Rattle.token_vault_trial.specs.declared.Fault.{Fault}
use Rattle.token_vault_trial.specs.declared.Fault.TheVariants.{NotThree, Start, First, Count, FirstIsZero, LastTooLarge}

-- what was read of an argument, and its number, 0 where it has none
abbrev pub reading_of : Option ℕ → Reading
reading_of None = malformed
reading_of (Some n) = number n

abbrev pub number_or_zero : Option ℕ → ℕ
number_or_zero None = 0
number_or_zero (Some n) = n

-- the number of a fault, and of an answer: 0 where nothing is wrong
abbrev pub number_of : Fault → ℕ
number_of NotThree = 1
number_of Start = 2
number_of First = 3
number_of Count = 4
number_of FirstIsZero = 5
number_of LastTooLarge = 6

abbrev pub code : {T : Type 0} → Result T Fault → ℕ
code (Ok _) = 0
code (Err fault) = number_of fault

-- what is wrong with the arguments as they were read
abbrev pub fault_of : Arguments → ℕ
fault_of a = argument_fault a.words (is_some a.start) (is_some a.first) (is_some a.count) (number_or_zero a.first) (number_or_zero a.count)

-- the records that the numbers ask for, none of which is refused
pub record IsOrder (start first count : ℕ) (r : Records) : Type 0 where
  pub last : r.last ≡ start
  pub next : r.next ≡ first
  pub left : r.left ≡ count
  pub positive : 1 ≤ r.next
  pub within : r.next + r.left ≤ 2 ^ 32

-- l is the n records that follow the first `made` of those that the numbers `start` and `first` give
abbrev pub IsPiece : (start first made n : ℕ) → (l : List ℕ) → Type 0
IsPiece start first made n l = l ≡ records_from (reached_from start made) (first + made) n

-- a run whose arguments have the fault f, and the number of records that it made: none, or all, unless a write failed
pub record RunIs {E : Type 0} (f count : ℕ) (result : Result ℕ E) : Type 0 where
  pub none_made : 0 < f → IfOk result (λ made. made ≡ 0)
  pub all_made : f ≡ 0 → IfOk result (λ made. made ≡ count)
