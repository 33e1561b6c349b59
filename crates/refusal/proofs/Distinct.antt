-- Each refusal is the first of the list of all that has its number, so no two have the same.
use Rattle.std.specs.Prelude.{◌≡◌, List, [], ◌∷◌, ℕ, ◌==◌, Option, Some, None, refl}
use Rattle.std.proofs.Common.{ap, sym, ◌∙◌}
use Rattle.fields.specs.Rules.{pick}
use Rattle.refusal.specs.declared.Refusal.{Refusal}
use Rattle.refusal.specs.declared.Refusal.TheVariants.{NotInitialized, AlreadyInitialized, NotAuthorized, InvalidAmount, DepositExceedsMax, LimitExceeded, ArithmeticOverflow, ContractPaused, InvalidToken, TokenNotApproved, VaultBalanceChanged, DepositTransferFailed, WithdrawTransferFailed, InvalidParam, NoPendingOwner, NotPendingOwner, PendingOwnerExpired, AlreadyPaused, NotPaused, NoMigrationProposed, TimelockNotExpired, SignatureMissing, TokenCallFailed, InvalidImage, InvalidJournal, InvalidRecord, InvalidEventBuffer, JournalFull, NoTransaction, TransactionOpen, NothingToUndo, InvalidTollBounds}
use Rattle.refusal.specs.Numbers.{number_of}
use Rattle.refusal.specs.Laws.{some_number}
use Rattle.refusal.specs.Distinct.{DistinctNumbers}

all_refusals : List Refusal
all_refusals =
    NotInitialized
    ∷ AlreadyInitialized
    ∷ NotAuthorized
    ∷ InvalidAmount
    ∷ DepositExceedsMax
    ∷ LimitExceeded
    ∷ ArithmeticOverflow
    ∷ ContractPaused
    ∷ InvalidToken
    ∷ TokenNotApproved
    ∷ VaultBalanceChanged
    ∷ DepositTransferFailed
    ∷ WithdrawTransferFailed
    ∷ InvalidParam
    ∷ NoPendingOwner
    ∷ NotPendingOwner
    ∷ PendingOwnerExpired
    ∷ AlreadyPaused
    ∷ NotPaused
    ∷ NoMigrationProposed
    ∷ TimelockNotExpired
    ∷ SignatureMissing
    ∷ TokenCallFailed
    ∷ InvalidImage
    ∷ InvalidJournal
    ∷ InvalidRecord
    ∷ InvalidEventBuffer
    ∷ JournalFull
    ∷ NoTransaction
    ∷ TransactionOpen
    ∷ NothingToUndo
    ∷ InvalidTollBounds ∷ []

-- the first refusal of a list that has the number n
with_number : List Refusal → ℕ → Option Refusal
with_number [] n = None
with_number (e ∷ es) n = pick (n == number_of e) (Some e) (with_number es n)

named : (e : Refusal) → with_number all_refusals (number_of e) ≡ Some e
unfolding all_refusals with_number
named NotInitialized = refl
named AlreadyInitialized = refl
named NotAuthorized = refl
named InvalidAmount = refl
named DepositExceedsMax = refl
named LimitExceeded = refl
named ArithmeticOverflow = refl
named ContractPaused = refl
named InvalidToken = refl
named TokenNotApproved = refl
named VaultBalanceChanged = refl
named DepositTransferFailed = refl
named WithdrawTransferFailed = refl
named InvalidParam = refl
named NoPendingOwner = refl
named NotPendingOwner = refl
named PendingOwnerExpired = refl
named AlreadyPaused = refl
named NotPaused = refl
named NoMigrationProposed = refl
named TimelockNotExpired = refl
named SignatureMissing = refl
named TokenCallFailed = refl
named InvalidImage = refl
named InvalidJournal = refl
named InvalidRecord = refl
named InvalidEventBuffer = refl
named JournalFull = refl
named NoTransaction = refl
named TransactionOpen = refl
named NothingToUndo = refl
named InvalidTollBounds = refl

abbrev or_else : Refusal → Option Refusal → Refusal
or_else e None = e
or_else e (Some f) = f

some_same : (e f : Refusal) → ◌≡◌ {A = Option Refusal} (Some e) (Some f) → e ≡ f
some_same e f h = ap (or_else e) h

pub distinct_numbers : DistinctNumbers
distinct_numbers = record { some = some_number; distinct = λ e f h. some_same e f (sym (named e) ∙ ap (with_number all_refusals) h ∙ named f) }
