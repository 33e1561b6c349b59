-- The number of each refusal, and of an answer that may be one.
use Rattle.std.specs.Prelude.{ℕ, Result, Ok, Err}
use Rattle.refusal.specs.declared.Refusal.{Refusal}
use Rattle.refusal.specs.declared.Refusal.TheVariants.{NotInitialized, AlreadyInitialized, NotAuthorized, InvalidAmount, DepositExceedsMax, LimitExceeded, ArithmeticOverflow, ContractPaused, InvalidToken, TokenNotApproved, VaultBalanceChanged, DepositTransferFailed, WithdrawTransferFailed, InvalidParam, NoPendingOwner, NotPendingOwner, PendingOwnerExpired, AlreadyPaused, NotPaused, NoMigrationProposed, TimelockNotExpired, SignatureMissing, TokenCallFailed, InvalidImage, InvalidJournal, InvalidRecord, InvalidEventBuffer, JournalFull, NoTransaction, TransactionOpen, NothingToUndo, InvalidTollBounds}

abbrev pub number_of : Refusal → ℕ
number_of NotInitialized = 1
number_of AlreadyInitialized = 2
number_of NotAuthorized = 3
number_of InvalidAmount = 4
number_of DepositExceedsMax = 5
number_of LimitExceeded = 6
number_of ArithmeticOverflow = 7
number_of ContractPaused = 8
number_of InvalidToken = 9
number_of TokenNotApproved = 10
number_of VaultBalanceChanged = 11
number_of DepositTransferFailed = 12
number_of WithdrawTransferFailed = 13
number_of InvalidParam = 14
number_of NoPendingOwner = 15
number_of NotPendingOwner = 16
number_of PendingOwnerExpired = 17
number_of AlreadyPaused = 18
number_of NotPaused = 19
number_of NoMigrationProposed = 20
number_of TimelockNotExpired = 21
number_of SignatureMissing = 22
number_of TokenCallFailed = 23
number_of InvalidImage = 30
number_of InvalidJournal = 31
number_of InvalidRecord = 32
number_of InvalidEventBuffer = 33
number_of JournalFull = 34
number_of NoTransaction = 35
number_of TransactionOpen = 36
number_of NothingToUndo = 37
number_of InvalidTollBounds = 46

-- the number of an answer: that of its refusal, and 0 where there is none
abbrev pub code : {T : Type 0} → Result T Refusal → ℕ
code (Ok _) = 0
code (Err e) = number_of e
