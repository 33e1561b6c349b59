-- The number of each operation, and the operation of each number; no two operations have one number.
use Rattle.std.specs.Prelude.{◌≡◌, refl, List, [], ◌∷◌, Bool, true, ◌&&◌, ℕ, zero, suc, ◌+◌, ◌<◌, ◌≤◌, eqb, length, Option, Some, None}
use Rattle.std.proofs.Common.{arith, eqb-true, ap, sym, ◌∙◌}
use Rattle.fields.specs.Rules.{and_left, and_right}
use Rattle.record.specs.declared.operation.Operation.{Operation}
use Rattle.record.specs.declared.operation.Operation.TheVariants.{Initialize, Deposit, DepositWithFee, BatchDeposit, Withdraw, WithdrawBatch, DepositToken, WithdrawToken, DepositWithFailureReport, SetOperatorWithdrawLimit, SetLimit, SetTokenMaxLimit, SetOperator, RevokeOperator, ProposeOwner, AcceptOwner, SetOwnerProposalTtl, Pause, Unpause, ApproveToken, InitiateEmergencyMigration, ExecuteEmergencyMigration, CancelEmergencyMigration, View, OutsideMove, Freeze}
use Rattle.record.specs.declared.operation.View.TheVariants.{Balance, EffectiveWithdrawLimit, GetTokenAccountBalance, IsTokenApproved, IsTokenCompliant}
use Rattle.record.specs.Views.{view_number}

abbrev pub operation_number : Operation → ℕ
operation_number Initialize = 1
operation_number Deposit = 2
operation_number DepositWithFee = 3
operation_number BatchDeposit = 4
operation_number Withdraw = 5
operation_number WithdrawBatch = 6
operation_number DepositToken = 7
operation_number WithdrawToken = 8
operation_number DepositWithFailureReport = 9
operation_number SetOperatorWithdrawLimit = 10
operation_number SetLimit = 11
operation_number SetTokenMaxLimit = 12
operation_number SetOperator = 13
operation_number RevokeOperator = 14
operation_number ProposeOwner = 15
operation_number AcceptOwner = 16
operation_number SetOwnerProposalTtl = 17
operation_number Pause = 18
operation_number Unpause = 19
operation_number ApproveToken = 20
operation_number InitiateEmergencyMigration = 21
operation_number ExecuteEmergencyMigration = 22
operation_number CancelEmergencyMigration = 23
operation_number (View v) = view_number v
operation_number OutsideMove = 29
operation_number Freeze = 30

-- all operations, by their numbers from 1 on
abbrev pub all_operations : List Operation
all_operations =
    Initialize
    ∷ Deposit
    ∷ DepositWithFee
    ∷ BatchDeposit
    ∷ Withdraw
    ∷ WithdrawBatch
    ∷ DepositToken
    ∷ WithdrawToken
    ∷ DepositWithFailureReport
    ∷ SetOperatorWithdrawLimit
    ∷ SetLimit
    ∷ SetTokenMaxLimit
    ∷ SetOperator
    ∷ RevokeOperator
    ∷ ProposeOwner
    ∷ AcceptOwner
    ∷ SetOwnerProposalTtl
    ∷ Pause
    ∷ Unpause
    ∷ ApproveToken
    ∷ InitiateEmergencyMigration
    ∷ ExecuteEmergencyMigration
    ∷ CancelEmergencyMigration
    ∷ View Balance
    ∷ View EffectiveWithdrawLimit
    ∷ View GetTokenAccountBalance
    ∷ View IsTokenApproved
    ∷ View IsTokenCompliant
    ∷ OutsideMove
    ∷ Freeze
    ∷ []

-- the operation at place n of a list
abbrev pub operation_in : List Operation → ℕ → Option Operation
operation_in [] n = None
operation_in (o ∷ os) zero = Some o
operation_in (o ∷ os) (suc n) = operation_in os n

-- the operation that has the number n
unfoldable pub operation_at : ℕ → Option Operation
operation_at zero = None
operation_at (suc n) = operation_in all_operations n

pub operation_at_number : (o : Operation) → operation_at (operation_number o) ≡ Some o
unfolding operation_at
operation_at_number Initialize = refl
operation_at_number Deposit = refl
operation_at_number DepositWithFee = refl
operation_at_number BatchDeposit = refl
operation_at_number Withdraw = refl
operation_at_number WithdrawBatch = refl
operation_at_number DepositToken = refl
operation_at_number WithdrawToken = refl
operation_at_number DepositWithFailureReport = refl
operation_at_number SetOperatorWithdrawLimit = refl
operation_at_number SetLimit = refl
operation_at_number SetTokenMaxLimit = refl
operation_at_number SetOperator = refl
operation_at_number RevokeOperator = refl
operation_at_number ProposeOwner = refl
operation_at_number AcceptOwner = refl
operation_at_number SetOwnerProposalTtl = refl
operation_at_number Pause = refl
operation_at_number Unpause = refl
operation_at_number ApproveToken = refl
operation_at_number InitiateEmergencyMigration = refl
operation_at_number ExecuteEmergencyMigration = refl
operation_at_number CancelEmergencyMigration = refl
operation_at_number (View Balance) = refl
operation_at_number (View EffectiveWithdrawLimit) = refl
operation_at_number (View GetTokenAccountBalance) = refl
operation_at_number (View IsTokenApproved) = refl
operation_at_number (View IsTokenCompliant) = refl
operation_at_number OutsideMove = refl
operation_at_number Freeze = refl

-- ---- and back: the operation of a number has it, and each number from 1 to 30 is one
abbrev numbered : ℕ → List Operation → Bool
numbered k [] = true
numbered k (o ∷ os) = eqb (operation_number o) k && numbered (suc k) os

numbered-in : (k : ℕ) (os : List Operation) (n : ℕ) (o : Operation) → numbered k os ≡ true → operation_in os n ≡ Some o → operation_number o ≡ k + n
numbered-in k [] n o e f = absurd (cc)
numbered-in k (x ∷ os) zero o e f =
    let g = eqb-true (operation_number x) k (and_left (eqb (operation_number x) k) (numbered (suc k) os) e) in
    let h : x ≡ o = cc in
    rw (← h) (omega (arith, g))
numbered-in k (x ∷ os) (suc n) o e f =
    let g = numbered-in (suc k) os n o (and_right (eqb (operation_number x) k) (numbered (suc k) os) e) f in
    omega (arith, g)

pub number_of_operation_at : (n : ℕ) (o : Operation) → operation_at n ≡ Some o → operation_number o ≡ n
unfolding operation_at
number_of_operation_at zero o f = absurd (cc)
number_of_operation_at (suc n) o f = let g = numbered-in 1 all_operations n o refl f in omega (arith, g)

past-in : (os : List Operation) (n : ℕ) → length os ≤ n → operation_in os n ≡ None
past-in [] n h = refl
past-in (o ∷ os) zero h = absurd (omega arith)
past-in (o ∷ os) (suc n) h = past-in os n (omega arith)

none-in : (os : List Operation) (n : ℕ) → operation_in os n ≡ None → length os ≤ n
none-in [] n e = omega arith
none-in (o ∷ os) zero e = absurd (cc)
none-in (o ∷ os) (suc n) e = let g = none-in os n e in omega (arith, g)

pub no_operation_at : (n : ℕ) → (1 ≤ n → 30 < n) → operation_at n ≡ None
unfolding operation_at
no_operation_at zero h = refl
no_operation_at (suc n) h = past-in all_operations n (let g = h (omega arith) in omega (arith, g))

-- a number of an operation is one from 1 to 30
some-in : (os : List Operation) (n : ℕ) (o : Operation) → operation_in os n ≡ Some o → n < length os
some-in [] n o e = absurd (cc)
some-in (x ∷ os) zero o e = omega arith
some-in (x ∷ os) (suc n) o e = let g = some-in os n o e in omega (arith, g)

some-from : (n : ℕ) (o : Operation) → operation_at n ≡ Some o → (1 ≤ n) × (n ≤ 30)
unfolding operation_at
some-from zero o e = absurd (cc)
some-from (suc n) o e = let g = some-in all_operations n o e in (omega arith, omega (arith, g))

pub number_bounds : (o : Operation) → (1 ≤ operation_number o) × (operation_number o ≤ 30)
number_bounds o = some-from (operation_number o) o (operation_at_number o)

pub number_of_none : (n : ℕ) → operation_at n ≡ None → 1 ≤ n → 30 < n
unfolding operation_at
number_of_none zero e h = absurd (omega arith)
number_of_none (suc n) e h = let g = none-in all_operations n e in omega (arith, g)

-- no two operations have one number
abbrev or_operation : Operation → Option Operation → Operation
or_operation o None = o
or_operation o (Some p) = p

pub number_distinct : (o p : Operation) → operation_number o ≡ operation_number p → o ≡ p
number_distinct o p e = ap (or_operation o) (sym (operation_at_number o) ∙ ap operation_at e ∙ operation_at_number p)
