-- The 18 kinds of event (docs/FORMATS.md, "Events"), each with its arguments in the order of the contract's events.rs. An amount is its value plus 2 ^ 127, a time is zero-extended, and what is unused is 0.
use Rattle.std.specs.Prelude.{ℕ, ◌+◌}
use Rattle.amount.specs.Biased.{bias, biased, num}
use Rattle.events.specs.declared.Event.{Event}
use Rattle.events.specs.declared.Event.TheVariants.{Initialized, Deposited, TokenDeposited, Withdrawn, LimitSet, OperatorWithdrawLimitSet, OperatorSet, OperatorRevoked, Paused, Unpaused, OwnerProposed, OwnerAccepted, OwnerProposalTtlSet, EmergencyMigrationInitiated, EmergencyMigrationExecuted, EmergencyMigrationCancelled, VaultDepositFailed, TokenApprovalChanged}
use Rattle.events.specs.Event.{EventFields}

-- an event of a kind: two addresses, yes or no, and three numbers
abbrev pub event : (kind first second yes number0 number1 number2 : ℕ) → EventFields
event k a b y n0 n1 n2 = record { kind = k; first = a; second = b; yes = y; number0 = n0; number1 = n1; number2 = n2 }

unfoldable pub initialized_event : (owner token maxLimit : ℕ) → EventFields
initialized_event owner token maxLimit = event 1 owner token 0 maxLimit bias bias

unfoldable pub deposited_event : (from amount newBalance : ℕ) → EventFields
deposited_event from amount newBalance = event 2 from 0 0 amount newBalance bias

unfoldable pub token_deposited_event : (from grossAmount feeAmount netAmount : ℕ) → EventFields
token_deposited_event from grossAmount feeAmount netAmount = event 3 from 0 0 grossAmount feeAmount netAmount

unfoldable pub withdrawn_event : (caller to amount newBalance by_operator : ℕ) → EventFields
withdrawn_event caller to amount newBalance by_operator = event 4 caller to by_operator amount newBalance bias

unfoldable pub limit_set_event : (caller oldLimit newLimit : ℕ) → EventFields
limit_set_event caller oldLimit newLimit = event 5 caller 0 0 oldLimit newLimit bias

unfoldable pub operator_withdraw_limit_set_event : (caller oldLimit newLimit : ℕ) → EventFields
operator_withdraw_limit_set_event caller oldLimit newLimit = event 6 caller 0 0 oldLimit newLimit bias

unfoldable pub operator_set_event : (caller operator : ℕ) → EventFields
operator_set_event caller operator = event 7 caller operator 0 bias bias bias

unfoldable pub operator_revoked_event : (caller : ℕ) → EventFields
operator_revoked_event caller = event 8 caller 0 0 bias bias bias

unfoldable pub paused_event : (caller pausedAt : ℕ) → EventFields
paused_event caller pausedAt = event 9 caller 0 0 (bias + pausedAt) bias bias

unfoldable pub unpaused_event : (caller resumedAt : ℕ) → EventFields
unpaused_event caller resumedAt = event 10 caller 0 0 (bias + resumedAt) bias bias

unfoldable pub owner_proposed_event : (caller newOwner : ℕ) → EventFields
owner_proposed_event caller newOwner = event 11 caller newOwner 0 bias bias bias

unfoldable pub owner_accepted_event : (caller oldOwner : ℕ) → EventFields
owner_accepted_event caller oldOwner = event 12 caller oldOwner 0 bias bias bias

unfoldable pub owner_proposal_ttl_set_event : (caller oldTtl newTtl : ℕ) → EventFields
owner_proposal_ttl_set_event caller oldTtl newTtl = event 13 caller 0 0 (bias + oldTtl) (bias + newTtl) bias

unfoldable pub emergency_migration_initiated_event : (caller destination executable_at : ℕ) → EventFields
emergency_migration_initiated_event caller destination executable_at = event 14 caller destination 0 (bias + executable_at) bias bias

unfoldable pub emergency_migration_executed_event : (caller destination amount : ℕ) → EventFields
emergency_migration_executed_event caller destination amount = event 15 caller destination 0 amount bias bias

unfoldable pub emergency_migration_cancelled_event : (caller : ℕ) → EventFields
emergency_migration_cancelled_event caller = event 16 caller 0 0 bias bias bias

-- reason 1, that the token refused the transfer, is the second number
unfoldable pub vault_deposit_failed_event : (from token amount : ℕ) → EventFields
vault_deposit_failed_event from token amount = event 17 from token 0 amount (bias + 1) bias

unfoldable pub token_approval_changed_event : (token approved : ℕ) → EventFields
token_approval_changed_event token approved = event 18 token 0 approved bias bias bias

-- what an event says
abbrev pub fields_of : Event → EventFields
fields_of (Initialized owner token max_limit) = initialized_event owner token (biased max_limit)
fields_of (Deposited from amount new_balance) = deposited_event from (biased amount) (biased new_balance)
fields_of (TokenDeposited from gross_amount fee_amount net_amount) = token_deposited_event from (biased gross_amount) (biased fee_amount) (biased net_amount)
fields_of (Withdrawn caller to amount new_balance by_operator) = withdrawn_event caller to (biased amount) (biased new_balance) (num by_operator)
fields_of (LimitSet caller old_limit new_limit) = limit_set_event caller (biased old_limit) (biased new_limit)
fields_of (OperatorWithdrawLimitSet caller old_limit new_limit) = operator_withdraw_limit_set_event caller (biased old_limit) (biased new_limit)
fields_of (OperatorSet caller operator) = operator_set_event caller operator
fields_of (OperatorRevoked caller) = operator_revoked_event caller
fields_of (Paused caller paused_at) = paused_event caller paused_at
fields_of (Unpaused caller resumed_at) = unpaused_event caller resumed_at
fields_of (OwnerProposed caller new_owner) = owner_proposed_event caller new_owner
fields_of (OwnerAccepted caller old_owner) = owner_accepted_event caller old_owner
fields_of (OwnerProposalTtlSet caller old_ttl new_ttl) = owner_proposal_ttl_set_event caller old_ttl new_ttl
fields_of (EmergencyMigrationInitiated caller destination executable_at) = emergency_migration_initiated_event caller destination executable_at
fields_of (EmergencyMigrationExecuted caller destination amount) = emergency_migration_executed_event caller destination (biased amount)
fields_of (EmergencyMigrationCancelled caller) = emergency_migration_cancelled_event caller
fields_of (VaultDepositFailed from token amount) = vault_deposit_failed_event from token (biased amount)
fields_of (TokenApprovalChanged token approved) = token_approval_changed_event token (num approved)
