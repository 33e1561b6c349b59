-- The operations by their numbers: what each gives by its own rules, for every good image and record (docs/FORMATS.md, "The operations").
use Rattle.std.specs.Prelude.{Bool, List, [], ◌∷◌, ℕ, eqb, ltb}
use Rattle.setup.specs.Setup.{initialize, initialize_outcome, approve_token, approve_outcome}
use Rattle.deposits.specs.Deposit.{deposit, deposit_outcome, deposit_with_fee, deposit_with_fee_outcome}
use Rattle.batch_deposits.specs.Batch.{batch_deposit, batch_outcome}
use Rattle.payouts.specs.Payouts.{payout, items, withdraw, withdraw_batch, withdraw_outcome}
use Rattle.deposits.specs.TokenDeposit.{deposit_token, deposit_token_outcome}
use Rattle.payouts.specs.Token.{withdraw_token, withdraw_token_outcome}
use Rattle.deposits.specs.Report.{deposit_with_failure_report, failure_report_outcome}
use Rattle.settings.specs.Settings.{set_operator_withdraw_limit, operator_limit_outcome, set_limit, limit_set_outcome, set_token_max_limit, token_max_limit_outcome, set_operator, operator_set_outcome, revoke_operator, operator_revoked_outcome, pause, pause_outcome, unpause, unpause_outcome}
use Rattle.handover.specs.Handover.{propose_owner, propose_outcome, accept_owner, accept_outcome, set_owner_proposal_ttl, proposal_ttl_outcome}
use Rattle.migration.specs.Migration.{initiate_emergency_migration, initiate_outcome, execute_emergency_migration, execute_outcome, cancel_emergency_migration, cancel_outcome}
use Rattle.views.specs.Views.{balance, effective_withdraw_limit, get_token_account_balance, is_token_approved, is_token_compliant, balance_outcome, effective_outcome, account_outcome, approved_outcome, compliant_outcome}
use Rattle.moves.specs.Outside.{outside_move, outside_move_outcome, freeze, freeze_outcome}
use Rattle.outcome.specs.Outcome.{Outcome}
use Rattle.record.specs.Record.{operation_of}
use Rattle.amount.specs.Biased.{biased, num}
use Rattle.record.specs.declared.Head.{Head}
use Rattle.record.specs.declared.operation.Operation.{Operation}
use Rattle.record.specs.declared.operation.Operation.TheVariants.{Initialize, Deposit, DepositWithFee, BatchDeposit, Withdraw, WithdrawBatch, DepositToken, WithdrawToken, DepositWithFailureReport, SetOperatorWithdrawLimit, SetLimit, SetTokenMaxLimit, SetOperator, RevokeOperator, ProposeOwner, AcceptOwner, SetOwnerProposalTtl, Pause, Unpause, ApproveToken, InitiateEmergencyMigration, ExecuteEmergencyMigration, CancelEmergencyMigration, OutsideMove, Freeze, View as Viewed}
use Rattle.record.specs.declared.operation.View.{View}
use Rattle.record.specs.declared.operation.View.TheVariants.{Balance, EffectiveWithdrawLimit, GetTokenAccountBalance, IsTokenApproved, IsTokenCompliant}
use Rattle.fields.specs.Rules.{pick}

-- the operations by their numbers, from 2 on; l is the image, r the record
abbrev pub operations : List ℕ → List ℕ → List (ℕ × Outcome)
operations l r =
    (2, deposit l r)
    ∷ (3, deposit_with_fee l r)
    ∷ (4, batch_deposit l r)
    ∷ (5, withdraw l r)
    ∷ (6, withdraw_batch l r)
    ∷ (7, deposit_token l r)
    ∷ (8, withdraw_token l r)
    ∷ (9, deposit_with_failure_report l r)
    ∷ (10, set_operator_withdraw_limit l r)
    ∷ (11, set_limit l r)
    ∷ (12, set_token_max_limit l r)
    ∷ (13, set_operator l r)
    ∷ (14, revoke_operator l r)
    ∷ (15, propose_owner l r)
    ∷ (16, accept_owner l r)
    ∷ (17, set_owner_proposal_ttl l r)
    ∷ (18, pause l r)
    ∷ (19, unpause l r)
    ∷ (20, approve_token l r)
    ∷ (21, initiate_emergency_migration l r)
    ∷ (22, execute_emergency_migration l r)
    ∷ (23, cancel_emergency_migration l r)
    ∷ (24, balance l r)
    ∷ (25, effective_withdraw_limit l r)
    ∷ (26, get_token_account_balance l r)
    ∷ (27, is_token_approved l r)
    ∷ (28, is_token_compliant l r)
    ∷ (29, outside_move l r)
    ∷ (30, freeze l r)
    ∷ []

-- the outcome of the row that has the number. The last row takes what is left: 32 has refused each number that no row has
abbrev pub outcome_at : ℕ → ℕ × Outcome → List (ℕ × Outcome) → Outcome
outcome_at o row [] = row.1
outcome_at o row (next ∷ rows) = pick (eqb o row.0) row.1 (outcome_at o next rows)

unfoldable pub outcome_of : List ℕ → List ℕ → Outcome
outcome_of l r = outcome_at (operation_of r) (1, initialize l r) (operations l r)

-- the views by their names; t is the token and a the account that some of them read
abbrev pub view_outcome : View → List ℕ → ℕ → ℕ → Outcome
view_outcome Balance l t a = balance_outcome l
view_outcome EffectiveWithdrawLimit l t a = effective_outcome l a
view_outcome GetTokenAccountBalance l t a = account_outcome l t a
view_outcome IsTokenApproved l t a = approved_outcome l t
view_outcome IsTokenCompliant l t a = compliant_outcome l t

-- the operations by their names, as their functions' contracts say them: over the head h of the record
abbrev pub outcome_by : Operation → List ℕ → List ℕ → Head → Outcome
outcome_by Initialize l r h = initialize_outcome l h.caller.number h.signers h.token.number (biased h.amount)
outcome_by Deposit l r h = deposit_outcome l h.caller.number h.signers h.sequence (biased h.amount)
outcome_by DepositWithFee l r h = deposit_with_fee_outcome l h.caller.number h.signers h.sequence (biased h.amount) (biased h.fee)
outcome_by BatchDeposit l r h = batch_outcome l r h.signers h.sequence h.item_count
outcome_by Withdraw l r h = withdraw_outcome l h.caller.number h.signers h.sequence (payout h.other.number (biased h.amount) ∷ [])
outcome_by WithdrawBatch l r h = withdraw_outcome l h.caller.number h.signers h.sequence (items h.item_count 0 r)
outcome_by DepositToken l r h = deposit_token_outcome l h.caller.number h.signers h.sequence h.token.number (biased h.amount)
outcome_by WithdrawToken l r h = withdraw_token_outcome l h.token.number h.caller.number h.signers h.sequence h.other.number (biased h.amount)
outcome_by DepositWithFailureReport l r h = failure_report_outcome l h.caller.number h.signers h.sequence (biased h.amount)
outcome_by SetOperatorWithdrawLimit l r h = operator_limit_outcome l h.caller.number h.signers (biased h.amount)
outcome_by SetLimit l r h = limit_set_outcome l h.caller.number h.signers (biased h.amount)
outcome_by SetTokenMaxLimit l r h = token_max_limit_outcome l h.caller.number h.token.number h.signers (biased h.amount)
outcome_by SetOperator l r h = operator_set_outcome l h.caller.number h.signers h.other.number
outcome_by RevokeOperator l r h = operator_revoked_outcome l h.caller.number h.signers
outcome_by ProposeOwner l r h = propose_outcome l h.caller.number h.signers h.other.number h.timestamp
outcome_by AcceptOwner l r h = accept_outcome l h.caller.number h.signers h.timestamp
outcome_by SetOwnerProposalTtl l r h = proposal_ttl_outcome l h.caller.number h.signers h.time_to_live
outcome_by Pause l r h = pause_outcome l h.caller.number h.signers h.timestamp
outcome_by Unpause l r h = unpause_outcome l h.caller.number h.signers h.timestamp
outcome_by ApproveToken l r h = approve_outcome l h.caller.number h.signers h.token.number (num h.flag)
outcome_by InitiateEmergencyMigration l r h = initiate_outcome l h.caller.number h.signers h.other.number h.timestamp
outcome_by ExecuteEmergencyMigration l r h = execute_outcome l h.caller.number h.signers h.timestamp
outcome_by CancelEmergencyMigration l r h = cancel_outcome l h.caller.number h.signers
outcome_by (Viewed v) l r h = view_outcome v l h.token.number h.caller.number
outcome_by OutsideMove l r h = outside_move_outcome l h.caller.number h.token.number h.other.number (biased h.amount)
outcome_by Freeze l r h = freeze_outcome l h.token.number (num h.flag)

-- 0 done, and the refusals that are an operation's own
abbrev pub is_own : ℕ → Bool
is_own n = ltb n 24
