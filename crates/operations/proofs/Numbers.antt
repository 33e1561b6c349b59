-- An operation's own number is 0 or one of 1 to 23.
use mathlib.Core.Path.{◌≡◌, refl}
use mathlib.Core.Bool.{Bool, true, false}
use mathlib.Core.List.{List, [], ◌∷◌}
use Prim.Native.Nat.{ℕ, zero, suc}
use lib.Dec.{eqb, ltb}
use Rattle.image.specs.Layout.{default_token, destination, vault_limit, capped_set, cap}
use Rattle.fields.specs.Rules.{Rule, pick, verdict, chain, codes_in, AllIn, verdict_in, or_in, chain_in, pick_in}
use Rattle.amount.specs.Biased.{bias}
use Rattle.record.specs.Form.{form_number}
use Rattle.record.specs.Laws.{form_operation}
use Rattle.record.specs.Record.{operation_of}
use Rattle.storage.specs.Setters.{snapshot_number}
use Rattle.token.specs.Token.{vault_balance, absent_number, transfer_number}
use Rattle.outcome.specs.Outcome.{Outcome}
use Rattle.checks.specs.Checks.{in_set, paused_number, signed_number, initialised_number, owner_role_number, not_owner_number, owner_number, insider_role_number, not_insider_number, shared_number, amount_number, max_deposit_number, deposit_amount_number, approved_number, limit_number, cap_number, funds_number}
use Rattle.setup.specs.Setup.{zero_token_number, valid_token_number, approve_number, approve_outcome, done_before_number, initialize_number, initialize_outcome, initialize}
use Rattle.deposits.specs.Deposit.{funding_number, overflow_number, expected_number, receive_number, deposit_checks, deposit_outcome, fee_number, gross_number, deposit_with_fee_outcome}
use Rattle.deposits.specs.Report.{credited_number, settled_report, failed_report, report_outcome, failure_report_outcome}
use Rattle.deposits.specs.TokenDeposit.{token_cap_number, token_funding_number, token_checks, receive_token_number, deposit_token_outcome}
use Rattle.batch_deposits.specs.Batch as batch
use Rattle.payouts.specs.Payouts as payouts
use Rattle.payouts.specs.Token.{credit_number, withdraw_token_checks, withdraw_token_number, withdraw_token_outcome}
use Rattle.settings.specs.Settings.{operator_limit_number, operator_limit_outcome, below_holding_number, limit_role_number, limit_set_number, limit_set_outcome, token_max_limit_number, token_max_limit_outcome, operator_set_outcome, operator_revoked_outcome, already_paused_number, pause_number, pause_outcome, not_paused_number, unpause_number, unpause_outcome}
use Rattle.handover.specs.Handover.{new_owner_number, propose_number, propose_outcome, pending_number, expired_number, accept_number, accept_outcome, ttl_number, proposal_ttl_number, proposal_ttl_outcome}
use Rattle.migration.specs.Migration.{proposal_number, initiate_number, initiate_outcome, no_migration_number, early_number, execute_checks, migrate_number, execute_number, execute_outcome, cancel_number, cancel_outcome}
use Rattle.views.specs.Views.{withdraw_cap_number, effective_number, balance_outcome, effective_outcome, account_outcome, approved_outcome, compliant_number, compliant_outcome}
use Rattle.moves.specs.Outside.{sender_number, outside_move_checks, outside_move_number, outside_move_outcome, freeze_number, freeze_outcome}
use Rattle.operations.specs.Operations.{operations, outcome_of, is_own}
use Rattle.operations.proofs.Owed.{chosen, operations-consecutive}

by_rules : (rs : List Rule) → codes_in is_own rs ≡ true → is_own (verdict rs) ≡ true
by_rules = verdict_in is_own

in_order : (xs : List ℕ) → AllIn is_own xs → is_own (chain xs) ≡ true
in_order = chain_in is_own

-- ---- checks that several operations share
owner_own : (l : List ℕ) (caller signers : ℕ) → is_own (owner_number l caller signers) ≡ true
unfolding owner_number not_owner_number signed_number
owner_own l caller signers = in_order _ (by_rules _ refl, (by_rules _ refl, refl))

shared_own : (l : List ℕ) (caller signers : ℕ) → is_own (shared_number l caller signers) ≡ true
unfolding shared_number not_insider_number signed_number
shared_own l caller signers = in_order _ (by_rules _ refl, (by_rules _ refl, refl))

transfer_own : (l : List ℕ) (t from to n : ℕ) → is_own (transfer_number l t from to n) ≡ true
unfolding transfer_number
transfer_own l t from to n = by_rules _ refl

valid-token_own : (l : List ℕ) (t : ℕ) → is_own (valid_token_number l t) ≡ true
unfolding valid_token_number zero_token_number absent_number
valid-token_own l t = in_order _ (by_rules _ refl, (by_rules _ refl, refl))

-- ---- deposits
funding_own : (l : List ℕ) (t seq n : ℕ) → is_own (funding_number l t seq n) ≡ true
unfolding funding_number approved_number limit_number snapshot_number
funding_own l t seq n = in_order _ (by_rules _ refl, (by_rules _ refl, (by_rules _ refl, refl)))

deposit_checks_own : (l : List ℕ) (caller signers seq n : ℕ) → is_own (deposit_checks l caller signers seq n) ≡ true
unfolding deposit_checks paused_number deposit_amount_number
deposit_checks_own l caller signers seq n = in_order _ (by_rules _ refl, (shared_own l caller signers, (by_rules _ refl, (funding_own l _ seq n, refl))))

deposit_own : (l : List ℕ) (caller signers seq n : ℕ) → is_own (deposit_outcome l caller signers seq n).number ≡ true
unfolding deposit_outcome receive_number expected_number
deposit_own l caller signers seq n =
    in_order _ (deposit_checks_own l caller signers seq n, (in_order _ (transfer_own l _ caller 1 n, (by_rules _ refl, refl)), refl))

deposit_with_fee_own : (l : List ℕ) (caller signers seq gross fee : ℕ) → is_own (deposit_with_fee_outcome l caller signers seq gross fee).number ≡ true
unfolding deposit_with_fee_outcome gross_number fee_number max_deposit_number
deposit_with_fee_own l caller signers seq gross fee =
    in_order _ (in_order _ (by_rules _ refl, (by_rules _ refl, refl)), (deposit_own l caller signers seq _, refl))

credited_own : (m : List ℕ) (t from d n : ℕ) → is_own (credited_number m t from d n) ≡ true
unfolding credited_number expected_number overflow_number
credited_own m t from d n = in_order _ (by_rules _ refl, (by_rules _ refl, refl))

report_own : (l : List ℕ) (caller signers seq n : ℕ) → is_own (failure_report_outcome l caller signers seq n).number ≡ true
unfolding failure_report_outcome report_outcome
report_own l caller signers seq n = in_order _ (deposit_checks_own l caller signers seq n, (go (eqb (transfer_number l (default_token l) caller 1 n) 0), refl))
  where
    go : (t : Bool) → is_own (pick t (settled_report l (default_token l) caller seq n) (failed_report l (default_token l) caller n)).number ≡ true
    go true = credited_own _ _ caller _ n
    go false = refl

token-cap_own : (l : List ℕ) (t h n : ℕ) → is_own (token_cap_number l t h n) ≡ true
unfolding token_cap_number limit_number
token-cap_own l t h n = pick_in is_own (eqb (in_set (capped_set l) t) 1) (limit_number h n (cap l t)) 0 (by_rules _ refl) refl

deposit-token_own : (l : List ℕ) (caller signers seq t n : ℕ) → is_own (deposit_token_outcome l caller signers seq t n).number ≡ true
unfolding deposit_token_outcome token_checks token_funding_number receive_token_number paused_number deposit_amount_number approved_number absent_number snapshot_number overflow_number
deposit-token_own l caller signers seq t n =
    in_order _ (
      in_order _ (
        by_rules _ refl,
        (
          shared_own l caller signers,
          (by_rules _ refl, (in_order _ (by_rules _ refl, (by_rules _ refl, (by_rules _ refl, (token-cap_own l t _ n, refl)))), refl)),
        ),
      ),
      (in_order _ (transfer_own l t caller 1 n, (by_rules _ refl, (credited_own _ t caller _ n, refl))), refl),
    )

-- ---- a batch of deposits
batch_items_own : (n : ℕ) (r : List ℕ) (signers i : ℕ) → is_own (batch.items_number n r signers i) ≡ true
unfolding batch.items_number batch.item_number deposit_amount_number signed_number
batch_items_own zero r signers i = refl
batch_items_own (suc n) r signers i = or_in is_own _ _ (in_order _ (by_rules _ refl, (by_rules _ refl, refl))) (batch_items_own n r signers (suc i))

transfers_own : (n : ℕ) (r : List ℕ) (t i : ℕ) (l : List ℕ) → is_own (batch.transfers_number n r t i l) ≡ true
unfolding batch.transfers_number
transfers_own zero r t i l = refl
transfers_own (suc n) r t i l = or_in is_own _ _ (transfer_own l t _ 1 _) (transfers_own n r t (suc i) _)

batch_own : (l r : List ℕ) (signers seq count : ℕ) → is_own (batch.batch_outcome l r signers seq count).number ≡ true
unfolding batch.batch_outcome batch.batch_checks batch.open_number batch.count_number batch.collect_outcome paused_number initialised_number expected_number
batch_own l r signers seq count =
    in_order _ (
      in_order _ (in_order _ (by_rules _ refl, (by_rules _ refl, (by_rules _ refl, refl))), (batch_items_own count r signers 0, (funding_own l _ seq _, refl))),
      (in_order _ (transfers_own count r _ 0 l, (by_rules _ refl, refl)), refl),
    )

-- ---- payouts
pay_own : (l : List ℕ) (t to n : ℕ) → is_own (payouts.pay_number l t to n) ≡ true
unfolding payouts.pay_number payouts.remaining_number
pay_own l t to n = in_order _ (transfer_own l t 1 to n, (by_rules _ refl, refl))

items_own : (ps : List payouts.Payout) (sum : ℕ) → is_own (payouts.items_number ps sum) ≡ true
unfolding payouts.items_number payouts.item_number
items_own [] sum = refl
items_own (p ∷ ps) sum = or_in is_own _ _ (by_rules _ refl) (items_own ps _)

payouts_own : (ps : List payouts.Payout) (t seq : ℕ) (l : List ℕ) → is_own (payouts.payouts_number ps t seq l) ≡ true
unfolding payouts.payouts_number
payouts_own [] t seq l = refl
payouts_own (p ∷ ps) t seq l = or_in is_own _ _ (pay_own l t _ _) (payouts_own ps t seq _)

withdraw_own : (l : List ℕ) (caller signers seq : ℕ) (ps : List payouts.Payout) → is_own (payouts.withdraw_outcome l caller signers seq ps).number ≡ true
unfolding payouts.withdraw_outcome payouts.withdraw_number payouts.withdraw_checks payouts.no_item_number paused_number cap_number funds_number
withdraw_own l caller signers seq ps =
    in_order _ (
      in_order _ (by_rules _ refl, (shared_own l caller signers, (by_rules _ refl, (items_own ps bias, (by_rules _ refl, (by_rules _ refl, refl)))))),
      (payouts_own ps _ seq l, refl),
    )

withdraw-token_own : (l : List ℕ) (t caller signers seq to n : ℕ) → is_own (withdraw_token_outcome l t caller signers seq to n).number ≡ true
unfolding withdraw_token_outcome withdraw_token_number withdraw_token_checks paused_number amount_number cap_number absent_number funds_number credit_number
withdraw-token_own l t caller signers seq to n =
    in_order _ (
      in_order _ (by_rules _ refl, (shared_own l caller signers, (by_rules _ refl, (by_rules _ refl, (by_rules _ refl, (by_rules _ refl, (by_rules _ refl, refl))))))),
      (pay_own l t to n, refl),
    )

-- ---- tests before a rule
limit_role_own : (l : List ℕ) (caller n : ℕ) → is_own (limit_role_number l caller n) ≡ true
unfolding limit_role_number owner_role_number insider_role_number
limit_role_own l caller n = pick_in is_own (ltb (vault_limit l) n) (owner_role_number l caller) (insider_role_number l caller) (by_rules _ refl) (by_rules _ refl)

approve_own : (l : List ℕ) (caller signers t on : ℕ) → is_own (approve_number l caller signers t on) ≡ true
unfolding approve_number
approve_own l caller signers t on = in_order _ (owner_own l caller signers, (pick_in is_own (eqb on 1) (valid_token_number l t) 0 (valid-token_own l t) refl, refl))

migrate_own : (l : List ℕ) → is_own (migrate_number l) ≡ true
unfolding migrate_number
migrate_own l =
    pick_in is_own (ltb bias (vault_balance l)) (transfer_number l (default_token l) 1 (destination l) (vault_balance l)) 0 (transfer_own l (default_token l) 1 (destination l) (vault_balance l)) refl

compliant_own : (l : List ℕ) (t : ℕ) → is_own (compliant_number l t) ≡ true
unfolding compliant_number absent_number
compliant_own l t = pick_in is_own (eqb t 0) 0 (absent_number l t) refl (by_rules _ refl)

-- ---- the table
pub outcome_own : (l r : List ℕ) → form_number r ≡ 0 → is_own (outcome_of l r).number ≡ true
unfolding outcome_of initialize_outcome initialize_number approve_outcome done_before_number operator_limit_outcome operator_limit_number below_holding_number limit_set_outcome limit_set_number token_max_limit_outcome token_max_limit_number operator_set_outcome operator_revoked_outcome already_paused_number pause_number pause_outcome not_paused_number unpause_number unpause_outcome new_owner_number propose_number propose_outcome pending_number expired_number accept_number accept_outcome ttl_number proposal_ttl_number proposal_ttl_outcome proposal_number initiate_number initiate_outcome no_migration_number early_number execute_checks execute_number execute_outcome cancel_number cancel_outcome withdraw_cap_number effective_number balance_outcome effective_outcome account_outcome approved_outcome compliant_outcome sender_number outside_move_checks outside_move_number outside_move_outcome freeze_number freeze_outcome paused_number initialised_number amount_number signed_number absent_number
outcome_own l r f =
    chosen (λ (x : Outcome). is_own x.number ≡ true) (operation_of r) (1, initialize l r) (operations l r) (form_operation r f).0 (operations-consecutive l r) (
      λ o. in_order _ (by_rules _ refl, (by_rules _ refl, (valid-token_own l _, (by_rules _ refl, refl)))),
      (
        λ o. deposit_own l _ _ _ _,
        (
          λ o. deposit_with_fee_own l _ _ _ _ _,
          (
            λ o. batch_own l r _ _ _,
            (
              λ o. withdraw_own l _ _ _ _,
              (
                λ o. withdraw_own l _ _ _ _,
                (
                  λ o. deposit-token_own l _ _ _ _ _,
                  (
                    λ o. withdraw-token_own l _ _ _ _ _ _,
                    (
                      λ o. report_own l _ _ _ _,
                      (
                        λ o. in_order _ (by_rules _ refl, (owner_own l _ _, (by_rules _ refl, refl))),
                        (
                          λ o. in_order _ (by_rules _ refl, (by_rules _ refl, (by_rules _ refl, (by_rules _ refl, (limit_role_own l _ _, (by_rules _ refl, refl)))))),
                          (
                            λ o. in_order _ (by_rules _ refl, (shared_own l _ _, (by_rules _ refl, refl))),
                            (
                              λ o. owner_own l _ _,
                              (
                                λ o. owner_own l _ _,
                                (
                                  λ o. in_order _ (owner_own l _ _, (by_rules _ refl, refl)),
                                  (
                                    λ o. in_order _ (by_rules _ refl, (by_rules _ refl, (by_rules _ refl, refl))),
                                    (
                                      λ o. in_order _ (owner_own l _ _, (by_rules _ refl, refl)),
                                      (
                                        λ o. in_order _ (owner_own l _ _, (by_rules _ refl, refl)),
                                        (
                                          λ o. in_order _ (owner_own l _ _, (by_rules _ refl, refl)),
                                          (
                                            λ o. approve_own l _ _ _ _,
                                            (
                                              λ o. in_order _ (owner_own l _ _, (by_rules _ refl, refl)),
                                              (
                                                λ o. in_order _ (in_order _ (owner_own l _ _, (by_rules _ refl, (by_rules _ refl, refl))), (migrate_own l, refl)),
                                                (
                                                  λ o. in_order _ (owner_own l _ _, (by_rules _ refl, refl)),
                                                  (
                                                    λ o. by_rules _ refl,
                                                    (
                                                      λ o. in_order _ (by_rules _ refl, (by_rules _ refl, (by_rules _ refl, refl))),
                                                      (
                                                        λ o. refl,
                                                        (
                                                          λ o. refl,
                                                          (
                                                            λ o. compliant_own l _,
                                                            (
                                                              λ o. in_order _ (in_order _ (by_rules _ refl, (by_rules _ refl, refl)), (transfer_own l _ _ _ _, refl)),
                                                              λ o. by_rules _ refl,
                                                            ),
                                                          ),
                                                        ),
                                                      ),
                                                    ),
                                                  ),
                                                ),
                                              ),
                                            ),
                                          ),
                                        ),
                                      ),
                                    ),
                                  ),
                                ),
                              ),
                            ),
                          ),
                        ),
                      ),
                    ),
                  ),
                ),
              ),
            ),
          ),
        ),
      ),
    )
