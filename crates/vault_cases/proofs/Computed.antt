-- What the operations of the cases give by their own rules, computed.
use mathlib.Core.Path.{◌≡◌, refl, ◌∙◌}
use mathlib.Core.List.{List, ◌∷◌}
use Prim.Native.Nat.{ℕ, ◌+◌, ◌-◌, ◌^◌}
use lib.ListN.{replicate, drop}
use Rattle.fields.specs.Logic.{◌and◌, ◌or◌, all}
use Rattle.fields.specs.Bytes.{le, put, bytes}
use Rattle.fields.specs.Rules.{verdict, chain, or_else}
use Rattle.amount.specs.Biased.{bias, amount_at, put_amount}
use Rattle.record.specs.Form.{member, reads_caller, reads_token, reads_other, reads_flag, reads_items, is_view, items_within, head_exceeds, items_exceed, form_number}
use Rattle.events.specs.Kinds.{operator_withdraw_limit_set_event}
use Rattle.checks.specs.Checks.{flag, in_set, paused_number, signed_number, initialised_number, owner_role_number, not_owner_number, owner_number, insider, not_insider_number, insider_role_number, shared_number, amount_number, max_vault_deposit, max_deposit_number, deposit_amount_number, approved_number, limit_number, cap_number, funds_number}
use Rattle.image.specs.Layout.{credit}
use Rattle.image.specs.Good.{tracked}
use Rattle.fields.specs.Same.{same_bytes_of}
use Rattle.storage.specs.Setters.{track_key, set_credit, record_balance, snapshot_number}
use Rattle.token.specs.Token.{absent_number, arrives, debited, received, transfer_number, transfer_of}
use Rattle.deposits.specs.Deposit.{funding_number, overflow_number, expected_number, receive_number, add_credit, deposit_image, deposit_checks, deposit_outcome, fee_number, gross_number, deposit_with_fee_outcome}
use Rattle.deposits.specs.Report.{credited_number}
use Rattle.deposits.specs.TokenDeposit.{token_cap_number, token_funding_number, token_checks, receive_token_number, deposit_token_outcome}
use Rattle.payouts.specs.Payouts.{items, no_item_number, item_number, items_number, items_sum, withdraw_checks, remaining_number, pay_number, pay_image, payouts_number, payouts_image, payouts_events, withdraw_number, withdraw_outcome}
use Rattle.settings.specs.Settings.{operator_limit_number, operator_limit_outcome, below_holding_number, limit_role_number, limit_set_number, limit_set_outcome, already_paused_number, pause_number, pause_outcome}
use Rattle.handover.specs.Handover.{new_owner_number, propose_number, propose_outcome, pending_number, expired_number, accept_number, accept_outcome}
use Rattle.migration.specs.Migration.{proposal_number, initiate_number, initiate_outcome, no_migration_number, early_number, execute_checks, migrate_number, migrate_holding, execute_number, clear_migration, execute_outcome}
use Rattle.views.specs.Views.{compliant_number, compliant_outcome}
use Rattle.operations.specs.Operations.{outcome_of}
use Rattle.token_vault.specs.Vault.{view}
use Rattle.vault_cases.specs.Setting.{request, request_of, deposits, deposits_in, deposits_with_fee, deposits_token, pays_to, pays_two, limits_operator, sets_limit, pauses, proposes, accepts_at, initiates, executes_at, asks_compliance}
use Rattle.vault_cases.proofs.Runs.{Accepts, Refuses, Views, differing, differing_front}
use Rattle.vault_cases.proofs.Flat.{image_of, case_bytes, paid_bytes, deposited_bytes, migrated_bytes, credited, no_credit, credit_of_ten, credit_full}

pub pays_40_60 : (z : List ℕ) → Accepts (case_bytes z) (pays_two 2 40 60) 0 2
unfolding image_of request request_of pays_two withdraw_outcome withdraw_number payouts_number pay_number pay_image remaining_number withdraw_checks items_sum items_number item_number no_item_number items payouts_events payouts_image absent_number arrives debited received transfer_number transfer_of record_balance snapshot_number outcome_of form_number head_exceeds items_exceed items_within reads_caller reads_token reads_other reads_flag reads_items is_view member view bytes flag in_set paused_number signed_number initialised_number not_owner_number owner_number insider not_insider_number shared_number amount_number max_vault_deposit deposit_amount_number approved_number limit_number cap_number funds_number verdict chain or_else all ◌and◌ ◌or◌ bias amount_at put_amount put le
pays_40_60 z = record { formed = refl; changes = refl; number = refl; value_is = refl; count_is = refl }

pub pays_41_60 : (z : List ℕ) → Refuses (case_bytes z) (pays_two 2 41 60) 5
unfolding image_of request request_of pays_two withdraw_outcome withdraw_number payouts_number pay_number pay_image remaining_number withdraw_checks items_sum items_number item_number no_item_number items payouts_events payouts_image absent_number arrives debited received transfer_number transfer_of record_balance snapshot_number outcome_of form_number head_exceeds items_exceed items_within reads_caller reads_token reads_other reads_flag reads_items is_view member view bytes flag in_set paused_number signed_number initialised_number not_owner_number owner_number insider not_insider_number shared_number amount_number max_vault_deposit deposit_amount_number approved_number limit_number cap_number funds_number verdict chain or_else all ◌and◌ ◌or◌ bias amount_at put_amount put le
pays_41_60 z = record { formed = refl; number = refl }

pub limited : (z : List ℕ) → Accepts (case_bytes z) (limits_operator 50) 0 1
unfolding image_of request request_of operator_limit_outcome operator_limit_number operator_withdraw_limit_set_event outcome_of form_number head_exceeds items_exceed items_within reads_caller reads_token reads_other reads_flag reads_items is_view member view bytes flag in_set paused_number signed_number initialised_number not_owner_number owner_number insider not_insider_number shared_number amount_number max_vault_deposit deposit_amount_number approved_number limit_number cap_number funds_number verdict chain or_else all ◌and◌ ◌or◌ bias amount_at put_amount put le
limited z = record { formed = refl; changes = refl; number = refl; value_is = refl; count_is = refl }

pub pays_30_20 : (z : List ℕ) → Accepts (outcome_of (case_bytes z) (limits_operator 50)).image (pays_two 3 30 20) 0 2
unfolding image_of request request_of operator_limit_outcome operator_limit_number operator_withdraw_limit_set_event pays_two withdraw_outcome withdraw_number payouts_number pay_number pay_image remaining_number withdraw_checks items_sum items_number item_number no_item_number items payouts_events payouts_image absent_number arrives debited received transfer_number transfer_of record_balance snapshot_number outcome_of form_number head_exceeds items_exceed items_within reads_caller reads_token reads_other reads_flag reads_items is_view member view bytes flag in_set paused_number signed_number initialised_number not_owner_number owner_number insider not_insider_number shared_number amount_number max_vault_deposit deposit_amount_number approved_number limit_number cap_number funds_number verdict chain or_else all ◌and◌ ◌or◌ bias amount_at put_amount put le
pays_30_20 z = record { formed = refl; changes = refl; number = refl; value_is = refl; count_is = refl }

pub pays_30_21 : (z : List ℕ) → Refuses (outcome_of (case_bytes z) (limits_operator 50)).image (pays_two 3 30 21) 5
unfolding image_of request request_of operator_limit_outcome operator_limit_number operator_withdraw_limit_set_event pays_two withdraw_outcome withdraw_number payouts_number pay_number pay_image remaining_number withdraw_checks items_sum items_number item_number no_item_number items payouts_events payouts_image absent_number arrives debited received transfer_number transfer_of record_balance snapshot_number outcome_of form_number head_exceeds items_exceed items_within reads_caller reads_token reads_other reads_flag reads_items is_view member view bytes flag in_set paused_number signed_number initialised_number not_owner_number owner_number insider not_insider_number shared_number amount_number max_vault_deposit deposit_amount_number approved_number limit_number cap_number funds_number verdict chain or_else all ◌and◌ ◌or◌ bias amount_at put_amount put le
pays_30_21 z = record { formed = refl; number = refl }

pub pays_itself : (z : List ℕ) → Refuses (case_bytes z) (pays_to 1 5) 12
unfolding image_of request request_of pays_to withdraw_outcome withdraw_number payouts_number pay_number pay_image remaining_number withdraw_checks items_sum items_number item_number no_item_number items payouts_events payouts_image absent_number arrives debited received transfer_number transfer_of record_balance snapshot_number outcome_of form_number head_exceeds items_exceed items_within reads_caller reads_token reads_other reads_flag reads_items is_view member view bytes flag in_set paused_number signed_number initialised_number not_owner_number owner_number insider not_insider_number shared_number amount_number max_vault_deposit deposit_amount_number approved_number limit_number cap_number funds_number verdict chain or_else all ◌and◌ ◌or◌ bias amount_at put_amount put le
pays_itself z = record { formed = refl; number = refl }

pub deposits_900 : (z : List ℕ) → Accepts (case_bytes z) (deposits 900) 0 1
unfolding image_of request request_of deposit_outcome deposit_checks funding_number receive_number expected_number absent_number arrives debited received transfer_number transfer_of record_balance snapshot_number outcome_of form_number head_exceeds items_exceed items_within reads_caller reads_token reads_other reads_flag reads_items is_view member view bytes flag in_set paused_number signed_number initialised_number not_owner_number owner_number insider not_insider_number shared_number amount_number max_vault_deposit deposit_amount_number approved_number limit_number cap_number funds_number verdict chain or_else all ◌and◌ ◌or◌ bias amount_at put_amount put le
deposits_900 z = record { formed = refl; changes = refl; number = refl; value_is = refl; count_is = refl }

pub deposits_901 : (z : List ℕ) → Refuses (case_bytes z) (deposits 901) 5
unfolding image_of request request_of deposit_outcome deposit_checks funding_number receive_number expected_number absent_number arrives debited received transfer_number transfer_of record_balance snapshot_number outcome_of form_number head_exceeds items_exceed items_within reads_caller reads_token reads_other reads_flag reads_items is_view member view bytes flag in_set paused_number signed_number initialised_number not_owner_number owner_number insider not_insider_number shared_number amount_number max_vault_deposit deposit_amount_number approved_number limit_number cap_number funds_number verdict chain or_else all ◌and◌ ◌or◌ bias amount_at put_amount put le
deposits_901 z = record { formed = refl; number = refl }

pub fee_9 : (z : List ℕ) → Accepts (case_bytes z) (deposits_with_fee 10 9) 0 2
unfolding image_of request request_of deposits_with_fee deposit_with_fee_outcome fee_number gross_number max_deposit_number deposit_outcome deposit_checks funding_number receive_number expected_number absent_number arrives debited received transfer_number transfer_of record_balance snapshot_number outcome_of form_number head_exceeds items_exceed items_within reads_caller reads_token reads_other reads_flag reads_items is_view member view bytes flag in_set paused_number signed_number initialised_number not_owner_number owner_number insider not_insider_number shared_number amount_number max_vault_deposit deposit_amount_number approved_number limit_number cap_number funds_number verdict chain or_else all ◌and◌ ◌or◌ bias amount_at put_amount put le
fee_9 z = record { formed = refl; changes = refl; number = refl; value_is = refl; count_is = refl }

pub fee_10 : (z : List ℕ) → Refuses (case_bytes z) (deposits_with_fee 10 10) 3
unfolding image_of request request_of deposits_with_fee deposit_with_fee_outcome fee_number gross_number max_deposit_number deposit_outcome deposit_checks funding_number receive_number expected_number absent_number arrives debited received transfer_number transfer_of record_balance snapshot_number outcome_of form_number head_exceeds items_exceed items_within reads_caller reads_token reads_other reads_flag reads_items is_view member view bytes flag in_set paused_number signed_number initialised_number not_owner_number owner_number insider not_insider_number shared_number amount_number max_vault_deposit deposit_amount_number approved_number limit_number cap_number funds_number verdict chain or_else all ◌and◌ ◌or◌ bias amount_at put_amount put le
fee_10 z = record { formed = refl; number = refl }

pub paused : (z : List ℕ) → Accepts (case_bytes z) (pauses) 0 1
unfolding image_of request request_of pause_outcome pause_number already_paused_number outcome_of form_number head_exceeds items_exceed items_within reads_caller reads_token reads_other reads_flag reads_items is_view member view bytes flag in_set paused_number signed_number initialised_number not_owner_number owner_number insider not_insider_number shared_number amount_number max_vault_deposit deposit_amount_number approved_number limit_number cap_number funds_number verdict chain or_else all ◌and◌ ◌or◌ bias amount_at put_amount put le
paused z = record { formed = refl; changes = refl; number = refl; value_is = refl; count_is = refl }

pub fee_10_paused : (z : List ℕ) → Refuses (outcome_of (case_bytes z) pauses).image (deposits_with_fee 10 10) 3
unfolding image_of request request_of pause_outcome pause_number already_paused_number deposits_with_fee deposit_with_fee_outcome fee_number gross_number max_deposit_number deposit_outcome deposit_checks funding_number receive_number expected_number absent_number arrives debited received transfer_number transfer_of record_balance snapshot_number outcome_of form_number head_exceeds items_exceed items_within reads_caller reads_token reads_other reads_flag reads_items is_view member view bytes flag in_set paused_number signed_number initialised_number not_owner_number owner_number insider not_insider_number shared_number amount_number max_vault_deposit deposit_amount_number approved_number limit_number cap_number funds_number verdict chain or_else all ◌and◌ ◌or◌ bias amount_at put_amount put le
fee_10_paused z = record { formed = refl; number = refl }

pub proposed : (z : List ℕ) → Accepts (case_bytes z) (proposes 3) 0 1
unfolding image_of request request_of proposes propose_outcome propose_number new_owner_number outcome_of form_number head_exceeds items_exceed items_within reads_caller reads_token reads_other reads_flag reads_items is_view member view bytes flag in_set paused_number signed_number initialised_number not_owner_number owner_number insider not_insider_number shared_number amount_number max_vault_deposit deposit_amount_number approved_number limit_number cap_number funds_number verdict chain or_else all ◌and◌ ◌or◌ bias amount_at put_amount put le
proposed z = record { formed = refl; changes = refl; number = refl; value_is = refl; count_is = refl }

pub accepted_604799 : (z : List ℕ) → Accepts (outcome_of (case_bytes z) (proposes 3)).image (accepts_at 3 604799) 0 1
unfolding image_of request request_of proposes propose_outcome propose_number new_owner_number accepts_at accept_outcome accept_number pending_number expired_number outcome_of form_number head_exceeds items_exceed items_within reads_caller reads_token reads_other reads_flag reads_items is_view member view bytes flag in_set paused_number signed_number initialised_number not_owner_number owner_number insider not_insider_number shared_number amount_number max_vault_deposit deposit_amount_number approved_number limit_number cap_number funds_number verdict chain or_else all ◌and◌ ◌or◌ bias amount_at put_amount put le
accepted_604799 z = record { formed = refl; changes = refl; number = refl; value_is = refl; count_is = refl }

pub accepted_604800 : (z : List ℕ) → Refuses (outcome_of (case_bytes z) (proposes 3)).image (accepts_at 3 604800) 16
unfolding image_of request request_of proposes propose_outcome propose_number new_owner_number accepts_at accept_outcome accept_number pending_number expired_number outcome_of form_number head_exceeds items_exceed items_within reads_caller reads_token reads_other reads_flag reads_items is_view member view bytes flag in_set paused_number signed_number initialised_number not_owner_number owner_number insider not_insider_number shared_number amount_number max_vault_deposit deposit_amount_number approved_number limit_number cap_number funds_number verdict chain or_else all ◌and◌ ◌or◌ bias amount_at put_amount put le
accepted_604800 z = record { formed = refl; number = refl }

pub initiated : (z : List ℕ) → Accepts (case_bytes z) (initiates 4) 0 1
unfolding image_of request request_of initiates initiate_outcome initiate_number proposal_number outcome_of form_number head_exceeds items_exceed items_within reads_caller reads_token reads_other reads_flag reads_items is_view member view bytes flag in_set paused_number signed_number initialised_number not_owner_number owner_number insider not_insider_number shared_number amount_number max_vault_deposit deposit_amount_number approved_number limit_number cap_number funds_number verdict chain or_else all ◌and◌ ◌or◌ bias amount_at put_amount put le
initiated z = record { formed = refl; changes = refl; number = refl; value_is = refl; count_is = refl }

pub executed_172799 : (z : List ℕ) → Refuses (outcome_of (case_bytes z) (initiates 4)).image (executes_at 172799) 20
unfolding image_of request request_of initiates initiate_outcome initiate_number proposal_number executes_at execute_outcome execute_number execute_checks no_migration_number early_number migrate_number migrate_holding clear_migration absent_number arrives debited received transfer_number transfer_of outcome_of form_number head_exceeds items_exceed items_within reads_caller reads_token reads_other reads_flag reads_items is_view member view bytes flag in_set paused_number signed_number initialised_number not_owner_number owner_number insider not_insider_number shared_number amount_number max_vault_deposit deposit_amount_number approved_number limit_number cap_number funds_number verdict chain or_else all ◌and◌ ◌or◌ bias amount_at put_amount put le
executed_172799 z = record { formed = refl; number = refl }

pub initiated_paused : (z : List ℕ) → Accepts (outcome_of (case_bytes z) (initiates 4)).image (pauses) 0 1
unfolding image_of request request_of initiates initiate_outcome initiate_number proposal_number pause_outcome pause_number already_paused_number outcome_of form_number head_exceeds items_exceed items_within reads_caller reads_token reads_other reads_flag reads_items is_view member view bytes flag in_set paused_number signed_number initialised_number not_owner_number owner_number insider not_insider_number shared_number amount_number max_vault_deposit deposit_amount_number approved_number limit_number cap_number funds_number verdict chain or_else all ◌and◌ ◌or◌ bias amount_at put_amount put le
initiated_paused z = record { formed = refl; changes = refl; number = refl; value_is = refl; count_is = refl }

pub executed : (z : List ℕ) → Accepts (outcome_of (case_bytes z) (initiates 4)).image (executes_at 172800) 100 1
unfolding image_of request request_of initiates initiate_outcome initiate_number proposal_number executes_at execute_outcome execute_number execute_checks no_migration_number early_number migrate_number migrate_holding clear_migration absent_number arrives debited received transfer_number transfer_of outcome_of form_number head_exceeds items_exceed items_within reads_caller reads_token reads_other reads_flag reads_items is_view member view bytes flag in_set paused_number signed_number initialised_number not_owner_number owner_number insider not_insider_number shared_number amount_number max_vault_deposit deposit_amount_number approved_number limit_number cap_number funds_number verdict chain or_else all ◌and◌ ◌or◌ bias amount_at put_amount put le
executed z = record { formed = refl; changes = refl; number = refl; value_is = refl; count_is = refl }

pub executed_paused : (z : List ℕ) → Accepts (outcome_of (outcome_of (case_bytes z) (initiates 4)).image pauses).image (executes_at 172800) 100 1
unfolding image_of request request_of initiates initiate_outcome initiate_number proposal_number pause_outcome pause_number already_paused_number executes_at execute_outcome execute_number execute_checks no_migration_number early_number migrate_number migrate_holding clear_migration absent_number arrives debited received transfer_number transfer_of outcome_of form_number head_exceeds items_exceed items_within reads_caller reads_token reads_other reads_flag reads_items is_view member view bytes flag in_set paused_number signed_number initialised_number not_owner_number owner_number insider not_insider_number shared_number amount_number max_vault_deposit deposit_amount_number approved_number limit_number cap_number funds_number verdict chain or_else all ◌and◌ ◌or◌ bias amount_at put_amount put le
executed_paused z = record { formed = refl; changes = refl; number = refl; value_is = refl; count_is = refl }

pub deposits_10 : (z : List ℕ) → Accepts (case_bytes z) (deposits_in 7 10) 0 1
unfolding image_of request request_of deposits_in deposit_outcome deposit_checks funding_number receive_number expected_number absent_number arrives debited received transfer_number transfer_of record_balance snapshot_number outcome_of form_number head_exceeds items_exceed items_within reads_caller reads_token reads_other reads_flag reads_items is_view member view bytes flag in_set paused_number signed_number initialised_number not_owner_number owner_number insider not_insider_number shared_number amount_number max_vault_deposit deposit_amount_number approved_number limit_number cap_number funds_number verdict chain or_else all ◌and◌ ◌or◌ bias amount_at put_amount put le
deposits_10 z = record { formed = refl; changes = refl; number = refl; value_is = refl; count_is = refl }

pub then_initiated : (z : List ℕ) → Accepts (deposited_bytes z) (initiates 4) 0 1
unfolding image_of request request_of initiates initiate_outcome initiate_number proposal_number outcome_of form_number head_exceeds items_exceed items_within reads_caller reads_token reads_other reads_flag reads_items is_view member view bytes flag in_set paused_number signed_number initialised_number not_owner_number owner_number insider not_insider_number shared_number amount_number max_vault_deposit deposit_amount_number approved_number limit_number cap_number funds_number verdict chain or_else all ◌and◌ ◌or◌ bias amount_at put_amount put le
then_initiated z = record { formed = refl; changes = refl; number = refl; value_is = refl; count_is = refl }

pub then_executed : (z : List ℕ) → Accepts (outcome_of (deposited_bytes z) (initiates 4)).image (executes_at 172800) 110 1
unfolding image_of request request_of absent_number arrives debited received transfer_number transfer_of initiates initiate_outcome initiate_number proposal_number executes_at execute_outcome execute_number execute_checks no_migration_number early_number migrate_number migrate_holding clear_migration outcome_of form_number head_exceeds items_exceed items_within reads_caller reads_token reads_other reads_flag reads_items is_view member view bytes flag in_set paused_number signed_number initialised_number not_owner_number owner_number insider not_insider_number shared_number amount_number max_vault_deposit deposit_amount_number approved_number limit_number cap_number funds_number verdict chain or_else all ◌and◌ ◌or◌ bias amount_at put_amount put le
then_executed z = record { formed = refl; changes = refl; number = refl; value_is = refl; count_is = refl }

pub deposits_again : (z : List ℕ) → Refuses (migrated_bytes z) (deposits_in 7 10) 10
unfolding image_of request request_of deposits_in deposit_outcome deposit_checks funding_number receive_number expected_number absent_number arrives debited received transfer_number transfer_of record_balance snapshot_number outcome_of form_number head_exceeds items_exceed items_within reads_caller reads_token reads_other reads_flag reads_items is_view member view bytes flag in_set paused_number signed_number initialised_number not_owner_number owner_number insider not_insider_number shared_number amount_number max_vault_deposit deposit_amount_number approved_number limit_number cap_number funds_number verdict chain or_else all ◌and◌ ◌or◌ bias amount_at put_amount put le
deposits_again z = record { formed = refl; number = refl }

pub deposits-next : (z : List ℕ) → Accepts (migrated_bytes z) (deposits_in 8 10) 0 1
unfolding image_of request request_of deposits_in deposit_outcome deposit_checks funding_number receive_number expected_number absent_number arrives debited received transfer_number transfer_of record_balance snapshot_number outcome_of form_number head_exceeds items_exceed items_within reads_caller reads_token reads_other reads_flag reads_items is_view member view bytes flag in_set paused_number signed_number initialised_number not_owner_number owner_number insider not_insider_number shared_number amount_number max_vault_deposit deposit_amount_number approved_number limit_number cap_number funds_number verdict chain or_else all ◌and◌ ◌or◌ bias amount_at put_amount put le
deposits-next z = record { formed = refl; changes = refl; number = refl; value_is = refl; count_is = refl }

pub compliant_2 : (z : List ℕ) → Refuses (case_bytes z) (asks_compliance 2) 22
unfolding image_of request request_of asks_compliance compliant_outcome compliant_number absent_number outcome_of form_number head_exceeds items_exceed items_within reads_caller reads_token reads_other reads_flag reads_items is_view member view bytes flag in_set paused_number signed_number initialised_number not_owner_number owner_number insider not_insider_number shared_number amount_number max_vault_deposit deposit_amount_number approved_number limit_number cap_number funds_number verdict chain or_else all ◌and◌ ◌or◌ bias amount_at put_amount put le
compliant_2 z = record { formed = refl; number = refl }

pub deposits_1 : (z : List ℕ) → Accepts (case_bytes z) (deposits 1) 0 1
unfolding image_of request request_of deposit_outcome deposit_checks funding_number receive_number expected_number absent_number arrives debited received transfer_number transfer_of record_balance snapshot_number outcome_of form_number head_exceeds items_exceed items_within reads_caller reads_token reads_other reads_flag reads_items is_view member view bytes flag in_set paused_number signed_number initialised_number not_owner_number owner_number insider not_insider_number shared_number amount_number max_vault_deposit deposit_amount_number approved_number limit_number cap_number funds_number verdict chain or_else all ◌and◌ ◌or◌ bias amount_at put_amount put le
deposits_1 z = record { formed = refl; changes = refl; number = refl; value_is = refl; count_is = refl }

pub deposits-token_1 : Refuses (case_bytes credit_full) (deposits_token 1) 6
unfolding image_of request request_of credit_full credited deposits_token expected_number deposit_token_outcome token_checks token_funding_number token_cap_number receive_token_number overflow_number credited_number absent_number arrives debited received transfer_number transfer_of record_balance snapshot_number outcome_of form_number head_exceeds items_exceed items_within reads_caller reads_token reads_other reads_flag reads_items is_view member view bytes flag in_set paused_number signed_number initialised_number not_owner_number owner_number insider not_insider_number shared_number amount_number max_vault_deposit deposit_amount_number approved_number limit_number cap_number funds_number verdict chain or_else all ◌and◌ ◌or◌ bias amount_at put_amount put le
deposits-token_1 = record { formed = refl; number = refl }

pub limit_99 : (z : List ℕ) → Refuses (case_bytes z) (sets_limit 5 99) 5
unfolding image_of request request_of limit_set_outcome limit_set_number below_holding_number limit_role_number owner_role_number insider_role_number outcome_of form_number head_exceeds items_exceed items_within reads_caller reads_token reads_other reads_flag reads_items is_view member view bytes flag in_set paused_number signed_number initialised_number not_owner_number owner_number insider not_insider_number shared_number amount_number max_vault_deposit deposit_amount_number approved_number limit_number cap_number funds_number verdict chain or_else all ◌and◌ ◌or◌ bias amount_at put_amount put le
limit_99 z = record { formed = refl; number = refl }

pub limit_100 : (z : List ℕ) → Refuses (case_bytes z) (sets_limit 5 100) 2
unfolding image_of request request_of limit_set_outcome limit_set_number below_holding_number limit_role_number owner_role_number insider_role_number outcome_of form_number head_exceeds items_exceed items_within reads_caller reads_token reads_other reads_flag reads_items is_view member view bytes flag in_set paused_number signed_number initialised_number not_owner_number owner_number insider not_insider_number shared_number amount_number max_vault_deposit deposit_amount_number approved_number limit_number cap_number funds_number verdict chain or_else all ◌and◌ ◌or◌ bias amount_at put_amount put le
limit_100 z = record { formed = refl; number = refl }

pub pays_5 : (z : List ℕ) → Accepts (case_bytes z) (pays_to 4 5) 0 1
unfolding image_of request request_of pays_to withdraw_outcome withdraw_number payouts_number pay_number pay_image remaining_number withdraw_checks items_sum items_number item_number no_item_number items payouts_events payouts_image absent_number arrives debited received transfer_number transfer_of record_balance snapshot_number outcome_of form_number head_exceeds items_exceed items_within reads_caller reads_token reads_other reads_flag reads_items is_view member view bytes flag in_set paused_number signed_number initialised_number not_owner_number owner_number insider not_insider_number shared_number amount_number max_vault_deposit deposit_amount_number approved_number limit_number cap_number funds_number verdict chain or_else all ◌and◌ ◌or◌ bias amount_at put_amount put le
pays_5 z = record { formed = refl; changes = refl; number = refl; value_is = refl; count_is = refl }

pub compliant_0 : (z : List ℕ) → Views (case_bytes z) (asks_compliance 0) 0
unfolding image_of request request_of asks_compliance compliant_outcome compliant_number absent_number outcome_of form_number head_exceeds items_exceed items_within reads_caller reads_token reads_other reads_flag reads_items is_view member view bytes verdict chain or_else all ◌and◌ ◌or◌ bias amount_at put_amount put le
compliant_0 z = record { formed = refl; looks = refl; number = refl; value_is = refl; count_is = refl }

pub compliant_48 : (z : List ℕ) → Views (case_bytes z) (asks_compliance 48) 1
unfolding image_of request request_of asks_compliance compliant_outcome compliant_number absent_number outcome_of form_number head_exceeds items_exceed items_within reads_caller reads_token reads_other reads_flag reads_items is_view member view bytes verdict chain or_else all ◌and◌ ◌or◌ bias amount_at put_amount put le
compliant_48 z = record { formed = refl; looks = refl; number = refl; value_is = refl; count_is = refl }

-- ---- images after an operation
pub paid : (z : List ℕ) → (outcome_of (case_bytes z) (pays_to 4 5)).image ≡ paid_bytes z
unfolding image_of request request_of pays_to withdraw_outcome payouts_image pay_image record_balance arrives debited received transfer_of outcome_of verdict chain or_else all ◌and◌ ◌or◌ bias amount_at put_amount put le
paid z = refl

deposited_before : (w : List ℕ) → (outcome_of (case_bytes (credited (replicate 16 0) w)) (deposits_in 7 10)).image ≡ deposited_bytes (credited (10 ∷ replicate 15 0) w)
unfolding image_of credited request request_of deposits_in deposit_outcome deposit_image add_credit set_credit track_key tracked record_balance arrives debited received transfer_of outcome_of verdict chain or_else all ◌and◌ ◌or◌ bias amount_at put_amount put le
deposited_before w = refl

pub deposited : (outcome_of (case_bytes no_credit) (deposits_in 7 10)).image ≡ deposited_bytes credit_of_ten
unfolding no_credit credit_of_ten
deposited = deposited_before (replicate 16336 0)

pub migrated : (z : List ℕ) → (outcome_of (outcome_of (deposited_bytes z) (initiates 4)).image (executes_at 172800)).image ≡ migrated_bytes z
unfolding image_of request request_of initiates initiate_outcome initiate_number proposal_number executes_at execute_outcome execute_number execute_checks no_migration_number early_number migrate_number migrate_holding clear_migration arrives debited received transfer_of outcome_of verdict chain or_else all ◌and◌ ◌or◌ bias amount_at put_amount put le
migrated z = refl

pub credit-kept : credit (outcome_of (case_bytes credit_full) (deposits 1)).image 0 2 ≡ bias + (2 ^ 127 - 1)
unfolding image_of credit_full credited request request_of deposit_outcome deposit_image add_credit set_credit track_key tracked record_balance arrives debited received transfer_of outcome_of verdict chain or_else all ◌and◌ ◌or◌ bias amount_at put_amount put le
credit-kept = refl

-- ---- the cells that a payout changes
front_cells : (z : List ℕ) → differing 259 (case_bytes z) (paid_bytes z) ≡ 3
unfolding image_of differing same_bytes_of ◌and◌
front_cells z = refl

same_rest : (z : List ℕ) → drop 4144 (case_bytes z) ≡ drop 4144 (paid_bytes z)
unfolding image_of
same_rest z = refl

pub three_cells : (z : List ℕ) → differing 2302 (case_bytes z) (paid_bytes z) ≡ 3
three_cells z = differing_front 259 2043 (case_bytes z) (paid_bytes z) (same_rest z) ∙ front_cells z
