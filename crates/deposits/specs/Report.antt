-- Operation 9 `deposit_with_failure_report`: a transfer that fails is announced, not refused. l is the image, t the token's address;
-- amounts stand as numbers (value plus bias).
use Rattle.std.specs.Prelude.{List, [], ◌∷◌, ℕ, eqb}
use Rattle.outcome.specs.Outcome.{Outcome}
use Rattle.outcome.specs.Checked.{checked}
use Rattle.events.specs.Kinds.{vault_deposit_failed_event}
use Rattle.record.specs.Record.{caller_of, sequence_of, signers_of, amount_of}
use Rattle.token.specs.Token.{transfer_number, transfer_of}
use Rattle.image.specs.Layout.{slot, default_token, holding, credit}
use Rattle.fields.specs.Rules.{pick, chain}
use Rattle.deposits.specs.Deposit.{overflow_number, expected_number, expected_holding, deposit_image, deposit_checks, deposited_outcome}

-- m is the image after the transfer, d the holding expected: 12; 7 of the credit
unfoldable pub credited_number : List ℕ → ℕ → ℕ → ℕ → ℕ → ℕ
credited_number m t from d n = chain (expected_number (holding m (slot t) 1) d ∷ overflow_number (credit m (slot t) from) n ∷ [])

-- after a transfer: 12, 7, and value 1
abbrev pub settled_report : List ℕ → ℕ → ℕ → ℕ → ℕ → Outcome
settled_report l t from seq n =
    deposited_outcome (credited_number (transfer_of l t from 1 n) t from (expected_holding l t n) n) 1 l t from n (deposit_image l t from seq n)

-- a failed transfer is done with value 0, no money moved
abbrev pub failed_report : List ℕ → ℕ → ℕ → ℕ → Outcome
failed_report l t from n = record { number = 0; value = 0; events = vault_deposit_failed_event from t n ∷ []; image = l }

unfoldable pub report_outcome : List ℕ → ℕ → ℕ → ℕ → ℕ → Outcome
report_outcome l t from seq n =
    pick (eqb (transfer_number l t from 1 n) 0) (settled_report l t from seq n) (failed_report l t from n)

-- as `deposit` to 11, then the transfer
unfoldable pub failure_report_outcome : List ℕ → ℕ → ℕ → ℕ → ℕ → Outcome
failure_report_outcome l caller signers seq n = checked (deposit_checks l caller signers seq n) (report_outcome l (default_token l) caller seq n)

-- operation 9, of a record
abbrev pub deposit_with_failure_report : List ℕ → List ℕ → Outcome
deposit_with_failure_report l r = failure_report_outcome l (caller_of r) (signers_of r) (sequence_of r) (amount_of r)
