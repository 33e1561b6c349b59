-- Operation 7 `deposit_token`. l is the image, t the token's address; amounts stand as numbers (value plus bias).
use Rattle.std.specs.Prelude.{List, [], ◌∷◌, ℕ, eqb}
use Rattle.outcome.specs.Outcome.{Outcome}
use Rattle.outcome.specs.Checked.{checked}
use Rattle.checks.specs.Checks.{in_set, paused_number, shared_number, deposit_amount_number, approved_number, limit_number}
use Rattle.record.specs.Record.{caller_of, token_of, sequence_of, signers_of, amount_of}
use Rattle.token.specs.Token.{absent_number, transfer_number, transfer_of}
use Rattle.storage.specs.Setters.{record_balance, snapshot_number}
use Rattle.image.specs.Layout.{slot, capped_set, cap, holding}
use Rattle.fields.specs.Rules.{pick, chain}
use Rattle.deposits.specs.Deposit.{overflow_number, expected_holding, add_credit, deposited_outcome}
use Rattle.deposits.specs.Report.{credited_number}

-- with a cap on the token: 7, 6, as with the vault limit
unfoldable pub token_cap_number : List ℕ → ℕ → ℕ → ℕ → ℕ
token_cap_number l t h n = pick (eqb (in_set (capped_set l) t) 1) (limit_number h n (cap l t)) 0

-- 10 token not approved; 23 absent; 11; with a cap 7, 6
unfoldable pub token_funding_number : List ℕ → ℕ → ℕ → ℕ → ℕ
token_funding_number l t seq n =
    chain
    (approved_number l t
    ∷ absent_number l t
    ∷ snapshot_number l t seq (holding l (slot t) 1)
    ∷ token_cap_number l t (holding l (slot t) 1) n
    ∷ [])

-- 8 paused; shared gate; 4, 5; from 10 to the cap
unfoldable pub token_checks : List ℕ → ℕ → ℕ → ℕ → ℕ → ℕ → ℕ
token_checks l caller signers seq t n =
    chain
    (paused_number l
    ∷ shared_number l caller signers
    ∷ deposit_amount_number n
    ∷ token_funding_number l t seq n
    ∷ [])

-- 23 transfer fails; 7 holding plus amount; 12; 7 of the credit
unfoldable pub receive_token_number : List ℕ → ℕ → ℕ → ℕ → ℕ
receive_token_number l t from n =
    chain
    (transfer_number l t from 1 n
    ∷ overflow_number (holding l (slot t) 1) n
    ∷ credited_number (transfer_of l t from 1 n) t from (expected_holding l t n) n
    ∷ [])

-- after the transfer: the snapshot of the vault's holding, then the credit, which fits
unfoldable pub deposit_token_image : List ℕ → ℕ → ℕ → ℕ → ℕ → List ℕ
deposit_token_image l t from seq n =
    add_credit (record_balance (transfer_of l t from 1 n) t seq (holding (transfer_of l t from 1 n) (slot t) 1)) t from n

unfoldable pub deposit_token_outcome : List ℕ → ℕ → ℕ → ℕ → ℕ → ℕ → Outcome
deposit_token_outcome l caller signers seq t n =
    checked (token_checks l caller signers seq t n)
    (deposited_outcome (receive_token_number l t caller n) 0 l t caller n (deposit_token_image l t caller seq n))

-- operation 7, of a record
abbrev pub deposit_token : List ℕ → List ℕ → Outcome
deposit_token l r = deposit_token_outcome l (caller_of r) (signers_of r) (sequence_of r) (token_of r) (amount_of r)
