-- Operations 2 `deposit` and 3 `deposit_with_fee`, and the parts that the other deposits share. l is the image, t the token's address;
-- amounts stand as numbers (value plus bias).
use Rattle.std.specs.Prelude.{List, [], ◌∷◌, ◌++◌, ℕ, ◌+◌, ◌-◌, ltb}
use Rattle.outcome.specs.Outcome.{Outcome}
use Rattle.outcome.specs.Checked.{checked}
use Rattle.checks.specs.Checks.{paused_number, shared_number, max_deposit_number, deposit_amount_number, approved_number, limit_number}
use Rattle.events.specs.Kinds.{deposited_event, token_deposited_event}
use Rattle.record.specs.Record.{caller_of, sequence_of, signers_of, amount_of, fee_of}
use Rattle.token.specs.Token.{transfer_number, transfer_of}
use Rattle.storage.specs.Setters.{set_credit, record_balance, snapshot_number}
use Rattle.image.specs.Layout.{slot, default_token, vault_limit, holding, credit}
use Rattle.amount.specs.Biased.{bias}
use Rattle.fields.specs.Rules.{pick, lt, leq, ne, Rule, when, verdict, chain}

-- from 10: token not approved; 7, 6 of the vault limit; 11 the snapshot of this sequence shows another holding
unfoldable pub funding_number : List ℕ → ℕ → ℕ → ℕ → ℕ
funding_number l t seq n =
    chain
    (approved_number l t
    ∷ limit_number (holding l (slot t) 1) n (vault_limit l)
    ∷ snapshot_number l t seq (holding l (slot t) 1)
    ∷ [])

-- 7: the sum of two amounts passes 2 ^ 127 - 1
abbrev pub overflow_rules : ℕ → ℕ → List Rule
overflow_rules a n = when (leq (bias + bias + bias) (a + n)) 7 ∷ []

unfoldable pub overflow_number : ℕ → ℕ → ℕ
overflow_number a n = verdict (overflow_rules a n)

-- 12: the vault's holding is not d, the one expected
abbrev pub expected_rules : ℕ → ℕ → List Rule
expected_rules h d = when (ne h d) 12 ∷ []

unfoldable pub expected_number : ℕ → ℕ → ℕ
expected_number h d = verdict (expected_rules h d)

-- the vault's holding after the transfer, and the one expected
abbrev pub deposit_holding : List ℕ → ℕ → ℕ → ℕ → ℕ
deposit_holding l t from n = holding (transfer_of l t from 1 n) (slot t) 1

abbrev pub expected_holding : List ℕ → ℕ → ℕ → ℕ
expected_holding l t n = holding l (slot t) 1 + n - bias

-- 23 transfer fails; 12
unfoldable pub receive_number : List ℕ → ℕ → ℕ → ℕ → ℕ
receive_number l t from n =
    chain (transfer_number l t from 1 n ∷ expected_number (deposit_holding l t from n) (expected_holding l t n) ∷ [])

-- the credit of an account with an amount added, where that fits
unfoldable pub add_credit : List ℕ → ℕ → ℕ → ℕ → List ℕ
add_credit l t a n =
    pick (ltb (credit l (slot t) a + n) (bias + bias + bias)) (set_credit l t a (credit l (slot t) a + n - bias)) l

-- after the transfer: the credit, then the snapshot of the vault's holding
unfoldable pub deposit_image : List ℕ → ℕ → ℕ → ℕ → ℕ → List ℕ
deposit_image l t from seq n =
    record_balance (add_credit (transfer_of l t from 1 n) t from n) t seq (holding (transfer_of l t from 1 n) (slot t) 1)

-- 8 paused; shared gate; 4, 5; from 10 to 11
unfoldable pub deposit_checks : List ℕ → ℕ → ℕ → ℕ → ℕ → ℕ
deposit_checks l caller signers seq n =
    chain
    (paused_number l
    ∷ shared_number l caller signers
    ∷ deposit_amount_number n
    ∷ funding_number l (default_token l) seq n
    ∷ [])

-- a deposit with its number, its value and the image m that it leaves
abbrev pub deposited_outcome : (number value : ℕ) → List ℕ → (t from n : ℕ) → List ℕ → Outcome
deposited_outcome k v l t from n m =
    record { number = k; value = v; events = deposited_event from n (deposit_holding l t from n) ∷ []; image = m }

unfoldable pub deposit_outcome : List ℕ → ℕ → ℕ → ℕ → ℕ → Outcome
deposit_outcome l caller signers seq n =
    let t = default_token l in
    checked (deposit_checks l caller signers seq n) (deposited_outcome (receive_number l t caller n) 0 l t caller n (deposit_image l t caller seq n))

-- operation 2, of a record
abbrev pub deposit : List ℕ → List ℕ → Outcome
deposit l r = deposit_outcome l (caller_of r) (signers_of r) (sequence_of r) (amount_of r)

-- ---- operation 3
-- 4: fee below 0, gross not above 0, or fee not below gross
abbrev pub fee_rules : ℕ → ℕ → List Rule
fee_rules gross fee = when (lt fee bias) 4 ∷ when (leq gross bias) 4 ∷ when (leq gross fee) 4 ∷ []

unfoldable pub fee_number : ℕ → ℕ → ℕ
fee_number gross fee = verdict (fee_rules gross fee)

-- and 5: gross above 10 ^ 30
unfoldable pub gross_number : ℕ → ℕ → ℕ
gross_number gross fee = chain (fee_number gross fee ∷ max_deposit_number gross ∷ [])

abbrev pub net_of : ℕ → ℕ → ℕ
net_of gross fee = gross + bias - fee

-- then `deposit` of the net, with an event of its own after that of `deposit`
unfoldable pub deposit_with_fee_outcome : List ℕ → ℕ → ℕ → ℕ → ℕ → ℕ → Outcome
deposit_with_fee_outcome l caller signers seq gross fee =
    let d = deposit_outcome l caller signers seq (net_of gross fee) in
    checked (gross_number gross fee)
    (record {
      number = d.number;
      value = 0;
      events = d.events ++ (token_deposited_event caller gross fee (net_of gross fee) ∷ []);
      image = d.image;
    })

-- operation 3, of a record: its amount is the gross
abbrev pub deposit_with_fee : List ℕ → List ℕ → Outcome
deposit_with_fee l r = deposit_with_fee_outcome l (caller_of r) (signers_of r) (sequence_of r) (amount_of r) (fee_of r)
