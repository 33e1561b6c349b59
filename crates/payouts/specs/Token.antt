-- Operation 8 `withdraw_token`: one payout of a token that the record names. l is the image, t the token's address; amounts stand as numbers (value plus bias).
use Rattle.std.specs.Prelude.{List, [], ◌∷◌, ℕ, ◌+◌, ◌-◌, leb}
use Rattle.outcome.specs.Outcome.{Outcome}
use Rattle.checks.specs.Checks.{paused_number, shared_number, amount_number, cap_number, funds_number}
use Rattle.events.specs.Kinds.{withdrawn_event}
use Rattle.record.specs.Record.{caller_of, token_of, other_of, sequence_of, signers_of, amount_of}
use Rattle.token.specs.Token.{absent_number, transfer_of}
use Rattle.storage.specs.Setters.{set_credit, record_balance}
use Rattle.image.specs.Layout.{slot, owner, holding, credit}
use Rattle.amount.specs.Biased.{bias}
use Rattle.fields.specs.Rules.{pick, lt, eq, Rule, when, verdict, chain}
use Rattle.payouts.specs.Payouts.{held_after, pay_number, by_operator}

-- 6: a non-owner whose credit is below the amount
abbrev pub credit_rules : List ℕ → ℕ → ℕ → ℕ → List Rule
credit_rules l t caller n = when (eq (owner l) caller) 0 ∷ when (lt (credit l (slot t) caller) n) 6 ∷ []

unfoldable pub credit_number : List ℕ → ℕ → ℕ → ℕ → ℕ
credit_number l t caller n = verdict (credit_rules l t caller n)

-- 8; shared gate; 4; 6 above the operator limit; 23 no such token; 6 above the vault's holding of it; 6 above the credit
unfoldable pub withdraw_token_checks : List ℕ → ℕ → ℕ → ℕ → ℕ → ℕ
withdraw_token_checks l t caller signers n =
    chain
    (paused_number l
    ∷ shared_number l caller signers
    ∷ amount_number n
    ∷ cap_number l caller n
    ∷ absent_number l t
    ∷ funds_number (holding l (slot t) 1) n
    ∷ credit_number l t caller n
    ∷ [])

-- and then 23; 13
unfoldable pub withdraw_token_number : List ℕ → ℕ → ℕ → ℕ → ℕ → ℕ → ℕ
withdraw_token_number l t caller signers to n = chain (withdraw_token_checks l t caller signers n ∷ pay_number l t to n ∷ [])

-- the credit of an account lowered by an amount, where it covers it
unfoldable pub take_credit : List ℕ → ℕ → ℕ → ℕ → List ℕ
take_credit l t a n = pick (leb n (credit l (slot t) a)) (set_credit l t a (credit l (slot t) a + bias - n)) l

-- the transfer, the caller's credit, the snapshot of the vault's holding
unfoldable pub withdraw_token_image : List ℕ → ℕ → ℕ → ℕ → ℕ → ℕ → List ℕ
withdraw_token_image l t caller seq to n = record_balance (take_credit (transfer_of l t 1 to n) t caller n) t seq (held_after l t to n)

unfoldable pub withdraw_token_outcome : List ℕ → ℕ → ℕ → ℕ → ℕ → ℕ → ℕ → Outcome
withdraw_token_outcome l t caller signers seq to n =
    record {
      number = withdraw_token_number l t caller signers to n;
      value = 0;
      events = withdrawn_event caller to n (held_after l t to n) (by_operator l caller) ∷ [];
      image = withdraw_token_image l t caller seq to n;
    }

-- operation 8, of a record
abbrev pub withdraw_token : List ℕ → List ℕ → Outcome
withdraw_token l r = withdraw_token_outcome l (token_of r) (caller_of r) (signers_of r) (sequence_of r) (other_of r) (amount_of r)
