-- The views: 24 `balance`, 25 `effective_withdraw_limit`, 26 `get_token_account_balance`, 27 `is_token_approved`, 28 `is_token_compliant`. l is the image; a value is a plain number.
use Rattle.std.specs.Prelude.{List, [], ◌∷◌, ℕ, ◌-◌, min, eqb, ltb}
use Rattle.outcome.specs.Outcome.{Outcome, views}
use Rattle.checks.specs.Checks.{in_set, flag, operator_limit_bit, paused_number, initialised_number, insider}
use Rattle.record.specs.Record.{caller_of, token_of}
use Rattle.token.specs.Token.{absent_number, vault_balance}
use Rattle.image.specs.Layout.{slot, owner, approved_set, operator_limit, credit}
use Rattle.amount.specs.Biased.{bias}
use Rattle.fields.specs.Rules.{pick, eq, ne, Rule, when, verdict, chain}

-- ---- 24: 1
unfoldable pub balance_outcome : List ℕ → Outcome
balance_outcome l = views (initialised_number l) (vault_balance l - bias) l

abbrev pub balance : List ℕ → List ℕ → Outcome
balance l r = balance_outcome l

-- ---- 25: 8; 1; 3 neither owner nor operator; 6 the operator has no limit. The owner may take all that is there
abbrev pub withdraw_cap_rules : List ℕ → ℕ → List Rule
withdraw_cap_rules l caller =
    when (eq (owner l) caller) 0
    ∷ when (ne (insider l caller) 1) 3
    ∷ when (ne (flag operator_limit_bit l) 1) 6
    ∷ []

unfoldable pub withdraw_cap_number : List ℕ → ℕ → ℕ
withdraw_cap_number l caller = verdict (withdraw_cap_rules l caller)

unfoldable pub effective_number : List ℕ → ℕ → ℕ
effective_number l caller = chain (paused_number l ∷ initialised_number l ∷ withdraw_cap_number l caller ∷ [])

unfoldable pub effective_value : List ℕ → ℕ → ℕ
effective_value l caller = pick (eqb (owner l) caller) (vault_balance l - bias) (min (vault_balance l - bias) (operator_limit l - bias))

unfoldable pub effective_outcome : List ℕ → ℕ → Outcome
effective_outcome l caller = views (effective_number l caller) (effective_value l caller) l

abbrev pub effective_withdraw_limit : List ℕ → List ℕ → Outcome
effective_withdraw_limit l r = effective_outcome l (caller_of r)

-- ---- 26: the credit of the caller in a token; no address below 48 is one
unfoldable pub account_balance : List ℕ → ℕ → ℕ → ℕ
account_balance l t a = pick (ltb t 48) 0 (credit l (slot t) a - bias)

unfoldable pub account_outcome : List ℕ → ℕ → ℕ → Outcome
account_outcome l t a = views 0 (account_balance l t a) l

abbrev pub get_token_account_balance : List ℕ → List ℕ → Outcome
get_token_account_balance l r = account_outcome l (token_of r) (caller_of r)

-- ---- 27
unfoldable pub approved_outcome : List ℕ → ℕ → Outcome
approved_outcome l t = views 0 (in_set (approved_set l) t) l

abbrev pub is_token_approved : List ℕ → List ℕ → Outcome
is_token_approved l r = approved_outcome l (token_of r)

-- ---- 28: address 0 answers no; else 23 token absent
unfoldable pub compliant_number : List ℕ → ℕ → ℕ
compliant_number l t = pick (eqb t 0) 0 (absent_number l t)

unfoldable pub compliant_outcome : List ℕ → ℕ → Outcome
compliant_outcome l t = views (compliant_number l t) (pick (eqb t 0) 0 1) l

abbrev pub is_token_compliant : List ℕ → List ℕ → Outcome
is_token_compliant l r = compliant_outcome l (token_of r)
