-- Operations 10 `set_operator_withdraw_limit`, 11 `set_limit`, 12 `set_token_max_limit`, 13 `set_operator`, 14 `revoke_operator`, 18 `pause` and 19 `unpause`.
-- l is the image; amounts stand as numbers (value plus bias).
use Rattle.std.specs.Prelude.{List, [], ◌∷◌, ℕ, ltb}
use Rattle.outcome.specs.Outcome.{Outcome, announces}
use Rattle.checks.specs.Checks.{flag, paused_bit, operator_bit, operator_limit_bit, paused_number, signed_number, initialised_number, owner_role_number, owner_number, insider_role_number, shared_number, amount_number}
use Rattle.events.specs.Kinds.{limit_set_event, operator_withdraw_limit_set_event, operator_set_event, operator_revoked_event, paused_event, unpaused_event}
use Rattle.record.specs.Record.{caller_of, token_of, other_of, timestamp_of, signers_of, amount_of}
use Rattle.storage.specs.Setters.{set_cap}
use Rattle.token.specs.Token.{vault_balance}
use Rattle.image.specs.Layout.{flags, vault_limit, operator_limit, with_bit, without_bit}
use Rattle.amount.specs.Biased.{put_amount}
use Rattle.fields.specs.Rules.{pick, lt, eq, ne, Rule, when, verdict, chain}
use Rattle.fields.specs.Bytes.{put}

-- ---- 10: 8; owner gate; 4
unfoldable pub operator_limit_number : List ℕ → ℕ → ℕ → ℕ → ℕ
operator_limit_number l caller signers n = chain (paused_number l ∷ owner_number l caller signers ∷ amount_number n ∷ [])

unfoldable pub operator_limit_outcome : List ℕ → ℕ → ℕ → ℕ → Outcome
operator_limit_outcome l caller signers n =
    announces (operator_limit_number l caller signers n) (operator_withdraw_limit_set_event caller (operator_limit l) n)
    (put_amount (put 2 l 0 (with_bit (flags l) operator_limit_bit)) 24 n)

abbrev pub set_operator_withdraw_limit : List ℕ → List ℕ → Outcome
set_operator_withdraw_limit l r = operator_limit_outcome l (caller_of r) (signers_of r) (amount_of r)

-- ---- 11: 8; 1; 4; 6 below holding; raising 3, 22 for owner only, else for owner or operator
abbrev pub below_holding_rules : List ℕ → ℕ → List Rule
below_holding_rules l n = when (lt n (vault_balance l)) 6 ∷ []

unfoldable pub below_holding_number : List ℕ → ℕ → ℕ
below_holding_number l n = verdict (below_holding_rules l n)

unfoldable pub limit_role_number : List ℕ → ℕ → ℕ → ℕ
limit_role_number l caller n = pick (ltb (vault_limit l) n) (owner_role_number l caller) (insider_role_number l caller)

unfoldable pub limit_set_number : List ℕ → ℕ → ℕ → ℕ → ℕ
limit_set_number l caller signers n =
    chain
    (paused_number l
    ∷ initialised_number l
    ∷ amount_number n
    ∷ below_holding_number l n
    ∷ limit_role_number l caller n
    ∷ signed_number signers caller
    ∷ [])

unfoldable pub limit_set_outcome : List ℕ → ℕ → ℕ → ℕ → Outcome
limit_set_outcome l caller signers n =
    announces (limit_set_number l caller signers n) (limit_set_event caller (vault_limit l) n) (put_amount l 8 n)

abbrev pub set_limit : List ℕ → List ℕ → Outcome
set_limit l r = limit_set_outcome l (caller_of r) (signers_of r) (amount_of r)

-- ---- 12: 8; shared gate; 4. No event
unfoldable pub token_max_limit_number : List ℕ → ℕ → ℕ → ℕ → ℕ
token_max_limit_number l caller signers n = chain (paused_number l ∷ shared_number l caller signers ∷ amount_number n ∷ [])

unfoldable pub token_max_limit_outcome : List ℕ → ℕ → ℕ → ℕ → ℕ → Outcome
token_max_limit_outcome l caller t signers n =
    record { number = token_max_limit_number l caller signers n; value = 0; events = []; image = set_cap l t n }

abbrev pub set_token_max_limit : List ℕ → List ℕ → Outcome
set_token_max_limit l r = token_max_limit_outcome l (caller_of r) (token_of r) (signers_of r) (amount_of r)

-- ---- 13, 14: owner gate. The operator limit stays
unfoldable pub operator_set_outcome : List ℕ → ℕ → ℕ → ℕ → Outcome
operator_set_outcome l caller signers a =
    announces (owner_number l caller signers) (operator_set_event caller a) (put 1 (put 2 l 0 (with_bit (flags l) operator_bit)) 4 a)

abbrev pub set_operator : List ℕ → List ℕ → Outcome
set_operator l r = operator_set_outcome l (caller_of r) (signers_of r) (other_of r)

unfoldable pub operator_revoked_outcome : List ℕ → ℕ → ℕ → Outcome
operator_revoked_outcome l caller signers =
    announces (owner_number l caller signers) (operator_revoked_event caller) (put 1 (put 2 l 0 (without_bit (flags l) operator_bit)) 4 0)

abbrev pub revoke_operator : List ℕ → List ℕ → Outcome
revoke_operator l r = operator_revoked_outcome l (caller_of r) (signers_of r)

-- ---- 18, 19: owner gate; 18, 19 already so
abbrev pub already_paused_rules : List ℕ → List Rule
already_paused_rules l = when (eq (flag paused_bit l) 1) 18 ∷ []

unfoldable pub already_paused_number : List ℕ → ℕ
already_paused_number l = verdict (already_paused_rules l)

unfoldable pub pause_number : List ℕ → ℕ → ℕ → ℕ
pause_number l caller signers = chain (owner_number l caller signers ∷ already_paused_number l ∷ [])

unfoldable pub pause_outcome : List ℕ → ℕ → ℕ → ℕ → Outcome
pause_outcome l caller signers time = announces (pause_number l caller signers) (paused_event caller time) (put 2 l 0 (with_bit (flags l) paused_bit))

abbrev pub pause : List ℕ → List ℕ → Outcome
pause l r = pause_outcome l (caller_of r) (signers_of r) (timestamp_of r)

abbrev pub not_paused_rules : List ℕ → List Rule
not_paused_rules l = when (ne (flag paused_bit l) 1) 19 ∷ []

unfoldable pub not_paused_number : List ℕ → ℕ
not_paused_number l = verdict (not_paused_rules l)

unfoldable pub unpause_number : List ℕ → ℕ → ℕ → ℕ
unpause_number l caller signers = chain (owner_number l caller signers ∷ not_paused_number l ∷ [])

unfoldable pub unpause_outcome : List ℕ → ℕ → ℕ → ℕ → Outcome
unpause_outcome l caller signers time = announces (unpause_number l caller signers) (unpaused_event caller time) (put 2 l 0 (without_bit (flags l) paused_bit))

abbrev pub unpause : List ℕ → List ℕ → Outcome
unpause l r = unpause_outcome l (caller_of r) (signers_of r) (timestamp_of r)
