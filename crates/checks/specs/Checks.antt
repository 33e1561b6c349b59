-- Checks that several operations make, each a list of rules in the order of docs/FORMATS.md with its numbers. l is the image; amounts stand as numbers (value plus bias).
use Rattle.std.specs.Prelude.{List, [], ◌∷◌, ℕ, ◌+◌, ◌^◌}
use Rattle.fields.specs.Rules.{lt, leq, eq, ne, Rule, when, verdict, chain}
use Rattle.amount.specs.Biased.{bias}
use Rattle.image.specs.Layout.{owner, operator, operator_limit, approved_set}
unfoldable pub use Rattle.image.specs.Flags.{flag, in_set}

abbrev pub initialised_bit : ℕ
initialised_bit = 0

abbrev pub paused_bit : ℕ
paused_bit = 1

abbrev pub operator_bit : ℕ
operator_bit = 2

abbrev pub operator_limit_bit : ℕ
operator_limit_bit = 3

abbrev pub pending_owner_bit : ℕ
pending_owner_bit = 4

abbrev pub migration_bit : ℕ
migration_bit = 5

-- 8: paused
abbrev pub paused_rules : List ℕ → List Rule
paused_rules l = when (ne (flag paused_bit l) 0) 8 ∷ []

unfoldable pub paused_number : List ℕ → ℕ
paused_number l = verdict (paused_rules l)

-- 22: the address is not in the signer set
abbrev pub signed_rules : ℕ → ℕ → List Rule
signed_rules signers a = when (ne (in_set signers a) 1) 22 ∷ []

unfoldable pub signed_number : ℕ → ℕ → ℕ
signed_number signers a = verdict (signed_rules signers a)

-- 1: not initialised
abbrev pub initialised_rules : List ℕ → List Rule
initialised_rules l = when (ne (flag initialised_bit l) 1) 1 ∷ []

unfoldable pub initialised_number : List ℕ → ℕ
initialised_number l = verdict (initialised_rules l)

-- 3: caller not owner
abbrev pub owner_role_rules : List ℕ → ℕ → List Rule
owner_role_rules l caller = when (ne (owner l) caller) 3 ∷ []

unfoldable pub owner_role_number : List ℕ → ℕ → ℕ
owner_role_number l caller = verdict (owner_role_rules l caller)

-- the owner gate: 1 not initialised, 3 caller not owner; 22 caller not in signer set
abbrev pub owner_rules : List ℕ → ℕ → List Rule
owner_rules l caller = when (ne (flag initialised_bit l) 1) 1 ∷ owner_role_rules l caller

unfoldable pub not_owner_number : List ℕ → ℕ → ℕ
not_owner_number l caller = verdict (owner_rules l caller)

unfoldable pub owner_number : List ℕ → ℕ → ℕ → ℕ
owner_number l caller signers = chain (not_owner_number l caller ∷ signed_number signers caller ∷ [])

-- 1 where the address is the owner's or the operator's, and 0
unfoldable pub insider : List ℕ → ℕ → ℕ
insider l a =
    verdict
    (when (eq (owner l) a) 1
    ∷ when (ne (flag operator_bit l) 1) 0
    ∷ when (eq (operator l) a) 1
    ∷ [])

-- 3: caller neither owner nor operator
abbrev pub insider_role_rules : List ℕ → ℕ → List Rule
insider_role_rules l caller = when (ne (insider l caller) 1) 3 ∷ []

unfoldable pub insider_role_number : List ℕ → ℕ → ℕ
insider_role_number l caller = verdict (insider_role_rules l caller)

-- the shared gate: 1, 3, 22, operator also let in
abbrev pub insider_rules : List ℕ → ℕ → List Rule
insider_rules l caller = when (ne (flag initialised_bit l) 1) 1 ∷ insider_role_rules l caller

unfoldable pub not_insider_number : List ℕ → ℕ → ℕ
not_insider_number l caller = verdict (insider_rules l caller)

unfoldable pub shared_number : List ℕ → ℕ → ℕ → ℕ
shared_number l caller signers = chain (not_insider_number l caller ∷ signed_number signers caller ∷ [])

-- 4: not above 0
abbrev pub amount_rules : ℕ → List Rule
amount_rules n = when (leq n bias) 4 ∷ []

unfoldable pub amount_number : ℕ → ℕ
amount_number n = verdict (amount_rules n)

-- 5: above 10 ^ 30
unfoldable pub max_vault_deposit : ℕ
max_vault_deposit = 10 ^ 30

abbrev pub max_deposit_rules : ℕ → List Rule
max_deposit_rules n = when (lt (bias + max_vault_deposit) n) 5 ∷ []

unfoldable pub max_deposit_number : ℕ → ℕ
max_deposit_number n = verdict (max_deposit_rules n)

-- 4: not above 0; 5
abbrev pub deposit_amount_rules : ℕ → List Rule
deposit_amount_rules n = when (leq n bias) 4 ∷ max_deposit_rules n

unfoldable pub deposit_amount_number : ℕ → ℕ
deposit_amount_number n = verdict (deposit_amount_rules n)

-- 10: token not approved
abbrev pub approved_rules : List ℕ → ℕ → List Rule
approved_rules l t = when (ne (in_set (approved_set l) t) 1) 10 ∷ []

unfoldable pub approved_number : List ℕ → ℕ → ℕ
approved_number l t = verdict (approved_rules l t)

-- 7: holding plus amount passes 2 ^ 127 - 1; 6: it is above the limit
abbrev pub limit_rules : ℕ → ℕ → ℕ → List Rule
limit_rules h n limit = when (leq (bias + bias + bias) (h + n)) 7 ∷ when (lt (limit + bias) (h + n)) 6 ∷ []

unfoldable pub limit_number : ℕ → ℕ → ℕ → ℕ
limit_number h n limit = verdict (limit_rules h n limit)

-- 6: a non-owner with no operator limit, or above it
abbrev pub cap_rules : List ℕ → ℕ → ℕ → List Rule
cap_rules l caller sum =
    when (eq (owner l) caller) 0
    ∷ when (ne (flag operator_limit_bit l) 1) 6
    ∷ when (lt (operator_limit l) sum) 6
    ∷ []

unfoldable pub cap_number : List ℕ → ℕ → ℕ → ℕ
cap_number l caller sum = verdict (cap_rules l caller sum)

-- 6: above the holding
abbrev pub funds_rules : ℕ → ℕ → List Rule
funds_rules h sum = when (lt h sum) 6 ∷ []

unfoldable pub funds_number : ℕ → ℕ → ℕ
funds_number h sum = verdict (funds_rules h sum)
