-- SEP-41 `balance` and `transfer` over the token table, by the rules of docs/FORMATS.md, "Tokens and transfers". A token is named by its address t;
-- an amount stands as its number n (its value plus `bias`), so that the toll is taken off by n - toll, never below 0.
use Rattle.std.specs.Prelude.{◌≡◌, List, [], ◌∷◌, ℕ, ◌+◌, ◌-◌, ◌≤◌, ◌<◌, eqb}
use Rattle.fields.specs.Rules.{lt, leq, eq, ne, Rule, when, verdict, pick}
use Rattle.amount.specs.Biased.{bias, put_amount}
use Rattle.image.specs.Layout.{slot, default_token, kind, toll, holding, holding_at}

-- 23 where there is no such token: `balance` has nothing to answer
abbrev pub absent_rules : List ℕ → ℕ → List Rule
absent_rules l t =
    when (lt t 48) 23
    ∷ when (leq 64 t) 23
    ∷ when (eq (kind l (slot t)) 0) 23
    ∷ []

unfoldable pub absent_number : List ℕ → ℕ → ℕ
absent_number l t = verdict (absent_rules l t)

-- there is a token at t, and it moves
pub record Moves (l : List ℕ) (t : ℕ) : Type 0 where
  pub is_token : (48 ≤ t) × (t < 64)
  pub of_kind_1 : kind l (slot t) ≡ 1

-- the number of the vault's holding of its default token
abbrev pub vault_balance : List ℕ → ℕ
vault_balance l = holding l (slot (default_token l)) 1

-- what a receiver gets of an amount at a toll: the amount less the toll, never below 0
unfoldable pub arrives : (toll n : ℕ) → ℕ
arrives toll n = n - toll

-- the sender loses the amount first
unfoldable pub debited : List ℕ → ℕ → ℕ → ℕ → List ℕ
debited l t from n = put_amount l (holding_at (slot t) from) (holding l (slot t) from + bias - n)

-- what the receiver then has
unfoldable pub received : List ℕ → ℕ → ℕ → ℕ → ℕ → ℕ
received l t from to n = holding (debited l t from n) (slot t) to + arrives (toll l (slot t)) n

-- no such token; absent or frozen; the sender is short of the amount; the receiver passes 2 ^ 127 - 1
abbrev pub transfer_rules : List ℕ → ℕ → ℕ → ℕ → ℕ → List Rule
transfer_rules l t from to n =
    when (lt t 48) 23
    ∷ when (leq 64 t) 23
    ∷ when (ne (kind l (slot t)) 1) 23
    ∷ when (lt (holding l (slot t) from) n) 23
    ∷ when (leq (bias + bias) (received l t from to n)) 23
    ∷ []

unfoldable pub transfer_number : List ℕ → ℕ → ℕ → ℕ → ℕ → ℕ
transfer_number l t from to n = verdict (transfer_rules l t from to n)

-- the image after a transfer that does not fail
unfoldable pub transfer_of : List ℕ → ℕ → ℕ → ℕ → ℕ → List ℕ
transfer_of l t from to n = put_amount (debited l t from n) (holding_at (slot t) to) (received l t from to n)

-- the image after a transfer
unfoldable pub transferred : List ℕ → ℕ → ℕ → ℕ → ℕ → List ℕ
transferred l t from to n = pick (eqb (transfer_number l t from to n) 0) (transfer_of l t from to n) l
