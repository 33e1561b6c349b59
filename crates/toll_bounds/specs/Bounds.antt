-- Toll bounds (docs/FORMATS.md, "Toll bounds"): what address 1 holds after a list of amounts is moved in, at the least and at the greatest toll.
-- Amounts, tolls and holdings stand as their value plus `bias`; the image is l, the token's address t, and a holds the amounts' bytes.
use Rattle.std.specs.Prelude.{◌≡◌, Bool, List, [], ◌∷◌, ℕ, zero, suc, ◌+◌, ◌*◌, ◌/◌, ◌%◌, eqb, ltb, length, Result, MatchResult}
use Rattle.fields.specs.Logic.{all}
use Rattle.fields.specs.Rules.{Rule, when, lt, leq, ne, verdict, chain, pick}
use Rattle.refusal.specs.declared.Refusal.{Refusal}
use Rattle.refusal.specs.Numbers.{code}
use Rattle.amount.specs.Biased.{bias, biased, amount_at}
use Rattle.image.specs.Layout.{slot, kind, holding}
use Rattle.image.specs.Good.{good_image}
use Rattle.token.specs.Token.{arrives}
use Rattle.events.specs.Splice.{amount_bytes}
use Rattle.toll_bounds.specs.declared.Range.{Range}

-- ---- amounts of sixteen bytes, one after another: how many, and amount i, counted from 0
abbrev pub amount_count : (a : List ℕ) → ℕ
amount_count a = length a / 16

abbrev pub amount_in : (a : List ℕ) → (i : ℕ) → ℕ
amount_in a i = amount_at a (16 * i)

-- ---- what address 1 holds after the first n amounts, at one toll for all: what it held, and what arrives of each
unfoldable pub holding_after : (toll held : ℕ) → (amounts : ℕ → ℕ) → (n : ℕ) → ℕ
holding_after toll held amounts zero = held
holding_after toll held amounts (suc n) = holding_after toll held amounts n + arrives toll (amounts n)

-- .. after all of them, from what the image says
abbrev pub holding_at_toll : (l : List ℕ) → (t : ℕ) → (a : List ℕ) → (toll : ℕ) → ℕ
holding_at_toll l t a toll = holding_after toll (holding l (slot t) 1) (amount_in a) (amount_count a)

-- ---- 30: the image is not good
unfoldable pub image_number : (l : List ℕ) → ℕ
image_number l = pick (good_image l) 0 30

-- ---- 46: the list is not of whole amounts, or longer than sixteen
abbrev pub list_rules : (bytes : ℕ) → List Rule
list_rules bytes =
    when (ne (bytes % 16) 0) 46
    ∷ when (lt 16 (bytes / 16)) 46
    ∷ []

unfoldable pub list_number : (bytes : ℕ) → ℕ
list_number bytes = verdict (list_rules bytes)

-- a toll is below 0, or they are out of order
abbrev pub tolls_rules : (least greatest : ℕ) → List Rule
tolls_rules least greatest =
    when (lt least bias) 46
    ∷ when (lt greatest bias) 46
    ∷ when (lt greatest least) 46
    ∷ []

unfoldable pub tolls_number : (least greatest : ℕ) → ℕ
tolls_number least greatest = verdict (tolls_rules least greatest)

-- the token is above 63, absent, or not of kind 1
abbrev pub token_rules : (l : List ℕ) → (t : ℕ) → List Rule
token_rules l t =
    when (lt 63 t) 46
    ∷ when (lt t 48) 46
    ∷ when (ne (kind l (slot t)) 1) 46
    ∷ []

unfoldable pub token_number : (l : List ℕ) → (t : ℕ) → ℕ
token_number l t = verdict (token_rules l t)

abbrev pub request_checks : (l : List ℕ) → (t bytes least greatest : ℕ) → List ℕ
request_checks l t bytes least greatest = list_number bytes ∷ tolls_number least greatest ∷ token_number l t ∷ []

unfoldable pub request_number : (l : List ℕ) → (t bytes least greatest : ℕ) → ℕ
request_number l t bytes least greatest = chain (request_checks l t bytes least greatest)

-- ---- 4: an amount is not above 0
unfoldable pub are_above : (a : List ℕ) → (n : ℕ) → Bool
are_above a n = all (λ i. ltb bias (amount_in a i)) n

unfoldable pub amounts_number : (a : List ℕ) → (n : ℕ) → ℕ
amounts_number a n = pick (are_above a n) 0 4

-- ---- 7: a holding passes 2 ^ 127 - 1
abbrev pub pass_rules : (holding : ℕ) → List Rule
pass_rules holding = when (leq (bias + bias) holding) 7 ∷ []

unfoldable pub pass_number : (holding : ℕ) → ℕ
pass_number holding = verdict (pass_rules holding)

-- ---- the answer's number: the first of these
abbrev pub bounds_checks : (l : List ℕ) → (t : ℕ) → (a : List ℕ) → (least greatest : ℕ) → List ℕ
bounds_checks l t a least greatest =
    image_number l
    ∷ request_number l t (length a) least greatest
    ∷ amounts_number a (amount_count a)
    ∷ pass_number (holding_at_toll l t a least)
    ∷ []

unfoldable pub bounds_number : (l : List ℕ) → (t : ℕ) → (a : List ℕ) → (least greatest : ℕ) → ℕ
bounds_number l t a least greatest = chain (bounds_checks l t a least greatest)

-- ---- all of it: the number, and the two holdings
pub record Bounds : Type 0 where
  pub number : ℕ
  pub least : ℕ
  pub greatest : ℕ

-- the greatest toll leaves the least holding
abbrev pub given : (l : List ℕ) → (t : ℕ) → (a : List ℕ) → (least greatest : ℕ) → Bounds
given l t a least greatest = record { number = 0; least = holding_at_toll l t a greatest; greatest = holding_at_toll l t a least }

-- a refusal has 0 for both
abbrev pub refused : (number : ℕ) → Bounds
refused number = record { number = number; least = bias; greatest = bias }

unfoldable pub toll_bounds : (l : List ℕ) → (t : ℕ) → (a : List ℕ) → (least greatest : ℕ) → Bounds
toll_bounds l t a least greatest =
    let number = bounds_number l t a least greatest in
    pick (eqb number 0) (given l t a least greatest) (refused number)

-- what an answer says of them: a refusal stands for holdings of 0
pub record HoldingsAre (b : Bounds) (r : Result Range Refusal) : Type 0 where
  pub numbered : code r ≡ b.number
  pub least : MatchResult r (λ h. biased h.least ≡ b.least) (λ _. bias ≡ b.least)
  pub greatest : MatchResult r (λ h. biased h.greatest ≡ b.greatest) (λ _. bias ≡ b.greatest)

-- what a caller from C finds: the number that is returned, and sixteen bytes for each holding
pub record BoundsAre (b : Bounds) (number : ℕ) (least greatest : List ℕ) : Type 0 where
  pub numbered : number ≡ b.number
  pub least_written : least ≡ amount_bytes b.least
  pub greatest_written : greatest ≡ amount_bytes b.greatest
