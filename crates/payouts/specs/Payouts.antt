-- Operations 5 `withdraw` and 6 `withdraw_batch`: payouts of the default token. l is the image, t the token's address; amounts stand as numbers (value plus bias).
use Rattle.std.specs.Prelude.{not, List, [], ◌∷◌, ℕ, zero, suc, ◌+◌, ◌-◌, eqb, length}
use Rattle.outcome.specs.Outcome.{Outcome}
use Rattle.checks.specs.Checks.{paused_number, shared_number, cap_number, funds_number}
use Rattle.events.specs.Kinds.{withdrawn_event}
use Rattle.events.specs.Event.{EventFields}
use Rattle.record.specs.Record.{caller_of, other_of, item_count_of, sequence_of, signers_of, amount_of, item_address, item_amount}
use Rattle.token.specs.Token.{vault_balance, transfer_number, transfer_of}
use Rattle.storage.specs.Setters.{record_balance}
use Rattle.image.specs.Layout.{slot, owner, default_token, holding}
use Rattle.amount.specs.Biased.{bias, num}
use Rattle.fields.specs.Rules.{leq, eq, ne, Rule, when, verdict, or_else, chain}

-- a payout: to whom, and how much
pub record Payout : Type 0 where
  pub to : ℕ
  pub amount : ℕ

abbrev pub payout : ℕ → ℕ → Payout
payout to n = record { to = to; amount = n }

-- n items of a record, from item i on
unfoldable pub items : (n i : ℕ) → List ℕ → List Payout
items zero i r = []
items (suc n) i r = payout (item_address r i) (item_amount r i) ∷ items n (suc i) r

-- ---- the checks
-- 4: no item
abbrev pub no_item_rules : List Payout → List Rule
no_item_rules ps = when (eq (length ps) 0) 4 ∷ []

unfoldable pub no_item_number : List Payout → ℕ
no_item_number ps = verdict (no_item_rules ps)

-- 4: not above 0; 7: the sum passes 2 ^ 127 - 1
abbrev pub item_rules : ℕ → ℕ → List Rule
item_rules sum n = when (leq n bias) 4 ∷ when (leq (bias + bias + bias) (sum + n)) 7 ∷ []

unfoldable pub item_number : ℕ → ℕ → ℕ
item_number sum n = verdict (item_rules sum n)

-- item by item, after a sum so far: the first refusal, and the sum
unfoldable pub items_number : List Payout → ℕ → ℕ
items_number [] sum = 0
items_number (p ∷ ps) sum = or_else (item_number sum p.amount) (items_number ps (sum + p.amount - bias))

unfoldable pub items_sum : List Payout → ℕ → ℕ
items_sum [] sum = sum
items_sum (p ∷ ps) sum = items_sum ps (sum + p.amount - bias)

-- 8; shared gate; 4 no item; 4, 7; 6 above the operator limit; 6 above the vault's holding
unfoldable pub withdraw_checks : List ℕ → ℕ → ℕ → List Payout → ℕ
withdraw_checks l caller signers ps =
    chain
    (paused_number l
    ∷ shared_number l caller signers
    ∷ no_item_number ps
    ∷ items_number ps bias
    ∷ cap_number l caller (items_sum ps bias)
    ∷ funds_number (vault_balance l) (items_sum ps bias)
    ∷ [])

-- ---- one payout
-- the vault's holding after it
abbrev pub held_after : List ℕ → ℕ → ℕ → ℕ → ℕ
held_after l t to n = holding (transfer_of l t 1 to n) (slot t) 1

-- 13: that holding is not the one before less the amount
abbrev pub remaining_rules : List ℕ → ℕ → ℕ → ℕ → List Rule
remaining_rules l t to n = when (ne (held_after l t to n) (holding l (slot t) 1 + bias - n)) 13 ∷ []

unfoldable pub remaining_number : List ℕ → ℕ → ℕ → ℕ → ℕ
remaining_number l t to n = verdict (remaining_rules l t to n)

-- 23 transfer fails; 13
unfoldable pub pay_number : List ℕ → ℕ → ℕ → ℕ → ℕ
pay_number l t to n = chain (transfer_number l t 1 to n ∷ remaining_number l t to n ∷ [])

-- the transfer, then the snapshot of the vault's holding; no credit changes
unfoldable pub pay_image : List ℕ → ℕ → ℕ → ℕ → ℕ → List ℕ
pay_image l t seq to n = record_balance (transfer_of l t 1 to n) t seq (held_after l t to n)

-- ---- payout by payout: the first refusal, the image after all of them, and their events
unfoldable pub payouts_number : List Payout → (t seq : ℕ) → List ℕ → ℕ
payouts_number [] t seq l = 0
payouts_number (p ∷ ps) t seq l = or_else (pay_number l t p.to p.amount) (payouts_number ps t seq (pay_image l t seq p.to p.amount))

unfoldable pub payouts_image : List Payout → (t seq : ℕ) → List ℕ → List ℕ
payouts_image [] t seq l = l
payouts_image (p ∷ ps) t seq l = payouts_image ps t seq (pay_image l t seq p.to p.amount)

unfoldable pub payouts_events : List Payout → (t seq caller by_operator : ℕ) → List ℕ → List EventFields
payouts_events [] t seq caller by l = []
payouts_events (p ∷ ps) t seq caller by l =
    withdrawn_event caller p.to p.amount (held_after l t p.to p.amount) by
    ∷ payouts_events ps t seq caller by (pay_image l t seq p.to p.amount)

-- ---- the operations
-- 1 where the caller is not the owner
abbrev pub by_operator : List ℕ → ℕ → ℕ
by_operator l caller = num (not (eqb (owner l) caller))

-- the checks; then payout by payout 23, 13
unfoldable pub withdraw_number : List ℕ → ℕ → ℕ → ℕ → List Payout → ℕ
withdraw_number l caller signers seq ps = chain (withdraw_checks l caller signers ps ∷ payouts_number ps (default_token l) seq l ∷ [])

unfoldable pub withdraw_outcome : List ℕ → ℕ → ℕ → ℕ → List Payout → Outcome
withdraw_outcome l caller signers seq ps =
    record {
      number = withdraw_number l caller signers seq ps;
      value = 0;
      events = payouts_events ps (default_token l) seq caller (by_operator l caller) l;
      image = payouts_image ps (default_token l) seq l;
    }

-- operation 5, of a record: one payout, of its amount to its other address
abbrev pub withdraw : List ℕ → List ℕ → Outcome
withdraw l r = withdraw_outcome l (caller_of r) (signers_of r) (sequence_of r) (payout (other_of r) (amount_of r) ∷ [])

-- operation 6, of a record: its items
abbrev pub withdraw_batch : List ℕ → List ℕ → Outcome
withdraw_batch l r = withdraw_outcome l (caller_of r) (signers_of r) (sequence_of r) (items (item_count_of r) 0 r)
