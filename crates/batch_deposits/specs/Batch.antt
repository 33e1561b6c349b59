-- Operation 4 `batch_deposit`. l is the image, r the record, whose items are read, t the token's address; amounts stand as numbers (value plus bias).
use Rattle.std.specs.Prelude.{List, [], ◌∷◌, ℕ, zero, suc, ◌+◌, ◌-◌}
use Rattle.deposits.specs.Deposit.{funding_number, expected_number, expected_holding}
use Rattle.outcome.specs.Checked.{checked}
use Rattle.outcome.specs.Outcome.{Outcome}
use Rattle.checks.specs.Checks.{paused_number, signed_number, initialised_number, deposit_amount_number}
use Rattle.events.specs.Kinds.{deposited_event}
use Rattle.events.specs.Event.{EventFields}
use Rattle.record.specs.Record.{item_count_of, sequence_of, signers_of, item_address, item_amount}
use Rattle.token.specs.Token.{transfer_number, transfer_of}
use Rattle.storage.specs.Setters.{record_balance}
use Rattle.image.specs.Layout.{slot, default_token, holding}
use Rattle.amount.specs.Biased.{bias}
use Rattle.fields.specs.Rules.{eq, Rule, when, verdict, or_else, chain}

-- 4: no item
abbrev pub count_rules : ℕ → List Rule
count_rules count = when (eq count 0) 4 ∷ []

unfoldable pub count_number : ℕ → ℕ
count_number count = verdict (count_rules count)

-- 8 paused; 4 no item; 1 not initialised
unfoldable pub open_number : List ℕ → ℕ → ℕ
open_number l count = chain (paused_number l ∷ count_number count ∷ initialised_number l ∷ [])

-- item i: 4, 5 its amount; 22 its address is not in the signer set
unfoldable pub item_number : List ℕ → ℕ → ℕ → ℕ
item_number r signers i = chain (deposit_amount_number (item_amount r i) ∷ signed_number signers (item_address r i) ∷ [])

-- n items from item i on, one after the other
unfoldable pub items_number : ℕ → List ℕ → ℕ → ℕ → ℕ
items_number zero r signers i = 0
items_number (suc n) r signers i = or_else (item_number r signers i) (items_number n r signers (suc i))

-- the sum of their values
unfoldable pub items_sum : ℕ → List ℕ → ℕ → ℕ
items_sum zero r i = 0
items_sum (suc n) r i = item_amount r i - bias + items_sum n r (suc i)

-- and then as `deposit` from 10 to 11, on the sum
unfoldable pub batch_checks : List ℕ → List ℕ → ℕ → ℕ → ℕ → ℕ
batch_checks l r signers seq count =
    chain
    (open_number l count
    ∷ items_number count r signers 0
    ∷ funding_number l (default_token l) seq (bias + items_sum count r 0)
    ∷ [])

-- ---- the transfers of n items from item i on
-- the image after that of item i
abbrev pub item_transfer : List ℕ → List ℕ → ℕ → ℕ → List ℕ
item_transfer l r t i = transfer_of l t (item_address r i) 1 (item_amount r i)

-- 23 of the first that fails
unfoldable pub transfers_number : ℕ → List ℕ → ℕ → ℕ → List ℕ → ℕ
transfers_number zero r t i l = 0
transfers_number (suc n) r t i l =
    or_else (transfer_number l t (item_address r i) 1 (item_amount r i)) (transfers_number n r t (suc i) (item_transfer l r t i))

unfoldable pub transfers_image : ℕ → List ℕ → ℕ → ℕ → List ℕ → List ℕ
transfers_image zero r t i l = l
transfers_image (suc n) r t i l = transfers_image n r t (suc i) (item_transfer l r t i)

-- an event each, with the vault's holding at that point
abbrev pub item_event : List ℕ → List ℕ → ℕ → ℕ → EventFields
item_event l r t i = deposited_event (item_address r i) (item_amount r i) (holding (item_transfer l r t i) (slot t) 1)

unfoldable pub transfers_events : ℕ → List ℕ → ℕ → ℕ → List ℕ → List EventFields
transfers_events zero r t i l = []
transfers_events (suc n) r t i l = item_event l r t i ∷ transfers_events n r t (suc i) (item_transfer l r t i)

-- ---- the whole: all transfers, then 12 of the sum s; a snapshot of the last holding, and no credit
unfoldable pub collect_outcome : List ℕ → List ℕ → ℕ → ℕ → ℕ → ℕ → Outcome
collect_outcome l r t seq count s =
    let m = transfers_image count r t 0 l in
    record {
      number = chain (transfers_number count r t 0 l ∷ expected_number (holding m (slot t) 1) (expected_holding l t s) ∷ []);
      value = 0;
      events = transfers_events count r t 0 l;
      image = record_balance m t seq (holding m (slot t) 1);
    }

unfoldable pub batch_outcome : List ℕ → List ℕ → ℕ → ℕ → ℕ → Outcome
batch_outcome l r signers seq count =
    checked (batch_checks l r signers seq count) (collect_outcome l r (default_token l) seq count (bias + items_sum count r 0))

-- operation 4, of a record
abbrev pub batch_deposit : List ℕ → List ℕ → Outcome
batch_deposit l r = batch_outcome l r (signers_of r) (sequence_of r) (item_count_of r)
