-- What the functions that make payouts owe: one payout, and all of them.
use Rattle.std.specs.Prelude.{◌≡◌, not, eqb, List, [], ◌∷◌, ℕ, suc, ◌≤◌, ◌<◌}
use Rattle.events.specs.Event.{EventFields, put_event}
use Rattle.amount.specs.Biased.{bias}
use Rattle.image.specs.Layout.{owner}
use Rattle.image.specs.declared.address.Token.{Token}
use Rattle.record.specs.declared.Head.{Head}
use Rattle.payouts.specs.declared.Withdrawal.{Withdrawal}
use Rattle.payouts.specs.Payouts.{Payout, payouts_number, payouts_image, payouts_events}

-- what the payouts of token t have in common, of image l and the record's head
abbrev pub withdrawal_of : List ℕ → Head → Token → Withdrawal
withdrawal_of l h t = record { token = t; sequence = h.sequence; caller = h.caller; by_operator = not (eqb (owner l) h.caller.number) }

-- the event buffer l with the events es in its places from i on
unfoldable pub put_events : List ℕ → ℕ → List EventFields → List ℕ
put_events l i [] = l
put_events l i (e ∷ es) = put_events (put_event l i e) (suc i) es

-- payouts ps from image l, their events in the buffer e from place i on: the number k, and where it is 0 the image and the event buffer
pub record Pays (ps : List Payout) (t seq caller by : ℕ) (l : List ℕ) (e : List ℕ) (i k : ℕ) (image events : List ℕ) : Type 0 where
  pub numbered : k ≡ payouts_number ps t seq l
  pub changed : k ≡ 0 → image ≡ payouts_image ps t seq l
  pub written : k ≡ 0 → events ≡ put_events e i (payouts_events ps t seq caller by l)

-- every payee is an address
abbrev pub Addressed : List Payout → Type 0
Addressed [] = Unit {0}
Addressed (p ∷ ps) = (p.to < 64) × Addressed ps

-- and no amount is below 0
abbrev pub Payable : List Payout → Type 0
Payable [] = Unit {0}
Payable (p ∷ ps) = ((p.to < 64) × (bias ≤ p.amount)) × Payable ps
