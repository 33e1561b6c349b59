-- What holds of toll bounds: every toll within them leaves a holding between the two, each of the two is met, and the token's own transfers bring exactly
-- the holding at the token's toll.
use Rattle.std.specs.Prelude.{◌≡◌, true, List, ℕ, zero, suc, ◌+◌, ◌≤◌, ◌<◌}
use Rattle.amount.specs.Biased.{bias}
use Rattle.image.specs.Layout.{slot, toll, holding}
use Rattle.image.specs.Good.{good_image}
use Rattle.token.specs.Token.{transfer_number, transferred}
use Rattle.toll_bounds.specs.Bounds.{amount_count, amount_in, holding_after, holding_at_toll, Bounds, toll_bounds}

-- ---- both holdings are amounts that are not below 0, so that their sixteen bytes say them exactly, and they are in order
pub record AreAmounts (b : Bounds) : Type 0 where
  pub not_below : bias ≤ b.least
  pub ordered : b.least ≤ b.greatest
  pub not_past : b.greatest < bias + bias

-- ---- a holding between the two
pub record Between (b : Bounds) (holding : ℕ) : Type 0 where
  pub at_least : b.least ≤ holding
  pub at_most : holding ≤ b.greatest

-- ---- the least holding is that of the greatest toll, the greatest that of the least; both tolls are within the bounds
pub record Met (l : List ℕ) (t : ℕ) (a : List ℕ) (least greatest : ℕ) (b : Bounds) : Type 0 where
  pub in_order : least ≤ greatest
  pub least_met : b.least ≡ holding_at_toll l t a greatest
  pub greatest_met : b.greatest ≡ holding_at_toll l t a least

-- ---- the moves themselves: the image after the first n, amount i going from sender i to address 1
unfoldable pub moved_in_of : (l : List ℕ) → (t : ℕ) → (senders amounts : ℕ → ℕ) → (n : ℕ) → List ℕ
moved_in_of l t senders amounts zero = l
moved_in_of l t senders amounts (suc n) = transferred (moved_in_of l t senders amounts n) t (senders n) 1 (amounts n)

-- each of the first n is from an address other than 1, and does not fail (so the token is of kind 1)
pub record AllMove (l : List ℕ) (t : ℕ) (senders amounts : ℕ → ℕ) (n : ℕ) : Type 0 where
  pub address : (i : ℕ) → i < n → senders i < 64
  pub outside : (i : ℕ) → i < n → senders i ≡ 1 → ⊥
  pub done : (i : ℕ) → i < n → transfer_number (moved_in_of l t senders amounts i) t (senders i) 1 (amounts i) ≡ 0

-- ---- all of it
pub record TollBounds : Type 0 where
  -- of every answer, a refusal too
  pub are_amounts : (l : List ℕ) (t : ℕ) (a : List ℕ) (least greatest : ℕ) → AreAmounts (toll_bounds l t a least greatest)
  -- for every toll within the bounds
  pub between : (l : List ℕ) (t : ℕ) (a : List ℕ) (least greatest : ℕ) → (toll_bounds l t a least greatest).number ≡ 0
      → (f : ℕ) → least ≤ f → f ≤ greatest
      → Between (toll_bounds l t a least greatest) (holding_at_toll l t a f)
  pub met : (l : List ℕ) (t : ℕ) (a : List ℕ) (least greatest : ℕ) → (toll_bounds l t a least greatest).number ≡ 0
      → Met l t a least greatest (toll_bounds l t a least greatest)
  -- the token itself: what address 1 has after moves of amounts that are not negative
  pub moved : (l : List ℕ) (t : ℕ) (senders amounts : ℕ → ℕ) (n : ℕ) → good_image l ≡ true
      → ((i : ℕ) → i < n → bias ≤ amounts i) → AllMove l t senders amounts n
      → holding (moved_in_of l t senders amounts n) (slot t) 1 ≡ holding_after (toll l (slot t)) (holding l (slot t) 1) amounts n
  -- so: where the amounts that were asked about are moved on a good image m, with as much in the vault and a toll within the bounds
  pub lands : (l : List ℕ) (t : ℕ) (a : List ℕ) (least greatest : ℕ) → (toll_bounds l t a least greatest).number ≡ 0
      → (m : List ℕ) → good_image m ≡ true → holding m (slot t) 1 ≡ holding l (slot t) 1
      → least ≤ toll m (slot t) → toll m (slot t) ≤ greatest
      → (senders : ℕ → ℕ) → AllMove m t senders (amount_in a) (amount_count a)
      → Between (toll_bounds l t a least greatest) (holding (moved_in_of m t senders (amount_in a) (amount_count a)) (slot t) 1)
