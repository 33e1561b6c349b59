-- What the checks of a deposit say that passed.
use Rattle.std.specs.Prelude.{◌≡◌, List, ℕ, ◌+◌, ◌≤◌, ◌<◌}
use Rattle.image.specs.Layout.{slot, holding, initialised}
use Rattle.amount.specs.Biased.{bias}

-- the image is initialised, t is a token's address, the amount is above 0 and the sum with the vault's holding fits
pub record Funded (l : List ℕ) (t n : ℕ) : Type 0 where
  pub begun : initialised l ≡ 1
  pub low : 48 ≤ t
  pub high : t < 64
  pub above : bias < n
  pub sum : holding l (slot t) 1 + n < bias + bias + bias
