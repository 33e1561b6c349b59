-- Items of a batch.
use Rattle.std.specs.Prelude.{List, ℕ, ◌+◌, ◌≤◌, ◌<◌}
use Rattle.record.specs.Record.{item_address, item_amount}
use Rattle.amount.specs.Biased.{bias}

-- n items from item i on: senders are addresses, amounts above 0
abbrev pub Items : ℕ → List ℕ → ℕ → Type 0
Items n r i = (j : ℕ) → i ≤ j → j < i + n → (item_address r j < 64) × (bias < item_amount r j)
