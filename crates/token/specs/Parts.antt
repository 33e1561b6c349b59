-- What a helper function owes.
use Rattle.std.specs.Prelude.{◌≡◌, List, ℕ, ◌+◌, ◌-◌}
use Rattle.amount.specs.Biased.{bias, biased}
use Rattle.image.specs.Layout.{slot, holding}
use Rattle.token.specs.declared.Moved.{Moved}
use Rattle.token.specs.Token.{received}

-- what a transfer of n that does not fail leaves the sender, and gives the receiver
pub record MovedIs (l : List ℕ) (t from to n : ℕ) (x : Moved) : Type 0 where
  pub of_token : x.token.address ≡ t
  pub left : biased x.left ≡ holding l (slot t) from + bias - n
  pub received : biased x.received ≡ received l t from to n
