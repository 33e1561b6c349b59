-- What helper functions owe.
use Rattle.std.specs.Prelude.{◌≡◌, ℕ, List, [], ◌<◌, length, get_or, Result, IfOk}
use Rattle.refusal.specs.declared.Refusal.{Refusal}
use Rattle.refusal.specs.Numbers.{code}
use Rattle.amount.specs.declared.Amount.{Amount}
use Rattle.amount.specs.Biased.{biased, amount_at}
use Rattle.toll_bounds.specs.Bounds.{amount_count, amount_in, holding_after, pass_number}

-- the amounts of a list, in sixteen bytes each
pub record AmountsOf (list : List ℕ) (amounts : List (List ℕ)) : Type 0 where
  pub count : length amounts ≡ amount_count list
  pub each : (i : ℕ) → i < length amounts → amount_at (get_or amounts i []) 0 ≡ amount_in list i

-- 7, or the holding after the first n amounts
pub record TallyIs (toll held : ℕ) (amounts : ℕ → ℕ) (n : ℕ) (r : Result Amount Refusal) : Type 0 where
  pub numbered : code r ≡ pass_number (holding_after toll held amounts n)
  pub summed : IfOk r (λ sum. biased sum ≡ holding_after toll held amounts n)
