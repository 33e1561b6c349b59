-- A sum that is an overflow or an amount.
use Rattle.std.specs.Prelude.{◌≡◌, ℕ, ◌+◌, ◌-◌, ◌<◌, refl, Option, Some, None, Result, IfOk}
use Rattle.std.specs.Option.{ok_or}
use Rattle.std.proofs.Common.{arith}
use Rattle.refusal.specs.declared.Refusal.{Refusal}
use Rattle.refusal.specs.declared.Refusal.TheVariants.{ArithmeticOverflow}
use Rattle.refusal.specs.Numbers.{code}
use Rattle.amount.specs.declared.Amount.{Amount}
use Rattle.amount.specs.Biased.{bias, biased, in_range}
use Rattle.amount.specs.Laws.{over_high, valued, sum-biased}
use Rattle.fields.specs.Rules.{stop_at}
use Rattle.payouts.specs.Payouts.{item_rules, item_number}

-- s is the checked sum of a sum so far and an item's amount, and r what `ok_or` makes of it
module _ (m n : ℕ) (s : Option Amount) {r : Result Amount Refusal} (e : s ≡ in_range (m + n)) (f : r ≡ ok_or s ArithmeticOverflow) where
  pub added_number : bias < n → code r ≡ item_number m n
  unfolding item_number
  added_number h = go s e f
    where
      go : (s : Option Amount) {r : Result Amount Refusal} → s ≡ in_range (m + n) → r ≡ ok_or s ArithmeticOverflow → code r ≡ item_number m n
      go None e f = let g = over_high (m + n) e refl (omega arith) in rw f (stop_at (item_rules m n) 1 7 (omega arith) refl)
      go (Some v) e f = let g = (valued (m + n) e refl).0 in rw f (stop_at (item_rules m n) 2 0 (omega arith) refl)

  pub added_total : IfOk r (λ t. biased t ≡ m + n - bias)
  added_total = go s e f
    where
      go : (s : Option Amount) {r : Result Amount Refusal} → s ≡ in_range (m + n) → r ≡ ok_or s ArithmeticOverflow → IfOk r (λ t. biased t ≡ m + n - bias)
      go None e f = rw f tt
      go (Some v) e f = rw f (sum-biased (m + n) e refl)
