-- The steps of a deposit, from what the functions called say.
use Rattle.std.specs.Prelude.{[], ◌∷◌, Bool, true, false, not, ◌||◌, leb, ltb, FitsSigned, Option, Some, None, Result, IfOk}
use Rattle.std.specs.Option.{ok_or}
use Rattle.refusal.specs.Numbers.{code}
use Rattle.refusal.specs.declared.Refusal.{Refusal}
use Rattle.refusal.specs.declared.Refusal.TheVariants.{ArithmeticOverflow}
use Rattle.amount.specs.Laws.{over_high, valued, sum-biased}
use Rattle.std.proofs.Common.{Ordering, Less, Equal, Greater}
use Rattle.std.specs.Int.{w128}
use Rattle.std.specs.Ordering.{is_lt, is_ge, int_cmp}
use mathlib.Core.Path.{◌≡◌, refl, ap, ◌∙◌}
use Prim.Native.Nat.{ℕ, ◌+◌, ◌-◌, ◌≤◌}
use native.Mathlib.Omega.{arith}
use borrow.Author.Tests.{lt-ltb, le-ltb}
use Rattle.amount.specs.declared.Amount.{Amount}
use Rattle.amount.specs.Biased.{bias, biased, in_range}
use Rattle.amount.specs.Order.{less_is}
use Rattle.checks.specs.Passed.{not_above}
use Rattle.fields.specs.Rules.{pick, Guard, test, when, verdict, stop_at}
use Rattle.deposits.specs.Deposit.{overflow_rules, overflow_number}

not_less : (o : Ordering) → is_ge o ≡ not (is_lt o)
not_less Less = refl
not_less Equal = refl
not_less Greater = refl

-- what `>=` answers of two amounts
pub ge_is : (a b : Amount) → FitsSigned w128 a.0 → FitsSigned w128 b.0 → is_ge (int_cmp a.0 b.0) ≡ leb (biased b) (biased a)
ge_is a b f g = not_less (int_cmp a.0 b.0) ∙ ap not (less_is a b f g) ∙ not_above (biased a) (biased b)

-- three rules of one number: a, b and c are their tests
pub any_of : {a b c : Bool} (f g h : Guard) (n : ℕ) → a ≡ test f → b ≡ test g → c ≡ test h → pick ((a || b) || c) n 0 ≡ verdict (when f n ∷ when g n ∷ when h n ∷ [])
unfolding verdict
any_of f g h n p q r = rw (p, q, r) (go (test f) (test g) (test h))
  where
    go : (x y z : Bool) → pick ((x || y) || z) n 0 ≡ pick x n (pick y n (pick z n 0))
    go true y z = refl
    go false true z = refl
    go false false z = refl

-- what `ok_or` makes of the checked sum of amounts, the second not below 0
pub summed : {s : Option Amount} (a n : ℕ) → s ≡ in_range (a + n) → bias ≤ n → (code (ok_or s ArithmeticOverflow) ≡ overflow_number a n) × IfOk (ok_or s ArithmeticOverflow) (λ t. biased t ≡ a + n - bias)
unfolding overflow_number
summed {s} a n e h = go s e
  where
    go : (s : Option Amount) → s ≡ in_range (a + n) → (code (ok_or s ArithmeticOverflow) ≡ verdict (overflow_rules a n)) × IfOk (ok_or s ArithmeticOverflow) (λ t. biased t ≡ a + n - bias)
    go None e = (stop_at (overflow_rules a n) 0 7 (over_high (a + n) e refl (omega arith)) refl, tt)
    go (Some v) e = let g = (valued (a + n) e refl).0 in (stop_at (overflow_rules a n) 1 0 (omega arith) refl, sum-biased (a + n) e refl)

pub summed_number : {s : Option Amount} {r : Result Amount Refusal} (a n : ℕ) → s ≡ in_range (a + n) → bias ≤ n → r ≡ ok_or s ArithmeticOverflow → code r ≡ overflow_number a n
summed_number a n e h q = rw q (summed a n e h).0

pub summed_value : {s : Option Amount} {r : Result Amount Refusal} (a n : ℕ) → s ≡ in_range (a + n) → bias ≤ n → r ≡ ok_or s ArithmeticOverflow → IfOk r (λ t. biased t ≡ a + n - bias)
summed_value a n e h q = rw q (summed a n e h).1

-- s is a checked sum: it fits and is v, or passes
module _ (a n : ℕ) {s : Option Amount} (e : s ≡ in_range (a + n)) where
  pub sum_fits : {v : Amount} → s ≡ Some v → ltb (a + n) (bias + bias + bias) ≡ true
  sum_fits f = let (_, h) = (valued (a + n) e f).0 in lt-ltb (a + n) (bias + bias + bias) (omega arith)

  pub sum_is : {v : Amount} → s ≡ Some v → biased v ≡ a + n - bias
  sum_is f = sum-biased (a + n) e f

  pub sum_passes : s ≡ None → bias ≤ n → ltb (a + n) (bias + bias + bias) ≡ false
  sum_passes f h = let g = over_high (a + n) e f (omega arith) in le-ltb (a + n) (bias + bias + bias) (omega arith)
