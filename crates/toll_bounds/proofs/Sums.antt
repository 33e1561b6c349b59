-- The holding after one amount more of a list.
use Rattle.std.specs.Prelude.{◌≡◌, ℕ, ◌+◌, ◌<◌, Option, Some, None}
use Rattle.std.proofs.Common.{arith}
use Rattle.amount.specs.declared.Amount.{Amount}
use Rattle.amount.specs.Biased.{bias, biased, add_of}
use Rattle.amount.specs.Laws.{over_high, valued, sum-biased}
use Rattle.token.specs.Token.{arrives}
use Rattle.toll_bounds.specs.Bounds.{holding_after, pass_number}
use Rattle.toll_bounds.specs.Laws.{after_next, passed_before}

-- k is the holding after the first i, g what arrives of the next, and s their sum
module _ (toll held : ℕ) (amounts : ℕ → ℕ) (i : ℕ) {k g : ℕ} {s : Option Amount} (a : k ≡ holding_after toll held amounts i) (b : g ≡ bias + arrives toll (amounts i)) (e : s ≡ add_of k g) where
  pub sum_next : {v : Amount} → s ≡ Some v → (biased v < bias + bias) × (biased v ≡ holding_after toll held amounts (i + 1))
  sum_next f =
      let n = after_next toll held amounts i in
      let (r, _) = valued _ e f in
      let m = sum-biased _ e f in
      (omega arith, omega arith)

  pub sum_passes : (n : ℕ) → s ≡ None → i < n → 7 ≡ pass_number (holding_after toll held amounts n)
  sum_passes n f h =
      let high = over_high _ e f (omega arith) in
      passed_before toll held amounts i n h (omega arith)
