-- An image of zeros is good.
use Rattle.std.specs.Prelude.{◌≡◌, refl, List, ℕ, zero, suc, ◌+◌, ◌/◌, ◌%◌, ◌^◌, length, get_or, replicate}
use Rattle.std.proofs.Common.{◌∙◌, arith}
use Rattle.std.proofs.Math.Nat.{zero-div}
use Rattle.std.proofs.lemmas.List.{length-replicate}
use Rattle.image.specs.Layout.{cap_at, snapshot_at, token_at, toll_at, holding_at, credit_at, capped_set}
use Rattle.amount.specs.Frame.{zero_amount_at}
use Rattle.amount.specs.Biased.{bias, amount_at}
use Rattle.fields.specs.Frame.{zero_le}
use Rattle.fields.specs.Bytes.{le}
use Rattle.storage.specs.Facts.{Keys, Token, Good}

no_bit : (x a : ℕ) → x ≡ 0 → x / 2 ^ a % 2 ≡ 0
no_bit x a e = rw (e, zero-div)

module _ (l : List ℕ) (long : length l ≡ 36832) (z : (i : ℕ) → get_or l i 0 ≡ 0) where
  nothing : (w b : ℕ) → le w l b ≡ 0
  nothing w b = zero_le l w b (λ i p q. z i)

  none : (b : ℕ) → amount_at l b ≡ bias
  none b = zero_amount_at l b (λ i p q. z i)

  zero_keys : Keys l
  zero_keys =
      let c = nothing 8 88 in
      record { few = omega arith; below = λ i h. absurd (omega arith); differ = λ i j p q e. omega arith; rest = λ i p q. z i }

  zero_token : (t : ℕ) → Token l t
  zero_token t =
      let k = nothing 8 (token_at t) in
      let s = nothing 4 (snapshot_at t) in
      record {
        known = omega arith;
        bool = omega arith;
        no_snapshot = λ _. (nothing 4 (snapshot_at t + 4), none (snapshot_at t + 8));
        not_below = omega (arith, none (toll_at t));
        holdings = λ a h. omega (arith, none (holding_at t a));
        credits = λ a h. omega (arith, none (credit_at t a));
        absent = λ _. record { no_toll = none (toll_at t); none_present = s; holdings = λ i p q. z i; credits = λ i p q. z i };
      }

  pub zeros_good : Good l
  zeros_good =
      let f = nothing 2 0 in
      record {
        long = long;
        bytes = λ i. omega (arith, z i);
        flagged = omega arith;
        fields = λ e. absurd (omega arith);
        default = λ e. absurd (omega arith);
        blank = λ e i p q. z i;
        caps = λ a h. record { on = λ e. absurd (omega (arith, no_bit (capped_set l) a (nothing 8 80))); off = λ e. none (cap_at a) };
        keys = zero_keys;
        tokens = λ t h. zero_token t;
      }

pub zero_at : (n i : ℕ) → get_or (replicate {A = ℕ} n 0) i 0 ≡ 0
zero_at zero i = refl
zero_at (suc n) zero = refl
zero_at (suc n) (suc i) = zero_at n i

pub empty_good : (n : ℕ) → n ≡ 36832 → Good (replicate n 0)
empty_good n e = zeros_good (replicate n 0) (length-replicate n 0 ∙ e) (zero_at n)
