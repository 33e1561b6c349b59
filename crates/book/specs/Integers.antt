-- Amounts as integers: what the number of an amount stands for, differences that stay at 0, and the smaller of two.
use Rattle.std.specs.Prelude.{◌≡◌, ℕ, ◌+◌, ◌-◌, ◌≤◌, ltb, ℤ, pos, negsuc, ◌+ℤ◌, ◌-ℤ◌}
use Rattle.std.proofs.Common.{sym, ap, ◌∙◌, arith, add-zero, lt-ltb, le-ltb}
use Rattle.std.proofs.Math.IntN.{sub_ℕ, +ℤ_invr}
use Rattle.std.specs.Int.Signed.{lt_z}
use Rattle.amount.specs.Biased.{bias}
use Rattle.amount.specs.Halves.{subℕ_lt, subℕ_ge, by_lt, sub_same, sub_add, sub_sub, sub_lt}
use Rattle.fields.specs.Rules.{pick}

-- the integer of an amount's number: the number less bias
unfoldable pub integer_of : ℕ → ℤ
integer_of n = sub_ℕ n bias

-- never below 0
abbrev pub not_below_zero : ℤ → ℤ
not_below_zero (pos n) = pos n
not_below_zero (negsuc n) = pos 0

abbrev pub smaller : ℤ → ℤ → ℤ
smaller a b = pick (lt_z a b) a b

-- ---- laws
integer_zero : (d : ℕ) → sub_ℕ d 0 ≡ pos d
integer_zero d = subℕ_ge d 0 (omega arith) ∙ ap pos (omega arith)

pub integer_more : (h d : ℕ) → integer_of (h + d) ≡ integer_of h +ℤ pos d
unfolding integer_of
integer_more h d = sym (ap (λ (k : ℤ). sub_ℕ h bias +ℤ k) (sym (integer_zero d)) ∙ sub_add h bias d 0 ∙ ap (sub_ℕ (h + d)) (add-zero bias))

pub integer-bias : (d : ℕ) → integer_of (bias + d) ≡ pos d
unfolding integer_of
integer-bias d = over bias d
  where
    over : (b d : ℕ) → sub_ℕ (b + d) b ≡ pos d
    over b d = subℕ_ge (b + d) b (omega arith) ∙ ap pos (omega arith)

-- the difference of two amounts' integers is that of their numbers
pub integer_difference : (a b : ℕ) → integer_of a -ℤ integer_of b ≡ sub_ℕ a b
unfolding integer_of
integer_difference a b = sub_sub a bias b bias ∙ sub_same (a + bias) (bias + b) a b (omega arith)

-- never below 0: the naturals' difference of the numbers
pub integer-net : (a b : ℕ) → not_below_zero (integer_of a -ℤ integer_of b) ≡ pos (a - b)
integer-net a b = ap not_below_zero (integer_difference a b) ∙ by_lt a b (not_below_zero (sub_ℕ a b) ≡ pos (a - b)) (λ h. let e : 0 ≡ a - b = omega arith in ap not_below_zero (subℕ_lt a b h) ∙ ap pos e) (λ h. ap not_below_zero (subℕ_ge a b h))

-- new is old less n, in numbers
pub integer_less : (old n new : ℕ) → new + n ≡ old + bias → integer_of new ≡ integer_of old -ℤ integer_of n
unfolding integer_of
integer_less old n new e =
    sym (sub_sub old bias n bias ∙ sub_same (old + bias) (bias + n) new bias (omega arith))

-- what a toll leaves of an amount, and what it takes: the smaller of toll and amount
pub integer_left : (a b : ℕ) → not_below_zero (integer_of a -ℤ integer_of b) ≡ integer_of a -ℤ smaller (integer_of b) (integer_of a)
integer_left a b =
    by_lt b a _
    (λ h. let d : b ≤ a = omega arith in rw (order ∙ lt-ltb b a h) (integer-net a b ∙ sym (integer_difference a b ∙ subℕ_ge a b d)))
    (λ h. let e : a - b ≡ 0 = omega arith in rw (order ∙ le-ltb b a h) (integer-net a b ∙ ap pos e ∙ sym (+ℤ_invr (integer_of a))))
  where
    order : lt_z (integer_of b) (integer_of a) ≡ ltb b a
    order = unfold integer_of in sub_lt b a bias
