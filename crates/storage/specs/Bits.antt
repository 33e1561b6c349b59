-- Bits of a set, at any place.
use Rattle.std.specs.Prelude.{◌≡◌, ℕ, suc, ◌+◌, ◌-◌, ◌*◌, ◌/◌, ◌%◌, ◌^◌, ◌≤◌, ◌<◌, List, length}
use Rattle.std.proofs.Common.{refl, sym, zero-mul, ap, ◌∙◌, pow-suc, mul-zero, mul-one, one-mul, add-zero, arith, pow_pos, pow-add, shr-shr, shl_exact}
use Rattle.std.proofs.Math.Nat.{add-div_right, add-mul-div_right, sub-zero}
use Rattle.std.proofs.Math.Pow.{field, mod-mod-pow}
use Rattle.std.specs.Int.Bits.{bit_and, bit_or, or_add_and}
use Rattle.std.proofs.lemmas.Nat.{pow_below, and-not, and_comm}
use Rattle.std.proofs.lemmas.Nat.Bits.{and_pow}
use Rattle.image.specs.Layout.{bit, with_bit, without_bit}
use Rattle.amount.specs.Laws.{by_lt}
use Rattle.fields.specs.Bytes.{le, put, le-put-same, put_low}

-- at a bit that is off: 2 ^ a added
plus-same : (x a : ℕ) → bit x a ≡ 0 → bit (x + 2 ^ a) a ≡ 1
plus-same x a z = rw (add-div_right x (pow_pos a)) (odd (x / 2 ^ a) z)
  where
    odd : (q : ℕ) → q % 2 ≡ 0 → (q + 1) % 2 ≡ 1
    odd q z = omega arith

even_more : (q p : ℕ) → (q + p * 2) % 2 ≡ q % 2
even_more q p = omega arith

plus_low : (x a c : ℕ) → c < a → bit (x + 2 ^ a) c ≡ bit x c
plus_low x a c h =
    let d = a - suc c in
    let e : suc d + c ≡ a = omega arith in
    let p : 2 ^ a ≡ 2 ^ d * 2 * 2 ^ c = ap (λ (k : ℕ). 2 ^ k) (sym e) ∙ (pow-add 2 (suc d) c ∙ ap (λ (k : ℕ). k * 2 ^ c) (pow-suc 2 d)) in
    rw (p, add-mul-div_right x (2 ^ d * 2) (pow_pos c)) (even_more (x / 2 ^ c) (2 ^ d))

bias_even : (q : ℕ) → q % 2 ≡ 0 → (q + 1) / 2 ≡ q / 2
bias_even q z = omega arith

-- past bit a: the number without its lower a + 1 bits
past : (x a d : ℕ) → x / 2 ^ (a + suc d) ≡ x / 2 ^ a / 2 / 2 ^ d
past x a d =
    let e : a + suc d ≡ a + 1 + d = omega arith in
    ap (λ (k : ℕ). x / 2 ^ k) e ∙ (sym (shr-shr x (a + 1) d) ∙ ap (λ (k : ℕ). k / 2 ^ d) (sym (shr-shr x a 1)))

plus_high : (x a c : ℕ) → bit x a ≡ 0 → a < c → bit (x + 2 ^ a) c ≡ bit x c
plus_high x a c z h =
    let d = c - suc a in
    let e : c ≡ a + suc d = omega arith in
    rw (e, past (x + 2 ^ a) a d, past x a d, add-div_right x (pow_pos a), bias_even (x / 2 ^ a) z)

pub with_on : (x a : ℕ) → bit x a ≡ 1 → with_bit x a ≡ x
with_on x a e = rw (e, mul-zero, add-zero)

pub with_off : (x a : ℕ) → bit x a ≡ 0 → with_bit x a ≡ x + 2 ^ a
with_off x a e = rw (e, mul-one)

by_bit : (q : ℕ) (P : Type 0) → (q % 2 ≡ 0 → P) → (q % 2 ≡ 1 → P) → P
by_bit q P f g = by_lt (q % 2) 1 P (λ h. f (omega arith)) (λ h. g (omega arith))

pub bit-set : (x a : ℕ) → bit (with_bit x a) a ≡ 1
bit-set x a =
    by_bit (x / 2 ^ a) (bit (with_bit x a) a ≡ 1)
    (λ z. ap (λ (k : ℕ). bit k a) (with_off x a z) ∙ plus-same x a z)
    (λ o. ap (λ (k : ℕ). bit k a) (with_on x a o) ∙ o)

pub bit_kept : (x a c : ℕ) → (c ≡ a → ⊥) → bit (with_bit x a) c ≡ bit x c
bit_kept x a c n =
    by_bit (x / 2 ^ a) (bit (with_bit x a) c ≡ bit x c)
    (λ z. ap (λ (k : ℕ). bit k c) (with_off x a z) ∙ by_lt c a (bit (x + 2 ^ a) c ≡ bit x c) (plus_low x a c) (λ h. plus_high x a c z (omega arith)))
    (λ o. ap (λ (k : ℕ). bit k c) (with_on x a o))

-- only the low bits are stored, and a bit below them is read as it was
pub le-put_mod : (n : ℕ) (l : List ℕ) (at x : ℕ) → at + n ≤ length l → x % 256 ^ n < 256 ^ n → le n (put n l at x) at ≡ x % 256 ^ n
le-put_mod n l at x h b = ap (λ (k : List ℕ). le n k at) (sym (put_low n l at x)) ∙ le-put-same n l at (x % 256 ^ n) h b

pub bit_mod : (x c : ℕ) → c < 64 → bit (x % 2 ^ 64) c ≡ bit x c
bit_mod x c h =
    let d = 64 - suc c in
    let e : suc d + c ≡ 64 = omega arith in
    let p : x % 2 ^ 64 / 2 ^ c ≡ x / 2 ^ c % 2 ^ suc d = ap (λ (k : ℕ). x % 2 ^ k / 2 ^ c) (sym e) ∙ field x (suc d) c in
    let s : suc d ≡ d + 1 = omega arith in
    rw p (ap (λ (k : ℕ). x / 2 ^ c % 2 ^ k % 2) s ∙ mod-mod-pow (x / 2 ^ c) d 1)

-- ---- the mask of a bit, and a bit taken off
pub shifted_one : (k : ℕ) → k < 64 → (1 * 2 ^ k) % 2 ^ 64 ≡ 2 ^ k
shifted_one k h = shl_exact {a = 1} 1 k 64 (omega arith) (omega arith) ∙ one-mul (2 ^ k)

pub shifted_flag : (k : ℕ) → k < 16 → (1 * 2 ^ k) % 2 ^ 16 ≡ 2 ^ k
shifted_flag k h = shl_exact {a = 1} 1 k 16 (omega arith) (omega arith) ∙ one-mul (2 ^ k)

pub without_off : (x a : ℕ) → bit x a ≡ 0 → without_bit x a ≡ x
without_off x a e = rw (e, mul-zero, sub-zero)

pub without_on : (x a : ℕ) → bit x a ≡ 1 → without_bit x a ≡ x - 2 ^ a
without_on x a e = rw (e, mul-one)

masked_off : (x k : ℕ) → bit x k ≡ 0 → bit_and x (2 ^ k) ≡ 0
masked_off x k z = and_pow x k ∙ rw (z, zero-mul) refl

masked_on : (x k : ℕ) → bit x k ≡ 1 → bit_and x (2 ^ k) ≡ 2 ^ k
masked_on x k o = and_pow x k ∙ rw (o, one-mul) refl

pub or_bit : (x k : ℕ) → bit_or x (2 ^ k) ≡ with_bit x k
or_bit x k =
    let both = or_add_and x (2 ^ k) in
    by_bit (x / 2 ^ k) (bit_or x (2 ^ k) ≡ with_bit x k)
    (λ z. let a = masked_off x k z in let e = with_off x k z in omega arith)
    (λ o. let a = masked_on x k o in let e = with_on x k o in omega arith)

and_not : (w x k : ℕ) → x < 2 ^ w → k < w → bit_and x (2 ^ w - 1 - 2 ^ k) ≡ without_bit x k
and_not w x k b h =
    let rest = and-not w (2 ^ k) x (pow_below k w h) b in
    let turned = and_comm x (2 ^ w - 1 - 2 ^ k) in
    let mask = and_comm (2 ^ k) x in
    by_bit (x / 2 ^ k) (bit_and x (2 ^ w - 1 - 2 ^ k) ≡ without_bit x k)
    (λ z. let a = masked_off x k z in let e = without_off x k z in omega arith)
    (λ o. let a = masked_on x k o in let e = without_on x k o in omega arith)

pub and_not_bit : (x k : ℕ) → x < 2 ^ 64 → k < 64 → bit_and x (2 ^ 64 - 1 - 2 ^ k) ≡ without_bit x k
and_not_bit x k b h = and_not 64 x k b h

pub and_not_flag : (x k : ℕ) → x < 2 ^ 16 → k < 16 → bit_and x (2 ^ 16 - 1 - 2 ^ k) ≡ without_bit x k
and_not_flag x k b h = and_not 16 x k b h
