-- A local holds the bits of a signed number (`of_z`), and an operation reads them (`to_z`): operations of amounts, and the bits of one in bytes.
use Rattle.std.proofs.Common.{◌≡◌, ℕ, ◌+◌, ◌-◌, ◌*◌, ◌/◌, ◌%◌, ◌^◌, ◌<◌, ℤ, ◌+ℤ◌, ◌-ℤ◌, pos, negsuc, suc, neg_ℤ, Some, sym, ap, ap₂, ◌∙◌, to_z-of_z, SFits, to_z, of_z, arith, lit<, mod-eq_of_lt, mod-lt, div-lt_iff_lt-mul, refl}
use Rattle.std.specs.Int.{w128, to_le_bytes}
use Rattle.std.proofs.Math.Nat.{add-mod_right, div-div-eq-div-mul}
use Rattle.fields.proofs.Numbers.{low, put-part}
use borrow.Rule.Slice.PartMut.{put_mid}
use Rattle.amount.specs.declared.Amount.{Amount}
use Rattle.amount.specs.Biased.{biased_integer, biased, bias, in_range, amount_at, put_amount}
use Rattle.amount.specs.Value.{fits_in, number_in, some_of, sum_is, difference_is, negative_is}
use Rattle.amount.specs.Laws.{biased_below, biased_from, by_lt, bias_parts, full_parts, flip_back, amount_at-bytes}
use Rattle.std.specs.Prelude.{List, slice_index, length, take, drop, ◌≤◌}
use Rattle.fields.specs.Bytes.{le, put, le_below, length-put, put_halves, put_split}
use Rattle.amount.specs.Halves.{InRange, wrapped}
use borrow.Author.Gap.{read_sfits}
use mir.Facts.{to_z_pos, to_z-neg, Fits-of_z}
use lib.IntN.{sub_ℕ}

abbrev pub local : ℤ → ℤ
local z = to_z w128 (of_z w128 z)

-- an operation on n's integer t gave s
pub gives : (n : ℕ) {t s : ℤ} → t ≡ sub_ℕ n (bias + bias) → SFits w128 t × (s ≡ t) → Some (record { 0 = local s }) ≡ in_range n
gives n {t} {s} e (f, p) = some_of n e f (let g : SFits w128 s = rw p f in to_z-of_z g ∙ p)

-- the same of an operation that cannot overflow
pub gives_number : (n : ℕ) {t : ℤ} → t ≡ sub_ℕ n (bias + bias) → InRange bias n → biased (record { 0 = local t }) ≡ n - bias
gives_number n e r = rw (to_z-of_z (fits_in n e r)) (number_in n e r)

module _ (a b : Amount) (f : SFits w128 a.0) (g : SFits w128 b.0) where
  pub summed : local a.0 +ℤ local b.0 ≡ sub_ℕ (biased a + biased b) (bias + bias)
  summed = ap₂ ◌+ℤ◌ (to_z-of_z f) (to_z-of_z g) ∙ sum_is a b f g

  pub subtracted : local a.0 -ℤ local b.0 ≡ sub_ℕ (biased a + (bias + bias) - biased b) (bias + bias)
  subtracted = ap₂ ◌-ℤ◌ (to_z-of_z f) (to_z-of_z g) ∙ difference_is a b f g

  -- of which neither is negative, nor the difference
  pub subtracted_number : bias ≤ biased b → biased b ≤ biased a → biased (record { 0 = local (local a.0 -ℤ local b.0) }) ≡ biased a + bias - biased b
  subtracted_number h k =
      let u = biased_below a f in
      let v = biased_below b g in
      omega (arith, gives_number _ subtracted (omega arith, omega arith))

pub from_natural : (n : ℕ) (z : ℤ) → n < 2 ^ 64 → z ≡ pos n → biased (record { 0 = local z }) ≡ bias + n
from_natural n z h e =
    let k : local z ≡ pos n = rw e (to_z_pos w128 (omega arith)) in
    rw k (biased_from n)

pub negated : (a : Amount) (f : SFits w128 a.0) → neg_ℤ (local a.0) ≡ sub_ℕ (bias + (bias + bias) - biased a) (bias + bias)
negated a f = ap neg_ℤ (to_z-of_z f) ∙ negative_is a f

-- ---- the bits of an amount
to_natural : (n : ℕ) → n < bias → to_z w128 n ≡ pos n
unfolding bias
to_natural n l = to_z_pos w128 l

to_negative : (m : ℕ) → m < bias → to_z w128 (bias + bias - suc m) ≡ negsuc m
unfolding bias
to_negative m l = to_z-neg w128 m l

biased_bits : (n : ℕ) → n < bias + bias → biased_integer (to_z w128 n) ≡ (n + bias) % (bias + bias)
unfolding biased_integer
biased_bits n b =
    by_lt n bias (biased_integer (to_z w128 n) ≡ (n + bias) % (bias + bias))
    (λ l. let k : n + bias < bias + bias = omega arith in rw (to_natural n l, mod-eq_of_lt k) (omega arith))
    (λ l. let m = bias + bias - suc n in
    let e : bias + bias - suc m ≡ n = omega arith in
    let f : to_z w128 n ≡ negsuc m = ap (to_z w128) (sym e) ∙ to_negative m (omega arith) in
    let g : n + bias ≡ n - bias + (bias + bias) = omega arith in
    let k : n - bias < bias + bias = omega arith in
    rw (f, g, add-mod_right (n - bias) (bias + bias), mod-eq_of_lt k) (omega arith))

-- an amount of the bits n
pub of_bits : (l : List ℕ) (at n : ℕ) → ((i : ℕ) → slice_index l i < 256) → n ≡ le 16 l at → biased (record { 0 = local (to_z w128 n) }) ≡ amount_at l at
unfolding biased
of_bits l at n h e =
    let b : n < 2 ^ 64 * 2 ^ 64 = rw e (le_below 16 l at h) in
    rw (to_z-of_z (read_sfits w128 n)) (biased_bits n (rw full_parts b) ∙ ap (λ (k : ℕ). (k + bias) % (bias + bias)) e ∙ sym (amount_at-bytes l at h))

-- the bits of an amount in bytes
module _ (a : Amount) (f : SFits w128 a.0) where
  bits_are : (u : ℕ) → u ≡ of_z w128 a.0 → u < bias + bias → biased a ≡ (u / 2 ^ 64 + 2 ^ 63) % 2 ^ 64 * 2 ^ 64 + u % 2 ^ 64
  unfolding biased
  bits_are u e b =
      let d : u % 2 ^ 64 + 2 ^ 64 * (u / 2 ^ 64) ≡ u = omega arith in
      ap biased_integer (sym (ap (to_z w128) e ∙ to_z-of_z f)) ∙ biased_bits u b
      ∙ rw (full_parts, bias_parts) (ap (λ (k : ℕ). (k + 2 ^ 63 * 2 ^ 64) % (2 ^ 64 * 2 ^ 64)) (sym d) ∙ wrapped (2 ^ 64) (2 ^ 63) (u / 2 ^ 64) (u % 2 ^ 64) (lit< tt) (lit< tt) (mod-lt u (lit< tt)))

  below : of_z w128 a.0 < bias + bias
  unfolding bias
  below = (Fits-of_z f).fits

  -- put in sixteen bytes, the least significant first
  pub put_bits : (l : List ℕ) (at : ℕ) → put 16 l at (of_z w128 (local a.0)) ≡ put_amount l at (biased a)
  unfolding put_amount
  put_bits l at =
      let u = of_z w128 a.0 in
      let n = biased a in
      let h : u / 2 ^ 64 < 2 ^ 64 = (div-lt_iff_lt-mul (lit< tt)).1 (rw full_parts at below) in
      let e : n ≡ (u / 2 ^ 64 + 2 ^ 63) % 2 ^ 64 * 2 ^ 64 + u % 2 ^ 64 = bits_are u refl below in
      let x : u % 2 ^ 64 ≡ n % 2 ^ 64 = omega arith in
      let g : n / 2 ^ 64 ≡ (u / 2 ^ 64 + 2 ^ 63) % 2 ^ 64 = omega arith in
      rw (to_z-of_z f) (put_halves 8 8 l at u ∙ rw (g, flip_back (u / 2 ^ 64) h, x) refl)

-- the two halves of the bits' bytes
pub low_bytes : (x : ℕ) → take 8 (to_le_bytes w128 x) ≡ low 8 x
low_bytes x = simp div-div-eq-div-mul

pub high_bytes : (x : ℕ) → take 8 (drop 8 (to_le_bytes w128 x)) ≡ low 8 (x / 256 ^ 8)
high_bytes x = simp div-div-eq-div-mul

-- written one behind the other
pub put_two : (l ys zs : List ℕ) (at x : ℕ) → at + 16 ≤ length l → ys ≡ low 8 x → zs ≡ low 8 (x / 256 ^ 8) → put_mid (at + 8) (at + 16 - (at + 8)) (put_mid at (at + 8 - at) l ys) zs ≡ put 16 l at x
put_two l ys zs at x h e f =
    let k : at + 16 - (at + 8) ≡ at + 8 + 8 - (at + 8) = omega arith in
    let p : put_mid at (at + 8 - at) l ys ≡ put 8 l at x = put-part 8 l ys at x (omega arith) e in
    let m : at + 8 + 8 ≤ length (put 8 l at x) = rw length-put (omega arith) in
    ap (λ (n : ℕ). put_mid (at + 8) n (put_mid at (at + 8 - at) l ys) zs) k
    ∙ ap (λ (t : List ℕ). put_mid (at + 8) (at + 8 + 8 - (at + 8)) t zs) p
    ∙ put-part 8 (put 8 l at x) zs (at + 8) (x / 256 ^ 8) m f
    ∙ sym (put_split 8 8 l at x)
