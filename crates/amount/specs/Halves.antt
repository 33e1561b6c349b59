-- Signed numbers of two halves, at any width: a signed high half z, -H ≤ z < H, and an unsigned low half lo < W.
-- The integer is z * W + lo, and the biased number is the integer plus H * W. `mag z < H` says -H ≤ z < H (`lib.Signed`).
use Rattle.std.specs.Prelude.{◌≡◌, ℕ, zero, suc, ◌+◌, ◌-◌, ◌*◌, ◌/◌, ◌%◌, ◌<◌, ◌≤◌, Bool, true, false, cond, ◌||◌, ℤ, pos, negsuc, ◌+ℤ◌, ◌-ℤ◌, ◌*ℤ◌, neg_ℤ, int_lt, nat_le, nat_lt, refl}
use Rattle.std.proofs.Math.Path.{sym, ap}
use Rattle.std.proofs.Common.{ap₂, ◌∙◌, add-mul, add-zero, mul_comm, mul-le-mul_right, div-lt_iff_lt-mul, div-add-mod', mod-eq_of_lt, le-leb, lt-ltb, le-ltb, ltb-true, ltb-false}
use native.Mathlib.Omega.{arith}
use Rattle.std.proofs.Math.Nat.{sub-zero, mul-add-div_right, mul-add-mod_self_right, div-eq_of_lt}
use Rattle.std.proofs.Math.IntN.{sub_ℕ, +ℤ_assoc, +ℤ_comm, neg_ℤ-+ℤ, neg_ℤ-neg_ℤ}
use Rattle.std.specs.Int.Signed.{mag}
use Rattle.std.proofs.Math.Arith.{digits_lt, mod-mul}
use Rattle.std.proofs.lemmas.Bool.{lt-leb}

-- ---- definitions
-- the integer of two halves
abbrev pub integer : (W : ℕ) (z : ℤ) (lo : ℕ) → ℤ
integer W z lo = z *ℤ pos W +ℤ pos lo

-- a high half plus H, and the number plus H * W
unfoldable pub biased_half : (H : ℕ) (z : ℤ) → ℕ
biased_half H (pos n) = H + n
biased_half H (negsuc n) = H - suc n

abbrev pub biased_number : (W H : ℕ) (z : ℤ) (lo : ℕ) → ℕ
biased_number W H z lo = biased_half H z * W + lo

-- the integer of the two halves of a biased number
abbrev pub integer_of : (W H n : ℕ) → ℤ
integer_of W H n = integer W (sub_ℕ (n / W) H) (n % W)

-- A sum of two biased numbers has the bias B twice. It is in range from B on and below 3 * B; and the test of that.
abbrev pub InRange : (B n : ℕ) → Type 0
InRange B n = (B ≤ n) × (n < B + B + B)

abbrev pub is_out_of : (B n : ℕ) → Bool
is_out_of B n = nat_lt n B || nat_le (B + B + B) n

-- The range test of n decides whether the integer t is one of the width, and then t is that of the halves of n less the bias.
pub record Decides (W H n : ℕ) (t : ℤ) : Type 0 where
  pub fits : InRange (H * W) n → mag t < H * W
  pub in_range_is : mag t < H * W → InRange (H * W) n
  pub value : InRange (H * W) n → integer_of W H (n - H * W) ≡ t

-- ---- tests
-- a test decided, with its fact
pub by_lt : (a b : ℕ) (P : Type 0) → (a < b → P) → (b ≤ a → P) → P
by_lt a b P f g = go (nat_lt a b) refl
  where
    go : (t : Bool) → nat_lt a b ≡ t → P
    go true e = f (ltb-true a b e)
    go false e = g (ltb-false a b e)

-- two tests that hold together and fail together are the same test
pub ltb_same : (a b c d : ℕ) → (a < b → c < d) → (b ≤ a → d ≤ c) → nat_lt a b ≡ nat_lt c d
ltb_same a b c d f g = by_lt a b (nat_lt a b ≡ nat_lt c d) (λ h. lt-ltb a b h ∙ sym (lt-ltb c d (f h))) (λ h. le-ltb a b h ∙ sym (le-ltb c d (g h)))

pub by_range : (B n : ℕ) (P : Type 0) → (InRange B n → P) → ((InRange B n → ⊥) → P) → P
by_range B n P f g = by_lt n B P (λ h. g (λ r. omega arith)) (λ h. by_lt n (B + B + B) P (λ k. f (h, k)) (λ k. g (λ r. omega arith)))

-- the range test, both ways
pub test_in : (B n : ℕ) → InRange B n → is_out_of B n ≡ false
test_in B n (h, k) = rw (le-ltb n B h, lt-leb (B + B + B) n k)

pub test_out : (B n : ℕ) → (InRange B n → ⊥) → is_out_of B n ≡ true
test_out B n f =
    by_lt n B (is_out_of B n ≡ true)
    (λ h. rw (lt-ltb n B h))
    (λ h. by_lt n (B + B + B) (is_out_of B n ≡ true) (λ k. absurd (f (h, k))) (λ k. rw (le-ltb n B h, le-leb (B + B + B) n k)))

-- ---- differences of naturals
pub subℕ_lt : (a b : ℕ) → a < b → sub_ℕ a b ≡ negsuc (b - suc a)
subℕ_lt a b h = ap (λ (t : Bool). cond t (negsuc (b - suc a)) (pos (a - b))) (lt-ltb a b h)

pub subℕ_ge : (a b : ℕ) → b ≤ a → sub_ℕ a b ≡ pos (a - b)
subℕ_ge a b h = ap (λ (t : Bool). cond t (negsuc (b - suc a)) (pos (a - b))) (le-ltb a b h)

sub_neg : (a b : ℕ) → sub_ℕ a b ≡ pos a -ℤ pos b
sub_neg a zero = subℕ_ge a 0 (omega arith) ∙ ap pos (sub-zero a ∙ sym (add-zero a))
sub_neg a (suc b) = refl

neg_sub : (x lo : ℕ) → neg_ℤ (pos x) +ℤ pos lo ≡ sub_ℕ lo x
neg_sub x lo = +ℤ_comm (neg_ℤ (pos x)) (pos lo) ∙ sym (sub_neg lo x)

pub neg_of_sub : (a b : ℕ) → neg_ℤ (sub_ℕ a b) ≡ sub_ℕ b a
neg_of_sub a b =
    ap neg_ℤ (sub_neg a b) ∙ neg_ℤ-+ℤ (pos a) (neg_ℤ (pos b)) ∙ ap (λ (z : ℤ). neg_ℤ (pos a) +ℤ z) (neg_ℤ-neg_ℤ (pos b)) ∙ neg_sub a b

-- a difference is kept where both sides are raised by the same
pub sub_same : (a b c d : ℕ) → a + d ≡ c + b → sub_ℕ a b ≡ sub_ℕ c d
sub_same a b c d e =
    by_lt a b (sub_ℕ a b ≡ sub_ℕ c d)
    (λ h. let k : c < d = omega arith in let f : b - suc a ≡ d - suc c = omega arith in rw (subℕ_lt a b h, subℕ_lt c d k, f))
    (λ h. let k : d ≤ c = omega arith in let f : a - b ≡ c - d = omega arith in rw (subℕ_ge a b h, subℕ_ge c d k, f))

middle : (a b c d : ℤ) → (a +ℤ b) +ℤ (c +ℤ d) ≡ (a +ℤ c) +ℤ (b +ℤ d)
middle a b c d =
    +ℤ_assoc a b (c +ℤ d)
    ∙ ap (λ (z : ℤ). a +ℤ z) (sym (+ℤ_assoc b c d) ∙ ap (λ (z : ℤ). z +ℤ d) (+ℤ_comm b c) ∙ +ℤ_assoc c b d)
    ∙ sym (+ℤ_assoc a c (b +ℤ d))

pub sub_add : (a b c d : ℕ) → sub_ℕ a b +ℤ sub_ℕ c d ≡ sub_ℕ (a + c) (b + d)
sub_add a b c d =
    rw (sub_neg a b, sub_neg c d, sub_neg (a + c) (b + d)) (middle (pos a) (neg_ℤ (pos b)) (pos c) (neg_ℤ (pos d)) ∙ ap (λ (z : ℤ). pos (a + c) +ℤ z) (sym (neg_ℤ-+ℤ (pos b) (pos d))))

pub sub_sub : (a b c d : ℕ) → sub_ℕ a b -ℤ sub_ℕ c d ≡ sub_ℕ (a + d) (b + c)
sub_sub a b c d = ap (λ (z : ℤ). sub_ℕ a b +ℤ z) (neg_of_sub c d) ∙ sub_add a b d c

pub sub_lt : (m n k : ℕ) → int_lt (sub_ℕ m k) (sub_ℕ n k) ≡ nat_lt m n
sub_lt m n k =
    by_lt m k (int_lt (sub_ℕ m k) (sub_ℕ n k) ≡ nat_lt m n)
    (λ h. by_lt n k (int_lt (sub_ℕ m k) (sub_ℕ n k) ≡ nat_lt m n)
    (λ g. rw (subℕ_lt m k h, subℕ_lt n k g) (ltb_same (k - suc n) (k - suc m) m n (omega arith) (omega arith)))
    (λ g. let e : m < n = omega arith in rw (subℕ_lt m k h, subℕ_ge n k g, lt-ltb m n e)))
    (λ h. by_lt n k (int_lt (sub_ℕ m k) (sub_ℕ n k) ≡ nat_lt m n)
    (λ g. let e : n ≤ m = omega arith in rw (subℕ_ge m k h, subℕ_lt n k g, le-ltb m n e))
    (λ g. rw (subℕ_ge m k h, subℕ_ge n k g) (ltb_same (m - k) (n - k) m n (omega arith) (omega arith))))

-- n - k is at least -B and below B, both ways
pub sub_fits : (n k B : ℕ) → k ≤ n + B → n < k + B → mag (sub_ℕ n k) < B
sub_fits n k B g h =
    by_lt n k (mag (sub_ℕ n k) < B)
    (λ l. rw (subℕ_lt n k l) (omega arith))
    (λ l. rw (subℕ_ge n k l) (omega arith))

pub fits_sub : (n k B : ℕ) → mag (sub_ℕ n k) < B → (k ≤ n + B) × (n < k + B)
fits_sub n k B f =
    by_lt n k ((k ≤ n + B) × (n < k + B))
    (λ l. let e : k - suc n < B = rw (subℕ_lt n k l) at f in (omega arith, omega arith))
    (λ l. let e : n - k < B = rw (subℕ_ge n k l) at f in (omega arith, omega arith))

-- ---- a high half
module _ (H : ℕ) where
  pub biased_half_sub : (u : ℕ) → biased_half H (sub_ℕ u H) ≡ u
  unfolding biased_half
  biased_half_sub u =
      by_lt u H (biased_half H (sub_ℕ u H) ≡ u)
      (λ h. rw (subℕ_lt u H h) (omega arith))
      (λ h. rw (subℕ_ge u H h) (omega arith))

  pub sub_biased_half : (z : ℤ) → mag z < H → sub_ℕ (biased_half H z) H ≡ z
  unfolding biased_half
  sub_biased_half (pos n) f = subℕ_ge (H + n) H (omega arith) ∙ ap pos (omega arith)
  sub_biased_half (negsuc n) f = subℕ_lt (H - suc n) H (omega arith) ∙ ap negsuc (omega arith)

  pub biased_half_below : (z : ℤ) → mag z < H → biased_half H z < H + H
  unfolding biased_half
  biased_half_below (pos n) f = omega arith
  biased_half_below (negsuc n) f = omega arith

-- ---- the two halves
-- the high halves decide the order, and where they are the same the low halves
pub lex_lt : (W h k x y : ℕ) → h < k → x < W → h * W + x < k * W + y
lex_lt W h k x y p q = omega (arith, digits_lt p q)

pub lex_same : (W h k x y : ℕ) → h ≡ k → nat_lt x y ≡ nat_lt (h * W + x) (k * W + y)
lex_same W h k x y e = rw e (ltb_same x y (k * W + x) (k * W + y) (λ l. omega arith) (λ l. omega arith))

-- two halves that make a multiple of W
pub halves_same : (W a c lo : ℕ) → lo < W → a * W + lo ≡ c * W → (a ≡ c) × (lo ≡ 0)
halves_same W a c lo b e =
    let w : 0 < W = omega arith in
    by_lt a c ((a ≡ c) × (lo ≡ 0))
    (λ h. absurd (omega (arith, digits_lt h b)))
    (λ h. by_lt c a ((a ≡ c) × (lo ≡ 0))
    (λ k. absurd (omega (arith, digits_lt k w)))
    (λ k. let f : a ≡ c = omega arith in let g : c * W + lo ≡ c * W = rw f at e in (f, omega arith)))

-- and the range
pub high_in_range : (W H s lo : ℕ) → lo < W → InRange H s → InRange (H * W) (s * W + lo)
high_in_range W H s lo b (h, k) = (omega (arith, mul-le-mul_right W h), rw (← add-mul H H W, ← add-mul (H + H) H W) (digits_lt k b))

pub in_range_high : (W H s lo : ℕ) → lo < W → InRange (H * W) (s * W + lo) → InRange H s
in_range_high W H s lo b (h, k) =
    by_lt s H (InRange H s)
    (λ l. absurd (omega (arith, digits_lt l b)))
    (λ l. by_lt s (H + H + H) (InRange H s)
    (λ m. (l, m))
    (λ m. absurd (omega (arith, mul-le-mul_right W m, add-mul (H + H) H W, add-mul H H W))))

-- what is added to the high half, or taken from it, is added to the number, or taken from it
pub more_bias : (W H n lo : ℕ) → (H + n) * W + lo ≡ H * W + (n * W + lo)
more_bias W H n lo = rw (add-mul H n W) (omega arith)

pub less_bias : (W H s lo : ℕ) → H ≤ s → s * W + lo - H * W ≡ (s - H) * W + lo
less_bias W H s lo h =
    let u : s - H + H ≡ s = omega arith in
    let e : (s - H) * W + H * W ≡ s * W = sym (add-mul (s - H) H W) ∙ ap (λ (n : ℕ). n * W) u in
    omega arith

-- a sum by halves with the carry c, and a difference: the high half of the second is turned over, and c is 1 without a borrow
pub sum_parts : (W h k c s x y : ℕ) → c * W + s ≡ x + y → (h + k + c) * W + s ≡ h * W + x + (k * W + y)
sum_parts W h k c s x y e = rw (add-mul (h + k) c W, add-mul h k W) (omega arith)

pub difference_parts : (W H h k k' c s x y : ℕ) → c * W + s + y ≡ x + W → k + k' + 1 ≡ H + H → (h + k' + c) * W + s ≡ h * W + x + (H * W + H * W) - (k * W + y)
difference_parts W H h k k' c s x y e f =
    let g : H * W + H * W ≡ k * W + k' * W + 1 * W = sym (add-mul H H W) ∙ ap (λ (n : ℕ). n * W) (sym f) ∙ add-mul (k + k') 1 W ∙ ap (λ (n : ℕ). n + 1 * W) (add-mul k k' W) in
    rw (add-mul (h + k') c W, add-mul h k' W) (omega (arith, g))

-- ---- the integer
module _ (W H : ℕ) where
  -- it is the biased number less the bias
  pub integer-biased : (z : ℤ) (lo : ℕ) → mag z < H → integer W z lo ≡ sub_ℕ (biased_number W H z lo) (H * W)
  unfolding biased_half
  integer-biased (pos n) lo f =
      sym (sub_same ((H + n) * W + lo) (H * W) (n * W + lo) 0 (omega (arith, more_bias W H n lo)) ∙ subℕ_ge (n * W + lo) 0 (omega arith) ∙ ap pos (omega arith))
  integer-biased (negsuc n) lo f =
      let u : suc n + (H - suc n) ≡ H = omega arith in
      let e : suc n * W + (H - suc n) * W ≡ H * W = sym (add-mul (suc n) (H - suc n) W) ∙ ap (λ (k : ℕ). k * W) u in
      neg_sub (suc n * W) lo ∙ sub_same lo (suc n * W) ((H - suc n) * W + lo) (H * W) (omega arith)

  pub biased_number_below : (z : ℤ) (lo : ℕ) → mag z < H → lo < W → biased_number W H z lo < H * W + H * W
  biased_number_below z lo f b = rw (← add-mul H H W) (digits_lt (biased_half_below H z f) b)

  -- the halves of a biased number have that number
  pub biased_halves : (n : ℕ) → biased_number W H (sub_ℕ (n / W) H) (n % W) ≡ n
  biased_halves n = rw (biased_half_sub H (n / W)) (div-add-mod' n W)

  pub integer_halves : (n : ℕ) → 0 < W → n < H * W + H * W → integer_of W H n ≡ sub_ℕ n (H * W)
  integer_halves n p h =
      let q : n / W < H + H = (div-lt_iff_lt-mul p).1 (rw (add-mul H H W) h) in
      integer-biased (sub_ℕ (n / W) H) (n % W) (sub_fits (n / W) H H (omega arith) q) ∙ ap (λ (k : ℕ). sub_ℕ k (H * W)) (biased_halves n)

  -- an integer that is n less twice the bias
  pub decides : 0 < W → (n : ℕ) {t : ℤ} → t ≡ sub_ℕ n (H * W + H * W) → Decides W H n t
  decides p n e =
      let B = H * W in
      record {
        fits = λ (h, k). rw e (sub_fits n (B + B) B (omega arith) (omega arith));
        in_range_is = λ f. let (g, h) = fits_sub n (B + B) B (rw e at f) in (omega arith, omega arith);
        value = λ (h, k). integer_halves (n - B) p (omega arith) ∙ (sub_same (n - B) B n (B + B) (omega arith) ∙ sym e);
      }

-- ---- the operations on two numbers, with the high halves x and y and the low halves p and q
module _ (W H : ℕ) (x y : ℤ) (p q : ℕ) (f : mag x < H) (g : mag y < H) where
  -- the order of the integers is that of the biased numbers
  pub order : int_lt (integer W x p) (integer W y q) ≡ nat_lt (biased_number W H x p) (biased_number W H y q)
  order = rw (integer-biased W H x p f, integer-biased W H y q g) (sub_lt (biased_number W H x p) (biased_number W H y q) (H * W))

  pub sum : 0 < W → Decides W H (biased_number W H x p + biased_number W H y q) (integer W x p +ℤ integer W y q)
  sum w =
      decides W H w _
      (ap₂ ◌+ℤ◌ (integer-biased W H x p f) (integer-biased W H y q g) ∙ sub_add (biased_number W H x p) (H * W) (biased_number W H y q) (H * W))

  pub difference : q < W → Decides W H (biased_number W H x p + (H * W + H * W) - biased_number W H y q) (integer W x p -ℤ integer W y q)
  difference b =
      let m = biased_number W H x p in
      let n = biased_number W H y q in
      let h : n < H * W + H * W = biased_number_below W H y q g b in
      decides W H (omega arith) _
      (ap₂ ◌-ℤ◌ (integer-biased W H x p f) (integer-biased W H y q g) ∙ sub_sub m (H * W) n (H * W)
      ∙ sub_same (m + H * W) (H * W + n) (m + (H * W + H * W) - n) (H * W + H * W) (omega arith))

pub negative : (W H : ℕ) (y : ℤ) (q : ℕ) → mag y < H → q < W → Decides W H (H * W + (H * W + H * W) - biased_number W H y q) (neg_ℤ (integer W y q))
negative W H y q g b =
    let n = biased_number W H y q in
    let h : n < H * W + H * W = biased_number_below W H y q g b in
    decides W H (omega arith) _
    (ap neg_ℤ (integer-biased W H y q g) ∙ neg_of_sub n (H * W) ∙ sub_same (H * W) n (H * W + (H * W + H * W) - n) (H * W + H * W) (omega arith))

-- ---- both halves as one number of two's complement
pub wrapped : (W H h x : ℕ) → 0 < W → 0 < H → x < W → (x + W * h + H * W) % ((H + H) * W) ≡ (h + H) % (H + H) * W + x
wrapped W H h x pw ph b =
    let e : x + W * h + H * W ≡ (h + H) * W + x = rw (add-mul h H W, mul_comm W h) (omega arith) in
    let q : ((h + H) * W + x) / W ≡ h + H = mul-add-div_right pw (h + H) x ∙ (ap (λ (k : ℕ). h + H + k) (div-eq_of_lt b) ∙ add-zero (h + H)) in
    let r : ((h + H) * W + x) % W ≡ x = mul-add-mod_self_right (h + H) W x ∙ mod-eq_of_lt b in
    let k : 0 < H + H = omega arith in
    rw e (mod-mul ((h + H) * W + x) k pw ∙ rw (q, r))
