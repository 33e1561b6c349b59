-- The digest of the kit's `sha2`, which is defined over lists, is the one of specs/Sha256.antt.
use Rattle.std.proofs.Common.{◌≡◌, ℕ, zero, suc, ◌+◌, ◌-◌, ◌*◌, ◌/◌, ◌%◌, ◌^◌, ◌<◌, ◌≤◌, List, [], ◌∷◌, ◌++◌, length, get_or, take, drop, replicate, refl, ◌∙◌, add_comm, mul_comm, arith, get_or-drop, shr_lt, add-zero}
use native.Mathlib.Nat.{mul-mod_left}
use lib.Bits.{bit_or, bit_xor, or_shifted_r}
use lib.Pow.{mod-pow-add, shl-shr}
use Rattle.std.specs.Int.{w64, to_be_bytes}
use Rattle.std.proofs.Math.Nat.{div-div-eq-div-mul}
use Rattle.sha256.specs.Sha256.{State, rotate_right, big_sigma0, big_sigma1, small_sigma0, small_sigma1, constants, initial, bytes_of, padding, padded, block, word_at, words, next_word, with_next, extended, schedule, temporary1, temporary2, round, rounds, sum, compress, blocks, bytes_of_words, digest, sha256}
use Rattle.sha2.specs.Sha256 as kit

-- ---- words and bytes: each number of a list is below m
abbrev pub Below : ℕ → List ℕ → Type 0
Below m l = (i : ℕ) → get_or l i 0 < m

below_append : (m : ℕ) (a b : List ℕ) → Below m a → Below m b → Below m (a ++ b)
below_append m [] b f g i = g i
below_append m (x ∷ a) b f g zero = f zero
below_append m (x ∷ a) b f g (suc i) = below_append m a b (λ j. f (suc j)) g i

below_one : (m x : ℕ) → x < m → Below m (x ∷ [])
below_one m x h zero = h
below_one m x h (suc i) = omega arith

below_take : (m n : ℕ) (l : List ℕ) → 0 < m → Below m l → Below m (take n l)
below_take m zero l h f i = h
below_take m (suc n) [] h f i = h
below_take m (suc n) (x ∷ l) h f zero = f zero
below_take m (suc n) (x ∷ l) h f (suc i) = below_take m n l h (λ j. f (suc j)) i

below_drop : (m n : ℕ) (l : List ℕ) → Below m l → Below m (drop n l)
below_drop m n l f i = rw (get_or-drop n l i 0) (f (n + i))

below_zeros : (n : ℕ) → Below 256 (replicate n 0)
below_zeros zero i = omega arith
below_zeros (suc n) zero = omega arith
below_zeros (suc n) (suc i) = below_zeros n i

below_bytes : (n x : ℕ) → Below 256 (bytes_of n x)
unfolding bytes_of
below_bytes zero x = λ i. omega arith
below_bytes (suc n) x = below_append 256 (bytes_of n (x / 256)) (x % 256 ∷ []) (below_bytes n (x / 256)) (below_one 256 (x % 256) (omega arith))

below_padded : (l : List ℕ) → Below 256 l → Below 256 (padded l)
unfolding padded padding
below_padded l f =
    below_append 256 l _ f
    (below_append 256 (128 ∷ []) _ (below_one 256 128 (omega arith))
    (below_append 256 (replicate ((119 - length l % 64) % 64) 0) _ (below_zeros _) (below_bytes 8 _)))

-- ---- a rotation of std is two shifts joined: n bits of x go to the top, and m bits to the bottom
rotated : (n m x : ℕ) → x < 2 ^ (n + m) → bit_or (x / 2 ^ n) (x * 2 ^ m % 2 ^ (n + m)) ≡ x / 2 ^ n + x % 2 ^ n * 2 ^ m
rotated n m x h =
    let e : x * 2 ^ m % 2 ^ (n + m) ≡ x % 2 ^ n * 2 ^ m = mod-pow-add (x * 2 ^ m) n m ∙ rw (shl-shr, mul-mod_left, add-zero) in
    let k : x / 2 ^ n < 2 ^ m = shr_lt m n (rw (add_comm n m) at h) in
    rw e (or_shifted_r (x % 2 ^ n) m (x / 2 ^ n) k ∙ add_comm (x % 2 ^ n * 2 ^ m) (x / 2 ^ n))

rotation : (n x : ℕ) → n ≤ 32 → x < 2 ^ 32 → bit_or (x / 2 ^ n) (x * 2 ^ (32 - n) % 2 ^ 32) ≡ rotate_right n x
unfolding rotate_right
rotation n x h k =
    let e : n + (32 - n) ≡ 32 = omega arith in
    rw e at (rotated n (32 - n) x (rw e k))

same_xor : {p q r x y z : ℕ} → p ≡ x → q ≡ y → r ≡ z → bit_xor (bit_xor p q) r ≡ bit_xor (bit_xor x y) z
same_xor e f g = rw (e, f, g)

module _ (x : ℕ) (h : x < 2 ^ 32) where
  same_big0 : kit.big_sigma0 x ≡ big_sigma0 x
  unfolding big_sigma0
  same_big0 = same_xor (rotation 2 x (omega arith) h) (rotation 13 x (omega arith) h) (rotation 22 x (omega arith) h)

  same_big1 : kit.big_sigma1 x ≡ big_sigma1 x
  unfolding big_sigma1
  same_big1 = same_xor (rotation 6 x (omega arith) h) (rotation 11 x (omega arith) h) (rotation 25 x (omega arith) h)

  same_small0 : kit.small_sigma0 x ≡ small_sigma0 x
  unfolding small_sigma0
  same_small0 = same_xor (rotation 7 x (omega arith) h) (rotation 18 x (omega arith) h) refl

  same_small1 : kit.small_sigma1 x ≡ small_sigma1 x
  unfolding small_sigma1
  same_small1 = same_xor (rotation 17 x (omega arith) h) (rotation 19 x (omega arith) h) refl

-- ---- the schedule of a block
module _ (b : List ℕ) (f : Below 256 b) where
  same_word : (at : ℕ) → kit.word_at b at ≡ word_at b at
  unfolding word_at
  same_word at = omega arith

  word_below : (at : ℕ) → word_at b at < 2 ^ 32
  unfolding word_at
  word_below at = omega (arith, f at, f (at + 1), f (at + 2), f (at + 3))

  same_words : (n : ℕ) → kit.first_words b n ≡ words n b
  unfolding kit.first_words words
  same_words zero = refl
  same_words (suc n) = rw (same_words n, same_word (4 * n)) refl

  words_below : (n : ℕ) → Below (2 ^ 32) (words n b)
  unfolding words
  words_below zero = λ i. omega arith
  words_below (suc n) = below_append (2 ^ 32) (words n b) _ (words_below n) (below_one (2 ^ 32) _ (word_below (4 * n)))

  extended_below : (n : ℕ) → Below (2 ^ 32) (extended n (words 16 b))
  unfolding extended with_next next_word
  extended_below zero = words_below 16
  extended_below (suc n) = below_append (2 ^ 32) (extended n (words 16 b)) _ (extended_below n) (below_one (2 ^ 32) _ (omega arith))

  same_next : (n : ℕ) (w : List ℕ) → Below (2 ^ 32) w → kit.next_word w (n + 16) ≡ next_word n w
  unfolding next_word
  same_next n w g =
      let i : n + 16 - 2 ≡ n + 14 = omega arith in
      let j : n + 16 - 7 ≡ n + 9 = omega arith in
      let k : n + 16 - 15 ≡ n + 1 = omega arith in
      let m : n + 16 - 16 ≡ n = omega arith in
      rw (i, j, k, m, same_small1 (get_or w (n + 14) 0) (g (n + 14)), same_small0 (get_or w (n + 1) 0) (g (n + 1))) (omega arith)

  same_extended : (n : ℕ) → kit.schedule b n ≡ extended n (words 16 b)
  unfolding kit.schedule extended with_next
  same_extended zero = same_words 16
  same_extended (suc n) = rw (same_extended n, same_next n (extended n (words 16 b)) (extended_below n)) refl

-- ---- the rounds of a block, over the eight words of a state
list_of : State → List ℕ
list_of s = s.a ∷ s.b ∷ s.c ∷ s.d ∷ s.e ∷ s.f ∷ s.g ∷ s.h ∷ []

-- the two words of a state that are rotated, and those that come to their places
record Fits (s : State) : Type 0 where
  a : s.a < 2 ^ 32
  b : s.b < 2 ^ 32
  c : s.c < 2 ^ 32
  d : s.d < 2 ^ 32
  e : s.e < 2 ^ 32
  f : s.f < 2 ^ 32
  g : s.g < 2 ^ 32
  h : s.h < 2 ^ 32

round_fits : (k w : ℕ) (s : State) → Fits s → Fits (round k w s)
unfolding round
round_fits k w s t = record { a = omega arith; b = t.a; c = t.b; d = t.c; e = omega arith; f = t.e; g = t.f; h = t.g }

rounds_fit : (n : ℕ) (w : List ℕ) (s : State) → Fits s → Fits (rounds n w s)
unfolding rounds
rounds_fit zero w s t = t
rounds_fit (suc n) w s t = round_fits (get_or constants n 0) (get_or w n 0) (rounds n w s) (rounds_fit n w s t)

sum_fits : (s t : State) → Fits (sum s t)
unfolding sum
sum_fits s t = record { a = omega arith; b = omega arith; c = omega arith; d = omega arith; e = omega arith; f = omega arith; g = omega arith; h = omega arith }

same_round : (k w : ℕ) (s : State) → Fits s → kit.round (list_of s) k w ≡ list_of (round k w s)
unfolding list_of round temporary1 temporary2
same_round k w s t = rw (same_big0 s.a t.a, same_big1 s.e t.e) refl

same_rounds : (n : ℕ) (w : List ℕ) (s : State) → Fits s → kit.rounds (list_of s) w n ≡ list_of (rounds n w s)
unfolding kit.rounds rounds constants
same_rounds zero w s t = refl
same_rounds (suc n) w s t =
    rw (same_rounds n w s t) (same_round (get_or constants n 0) (get_or w n 0) (rounds n w s) (rounds_fit n w s t))

same_sum : (s t : State) → kit.add_state (list_of s) (list_of t) ≡ list_of (sum s t)
unfolding list_of sum
same_sum s t = refl

same_compress : (b : List ℕ) (s : State) → Below 256 b → Fits s → kit.compress (list_of s) b ≡ list_of (compress s b)
unfolding kit.compress compress schedule
same_compress b s f t = rw (same_extended b f 48, same_rounds 64 (extended 48 (words 16 b)) s t) (same_sum s (rounds 64 (extended 48 (words 16 b)) s))

-- ---- the blocks of a message, and the bytes of the last state
blocks_fit : (n : ℕ) (s : State) (p : List ℕ) → Fits s → Fits (blocks n s p)
unfolding blocks compress
blocks_fit zero s p t = t
blocks_fit (suc n) s p t = sum_fits _ _

same_blocks : (n : ℕ) (s : State) (p : List ℕ) → Below 256 p → Fits s → kit.hash_after (list_of s) p n ≡ list_of (blocks n s p)
unfolding kit.hash_after blocks block
same_blocks zero s p f t = refl
same_blocks (suc n) s p f t =
    rw (same_blocks n s p f t, mul_comm n 64)
    (same_compress (take 64 (drop (64 * n) p)) (blocks n s p) (below_take 256 64 (drop (64 * n) p) (omega arith) (below_drop 256 (64 * n) p f)) (blocks_fit n s p t))

length_bytes : (x : ℕ) → to_be_bytes w64 x ≡ bytes_of 8 x
unfolding bytes_of
length_bytes x = simp div-div-eq-div-mul

same_digest : (s : State) → kit.digest_bytes (list_of s) 8 ≡ digest s
unfolding kit.digest_bytes list_of digest bytes_of_words bytes_of
same_digest s = simp div-div-eq-div-mul

same_padded : (l : List ℕ) → kit.padded_message l ≡ padded l
unfolding padded padding
same_padded l = rw (length_bytes, mul_comm (length l) 8) refl

initial_fits : Fits initial
initial_fits = record { a = omega arith; b = omega arith; c = omega arith; d = omega arith; e = omega arith; f = omega arith; g = omega arith; h = omega arith }

pub same : (l : List ℕ) → Below 256 l → kit.sha256 l ≡ sha256 l
unfolding kit.sha256 sha256 list_of
same l f =
    rw (same_padded l, same_blocks (length (padded l) / 64) initial (padded l) (below_padded l f) initial_fits)
    (same_digest (blocks (length (padded l) / 64) initial (padded l)))
