-- SHA-256 of a list of bytes, as FIPS 180-4 defines it. Each part names its section of the standard; a word is a number below 2 ^ 32.
use Rattle.std.specs.Prelude.{ℕ, zero, suc, ◌+◌, ◌-◌, ◌*◌, ◌/◌, ◌%◌, ◌^◌, List, [], ◌∷◌, ◌++◌, length, take, drop, replicate, bit_and, bit_xor, slice_index}

-- 3.2: the sum modulo 2 ^ 32, and a word rotated to the right by n bits
abbrev pub plus : ℕ → ℕ → ℕ
plus x y = (x + y) % 2 ^ 32

unfoldable pub rotate_right : ℕ → ℕ → ℕ
rotate_right n x = x / 2 ^ n + x % 2 ^ n * 2 ^ (32 - n)

-- 4.1.2: Ch, Maj and the four sigmas. 2 ^ 32 - 1 - x is the complement of x, and x / 2 ^ n is x shifted to the right
abbrev pub choose : ℕ → ℕ → ℕ → ℕ
choose x y z = bit_xor (bit_and x y) (bit_and (2 ^ 32 - 1 - x) z)

abbrev pub majority : ℕ → ℕ → ℕ → ℕ
majority x y z = bit_xor (bit_xor (bit_and x y) (bit_and x z)) (bit_and y z)

unfoldable pub big_sigma0 : ℕ → ℕ
big_sigma0 x = bit_xor (bit_xor (rotate_right 2 x) (rotate_right 13 x)) (rotate_right 22 x)

unfoldable pub big_sigma1 : ℕ → ℕ
big_sigma1 x = bit_xor (bit_xor (rotate_right 6 x) (rotate_right 11 x)) (rotate_right 25 x)

unfoldable pub small_sigma0 : ℕ → ℕ
small_sigma0 x = bit_xor (bit_xor (rotate_right 7 x) (rotate_right 18 x)) (x / 2 ^ 3)

unfoldable pub small_sigma1 : ℕ → ℕ
small_sigma1 x = bit_xor (bit_xor (rotate_right 17 x) (rotate_right 19 x)) (x / 2 ^ 10)

-- 4.2.2: the constants of the 64 rounds
unfoldable pub constants : List ℕ
constants =
    0x428a2f98 ∷ 0x71374491 ∷ 0xb5c0fbcf ∷ 0xe9b5dba5
    ∷ 0x3956c25b ∷ 0x59f111f1 ∷ 0x923f82a4 ∷ 0xab1c5ed5
    ∷ 0xd807aa98 ∷ 0x12835b01 ∷ 0x243185be ∷ 0x550c7dc3
    ∷ 0x72be5d74 ∷ 0x80deb1fe ∷ 0x9bdc06a7 ∷ 0xc19bf174
    ∷ 0xe49b69c1 ∷ 0xefbe4786 ∷ 0x0fc19dc6 ∷ 0x240ca1cc
    ∷ 0x2de92c6f ∷ 0x4a7484aa ∷ 0x5cb0a9dc ∷ 0x76f988da
    ∷ 0x983e5152 ∷ 0xa831c66d ∷ 0xb00327c8 ∷ 0xbf597fc7
    ∷ 0xc6e00bf3 ∷ 0xd5a79147 ∷ 0x06ca6351 ∷ 0x14292967
    ∷ 0x27b70a85 ∷ 0x2e1b2138 ∷ 0x4d2c6dfc ∷ 0x53380d13
    ∷ 0x650a7354 ∷ 0x766a0abb ∷ 0x81c2c92e ∷ 0x92722c85
    ∷ 0xa2bfe8a1 ∷ 0xa81a664b ∷ 0xc24b8b70 ∷ 0xc76c51a3
    ∷ 0xd192e819 ∷ 0xd6990624 ∷ 0xf40e3585 ∷ 0x106aa070
    ∷ 0x19a4c116 ∷ 0x1e376c08 ∷ 0x2748774c ∷ 0x34b0bcb5
    ∷ 0x391c0cb3 ∷ 0x4ed8aa4a ∷ 0x5b9cca4f ∷ 0x682e6ff3
    ∷ 0x748f82ee ∷ 0x78a5636f ∷ 0x84c87814 ∷ 0x8cc70208
    ∷ 0x90befffa ∷ 0xa4506ceb ∷ 0xbef9a3f7 ∷ 0xc67178f2 ∷ []

-- 6.2: the eight working variables, and the hash value between two blocks
pub record State : Type 0 where
  pub a : ℕ
  pub b : ℕ
  pub c : ℕ
  pub d : ℕ
  pub e : ℕ
  pub f : ℕ
  pub g : ℕ
  pub h : ℕ

-- 5.3.3: the initial hash value
abbrev pub initial : State
initial =
    record {
      a = 0x6a09e667;
      b = 0xbb67ae85;
      c = 0x3c6ef372;
      d = 0xa54ff53a;
      e = 0x510e527f;
      f = 0x9b05688c;
      g = 0x1f83d9ab;
      h = 0x5be0cd19;
    }

-- 3.1: x in n bytes, the most significant first
unfoldable pub bytes_of : ℕ → ℕ → List ℕ
bytes_of zero x = []
bytes_of (suc n) x = bytes_of n (x / 256) ++ (x % 256 ∷ [])

-- 5.1.1: what follows a message of n bytes: a bit 1, zeros up to 8 bytes before the end of a block, and the length in bits
unfoldable pub padding : ℕ → List ℕ
padding n = 128 ∷ (replicate ((119 - n % 64) % 64) 0 ++ bytes_of 8 (8 * n % 2 ^ 64))

unfoldable pub padded : List ℕ → List ℕ
padded l = l ++ padding (length l)

-- 5.2.1: block n of 64 bytes, the word in the four bytes from an index, and the first n words
unfoldable pub block : ℕ → List ℕ → List ℕ
block n l = take 64 (drop (64 * n) l)

unfoldable pub word_at : List ℕ → ℕ → ℕ
word_at l at = ((slice_index l at * 256 + slice_index l (at + 1)) * 256 + slice_index l (at + 2)) * 256 + slice_index l (at + 3)

unfoldable pub words : ℕ → List ℕ → List ℕ
words zero l = []
words (suc n) l = words n l ++ (word_at l (4 * n) ∷ [])

-- 6.2.2, step 1: word n + 16 of the schedule, and sixteen words with n more
unfoldable pub next_word : ℕ → List ℕ → ℕ
next_word n w = plus (plus (small_sigma1 (slice_index w (n + 14))) (slice_index w (n + 9))) (plus (small_sigma0 (slice_index w (n + 1))) (slice_index w n))

unfoldable pub with_next : ℕ → List ℕ → List ℕ
with_next n w = w ++ (next_word n w ∷ [])

unfoldable pub extended : ℕ → List ℕ → List ℕ
extended zero w = w
extended (suc n) w = with_next n (extended n w)

unfoldable pub schedule : List ℕ → List ℕ
schedule l = extended 48 (words 16 l)

-- 6.2.2, step 3: T1 and T2, one round with the constant k and the word w, and the first n rounds
unfoldable pub temporary1 : State → ℕ → ℕ → ℕ
temporary1 s k w = plus (plus (plus (plus s.h (big_sigma1 s.e)) (choose s.e s.f s.g)) k) w

unfoldable pub temporary2 : State → ℕ
temporary2 s = plus (big_sigma0 s.a) (majority s.a s.b s.c)

unfoldable pub round : ℕ → ℕ → State → State
round k w s =
    record {
      a = plus (temporary1 s k w) (temporary2 s);
      b = s.a;
      c = s.b;
      d = s.c;
      e = plus s.d (temporary1 s k w);
      f = s.e;
      g = s.f;
      h = s.g;
    }

unfoldable pub rounds : ℕ → List ℕ → State → State
rounds zero w s = s
rounds (suc n) w s = round (slice_index constants n) (slice_index w n) (rounds n w s)

-- 6.2.2, step 4; the whole of a block; and the first n blocks of a list
unfoldable pub sum : State → State → State
sum s t =
    record {
      a = plus s.a t.a;
      b = plus s.b t.b;
      c = plus s.c t.c;
      d = plus s.d t.d;
      e = plus s.e t.e;
      f = plus s.f t.f;
      g = plus s.g t.g;
      h = plus s.h t.h;
    }

unfoldable pub compress : State → List ℕ → State
compress s l = sum s (rounds 64 (schedule l) s)

unfoldable pub blocks : ℕ → State → List ℕ → State
blocks zero s l = s
blocks (suc n) s l = compress (blocks n s l) (block n l)

-- the bytes of words, and the digest: the words of the last hash value
unfoldable pub bytes_of_words : List ℕ → List ℕ
bytes_of_words [] = []
bytes_of_words (x ∷ l) = bytes_of 4 x ++ bytes_of_words l

unfoldable pub digest : State → List ℕ
digest s = bytes_of_words (s.a ∷ s.b ∷ s.c ∷ s.d ∷ s.e ∷ s.f ∷ s.g ∷ s.h ∷ [])

unfoldable pub sha256 : List ℕ → List ℕ
sha256 l = digest (blocks (length (padded l) / 64) initial (padded l))
