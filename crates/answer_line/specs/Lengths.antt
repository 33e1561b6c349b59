-- How long the text of an answer is at most, and that of bytes in hexadecimal digits: a number has no more digits than the bound that it is below.
use Rattle.std.specs.Prelude.{List, [], ◌∷◌, ℕ, zero, suc, ◌+◌, ◌*◌, ◌/◌, ◌%◌, ◌^◌, ◌<◌, ◌≤◌, ◌≡◌, refl, ℤ, pos, negsuc, length}
use Rattle.std.proofs.Common.{FitsSigned, length-append, arith}
use Rattle.std.specs.Int.{w128}
use Rattle.answer_line.specs.Decimal.{digits_in, decimal, signed, answer_text, value_text, events_text, answer_words, line}
use Rattle.answer_line.specs.Hexadecimal.{hexadecimal}

digits_length : (j k q d : ℕ) → q < 10 ^ j → length (digits_in k q d) ≤ suc j
unfolding digits_in
digits_length j zero q d h = omega arith
digits_length j (suc k) zero d h = omega arith
digits_length zero (suc k) (suc q) d h = absurd (omega arith)
digits_length (suc j) (suc k) (suc q) d h =
    let shorter = digits_length j k (suc q / 10) (suc q % 10) (omega arith) in
    rw length-append (omega arith)

pub decimal_length : (j n : ℕ) → n < 10 ^ suc j → length (decimal n) ≤ suc j
unfolding decimal
decimal_length j n h = digits_length j n (n / 10) (n % 10) (omega arith)

-- 2 ^ 127 has 39 digits
pub signed_length : (z : ℤ) → FitsSigned w128 z → length (signed z) ≤ 40
unfolding signed
signed_length (pos n) f = let h = f.sfits in let l = decimal_length 38 n (omega arith) in omega arith
signed_length (negsuc n) f = let h = f.sfits in let l = decimal_length 38 (suc n) (omega arith) in omega arith

pub answer_words_length : (number : ℕ) (value : ℤ) (events : ℕ) (t : List ℕ) → number < 2 ^ 32 → FitsSigned w128 value → events < 2 ^ 32
    → length (answer_words number value events t) ≤ 82 + length t
unfolding answer_words answer_text value_text events_text
answer_words_length number value events t h f k =
    let a = decimal_length 9 number (omega arith) in
    let b = signed_length value f in
    let c = decimal_length 9 events (omega arith) in
    simp (length-append) (omega arith)

-- with its line feed
pub line_length : (number : ℕ) (value : ℤ) (events : ℕ) → number < 2 ^ 32 → FitsSigned w128 value → events < 2 ^ 32 → length (line number value events) ≤ 83
unfolding line
line_length number value events h f k = answer_words_length number value events (10 ∷ []) h f k

pub hexadecimal_length : (l : List ℕ) → length (hexadecimal l) ≡ 2 * length l
unfolding hexadecimal
hexadecimal_length [] = refl
hexadecimal_length (b ∷ l) = let rest = hexadecimal_length l in omega arith
