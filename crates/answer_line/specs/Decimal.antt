-- A number in decimal digits (ASCII, the most significant first), and the line that is printed for an answer.
use Rattle.std.specs.Prelude.{◌≡◌, refl, List, [], ◌∷◌, ◌++◌, ℕ, zero, suc, ◌+◌, ◌/◌, ◌%◌, ◌^◌, ◌<◌, ◌≤◌, ℤ, pos, negsuc}
use Rattle.std.proofs.Common.{ap, append_assoc, append-nil, arith}

-- the digits of q, and d after them, by repeated division; k is how many divisions are left, and q of them are enough
unfoldable pub digits_in : (k q d : ℕ) → List ℕ
digits_in zero q d = (48 + d) ∷ []
digits_in (suc k) zero d = (48 + d) ∷ []
digits_in (suc k) (suc q) d = digits_in k (suc q / 10) (suc q % 10) ++ ((48 + d) ∷ [])

-- no zeros in front, and `0` for 0
unfoldable pub decimal : ℕ → List ℕ
decimal n = digits_in n (n / 10) (n % 10)

-- a minus in front of a number below 0
unfoldable pub signed : ℤ → List ℕ
signed (pos n) = decimal n
signed (negsuc n) = 45 ∷ decimal (suc n)

-- `answer=`, ` value=`, ` events=` and a line feed
unfoldable pub answer_text : List ℕ
answer_text = 97 ∷ 110 ∷ 115 ∷ 119 ∷ 101 ∷ 114 ∷ 61 ∷ []

unfoldable pub value_text : List ℕ
value_text = 32 ∷ 118 ∷ 97 ∷ 108 ∷ 117 ∷ 101 ∷ 61 ∷ []

unfoldable pub events_text : List ℕ
events_text = 32 ∷ 101 ∷ 118 ∷ 101 ∷ 110 ∷ 116 ∷ 115 ∷ 61 ∷ []

-- an answer in words, and t after it
unfoldable pub answer_words : (number : ℕ) (value : ℤ) (events : ℕ) (t : List ℕ) → List ℕ
answer_words number value events t = answer_text ++ (decimal number ++ (value_text ++ (signed value ++ (events_text ++ (decimal events ++ t)))))

unfoldable pub line : (number : ℕ) (value : ℤ) (events : ℕ) → List ℕ
line number value events = answer_words number value events (10 ∷ [])

-- ---- laws
-- any number of divisions from q on gives the same digits
digits_enough : (j k q d : ℕ) → q ≤ j → q ≤ k → digits_in j q d ≡ digits_in k q d
unfolding digits_in
digits_enough zero zero q d g h = refl
digits_enough zero (suc k) zero d g h = refl
digits_enough zero (suc k) (suc q) d g h = absurd (omega arith)
digits_enough (suc j) zero zero d g h = refl
digits_enough (suc j) zero (suc q) d g h = absurd (omega arith)
digits_enough (suc j) (suc k) zero d g h = refl
digits_enough (suc j) (suc k) (suc q) d g h =
    ap (λ (l : List ℕ). l ++ ((48 + d) ∷ [])) (digits_enough j k (suc q / 10) (suc q % 10) (omega arith) (omega arith))

digits_last : (k q d : ℕ) → q ≤ k → 0 < q → digits_in k q d ≡ decimal q ++ ((48 + d) ∷ [])
unfolding digits_in decimal
digits_last zero q d g h = absurd (omega arith)
digits_last (suc k) zero d g h = absurd (omega arith)
digits_last (suc k) (suc q) d g h = ap (λ (l : List ℕ). l ++ ((48 + d) ∷ [])) (digits_enough k (suc q) (suc q / 10) (suc q % 10) (omega arith) (omega arith))

-- one digit; and a digit after those of the tenth
pub decimal_digit : (n : ℕ) → n < 10 → decimal n ≡ (48 + n) ∷ []
unfolding decimal digits_in
decimal_digit n h =
    let e : n / 10 ≡ 0 = omega arith in
    let f : n % 10 ≡ n = omega arith in
    rw (e, f) (digits_enough n (suc n) 0 n (omega arith) (omega arith))

pub decimal_more : (n : ℕ) → 10 ≤ n → decimal n ≡ decimal (n / 10) ++ ((48 + n % 10) ∷ [])
unfolding decimal
decimal_more n h = digits_last n (n / 10) (n % 10) (omega arith) (omega arith)

-- what stands after an answer in words is put after it
pub answer_words-end : (number : ℕ) (value : ℤ) (events : ℕ) (t : List ℕ) → answer_words number value events [] ++ t ≡ answer_words number value events t
unfolding answer_words answer_text value_text events_text
answer_words-end number value events t = simp (append_assoc, append-nil) refl

-- worked examples: 0, 2 ^ 127, -1
none : decimal 0 ≡ 48 ∷ []
unfolding decimal digits_in
none = refl

most : decimal (2 ^ 127) ≡ 49 ∷ 55 ∷ 48 ∷ 49 ∷ 52 ∷ 49 ∷ 49 ∷ 56 ∷ 51 ∷ 52 ∷ 54 ∷ 48 ∷ 52 ∷ 54 ∷ 57 ∷ 50 ∷ 51 ∷ 49 ∷ 55 ∷ 51 ∷ 49 ∷ 54 ∷ 56 ∷ 55 ∷ 51 ∷ 48 ∷ 51 ∷ 55 ∷ 49 ∷ 53 ∷ 56 ∷ 56 ∷ 52 ∷ 49 ∷ 48 ∷ 53 ∷ 55 ∷ 50 ∷ 56 ∷ []
unfolding decimal digits_in
most = refl

minus_one : signed (negsuc 0) ≡ 45 ∷ 49 ∷ []
unfolding signed decimal digits_in
minus_one = refl
