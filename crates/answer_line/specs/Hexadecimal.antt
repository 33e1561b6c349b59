-- Bytes in hexadecimal digits (ASCII, lower case), two a byte.
use Rattle.std.specs.Prelude.{◌≡◌, refl, List, [], ◌∷◌, ℕ, ◌+◌, ◌/◌, ◌%◌, ltb}
use Rattle.fields.specs.Rules.{pick}

unfoldable pub digit : ℕ → ℕ
digit n = pick (ltb n 10) (48 + n) (87 + n)

unfoldable pub hexadecimal : List ℕ → List ℕ
hexadecimal [] = []
hexadecimal (b ∷ l) = digit (b / 16) ∷ digit (b % 16) ∷ hexadecimal l

-- 0, 9, a, f, and the byte 175
digits : hexadecimal (9 ∷ 175 ∷ []) ≡ 48 ∷ 57 ∷ 97 ∷ 102 ∷ []
unfolding hexadecimal digit
digits = refl
