-- The hexadecimal digits that the kit's `hex` writes are those of the definition.
use Rattle.std.proofs.Common.{◌≡◌, ℕ, suc, ◌/◌, ◌%◌, ◌<◌, List, [], ◌∷◌, refl, arith, eqb, eqb-true, true, slice_index}
use Rattle.hex.specs.Hex.{lower_digits, encode_with, encode_lower}
use Rattle.fields.specs.Logic.{◌and◌, all, all-at}
use Rattle.answer_line.specs.Hexadecimal.{digit, hexadecimal}

-- each of the sixteen digits, by computing
same_digits : all (λ (k : ℕ). eqb (slice_index lower_digits k) (digit k)) 16 ≡ true
unfolding all ◌and◌ digit
same_digits = refl

digit_is : (d : ℕ) → d < 16 → slice_index lower_digits d ≡ digit d
digit_is d h = eqb-true _ _ (all-at (λ (k : ℕ). eqb (slice_index lower_digits k) (digit k)) 16 d h same_digits)

pub encoded : (l : List ℕ) → ((i : ℕ) → slice_index l i < 256) → encode_lower l ≡ hexadecimal l
unfolding encode_with hexadecimal
encoded [] h = refl
encoded (b ∷ l) h =
    let byte = h 0 in
    rw (digit_is (b / 16) (omega arith), digit_is (b % 16) (omega arith), encoded l (λ i. h (suc i))) refl
