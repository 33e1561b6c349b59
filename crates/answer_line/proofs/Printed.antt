-- The digits that std prints are those of the definitions.
use Rattle.std.proofs.Common.{◌≡◌, ℕ, suc, ◌+◌, ◌%◌, ◌^◌, ◌<◌, ◌++◌, List, [], ◌∷◌, ap, sym, ◌∙◌, arith, ℤ, pos, negsuc, FitsSigned}
use Rattle.std.specs.Int.{w128}
use Rattle.std.specs.Fmt.{decimal as printed, signed_decimal as printed_signed}
use Rattle.std.proofs.lemmas.Fmt.{decimal_by_steps_wide}
use Rattle.answer_line.specs.Decimal.{decimal, signed, decimal_digit, decimal_more}

pub decimal_printed : (n : ℕ) → n < 10 ^ 64 → printed n ≡ decimal n
decimal_printed =
    decimal_by_steps_wide (λ n ds. ds ≡ decimal n) (λ n h. sym (decimal_digit n h))
    (λ n ds h e. ap (λ (l : List ℕ). l ++ ((48 + n % 10) ∷ [])) e ∙ sym (decimal_more n h))

pub signed_printed : (z : ℤ) → FitsSigned w128 z → printed_signed z ≡ signed z
unfolding signed
signed_printed (pos n) f = let h = f.sfits in decimal_printed n (omega arith)
signed_printed (negsuc n) f = let h = f.sfits in ap (λ (l : List ℕ). 45 ∷ l) (decimal_printed (suc n) (omega arith))
