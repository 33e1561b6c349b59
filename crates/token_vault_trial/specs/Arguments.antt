-- The program's arguments: a decimal number, what can be wrong with the arguments, and the line that is said of it (docs/FORMATS.md, "The program of trial records").
use Rattle.std.specs.Prelude.{◌≡◌, refl, Bool, not, List, [], ◌∷◌, ◌++◌, ℕ, ◌+◌, ◌*◌, ◌-◌, ◌^◌, ltb, leb, eqb, length, get_or}
use Prim.Native.String.{String}
use Rattle.fields.specs.Logic.{◌and◌, ◌or◌}
use Rattle.fields.specs.Rules.{pick, Rule, when, verdict, ne, eq, lt, is}
use Rattle.answer_line.specs.Text.{text}

-- ---- a decimal number below 2 ^ 64, in ASCII, without sign or leading zero
pub data Reading : Type 0 where
  malformed : Reading
  number : ℕ → Reading

unfoldable pub is_digit : ℕ → Bool
is_digit b = leb 48 b and leb b 57

-- the digits l, behind others that make n; where b - 48 would be cut off at 0, b is no digit
unfoldable pub digits_after : (n : ℕ) → List ℕ → Reading
digits_after n [] = number n
digits_after n (b ∷ l) =
    let more = 10 * n + (b - 48) in
    pick (is_digit b) (pick (ltb more (2 ^ 64)) (digits_after more l) malformed) malformed

-- no digit at all, or a zero in front of others
unfoldable pub is_ill_begun : List ℕ → Bool
is_ill_begun l = eqb (length l) 0 or (ltb 1 (length l) and eqb (get_or l 0 0) 48)

unfoldable pub read_decimal : List ℕ → Reading
read_decimal l = pick (is_ill_begun l) malformed (digits_after 0 l)

-- ---- what can be wrong, the first that holds: `words` counts the program's own name too
abbrev pub argument_rules : (words : ℕ) → (isStart isFirst isCount : Bool) → (first count : ℕ) → List Rule
argument_rules words isStart isFirst isCount first count =
    when (ne words 4) 1
    ∷ when (is (not isStart)) 2
    ∷ when (is (not isFirst)) 3
    ∷ when (is (not isCount)) 4
    ∷ when (eq first 0) 5
    ∷ when (lt (2 ^ 32) (first + count)) 6
    ∷ []

unfoldable pub argument_fault : (words : ℕ) → (isStart isFirst isCount : Bool) → (first count : ℕ) → ℕ
argument_fault words isStart isFirst isCount first count = verdict (argument_rules words isStart isFirst isCount first count)

-- ---- what is said, by the fault's number
unfoldable pub sentences : List String
sentences =
    ""
    ∷ "1: three arguments are wanted: START, FIRST and COUNT"
    ∷ "2: START is not a decimal number from 0 to 18446744073709551615"
    ∷ "3: FIRST is not a decimal number from 0 to 18446744073709551615"
    ∷ "4: COUNT is not a decimal number from 0 to 18446744073709551615"
    ∷ "5: FIRST is 0: record numbers begin at 1"
    ∷ "6: the last record's number would be above 4294967295"
    ∷ []

unfoldable pub fault_text : ℕ → List ℕ
fault_text fault = text (get_or sentences fault "")

unfoldable pub fault_line : ℕ → List ℕ
fault_line fault = text "token_vault_trial: " ++ (fault_text fault ++ text "\n")

-- ---- worked examples
zero_is_read : read_decimal (text "0") ≡ number 0
unfolding read_decimal is_ill_begun digits_after is_digit ◌and◌ ◌or◌
zero_is_read = refl

most_is_read : read_decimal (text "18446744073709551615") ≡ number 18446744073709551615
unfolding read_decimal is_ill_begun digits_after is_digit ◌and◌ ◌or◌
most_is_read = refl

past_the_most : read_decimal (text "18446744073709551616") ≡ malformed
unfolding read_decimal is_ill_begun digits_after is_digit ◌and◌ ◌or◌
past_the_most = refl

leading_zero : read_decimal (text "01") ≡ malformed
unfolding read_decimal is_ill_begun digits_after is_digit ◌and◌ ◌or◌
leading_zero = refl
