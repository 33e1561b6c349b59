-- A decimal number: what std's `parse` answers of digits, and what the definition reads of them.
use Rattle.std.proofs.Common.{◌≡◌, ℕ, ◌+◌, ◌*◌, ◌-◌, ◌^◌, ◌<◌, ◌≤◌, Bool, true, false, List, [], ◌∷◌, length, get_or, refl, sym, ap, subst, ◌∙◌, arith, ltb, leb, eqb, Result, Ok, Err, ne_eqb, lt-ltb, le-leb, eq-eqb, ltb-true, leb-true, eqb-true}
use Rattle.std.specs.Int.{IsInRange}
use Rattle.std.specs.Result.{result_ok, OkIff}
use Rattle.std.specs.Str.{IsUtf8}
use Rattle.std.proofs.lemmas.Fmt.{IsAscii-from_digits}
use Rattle.std.specs.Char.{digit_value}
use Rattle.std.specs.Str.Parse.{AllDigits, IsNumeral, digits_value, digits_value_after, ParsesUnsigned}
use Rattle.std.proofs.lemmas.Str.{digit_value_digit, IsUtf8-from_ascii}
use Rattle.std.proofs.lemmas.Str.Parse.{digit_from_value, without_leading_plus_none}
use Rattle.fields.specs.Logic.{◌and◌, ◌or◌, and_l, and_r}
use Rattle.token_vault_trial.specs.Arguments.{malformed, number, is_digit, digits_after, is_ill_begun, read_decimal}
use Rattle.token_vault_trial.specs.Run.{reading_of}

grows : (n : ℕ) (l : List ℕ) → n ≤ digits_value_after 10 n l
grows n [] = omega arith
grows n (c ∷ l) = omega (arith, grows (n * 10 + digit_value c) l)

-- one byte more, by the two tests of the definition
step : (n c : ℕ) (l : List ℕ) (s t : Bool) → is_digit c ≡ s → ltb (10 * n + (c - 48)) (2 ^ 64) ≡ t → (s ≡ true → t ≡ true → digits_after (10 * n + (c - 48)) l ≡ malformed) → digits_after n (c ∷ l) ≡ malformed
unfolding digits_after
step n c l false t e f h = rw e refl
step n c l true false e f h = rw (e, f) refl
step n c l true true e f h = rw (e, f) (h refl refl)

are_read : (n : ℕ) (l : List ℕ) → AllDigits 10 l → digits_value_after 10 n l < 2 ^ 64 → digits_after n l ≡ number (digits_value_after 10 n l)
unfolding digits_after is_digit ◌and◌
are_read n [] d h = refl
are_read n (c ∷ l) d h =
    let k = digit_from_value c d.0 in
    let e : 10 * n + (c - 48) ≡ n * 10 + digit_value c = omega (arith, digit_value_digit c k) in
    let g = grows (n * 10 + digit_value c) l in
    rw (le-leb 48 c k.0, le-leb c 57 k.1, e, lt-ltb (n * 10 + digit_value c) (2 ^ 64) (omega arith)) (are_read (n * 10 + digit_value c) l d.1 h)

not_read : (n : ℕ) (l : List ℕ) → n < 2 ^ 64 → (AllDigits 10 l → digits_value_after 10 n l < 2 ^ 64 → ⊥) → digits_after n l ≡ malformed
unfolding is_digit
not_read n [] s h = absurd (h tt s)
not_read n (c ∷ l) s h = step n c l _ _ refl refl λ d t. not_read more l (ltb-true more (2 ^ 64) t) (λ e v. h (digit d, e) (subst (λ (m : ℕ). digits_value_after 10 m l < 2 ^ 64) (omega (arith, digit_value_digit c (ascii d))) v))
  where
    more : ℕ
    more = 10 * n + (c - 48)

    ascii : is_digit c ≡ true → IsInRange 48 57 c
    ascii d = (leb-true 48 c (and_l (leb 48 c) (leb c 57) d), leb-true c 57 (and_r (leb 48 c) (leb c 57) d))

    digit : is_digit c ≡ true → digit_value c < 10
    digit d = omega (arith, digit_value_digit c (ascii d), (ascii d).1)

-- ---- the front of a text
module _ (t : List ℕ) where
  pub empty_text : length t ≡ 0 → read_decimal t ≡ malformed
  unfolding read_decimal is_ill_begun ◌or◌
  empty_text e = rw (eq-eqb (length t) 0 e) refl

  pub zero_in_front : 1 < length t → get_or t 0 0 ≡ 48 → read_decimal t ≡ malformed
  unfolding read_decimal is_ill_begun ◌or◌ ◌and◌
  zero_in_front h e = rw (ne_eqb (length t) 0 (omega arith), lt-ltb 1 (length t) h, eq-eqb (get_or t 0 0) 48 e) refl

  pub well_begun : 0 < length t → (1 < length t → get_or t 0 0 ≡ 48 → ⊥) → read_decimal t ≡ digits_after 0 t
  unfolding read_decimal is_ill_begun ◌or◌ ◌and◌
  well_begun h z = rw (ne_eqb (length t) 0 (omega arith), no_zero (ltb 1 (length t)) (eqb (get_or t 0 0) 48) refl refl) refl
    where
      no_zero : (a b : Bool) → ltb 1 (length t) ≡ a → eqb (get_or t 0 0) 48 ≡ b → a and b ≡ false
      no_zero true true e f = absurd (z (ltb-true 1 (length t) e) (eqb-true (get_or t 0 0) 48 f))
      no_zero true false e f = refl
      no_zero false b e f = refl

signed : (t : List ℕ) → get_or t 0 0 ≡ 43 → (0 < length t) × (digits_after 0 t ≡ malformed)
unfolding digits_after is_digit ◌and◌
signed [] e = absurd (omega arith)
signed (x ∷ l) e = (omega arith, rw e refl)

pub sign_in_front : (t : List ℕ) → get_or t 0 0 ≡ 43 → read_decimal t ≡ malformed
sign_in_front t e = let g = signed t e in well_begun t g.0 (λ _ f. omega arith) ∙ g.1

-- ---- what `parse` answers of a text with no sign
module _ (t : List ℕ) (s : 0 < length t) (z : 1 < length t → get_or t 0 0 ≡ 48 → ⊥) where
  pub no_text : ¬ IsUtf8 t → malformed ≡ read_decimal t
  no_text h = sym (well_begun t s z ∙ not_read 0 t (omega arith) λ d v. h (IsUtf8-from_ascii t (IsAscii-from_digits t d)))

  pub parsed : {E : Type 0} (r : Result ℕ E) → (get_or t 0 0 ≡ 43 → ⊥) → ParsesUnsigned 64 10 t r → reading_of (result_ok r) ≡ read_decimal t
  parsed r p h = answered r (rw (without_leading_plus_none t p) at h) ∙ sym (well_begun t s z)
    where
      answered : {E : Type 0} (r : Result ℕ E) → OkIff r (IsNumeral 10 t × (digits_value 10 t < 2 ^ 64)) (digits_value 10 t) → reading_of (result_ok r) ≡ digits_after 0 t
      answered (Ok x) h = ap number h.1 ∙ sym (are_read 0 t h.0.0.1 h.0.1)
      answered (Err e) h = sym (not_read 0 t (omega arith) λ d v. h ((s, d), v))
