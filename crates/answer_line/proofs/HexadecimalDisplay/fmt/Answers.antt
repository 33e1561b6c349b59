-- The digits of a byte follow those of the bytes before it.
use Rattle.std.proofs.Common.{◌≡◌, ℕ, ◌/◌, ◌%◌, List, [], ◌∷◌, ◌++◌, ap, sym, subst, ◌∙◌, refl, rules, false, Option, Some, Ok, take, get_or}
use Rattle.std.specs.Fmt.{styled_digits_output, DisplaysOnOk}
use Rattle.std.proofs.lemmas.Fmt.{hex_byte}
use Rattle.std.proofs.lemmas.List.{take_more}
use Rattle.std.proofs.Output.{has_written_append, has_written_of_eq}
use Rattle.answer_line.specs.Hexadecimal.{hexadecimal, digit}
use Rattle.answer_line.proofs.HexadecimalDisplay.fmt.Goals as goal

hexadecimal-append : (l m : List ℕ) → hexadecimal (l ++ m) ≡ hexadecimal l ++ hexadecimal m
unfolding hexadecimal
hexadecimal-append [] m = refl
hexadecimal-append (b ∷ l) m = ap (λ (x : List ℕ). digit (b / 16) ∷ digit (b % 16) ∷ x) (hexadecimal-append l m)

pub loop-byte-preserved : goal.loop-byte-preserved
unfolding hexadecimal digit
loop-byte-preserved g c = λ plain.
    let l = c.args.self.now.0.now in
    let i = c.loop-byte.byte-index in
    let before = c.loop-byte.invariant plain in
    let text : styled_digits_output c.in_radix.result c.laid_out.result ≡ Some (hexadecimal (get_or l i 0 ∷ [])) = rw (c.in_radix.ensures, c.laid_out.ensures) (ap Some (hex_byte false (get_or l i 0) (search rules))) in
    let written = subst (λ (o : Option (List ℕ)). DisplaysOnOk g.W.Write.write_str_gives c.loop-byte.f (Ok c.in_ok-write.field-0) o c.write.new.self) text c.in_ok-write.ensures.writes before.plain refl in
    has_written_of_eq _ _ _ _ _ (sym (hexadecimal-append (take i l) (get_or l i 0 ∷ [])) ∙ ap hexadecimal (sym (take_more l i 0 (search rules)))) (has_written_append _ _ _ _ _ _ before written)

pub loop-byte-init : goal.loop-byte-init
unfolding hexadecimal
loop-byte-init g c = λ plain. record { wrote = record { parts = []; calls = refl; whole = refl }; plain = plain }

-- a digest's digits, at once
pub returns-in-Ok-clause-writes : goal.returns-in-Ok-clause-writes
returns-in-Ok-clause-writes g c = λ plain ok.
    has_written_of_eq _ _ _ _ _ (c.in-Ok.ensures.cases.0 ∙ c.write_digits.ensures c.if-write_digits.true) (c.write_str.ensures.writes plain ok)
