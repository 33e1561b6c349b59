-- An amount compared with 0, as a test of its number.
use Rattle.std.specs.Prelude.{◌≡◌, refl, not, Bool, true, false, eqb, pos, FitsSigned}
use Rattle.std.proofs.Common.{ap, sym, ◌∙◌, lit<, eq-eqb, ne_eqb}
use Rattle.std.specs.Int.{w128}
use Rattle.std.specs.Ordering.{int_eq}
use Rattle.amount.specs.declared.Amount.{Amount}
use Rattle.amount.specs.Biased.{bias, biased}
use Rattle.amount.specs.Order.{biased_zero, ne_true, ne_false}

pub is_zero : (a : Amount) → FitsSigned w128 a.0 → int_eq a.0 (pos 0) ≡ eqb (biased a) bias
is_zero a f = go (int_eq a.0 (pos 0)) refl
  where
    go : (t : Bool) → int_eq a.0 (pos 0) ≡ t → t ≡ eqb (biased a) bias
    go true e = sym (eq-eqb (biased a) bias (ne_false a (record { 0 = pos 0 }) f (record { sfits = lit< tt }) refl (ap not e) ∙ biased_zero))
    go false e = sym (ne_eqb (biased a) bias (λ q. ne_true a (record { 0 = pos 0 }) f (record { sfits = lit< tt }) refl (ap not e) (q ∙ sym biased_zero)))
