-- The comparisons of two amounts are those of their numbers.
use Rattle.std.specs.Prelude.{not, eqb, ◌≡◌, ℕ, ◌<◌, ◌≤◌, Bool, true, false, cond, pos, FitsSigned, int_lt, nat_lt, refl}
use Rattle.std.proofs.Common.{ap, ◌∙◌, sym, add-zero, Less, Equal, Greater, arith, lit<, lt-ltb, le-ltb, ltb-true, ltb-false}
use Rattle.std.specs.Int.{w128}
use Rattle.std.specs.Ordering.{is_lt, is_gt, int_cmp, int_eq}
use Rattle.amount.specs.declared.Amount.{Amount}
use Rattle.amount.specs.Biased.{bias, biased_integer, biased}
use Rattle.std.proofs.lemmas.Bool.{not-false}
use borrow.Author.Tests.{eq-eqb, ne_eqb}
use Rattle.std.proofs.lemmas.Bool.Decides.{Decides-int_eq}
use Rattle.std.proofs.Math.IntN.{sub_ℕ}
use Rattle.amount.specs.Laws.{by_lt, integer-biased, biased_from}
use Rattle.amount.specs.Value.{value, less_value}
pub use Rattle.amount.specs.Value.{less_is}

-- the number of zero
pub biased_zero : biased (record { 0 = pos 0 }) ≡ bias
biased_zero = biased_from 0 ∙ add-zero bias

zero_fits : FitsSigned w128 (pos 0)
zero_fits = record { sfits = lit< tt }

ranked_gt : (m n : ℕ) → is_gt (cond (nat_lt m n) Less (cond (nat_lt n m) Greater Equal)) ≡ nat_lt n m
ranked_gt m n =
    by_lt m n (is_gt (cond (nat_lt m n) Less (cond (nat_lt n m) Greater Equal)) ≡ nat_lt n m)
    (λ h. let k : m ≤ n = omega arith in rw (lt-ltb m n h, le-ltb n m k))
    (λ h. rw (le-ltb m n h) (go (nat_lt n m)))
  where
    go : (t : Bool) → is_gt (cond t Greater Equal) ≡ t
    go true = refl
    go false = refl

module _ (a b : Amount) (f : FitsSigned w128 a.0) (g : FitsSigned w128 b.0) where
  -- what `>` answers
  pub greater_is : is_gt (int_cmp a.0 b.0) ≡ nat_lt (biased b) (biased a)
  unfolding value
  greater_is =
      let p : int_lt a.0 b.0 ≡ nat_lt (biased a) (biased b) = less_value a b f g in
      let q : int_lt b.0 a.0 ≡ nat_lt (biased b) (biased a) = less_value b a g f in
      rw (p, q) (ranked_gt (biased a) (biased b))

module _ (a : Amount) (f : FitsSigned w128 a.0) where
  -- and against zero
  pub less_zero : is_lt (int_cmp a.0 (pos 0)) ≡ nat_lt (biased a) bias
  less_zero = rw (← biased_zero) (less_is a (record { 0 = pos 0 }) f zero_fits)

  pub greater_zero : is_gt (int_cmp a.0 (pos 0)) ≡ nat_lt bias (biased a)
  greater_zero = rw (← biased_zero) (greater_is a (record { 0 = pos 0 }) f zero_fits)

-- t is the answer of a comparison
module _ {t : Bool} (a b : Amount) (f : FitsSigned w128 a.0) (g : FitsSigned w128 b.0) where
  pub lt_true : t ≡ is_lt (int_cmp a.0 b.0) → t ≡ true → biased a < biased b
  lt_true e h = ltb-true (biased a) (biased b) (sym (e ∙ less_is a b f g) ∙ h)

  pub lt_false : t ≡ is_lt (int_cmp a.0 b.0) → t ≡ false → biased b ≤ biased a
  lt_false e h = ltb-false (biased a) (biased b) (sym (e ∙ less_is a b f g) ∙ h)

  pub gt_true : t ≡ is_gt (int_cmp a.0 b.0) → t ≡ true → biased b < biased a
  gt_true e h = ltb-true (biased b) (biased a) (sym (e ∙ greater_is a b f g) ∙ h)

  pub gt_false : t ≡ is_gt (int_cmp a.0 b.0) → t ≡ false → biased a ≤ biased b
  gt_false e h = ltb-false (biased b) (biased a) (sym (e ∙ greater_is a b f g) ∙ h)

  -- `!=`
  pub ne_false : t ≡ not (int_eq a.0 b.0) → t ≡ false → biased a ≡ biased b
  unfolding biased
  ne_false e p = ap biased_integer ((Decides-int_eq a.0 b.0).0 (not-false (int_eq a.0 b.0) (sym e ∙ p)))

  pub ne_true : t ≡ not (int_eq a.0 b.0) → t ≡ true → biased a ≡ biased b → ⊥
  ne_true e p q =
      let same : int_eq a.0 b.0 ≡ true = (Decides-int_eq a.0 b.0).1 (integer-biased a f ∙ ap (λ (n : ℕ). sub_ℕ n bias) q ∙ sym (integer-biased b g)) in
      let z : ◌≡◌ {A = Bool} (not (int_eq a.0 b.0)) true = sym e ∙ p in
      let w : ◌≡◌ {A = Bool} (not true) true = rw same at z in
      let n : ◌≡◌ {A = ℕ} 0 1 = cc in
      omega arith

module _ (a b : Amount) (f : FitsSigned w128 a.0) (g : FitsSigned w128 b.0) where
  -- what `!=` answers
  pub ne_is : not (int_eq a.0 b.0) ≡ not (eqb (biased a) (biased b))
  ne_is = go (not (int_eq a.0 b.0)) refl
    where
      go : (t : Bool) → not (int_eq a.0 b.0) ≡ t → not (int_eq a.0 b.0) ≡ not (eqb (biased a) (biased b))
      go true e = e ∙ sym (ap not (ne_eqb (biased a) (biased b) (ne_true a b f g refl e)))
      go false e = e ∙ sym (ap not (eq-eqb (biased a) (biased b) (ne_false a b f g refl e)))
