-- The flags with one of them turned on or off: a table of all 64, checked by computing.
use Rattle.std.specs.Prelude.{◌≡◌, refl, Bool, true, ℕ, ◌<◌, eqb, ltb}
use Rattle.std.proofs.Common.{arith, eqb-true, ne_eqb, ltb-true}
use Rattle.image.specs.Layout.{bit, with_bit, without_bit}
use Rattle.fields.specs.Logic.{◌and◌, ◌or◌, all, and_l, and_r, or_e, all-at}

-- f' is f with flag k at v
pub record Turned (f k f' v : ℕ) : Type 0 where
  pub below : f' < 64
  pub here : bit f' k ≡ v
  pub other : (c : ℕ) → c < 6 → (c ≡ k → ⊥) → bit f' c ≡ bit f c

unfoldable row : ℕ → ℕ → ℕ → ℕ → ℕ → Bool
row f k f' v c = ltb f' 64 and eqb (bit f' k) v and (eqb c k or eqb (bit f' c) (bit f c))

unfoldable table : ℕ → ℕ → Bool
table f k = all (row f k (with_bit f k) 1) 6 and all (row f k (without_bit f k) 0) 6

table_holds : all (λ f. all (table f) 6) 64 ≡ true
unfolding table row all ◌and◌ ◌or◌
table_holds = refl

turned : (f k f' v : ℕ) → all (row f k f' v) 6 ≡ true → Turned f k f' v
unfolding row
turned f k f' v h = record {
  below = ltb-true f' 64 (and_l _ _ (all-at _ 6 0 (omega arith) h));
  here = eqb-true (bit f' k) v (and_l _ _ (and_r _ _ (all-at _ 6 0 (omega arith) h)));
  other = λ c p n. eqb-true (bit f' c) (bit f c) (or_e _ _ (and_r _ _ (and_r _ _ (all-at _ 6 c p h))) (ne_eqb c k n));
}

pub flag_on : (f k : ℕ) → f < 64 → k < 6 → Turned f k (with_bit f k) 1
unfolding table
flag_on f k p q = turned f k (with_bit f k) 1 (and_l _ _ (all-at (table f) 6 k q (all-at _ 64 f p table_holds)))

pub flag_off : (f k : ℕ) → f < 64 → k < 6 → Turned f k (without_bit f k) 0
unfolding table
flag_off f k p q = turned f k (without_bit f k) 0 (and_r _ _ (all-at (table f) 6 k q (all-at _ 64 f p table_holds)))
