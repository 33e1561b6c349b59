-- What `all` answers over the numbers below n.
use Rattle.std.specs.Prelude.{◌≡◌, refl, Bool, true, false, ◌&&◌, List, [], ◌∷◌, ◌++◌, ℕ, zero, suc, ◌+◌, ◌-◌}
use Rattle.std.specs.List.{list_all, range_with_len}
use Rattle.std.specs.Fn.{Called}
use Rattle.std.specs.Iterator.{ChecksAll}
use Rattle.std.proofs.Common.{arith, sym, ap, ◌∙◌, add-zero}
use Rattle.std.proofs.iter.Yields.{nat_range_steps}
use Rattle.std.proofs.lemmas.Iterator.{YieldsList-from_range}
use Rattle.std.proofs.lemmas.Iterator.Search.{all_from_yields_List}
use Rattle.std.proofs.lemmas.List.Folds.{list_all-append}
use denote.Param.Members.{Mut}
use Rattle.fields.specs.Logic.{◌and◌, all}

range_more : (n a : ℕ) → range_with_len a (suc n) ≡ range_with_len a n ++ (a + n) ∷ []
range_more zero a = ap (λ (k : ℕ). k ∷ []) (sym (add-zero a))
range_more (suc n) a =
    let q : a + 1 + n ≡ a + suc n = omega arith in
    ap (λ (l : List ℕ). a ∷ l) (range_more n (a + 1) ∙ ap (λ (k : ℕ). range_with_len (a + 1) n ++ k ∷ []) q)

alone_all : (a b : Bool) → a && (b && true) ≡ a and b
unfolding ◌and◌
alone_all true true = refl
alone_all true false = refl
alone_all false b = refl

all_of_range : (p : ℕ → Bool) (n : ℕ) → list_all p (range_with_len 0 n) ≡ all p n
unfolding all
all_of_range p zero = refl
all_of_range p (suc n) =
    let q : 0 + n ≡ n = omega arith in
    ap (list_all p) (range_more n 0) ∙ rw (q, list_all-append p (range_with_len 0 n) (n ∷ []), all_of_range p n) (alone_all (all p n) (p n))

module _ {F : Type 0} {g : Mut F (ℕ × Unit {0}) Bool} {f : F} {r : Bool} {u : _} (p : ℕ → Bool) (n : ℕ) where
  pub all_below : ChecksAll nat_range_steps g (record { start = 0; end = n }) f r u → ((x : ℕ) (b : Bool) (q : F) → Called g f (x, tt) b q → (q ≡ f) × (b ≡ p x)) → r ≡ all p n
  all_below d k = let e : n - 0 ≡ n = omega arith in all_from_yields_List p _ _ _ d (YieldsList-from_range 0 n n refl e) k ∙ all_of_range p n
