-- `storage::is_tracked` meets its contract.
use Rattle.std.proofs.Common.{◌≡◌, refl, rules, sym, ap, ◌∙◌, ℕ, zero, suc, ◌≤◌, List, [], Bool, true, false, ◌||◌, eqb, length, take, get_or, add-one, le_refl, arith}
use borrow.Author.Tests.{tests}
use Rattle.std.specs.Int.{w16, from_le_bytes}
use Rattle.std.specs.List.{list_any}
use Rattle.std.proofs.lemmas.List.Folds.{list_any_more}
use Rattle.std.proofs.lemmas.Iterator.{YieldsList-from_slice}
use Rattle.std.proofs.lemmas.Iterator.Search.{any_from_yields_List}
use Rattle.std.proofs.Math.Seq.{take-length}
use Rattle.fields.specs.Logic.{◌or◌}
use Rattle.image.specs.Good.{tracked}
use Rattle.image.specs.Keys.{AreTracked}
use Rattle.storage.proofs.is_tracked.Goals as goal

swapped : (a b : Bool) → (a || b) ≡ b or a
unfolding ◌or◌
swapped true true = refl
swapped true false = refl
swapped false true = refl
swapped false false = refl

abbrev is_key : ℕ → List ℕ → Bool
is_key k x = eqb (from_le_bytes w16 x) k

module _ (l : List ℕ) (ks : List (List ℕ)) (h : AreTracked l ks) (k : ℕ) where
  among : (n : ℕ) → n ≤ length ks → list_any (is_key k) (take n ks) ≡ tracked l n k
  unfolding tracked
  among zero m = refl
  among (suc n) m =
      let more : list_any (is_key k) (take (suc n) ks) ≡ (list_any (is_key k) (take n ks) || is_key k (get_or ks n [])) = rw add-one at (list_any_more (is_key k) ks n [] (omega arith)) in
      more ∙ rw (among n (omega arith), h n (omega arith)) (swapped (tracked l n k) _)

pub returns : goal.returns
returns c =
    let x = c.args in
    let ks = c.in-Some.keys.now in
    any_from_yields_List (is_key x.k) _ _ c.any.result c.any.ensures.ran (YieldsList-from_slice ks cc) (λ y b q r. search (rules, tests))
    ∙ (ap (list_any (is_key x.k)) (sym (take-length ks)) ∙ (among x.img.now ks c.in-Some.ensures.keys x.k (length ks) (le_refl (length ks)) ∙ ap (λ (n : ℕ). tracked x.img.now n x.k) c.in-Some.ensures.count.1))
