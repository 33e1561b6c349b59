-- A list of amounts as chunks of sixteen bytes.
use Rattle.std.specs.Prelude.{◌≡◌, refl, List, [], Bool, ◌&&◌, ℕ, zero, suc, ◌*◌, ◌<◌, ◌≤◌, ltb, take, drop, get_or}
use Rattle.std.proofs.Common.{sym, ap, ◌∙◌, length, add-zero, add-one, le_refl, arith}
use Rattle.std.specs.List.{list_all}
use Rattle.std.specs.Simd.{first_chunks}
use Rattle.std.proofs.lemmas.List.Folds.{list_all_more}
use Rattle.std.proofs.Math.Seq.{take-length}
use Rattle.fields.specs.Chunks.{chunk, le_part}
use Rattle.fields.specs.Logic.{all, and_is}
use Rattle.amount.specs.Biased.{bias, amount_at}
use Rattle.toll_bounds.specs.Bounds.{amount_count, amount_in, are_above}
use Rattle.toll_bounds.specs.Parts.{AmountsOf}

-- the amount that a chunk holds
taken : (l : List ℕ) (at : ℕ) → amount_at (take 16 (drop at l)) 0 ≡ amount_at l at
unfolding amount_at
taken l at = rw (le_part 8 16 at 8 l (omega arith), le_part 8 16 at 0 l (omega arith), add-zero)

pub chunk_amount : (l : List ℕ) (i : ℕ) {n : ℕ} {chunks : List (List ℕ)} → chunks ≡ first_chunks 16 n l → i < n → amount_at (get_or chunks i []) 0 ≡ amount_in l i
chunk_amount l i {n} e h = rw (chunk 16 n i l e h) (taken l (16 * i))

-- all amounts are above 0
module _ (list : List ℕ) (amounts : List (List ℕ)) (w : AmountsOf list amounts) where
  first_above : (n : ℕ) → n ≤ length amounts → list_all (λ x. ltb bias (amount_at x 0)) (take n amounts) ≡ are_above list n
  unfolding are_above all
  first_above zero h = refl
  first_above (suc n) h =
      let p : List ℕ → Bool = λ x. ltb bias (amount_at x 0) in
      let more : list_all p (take (suc n) amounts) ≡ list_all p (take n amounts) && p (get_or amounts n []) = rw add-one at (list_all_more p amounts n [] (omega arith)) in
      more ∙ (ap (λ (b : Bool). b && p (get_or amounts n [])) (first_above n (omega arith)) ∙ (ap (λ (k : ℕ). are_above list n && ltb bias k) (w.each n (omega arith)) ∙ and_is _ _))

  pub all_above : list_all (λ x. ltb bias (amount_at x 0)) amounts ≡ are_above list (amount_count list)
  all_above = ap (list_all (λ x. ltb bias (amount_at x 0))) (sym (take-length amounts)) ∙ (first_above (length amounts) (le_refl (length amounts)) ∙ ap (are_above list) w.count)
