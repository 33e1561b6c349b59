-- A total of sums is the sum of the totals, and so with differences.
use mathlib.Core.Path.{◌≡◌, refl, sym, ap, ◌∙◌}
use mathlib.Core.List.{List, [], ◌∷◌}
use Prim.Native.Nat.{ℕ}
use lib.IntN.{ℤ, neg_ℤ, ◌+ℤ◌, ◌-ℤ◌, neg_ℤ-+ℤ, +ℤ_assoc, +ℤ_comm}
use Rattle.journal.specs.Calls.{Call, operation, begin, commit, rollback, undo, State, Answer, Step}
use Rattle.history.specs.Kept.{total}

across : (a b c d : ℤ) → (a +ℤ b) +ℤ (c +ℤ d) ≡ (a +ℤ c) +ℤ (b +ℤ d)
across a b c d =
    +ℤ_assoc a b (c +ℤ d)
    ∙ ap (λ (z : ℤ). a +ℤ z) (sym (+ℤ_assoc b c d) ∙ ap (λ (z : ℤ). z +ℤ d) (+ℤ_comm b c) ∙ +ℤ_assoc c b d)
    ∙ sym (+ℤ_assoc a c (b +ℤ d))

across_minus : (a b c d : ℤ) → (a -ℤ b) +ℤ (c -ℤ d) ≡ (a +ℤ c) -ℤ (b +ℤ d)
across_minus a b c d = across a (neg_ℤ b) c (neg_ℤ d) ∙ ap (λ (z : ℤ). (a +ℤ c) +ℤ z) (sym (neg_ℤ-+ℤ b d))

module _ (step : State → Call → Step) (f g : List ℕ → List ℕ → Answer → ℤ) where
  pub total-plus : (s : State) (cs : List Call) → total step (λ x r a. f x r a +ℤ g x r a) s cs ≡ total step f s cs +ℤ total step g s cs
  total-plus s [] = refl
  total-plus s (operation r e ∷ cs) =
      let x = step s (operation r e) in
      let d = f s.image r x.answer in
      let k = g s.image r x.answer in
      ap (λ (z : ℤ). (d +ℤ k) +ℤ z) (total-plus x.state cs) ∙ across d k (total step f x.state cs) (total step g x.state cs)
  total-plus s (begin ∷ cs) = total-plus (step s begin).state cs
  total-plus s (commit ∷ cs) = total-plus (step s commit).state cs
  total-plus s (rollback ∷ cs) = total-plus (step s rollback).state cs
  total-plus s (undo ∷ cs) = total-plus (step s undo).state cs

  pub total_minus : (s : State) (cs : List Call) → total step (λ x r a. f x r a -ℤ g x r a) s cs ≡ total step f s cs -ℤ total step g s cs
  total_minus s [] = refl
  total_minus s (operation r e ∷ cs) =
      let x = step s (operation r e) in
      let d = f s.image r x.answer in
      let k = g s.image r x.answer in
      ap (λ (z : ℤ). (d -ℤ k) +ℤ z) (total_minus x.state cs) ∙ across_minus d k (total step f x.state cs) (total step g x.state cs)
  total_minus s (begin ∷ cs) = total_minus (step s begin).state cs
  total_minus s (commit ∷ cs) = total_minus (step s commit).state cs
  total_minus s (rollback ∷ cs) = total_minus (step s rollback).state cs
  total_minus s (undo ∷ cs) = total_minus (step s undo).state cs
