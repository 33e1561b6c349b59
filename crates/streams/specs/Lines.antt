-- What is said of a line that was written, by another name of the line.
use Rattle.std.specs.Prelude.{◌≡◌, Option, Some, Result, IfSome, OnOk}
use Rattle.std.proofs.Common.{List, ℕ, subst}

module _ {T E : Type 0} (r : Result T E) (P : List ℕ → Type 0) where
  -- o is the line, where there is one
  pub known_line : {o : Option (List ℕ)} {l : List ℕ} → o ≡ Some l → OnOk r (IfSome o P) → OnOk r (P l)
  known_line e = subst (λ (o : Option (List ℕ)). OnOk r (IfSome o P)) e

  pub same_line : {l m : List ℕ} → l ≡ m → OnOk r (P l) → OnOk r (P m)
  same_line e = subst (λ (t : List ℕ). OnOk r (P t)) e
