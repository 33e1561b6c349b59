-- No refusal has the number 0, and no two have the same number.
use Rattle.std.specs.Prelude.{◌≡◌}
use Rattle.refusal.specs.declared.Refusal.{Refusal}
use Rattle.refusal.specs.Numbers.{number_of}

pub record DistinctNumbers : Type 0 where
  pub some : (e : Refusal) → number_of e ≡ 0 → ⊥
  pub distinct : (e f : Refusal) → number_of e ≡ number_of f → e ≡ f
