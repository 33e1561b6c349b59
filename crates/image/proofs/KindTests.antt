-- A token's kind compared with one, as a test of its number.
use Rattle.std.specs.Prelude.{◌≡◌, refl, not, ℕ, zero, suc, eqb, ltb}
use Rattle.std.proofs.Common.{arith, sym, ne_eqb, lt-ltb}
use denote.Enum.Bare.{sameb}
use Rattle.image.specs.contracts.kind.Kind.{the_type}
use Rattle.image.specs.declared.kind.Kind.TheVariants.{Absent}
use Rattle.image.specs.Kinds.{kind_of}

pub is_absent : (n : ℕ) → sameb the_type (kind_of n) Absent ≡ eqb n 0
is_absent zero = refl
is_absent (suc n) = go n
  where
    go : (n : ℕ) → sameb the_type (kind_of (suc n)) Absent ≡ eqb (suc n) 0
    go zero = refl
    go (suc n) = sym (ne_eqb (suc (suc n)) 0 (λ e. absurd (omega arith)))

pub is_present : (n : ℕ) → not (sameb the_type (kind_of n) Absent) ≡ ltb 0 n
is_present zero = refl
is_present (suc n) = rw (is_absent (suc n), ne_eqb (suc n) 0 (λ e. absurd (omega arith))) (sym (lt-ltb 0 (suc n) (omega arith)))
