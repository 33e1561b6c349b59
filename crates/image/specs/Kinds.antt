-- The kind of a token by its number, and the number of a kind.
use Rattle.std.specs.Prelude.{◌≡◌, refl, ℕ, zero, suc, ◌≤◌}
use Rattle.std.proofs.Common.{arith}
use Rattle.image.specs.declared.kind.Kind.{Kind}
use Rattle.image.specs.declared.kind.Kind.TheVariants.{Absent, Moving, Frozen}

abbrev pub kind_of : ℕ → Kind
kind_of zero = Absent
kind_of (suc zero) = Moving
kind_of (suc (suc n)) = Frozen

abbrev pub kind_number : Kind → ℕ
kind_number Absent = 0
kind_number Moving = 1
kind_number Frozen = 2

-- a number that is no kind's counts as frozen
pub past_kinds : (n : ℕ) → 3 ≤ n → Frozen ≡ kind_of n
past_kinds zero h = absurd (omega arith)
past_kinds (suc zero) h = absurd (omega arith)
past_kinds (suc (suc n)) h = refl
