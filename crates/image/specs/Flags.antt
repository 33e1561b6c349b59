-- The bit of each flag of an image, and the bits of a set of addresses.
use Rattle.std.specs.Prelude.{◌≡◌, refl, Bool, true, false, List, ℕ, ◌^◌, ◌≤◌, ◌<◌, eqb}
use Rattle.std.proofs.Common.{lit<, arith, sym}
use Rattle.std.proofs.Math.Nat.{pow-le-pow_right, div-eq_of_lt}
use Rattle.amount.specs.Biased.{num}
use Rattle.image.specs.Layout.{bit, flags}
use Rattle.image.specs.declared.flag.Flag.{Flag}
use Rattle.image.specs.declared.flag.Flag.TheVariants.{Initialised, Paused, Operator, OperatorLimit, PendingOwner, Migration}

abbrev pub flag_bit : Flag → ℕ
flag_bit Initialised = 0
flag_bit Paused = 1
flag_bit Operator = 2
flag_bit OperatorLimit = 3
flag_bit PendingOwner = 4
flag_bit Migration = 5

pub flag_below : (f : Flag) → flag_bit f < 6
flag_below Initialised = lit< tt
flag_below Paused = lit< tt
flag_below Operator = lit< tt
flag_below OperatorLimit = lit< tt
flag_below PendingOwner = lit< tt
flag_below Migration = lit< tt

-- the flags: bit k, 1 or 0
unfoldable pub flag : ℕ → List ℕ → ℕ
flag k l = bit (flags l) k

-- bit a of a set of addresses, 1 or 0
unfoldable pub in_set : ℕ → ℕ → ℕ
in_set set a = bit set a

-- a set of 64 bits has no bit past them
pub past_set : (set a : ℕ) → set < 2 ^ 64 → 64 ≤ a → 0 ≡ in_set set a
unfolding in_set
past_set set a h p =
    let fits : set < 2 ^ a = omega (arith, pow-le-pow_right {n = 2} (lit< tt) p) in
    sym (rw (div-eq_of_lt fits) refl)

-- a bit that is 1, as a test
pub test_is : (b : Bool) → eqb (num b) 1 ≡ b
test_is true = refl
test_is false = refl
