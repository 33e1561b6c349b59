-- A byte that is read by its index, as the number at its place.
use Rattle.std.specs.Prelude.{◌≡◌, List, ℕ, slice_index_or}
use native.Mathlib.Omega.{arith}
use Rattle.fields.specs.Bytes.{le}

pub byte_read : (l : List ℕ) (i : ℕ) → slice_index_or l i 0 ≡ le 1 l i
unfolding le
byte_read l i = omega arith
