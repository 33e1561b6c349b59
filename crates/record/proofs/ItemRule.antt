-- The rule on items, by what is known of the operation, of the item count n and of whether the counted addresses are within bounds.
use mathlib.Core.Path.{◌≡◌}
use mathlib.Core.Bool.{Bool, true, false, not}
use Prim.Native.Nat.{ℕ, ◌≤◌, ◌<◌}
use borrow.Author.Tests.{lt-ltb, le-ltb}
use lib.Dec.{ltb}
use Rattle.fields.specs.Logic.{◌and◌, ◌or◌, true_and, false_and}

module _ (reads : Bool) (n : ℕ) (within : Bool) where
  pub unread : reads ≡ false → reads ≡ reads and (ltb 16 n or not within)
  unread e = rw (e, false_and)

  pub many : reads ≡ true → 16 < n → ltb 16 n ≡ reads and (ltb 16 n or not within)
  unfolding ◌or◌
  many e h = rw (e, true_and, lt-ltb 16 n h)

  pub few : reads ≡ true → n ≤ 16 → not within ≡ reads and (ltb 16 n or not within)
  unfolding ◌or◌
  few e h = rw (e, true_and, le-ltb 16 n h)
