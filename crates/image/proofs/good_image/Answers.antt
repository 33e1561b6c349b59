-- `image::good_image` meets its contract.
use Prim.Native.Nat.{ℕ, ◌<◌}
use mathlib.Core.Path.{sym}
use native.Mathlib.Omega.{arith}
use borrow.Author.Tests.{eq-eqb}
use lib.ListN.{length, get_or}
use Rattle.fields.specs.Logic.{true_and, and_is, and_assoc}
use Rattle.image.specs.Good.{good_image}
use Rattle.fields.specs.Bytes.{bytes_from}
use Rattle.image.proofs.good_image.Goals as goal

pub returns : goal.returns
unfolding good_image
returns c =
    let l = c.args.bytes.now in
    let w = c.in-Ok.ensures.1 in
    let h : (j : ℕ) → get_or l j 0 < 256 = λ j. omega (arith, c.type_inv.bytes j) in
    rw (eq-eqb (length l) 36832 w.long, true_and, bytes_from l h, true_and, sym w.same) (simp (and_is, and_assoc) (cc))
