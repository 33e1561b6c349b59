-- `all_records` meets its contract. The invariant: the records so far are whole, and the image is the one after them.
use mathlib.Core.Path.{◌≡◌}
use lib.ListN.{length}
use Rattle.vault_program.proofs.Taken.{Whole}
use Rattle.vault_program.proofs.all_records.Given as goal

abbrev pub invariant-loop-taken : goal.invariant-loop-taken
invariant-loop-taken g l = Whole l.initial.image l.image l.taken × (length l.image ≡ length l.initial.image)
