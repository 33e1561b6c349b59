-- `all_calls` meets its contract. The invariant: image and journal are those after the calls so far.
use mathlib.Core.Path.{◌≡◌}
use lib.ListN.{length}
use Rattle.journal.specs.Step.{vault}
use Rattle.token_vault_vectors.proofs.Replaying.{Taken}
use Rattle.token_vault_vectors.proofs.all_calls.Given as goal

abbrev pub invariant-loop-taken : goal.invariant-loop-taken
invariant-loop-taken g l = Taken (g.I.Read.remaining l.initial.input) (g.I.Read.remaining l.input) (vault l.initial.image l.initial.journal) (vault l.image l.journal) l.taken × (length l.image ≡ length l.initial.image) × (length l.journal ≡ length l.initial.journal)
