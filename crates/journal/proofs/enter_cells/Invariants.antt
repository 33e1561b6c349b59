-- `journal::enter_cells`: a walk over the cells, a stretch at a time.
use Prim.Native.Nat.{◌*◌}
use Rattle.journal.proofs.Stretches.{Walked}
use Rattle.journal.proofs.enter_cells.Given as goal

abbrev pub invariant-loop-stretch : goal.invariant-loop-stretch
invariant-loop-stretch l = Walked l.call 0 l.old l.new l.initial.places l.cells (16 * l.stretch) l.n l.places
