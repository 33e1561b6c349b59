-- `journal::enter_span`: a walk over the cells.
use Rattle.journal.proofs.Stretches.{Walked}
use Rattle.journal.proofs.enter_span.Given as goal

abbrev pub invariant-loop-cell : goal.invariant-loop-cell
invariant-loop-cell g l = Walked l.span.call l.span.first l.old l.new l.initial.places l.span.cells l.cell l.n l.places
