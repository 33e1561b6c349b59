-- `==` of two cells is that of their bytes, one by one.
use mathlib.Core.Path.{◌∙◌}
use Rattle.journal.proofs.Stretches.{pointwise_same}
use Rattle.journal.proofs.same_cell.Goals as goal

pub returns : goal.returns
returns c = c.eq.ensures ∙ pointwise_same _ _
