-- i records are made, and the rest of the buffer is as it was.
use Rattle.trial_records.proofs.Made.{Making}
use Rattle.trial_records.proofs.make_records.Given as goal

abbrev pub invariant-loop-i : goal.invariant-loop-i
invariant-loop-i l = Making l.start l.first l.initial.records l.i l.generator.last l.records
