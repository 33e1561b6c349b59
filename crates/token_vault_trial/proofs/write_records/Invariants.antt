-- What is written is as many as were made of the records that were asked for.
use Rattle.std.proofs.Common.{◌≡◌, ◌+◌, ◌-◌, min}
use Rattle.std.specs.Io.KnownBytes.{Appends}
use Rattle.trial_records.specs.Trial.{records_from, reached_from}
use Rattle.token_vault_trial.proofs.write_records.Given as goal

abbrev pub invariant-loop-made : goal.invariant-loop-made
invariant-loop-made g l =
    let done = min l.made l.asked.left in
    (l.rest.last ≡ reached_from l.asked.last done)
    × (l.rest.next ≡ l.asked.next + done)
    × (l.rest.left + done ≡ l.asked.left)
    × Appends (g.O.Write.contents l.initial.output) (g.O.Write.contents l.output) (records_from l.asked.last l.asked.next done)

abbrev pub decreases-loop-made : goal.decreases-loop-made
decreases-loop-made g l = l.asked.left - l.made
