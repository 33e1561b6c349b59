-- A record more is made.
use Rattle.std.proofs.Common.{ℕ, ◌+◌, ◌*◌, ◌-◌, List, ◌++◌, take, drop, ap, ◌∙◌, arith}
use Rattle.trial_records.proofs.Made.{making_more}
use Rattle.trial_records.proofs.make_records.Goals as goal

pub loop-i-preserved : goal.loop-i-preserved
loop-i-preserved c =
    let x = c.args in
    let l = c.loop-i in
    let step = c.make_record-rec.ensures in
    let at = 448 * l.i in
    let k = 448 * l.i + 448 - 448 * l.i in
    rw step.reached
    (making_more x.start x.first x.records.now l.i l.generator.last l.records _ k l.invariant (omega arith)
    (ap (λ (r : List ℕ). take at l.records ++ (r ++ drop k (drop at l.records))) (c.copy_from_slice.ensures.after ∙ step.made)))
