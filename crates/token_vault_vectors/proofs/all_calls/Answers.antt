-- The invariant: image and journal are those after the calls so far.
use Rattle.std.proofs.Common.{refl, rules, arith}
use mathlib.Core.Logic.{inr}
use Rattle.token_vault_vectors.proofs.Replaying.{none_taken, one_more, stopped, ended}
use Rattle.token_vault_vectors.specs.Numbers.{some_number}
use Rattle.token_vault_vectors.proofs.all_calls.Goals as goal

pub loop-taken-init : goal.loop-taken-init
loop-taken-init g c = (none_taken _ _, refl, refl)

pub returns-in-Err-Faulty : goal.returns-in-Err-Faulty
returns-in-Err-Faulty g c =
    let w = c.in-Err-Faulty in
    stopped c.loop-taken.invariant.0 w.ensures (rw w.field-0-is refl) (some_number _) (omega arith)

pub returns-in-Err-Unwritten : goal.returns-in-Err-Unwritten
returns-in-Err-Unwritten g c =
    let w = c.in-Err-Unwritten in
    ended (one_more c.loop-taken.invariant.0 w.ensures (rw w.field-0-is refl)) (omega arith) (inr (inr (refl, refl)))

pub loop-taken-preserved : goal.loop-taken-preserved
loop-taken-preserved g c = (one_more c.loop-taken.invariant.0 c.in-Ok.ensures refl, search rules, search rules)
