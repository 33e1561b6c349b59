-- `fields::same_bytes` meets its contract.
use Rattle.std.proofs.Common.{length, length-append}
use Rattle.std.proofs.lemmas.Slice.Zip.{zip_turn}
use Rattle.fields.proofs.Loops.{same_none, same_step}
use Rattle.fields.proofs.same_bytes.Goals as goal

pub loop-x-init : goal.loop-x-init
loop-x-init c = same_none c.args.a.now c.args.b.now

pub loop-x-preserved : goal.loop-x-preserved
loop-x-preserved c =
    let l = c.loop-x in
    let t = zip_turn c.args.a.now c.args.b.now l.yielded c.into_iter-x-iterator.result l.x-iterator c.next.new.self c.next.result (cc) (cc) l.yielded_by _ c.in-Some.is c.next.ensures.steps in
    rw (length-append, t.2 0, t.3 0) (same_step c.args.a.now c.args.b.now (length l.yielded) l.difference t.0 t.1 l.invariant)
