-- `journal::enter_behind`: the places behind the entries are lent as a part of the journal.
use Prim.Native.Nat.{◌+◌, ◌*◌}
use native.Mathlib.Omega.{arith}
use Rattle.journal.proofs.Entering.{found_counted}
use Rattle.journal.proofs.Stretches.{found_few}
use Rattle.journal.proofs.Written.{good_few}
use Rattle.journal.proofs.enter_behind.Goals as goal

pub overflow_add-result : goal.overflow_add-result
overflow_add-result c =
    let b = good_few c.args.cells c.args.journal.now c.requires.good_open.good in
    let f = found_few c.enter_cells-more.ensures.found in
    omega (arith, c.requires.good_open.numbered)

pub returns : goal.returns
returns c =
    let a = c.args in
    let p = c.requires in
    found_counted a.cells a.old.now a.new.now a.journal.now p.good_open c.enter_cells-more.result a.counts.entries (a.counts.calls + 1) (24 * (a.counts.entries + 1))
    c.enter_cells-more.new.places p.counts_of.1 (omega arith) (omega arith) c.enter_cells-more.ensures.found
