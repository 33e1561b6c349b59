-- `journal::undo`: the last call's entries put back and zeroed.
use native.Mathlib.Omega.{arith}
use Rattle.journal.proofs.Outcomes.{undo_done}
use Rattle.journal.proofs.undo.Goals as goal

pub returns : goal.returns
returns c =
    let a = c.args in
    let r = c.read_counts-counts in
    rw c.write_counts.ensures
    (undo_done a.cells a.journal.now c.requires.good a.image.now c.put_back.new.image c.clear_entries.new.journal
    r.result.calls r.result.entries c.earlier_entries-left.result
    (grind arith) r.ensures.contents.0 (grind arith)
    r.ensures.contents.1 c.earlier_entries-left.ensures c.put_back.ensures c.clear_entries.ensures)
