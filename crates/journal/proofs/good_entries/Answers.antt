-- `journal::good_entries`: what is left of the test is the whole test.
use Rattle.std.proofs.Common.{◌+◌, ◌-◌, ◌*◌, sym, ◌∙◌, length, arith}
use Rattle.fields.specs.Zeros.{zeros_part}
use Rattle.journal.proofs.Chunks.{entry_of}
use Rattle.journal.proofs.Scanned.{turn_unordered, turn_unclear, turn_goes, turn_ends}
use Rattle.journal.proofs.good_entries.Goals as goal

pub returns-then-not-in_order : goal.returns-then-not-in_order
returns-then-not-in_order c =
    let a = c.args in
    let l = c.loop-entry in
    let i = l.entry-index in
    let h = c.read_entry_head-head in
    let e = entry_of 1 (a.counts.entries + 1) i (i + 1) a.journal.now c.as_chunks.ensures.front (omega arith) (omega arith) (omega arith) in
    turn_unordered a.journal.now a.cells a.counts.calls a.counts.entries i l.last l.next h.result.cell h.result.call (omega arith) e h.ensures.cell h.ensures.call (sym c.if-not-in_order.ensures) ∙ l.invariant

pub returns-then-not-are_zero : goal.returns-then-not-are_zero
returns-then-not-are_zero c =
    let a = c.args in
    let l = c.loop-entry in
    let i = l.entry-index in
    let h = c.read_entry_head-head in
    let e = entry_of 1 (a.counts.entries + 1) i (i + 1) a.journal.now c.as_chunks.ensures.front (omega arith) (omega arith) (omega arith) in
    turn_unclear a.journal.now a.cells a.counts.calls a.counts.entries i l.last l.next h.result.cell h.result.call (omega arith) e h.ensures.cell h.ensures.call (sym c.if-not-in_order.ensures) (sym c.if-not-are_zero.ensures) ∙ l.invariant

pub loop-entry-preserved : goal.loop-entry-preserved
loop-entry-preserved c =
    let a = c.args in
    let l = c.loop-entry in
    let i = l.entry-index in
    let h = c.read_entry_head-head in
    let e = entry_of 1 (a.counts.entries + 1) i (i + 1) a.journal.now c.as_chunks.ensures.front (omega arith) (omega arith) (omega arith) in
    rw c.from-next.ensures (turn_goes a.journal.now a.cells a.counts.calls a.counts.entries i l.last l.next h.result.cell h.result.call (omega arith) e h.ensures.cell h.ensures.call (sym c.if-not-in_order.ensures) (sym c.if-not-are_zero.ensures) ∙ l.invariant)

pub returns : goal.returns
returns c =
    let a = c.args in
    let l = c.loop-entry in
    c.are_zero-2.ensures ∙ sym (zeros_part a.journal.now (24 * (a.counts.entries + 1)) (length a.journal.now) (length a.journal.now - 24 * (a.counts.entries + 1)) (omega (arith, c.requires)))
    ∙ turn_ends a.journal.now a.cells a.counts.calls a.counts.entries l.entry-index l.last l.next (omega arith) (omega arith) c.requires ∙ l.invariant
