-- `journal::enter`: 1,000 calls, too many entries, or all of them written.
use mathlib.Core.Path.{sym, ◌∙◌}
use native.Mathlib.Omega.{arith}
use borrow.Author.Tests.{leb-true}
use Rattle.refusal.specs.Laws.{some_number, code_passed}
use Rattle.journal.proofs.Entering.{enter_calls, enter_full, enter_done}
use Rattle.journal.proofs.enter.Goals as goal

pub returns-in_err-refuse_if : goal.returns-in_err-refuse_if
returns-in_err-refuse_if c =
    let a = c.args in
    let e = code_passed _ _ c.from_residual.ensures in
    enter_calls a.cells a.old.now a.new.now a.journal.now c.requires _ (e ∙ c.in_err-refuse_if.ensures) (λ z. some_number _ (sym e ∙ z)) (λ t. let l = leb-true _ _ t in omega arith)

pub returns-then-entries-len : goal.returns-then-entries-len
returns-then-entries-len c =
    let a = c.args in
    let k = c.enter_behind-entries.auto.journal in
    rw (c.clear_entries.ensures, c.read_counts-counts.ensures.contents.1, k)
    (enter_full a.cells a.old.now a.new.now a.journal.now c.requires c.enter_behind-entries.result c.enter_behind-entries.new.journal c.enter_behind-entries.ensures (omega arith))

pub returns : goal.returns
returns c =
    let a = c.args in
    let k = c.enter_behind-entries.auto.journal in
    rw c.write_counts.ensures
    (enter_done a.cells a.old.now a.new.now a.journal.now c.requires c.enter_behind-entries.result c.read_counts-counts.result.calls c.enter_behind-entries.new.journal c.enter_behind-entries.ensures (omega arith)
    c.read_counts-counts.ensures.contents.0 (grind arith))
