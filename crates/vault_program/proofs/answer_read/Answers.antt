-- `answer_read` meets its contract.
use Rattle.std.proofs.Common.{◌<◌, sym, ◌∙◌, arith, length}
use borrow.Author.Tests.{eqb-true, eqb-false}
use Rattle.std.proofs.KnownBytes.{Appends-nil}
use Rattle.vault_program.proofs.Taken.{text_none, text_all, read_none, read_all}
use Rattle.vault_program.proofs.answer_read.Goals as goal

pub returns-then-is_empty-clause-answered : goal.returns-then-is_empty-clause-answered
returns-then-is_empty-clause-answered g c =
    let e = eqb-true (length c.args.«record».now) 0 (sym c.is_empty.ensures ∙ c.if-is_empty.true) in
    read_none _ _ _ e (text_none _ _ e)

pub returns-then-is_empty-clause-printed : goal.returns-then-is_empty-clause-printed
returns-then-is_empty-clause-printed g c =
    let e = eqb-true (length c.args.«record».now) 0 (sym c.is_empty.ensures ∙ c.if-is_empty.true) in
    rw (text_none c.args.image.now c.args.«record».now e) (Appends-nil _)

pub returns-clause-answered : goal.returns-clause-answered
returns-clause-answered g c =
    let n = eqb-false (length c.args.«record».now) 0 (sym c.is_empty.ensures ∙ c.if-is_empty.false) in
    let h : 0 < length c.args.«record».now = omega arith in
    read_all _ _ h (record { printed = sym (text_all _ _ h); carried = c.print_answer.ensures.carried })
