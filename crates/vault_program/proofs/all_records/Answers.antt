-- `all_records` meets its contract. The invariant: the records so far are whole, and the image is the one after them.
use mathlib.Core.Logic.{inl, inr}
use mathlib.Core.Path.{◌≡◌, refl, ap, ◌∙◌}
use Rattle.vault_program.proofs.all_records.Goals.{then-read-lt-LENGTH-via-then-read-lt-LENGTH, then-read-lt-LENGTH-via-else-read-lt-LENGTH+then-is_err}
use native.Mathlib.Omega.{arith}
use Rattle.std.specs.Prelude.{not}
use borrow.Author.Rules.{rules}
use Rattle.vault_program.proofs.Taken.{none_taken, all_taken, no_more, last_taken, one_more}
use Rattle.vault_program.proofs.all_records.Goals as goal

pub loop-taken-init : goal.loop-taken-init
loop-taken-init g c = (none_taken _, refl)

pub returns-then-read-eq0 : goal.returns-then-read-eq0
returns-then-read-eq0 g c = no_more c.loop-taken.invariant.0 c.next_record-read.ensures.answered.0 (omega arith)

pub returns-then-read-lt-LENGTH : goal.returns-then-read-lt-LENGTH
returns-then-read-lt-LENGTH g c =
    last_taken c.loop-taken.invariant.0 c.next_record-read.ensures.answered.0 (omega arith)
    (elim c.then-read-lt-LENGTH.branch [
      | then-read-lt-LENGTH-via-then-read-lt-LENGTH w ↦ inl w.if-read-lt-LENGTH.true
      | then-read-lt-LENGTH-via-else-read-lt-LENGTH+then-is_err w ↦ inr (w.is_err.ensures.negation ∙ ap not w.if-is_err.true)
    ])

pub loop-taken-preserved : goal.loop-taken-preserved
loop-taken-preserved g c = (one_more c.loop-taken.invariant.0 c.next_record-read.ensures.answered.0 (omega arith) (omega arith), search rules)

pub returns : goal.returns
returns g c = let l = c.loop-taken in let all : l.taken ≡ 18446744073709551615 = omega arith in all_taken {m = l.image} (rw all at l.invariant.0) refl
