-- Which definition a step comes to, and which outcome an operation has.
use mathlib.Core.Path.{◌≡◌}
use mathlib.Core.Bool.{Bool, true, false}
use mathlib.Core.List.{List}
use Prim.Native.Nat.{ℕ}
use borrow.Author.Tests.{eq-eqb, ne_eqb}
use Rattle.journal.specs.Calls.{Call, operation, begin, commit, rollback, undo, State, Done}
use Rattle.journal.specs.Journal.{contents_of, good_journal, room, journal_after}
use Rattle.journal.specs.Step.{vault, reply, blank, lent, begun, committed, rolled_back, undone, outcome, operated, act, step}

-- ---- an operation that gave d
module _ (cells : ℕ) (s : State) (d : Done) where
  pub operated-refused : (view : Bool) → (d.answer.number ≡ 0 → ⊥) → operated cells view s d ≡ record { answer = d.answer; state = s }
  unfolding operated outcome
  operated-refused view n = rw (ne_eqb d.answer.number 0 n)

  pub operated-view : d.answer.number ≡ 0 → operated cells true s d ≡ record { answer = d.answer; state = s }
  unfolding operated outcome
  operated-view e = rw (eq-eqb d.answer.number 0 e)

  pub operated-closed : d.answer.number ≡ 0 → (contents_of s.journal).opened ≡ false
      → operated cells false s d ≡ record { answer = d.answer; state = vault d.image s.journal }
  unfolding operated outcome
  operated-closed e o = rw (eq-eqb d.answer.number 0 e, o)

  pub operated_full : d.answer.number ≡ 0 → (contents_of s.journal).opened ≡ true → room cells s.image d.image s.journal ≡ false
      → operated cells false s d ≡ reply 34 blank s
  unfolding operated outcome
  operated_full e o r = rw (eq-eqb d.answer.number 0 e, o, r)

  pub operated-entered : d.answer.number ≡ 0 → (contents_of s.journal).opened ≡ true → room cells s.image d.image s.journal ≡ true
      → operated cells false s d ≡ record { answer = d.answer; state = vault d.image (journal_after cells s.image d.image s.journal) }
  unfolding operated outcome
  operated-entered e o r = rw (eq-eqb d.answer.number 0 e, o, r)

-- ---- a step
module _ (cells : ℕ) (good_image : List ℕ → Bool) (op : List ℕ → List ℕ → List ℕ → Done) (view : List ℕ → Bool) (s : State) where
  pub step_30 : (c : Call) → good_image s.image ≡ false → step cells good_image op view s c ≡ reply 30 (lent c) s
  unfolding step
  step_30 c g = rw g

  pub step_31 : (c : Call) → good_image s.image ≡ true → good_journal cells s.journal ≡ false → step cells good_image op view s c ≡ reply 31 (lent c) s
  unfolding step
  step_31 c g h = rw (g, h)

  module _ (g : good_image s.image ≡ true) (h : good_journal cells s.journal ≡ true) where
    pub step_operation : (r e : List ℕ) → step cells good_image op view s (operation r e) ≡ operated cells (view r) s (op s.image r e)
    unfolding step act
    step_operation r e = rw (g, h)

    pub step_begin : step cells good_image op view s begin ≡ begun s
    unfolding step act
    step_begin = rw (g, h)

    pub step_commit : step cells good_image op view s commit ≡ committed s
    unfolding step act
    step_commit = rw (g, h)

    pub step_rollback : step cells good_image op view s rollback ≡ rolled_back s
    unfolding step act
    step_rollback = rw (g, h)

    pub step_undo : step cells good_image op view s undo ≡ undone s
    unfolding step act
    step_undo = rw (g, h)
