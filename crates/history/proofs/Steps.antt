-- The laws of one step, over the journal's bytes, for any operations that keep an image good.
use mathlib.Core.Path.{◌≡◌, refl, sym, ap, ◌∙◌}
use mathlib.Core.Bool.{Bool, true, false}
use mathlib.Core.List.{List, []}
use Prim.Native.Nat.{ℕ, suc, ◌*◌}
use native.Mathlib.Omega.{arith}
use lib.Dec.{eqb}
use lib.ListN.{length, replicate}
use borrow.Author.Tests.{eqb-false}
use Rattle.journal.specs.Calls.{Call, operation, begin, commit, rollback, undo, State, Step, Done}
use Rattle.journal.specs.Journal.{Contents, bytes_of, contents_of, room, journal_after}
use Rattle.journal.specs.Changed.{CellsEntered}
use Rattle.journal.specs.Step.{vault, reply, begun, committed, rolled_back, undone, last_undone, outcome, operated, step}
use Rattle.journal.proofs.Written.{sound}
use Rattle.journal.proofs.States.{fresh, fresh_good, fresh_contents, zeros_good, zeros_contents, begun_open, begun-closed, committed_open, committed_closed, rolled_closed, undone_open, undone_closed, begun_rolled, entered_good, entered-undone, entered_rolled}
use Rattle.journal.proofs.Exact.{cells-entered}
use Rattle.journal.proofs.Dispatch.{step_operation, step_begin, step_commit, step_rollback, step_undo}
use Rattle.journal.proofs.Refusals.{view_keeps, step-refused}
use Rattle.history.specs.Owed.{GoodState, OpLaws}
use Rattle.history.proofs.Kept.{ok, Laws}

pub no_zero : {n : ℕ} {A : Type 0} → suc n ≡ 0 → A
no_zero h = absurd (omega arith)

-- ---- what an accepted operation that is no view did
pub data Did (cells : ℕ) (s : State) (d : Done) (x : Step) : Type 0 where
  outside : (contents_of s.journal).opened ≡ false → d.answer.number ≡ 0
      → x ≡ record { answer = d.answer; state = vault d.image s.journal } → Did cells s d x
  inside : (contents_of s.journal).opened ≡ true → d.answer.number ≡ 0 → room cells s.image d.image s.journal ≡ true
      → x ≡ record { answer = d.answer; state = vault d.image (journal_after cells s.image d.image s.journal) } → Did cells s d x

did : (cells : ℕ) (s : State) (d : Done) → (operated cells false s d).answer.number ≡ 0 → Did cells s d (operated cells false s d)
unfolding operated outcome
did cells s d z =
    go (eqb d.answer.number 0) refl (contents_of s.journal).opened refl (room cells s.image d.image s.journal) refl z
  where
    J : List ℕ
    J = journal_after cells s.image d.image s.journal

    go : (a : Bool) → eqb d.answer.number 0 ≡ a → (o : Bool) → (contents_of s.journal).opened ≡ o → (f : Bool) → room cells s.image d.image s.journal ≡ f
        → (outcome a false o f s d J).answer.number ≡ 0 → Did cells s d (outcome a false o f s d J)
    go false ea o eo f ef z = absurd (eqb-false _ _ ea z)
    go true ea false eo f ef z = outside eo z refl
    go true ea true eo false ef z = no_zero z
    go true ea true eo true ef z = inside eo z ef refl

module _ (cells : ℕ) (good_image : List ℕ → Bool) (op : List ℕ → List ℕ → List ℕ → Done) (view : List ℕ → Bool) (H : OpLaws cells good_image op) where
  abbrev St : State → Call → Step
  St = step cells good_image op view

  abbrev G : State → Type 0
  G = GoodState cells good_image

  begins : (s : State) → G s → St s begin ≡ begun s
  begins s g = step_begin cells good_image op view s g.0 g.1

  commits : (s : State) → G s → St s commit ≡ committed s
  commits s g = step_commit cells good_image op view s g.0 g.1

  rolls : (s : State) → G s → St s rollback ≡ rolled_back s
  rolls s g = step_rollback cells good_image op view s g.0 g.1

  undoes : (s : State) → G s → St s undo ≡ undone s
  undoes s g = step_undo cells good_image op view s g.0 g.1

  operates : (s : State) (r e : List ℕ) → G s → St s (operation r e) ≡ operated cells (view r) s (op s.image r e)
  operates s r e g = step_operation cells good_image op view s g.0 g.1 r e

  refused : (s : State) (c : Call) → G s → (ok St s c → ⊥) → (St s c).state ≡ s
  refused s c g = step-refused cells good_image op view s c

  looked : (s : State) (r e : List ℕ) → G s → ok St s (operation r e) → view r ≡ true → (St s (operation r e)).state ≡ s
  looked s r e g o v = rw (operates s r e g, v) (view_keeps cells s (op s.image r e))

  -- ---- begin
  -- where begin is accepted the journal is closed
  begin_closed : (s : State) → G s → ok St s begin → (contents_of s.journal).opened ≡ false
  begin_closed s g o = go (contents_of s.journal).opened refl
    where
      go : (t : Bool) → (contents_of s.journal).opened ≡ t → (contents_of s.journal).opened ≡ false
      go false e = e
      go true e = no_zero (rw (begins s g, begun_open s e) at o)

  begin_is : (s : State) → G s → ok St s begin → St s begin ≡ reply 0 [] (vault s.image (bytes_of (length s.journal) fresh))
  begin_is s g o = begins s g ∙ begun-closed s (begin_closed s g o)

  fresh_state : (s : State) → G s → G (vault s.image (bytes_of (length s.journal) fresh))
  fresh_state s g = (g.0, fresh_good (length s.journal) (sound cells s.journal g.1).long cells)

  begin_good : (s : State) → G s → ok St s begin → G (St s begin).state
  begin_good s g o = rw (begin_is s g o) (fresh_state s g)

  closed_undo : (s : State) → G s → ok St s begin → ok St s undo → ⊥
  closed_undo s g o u = no_zero (rw (undoes s g, undone_closed s (begin_closed s g o)) at u)

  closed_roll : (s : State) → G s → ok St s begin → ok St s rollback → ⊥
  closed_roll s g o u = no_zero (rw (rolls s g, rolled_closed s (begin_closed s g o)) at u)

  begun_undo : (s : State) → G s → ok St s begin → ok St (St s begin).state undo → ⊥
  unfolding last_undone
  begun_undo s g o u =
      let t = vault s.image (bytes_of (length s.journal) fresh) in
      let e = fresh_contents (length s.journal) (sound cells s.journal g.1).long in
      no_zero (rw (begin_is s g o, undoes t (fresh_state s g), undone_open t 0 (ap (λ (p : Contents). p.opened) e) (ap (λ (p : Contents). p.calls) e)) at u)

  begun_roll : (s : State) → G s → ok St s begin → (St (St s begin).state rollback).state ≡ s
  begun_roll s g o =
      let c = begin_closed s g o in
      ap (λ (x : Step). x.state) (rolls (St s begin).state (begin_good s g o))
      ∙ ap (λ (x : Step). (rolled_back x.state).state) (begins s g) ∙ begun_rolled cells s g.1 c

  -- ---- commit
  -- where commit is accepted the journal is open
  commit_open : (s : State) → G s → ok St s commit → (contents_of s.journal).opened ≡ true
  commit_open s g o = go (contents_of s.journal).opened refl
    where
      go : (t : Bool) → (contents_of s.journal).opened ≡ t → (contents_of s.journal).opened ≡ true
      go true e = e
      go false e = no_zero (rw (commits s g, committed_closed s e) at o)

  commit_is : (s : State) → G s → ok St s commit → St s commit ≡ reply 0 [] (vault s.image (replicate (length s.journal) 0))
  commit_is s g o = commits s g ∙ committed_open s (commit_open s g o)

  closed_state : (s : State) → G s → G (vault s.image (replicate (length s.journal) 0))
  closed_state s g = (g.0, zeros_good (length s.journal) (sound cells s.journal g.1).long cells)

  commit_good : (s : State) → G s → ok St s commit → G (St s commit).state
  commit_good s g o = rw (commit_is s g o) (closed_state s g)

  -- begin is accepted on a closed journal
  pub closed_begin : (s : State) → G s → (contents_of s.journal).opened ≡ false → ok St s begin
  closed_begin s g c = rw (begins s g, begun-closed s c)

  commit_closes : (s : State) → G s → ok St s commit → ok St (St s commit).state begin
  commit_closes s g o =
      rw (commit_is s g o)
      (closed_begin (vault s.image (replicate (length s.journal) 0)) (closed_state s g)
      (ap (λ (p : Contents). p.opened) (zeros_contents (length s.journal) (sound cells s.journal g.1).long)))

  -- ---- an accepted operation
  pub does : (s : State) (r e : List ℕ) → G s → ok St s (operation r e) → view r ≡ false → Did cells s (op s.image r e) (St s (operation r e))
  does s r e g o v =
      let is : St s (operation r e) ≡ operated cells false s (op s.image r e) = operates s r e g ∙ ap (λ (b : Bool). operated cells b s (op s.image r e)) v in
      rw is (did cells s (op s.image r e) (rw is at o))

  abbrev in_state : State → List ℕ → List ℕ → State
  in_state s r e = vault (op s.image r e).image (journal_after cells s.image (op s.image r e).image s.journal)

  long_after : (s : State) (r e : List ℕ) → G s → (op s.image r e).answer.number ≡ 0 → length (op s.image r e).image ≡ 16 * cells
  long_after s r e g z = H.as_long _ (H.keeps s.image r e g.0 z)

  in_good : (s : State) (r e : List ℕ) → G s → (op s.image r e).answer.number ≡ 0
      → room cells s.image (op s.image r e).image s.journal ≡ true → G (in_state s r e)
  in_good s r e g z f = (
    H.keeps s.image r e g.0 z,
    entered_good cells s.image (op s.image r e).image s.journal g.1 (H.as_long s.image g.0) (long_after s r e g z) f,
  )

  op_good : (s : State) (r e : List ℕ) → G s → ok St s (operation r e) → G (St s (operation r e)).state
  op_good s r e g o = go (view r) refl
    where
      from : Did cells s (op s.image r e) (St s (operation r e)) → G (St s (operation r e)).state
      from (outside c z x) = rw x (H.keeps s.image r e g.0 z, g.1)
      from (inside c z f x) = rw x (in_good s r e g z f)

      go : (t : Bool) → view r ≡ t → G (St s (operation r e)).state
      go true v = rw (looked s r e g o v) g
      go false v = from (does s r e g o v)

  -- the cells that it enters in an open transaction
  pub enters : (s : State) (r e : List ℕ) → G s → ok St s (operation r e) → view r ≡ false → (contents_of s.journal).opened ≡ true
      → CellsEntered cells s (St s (operation r e)).state
  enters s r e g o v p = go (does s r e g o v)
    where
      go : Did cells s (op s.image r e) (St s (operation r e)) → CellsEntered cells s (St s (operation r e)).state
      go (outside c z x) = absurd (let w : ◌≡◌ {A = ℕ} 0 1 = cc in omega arith)
      go (inside c z f x) =
          rw x
          (cells-entered cells s.image (op s.image r e).image s.journal g.1 (H.as_long s.image g.0) (long_after s r e g z) f)

  undone-op : (s : State) (r e : List ℕ) → G s → ok St s (operation r e) → view r ≡ false
      → ok St (St s (operation r e)).state undo → (St (St s (operation r e)).state undo).state ≡ s
  undone-op s r e g o v u = go (does s r e g o v)
    where
      go : Did cells s (op s.image r e) (St s (operation r e)) → (St (St s (operation r e)).state undo).state ≡ s
      go (outside c z x) =
          let t = vault (op s.image r e).image s.journal in
          no_zero (rw (x, undoes t (H.keeps s.image r e g.0 z, g.1), undone_closed t c) at u)
      go (inside c z f x) =
          rw (
            x,
            undoes (in_state s r e) (in_good s r e g z f),
            entered-undone cells s.image (op s.image r e).image s.journal g.1 (H.as_long s.image g.0) (long_after s r e g z) f c,
          )

  rolled_op : (s : State) (r e : List ℕ) → G s → ok St s (operation r e) → view r ≡ false
      → ok St (St s (operation r e)).state rollback → St (St s (operation r e)).state rollback ≡ St s rollback
  rolled_op s r e g o v u = go (does s r e g o v)
    where
      go : Did cells s (op s.image r e) (St s (operation r e)) → St (St s (operation r e)).state rollback ≡ St s rollback
      go (outside c z x) =
          let t = vault (op s.image r e).image s.journal in
          no_zero (rw (x, rolls t (H.keeps s.image r e g.0 z, g.1), rolled_closed t c) at u)
      go (inside c z f x) =
          rw (
            x,
            rolls (in_state s r e) (in_good s r e g z f),
            entered_rolled cells s.image (op s.image r e).image s.journal g.1 (H.as_long s.image g.0) (long_after s r e g z) f c,
          )
          (sym (rolls s g))

  pub laws : Laws St view G
  laws =
      record {
        refused = refused;
        looked = looked;
        op_good = op_good;
        begin_good = begin_good;
        commit_good = commit_good;
        begin_image = λ s g o. ap (λ x. x.state.image) (begin_is s g o);
        commit_image = λ s g o. ap (λ x. x.state.image) (commit_is s g o);
        commit_closes = commit_closes;
        closed_undo = closed_undo;
        closed_roll = closed_roll;
        begun_undo = begun_undo;
        begun_roll = begun_roll;
        undone = undone-op;
        rolled = rolled_op;
      }
