-- A refused call changes neither image nor journal, and nor does a view; for any operations.
use mathlib.Core.Path.{◌≡◌, refl}
use mathlib.Core.Bool.{Bool, true, false}
use mathlib.Core.List.{List}
use Prim.Native.Nat.{ℕ, zero, suc}
use lib.Dec.{eqb}
use borrow.Author.Tests.{eqb-true}
use Rattle.fields.specs.Rules.{pick}
use Rattle.journal.specs.Calls.{Call, operation, begin, commit, rollback, undo, State, Step, Done}
use Rattle.journal.specs.Journal.{Entry, contents_of, good_journal}
use Rattle.journal.specs.Step.{begun, committed, rolled_back, undone, last_undone, outcome, operated, act, step}

either : (s : State) (t : Bool) (x y : Step) → ((x.answer.number ≡ 0 → ⊥) → x.state ≡ s) → ((y.answer.number ≡ 0 → ⊥) → y.state ≡ s)
    → ((pick t x y).answer.number ≡ 0 → ⊥) → (pick t x y).state ≡ s
either s true x y f g k = f k
either s false x y f g k = g k

last_refused : (s : State) (n : ℕ) (es : List Entry) → ((last_undone s n es).answer.number ≡ 0 → ⊥) → (last_undone s n es).state ≡ s
unfolding last_undone
last_refused s zero es k = refl
last_refused s (suc n) es k = absurd (k refl)

outcome-refused : (s : State) (d : Done) (j : List ℕ) (a v o f : Bool) → eqb d.answer.number 0 ≡ a
    → ((outcome a v o f s d j).answer.number ≡ 0 → ⊥) → (outcome a v o f s d j).state ≡ s
unfolding outcome
outcome-refused s d j false v o f e h = refl
outcome-refused s d j true true o f e h = refl
outcome-refused s d j true false false f e h = absurd (h (eqb-true _ _ e))
outcome-refused s d j true false true false e h = refl
outcome-refused s d j true false true true e h = absurd (h (eqb-true _ _ e))

outcome-view : (s : State) (d : Done) (j : List ℕ) (a o f : Bool) → (outcome a true o f s d j).state ≡ s
unfolding outcome
outcome-view s d j false o f = refl
outcome-view s d j true o f = refl

pub view_keeps : (cells : ℕ) (s : State) (d : Done) → (operated cells true s d).state ≡ s
unfolding operated
view_keeps cells s d = outcome-view s d _ _ _ _

module _ (cells : ℕ) (good_image : List ℕ → Bool) (op : List ℕ → List ℕ → List ℕ → Done) (view : List ℕ → Bool) where
  act-refused : (s : State) (c : Call) → ((act cells good_image op view s c).answer.number ≡ 0 → ⊥) → (act cells good_image op view s c).state ≡ s
  unfolding act operated begun committed rolled_back undone
  act-refused s (operation r e) = outcome-refused s (op s.image r e) _ _ _ _ _ refl
  act-refused s begin = either s (contents_of s.journal).opened _ _ (λ q. refl) (λ q. absurd (q refl))
  act-refused s commit = either s (contents_of s.journal).opened _ _ (λ q. absurd (q refl)) (λ q. refl)
  act-refused s rollback = either s (contents_of s.journal).opened _ _ (λ q. absurd (q refl)) (λ q. refl)
  act-refused s undo =
      either s (contents_of s.journal).opened _ _ (last_refused s (contents_of s.journal).calls (contents_of s.journal).entries) (λ q. refl)

  pub step-refused : (s : State) (c : Call) → ((step cells good_image op view s c).answer.number ≡ 0 → ⊥) → (step cells good_image op view s c).state ≡ s
  unfolding step
  step-refused s c = either s (good_image s.image) _ _ (either s (good_journal cells s.journal) _ _ (act-refused s c) (λ q. refl)) (λ q. refl)
