-- Demand 1 holds.
use mathlib.Core.Path.{◌≡◌, refl, sym, ap, ◌∙◌}
use mathlib.Core.Bool.{Bool, true, false, ◌&&◌, ◌||◌}
use mathlib.Core.List.{List, []}
use Prim.Native.Nat.{ℕ, zero, suc, ◌≤◌, ◌<◌}
use native.Mathlib.Omega.{arith}
use borrow.Author.Tests.{eqb-true, ne_eqb, lt-ltb, le-ltb, ltb-true}
use lib.Dec.{eqb, ltb}
use lib.ListN.{replicate}
use Rattle.journal.specs.Calls.{Call, operation, begin, commit, rollback, undo, State, Answer, Step, Done}
use Rattle.journal.specs.Journal.{Contents, Entry, contents_of, good_journal, fits}
use Rattle.journal.specs.Step.{vault, reply, blank, lent, begun, committed, rolled_back, undone, last_undone, outcome, operated, act, step}
use Rattle.journal.proofs.Dispatch.{step_30, step_operation}
use Rattle.journal.proofs.States.{zeros_good, zeros_contents}
use Rattle.events.specs.Event.{buffer_number}
use Rattle.record.specs.Form.{form_number}
use Rattle.image.specs.Layout.{cells}
use Rattle.image.specs.Good.{good_image}
use Rattle.fields.specs.Rules.{pick, verdict_in, chain_in}
use Rattle.token_vault.specs.Vault.{call_number, by_form, op, view, vault_step}
use Rattle.token_vault.specs.Demand.{is_common, leaves_buffer, buffer_after, Refused, SameCall, Demand1}
use Rattle.operations.specs.Operations.{is_own, outcome_of}
use Rattle.operations.proofs.Numbers.{outcome_own}
use Rattle.token_vault.proofs.Accepted.{form_zero}

-- ---- numbers
abbrev is_answer : ℕ → Bool
is_answer n = is_own n || is_common n

-- 0, 32 and 33
abbrev pub is_form : ℕ → Bool
is_form n = eqb n 0 || (eqb n 32 || eqb n 33)

pub call_form : (r e : List ℕ) → is_form (call_number r e) ≡ true
unfolding call_number form_number buffer_number
call_form r e = chain_in is_form _ (verdict_in is_form _ refl, (verdict_in is_form _ refl, refl))

pub form_buffer : (k : ℕ) → is_form (suc k) ≡ true → leaves_buffer (suc k) ≡ true
form_buffer k e = go (eqb (suc k) 32) (eqb (suc k) 33) refl refl (rw (ne_eqb (suc k) 0 (λ z. omega arith)) at e)
  where
    go : (a b : Bool) → eqb (suc k) 32 ≡ a → eqb (suc k) 33 ≡ b → a || b ≡ true → leaves_buffer (suc k) ≡ true
    go true b p q t = rw (eqb-true (suc k) 32 p)
    go false true p q t = rw (eqb-true (suc k) 33 q)
    go false false p q t = let w : ◌≡◌ {A = ℕ} 0 1 = cc in absurd (omega arith)

own_answer : (n : ℕ) → is_own n ≡ true → is_answer n ≡ true
own_answer n e = rw e

own_blanks : (n : ℕ) → is_own n ≡ true → leaves_buffer n ≡ false
own_blanks n e = let h : n < 24 = ltb-true n 24 e in let g : n ≤ 29 = omega arith in rw (le-ltb 29 n g)

pub or_right : (a b : Bool) → b ≡ true → a || b ≡ true
or_right true b e = refl
or_right false b e = e

buffer_common : (n : ℕ) → leaves_buffer n ≡ true → is_answer n ≡ true
buffer_common n e = or_right (is_own n) (is_common n) (go (ltb 29 n) (ltb n 34) refl refl e)
  where
    go : (a b : Bool) → ltb 29 n ≡ a → ltb n 34 ≡ b → a && b ≡ true → is_common n ≡ true
    go true true p q t = let h : n < 34 = ltb-true n 34 q in let g : n < 38 = omega arith in rw (p, lt-ltb n 38 g)
    go true false p q t = let w : ◌≡◌ {A = ℕ} 0 1 = cc in absurd (omega arith)
    go false b p q t = let w : ◌≡◌ {A = ℕ} 0 1 = cc in absurd (omega arith)

-- ---- an operation by its own rules, and 32 and 33
record Declined (r e : List ℕ) (a : Answer) : Type 0 where
  pub answered : is_answer a.number ≡ true
  pub no_value : (a.number ≡ 0 → ⊥) → a.value ≡ 0
  pub no_event : (a.number ≡ 0 → ⊥) → a.count ≡ 0
  pub buffer : (a.number ≡ 0 → ⊥) → a.events ≡ buffer_after a.number (operation r e)

declined : (l r e : List ℕ) → Declined r e (op l r e).answer
unfolding op
declined l r e = go (call_number r e) (outcome_of l r).number refl refl
  where
    go : (k n : ℕ) → call_number r e ≡ k → (outcome_of l r).number ≡ n → Declined r e (by_form (call_number r e) (outcome_of l r) l e).answer
    go zero zero p q = rw (p, q) (record { answered = refl; no_value = λ z. absurd (z refl); no_event = λ z. absurd (z refl); buffer = λ z. absurd (z refl) })
    go zero (suc n) p q =
        let o : is_own (suc n) ≡ true = rw q at (outcome_own l r (form_zero r e p)) in
        rw (p, q) (record { answered = own_answer (suc n) o; no_value = λ z. refl; no_event = λ z. refl; buffer = λ z. rw (own_blanks (suc n) o) })
    go (suc k) n p q =
        let f = form_buffer k (rw p at (call_form r e)) in
        rw p (record { answered = buffer_common (suc k) f; no_value = λ z. refl; no_event = λ z. refl; buffer = λ z. rw f })

-- ---- every call
record Answered (s : State) (c : Call) (x : Step) : Type 0 where
  pub numbered : is_answer x.answer.number ≡ true
  pub refused : (x.answer.number ≡ 0 → ⊥) → Refused s c x

module _ (s : State) (c : Call) where
  either : (t : Bool) (x y : Step) → Answered s c x → Answered s c y → Answered s c (pick t x y)
  either true x y f g = f
  either false x y f g = g

  accepted : (x : Step) → x.answer.number ≡ 0 → Answered s c x
  accepted x z = record { numbered = rw z; refused = λ n. absurd (n z) }

  -- with no value and no event
  stopped : (n : ℕ) (v : List ℕ) → is_answer n ≡ true → v ≡ buffer_after n c → Answered s c (reply n v s)
  stopped n v e w = record { numbered = e; refused = λ z. record { unchanged = refl; no_value = refl; no_event = refl; buffer = w } }

by_outcome : (s : State) (r e j : List ℕ) (d : Done) (a v o f : Bool) → eqb d.answer.number 0 ≡ a → Declined r e d.answer → Answered s (operation r e) (outcome a v o f s d j)
unfolding outcome
by_outcome s r e j d false v o f p y =
    record { numbered = y.answered; refused = λ z. record { unchanged = refl; no_value = y.no_value z; no_event = y.no_event z; buffer = y.buffer z } }
by_outcome s r e j d true true o f p y = accepted s (operation r e) _ (eqb-true _ 0 p)
by_outcome s r e j d true false false f p y = accepted s (operation r e) _ (eqb-true _ 0 p)
by_outcome s r e j d true false true false p y = stopped s (operation r e) 34 blank refl refl
by_outcome s r e j d true false true true p y = accepted s (operation r e) _ (eqb-true _ 0 p)

undoes : (s : State) (n : ℕ) (es : List Entry) → Answered s undo (last_undone s n es)
unfolding last_undone
undoes s zero es = stopped s undo 37 [] refl refl
undoes s (suc n) es = accepted s undo _ refl

acts : (s : State) (c : Call) → Answered s c (act cells good_image op view s c)
unfolding act operated begun committed rolled_back undone
acts s (operation r e) = by_outcome s r e _ (op s.image r e) _ _ _ _ refl (declined s.image r e)
acts s begin = either s begin (contents_of s.journal).opened _ _ (stopped s begin 36 [] refl refl) (accepted s begin _ refl)
acts s commit = either s commit (contents_of s.journal).opened _ _ (accepted s commit _ refl) (stopped s commit 35 [] refl refl)
acts s rollback = either s rollback (contents_of s.journal).opened _ _ (accepted s rollback _ refl) (stopped s rollback 35 [] refl refl)
acts s undo =
    either s undo (contents_of s.journal).opened _ _ (undoes s (contents_of s.journal).calls (contents_of s.journal).entries) (stopped s undo 35 [] refl refl)

lent_30 : (c : Call) → lent c ≡ buffer_after 30 c
lent_30 (operation r e) = refl
lent_30 begin = refl
lent_30 commit = refl
lent_30 rollback = refl
lent_30 undo = refl

lent_31 : (c : Call) → lent c ≡ buffer_after 31 c
lent_31 (operation r e) = refl
lent_31 begin = refl
lent_31 commit = refl
lent_31 rollback = refl
lent_31 undo = refl

answers : (s : State) (c : Call) → Answered s c (vault_step s c)
unfolding vault_step step
answers s c =
    either s c (good_image s.image) _ _
    (either s c (good_journal cells s.journal) _ _ (acts s c) (stopped s c 31 (lent c) refl (lent_31 c)))
    (stopped s c 30 (lent c) refl (lent_30 c))

-- ---- a closed journal
pub closed-outcome : (a v f : Bool) (l z j : List ℕ) (d : Done) → outcome a v false f (vault l z) d j ≡ record { answer = d.answer; state = vault (pick a (pick v l d.image) l) z }
unfolding outcome
closed-outcome false v f l z j d = refl
closed-outcome true true f l z j d = refl
closed-outcome true false f l z j d = refl

module _ (l r e : List ℕ) where
  -- an operation at a closed journal: its answer, and the image that it leaves
  unfoldable pub at_closed : Bool → Answer × List ℕ
  at_closed true = ((op l r e).answer, pick (eqb (op l r e).answer.number 0) (pick (view r) l (op l r e).image) l)
  at_closed false = (record { number = 30; value = 0; count = 0; events = e }, l)

  pub closed_is : (n : ℕ) → fits n ≡ true → vault_step (vault l (replicate n 0)) (operation r e) ≡ record { answer = (at_closed (good_image l)).0; state = vault (at_closed (good_image l)).1 (replicate n 0) }
  unfolding vault_step at_closed operated
  closed_is n f = go (good_image l) refl
    where
      o : (contents_of (replicate n 0)).opened ≡ false
      o = ap (λ (p : Contents). p.opened) (zeros_contents n f)

      go : (b : Bool) → good_image l ≡ b → step cells good_image op view (vault l (replicate n 0)) (operation r e) ≡ record { answer = (at_closed (good_image l)).0; state = vault (at_closed (good_image l)).1 (replicate n 0) }
      go true g =
          step_operation cells good_image op view (vault l (replicate n 0)) g (zeros_good n f cells) r e
          ∙ rw (o, g) (closed-outcome _ _ _ l (replicate n 0) _ (op l r e))
      go false g = rw g (step_30 cells good_image op view (vault l (replicate n 0)) (operation r e) g)

  same_call : (m n : ℕ) → fits m ≡ true → fits n ≡ true → SameCall (vault_step (vault l (replicate m 0)) (operation r e)) (vault_step (vault l (replicate n 0)) (operation r e))
  same_call m n f g =
      record {
        answer = ap (λ (x : Step). x.answer) (closed_is m f) ∙ sym (ap (λ (x : Step). x.answer) (closed_is n g));
        image = ap (λ (x : Step). x.state.image) (closed_is m f) ∙ sym (ap (λ (x : Step). x.state.image) (closed_is n g));
      }

pub all_answered : Demand1
all_answered =
    record {
      numbered = λ s c. (answers s c).numbered;
      refused = λ s c. (answers s c).refused;
      closed = same_call;
      stays_closed = λ l r e n f. ap (λ (x : Step). x.state.journal) (closed_is l r e n f);
    }
