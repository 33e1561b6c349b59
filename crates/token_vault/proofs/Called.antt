-- The parts of a call put together: one lemma for each way out of the public functions.
use mathlib.Core.Path.{◌≡◌, refl, sym, ap, ◌∙◌}
use mathlib.Core.Bool.{Bool, true, false, not}
use mathlib.Core.List.{List, []}
use Prim.Native.Nat.{ℕ, zero, suc, ◌+◌}
use native.Mathlib.Nat.{add-zero}
use native.Mathlib.Decide.{ℕ_discrete}
use native.Mathlib.Omega.{arith}
use lib.ListN.{length}
use Rattle.journal.specs.Journal.{contents_of, good_journal, room, journal_after}
use Rattle.journal.specs.Parts.{GoodOver}
use Rattle.journal.specs.Calls.{Call, operation, begin, commit, rollback, undo, Step, Done}
use Rattle.journal.proofs.Dispatch.{operated-refused, operated-view, operated-closed, operated_full, operated-entered, step_30, step_31, step_operation, step_begin, step_commit, step_rollback, step_undo}
use Rattle.std.specs.Prelude.{Result}
use Rattle.std.proofs.Common.{Ok, Err}
use Rattle.refusal.specs.declared.Refusal.{Refusal}
use Rattle.refusal.specs.Numbers.{number_of, code}
use Rattle.refusal.specs.Laws.{some_number, code_passed}
use Rattle.journal.specs.Step.{vault, reply, blank, lent, operated, begun, committed, rolled_back, undone, step}
use Rattle.outcome.specs.Outcome.{Answer, value_of, count_of, Refuses, Does, Views}
use Rattle.events.specs.Event.{event_buffer, buffer_number}
use Rattle.events.specs.Buffer.{buffer_none}
use Rattle.record.specs.Form.{is_view, form_number}
use Rattle.record.specs.Head.{HeadOf, view_is_view, other_is_no_view}
use Rattle.record.specs.declared.Head.{Head}
use Rattle.record.specs.declared.operation.Operation.TheVariants.{View}
use Rattle.record.specs.Record.{operation_of}
use Rattle.image.specs.Layout.{cells}
use Rattle.image.specs.Good.{good_image}
use Rattle.storage.specs.Facts.{facts}
use Rattle.amount.specs.Biased.{bias}
use Rattle.fields.specs.Rules.{pick, verdict, link_at_lem}
use Rattle.operations.specs.Operations.{outcome_of, view_outcome}
use Rattle.operations.specs.Laws.{viewed}
use Rattle.operations.proofs.Silent.{view_silent}
use Rattle.std.specs.Result.{is_err}
use Rattle.token_vault.specs.Public.{JournalIs, Replies, Answers, Tries, state_number, kept_number, kept_image, kept_journal, Keeps}
use Rattle.token_vault.specs.Vault.{call_number, by_number, by_form, op, view, vault_step}

-- ---- bytes
pub blank_is : event_buffer [] ≡ blank
unfolding blank
blank_is = buffer_none

-- ---- 32 and 33
pub form_passed : (r e : List ℕ) {j k : ℕ} → j ≡ form_number r → j ≡ 0 → k ≡ buffer_number e → k ≡ 0 → call_number r e ≡ 0
unfolding call_number
form_passed r e p y q z = sym (link_at_lem _ 2 0 (sym p ∙ y, (sym q ∙ z, tt)) refl)

pub malformed : (l r e : List ℕ) {k : ℕ} → k ≡ call_number r e → (k ≡ 0 → ⊥) → (op l r e).answer ≡ record { number = k; value = 0; count = 0; events = e }
unfolding op
malformed l r e {k} p z = go (call_number r e) refl
  where
    go : (n : ℕ) → call_number r e ≡ n → (by_form n (outcome_of l r) l e).answer ≡ record { number = k; value = 0; count = 0; events = e }
    go zero q = absurd (z (p ∙ q))
    go (suc n) q = rw (p, q)

-- whether it is a view, from the head
pub head_view : (r : List ℕ) (h : Head) (v : _) → HeadOf r h → h.operation ≡ View v → is_view (operation_of r) ≡ true
head_view r h v f e = rw (← f.operation, e) (view_is_view v)

pub head_no_view : (r : List ℕ) (h : Head) → HeadOf r h → ((v : _) → h.operation ≡ View v → ⊥) → is_view (operation_of r) ≡ false
head_no_view r h f n = rw (← f.operation) (other_is_no_view h.operation n)

buffer_passed : (e : List ℕ) → length e ≡ 896 → buffer_number e ≡ 0
unfolding buffer_number verdict
buffer_passed e h = rw h

-- a record of good form and a buffer of its length
pub call_zero : (r e : List ℕ) → form_number r ≡ 0 → length e ≡ 896 → call_number r e ≡ 0
call_zero r e z h = form_passed r e refl z refl (buffer_passed e h)

-- ---- the operation's own number
module _ (l r e : List ℕ) (z : call_number r e ≡ 0) where
  op_is : op l r e ≡ by_number (outcome_of l r).number (outcome_of l r) l
  unfolding op
  op_is = rw z

  -- refused by its own rules
  pub own_refused : {a : Answer} {k : ℕ} {v : List ℕ} → k ≡ (outcome_of l r).number → (k ≡ 0 → ⊥) → (code a ≡ k) × (value_of a ≡ bias) × (count_of a ≡ 0) → v ≡ event_buffer []
      → Answers (op l r e).answer a v
  own_refused {a} {k} {v} p n d w = rw op_is (go (outcome_of l r).number p)
    where
      go : (m : ℕ) → k ≡ m → Answers (by_number m (outcome_of l r) l).answer a v
      go zero q = absurd (n q)
      go (suc m) q = record { numbered = d.0 ∙ q; valued = d.1 ∙ sym (add-zero bias); counted = d.2; written = w ∙ blank_is }

  -- done
  pub own_done : {a : Answer} {v : List ℕ} → (outcome_of l r).number ≡ 0 → code a ≡ (outcome_of l r).number → value_of a ≡ bias + (outcome_of l r).value → count_of a ≡ length (outcome_of l r).events
      → v ≡ event_buffer (outcome_of l r).events → Answers (op l r e).answer a v
  own_done {a} {v} q n x c w = rw (op_is, q) (record { numbered = n ∙ q; valued = x; counted = c; written = w })

  pub own_number : (op l r e).answer.number ≡ (outcome_of l r).number
  own_number = rw op_is (go (outcome_of l r).number)
    where
      go : (m : ℕ) → (by_number m (outcome_of l r) l).answer.number ≡ m
      go zero = refl
      go (suc m) = refl

  pub own_image : (outcome_of l r).number ≡ 0 → (op l r e).image ≡ (outcome_of l r).image
  own_image q = rw (op_is, q)

-- a view's answer
pub looked : (l r e : List ℕ) (h : Head) (v : _) (a : Answer) {w : List ℕ} → form_number r ≡ 0 → length e ≡ 896 → HeadOf r h → h.operation ≡ View v → Views (view_outcome v l h.token.number h.caller.number) a → w ≡ event_buffer []
    → Answers (op l r e).answer a w
looked l r e h v a {w} z b f i d q = go a (rw (viewed l r h v z f i) at d)
  where
    go : (a : Answer) → Views (outcome_of l r) a → Answers (op l r e).answer a w
    go (Err k) d = own_refused l r e (call_zero r e z b) d.numbered (some_number k) (refl, refl, refl) q
    go (Ok m) d =
        let s = view_silent l r (head_view r h v f i) in
        own_done l r e (call_zero r e z b) (sym d.numbered) d.numbered d.valued (d.counted ∙ sym (ap length s)) (q ∙ sym (ap event_buffer s))

-- an operation's, on a copy of the image
module _ (l r e : List ℕ) (f : form_number r ≡ 0) (b : length e ≡ 896) where
  z : call_number r e ≡ 0
  z = call_zero r e f b

  pub tried : (a : Answer) {m v : List ℕ} → is_err a ≡ false → Does (outcome_of l r) a m v → Tries (op l r e) a m v
  tried (Ok x) t d =
      let q = sym d.numbered in
      record { answered = own_done l r e z q d.numbered d.valued d.counted (d.written q); changed = λ y. d.changed q ∙ sym (own_image l r e z q) }
  tried (Err k) t d = absurd (let w : ◌≡◌ {A = ℕ} 0 1 = cc in omega arith)

  pub tried_refused : (a : Answer) {m v w : List ℕ} → is_err a ≡ true → Does (outcome_of l r) a m w → v ≡ event_buffer [] → Tries (op l r e) a m v
  tried_refused (Ok x) t d y = absurd (let w : ◌≡◌ {A = ℕ} 0 1 = cc in omega arith)
  tried_refused (Err k) t d y =
      record { answered = own_refused l r e z d.numbered (some_number k) (refl, refl, refl) y; changed = λ f. absurd (some_number k (d.numbered ∙ (sym (own_number l r e z) ∙ f))) }

-- ---- entering an accepted operation
module _ (l m j : List ℕ) where
  abbrev Entered : ℕ → List ℕ → Type 0
  Entered n y = (n ≡ kept_number l m j) × (y ≡ kept_journal l m j)

  -- the image moves exactly where the number is 0
  pub keeps : {k : ℕ} {x y : List ℕ} → Entered k y → (k ≡ 0 → x ≡ m) → ((k ≡ 0 → ⊥) → x ≡ l) → Keeps l m j k x y
  unfolding kept_number kept_image
  keeps {k} {x} {y} h f g = record { numbered = h.0; changed = go (contents_of j).opened (room cells l m j) refl refl; entered = h.1 }
    where
      go : (o b : Bool) → (contents_of j).opened ≡ o → room cells l m j ≡ b → x ≡ pick (contents_of j).opened (pick (room cells l m j) m l) m
      go true true p q = rw (p, q) (f (h.0 ∙ rw (p, q)))
      go true false p q = rw (p, q) (g (λ z. let w : 34 ≡ 0 = sym (h.0 ∙ rw (p, q)) ∙ z in omega arith))
      go false b p q = rw p (f (h.0 ∙ rw p))

-- ---- the image and the journal after an accepted operation
module _ (l m j : List ℕ) {k : ℕ} {x y : List ℕ} (h : Keeps l m j k x y) (d : Done) (z : d.answer.number ≡ 0) (i : m ≡ d.image) where
  -- no room
  pub kept_full : (k ≡ 0 → ⊥) → (operated cells false (vault l j) d ≡ reply 34 blank (vault l j)) × (k ≡ 34) × (x ≡ l) × (y ≡ j)
  unfolding kept_number kept_image kept_journal
  kept_full n = go (contents_of j).opened (room cells l m j) refl refl
    where
      go : (o b : Bool) → (contents_of j).opened ≡ o → room cells l m j ≡ b → (operated cells false (vault l j) d ≡ reply 34 blank (vault l j)) × (k ≡ 34) × (x ≡ l) × (y ≡ j)
      go true true e f = absurd (n (h.numbered ∙ rw (e, f)))
      go true false e f = (operated_full cells (vault l j) d z e (rw (← i) f), h.numbered ∙ rw (e, f), h.changed ∙ rw (e, f), h.entered ∙ rw (e, f))
      go false b e f = absurd (n (h.numbered ∙ rw e))

  pub kept-done : k ≡ 0 → operated cells false (vault l j) d ≡ record { answer = d.answer; state = vault x y }
  unfolding kept_number kept_image kept_journal
  kept-done n = go (contents_of j).opened (room cells l m j) refl refl
    where
      go : (o b : Bool) → (contents_of j).opened ≡ o → room cells l m j ≡ b → operated cells false (vault l j) d ≡ record { answer = d.answer; state = vault x y }
      go true true e f =
          let xe : x ≡ d.image = h.changed ∙ rw (e, f) i in
          let ye : y ≡ journal_after cells l d.image j = h.entered ∙ rw (e, f) (ap (λ (u : List ℕ). journal_after cells l u j) i) in
          rw (xe, ye) (operated-entered cells (vault l j) d z e (rw (← i) f))
      go true false e f = absurd (let u : k ≡ 34 = h.numbered ∙ rw (e, f) in omega arith)
      go false b e f =
          let xe : x ≡ d.image = h.changed ∙ rw e i in
          let ye : y ≡ j = h.entered ∙ rw e in
          rw (xe, ye) (operated-closed cells (vault l j) d z e)

-- ---- answers
-- an answer that is a number alone
pub stopped : {d : Rattle.journal.specs.Calls.Answer} {a : Answer} {v : List ℕ} (k : ℕ) (e : List ℕ) → d ≡ record { number = k; value = 0; count = 0; events = e }
    → (code a ≡ k) × (value_of a ≡ bias) × (count_of a ≡ 0) → v ≡ e → Answers d a v
stopped k e p d w = rw p (record { numbered = d.0; valued = d.1 ∙ sym (add-zero bias); counted = d.2; written = w })

-- a step whose answer is d and whose state is x and y
pub replies : {s : Step} {d : Rattle.journal.specs.Calls.Answer} {a : Answer} {x y v : List ℕ} → s ≡ record { answer = d; state = vault x y } → Answers d a v → Replies s a v x y
replies p d = rw p (record { numbered = d.numbered; valued = d.valued; counted = d.counted; written = d.written; changed = refl; entered = refl })

-- a call that stops with a number, and changes nothing
pub stops : {s : Step} {a : Answer} {l j v : List ℕ} (k : ℕ) (e : List ℕ) → s ≡ reply k e (vault l j) → (code a ≡ k) × (value_of a ≡ bias) × (count_of a ≡ 0) → v ≡ e → Replies s a v l j
stops k e p d w = replies p (stopped k e refl d w)

-- ---- the steps of this vault: 30 and 31 first
-- what the test of 30 says
pub good_pick : (b : Bool) → ◌≡◌ {A = ℕ} 0 (pick (not b) 30 0) → b ≡ true
good_pick true e = refl
good_pick false e = absurd (omega arith)

pub bad_pick : (b : Bool) (e : Refusal) → number_of e ≡ pick (not b) 30 0 → (b ≡ false) × (number_of e ≡ 30)
bad_pick true e h = absurd (some_number e h)
bad_pick false e h = (refl, h)

module _ (l j : List ℕ) {b : Bool} {k : ℕ} (g : b ≡ good_image l) (p : k ≡ state_number b j) where
  pub good_state : k ≡ 0 → (good_image l ≡ true) × (good_journal cells j ≡ true)
  unfolding state_number
  good_state z = go b (good_journal cells j) refl refl
    where
      go : (x y : Bool) → b ≡ x → good_journal cells j ≡ y → (good_image l ≡ true) × (good_journal cells j ≡ true)
      go true true e f = (sym g ∙ e, f)
      go true false e f = absurd (let w : 31 ≡ 0 = sym (p ∙ rw (e, f)) ∙ z in omega arith)
      go false y e f = absurd (let w : 30 ≡ 0 = sym (p ∙ rw e) ∙ z in omega arith)

  pub bad_state : (c : Call) → (k ≡ 0 → ⊥) → vault_step (vault l j) c ≡ reply k (lent c) (vault l j)
  unfolding vault_step state_number
  bad_state c n = go b (good_journal cells j) refl refl
    where
      go : (x y : Bool) → b ≡ x → good_journal cells j ≡ y → step cells good_image op view (vault l j) c ≡ reply k (lent c) (vault l j)
      go true true e f = absurd (n (p ∙ rw (e, f)))
      go true false e f = let w : k ≡ 31 = p ∙ rw (e, f) in rw w (step_31 cells good_image op view (vault l j) c (sym g ∙ e) f)
      go false y e f = let w : k ≡ 30 = p ∙ rw e in rw w (step_30 cells good_image op view (vault l j) c (sym g ∙ e))

module _ (l j r e : List ℕ) where
  module _ (g : good_image l ≡ true) (h : good_journal cells j ≡ true) where
    pub steps : vault_step (vault l j) (operation r e) ≡ operated cells (view r) (vault l j) (op l r e)
    unfolding vault_step
    steps = step_operation cells good_image op view (vault l j) g h r e

    pub bad_call : {k : ℕ} → k ≡ call_number r e → (k ≡ 0 → ⊥) → vault_step (vault l j) (operation r e) ≡ reply k e (vault l j)
    bad_call {k} p n =
        let m = malformed l r e p n in
        steps ∙ (operated-refused cells (vault l j) (op l r e) (view r) (λ z. n (sym (ap (λ (d : Rattle.journal.specs.Calls.Answer). d.number) m) ∙ z)) ∙ (λ t. record { answer = m t; state = vault l j }))

    pub view_step : is_view (operation_of r) ≡ true → vault_step (vault l j) (operation r e) ≡ record { answer = (op l r e).answer; state = vault l j }
    unfolding view
    view_step v = steps ∙ (ap (λ (b : Bool). operated cells b (vault l j) (op l r e)) v ∙ go (ℕ_discrete (op l r e).answer.number 0))
      where
        go : Dec ((op l r e).answer.number ≡ 0) → operated cells true (vault l j) (op l r e) ≡ record { answer = (op l r e).answer; state = vault l j }
        go (yes z) = operated-view cells (vault l j) (op l r e) z
        go (no n) = operated-refused cells (vault l j) (op l r e) true n

    pub operated_is : is_view (operation_of r) ≡ false → vault_step (vault l j) (operation r e) ≡ operated cells false (vault l j) (op l r e)
    unfolding view
    operated_is v = steps ∙ ap (λ (b : Bool). operated cells b (vault l j) (op l r e)) v

-- ---- begin, commit, rollback and undo
-- at a state that is not good: what `?` passes on
pub state_refused : {T : Type 0} (l j : List ℕ) (c : Call) {b : Bool} (e : Refusal) (r : Result T Refusal) → b ≡ good_image l → number_of e ≡ state_number b j → Refuses r e → JournalIs (vault_step (vault l j) c) (code r) l j
state_refused l j c e r g p f = rw (code_passed e r f, bad_state l j g p c (some_number e)) (record { numbered = refl; changed = refl; entered = refl })

-- from the equation that the journal's functions give
journal_step : {s t : Step} {n : ℕ} {x y : List ℕ} → s ≡ t → reply n [] (vault x y) ≡ t → JournalIs s n x y
journal_step p q =
    let e = q ∙ sym p in
    record { numbered = ap (λ (u : Step). u.answer.number) e; changed = ap (λ (u : Step). u.state.image) e; entered = ap (λ (u : Step). u.state.journal) e }

module _ (l j : List ℕ) {b : Bool} (g : b ≡ good_image l) (z : 0 ≡ state_number b j) where
  pub good_over : GoodOver cells l j
  good_over = let (h, i) = good_state l j g z refl in record { long = (facts l h).long; good = i }

module _ (l j : List ℕ) (g : good_image l ≡ true) (h : good_journal cells j ≡ true) where
  pub vault_begin : vault_step (vault l j) begin ≡ begun (vault l j)
  unfolding vault_step
  vault_begin = step_begin cells good_image op view (vault l j) g h

  vault_commit : vault_step (vault l j) commit ≡ committed (vault l j)
  unfolding vault_step
  vault_commit = step_commit cells good_image op view (vault l j) g h

  vault_rollback : vault_step (vault l j) rollback ≡ rolled_back (vault l j)
  unfolding vault_step
  vault_rollback = step_rollback cells good_image op view (vault l j) g h

  pub vault_undo : vault_step (vault l j) undo ≡ undone (vault l j)
  unfolding vault_step
  vault_undo = step_undo cells good_image op view (vault l j) g h

module _ (l j : List ℕ) {b : Bool} (g : b ≡ good_image l) (z : 0 ≡ state_number b j) {n : ℕ} {x y : List ℕ} where
  pub begun_step : reply n [] (vault x y) ≡ begun (vault l j) → JournalIs (vault_step (vault l j) begin) n x y
  begun_step = let (h, i) = good_state l j g z refl in journal_step (vault_begin l j h i)

  pub committed_step : reply n [] (vault x y) ≡ committed (vault l j) → JournalIs (vault_step (vault l j) commit) n x y
  committed_step = let (h, i) = good_state l j g z refl in journal_step (vault_commit l j h i)

  pub rolled_back_step : reply n [] (vault x y) ≡ rolled_back (vault l j) → JournalIs (vault_step (vault l j) rollback) n x y
  rolled_back_step = let (h, i) = good_state l j g z refl in journal_step (vault_rollback l j h i)

  pub undone_step : reply n [] (vault x y) ≡ undone (vault l j) → JournalIs (vault_step (vault l j) undo) n x y
  undone_step = let (h, i) = good_state l j g z refl in journal_step (vault_undo l j h i)
