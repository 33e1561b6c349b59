-- Previews: their answers, the call that follows, and runs with previews between the calls.
use mathlib.Core.Path.{◌≡◌, refl, sym, ap, ◌∙◌}
use mathlib.Core.Bool.{Bool, true, false, ◌||◌}
use mathlib.Core.List.{List, [], ◌∷◌}
use Prim.Native.Nat.{ℕ, zero, suc}
use native.Mathlib.Omega.{arith}
use borrow.Author.Tests.{eqb-true, ne_eqb}
use lib.Dec.{eqb}
use lib.ListN.{length}
use Rattle.events.specs.Event.{buffer_number}
use Rattle.fields.specs.Logic.{◌and◌}
use Rattle.fields.specs.Rules.{pick}
use Rattle.history.specs.Kept.{note, run, log}
use Rattle.image.specs.Good.{good_image}
use Rattle.image.specs.Layout.{cells}
use Rattle.journal.specs.Calls.{operation, State, Answer, Step, Done}
use Rattle.journal.specs.Journal.{contents_of, good_journal, room, fits}
use Rattle.journal.specs.Step.{vault, reply, blank, outcome, operated}
use Rattle.journal.proofs.Dispatch.{operated_full, operated-refused, step_30, step_31}
use Rattle.token_vault.specs.Demand.{leaves_buffer}
use Rattle.token_vault.specs.Preview.{preview_answer, is_previewed, RefusedPreview, call_at, CallFollows, Request, call, preview, run_requests, calls_of, log_calls, Previews}
use Rattle.token_vault.specs.Public.{closed_journal}
use Rattle.token_vault.specs.Vault.{call_number, op, view, vault_step}
use Rattle.token_vault.proofs.Answered.{call_form, form_buffer, or_right, at_closed, closed-outcome, closed_is, all_answered}
use Rattle.token_vault.proofs.Called.{malformed, own_number, steps}
use Rattle.operations.specs.Operations.{is_own}
use Rattle.operations.proofs.Numbers.{outcome_own}
use Rattle.token_vault.proofs.Accepted.{form_zero}

-- at a closed journal an operation has its own answer
operated_alone : (v : Bool) (l j : List ℕ) (d : Done) → (contents_of j).opened ≡ false → (operated cells v (vault l j) d).answer ≡ d.answer
unfolding operated
operated_alone v l j d o = rw o (ap (λ (x : Step). x.answer) (closed-outcome _ _ _ l j _ d))

-- ---- the answer
module _ (l r e : List ℕ) where
  pub preview_good : good_image l ≡ true → preview_answer l r e ≡ (op l r e).answer
  unfolding preview_answer closed_journal at_closed fits ◌and◌
  preview_good g = ap (λ (x : Step). x.answer) (closed_is l r e 48 refl) ∙ rw g

  pub preview_30 : good_image l ≡ false → preview_answer l r e ≡ record { number = 30; value = 0; count = 0; events = e }
  unfolding preview_answer closed_journal at_closed fits ◌and◌
  preview_30 g = ap (λ (x : Step). x.answer) (closed_is l r e 48 refl) ∙ rw g

  pub preview_malformed : {k : ℕ} → good_image l ≡ true → k ≡ call_number r e → (k ≡ 0 → ⊥) → preview_answer l r e ≡ record { number = k; value = 0; count = 0; events = e }
  preview_malformed g p n = preview_good g ∙ malformed l r e p n

-- ---- its number
-- on a good image: the operation's own, 32 and 33
abbrev is_operation : ℕ → Bool
is_operation n = is_own n || (eqb n 32 || eqb n 33)

operation_number : (l r e : List ℕ) → is_operation (op l r e).answer.number ≡ true
operation_number l r e = go (call_number r e) refl
  where
    go : (k : ℕ) → call_number r e ≡ k → is_operation (op l r e).answer.number ≡ true
    go zero z = rw (own_number l r e z, outcome_own l r (form_zero r e z))
    go (suc k) z =
        let f = rw (z, ne_eqb (suc k) 0 (λ y. omega arith)) at (call_form r e) in
        rw (malformed l r e (sym z) (λ y. omega arith)) (or_right (is_own (suc k)) _ f)

or_between : (a b c : Bool) → a || c ≡ true → a || (b || c) ≡ true
or_between true b c e = refl
or_between false b c e = or_right b c e

numbered : (l r e : List ℕ) → is_previewed (preview_answer l r e).number ≡ true
numbered l r e = go (good_image l) refl
  where
    go : (b : Bool) → good_image l ≡ b → is_previewed (preview_answer l r e).number ≡ true
    go true g = rw (preview_good l r e g) (let n = (op l r e).answer.number in or_between (is_own n) (eqb n 30) (eqb n 32 || eqb n 33) (operation_number l r e))
    go false g = rw (preview_30 l r e g)

not_30 : (n : ℕ) → is_operation n ≡ true → eqb n 30 ≡ false
not_30 n p = go (eqb n 30) refl
  where
    go : (b : Bool) → eqb n 30 ≡ b → b ≡ false
    go true q = let w : false ≡ true = rw (eqb-true n 30 q) at p in absurd (let y : ◌≡◌ {A = ℕ} 0 1 = cc in omega arith)
    go false q = refl

refused : (l r e : List ℕ) → ((preview_answer l r e).number ≡ 0 → ⊥) → RefusedPreview r e (preview_answer l r e)
unfolding preview_answer
refused l r e n =
    let x = all_answered.refused (vault l closed_journal) (operation r e) n in
    record { no_value = x.no_value; no_event = x.no_event; buffer = x.buffer }

-- ---- the call that follows
module _ (s : State) (d : Done) (j : List ℕ) where
  outcome_fits : (a v o : Bool) → (outcome a v o true s d j).answer ≡ d.answer
  unfolding outcome
  outcome_fits false v o = refl
  outcome_fits true true o = refl
  outcome_fits true false true = refl
  outcome_fits true false false = refl

  outcome_viewed : (a o f : Bool) → (outcome a true o f s d j).answer ≡ d.answer
  unfolding outcome
  outcome_viewed false o f = refl
  outcome_viewed true o f = refl

module _ (l j r e : List ℕ) (h : good_journal cells j ≡ true) where
  -- what the image refuses, both refuse
  same_answer : (good_image l ≡ true → (operated cells (view r) (vault l j) (op l r e)).answer ≡ (op l r e).answer) → (call_at l j r e).answer ≡ preview_answer l r e
  unfolding vault_step
  same_answer f = go (good_image l) refl
    where
      go : (b : Bool) → good_image l ≡ b → (vault_step (vault l j) (operation r e)).answer ≡ preview_answer l r e
      go true g = ap (λ (x : Step). x.answer) (steps l j r e g h) ∙ (f g ∙ sym (preview_good l r e g))
      go false g = ap (λ (x : Step). x.answer) (step_30 cells good_image op view (vault l j) (operation r e) g) ∙ sym (preview_30 l r e g)

  closed : (contents_of j).opened ≡ false → (call_at l j r e).answer ≡ preview_answer l r e
  closed o = same_answer (λ g. operated_alone (view r) l j (op l r e) o)

  fitting : (contents_of j).opened ≡ true → room cells l (op l r e).image j ≡ true → (call_at l j r e).answer ≡ preview_answer l r e
  unfolding operated
  fitting o f = same_answer (λ g. rw f (outcome_fits (vault l j) (op l r e) _ _ _ _))

  viewed : view r ≡ true → (call_at l j r e).answer ≡ preview_answer l r e
  unfolding operated
  viewed v = same_answer (λ g. rw v (outcome_viewed (vault l j) (op l r e) _ _ _ _))

  refused_alike : ((preview_answer l r e).number ≡ 0 → ⊥) → (call_at l j r e).answer ≡ preview_answer l r e
  refused_alike n =
      same_answer (λ g. ap (λ (x : Step). x.answer) (operated-refused cells (vault l j) (op l r e) (view r) (λ z. n (ap (λ (a : Answer). a.number) (preview_good l r e g) ∙ z))))

  full : (contents_of j).opened ≡ true → room cells l (op l r e).image j ≡ false → view r ≡ false → (preview_answer l r e).number ≡ 0 → call_at l j r e ≡ reply 34 blank (vault l j)
  full o f v z = go (good_image l) refl
    where
      go : (b : Bool) → good_image l ≡ b → call_at l j r e ≡ reply 34 blank (vault l j)
      go true g =
          steps l j r e g h ∙ (ap (λ (b : Bool). operated cells b (vault l j) (op l r e)) v
          ∙ operated_full cells (vault l j) (op l r e) (sym (ap (λ (a : Answer). a.number) (preview_good l r e g)) ∙ z) o f)
      go false g = absurd (let w : 30 ≡ 0 = sym (ap (λ (a : Answer). a.number) (preview_30 l r e g)) ∙ z in omega arith)

  follows : CallFollows l j r e
  follows = record { closed = closed; fits = fitting; viewed = viewed; refused = refused_alike; full = full }

-- ---- a journal that is not good
bad_journal : (l j r e : List ℕ) → good_journal cells j ≡ false → call_at l j r e ≡ reply (pick (eqb (preview_answer l r e).number 30) 30 31) e (vault l j)
unfolding vault_step
bad_journal l j r e h = go (good_image l) refl
  where
    go : (b : Bool) → good_image l ≡ b → vault_step (vault l j) (operation r e) ≡ reply (pick (eqb (preview_answer l r e).number 30) 30 31) e (vault l j)
    go true g = step_31 cells good_image op view (vault l j) (operation r e) g h ∙ rw (preview_good l r e g, not_30 _ (operation_number l r e))
    go false g = step_30 cells good_image op view (vault l j) (operation r e) g ∙ rw (preview_30 l r e g)

-- ---- the event buffer that a call finds
module _ (r e f : List ℕ) (p : length f ≡ length e) where
  same_form : call_number r f ≡ call_number r e
  unfolding call_number buffer_number
  same_form = rw p

  same_op : (l : List ℕ) → call_number r e ≡ 0 → op l r f ≡ op l r e
  unfolding op
  same_op l z = rw (same_form, z)

  any_buffer : (s : State) → leaves_buffer (vault_step s (operation r e)).answer.number ≡ false → vault_step s (operation r f) ≡ vault_step s (operation r e)
  unfolding vault_step
  any_buffer s n = go (good_image s.image) (good_journal cells s.journal) (call_number r e) refl refl refl
    where
      no : {m : ℕ} → (vault_step s (operation r e)).answer.number ≡ m → leaves_buffer m ≡ true → ⊥
      no q t = let w : true ≡ false = sym t ∙ (ap leaves_buffer (sym q) ∙ n) in let y : ◌≡◌ {A = ℕ} 0 1 = cc in omega arith

      go : (a b : Bool) (k : ℕ) → good_image s.image ≡ a → good_journal cells s.journal ≡ b → call_number r e ≡ k → vault_step s (operation r f) ≡ vault_step s (operation r e)
      go true true zero g h z =
          steps s.image s.journal r f g h ∙ (ap (operated cells (view r) s) (same_op s.image z) ∙ sym (steps s.image s.journal r e g h))
      go true true (suc k) g h z =
          let m = malformed s.image r e (sym z) (λ y. omega arith) in
          let q = steps s.image s.journal r e g h ∙ operated-refused cells s (op s.image r e) (view r) (λ y. let w : suc k ≡ 0 = sym (ap (λ (a : Answer). a.number) m) ∙ y in omega arith) in
          absurd (no (ap (λ (x : Step). x.answer.number) q ∙ ap (λ (a : Answer). a.number) m) (form_buffer k (rw z at (call_form r e))))
      go true false k g h z = absurd (no (ap (λ (x : Step). x.answer.number) (step_31 cells good_image op view s (operation r e) g h)) refl)
      go false b k g h z = absurd (no (ap (λ (x : Step). x.answer.number) (step_30 cells good_image op view s (operation r e) g)) refl)

-- ---- previews between calls
same : (s : State) (xs : List Request) → run_requests s xs ≡ run vault_step s (calls_of xs)
same s [] = refl
same s (call c ∷ xs) = same (vault_step s c).state xs
same s (preview r e ∷ xs) = same s xs

answers : (s : State) (xs : List Request) → log_calls s xs ≡ log vault_step s (calls_of xs)
answers s [] = refl
answers s (call c ∷ xs) = ap (λ ns. note c (vault_step s c).answer ∷ ns) (answers (vault_step s c).state xs)
answers s (preview r e ∷ xs) = answers s xs

pub all_previewed : Previews
all_previewed =
    record {
      numbered = numbered;
      refused = refused;
      follows = follows;
      bad_journal = bad_journal;
      any_buffer = λ s r e f p n. any_buffer r e f p s n;
      between = λ s xs. record { same = same s xs; answers = answers s xs };
    }
