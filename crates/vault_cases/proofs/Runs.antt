-- The answers of the vault to calls on a good image beside a closed journal, from what the operations give by their own rules.
use mathlib.Core.Path.{◌≡◌, refl, sym, ap, ◌∙◌}
use mathlib.Core.Bool.{Bool, true, false}
use mathlib.Core.List.{List, [], ◌∷◌}
use Prim.Native.Nat.{ℕ, zero, suc, ◌+◌, ◌*◌}
use native.Mathlib.Nat.{zero-add, suc-add}
use native.Mathlib.Numerals.{one-add}
use native.Mathlib.Omega.{arith}
use lib.ListN.{length, take, drop, replicate}
use lib.Seq.{drop-drop}
use Rattle.fields.specs.Rules.{pick}
use Rattle.fields.specs.Same.{same_bytes_of, same_refl}
use Rattle.journal.specs.Calls.{Call, State}
use Rattle.journal.specs.Journal.{Contents, contents_of, fits, changed}
use Rattle.journal.specs.Step.{vault, blank, operated}
use Rattle.journal.proofs.States.{zeros_good, zeros_contents}
use Rattle.journal.proofs.Dispatch.{operated-refused, operated-view, operated-closed, step_operation}
use Rattle.image.specs.Layout.{cells}
use Rattle.image.specs.Good.{good_image}
use Rattle.events.specs.Event.{buffer_number}
use Rattle.record.specs.Form.{form_number}
use Rattle.storage.specs.Facts.{Good, test}
use Rattle.operations.specs.Operations.{outcome_of}
use Rattle.token_vault.specs.Vault.{call_number, op, view, vault_step}
use Rattle.token_vault.proofs.Called.{form_passed, own_number, own_image}
use Rattle.operations.proofs.Owed.{outcome_good}
use Rattle.vault_cases.specs.Cases.{shown, done, refused, answers}
use Rattle.vault_cases.specs.Setting.{ask}

-- what the operation of a record is to give on an image by its own rules
pub record Accepts (l r : List ℕ) (value count : ℕ) : Type 0 where
  pub formed : form_number r ≡ 0
  pub changes : view r ≡ false
  pub number : (outcome_of l r).number ≡ 0
  pub value_is : (outcome_of l r).value ≡ value
  pub count_is : length (outcome_of l r).events ≡ count

pub record Refuses (l r : List ℕ) (k : ℕ) : Type 0 where
  pub formed : form_number r ≡ 0
  pub number : (outcome_of l r).number ≡ suc k

-- and a view
pub record Views (l r : List ℕ) (value : ℕ) : Type 0 where
  pub formed : form_number r ≡ 0
  pub looks : view r ≡ true
  pub number : (outcome_of l r).number ≡ 0
  pub value_is : (outcome_of l r).value ≡ value
  pub count_is : length (outcome_of l r).events ≡ 0

buffer_fits : buffer_number blank ≡ 0
unfolding buffer_number blank Rattle.fields.specs.Rules.verdict
buffer_fits = refl

pub passed : (r : List ℕ) → form_number r ≡ 0 → call_number r blank ≡ 0
passed r f = form_passed r blank (sym f) refl (sym buffer_fits) refl

module _ (l r : List ℕ) where
  pub shown-done : form_number r ≡ 0 → (outcome_of l r).number ≡ 0 → shown (op l r blank).answer ≡ done (outcome_of l r).value (length (outcome_of l r).events)
  unfolding op
  shown-done f z = rw (passed r f, z)

  pub shown-refused : {k : ℕ} → form_number r ≡ 0 → (outcome_of l r).number ≡ suc k → shown (op l r blank).answer ≡ refused (suc k)
  unfolding op
  shown-refused f z = rw (passed r f, z)

-- how many of n cells differ, and so how many an operation enters
unfoldable pub differing : ℕ → (old new : List ℕ) → ℕ
differing zero old new = 0
differing (suc n) old new = pick (same_bytes_of (take 16 old) (take 16 new)) 0 1 + differing n (drop 16 old) (drop 16 new)

pub differing-same : (n : ℕ) (l : List ℕ) → differing n l l ≡ 0
unfolding differing
differing-same zero l = refl
differing-same (suc n) l = rw (same_refl (take 16 l), differing-same n (drop 16 l))

-- none differ behind the first m
pub differing_front : (m n : ℕ) (old new : List ℕ) → drop (16 * m) old ≡ drop (16 * m) new → differing (m + n) old new ≡ differing m old new
unfolding differing
differing_front zero n old new e = rw (zero-add, e) (differing-same n new)
differing_front (suc m) n old new e =
    let q : 16 + 16 * m ≡ 16 * suc m = omega arith in
    let f : (l : List ℕ) → drop (16 * m) (drop 16 l) ≡ drop (16 * suc m) l = λ l. drop-drop (16 * m) 16 l ∙ ap (λ (k : ℕ). drop k l) q in
    rw suc-add (ap (λ (k : ℕ). pick (same_bytes_of (take 16 old) (take 16 new)) 0 1 + k) (differing_front m n (drop 16 old) (drop 16 new) (f old ∙ (e ∙ sym (f new)))))

pub length-changed : (call n i : ℕ) (old new : List ℕ) → length (changed call n i old new) ≡ differing n old new
unfolding changed differing
length-changed call zero i old new = refl
length-changed call (suc n) i old new = go (same_bytes_of (take 16 old) (take 16 new)) (length-changed call n (suc i) (drop 16 old) (drop 16 new))
  where
    go : (b : Bool) → length (changed call n (suc i) (drop 16 old) (drop 16 new)) ≡ differing n (drop 16 old) (drop 16 new)
        → length (pick b (changed call n (suc i) (drop 16 old) (drop 16 new)) (record { cell = i; call = call; old = take 16 old } ∷ changed call n (suc i) (drop 16 old) (drop 16 new)))
        ≡ pick b 0 1 + differing n (drop 16 old) (drop 16 new)
    go true e = e ∙ sym (zero-add _)
    go false e = ap suc e ∙ sym (one-add _)

-- the step of an operation on a good image, beside a closed journal of n bytes
module _ (n : ℕ) (f : fits n ≡ true) where
  abbrev pub at : List ℕ → State
  at l = vault l (replicate n 0)

  closed : (contents_of (replicate n 0)).opened ≡ false
  closed = ap (λ (p : Contents). p.opened) (zeros_contents n f)

  module _ (l r : List ℕ) (g : Good l) where
    operates : vault_step (at l) (ask r) ≡ operated cells (view r) (at l) (op l r blank)
    unfolding vault_step
    operates = step_operation cells good_image op view (at l) (test l g) (zeros_good n f cells) r blank

    pub accepted : {v c : ℕ} → Accepts l r v c → vault_step (at l) (ask r) ≡ record { answer = (op l r blank).answer; state = at (outcome_of l r).image }
    accepted a =
        let p = passed r a.formed in
        let z = own_number l r blank p ∙ a.number in
        rw (operates, a.changes, operated-closed cells (at l) (op l r blank) z closed, own_image l r blank p a.number)

    pub declined : {k : ℕ} → Refuses l r k → vault_step (at l) (ask r) ≡ record { answer = (op l r blank).answer; state = at l }
    declined a =
        let z = own_number l r blank (passed r a.formed) ∙ a.number in
        operates ∙ operated-refused cells (at l) (op l r blank) (view r) (λ y. absurd (omega arith))

    -- the answers, from the first call on
    pub accepts : (cs : List Call) {v c : ℕ} {rest : List (ℕ × ℕ × ℕ)} → Accepts l r v c → answers (at (outcome_of l r).image) cs ≡ rest → answers (at l) (ask r ∷ cs) ≡ done v c ∷ rest
    accepts cs a e = rw (accepted a, shown-done l r a.formed a.number, a.value_is, a.count_is, e)

    pub refuses : (cs : List Call) {k : ℕ} {rest : List (ℕ × ℕ × ℕ)} → Refuses l r k → answers (at l) cs ≡ rest → answers (at l) (ask r ∷ cs) ≡ refused (suc k) ∷ rest
    refuses cs a e = rw (declined a, shown-refused l r a.formed a.number, e)

    pub viewed : {v : ℕ} → Views l r v → answers (at l) (ask r ∷ []) ≡ done v 0 ∷ []
    viewed a =
        let z = own_number l r blank (passed r a.formed) ∙ a.number in
        rw (operates, a.looks, operated-view cells (at l) (op l r blank) z, shown-done l r a.formed a.number, a.value_is, a.count_is)

    pub still_good : {v c : ℕ} → Accepts l r v c → Good (outcome_of l r).image
    still_good a = outcome_good l r g a.formed a.number
