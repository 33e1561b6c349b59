-- Begin, commit, rollback and undo: by their kinds, and that they have no value and no event, whatever they answer.
use mathlib.Core.Path.{◌≡◌, refl}
use mathlib.Core.Bool.{Bool, true, false}
use mathlib.Core.List.{List, []}
use Prim.Native.Nat.{ℕ, zero, suc}
use lib.Dec.{eqb}
use borrow.Author.Tests.{ne_eqb}
use Rattle.fields.specs.Rules.{pick}
use Rattle.image.specs.Layout.{cells}
use Rattle.image.specs.Good.{good_image}
use Rattle.journal.specs.Calls.{Call, State, Step}
use Rattle.journal.specs.Journal.{Entry, contents_of, good_journal}
use Rattle.journal.specs.Step.{reply, lent, begun, committed, rolled_back, last_undone, undone, act, step}
use Rattle.token_vault.specs.Vault.{op, view, vault_step}
use Rattle.vault_vectors.specs.Vectors.{transaction}

pub record Quiet (s : Step) : Type 0 where
  pub no_value : s.answer.value ≡ 0
  pub no_count : s.answer.count ≡ 0
  pub no_events : s.answer.events ≡ []

replied : (n : ℕ) (s : State) → Quiet (reply n [] s)
replied n s = record { no_value = refl; no_count = refl; no_events = refl }

either : (b : Bool) {x y : Step} → Quiet x → Quiet y → Quiet (pick b x y)
either true p q = p
either false p q = q

last : (s : State) (n : ℕ) (es : List Entry) → Quiet (last_undone s n es)
unfolding last_undone
last s zero es = replied _ _
last s (suc n) es = replied _ _

module _ (s : State) where
  guarded : (c : Call) → (e : lent c ≡ []) → Quiet (act cells good_image op view s c) → Quiet (vault_step s c)
  unfolding vault_step step
  guarded c e q = either (good_image s.image) (either (good_journal cells s.journal) q (rw e (replied 31 s))) (rw e (replied 30 s))

  at_begin : Quiet (vault_step s Call.begin)
  unfolding act begun
  at_begin = guarded Call.begin refl (either (contents_of s.journal).opened (replied _ _) (replied _ _))

  at_commit : Quiet (vault_step s Call.commit)
  unfolding act committed
  at_commit = guarded Call.commit refl (either (contents_of s.journal).opened (replied _ _) (replied _ _))

  at_rollback : Quiet (vault_step s Call.rollback)
  unfolding act rolled_back
  at_rollback = guarded Call.rollback refl (either (contents_of s.journal).opened (replied _ _) (replied _ _))

  at_undo : Quiet (vault_step s Call.undo)
  unfolding act undone
  at_undo = guarded Call.undo refl (either (contents_of s.journal).opened (last _ _ _) (replied _ _))

  choice : (b : Bool) (c d : Call) → Quiet (vault_step s c) → Quiet (vault_step s d) → Quiet (vault_step s (pick b c d))
  choice true c d p q = p
  choice false c d p q = q

  pub quiet : (kind : ℕ) → Quiet (vault_step s (transaction kind))
  unfolding transaction
  quiet kind =
      choice (eqb kind 1) Call.begin _ at_begin
      (choice (eqb kind 2) Call.commit _ at_commit (choice (eqb kind 3) Call.rollback Call.undo at_rollback at_undo))

-- ---- kinds
pub is_begin : transaction 1 ≡ Call.begin
unfolding transaction
is_begin = refl

pub is_commit : transaction 2 ≡ Call.commit
unfolding transaction
is_commit = refl

pub is_rollback : transaction 3 ≡ Call.rollback
unfolding transaction
is_rollback = refl

pub is_undo : transaction 4 ≡ Call.undo
unfolding transaction
is_undo = refl

pub other_undone : (kind : ℕ) → (kind ≡ 1 → ⊥) → (kind ≡ 2 → ⊥) → (kind ≡ 3 → ⊥) → transaction 4 ≡ transaction kind
unfolding transaction
other_undone kind a b c = rw (ne_eqb kind 1 a, ne_eqb kind 2 b, ne_eqb kind 3 c) refl
