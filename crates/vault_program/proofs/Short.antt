-- What is answered to a record of another length than 448, and to an image of another length than 36,832.
use mathlib.Core.Path.{◌≡◌, refl, sym}
use mathlib.Core.Bool.{Bool, true, false}
use mathlib.Core.List.{List}
use Prim.Native.Nat.{ℕ}
use lib.IntN.{pos}
use lib.ListN.{length}
use borrow.Author.Tests.{leb-true, ne_eqb}
use Rattle.fields.specs.Bytes.{le}
use Rattle.fields.specs.Logic.{◌and◌, ◌or◌, false_and}
use Rattle.fields.specs.Rules.{pick, stop, chain, or_else}
use Rattle.fields.specs.Same.{same_bytes_of}
use Rattle.amount.specs.Biased.{bias}
use Rattle.answer_line.specs.Decimal.{line}
use Rattle.image.specs.Layout.{cells}
use Rattle.image.specs.Good.{good_image}
use Rattle.record.specs.Form.{form_rules, form_number}
use Rattle.journal.specs.Calls.{Step}
use Rattle.journal.specs.Journal.{entries_bytes, layout, bytes_of, read_entries, contents_of, fits, ordered, valid, good_journal}
use Rattle.journal.specs.Step.{vault, reply, blank, outcome, operated, act, step}
use Rattle.token_vault.specs.Public.{closed_journal}
use Rattle.token_vault.specs.Vault.{call_number, op, vault_step}
use Rattle.vault_program.specs.Program.{answer_line, record_step, signed_at-value}

closed_good : good_journal cells closed_journal ≡ true
unfolding good_journal closed_journal fits valid contents_of bytes_of layout read_entries ordered entries_bytes same_bytes_of le ◌and◌ ◌or◌
closed_good = refl

-- a number with no value and no event, and nothing changed
abbrev pub answered : ℕ → List ℕ → Step
answered number l = reply number blank (vault l closed_journal)

wrong_length : (r e : List ℕ) → (length r ≡ 448 → ⊥) → call_number r e ≡ 32
unfolding call_number form_number chain or_else
wrong_length r e h = rw (sym (stop (form_rules r) 0 h))

module _ (l r : List ℕ) where
  pub bad_image : good_image l ≡ false → record_step l r ≡ answered 30 l
  unfolding record_step vault_step step
  bad_image g = rw g

  refused : good_image l ≡ true → (length r ≡ 448 → ⊥) → record_step l r ≡ answered 32 l
  unfolding record_step vault_step step act op operated outcome
  refused g h = rw (g, closed_good, wrong_length r blank h)

  pub short_record : (length r ≡ 448 → ⊥) → record_step l r ≡ answered (pick (good_image l) 32 30) l
  short_record h = go (good_image l) refl
    where
      go : (b : Bool) → good_image l ≡ b → record_step l r ≡ answered (pick b 32 30) l
      go true g = refused g h
      go false g = bad_image g

  not_good : (length l ≡ 36832 → ⊥) → good_image l ≡ false
  unfolding good_image
  not_good h = rw (ne_eqb (length l) 36832 h, false_and)

  pub short_image : (length l ≡ 36832 → ⊥) → record_step l r ≡ answered 30 l
  short_image h = bad_image (not_good h)

pub answered-line : (number : ℕ) (l : List ℕ) → answer_line (answered number l).answer ≡ line number (pos 0) 0
unfolding answer_line bias
answered-line number l = rw (signed_at-value 0 (leb-true 1 bias refl))
