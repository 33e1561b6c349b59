-- What is printed for a call of the vectors, and what the vault carries on to the next call.
use Rattle.std.specs.Prelude.{◌≡◌, List, [], ◌∷◌, ◌++◌, ℕ, ◌+◌, eqb}
use Rattle.fields.specs.Rules.{pick}
use Rattle.amount.specs.Biased.{bias}
use Rattle.events.specs.Splice.{amount_bytes}
use Rattle.answer_line.specs.Decimal.{answer_words}
use Rattle.answer_line.specs.Hexadecimal.{hexadecimal}
use Rattle.amount.specs.Value.{value}
use Rattle.vault_vectors.specs.declared.StepLine.{StepLine}
use Rattle.vault_vectors.specs.declared.Transaction.{Transaction}
use Rattle.vault_vectors.specs.declared.Transaction.TheVariants.{Begin, Commit, Rollback, Undo}
use Rattle.sha256.specs.Sha256.{sha256}
use Rattle.journal.specs.Calls.{Call, Step}
use Rattle.vault_program.specs.Program.{signed_at}

-- ` event_bytes=`, ` image=` and ` journal=`
unfoldable pub event_bytes_text : List ℕ
event_bytes_text = 32 ∷ 101 ∷ 118 ∷ 101 ∷ 110 ∷ 116 ∷ 95 ∷ 98 ∷ 121 ∷ 116 ∷ 101 ∷ 115 ∷ 61 ∷ []

unfoldable pub image_text : List ℕ
image_text = 32 ∷ 105 ∷ 109 ∷ 97 ∷ 103 ∷ 101 ∷ 61 ∷ []

unfoldable pub journal_text : List ℕ
journal_text = 32 ∷ 106 ∷ 111 ∷ 117 ∷ 114 ∷ 110 ∷ 97 ∷ 108 ∷ 61 ∷ []

unfoldable pub digest_text : List ℕ → List ℕ
digest_text l = hexadecimal (sha256 l)

-- the digests of event buffer, image and journal after a call, and a line feed
unfoldable pub digests : (events image journal : List ℕ) → List ℕ
digests events image journal =
    event_bytes_text ++ (digest_text events ++ (image_text ++ (digest_text image ++ (journal_text ++ (digest_text journal ++ (10 ∷ []))))))

-- the line of a call's answer and of what the vault holds after it
unfoldable pub step_line : Step → List ℕ
step_line s =
    answer_words s.answer.number (signed_at (amount_bytes (bias + s.answer.value))) s.answer.count
    (digests s.answer.events s.state.image s.state.journal)

-- what is printed of an answer and three digests: the line without its line feed
unfoldable pub text_of : StepLine → List ℕ
text_of l =
    answer_words l.answer.number (value l.answer.value) l.answer.events
    (event_bytes_text ++ (hexadecimal l.events_digest ++ (image_text ++ (hexadecimal l.image_digest ++ (journal_text ++ hexadecimal l.journal_digest)))))

-- begin, commit, rollback and undo by their kinds 1 to 4
unfoldable pub transaction : ℕ → Call
transaction kind = pick (eqb kind 1) Call.begin (pick (eqb kind 2) Call.commit (pick (eqb kind 3) Call.rollback Call.undo))

abbrev pub kind_of : Transaction → ℕ
kind_of Begin = 1
kind_of Commit = 2
kind_of Rollback = 3
kind_of Undo = 4

-- text, image and journal are those of the step
pub record PrintsStep (s : Step) (text image journal : List ℕ) : Type 0 where
  pub printed : text ≡ step_line s
  pub changed : image ≡ s.state.image
  pub entered : journal ≡ s.state.journal
