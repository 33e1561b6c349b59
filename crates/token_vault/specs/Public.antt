-- What the public calls owe: number, value, event count, event bytes, image and journal are those of the step.
use Rattle.std.specs.Prelude.{◌≡◌, Bool, List, ℕ, ◌+◌, replicate}
use Rattle.fields.specs.Rules.{pick}
use Rattle.image.specs.Layout.{cells}
use Rattle.journal.specs.Calls.{Step, Done}
use Rattle.journal.specs.Journal.{contents_of, good_journal, room, journal_after}
use Rattle.refusal.specs.Numbers.{code}
use Rattle.outcome.specs.Outcome.{Answer, value_of, count_of}
use Rattle.events.specs.Splice.{amount_bytes}
use Rattle.amount.specs.Biased.{bias}

-- value and count as a caller finds them: sixteen bytes, and a number
pub record CallIs (s : Step) (number : ℕ) (value : List ℕ) (count : ℕ) (events image journal : List ℕ) : Type 0 where
  pub numbered : number ≡ s.answer.number
  pub valued : value ≡ amount_bytes (bias + s.answer.value)
  pub counted : count ≡ s.answer.count
  pub written : events ≡ s.answer.events
  pub changed : image ≡ s.state.image
  pub entered : journal ≡ s.state.journal

-- the same where the journal is the call's own
pub record CallAlone (s : Step) (number : ℕ) (value : List ℕ) (count : ℕ) (events image : List ℕ) : Type 0 where
  pub numbered : number ≡ s.answer.number
  pub valued : value ≡ amount_bytes (bias + s.answer.value)
  pub counted : count ≡ s.answer.count
  pub written : events ≡ s.answer.events
  pub changed : image ≡ s.state.image

-- a closed journal of the least length
unfoldable pub closed_journal : List ℕ
closed_journal = replicate 48 0

-- begin, commit, rollback and undo: number, image and journal
pub record JournalIs (s : Step) (number : ℕ) (image journal : List ℕ) : Type 0 where
  pub numbered : number ≡ s.answer.number
  pub changed : image ≡ s.state.image
  pub entered : journal ≡ s.state.journal

-- the same of an answer that is not written out yet
pub record Replies (s : Step) (a : Answer) (events image journal : List ℕ) : Type 0 where
  pub numbered : code a ≡ s.answer.number
  pub valued : value_of a ≡ bias + s.answer.value
  pub counted : count_of a ≡ s.answer.count
  pub written : events ≡ s.answer.events
  pub changed : image ≡ s.state.image
  pub entered : journal ≡ s.state.journal

-- ---- the parts of a call
-- 30 image not good, 31 journal not good
unfoldable pub state_number : (isImageGood : Bool) → (j : List ℕ) → ℕ
state_number isImageGood j = pick isImageGood (pick (good_journal cells j) 0 31) 30

-- an answer that is not written out yet, with the bytes of the event buffer
pub record Answers (d : Rattle.journal.specs.Calls.Answer) (a : Answer) (events : List ℕ) : Type 0 where
  pub numbered : code a ≡ d.number
  pub valued : value_of a ≡ bias + d.value
  pub counted : count_of a ≡ d.count
  pub written : events ≡ d.events

-- an operation on a copy of the image: where it is done the copy is the image after it
pub record Tries (d : Done) (a : Answer) (copy events : List ℕ) : Type 0 where
  pub answered : Answers d.answer a events
  pub changed : d.answer.number ≡ 0 → copy ≡ d.image

-- an accepted operation that changed the image from l to m, at the journal j: 34 or 0, the image and the journal after it
unfoldable pub kept_number : (l m j : List ℕ) → ℕ
kept_number l m j = pick (contents_of j).opened (pick (room cells l m j) 0 34) 0

unfoldable pub kept_image : (l m j : List ℕ) → List ℕ
kept_image l m j = pick (contents_of j).opened (pick (room cells l m j) m l) m

unfoldable pub kept_journal : (l m j : List ℕ) → List ℕ
kept_journal l m j = pick (contents_of j).opened (pick (room cells l m j) (journal_after cells l m j) j) j

pub record Keeps (l m j : List ℕ) (number : ℕ) (image journal : List ℕ) : Type 0 where
  pub numbered : number ≡ kept_number l m j
  pub changed : image ≡ kept_image l m j
  pub entered : journal ≡ kept_journal l m j
