-- What is read of a call and of a list: their heads as structs, and the faults of what was read. `before` and `after` are what the input has left before and after a read, where that is known.
use Rattle.std.specs.Prelude.{◌≡◌, List, ◌++◌, ℕ, ◌<◌, ◌≤◌, not, eqb, length, take, get_or, Option, Result, Ok, Err, IfOk}
use Rattle.std.specs.Io.KnownBytes.{Consumes}
use Rattle.fields.specs.Bytes.{le}
use Rattle.fields.specs.Rules.{pick}
use Rattle.journal.specs.Calls.{State}
use Rattle.token_vault.specs.Preview.{request_step}
use Rattle.vault_vectors.specs.Vectors.{step_line}
use Rattle.token_vault_vectors.specs.declared.Fault.{Fault}
use Rattle.token_vault_vectors.specs.declared.Fault.TheVariants.{Kind as NoKind}
use Rattle.token_vault_vectors.specs.declared.heads.Kind.{Kind}
use Rattle.token_vault_vectors.specs.declared.heads.CallHead.{CallHead}
use Rattle.token_vault_vectors.specs.declared.heads.ListHead.{ListHead}
use Rattle.token_vault_vectors.specs.Faults.{state_fault, call_fault}
use Rattle.token_vault_vectors.specs.Numbers.{code}
use Rattle.token_vault_vectors.specs.Replay.{byte_of, request_of, AnswersCall}

abbrev pub IsKind : ℕ → Result Kind Fault → Type 0
IsKind b (Ok kind) = byte_of kind ≡ b
IsKind b (Err fault) = (fault ≡ NoKind) × (5 < b)

-- the head in the bytes h
pub record CallHeadOf (h : List ℕ) (head : CallHead) : Type 0 where
  pub kind : byte_of head.kind ≡ get_or h 0 0
  pub fill : head.fill ≡ get_or h 1 0
  pub record_length : head.record_length ≡ le 2 h 2
  pub events_length : head.events_length ≡ le 2 h 4

pub record ListHeadOf (h : List ℕ) (head : ListHead) : Type 0 where
  pub image_length : head.image_length ≡ le 4 h 0
  pub journal_length : head.journal_length ≡ le 4 h 4
  pub count : head.count ≡ le 4 h 8

-- `read` bytes were read, to the start of a buffer, and the fault is `cut` unless they are all of it
pub record ReadsWhole (before after : Option (List ℕ)) (buffer : List ℕ) (cut fault : ℕ) : Type 0 where
  pub read : ℕ
  pub within : read ≤ length buffer
  pub consumed : Consumes before after (take read buffer)
  pub decided : fault ≡ pick (not (eqb read (length buffer))) cut 0

-- a head was read, or what there was of it, and record_read bytes of a record, to the start of a buffer
pub record ReadsCall (before after : Option (List ℕ)) (buffer : List ℕ) (r : Result CallHead Fault) : Type 0 where
  pub head : List ℕ
  pub head_within : length head ≤ 8
  pub record_read : ℕ
  pub record_within : record_read ≤ length buffer
  pub consumed : Consumes before after (head ++ take record_read buffer)
  pub decided : code r ≡ call_fault (length head) head record_read
  pub parsed : IfOk r (λ c. CallHeadOf head c)

-- a call was read, its record to the start of a buffer, and answered where it has no fault: `Printed` holds of its line
pub record TakesCall (before after : Option (List ℕ)) (s : State) (buffer : List ℕ) (fault : ℕ) (image journal : List ℕ) (Printed : List ℕ → Type 0) : Type 0 where
  pub head : List ℕ
  pub head_within : length head ≤ 8
  pub record_read : ℕ
  pub record_within : record_read ≤ length buffer
  pub consumed : Consumes before after (head ++ take record_read buffer)
  pub answered : AnswersCall s (length head) head record_read buffer fault (step_line (request_step s (request_of head (take record_read buffer)))) image journal
  pub printed : fault ≡ 0 → Printed (step_line (request_step s (request_of head (take record_read buffer))))

-- so many bytes were read of an image and then of a journal
pub record ReadsState (before after : Option (List ℕ)) (s : State) (fault : ℕ) : Type 0 where
  pub image_read : ℕ
  pub image_within : image_read ≤ length s.image
  pub journal_read : ℕ
  pub journal_within : journal_read ≤ length s.journal
  pub consumed : Consumes before after (take image_read s.image ++ take journal_read s.journal)
  pub decided : fault ≡ state_fault image_read journal_read s
