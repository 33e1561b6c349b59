-- What is made of the bytes that are read: a call, the calls of a list, a list, and all lists (docs/VECTORS.md). `input` is what there is to read, and `left` what then is left of it, where that is known.
use Rattle.std.specs.Prelude.{◌≡◌, Bool, false, List, ◌++◌, map, Option, ◌⊎◌, ℕ, ◌≤◌, ◌<◌, eqb, length, take, drop, get_or, replicate, refl}
use Rattle.std.specs.List.{concat}
use Rattle.std.specs.Io.KnownBytes.{Consumes}
use Rattle.std.proofs.Common.{sym}
use Rattle.fields.specs.Bytes.{le}
use Rattle.fields.specs.Rules.{pick}
use Rattle.journal.specs.Calls.{operation, State, Step}
use Rattle.journal.specs.Step.{vault}
use Rattle.token_vault.specs.Preview.{Request, call, preview, request_step, run_requests}
use Rattle.vault_vectors.specs.declared.Transaction.TheVariants.{Begin, Commit, Rollback, Undo}
use Rattle.vault_vectors.specs.Vectors.{step_line, transaction, kind_of, PrintsStep}
use Rattle.token_vault_vectors.specs.declared.heads.Kind.{Kind}
use Rattle.token_vault_vectors.specs.declared.heads.Kind.TheVariants.{Operation, Transaction, Preview}
use Rattle.token_vault_vectors.specs.Faults.{head_fault, state_fault, call_fault}

-- t is the line of some step
pub record IsStepLine (t : List ℕ) : Type 0 where
  pub step : Step
  pub same : t ≡ step_line step

-- ---- a call, whose head is h
-- the event buffer is as long as the head says, and filled with the head's byte
unfoldable pub events_of : (h : List ℕ) → List ℕ
events_of h = replicate (le 2 h 4) (get_or h 1 0)

-- kind 0 is an operation with the record r, kind 5 the preview of one
unfoldable pub request_of : (h r : List ℕ) → Request
request_of h r =
    pick (eqb (get_or h 0 0) 0) (call (operation r (events_of h)))
    (pick (eqb (get_or h 0 0) 5) (preview r (events_of h))
    (call (transaction (get_or h 0 0))))

-- the kinds of the program and their bytes
abbrev pub byte_of : Kind → ℕ
byte_of Operation = 0
byte_of (Transaction t) = kind_of t
byte_of Preview = 5

-- what a kind asks for with the record r and the event buffer e
abbrev pub asked : Kind → (r e : List ℕ) → Request
asked Operation r e = call (operation r e)
asked (Transaction t) r e = call (transaction (kind_of t))
asked Preview r e = preview r e

pub asked_by : (kind : Kind) (h r : List ℕ) → byte_of kind ≡ get_or h 0 0 → asked kind r (events_of h) ≡ request_of h r
unfolding request_of
asked_by Operation h r e = rw (sym e) refl
asked_by (Transaction Begin) h r e = rw (sym e) refl
asked_by (Transaction Commit) h r e = rw (sym e) refl
asked_by (Transaction Rollback) h r e = rw (sym e) refl
asked_by (Transaction Undo) h r e = rw (sym e) refl
asked_by Preview h r e = rw (sym e) refl

-- where record_read bytes were read into the buffer b: a call with no fault is answered as its step says, and any other changes nothing
pub record AnswersCall (s : State) (head_read : ℕ) (h : List ℕ) (record_read : ℕ) (b : List ℕ) (fault : ℕ) (text image journal : List ℕ) : Type 0 where
  pub decided : fault ≡ call_fault head_read h record_read
  pub whole : fault ≡ 0 → PrintsStep (request_step s (request_of h (take record_read b))) text image journal
  pub other : (fault ≡ 0 → ⊥) → vault image journal ≡ s

-- a call was read that has this fault: its head, or what there was of it, and what was read of its record
pub record IsCallFault (input : Option (List ℕ)) (fault : ℕ) : Type 0 where
  pub head : List ℕ
  pub part : List ℕ
  pub left : Option (List ℕ)
  pub consumed : Consumes input left (head ++ part)
  pub decided : fault ≡ call_fault (length head) head (length part)
  pub some : 0 < fault

-- what is asked by the bytes of a call, its head and then its record
unfoldable pub request_in : List ℕ → Request
request_in c = request_of (take 8 c) (drop 8 c)

-- ---- the calls of a list, in order as the input has them: as many as the list has, unless one has a fault or its line was not written
pub record TakesCalls (input : Option (List ℕ)) (before after : State) (count taken fault : ℕ) (is_written : Bool) : Type 0 where
  pub calls : List (List ℕ)
  pub counted : length calls ≡ taken
  pub within : taken ≤ count
  pub left : Option (List ℕ)
  pub consumed : Consumes input left (concat calls)
  pub carried : after ≡ run_requests before (map request_in calls)
  pub ended : ((taken ≡ count) × (fault ≡ 0)) ⊎ (IsCallFault left fault ⊎ ((is_written ≡ false) × (fault ≡ 0)))

-- the calls are taken where image and journal were read whole
pub record TakesState (input : Option (List ℕ)) (before after : State) (image_read journal_read count taken fault : ℕ) (is_written : Bool) : Type 0 where
  pub whole : state_fault image_read journal_read before ≡ 0 → TakesCalls input before after count taken fault is_written
  pub other : (state_fault image_read journal_read before ≡ 0 → ⊥) → (after ≡ before) × (fault ≡ state_fault image_read journal_read before) × (taken ≡ 0)

-- image and journal after a list of `count` calls: so many bytes were read of each, and the calls taken from there
pub record RunsList (input : Option (List ℕ)) (image journal : List ℕ) (count taken fault : ℕ) (is_written : Bool) : Type 0 where
  pub before : State
  pub image_length : length before.image ≡ length image
  pub journal_length : length before.journal ≡ length journal
  pub image_read : ℕ
  pub image_within : image_read ≤ length before.image
  pub journal_read : ℕ
  pub journal_within : journal_read ≤ length before.journal
  pub left : Option (List ℕ)
  pub consumed : Consumes input left (take image_read before.image ++ take journal_read before.journal)
  pub taken_from : TakesState left before (vault image journal) image_read journal_read count taken fault is_written

-- ---- a list, whose head is h: image and journal stand at the start of their buffers
pub record TakesList (input : Option (List ℕ)) (head_read : ℕ) (h image journal : List ℕ) (taken fault : ℕ) (is_written : Bool) : Type 0 where
  pub whole : head_fault head_read h ≡ 0 → RunsList input (take (le 4 h 0) image) (take (le 4 h 4) journal) (le 4 h 8) taken fault is_written
  pub other : (head_fault head_read h ≡ 0 → ⊥) → (fault ≡ head_fault head_read h) × (taken ≡ 0)

-- the same with a journal of the function's own
pub record WithJournal (input : Option (List ℕ)) (head_read : ℕ) (h image : List ℕ) (taken fault : ℕ) (is_written : Bool) : Type 0 where
  pub journal : List ℕ
  pub listed : TakesList input head_read h image journal taken fault is_written

-- the same with head and image of the function's own as well; where none of the head was read there is no list, and nothing is wrong
pub record NextList (input : Option (List ℕ)) (head_read taken fault : ℕ) (is_written : Bool) : Type 0 where
  pub head : List ℕ
  pub counted : length head ≡ head_read
  pub within : head_read ≤ 16
  pub left : Option (List ℕ)
  pub consumed : Consumes input left head
  pub image : List ℕ
  pub none : head_read ≡ 0 → (fault ≡ 0) × (taken ≡ 0)
  pub listed : (head_read ≡ 0 → ⊥) → WithJournal left head_read head image taken fault is_written

-- a list was read that has this fault
pub record IsFault (fault : ℕ) : Type 0 where
  pub input : Option (List ℕ)
  pub head_read : ℕ
  pub taken : ℕ
  pub is_written : Bool
  pub listed : NextList input head_read taken fault is_written
  pub some : 0 < fault

-- ---- all lists: until the input ends where a list's head would begin, a list has a fault, a line was not written, or 2 ^ 64 - 1 were taken
abbrev pub ListsEnd : (taken head_read fault : ℕ) → (is_written : Bool) → Type 0
ListsEnd taken head_read fault is_written =
    ((head_read ≡ 0) × (fault ≡ 0))
    ⊎ (IsFault fault ⊎ (((is_written ≡ false) × (fault ≡ 0)) ⊎ ((taken ≡ 18446744073709551615) × (fault ≡ 0))))
