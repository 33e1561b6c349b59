-- A preview: the answer that an operation would give, with nothing moved; what it says of the call that follows; and previews between calls
-- (docs/FORMATS.md, "A preview").
use Rattle.std.specs.Prelude.{◌≡◌, Bool, true, false, ◌||◌, List, [], ◌∷◌, ℕ, ◌+◌, eqb, length}
use Rattle.amount.specs.Biased.{bias}
use Rattle.events.specs.Splice.{amount_bytes}
use Rattle.fields.specs.Rules.{pick}
use Rattle.history.specs.Kept.{Noted, note, run, log}
use Rattle.image.specs.Layout.{cells}
use Rattle.journal.specs.Calls.{Call, operation, State, Answer, Step}
use Rattle.journal.specs.Journal.{contents_of, good_journal, room}
use Rattle.journal.specs.Step.{vault, blank, reply}
use Rattle.operations.specs.Operations.{is_own}
use Rattle.token_vault.specs.Demand.{leaves_buffer, buffer_after}
use Rattle.token_vault.specs.Public.{closed_journal}
use Rattle.token_vault.specs.Vault.{op, view, vault_step}

-- the answer of a call without a journal, with the image l, the record r and the event buffer e
unfoldable pub preview_answer : (l r e : List ℕ) → Answer
preview_answer l r e = (vault_step (vault l closed_journal) (operation r e)).answer

-- value and count as a caller finds them: sixteen bytes, and a number
pub record PreviewIs (a : Answer) (number : ℕ) (value : List ℕ) (count : ℕ) (events : List ℕ) : Type 0 where
  pub numbered : number ≡ a.number
  pub valued : value ≡ amount_bytes (bias + a.value)
  pub counted : count ≡ a.count
  pub written : events ≡ a.events

-- ---- the numbers of a preview: 0 and the operation's own, 30, 32 and 33
abbrev pub is_previewed : ℕ → Bool
is_previewed n = is_own n || (eqb n 30 || (eqb n 32 || eqb n 33))

-- what is refused has no value and no event; 30, 32 and 33 leave the event buffer as it was lent, all others leave it blank
pub record RefusedPreview (r e : List ℕ) (a : Answer) : Type 0 where
  pub no_value : a.value ≡ 0
  pub no_event : a.count ≡ 0
  pub buffer : a.events ≡ buffer_after a.number (operation r e)

-- ---- the call that follows a preview, on the same image l, record r and event buffer e, at a good journal j
abbrev pub call_at : (l j r e : List ℕ) → Step
call_at l j r e = vault_step (vault l j) (operation r e)

pub record CallFollows (l j r e : List ℕ) : Type 0 where
  -- the journal is closed, or open with room for the cells that the operation changes: the previewed answer, with its event bytes
  pub closed : (contents_of j).opened ≡ false → (call_at l j r e).answer ≡ preview_answer l r e
  pub fits : (contents_of j).opened ≡ true → room cells l (op l r e).image j ≡ true → (call_at l j r e).answer ≡ preview_answer l r e
  -- a view, and what is refused, needs no room
  pub viewed : view r ≡ true → (call_at l j r e).answer ≡ preview_answer l r e
  pub refused : ((preview_answer l r e).number ≡ 0 → ⊥) → (call_at l j r e).answer ≡ preview_answer l r e
  -- any other operation in a full journal: 34, and image and journal stay as they are
  pub full : (contents_of j).opened ≡ true → room cells l (op l r e).image j ≡ false → view r ≡ false → (preview_answer l r e).number ≡ 0
      → call_at l j r e ≡ reply 34 blank (vault l j)

-- ---- previews between calls: of an operation with its record and the event buffer that is lent to it
pub data Request : Type 0 where
  call : Call → Request
  preview : List ℕ → List ℕ → Request

-- a preview reads the image alone, and leaves image and journal as they are
abbrev pub request_step : State → Request → Step
request_step s (call c) = vault_step s c
request_step s (preview r e) = record { answer = preview_answer s.image r e; state = s }

-- what a vault holds after a list of requests
abbrev pub run_requests : State → List Request → State
run_requests s [] = s
run_requests s (x ∷ xs) = run_requests (request_step s x).state xs

-- the calls of the list
abbrev pub calls_of : List Request → List Call
calls_of [] = []
calls_of (call c ∷ xs) = c ∷ calls_of xs
calls_of (preview r e ∷ xs) = calls_of xs

-- the calls with the answers that they get between the previews
abbrev pub log_calls : State → List Request → List (Noted Answer)
log_calls s [] = []
log_calls s (call c ∷ xs) = note c (request_step s (call c)).answer ∷ log_calls (request_step s (call c)).state xs
log_calls s (preview r e ∷ xs) = log_calls (request_step s (preview r e)).state xs

-- image, journal, and the answers and event bytes of all calls are those of the run without the previews
pub record SameAsCalls (s : State) (xs : List Request) : Type 0 where
  pub same : run_requests s xs ≡ run vault_step s (calls_of xs)
  pub answers : log_calls s xs ≡ log vault_step s (calls_of xs)

-- ---- all of it
pub record Previews : Type 0 where
  pub numbered : (l r e : List ℕ) → is_previewed (preview_answer l r e).number ≡ true
  pub refused : (l r e : List ℕ) → ((preview_answer l r e).number ≡ 0 → ⊥) → RefusedPreview r e (preview_answer l r e)
  pub follows : (l j r e : List ℕ) → good_journal cells j ≡ true → CallFollows l j r e
  -- at a journal that is not good the call is refused, with 30 where the preview is and else with 31, and leaves all as it was, the event buffer too
  pub bad_journal : (l j r e : List ℕ) → good_journal cells j ≡ false
      → call_at l j r e ≡ reply (pick (eqb (preview_answer l r e).number 30) 30 31) e (vault l j)
  -- what the event buffer held before a call does not matter, unless the call leaves it as it was lent: it may be the one that the preview wrote to
  pub any_buffer : (s : State) (r e f : List ℕ) → length f ≡ length e → leaves_buffer (vault_step s (operation r e)).answer.number ≡ false
      → vault_step s (operation r f) ≡ vault_step s (operation r e)
  pub between : (s : State) (xs : List Request) → SameAsCalls s xs
