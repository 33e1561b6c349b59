-- The vault: what a call of an operation gives, for every image, record and event buffer, and the step of every call
-- (docs/FORMATS.md, "The operations" and "The order of a call").
use Rattle.std.specs.Prelude.{Bool, List, [], ◌∷◌, ℕ, zero, suc, length}
use Rattle.journal.specs.Calls.{Call, State, Step, Done}
use Rattle.journal.specs.Step.{blank, step}
use Rattle.operations.specs.Operations.{outcome_of}
use Rattle.outcome.specs.Outcome.{Outcome}
use Rattle.events.specs.Event.{event_buffer, buffer_number}
use Rattle.record.specs.Form.{is_view, form_number}
use Rattle.record.specs.Record.{operation_of}
use Rattle.image.specs.Layout.{cells}
use Rattle.image.specs.Good.{good_image}
use Rattle.fields.specs.Rules.{chain}

-- 32, then 33
unfoldable pub call_number : (r e : List ℕ) → ℕ
call_number r e = chain (form_number r ∷ buffer_number e ∷ [])

-- done, or refused by the operation's own rules: then the event buffer is blank and the image as it was
abbrev pub by_number : ℕ → Outcome → List ℕ → Done
by_number zero o l = record { answer = record { number = 0; value = o.value; count = length o.events; events = event_buffer o.events }; image = o.image }
by_number (suc k) o l = record { answer = record { number = suc k; value = 0; count = 0; events = blank }; image = l }

-- 32 and 33 leave the event buffer e as it was lent
abbrev pub by_form : ℕ → Outcome → (l e : List ℕ) → Done
by_form zero o l e = by_number o.number o l
by_form (suc k) o l e = record { answer = record { number = suc k; value = 0; count = 0; events = e }; image = l }

unfoldable pub op : (l r e : List ℕ) → Done
op l r e = by_form (call_number r e) (outcome_of l r) l e

unfoldable pub view : List ℕ → Bool
view r = is_view (operation_of r)

-- a call of the vault: 30, 31, then 32, 33 and the operation's own, last 34; begin, commit, rollback and undo
unfoldable pub vault_step : State → Call → Step
vault_step = step cells good_image op view
