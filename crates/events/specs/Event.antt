-- An event and its 56 bytes: kind, addresses at 1 and 2, yes or no at 3, numbers at 8, 24 and 40, the rest zero.
use Rattle.std.specs.Prelude.{List, [], ◌∷◌, ◌++◌, ℕ, ◌*◌, ◌-◌, length, get_or, replicate, pos}
use Rattle.fields.specs.Rules.{Rule, when, verdict, ne}
use Rattle.amount.specs.Biased.{num, biased}
use Rattle.amount.specs.declared.Amount.{Amount}
use Rattle.events.specs.declared.Fields.{Fields}
use Rattle.events.specs.Splice.{splice, amount_bytes}

-- an event's fields as numbers: yes is 1 or 0, and an amount is its value plus 2 ^ 127
pub record EventFields : Type 0 where
  pub kind : ℕ
  pub first : ℕ
  pub second : ℕ
  pub yes : ℕ
  pub number0 : ℕ
  pub number1 : ℕ
  pub number2 : ℕ

abbrev pub no_amount : Amount
no_amount = record { 0 = pos 0 }

unfoldable pub written_fields : Fields → EventFields
written_fields e =
    record {
      kind = e.kind;
      first = e.first;
      second = e.second;
      yes = num e.yes;
      number0 = biased (get_or e.numbers 0 no_amount);
      number1 = biased (get_or e.numbers 1 no_amount);
      number2 = biased (get_or e.numbers 2 no_amount);
    }

-- bytes 0 to 7: kind, two addresses, yes or no, four zeros
unfoldable pub event_head : EventFields → List ℕ
event_head e = e.kind ∷ e.first ∷ e.second ∷ e.yes ∷ 0 ∷ 0 ∷ 0 ∷ 0 ∷ []

-- the 56 bytes: the numbers stand at 8, 24 and 40
unfoldable pub event_bytes : EventFields → List ℕ
event_bytes e = event_head e ++ (amount_bytes e.number0 ++ (amount_bytes e.number1 ++ amount_bytes e.number2))

-- the buffer l with the bytes of e in its place i
unfoldable pub put_event : List ℕ → ℕ → EventFields → List ℕ
put_event l i e = splice l (56 * i) (event_bytes e)

-- the events' bytes, in order
unfoldable pub event_run : List EventFields → List ℕ
event_run [] = []
event_run (e ∷ es) = event_bytes e ++ event_run es

-- the event buffer: the events' bytes, in order, then zeros up to 896
unfoldable pub event_buffer : List EventFields → List ℕ
event_buffer es = event_run es ++ replicate (896 - 56 * length es) 0

-- refusal 33
abbrev pub buffer_rules : List ℕ → List Rule
buffer_rules l = when (ne (length l) 896) 33 ∷ []

unfoldable pub buffer_number : List ℕ → ℕ
buffer_number l = verdict (buffer_rules l)
