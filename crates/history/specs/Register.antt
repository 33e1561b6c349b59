-- A small vault to which all of this applies: a register of two cells, whose record's first byte is the operation.
use Rattle.std.specs.Prelude.{◌≡◌, Bool, List, ℕ, eqb, length, get_or, set}
use Rattle.fields.specs.Rules.{pick}
use Rattle.journal.specs.Calls.{Call, State, Answer, Step, Done}
use Rattle.journal.specs.Step.{blank, step, Opening}
use Rattle.history.specs.Kept.{SameAsKept}
use Rattle.history.specs.Owed.{GoodState}

unfoldable pub good_register : List ℕ → Bool
good_register x = eqb (length x) 32

unfoldable pub register_view : List ℕ → Bool
register_view r = eqb (get_or r 0 0) 24

-- 0 is refused with 4; 24 is a view of the first byte; any other is stored in the first byte and in byte 20
unfoldable pub register_op : List ℕ → List ℕ → List ℕ → Done
register_op x r e =
    pick (eqb (get_or r 0 0) 0) (record { answer = record { number = 4; value = 0; count = 0; events = blank }; image = x })
    (pick (eqb (get_or r 0 0) 24) (record { answer = record { number = 0; value = get_or x 0 0; count = 0; events = blank }; image = x })
    (record { answer = record { number = 0; value = 0; count = 0; events = blank }; image = set (set x 0 (get_or r 0 0)) 20 (get_or r 0 0) }))

unfoldable pub register_step : State → Call → Step
register_step = step 2 good_register register_op register_view

-- the book: the last byte stored
unfoldable pub register_enter : ℕ → List ℕ → Answer → ℕ
register_enter b r a = get_or r 0 0

unfoldable pub RegisterMatch : ℕ → List ℕ → Type 0
RegisterMatch b x = get_or x 0 0 ≡ b

pub record RegisterHistory : Type 0 where
  pub all : (s : State) → Opening good_register s → (cs : List Call) → SameAsKept register_step register_view (GoodState 2 good_register) register_enter RegisterMatch s (get_or s.image 0 0) cs
