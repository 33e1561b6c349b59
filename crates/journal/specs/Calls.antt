-- What a vault is called with, what it holds, and what it answers.
use Rattle.std.specs.Prelude.{List, ℕ}

-- an operation comes with its record and with the event buffer that is lent to it
pub data Call : Type 0 where
  operation : List ℕ → List ℕ → Call
  begin commit rollback undo : Call

pub record State : Type 0 where
  pub image : List ℕ
  pub journal : List ℕ

-- the number is 0 when done; the count is the event count; the events are the bytes of the event buffer
pub record Answer : Type 0 where
  pub number : ℕ
  pub value : ℕ
  pub count : ℕ
  pub events : List ℕ

-- what a call gives: its answer, and what the vault holds after it
pub record Step : Type 0 where
  pub answer : Answer
  pub state : State

-- what an operation gives by its own rules, before the journal is looked at
pub record Done : Type 0 where
  pub answer : Answer
  pub image : List ℕ
