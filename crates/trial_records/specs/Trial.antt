-- Trial records: a record of six draws, the list of records from a starting number, and refusal 32 (docs/FORMATS.md, "Trial records").
use Rattle.std.specs.Prelude.{◌≡◌, ℕ, zero, suc, ◌+◌, ◌/◌, ◌%◌, ◌^◌, List, [], ◌∷◌, ◌++◌, length, replicate, ◌==◌, Result, Ok, Err}
use Rattle.refusal.specs.declared.Refusal.{Refusal}
use Rattle.fields.specs.Bytes.{put}
use Rattle.fields.specs.Rules.{Rule, when, verdict, eq, ne, lt, pick}
use Rattle.trial_records.specs.Generator.{draw, steps}

-- ---- the six draws of a record, in their order
pub record Drawn : Type 0 where
  pub operation : ℕ
  pub caller : ℕ
  pub token : ℕ
  pub other : ℕ
  pub flag : ℕ
  pub amount : ℕ

unfoldable pub draws_from : (last : ℕ) → Drawn
draws_from last =
    record {
      operation = draw (steps 1 last) % 30 + 1;
      caller = draw (steps 2 last) % 64;
      token = draw (steps 3 last) % 64;
      other = draw (steps 4 last) % 64;
      flag = draw (steps 5 last) % 2;
      amount = draw (steps 6 last) % 1001;
    }

-- ---- the record: numbers at places, each in so many bytes, and zeros
pub data Field : Type 0 where
  field : (at width number : ℕ) → Field

abbrev pub laid : List ℕ → List Field → List ℕ
laid l [] = l
laid l (field at width number ∷ fs) = laid (put width l at number) fs

-- operation, caller, token, other address, flag, and an item count of 1
abbrev pub head_fields : Drawn → List Field
head_fields d =
    field 0 1 d.operation
    ∷ field 1 1 d.caller
    ∷ field 2 1 d.token
    ∷ field 3 1 d.other
    ∷ field 4 1 d.flag
    ∷ field 5 1 1
    ∷ []

-- then timestamp and sequence, which are the record's number, all signers, the amount, and the item, which repeats other address and amount
abbrev pub trial_fields : Drawn → (number : ℕ) → List Field
trial_fields d number =
    head_fields d
    ++ (field 8 8 number
    ∷ field 16 4 number
    ∷ field 24 8 18446744073709551615
    ∷ field 32 16 d.amount
    ∷ field 64 1 d.other
    ∷ field 72 16 d.amount
    ∷ [])

unfoldable pub record_of : Drawn → (number : ℕ) → List ℕ
record_of d number = laid (replicate 448 0) (trial_fields d number)

-- the record whose draws follow the number `last`
unfoldable pub trial_record : (last number : ℕ) → List ℕ
trial_record last number = record_of (draws_from last) number

-- ---- n records: the number that they reach, and their bytes, one after another
unfoldable pub reached_from : (start n : ℕ) → ℕ
reached_from start zero = start
reached_from start (suc n) = steps 6 (reached_from start n)

unfoldable pub records_from : (start first n : ℕ) → List ℕ
records_from start first zero = []
records_from start first (suc n) = records_from start first n ++ trial_record (reached_from start n) (first + n)

-- ---- refusal 32: a buffer that is not whole records; a first number of 0; and a last number, first + n - 1, above 2 ^ 32 - 1
abbrev pub trial_rules : (first bytes : ℕ) → List Rule
trial_rules first bytes =
    when (ne (bytes % 448) 0) 32
    ∷ when (eq first 0) 32
    ∷ when (lt (2 ^ 32) (first + bytes / 448)) 32
    ∷ []

unfoldable pub trial_number : (first bytes : ℕ) → ℕ
trial_number first bytes = verdict (trial_rules first bytes)

-- ---- all of it: the answer's number, the buffer, and the number reached
pub record Trial : Type 0 where
  pub number : ℕ
  pub buffer : List ℕ
  pub reached : ℕ

abbrev pub made : (start first n : ℕ) → Trial
made start first n = record { number = 0; buffer = records_from start first n; reached = reached_from start n }

-- a refusal leaves the buffer as it was lent, and the generator at its starting number
abbrev pub refused : (number start : ℕ) → (buffer : List ℕ) → Trial
refused number start buffer = record { number = number; buffer = buffer; reached = start }

unfoldable pub trial : (start first : ℕ) → (buffer : List ℕ) → Trial
trial start first buffer =
    let number = trial_number first (length buffer) in
    pick (number == 0) (made start first (length buffer / 448)) (refused number start buffer)

-- the number that an answer reached, which at a refusal is the starting number
abbrev pub reached_or : (start : ℕ) → Result ℕ Refusal → ℕ
reached_or start (Ok reached) = reached
reached_or start (Err _) = start

-- what a caller finds: the number that is returned, the buffer, and the number reached
pub record TrialIs (t : Trial) (number : ℕ) (buffer : List ℕ) (reached : ℕ) : Type 0 where
  pub numbered : number ≡ t.number
  pub written : buffer ≡ t.buffer
  pub arrived : reached ≡ t.reached
