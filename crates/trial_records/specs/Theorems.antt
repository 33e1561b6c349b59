-- What holds of trial records: made in two parts they are the same; the vault reads what was drawn; and the vault refuses none of them with 32.
use Rattle.std.specs.Prelude.{◌≡◌, ℕ, ◌+◌, ◌*◌, ◌/◌, ◌%◌, ◌<◌, List, ◌++◌, length, take, drop}
use Rattle.amount.specs.Biased.{bias}
use Rattle.record.specs.Form.{form_number}
use Rattle.record.specs.Record.{operation_of, caller_of, token_of, other_of, flag_of, item_count_of, timestamp_of, sequence_of, signers_of, amount_of, fee_of, item_address, item_amount}
use Rattle.trial_records.specs.Trial.{Drawn, draws_from, reached_from, Trial, trial}

-- ---- in two parts: `second` goes on from the number that `first` reached, with the next record number
pub record SameAsWhole (first second whole : Trial) : Type 0 where
  pub done : whole.number ≡ 0
  pub same_bytes : first.buffer ++ second.buffer ≡ whole.buffer
  pub same_reached : second.reached ≡ whole.reached

abbrev pub goes_on : (start first : ℕ) → (a b : List ℕ) → Trial
goes_on start first a b = trial (trial start first a).reached (first + length a / 448) b

-- ---- record i of a buffer, from 0, with the number that it is made from and its own
abbrev pub record_at : List ℕ → ℕ → List ℕ
record_at l i = take 448 (drop (448 * i) l)

-- the fields of the record r, by the vault's own readers (amounts are values plus 2 ^ 127)
pub record ReadAs (r : List ℕ) (d : Drawn) (number : ℕ) : Type 0 where
  pub long : length r ≡ 448
  pub operation : operation_of r ≡ d.operation
  pub caller : caller_of r ≡ d.caller
  pub token : token_of r ≡ d.token
  pub other : other_of r ≡ d.other
  pub flag : flag_of r ≡ d.flag
  pub one_item : item_count_of r ≡ 1
  pub timestamp : timestamp_of r ≡ number
  pub sequence : sequence_of r ≡ number
  pub signers : signers_of r ≡ 18446744073709551615
  pub amount : amount_of r ≡ bias + d.amount
  pub no_fee : fee_of r ≡ bias
  pub item_address_is : item_address r 0 ≡ d.other
  pub item_amount_is : item_amount r 0 ≡ bias + d.amount

-- ---- all of it. Buffers a and b are those of the parts, c that of the whole
pub record TrialRecords : Type 0 where
  -- where neither part is refused, the whole is not, and it has their bytes and the number that they reach
  pub in_parts : (start first : ℕ) (a b c : List ℕ) → length c ≡ length a + length b
      → (trial start first a).number ≡ 0 → (goes_on start first a b).number ≡ 0
      → SameAsWhole (trial start first a) (goes_on start first a b) (trial start first c)
  -- where the whole is not refused, neither part is, if the first is of whole records
  pub splits : (start first : ℕ) (a b c : List ℕ) → length c ≡ length a + length b → length a % 448 ≡ 0
      → (trial start first c).number ≡ 0
      → ((trial start first a).number ≡ 0) × ((goes_on start first a b).number ≡ 0)
  -- of records that are made, what the vault reads of each, and that it does not refuse it with 32
  pub read : (start first : ℕ) (l : List ℕ) → (trial start first l).number ≡ 0 → (i : ℕ) → i < length l / 448
      → ReadAs (record_at (trial start first l).buffer i) (draws_from (reached_from start i)) (first + i)
  pub good_form : (start first : ℕ) (l : List ℕ) → (trial start first l).number ≡ 0 → (i : ℕ) → i < length l / 448
      → form_number (record_at (trial start first l).buffer i) ≡ 0
