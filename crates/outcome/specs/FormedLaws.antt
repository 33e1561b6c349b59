-- What a record of operation k that 32 does not refuse has: bounds on the fields that k reads, on its amount and on its numbers of 8 bytes.
use Rattle.std.specs.Prelude.{◌≡◌, true, List, ℕ, ◌+◌, ◌^◌, ◌≤◌, ◌<◌}
use Rattle.fields.specs.Bytes.{le, le_below}
use Rattle.amount.specs.Biased.{bias}
use Rattle.amount.specs.Laws.{amount_at_below}
use Rattle.record.specs.Record.{caller_of, token_of, other_of, flag_of, item_count_of, amount_of, item_address}
use Rattle.record.specs.Form.{reads_caller, reads_token, reads_other, reads_flag, reads_items}
use Rattle.record.specs.Laws.{caller_below, token_below, other_below, flag_below, count_below, item_below}
use Rattle.outcome.specs.Outcome.{Formed}

module _ {k : ℕ} {r : List ℕ} (f : Formed k r) where
  pub caller_in : reads_caller k ≡ true → caller_of r < 64
  caller_in e = caller_below r k f.formed f.operation e

  pub token_in : reads_token k ≡ true → token_of r < 64
  token_in e = token_below r k f.formed f.operation e

  pub other_in : reads_other k ≡ true → other_of r < 64
  other_in e = other_below r k f.formed f.operation e

  pub flag_in : reads_flag k ≡ true → flag_of r ≤ 1
  flag_in e = flag_below r k f.formed f.operation e

  pub count_in : reads_items k ≡ true → item_count_of r ≤ 16
  count_in e = count_below r k f.formed f.operation e

  pub item_in : reads_items k ≡ true → (i : ℕ) → i < item_count_of r → item_address r i < 64
  item_in e = item_below r k f.formed f.operation e

  pub amount_in : amount_of r < bias + bias
  amount_in = amount_at_below r 32 f.bytes

  -- a number of 8 bytes, as a time is
  pub time_in : (at : ℕ) → le 8 r at < 2 ^ 64
  time_in at = le_below 8 r at f.bytes
