-- The fields of a record of 448 bytes, each at its place (docs/FORMATS.md, "The record").
use Rattle.std.specs.Prelude.{List, ℕ, ◌+◌, ◌*◌}
use Rattle.fields.specs.Bytes.{le}
use Rattle.amount.specs.Biased.{amount_at}

abbrev pub operation_of : List ℕ → ℕ
operation_of r = le 1 r 0

abbrev pub caller_of : List ℕ → ℕ
caller_of r = le 1 r 1

abbrev pub token_of : List ℕ → ℕ
token_of r = le 1 r 2

-- the address that is paid, set as operator, proposed as owner, or migrated to
abbrev pub other_of : List ℕ → ℕ
other_of r = le 1 r 3

abbrev pub flag_of : List ℕ → ℕ
flag_of r = le 1 r 4

abbrev pub item_count_of : List ℕ → ℕ
item_count_of r = le 1 r 5

abbrev pub timestamp_of : List ℕ → ℕ
timestamp_of r = le 8 r 8

-- the ledger sequence
abbrev pub sequence_of : List ℕ → ℕ
sequence_of r = le 4 r 16

-- the signer set: bit a is address a
abbrev pub signers_of : List ℕ → ℕ
signers_of r = le 8 r 24

-- amounts, here and below, are values plus 2 ^ 127
abbrev pub amount_of : List ℕ → ℕ
amount_of r = amount_at r 32

-- the time to live stands where the amount does
abbrev pub time_to_live_of : List ℕ → ℕ
time_to_live_of r = le 8 r 32

abbrev pub fee_of : List ℕ → ℕ
fee_of r = amount_at r 48

-- item i, of sixteen
abbrev pub item_at : ℕ → ℕ
item_at i = 64 + 24 * i

abbrev pub item_address : List ℕ → ℕ → ℕ
item_address r i = le 1 r (item_at i)

abbrev pub item_amount : List ℕ → ℕ → ℕ
item_amount r i = amount_at r (item_at i + 8)
