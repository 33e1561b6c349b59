-- The image of 36,832 bytes, 2,302 cells of 16: where each field stands, and what is read there. Tokens are counted by their slot, address 48 first
-- (docs/FORMATS.md, "The image").
use Rattle.std.specs.Prelude.{List, ℕ, ◌+◌, ◌-◌, ◌*◌, ◌/◌, ◌%◌, ◌^◌}
use Rattle.fields.specs.Bytes.{le}
use Rattle.amount.specs.Biased.{amount_at}

abbrev pub image_length : ℕ
image_length = 36832

abbrev pub cells : ℕ
cells = 2302

-- the place of a token's address, 48 to 63, among the 16 tokens
abbrev pub slot : ℕ → ℕ
slot t = t - 48

-- ---- places
abbrev pub cap_at : ℕ → ℕ  -- the cap of an address
cap_at a = 96 + 16 * a

abbrev pub snapshot_at : ℕ → ℕ  -- the snapshot of a token, counted from 0: present 4, ledger 4, holding 16
snapshot_at t = 1120 + 24 * t

abbrev pub tracked_key_at : ℕ → ℕ  -- a tracked key
tracked_key_at i = 1504 + 2 * i

abbrev pub token_at : ℕ → ℕ  -- a token: kind 8 (one byte and seven zeros), toll 16
token_at t = 3680 + 24 * t

abbrev pub toll_at : ℕ → ℕ
toll_at t = 3688 + 24 * t

abbrev pub holdings_at : ℕ → ℕ  -- a token's 64 holdings, and that of an address
holdings_at t = 4064 + 1024 * t

abbrev pub holding_at : ℕ → ℕ → ℕ
holding_at t a = holdings_at t + 16 * a

abbrev pub credits_at : ℕ → ℕ
credits_at t = 20448 + 1024 * t

abbrev pub credit_at : ℕ → ℕ → ℕ
credit_at t a = credits_at t + 16 * a

-- ---- bits: 1 or 0
abbrev pub bit : ℕ → ℕ → ℕ
bit x k = x / 2 ^ k % 2

-- ---- what stands there
abbrev pub flags : List ℕ → ℕ
flags l = le 2 l 0

abbrev pub owner : List ℕ → ℕ
owner l = le 1 l 2

abbrev pub default_token : List ℕ → ℕ
default_token l = le 1 l 3

abbrev pub operator : List ℕ → ℕ
operator l = le 1 l 4

abbrev pub pending_owner : List ℕ → ℕ
pending_owner l = le 1 l 5

abbrev pub proposer : List ℕ → ℕ
proposer l = le 1 l 6

abbrev pub destination : List ℕ → ℕ
destination l = le 1 l 7

abbrev pub proposed_at : List ℕ → ℕ
proposed_at l = le 8 l 40

abbrev pub time_to_live : List ℕ → ℕ
time_to_live l = le 8 l 48

abbrev pub migration_proposed_at : List ℕ → ℕ
migration_proposed_at l = le 8 l 56

abbrev pub executable_at : List ℕ → ℕ
executable_at l = le 8 l 64

abbrev pub approved_set : List ℕ → ℕ
approved_set l = le 8 l 72

abbrev pub capped_set : List ℕ → ℕ
capped_set l = le 8 l 80

abbrev pub tracked_count : List ℕ → ℕ
tracked_count l = le 8 l 88  -- two bytes and six zeros

-- amounts stand as their value plus `bias`
abbrev pub vault_limit : List ℕ → ℕ
vault_limit l = amount_at l 8

abbrev pub operator_limit : List ℕ → ℕ
operator_limit l = amount_at l 24

abbrev pub cap : List ℕ → ℕ → ℕ
cap l a = amount_at l (cap_at a)

abbrev pub toll : List ℕ → ℕ → ℕ
toll l t = amount_at l (toll_at t)

abbrev pub kind : List ℕ → ℕ → ℕ
kind l t = le 8 l (token_at t)

abbrev pub tracked_key : List ℕ → ℕ → ℕ
tracked_key l i = le 2 l (tracked_key_at i)

abbrev pub snapshot_present : List ℕ → ℕ → ℕ
snapshot_present l t = le 4 l (snapshot_at t)

abbrev pub snapshot_ledger : List ℕ → ℕ → ℕ
snapshot_ledger l t = le 4 l (snapshot_at t + 4)

abbrev pub snapshot_holding : List ℕ → ℕ → ℕ
snapshot_holding l t = amount_at l (snapshot_at t + 8)

abbrev pub holding : List ℕ → ℕ → ℕ → ℕ
holding l t a = amount_at l (holding_at t a)

abbrev pub credit : List ℕ → ℕ → ℕ → ℕ
credit l t a = amount_at l (credit_at t a)

-- ---- flags, and members of the capped set
abbrev pub initialised : List ℕ → ℕ
initialised l = bit (flags l) 0

abbrev pub has_operator : List ℕ → ℕ
has_operator l = bit (flags l) 2

abbrev pub has_operator_limit : List ℕ → ℕ
has_operator_limit l = bit (flags l) 3

abbrev pub has_pending : List ℕ → ℕ
has_pending l = bit (flags l) 4

abbrev pub has_migration : List ℕ → ℕ
has_migration l = bit (flags l) 5

abbrev pub is_capped : List ℕ → ℕ → ℕ
is_capped l a = bit (capped_set l) a

-- ---- a bit set, and a bit cleared
abbrev pub with_bit : ℕ → ℕ → ℕ
with_bit x k = x + 2 ^ k * (1 - bit x k)

abbrev pub without_bit : ℕ → ℕ → ℕ
without_bit x k = x - 2 ^ k * bit x k
