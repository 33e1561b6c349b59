-- What storage.rs writes besides plain fields: tracked keys, credits, caps and snapshots. A token is named by its address t, an amount stands as its number.
use Rattle.std.specs.Prelude.{List, [], ◌∷◌, ℕ, ◌+◌, ◌*◌}
use Rattle.image.specs.Layout.{slot, cap_at, snapshot_at, tracked_key_at, credit_at, capped_set, tracked_count, snapshot_present, snapshot_ledger, snapshot_holding, with_bit}
use Rattle.image.specs.Good.{tracked}
use Rattle.amount.specs.Biased.{put_amount}
use Rattle.fields.specs.Rules.{pick, ne, Rule, when, verdict}
use Rattle.fields.specs.Bytes.{put}

-- track_vault_key: a key that is not among the tracked ones is appended
unfoldable pub track_key : List ℕ → ℕ → List ℕ
track_key l k = pick (tracked l (tracked_count l) k) l (put 8 (put 2 l (tracked_key_at (tracked_count l)) k) 88 (tracked_count l + 1))

-- set_token_account_balance: the credit of account a in token t, and its key
abbrev pub credit_key : ℕ → ℕ → ℕ
credit_key t a = 64 * slot t + a

unfoldable pub set_credit : List ℕ → ℕ → ℕ → ℕ → List ℕ
set_credit l t a n = track_key (put_amount l (credit_at (slot t) a) n) (credit_key t a)

-- set_token_max_limit: the cap of an address, its bit, and its key
unfoldable pub set_cap : List ℕ → ℕ → ℕ → List ℕ
set_cap l a n = track_key (put_amount (put 8 l 80 (with_bit (capped_set l) a)) (cap_at a) n) (1024 + a)

-- record_vault_balance: the snapshot of token t at ledger sequence q
unfoldable pub record_balance : List ℕ → ℕ → ℕ → ℕ → List ℕ
record_balance l t q n = put_amount (put 4 (put 4 l (snapshot_at (slot t)) 1) (snapshot_at (slot t) + 4) q) (snapshot_at (slot t) + 8) n

-- check_vault_balance: 11 where the snapshot of this sequence shows another holding than n, and 0
abbrev pub snapshot_rules : List ℕ → ℕ → ℕ → ℕ → List Rule
snapshot_rules l t q n =
    when (ne (snapshot_present l (slot t)) 1) 0
    ∷ when (ne (snapshot_ledger l (slot t)) q) 0
    ∷ when (ne (snapshot_holding l (slot t)) n) 11
    ∷ []

unfoldable pub snapshot_number : List ℕ → ℕ → ℕ → ℕ → ℕ
snapshot_number l t q n = verdict (snapshot_rules l t q n)
