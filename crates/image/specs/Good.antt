-- When an image is good (docs/FORMATS.md, "Good images").
use Rattle.std.specs.Prelude.{List, Bool, false, not, ℕ, zero, suc, ◌-◌, ◌*◌, eqb, ltb, leb, length, drop}
use Rattle.fields.specs.Logic.{◌and◌, ◌or◌, all}
use Rattle.fields.specs.Bytes.{bytes}
use Rattle.fields.specs.Rules.{pick}
use Rattle.fields.specs.Zeros.{each, zeros}
use Rattle.amount.specs.Biased.{amount_at, bias}
use Rattle.image.specs.Layout.{
  tracked_key_at,
  holdings_at,
  credits_at,
  flags,
  owner,
  default_token,
  operator,
  pending_owner,
  proposer,
  destination,
  proposed_at,
  time_to_live,
  migration_proposed_at,
  executable_at,
  tracked_count,
  vault_limit,
  operator_limit,
  cap,
  toll,
  kind,
  tracked_key,
  snapshot_present,
  snapshot_ledger,
  snapshot_holding,
  initialised,
  has_operator,
  has_operator_limit,
  has_pending,
  has_migration,
  is_capped,
}

unfoldable pub not_negative_here : List ℕ → Bool
not_negative_here s = leb bias (amount_at s 0)

-- the n amounts from at on are at least 0
unfoldable pub not_negatives : List ℕ → ℕ → ℕ → Bool
not_negatives l at n = each not_negative_here 16 n (drop at l)

-- an amount that is above 0 where it is set, and 0 where it is missing
unfoldable pub above_where : ℕ → ℕ → Bool
above_where set n = pick (eqb set 1) (ltb bias n) (eqb n bias)

-- ---- the head
unfoldable pub good_addresses : List ℕ → Bool
good_addresses l =
    ltb (owner l) 64 and ltb (default_token l) 64 and ltb (operator l) 64 and ltb (pending_owner l) 64 and ltb (proposer l) 64 and ltb (destination l) 64

unfoldable pub good_defaults : List ℕ → Bool
good_defaults l = ltb bias (vault_limit l) and ltb 0 (time_to_live l) and leb 48 (default_token l) and ltb 0 (kind l (default_token l - 48))

unfoldable pub good_pending : List ℕ → Bool
good_pending l = eqb (has_pending l) 1 or eqb (pending_owner l) 0 and eqb (proposer l) 0 and eqb (proposed_at l) 0

unfoldable pub good_migration : List ℕ → Bool
good_migration l = eqb (has_migration l) 1 or eqb (destination l) 0 and eqb (migration_proposed_at l) 0 and eqb (executable_at l) 0

unfoldable pub good_options : List ℕ → Bool
good_options l =
    (eqb (has_operator l) 1 or eqb (operator l) 0)
    and above_where (has_operator_limit l) (operator_limit l)
    and good_pending l
    and good_migration l

-- before initialisation nothing is set below 3680
unfoldable pub good_head : List ℕ → Bool
good_head l = ltb (flags l) 64 and pick (eqb (initialised l) 1) (good_addresses l and good_defaults l and good_options l) (zeros l 0 3680)

-- ---- caps
unfoldable pub good_cap : List ℕ → ℕ → Bool
good_cap l a = above_where (is_capped l a) (cap l a)

-- ---- tracked keys
unfoldable pub tracked : List ℕ → ℕ → ℕ → Bool  -- k is among the first n keys
tracked l zero k = false
tracked l (suc n) k = eqb (tracked_key l n) k or tracked l n k

unfoldable pub fresh_key : List ℕ → ℕ → Bool  -- key i is below 1,088 and not among the keys before it
fresh_key l i = ltb (tracked_key l i) 1088 and not (tracked l i (tracked_key l i))

unfoldable pub good_keys : List ℕ → Bool
good_keys l = leb (tracked_count l) 1088 and all (fresh_key l) (tracked_count l) and zeros l (tracked_key_at (tracked_count l)) (2176 - 2 * tracked_count l)

-- ---- tokens
unfoldable pub good_snapshot : List ℕ → ℕ → Bool
good_snapshot l t = ltb (snapshot_present l t) 2 and (eqb (snapshot_present l t) 1 or eqb (snapshot_ledger l t) 0 and eqb (snapshot_holding l t) bias)

unfoldable pub good_absent : List ℕ → ℕ → Bool
good_absent l t =
    eqb (toll l t) bias and eqb (snapshot_present l t) 0 and zeros l (holdings_at t) 1024 and zeros l (credits_at t) 1024

unfoldable pub good_present : List ℕ → ℕ → Bool
good_present l t = leb bias (toll l t) and not_negatives l (holdings_at t) 64 and not_negatives l (credits_at t) 64

unfoldable pub good_token : List ℕ → ℕ → Bool
good_token l t = ltb (kind l t) 3 and good_snapshot l t and pick (eqb (kind l t) 0) (good_absent l t) (good_present l t)

-- ---- the image
unfoldable pub good_image : List ℕ → Bool
good_image l = eqb (length l) 36832 and bytes l and good_head l and all (good_cap l) 64 and good_keys l and all (good_token l) 16
