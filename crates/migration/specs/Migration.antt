-- Operations 21 `initiate_emergency_migration`, 22 `execute_emergency_migration` and 23 `cancel_emergency_migration`.
-- l is the image; amounts stand as numbers (value plus bias), times in seconds. None of the three asks whether the vault is paused.
use Rattle.std.specs.Prelude.{List, [], ◌∷◌, ℕ, ◌+◌, ◌-◌, ◌^◌, ltb}
use Rattle.outcome.specs.Outcome.{Outcome, announces}
use Rattle.checks.specs.Checks.{flag, migration_bit, owner_number}
use Rattle.events.specs.Kinds.{emergency_migration_initiated_event, emergency_migration_executed_event, emergency_migration_cancelled_event}
use Rattle.record.specs.Record.{caller_of, other_of, timestamp_of, signers_of}
use Rattle.token.specs.Token.{vault_balance, transfer_number, transfer_of}
use Rattle.image.specs.Layout.{flags, default_token, destination, executable_at, with_bit, without_bit}
use Rattle.amount.specs.Biased.{bias}
use Rattle.fields.specs.Rules.{pick, lt, leq, eq, ne, Rule, when, verdict, chain}
use Rattle.fields.specs.Bytes.{put}

-- 48 hours
abbrev pub timelock : ℕ
timelock = 172800

-- ---- 21: owner gate; 14 the destination is address 0; 7 timestamp plus timelock passes 2 ^ 64 - 1
abbrev pub proposal_rules : ℕ → ℕ → List Rule
proposal_rules to time = when (eq to 0) 14 ∷ when (leq (2 ^ 64) (time + timelock)) 7 ∷ []

unfoldable pub proposal_number : ℕ → ℕ → ℕ
proposal_number to time = verdict (proposal_rules to time)

unfoldable pub initiate_number : List ℕ → ℕ → ℕ → ℕ → ℕ → ℕ
initiate_number l caller signers to time = chain (owner_number l caller signers ∷ proposal_number to time ∷ [])

-- destination, proposed at and executable at
unfoldable pub initiate_outcome : List ℕ → ℕ → ℕ → ℕ → ℕ → Outcome
initiate_outcome l caller signers to time =
    announces (initiate_number l caller signers to time) (emergency_migration_initiated_event caller to (time + timelock))
    (put 8 (put 8 (put 1 (put 2 l 0 (with_bit (flags l) migration_bit)) 7 to) 56 time) 64 (time + timelock))

abbrev pub initiate_emergency_migration : List ℕ → List ℕ → Outcome
initiate_emergency_migration l r = initiate_outcome l (caller_of r) (signers_of r) (other_of r) (timestamp_of r)

-- ---- 22: owner gate; 20 none; 21 too early; 23 the transfer fails
abbrev pub no_migration_rules : List ℕ → List Rule
no_migration_rules l = when (ne (flag migration_bit l) 1) 20 ∷ []

unfoldable pub no_migration_number : List ℕ → ℕ
no_migration_number l = verdict (no_migration_rules l)

abbrev pub early_rules : List ℕ → ℕ → List Rule
early_rules l time = when (lt time (executable_at l)) 21 ∷ []

unfoldable pub early_number : List ℕ → ℕ → ℕ
early_number l time = verdict (early_rules l time)

unfoldable pub execute_checks : List ℕ → ℕ → ℕ → ℕ → ℕ
execute_checks l caller signers time = chain (owner_number l caller signers ∷ no_migration_number l ∷ early_number l time ∷ [])

-- the whole of the vault's balance goes to the destination; a holding of 0 makes no transfer, and the snapshot stays
unfoldable pub migrate_number : List ℕ → ℕ
migrate_number l = pick (ltb bias (vault_balance l)) (transfer_number l (default_token l) 1 (destination l) (vault_balance l)) 0

unfoldable pub migrate_holding : List ℕ → List ℕ
migrate_holding l = pick (ltb bias (vault_balance l)) (transfer_of l (default_token l) 1 (destination l) (vault_balance l)) l

unfoldable pub execute_number : List ℕ → ℕ → ℕ → ℕ → ℕ
execute_number l caller signers time = chain (execute_checks l caller signers time ∷ migrate_number l ∷ [])

-- no migration: destination, proposed at and executable at are zero
unfoldable pub clear_migration : List ℕ → List ℕ
clear_migration l = put 8 (put 8 (put 1 (put 2 l 0 (without_bit (flags l) migration_bit)) 7 0) 56 0) 64 0

-- value and event give the holding before the transfer
unfoldable pub execute_outcome : List ℕ → ℕ → ℕ → ℕ → Outcome
execute_outcome l caller signers time =
    record {
      number = execute_number l caller signers time;
      value = vault_balance l - bias;
      events = emergency_migration_executed_event caller (destination l) (vault_balance l) ∷ [];
      image = clear_migration (migrate_holding l);
    }

abbrev pub execute_emergency_migration : List ℕ → List ℕ → Outcome
execute_emergency_migration l r = execute_outcome l (caller_of r) (signers_of r) (timestamp_of r)

-- ---- 23: owner gate; 20 none
unfoldable pub cancel_number : List ℕ → ℕ → ℕ → ℕ
cancel_number l caller signers = chain (owner_number l caller signers ∷ no_migration_number l ∷ [])

unfoldable pub cancel_outcome : List ℕ → ℕ → ℕ → Outcome
cancel_outcome l caller signers =
    announces (cancel_number l caller signers) (emergency_migration_cancelled_event caller) (clear_migration l)

abbrev pub cancel_emergency_migration : List ℕ → List ℕ → Outcome
cancel_emergency_migration l r = cancel_outcome l (caller_of r) (signers_of r)
