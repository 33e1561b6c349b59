-- What the checks of a migration that passed say, and the transfer of the vault's holding.
use Rattle.std.specs.Prelude.{◌≡◌, refl, Bool, true, false, List, ℕ, ◌+◌, ◌≤◌, ◌<◌, ◌^◌, ltb}
use Rattle.std.proofs.Common.{sym, ◌∙◌, arith, lt-ltb, le-ltb, ltb-true, ltb-false}
use Rattle.book.specs.Moves.{Moves, moves_none, transfer_moves}
use Rattle.checks.specs.Checks.{migration_bit}
use Rattle.checks.specs.Passed.{flag_is, owner_free}
use Rattle.token.specs.Token.{vault_balance, transfer_number, transfer_of}
use Rattle.token.specs.Laws.{transfer_free}
use Rattle.storage.specs.Facts.{Good}
use Rattle.storage.specs.Writes.{default_range, holding_range}
use Rattle.image.specs.Layout.{slot, default_token, destination, holding, initialised, has_migration}
use Rattle.amount.specs.Biased.{bias}
use Rattle.fields.specs.Rules.{free, unlinked}
use Rattle.migration.specs.Migration.{timelock, proposal_rules, proposal_number, initiate_number, no_migration_rules, no_migration_number, execute_checks, migrate_number, migrate_holding, execute_number, cancel_number}

pub initiate_free : (l : List ℕ) (caller signers to time : ℕ) {k : ℕ} → k ≡ initiate_number l caller signers to time → k ≡ 0 → (initialised l ≡ 1) × (time + timelock < 2 ^ 64)
unfolding initiate_number proposal_number
initiate_free l caller signers to time e z =
    let u = unlinked _ (sym e ∙ z) in
    let (_, (s, _)) = free (proposal_rules to time) refl refl u.1.0 in
    ((owner_free l caller signers refl u.0).0, s)

-- a migration is open
pub migrating : (l : List ℕ) → no_migration_number l ≡ 0 → has_migration l ≡ 1
unfolding no_migration_number
migrating l z = sym (flag_is migration_bit l) ∙ (free (no_migration_rules l) refl refl z).0

pub checks_free : (l : List ℕ) (caller signers time : ℕ) {k : ℕ} → k ≡ execute_checks l caller signers time → k ≡ 0 → (initialised l ≡ 1) × (has_migration l ≡ 1)
unfolding execute_checks
checks_free l caller signers time e z =
    let u = unlinked _ (sym e ∙ z) in
    ((owner_free l caller signers refl u.0).0, migrating l u.1.0)

pub execute_free : (l : List ℕ) (caller signers time : ℕ) → execute_number l caller signers time ≡ 0 → (initialised l ≡ 1) × (has_migration l ≡ 1) × (migrate_number l ≡ 0)
unfolding execute_number
execute_free l caller signers time z =
    let u = unlinked _ z in
    let (i, m) = checks_free l caller signers time refl u.0 in
    (i, m, u.1.0)

pub cancel_free : (l : List ℕ) (caller signers : ℕ) → cancel_number l caller signers ≡ 0 → initialised l ≡ 1
unfolding cancel_number
cancel_free l caller signers z = (owner_free l caller signers refl (unlinked _ z).0).0

-- ---- the transfer
-- nothing is held
pub held_none : (l : List ℕ) → vault_balance l ≤ bias → (migrate_number l ≡ 0) × (migrate_holding l ≡ l)
unfolding migrate_number migrate_holding
held_none l h = (rw (le-ltb bias (vault_balance l) h), rw (le-ltb bias (vault_balance l) h))

pub held_some : (l : List ℕ) → bias < vault_balance l
    → (migrate_number l ≡ transfer_number l (default_token l) 1 (destination l) (vault_balance l)) × (migrate_holding l ≡ transfer_of l (default_token l) 1 (destination l) (vault_balance l))
unfolding migrate_number migrate_holding
held_some l h = (rw (lt-ltb bias (vault_balance l) h), rw (lt-ltb bias (vault_balance l) h))

module _ (l : List ℕ) (g : Good l) (i : initialised l ≡ 1) where
  pub held_range : bias ≤ vault_balance l
  held_range = let (low, high) = default_range l g i in (holding_range l (slot (default_token l)) 1 g (omega arith) (omega arith)).0

  pub migrate_moves : migrate_number l ≡ 0 → Moves (default_token l) (holding (migrate_holding l) (slot (default_token l)) 1) l (migrate_holding l)
  migrate_moves z = go (ltb bias (vault_balance l)) refl
    where
      go : (b : Bool) → ltb bias (vault_balance l) ≡ b → Moves (default_token l) (holding (migrate_holding l) (slot (default_token l)) 1) l (migrate_holding l)
      go true e =
          let h = ltb-true bias (vault_balance l) e in
          let (n, m) = held_some l h in
          let f = transfer_free l (default_token l) 1 (destination l) (vault_balance l) refl (sym n ∙ z) in
          rw m (transfer_moves l (default_token l) 1 (destination l) (vault_balance l) g (omega arith) (g.fields i).destination held_range f)
      go false e = rw (held_none l (ltb-false bias (vault_balance l) e)).1 (moves_none (default_token l) l g)

  pub good_migrate : migrate_number l ≡ 0 → Good (migrate_holding l)
  good_migrate z = (migrate_moves z).good
