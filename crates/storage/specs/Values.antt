-- The head's fields with some values changed.
use Rattle.std.specs.Prelude.{◌≡◌, ℕ, ◌<◌}
use Rattle.std.proofs.Common.{sym, ◌∙◌}
use Rattle.image.specs.Layout.{bit}
use Rattle.amount.specs.Biased.{bias}
use Rattle.storage.specs.Facts.{Fields}

module _ {f ow tok op pe pr de lim ol pa tl ma ea : ℕ} where
  pub with_owner : {ow' : ℕ} → ow' < 64 → Fields f ow tok op pe pr de lim ol pa tl ma ea → Fields f ow' tok op pe pr de lim ol pa tl ma ea
  with_owner h g = record {
    owner = h;
    default_token = g.default_token;
    is_token = g.is_token;
    operator = g.operator;
    pending_owner = g.pending_owner;
    proposer = g.proposer;
    destination = g.destination;
    vault_limit = g.vault_limit;
    time_to_live = g.time_to_live;
    no_operator = g.no_operator;
    operator_limit = g.operator_limit;
    no_operator_limit = g.no_operator_limit;
    no_pending = g.no_pending;
    no_migration = g.no_migration;
  }

  pub with_limit : {lim' : ℕ} → bias < lim' → Fields f ow tok op pe pr de lim ol pa tl ma ea → Fields f ow tok op pe pr de lim' ol pa tl ma ea
  with_limit h g = record {
    owner = g.owner;
    default_token = g.default_token;
    is_token = g.is_token;
    operator = g.operator;
    pending_owner = g.pending_owner;
    proposer = g.proposer;
    destination = g.destination;
    vault_limit = h;
    time_to_live = g.time_to_live;
    no_operator = g.no_operator;
    operator_limit = g.operator_limit;
    no_operator_limit = g.no_operator_limit;
    no_pending = g.no_pending;
    no_migration = g.no_migration;
  }

  pub with_ttl : {tl' : ℕ} → 0 < tl' → Fields f ow tok op pe pr de lim ol pa tl ma ea → Fields f ow tok op pe pr de lim ol pa tl' ma ea
  with_ttl h g = record {
    owner = g.owner;
    default_token = g.default_token;
    is_token = g.is_token;
    operator = g.operator;
    pending_owner = g.pending_owner;
    proposer = g.proposer;
    destination = g.destination;
    vault_limit = g.vault_limit;
    time_to_live = h;
    no_operator = g.no_operator;
    operator_limit = g.operator_limit;
    no_operator_limit = g.no_operator_limit;
    no_pending = g.no_pending;
    no_migration = g.no_migration;
  }

  pub with_flags : {f' : ℕ} → bit f' 2 ≡ bit f 2 → bit f' 3 ≡ bit f 3 → bit f' 4 ≡ bit f 4 → bit f' 5 ≡ bit f 5 → Fields f ow tok op pe pr de lim ol pa tl ma ea → Fields f' ow tok op pe pr de lim ol pa tl ma ea
  with_flags k2 k3 k4 k5 g = record {
    owner = g.owner;
    default_token = g.default_token;
    is_token = g.is_token;
    operator = g.operator;
    pending_owner = g.pending_owner;
    proposer = g.proposer;
    destination = g.destination;
    vault_limit = g.vault_limit;
    time_to_live = g.time_to_live;
    no_operator = λ z. g.no_operator (sym k2 ∙ z);
    operator_limit = λ z. g.operator_limit (sym k3 ∙ z);
    no_operator_limit = λ z. g.no_operator_limit (sym k3 ∙ z);
    no_pending = λ z. g.no_pending (sym k4 ∙ z);
    no_migration = λ z. g.no_migration (sym k5 ∙ z);
  }

  pub with_operator : {f' op' : ℕ} → bit f' 3 ≡ bit f 3 → bit f' 4 ≡ bit f 4 → bit f' 5 ≡ bit f 5 → op' < 64 → (bit f' 2 ≡ 0 → op' ≡ 0) → Fields f ow tok op pe pr de lim ol pa tl ma ea → Fields f' ow tok op' pe pr de lim ol pa tl ma ea
  with_operator k3 k4 k5 h z g = record {
    owner = g.owner;
    default_token = g.default_token;
    is_token = g.is_token;
    operator = h;
    pending_owner = g.pending_owner;
    proposer = g.proposer;
    destination = g.destination;
    vault_limit = g.vault_limit;
    time_to_live = g.time_to_live;
    no_operator = z;
    operator_limit = λ z. g.operator_limit (sym k3 ∙ z);
    no_operator_limit = λ z. g.no_operator_limit (sym k3 ∙ z);
    no_pending = λ z. g.no_pending (sym k4 ∙ z);
    no_migration = λ z. g.no_migration (sym k5 ∙ z);
  }

  pub with_operator_limit : {f' ol' : ℕ} → bit f' 2 ≡ bit f 2 → bit f' 4 ≡ bit f 4 → bit f' 5 ≡ bit f 5 → (bit f' 3 ≡ 1 → bias < ol') → (bit f' 3 ≡ 0 → ol' ≡ bias) → Fields f ow tok op pe pr de lim ol pa tl ma ea → Fields f' ow tok op pe pr de lim ol' pa tl ma ea
  with_operator_limit k2 k4 k5 h z g = record {
    owner = g.owner;
    default_token = g.default_token;
    is_token = g.is_token;
    operator = g.operator;
    pending_owner = g.pending_owner;
    proposer = g.proposer;
    destination = g.destination;
    vault_limit = g.vault_limit;
    time_to_live = g.time_to_live;
    no_operator = λ z. g.no_operator (sym k2 ∙ z);
    operator_limit = h;
    no_operator_limit = z;
    no_pending = λ z. g.no_pending (sym k4 ∙ z);
    no_migration = λ z. g.no_migration (sym k5 ∙ z);
  }

  pub with_pending : {f' pe' pr' pa' : ℕ} → bit f' 2 ≡ bit f 2 → bit f' 3 ≡ bit f 3 → bit f' 5 ≡ bit f 5 → pe' < 64 → pr' < 64 → (bit f' 4 ≡ 0 → (pe' ≡ 0) × (pr' ≡ 0) × (pa' ≡ 0)) → Fields f ow tok op pe pr de lim ol pa tl ma ea → Fields f' ow tok op pe' pr' de lim ol pa' tl ma ea
  with_pending k2 k3 k5 h h2 z g = record {
    owner = g.owner;
    default_token = g.default_token;
    is_token = g.is_token;
    operator = g.operator;
    pending_owner = h;
    proposer = h2;
    destination = g.destination;
    vault_limit = g.vault_limit;
    time_to_live = g.time_to_live;
    no_operator = λ z. g.no_operator (sym k2 ∙ z);
    operator_limit = λ z. g.operator_limit (sym k3 ∙ z);
    no_operator_limit = λ z. g.no_operator_limit (sym k3 ∙ z);
    no_pending = z;
    no_migration = λ z. g.no_migration (sym k5 ∙ z);
  }

  pub with_migration : {f' de' ma' ea' : ℕ} → bit f' 2 ≡ bit f 2 → bit f' 3 ≡ bit f 3 → bit f' 4 ≡ bit f 4 → de' < 64 → (bit f' 5 ≡ 0 → (de' ≡ 0) × (ma' ≡ 0) × (ea' ≡ 0)) → Fields f ow tok op pe pr de lim ol pa tl ma ea → Fields f' ow tok op pe pr de' lim ol pa tl ma' ea'
  with_migration k2 k3 k4 h z g = record {
    owner = g.owner;
    default_token = g.default_token;
    is_token = g.is_token;
    operator = g.operator;
    pending_owner = g.pending_owner;
    proposer = g.proposer;
    destination = h;
    vault_limit = g.vault_limit;
    time_to_live = g.time_to_live;
    no_operator = λ z. g.no_operator (sym k2 ∙ z);
    operator_limit = λ z. g.operator_limit (sym k3 ∙ z);
    no_operator_limit = λ z. g.no_operator_limit (sym k3 ∙ z);
    no_pending = λ z. g.no_pending (sym k4 ∙ z);
    no_migration = z;
  }
