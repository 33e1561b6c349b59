-- Operations 15 `propose_owner`, 16 `accept_owner` and 17 `set_owner_proposal_ttl`. l is the image; times are in seconds.
use Rattle.std.specs.Prelude.{List, [], ◌∷◌, ℕ, ◌+◌, ◌^◌}
use Rattle.outcome.specs.Outcome.{Outcome, announces}
use Rattle.checks.specs.Checks.{flag, pending_owner_bit, signed_number, owner_number}
use Rattle.events.specs.Kinds.{owner_proposed_event, owner_accepted_event, owner_proposal_ttl_set_event}
use Rattle.record.specs.Record.{caller_of, other_of, timestamp_of, signers_of, time_to_live_of}
use Rattle.image.specs.Layout.{flags, pending_owner, proposer, proposed_at, time_to_live, with_bit, without_bit}
use Rattle.fields.specs.Rules.{leq, eq, ne, Rule, when, verdict, chain}
use Rattle.fields.specs.Bytes.{put}

-- ---- 15: owner gate; 14 the new owner is address 0. A new proposal takes the place of an old one
abbrev pub new_owner_rules : ℕ → List Rule
new_owner_rules a = when (eq a 0) 14 ∷ []

unfoldable pub new_owner_number : ℕ → ℕ
new_owner_number a = verdict (new_owner_rules a)

unfoldable pub propose_number : List ℕ → ℕ → ℕ → ℕ → ℕ
propose_number l caller signers a = chain (owner_number l caller signers ∷ new_owner_number a ∷ [])

-- pending owner, proposer, and when it was proposed
unfoldable pub propose_outcome : List ℕ → ℕ → ℕ → ℕ → ℕ → Outcome
propose_outcome l caller signers a time =
    announces (propose_number l caller signers a) (owner_proposed_event caller a)
    (put 8 (put 1 (put 1 (put 2 l 0 (with_bit (flags l) pending_owner_bit)) 5 a) 6 caller) 40 time)

abbrev pub propose_owner : List ℕ → List ℕ → Outcome
propose_owner l r = propose_outcome l (caller_of r) (signers_of r) (other_of r) (timestamp_of r)

-- ---- 16: 15 none pending, 16 the caller is not it; 22; 7, 17 of the time to live that is stored now
abbrev pub pending_rules : List ℕ → ℕ → List Rule
pending_rules l caller = when (ne (flag pending_owner_bit l) 1) 15 ∷ when (ne (pending_owner l) caller) 16 ∷ []

unfoldable pub pending_number : List ℕ → ℕ → ℕ
pending_number l caller = verdict (pending_rules l caller)

-- 7: the sum passes 2 ^ 64 - 1; 17: the timestamp is at or after it
abbrev pub expired_rules : List ℕ → ℕ → List Rule
expired_rules l time =
    when (leq (2 ^ 64) (proposed_at l + time_to_live l)) 7
    ∷ when (leq (proposed_at l + time_to_live l) time) 17
    ∷ []

unfoldable pub expired_number : List ℕ → ℕ → ℕ
expired_number l time = verdict (expired_rules l time)

unfoldable pub accept_number : List ℕ → ℕ → ℕ → ℕ → ℕ
accept_number l caller signers time = chain (pending_number l caller ∷ signed_number signers caller ∷ expired_number l time ∷ [])

-- no owner pending: pending owner, proposer and proposed at are zero
unfoldable pub clear_pending : List ℕ → List ℕ
clear_pending l = put 8 (put 1 (put 1 (put 2 l 0 (without_bit (flags l) pending_owner_bit)) 5 0) 6 0) 40 0

-- the event names the stored proposer
unfoldable pub accept_outcome : List ℕ → ℕ → ℕ → ℕ → Outcome
accept_outcome l caller signers time =
    announces (accept_number l caller signers time) (owner_accepted_event caller (proposer l)) (put 1 (clear_pending l) 2 caller)

abbrev pub accept_owner : List ℕ → List ℕ → Outcome
accept_owner l r = accept_outcome l (caller_of r) (signers_of r) (timestamp_of r)

-- ---- 17: owner gate; 4 the time to live is 0
abbrev pub ttl_rules : ℕ → List Rule
ttl_rules ttl = when (eq ttl 0) 4 ∷ []

unfoldable pub ttl_number : ℕ → ℕ
ttl_number ttl = verdict (ttl_rules ttl)

unfoldable pub proposal_ttl_number : List ℕ → ℕ → ℕ → ℕ → ℕ
proposal_ttl_number l caller signers ttl = chain (owner_number l caller signers ∷ ttl_number ttl ∷ [])

unfoldable pub proposal_ttl_outcome : List ℕ → ℕ → ℕ → ℕ → Outcome
proposal_ttl_outcome l caller signers ttl =
    announces (proposal_ttl_number l caller signers ttl) (owner_proposal_ttl_set_event caller (time_to_live l) ttl) (put 8 l 48 ttl)

abbrev pub set_owner_proposal_ttl : List ℕ → List ℕ → Outcome
set_owner_proposal_ttl l r = proposal_ttl_outcome l (caller_of r) (signers_of r) (time_to_live_of r)
