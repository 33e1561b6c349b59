-- What operations 15 to 17 owe to demand 3: they move no money.
use Rattle.std.specs.Prelude.{◌≡◌, refl, List, ℕ, ◌<◌}
use Rattle.std.proofs.Common.{sym, ◌∙◌, arith}
use Rattle.std.proofs.Math.Path.{ap}
use Rattle.book.specs.Book.{Book, BookIs}
use Rattle.book.specs.Owed.{Owed}
use Rattle.book.specs.Entries.{head_settled, quiet_operation, quiet}
use Rattle.outcome.specs.FormedLaws.{caller_in, other_in, time_in}
use Rattle.checks.specs.Checks.{pending_owner_bit}
use Rattle.checks.specs.Passed.{flag_is, owner_free}
use Rattle.record.specs.Form.{member, reads_caller, reads_other}
use Rattle.record.specs.Record.{caller_of, other_of, timestamp_of, signers_of, time_to_live_of}
use Rattle.storage.specs.Heads.{on, off, at_head, flags-put, good_ttl, good_owner, good_propose, good_no_pending}
use Rattle.storage.specs.Facts.{Good}
use Rattle.storage.specs.Writes.{elsewhere}
use Rattle.storage.specs.Flags.{Turned}
use Rattle.image.specs.Layout.{bit, flags, initialised, has_pending}
use Rattle.amount.specs.Laws.{by_lt}
use Rattle.fields.specs.Logic.{◌and◌}
use Rattle.fields.specs.Frame.{only_then, zero_le}
use Rattle.fields.specs.Rules.{free, unlinked}
use Rattle.fields.specs.Bytes.{put}
use Rattle.handover.specs.Handover.{propose_number, propose_outcome, propose_owner, pending_rules, pending_number, accept_number, clear_pending, accept_outcome, accept_owner, ttl_rules, ttl_number, proposal_ttl_number, proposal_ttl_outcome, set_owner_proposal_ttl}

-- ---- the flag of a pending owner turned, and the fields that hang on it
module _ (l : List ℕ) (g : Good l) (f v a c w : ℕ) (t : Turned (flags l) 4 f v) where
  pending_flags : flags (put 8 (put 1 (put 1 (put 2 l 0 f) 5 a) 6 c) 40 w) ≡ f
  pending_flags = let e = flags-put l f g t.below in simp (elsewhere, e)

  pending_booked : (b : Book) → BookIs b l → BookIs b (put 8 (put 1 (put 1 (put 2 l 0 f) 5 a) 6 c) 40 w)
  pending_booked b m =
      head_settled b m
      (only_then (at_head 2 l 0 f (omega arith)) (only_then (at_head 1 _ 5 a (omega arith)) (only_then (at_head 1 _ 6 c (omega arith)) (at_head 8 _ 40 w (omega arith)))))
      (simp elsewhere) (simp elsewhere) (ap (λ (x : ℕ). bit x 5) pending_flags ∙ t.other 5 (omega arith) (λ q. omega arith))

-- ---- 15
propose_passed : (l : List ℕ) (caller signers a : ℕ) → propose_number l caller signers a ≡ 0 → initialised l ≡ 1
unfolding propose_number
propose_passed l caller signers a z = (owner_free l caller signers refl (unlinked _ z).0).0

pub propose_owner_owed : Owed 15 propose_owner
unfolding propose_outcome quiet_operation ◌and◌ reads_caller reads_other member
propose_owner_owed =
    record {
      good = λ l r g f z.
          let i = propose_passed l (caller_of r) (signers_of r) (other_of r) z in
          good_propose l g i (other_of r) (caller_of r) (timestamp_of r) (other_in f refl) (caller_in f refl) (time_in f 8);
      booked = λ b l r g f z m.
          let i = propose_passed l (caller_of r) (signers_of r) (other_of r) z in
          rw (quiet b r _ 15 f.operation refl) (pending_booked l g _ 1 (other_of r) (caller_of r) (timestamp_of r) (on l g i 4 (omega arith)) b m);
    }

-- ---- 16
-- an owner is pending only in an initialised image
pending_begun : (l : List ℕ) → Good l → has_pending l ≡ 1 → initialised l ≡ 1
pending_begun l g e =
    by_lt (initialised l) 1 (initialised l ≡ 1)
    (λ h. let z : flags l ≡ 0 = zero_le l 2 0 (λ i p q. g.blank (omega arith) i (omega arith) (omega arith)) in absurd (omega arith))
    (λ h. omega arith)

accept_passed : (l : List ℕ) (caller signers time : ℕ) → Good l → accept_number l caller signers time ≡ 0 → initialised l ≡ 1
unfolding accept_number pending_number
accept_passed l caller signers time g z =
    pending_begun l g (sym (flag_is pending_owner_bit l) ∙ (free (pending_rules l caller) refl refl (unlinked _ z).0).0)

module _ (l : List ℕ) (g : Good l) (i : initialised l ≡ 1) where
  good_clear : Good (clear_pending l)
  unfolding clear_pending
  good_clear = good_no_pending l g i

  clear_begun : initialised (clear_pending l) ≡ 1
  unfolding clear_pending
  clear_begun =
      let t = off l g i 4 (omega arith) in
      ap (λ (x : ℕ). bit x 0) (pending_flags l g _ 0 0 0 0 t) ∙ (t.other 0 (omega arith) (λ q. omega arith) ∙ i)

  clear_booked : (b : Book) → BookIs b l → BookIs b (clear_pending l)
  unfolding clear_pending
  clear_booked = pending_booked l g _ 0 0 0 0 (off l g i 4 (omega arith))

pub accept_owner_owed : Owed 16 accept_owner
unfolding accept_outcome quiet_operation ◌and◌ reads_caller member
accept_owner_owed =
    record {
      good = λ l r g f z.
          let i = accept_passed l (caller_of r) (signers_of r) (timestamp_of r) g z in
          good_owner (clear_pending l) (good_clear l g i) (clear_begun l g i) (caller_of r) (caller_in f refl);
      booked = λ b l r g f z m.
          let i = accept_passed l (caller_of r) (signers_of r) (timestamp_of r) g z in
          rw (quiet b r _ 16 f.operation refl)
          (head_settled b (clear_booked l g i b m) (at_head 1 (clear_pending l) 2 (caller_of r) (omega arith)) (simp elsewhere) (simp elsewhere) (simp elsewhere));
    }

-- ---- 17
ttl_passed : (l : List ℕ) (caller signers ttl : ℕ) → proposal_ttl_number l caller signers ttl ≡ 0 → (initialised l ≡ 1) × (0 < ttl)
unfolding proposal_ttl_number ttl_number
ttl_passed l caller signers ttl z =
    let u = unlinked _ z in
    let (p, _) = free (ttl_rules ttl) refl refl u.1.0 in
    ((owner_free l caller signers refl u.0).0, omega arith)

pub set-owner_proposal_ttl_owed : Owed 17 set_owner_proposal_ttl
unfolding proposal_ttl_outcome quiet_operation ◌and◌
set-owner_proposal_ttl_owed =
    record {
      good = λ l r g f z. let (i, p) = ttl_passed l (caller_of r) (signers_of r) (time_to_live_of r) z in good_ttl l g i (time_to_live_of r) p (time_in f 32);
      booked = λ b l r g f z m.
          rw (quiet b r _ 17 f.operation refl)
          (head_settled b m (at_head 8 l 48 (time_to_live_of r) (omega arith)) (simp elsewhere) (simp elsewhere) (simp elsewhere));
    }
