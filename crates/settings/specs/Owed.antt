-- What operations 10 to 14, 18 and 19 owe to demand 3: none of them moves money.
use Rattle.std.specs.Prelude.{◌≡◌, refl, List, ℕ, ◌<◌}
use Rattle.std.proofs.Common.{sym, ap, ◌∙◌, arith}
use Rattle.book.specs.Book.{Book, BookIs}
use Rattle.book.specs.Owed.{Owed}
use Rattle.book.specs.Entries.{settled, head_settled, quiet_operation, quiet}
use Rattle.outcome.specs.FormedLaws.{token_in, other_in, amount_in}
use Rattle.checks.specs.Passed.{initialised_free, amount_free, owner_free, shared_free}
use Rattle.record.specs.Form.{member, reads_token, reads_other}
use Rattle.record.specs.Record.{caller_of, token_of, other_of, signers_of, amount_of}
use Rattle.storage.specs.Kept.{set_cap_below, set_cap_above, good_set_cap}
use Rattle.storage.specs.Heads.{at_head, at_head_amount, flags-put, good_limit, good_pause, good_unpause, good_set-operator, good_revoke_operator, good_set-operator_limit}
use Rattle.storage.specs.Facts.{Good}
use Rattle.storage.specs.Writes.{elsewhere}
use Rattle.storage.specs.Flags.{Turned, flag_on, flag_off}
use Rattle.image.specs.Layout.{bit, flags, default_token, destination, initialised}
use Rattle.amount.specs.Biased.{bias}
use Rattle.fields.specs.Logic.{◌and◌}
use Rattle.fields.specs.Frame.{Only, only_then, same-le}
use Rattle.fields.specs.Rules.{unlinked}
use Rattle.settings.specs.Settings.{operator_limit_number, operator_limit_outcome, set_operator_withdraw_limit, limit_set_number, limit_set_outcome, set_limit, token_max_limit_number, token_max_limit_outcome, set_token_max_limit, operator_set_outcome, set_operator, operator_revoked_outcome, revoke_operator, pause_number, pause_outcome, pause, unpause_number, unpause_outcome, unpause}

-- the flags after one of them, other than the migration's, is turned: default token, destination and migration are read as before
module _ (b : Book) (l : List ℕ) (g : Good l) (fits : BookIs b l) where
  -- m is the image after, written below 80; f its flags
  turned_booked : (m : List ℕ) (k f v : ℕ) → Turned (flags l) k f v → (5 ≡ k → ⊥) → flags m ≡ f → Only 0 80 l m → default_token m ≡ default_token l → destination m ≡ destination l → BookIs b m
  turned_booked m k f v t n e o d s = head_settled b fits o d s (ap (λ (x : ℕ). bit x 5) e ∙ t.other 5 (omega arith) n)

  same_booked : (m : List ℕ) → flags m ≡ flags l → Only 0 80 l m → default_token m ≡ default_token l → destination m ≡ destination l → BookIs b m
  same_booked m e o d s = head_settled b fits o d s (ap (λ (x : ℕ). bit x 5) e)

-- ---- 18, 19
pause_passed : (l : List ℕ) (caller signers : ℕ) → pause_number l caller signers ≡ 0 → initialised l ≡ 1
unfolding pause_number
pause_passed l caller signers z = (owner_free l caller signers refl (unlinked _ z).0).0

unpause_passed : (l : List ℕ) (caller signers : ℕ) → unpause_number l caller signers ≡ 0 → initialised l ≡ 1
unfolding unpause_number
unpause_passed l caller signers z = (owner_free l caller signers refl (unlinked _ z).0).0

pub pause_owed : Owed 18 pause
unfolding pause_outcome quiet_operation ◌and◌
pause_owed =
    record {
      good = λ l r g f z. good_pause l g (pause_passed l (caller_of r) (signers_of r) z);
      booked = λ b l r g f z m.
          let t = flag_on (flags l) 1 g.flagged (omega arith) in
          rw (quiet b r _ 18 f.operation refl)
          (turned_booked b l g m _ 1 _ 1 t (λ q. omega arith) (flags-put l _ g t.below) (at_head 2 l 0 _ (omega arith)) (simp elsewhere) (simp elsewhere));
    }

pub unpause_owed : Owed 19 unpause
unfolding unpause_outcome quiet_operation ◌and◌
unpause_owed =
    record {
      good = λ l r g f z. good_unpause l g (unpause_passed l (caller_of r) (signers_of r) z);
      booked = λ b l r g f z m.
          let t = flag_off (flags l) 1 g.flagged (omega arith) in
          rw (quiet b r _ 19 f.operation refl)
          (turned_booked b l g m _ 1 _ 0 t (λ q. omega arith) (flags-put l _ g t.below) (at_head 2 l 0 _ (omega arith)) (simp elsewhere) (simp elsewhere));
    }

-- ---- 13, 14
pub set-operator_owed : Owed 13 set_operator
unfolding operator_set_outcome quiet_operation ◌and◌ reads_other member
set-operator_owed =
    record {
      good = λ l r g f z. good_set-operator l g (owner_free l (caller_of r) (signers_of r) refl z).0 (other_of r) (other_in f refl);
      booked = λ b l r g f z m.
          let t = flag_on (flags l) 2 g.flagged (omega arith) in
          let e = flags-put l _ g t.below in
          rw (quiet b r _ 13 f.operation refl)
          (turned_booked b l g m _ 2 _ 1 t (λ q. omega arith) (simp (elsewhere, e)) (only_then (at_head 2 l 0 _ (omega arith)) (at_head 1 _ 4 (other_of r) (omega arith))) (simp elsewhere) (simp elsewhere));
    }

pub revoke_operator_owed : Owed 14 revoke_operator
unfolding operator_revoked_outcome quiet_operation ◌and◌
revoke_operator_owed =
    record {
      good = λ l r g f z. good_revoke_operator l g (owner_free l (caller_of r) (signers_of r) refl z).0;
      booked = λ b l r g f z m.
          let t = flag_off (flags l) 2 g.flagged (omega arith) in
          let e = flags-put l _ g t.below in
          rw (quiet b r _ 14 f.operation refl)
          (turned_booked b l g m _ 2 _ 0 t (λ q. omega arith) (simp (elsewhere, e)) (only_then (at_head 2 l 0 _ (omega arith)) (at_head 1 _ 4 0 (omega arith))) (simp elsewhere) (simp elsewhere));
    }

-- ---- 10
operator_limit_passed : (l : List ℕ) (caller signers n : ℕ) → operator_limit_number l caller signers n ≡ 0 → (initialised l ≡ 1) × (bias < n)
unfolding operator_limit_number
operator_limit_passed l caller signers n z = let u = unlinked _ z in ((owner_free l caller signers refl u.1.0).0, (amount_free n refl u.1.1.0).0)

pub set-operator-withdraw_limit_owed : Owed 10 set_operator_withdraw_limit
unfolding operator_limit_outcome quiet_operation ◌and◌
set-operator-withdraw_limit_owed =
    record {
      good = λ l r g f z. let (i, p) = operator_limit_passed l (caller_of r) (signers_of r) (amount_of r) z in good_set-operator_limit l g i (amount_of r) p (amount_in f);
      booked = λ b l r g f z m.
          let t = flag_on (flags l) 3 g.flagged (omega arith) in
          let e = flags-put l _ g t.below in
          rw (quiet b r _ 10 f.operation refl)
          (turned_booked b l g m _ 3 _ 1 t (λ q. omega arith) (simp (elsewhere, e)) (only_then (at_head 2 l 0 _ (omega arith)) (at_head_amount _ 24 (amount_of r) (omega arith))) (simp elsewhere) (simp elsewhere));
    }

-- ---- 11
limit_passed : (l : List ℕ) (caller signers n : ℕ) → limit_set_number l caller signers n ≡ 0 → (initialised l ≡ 1) × (bias < n)
unfolding limit_set_number
limit_passed l caller signers n z = let u = unlinked _ z in (initialised_free l refl u.1.0, (amount_free n refl u.1.1.0).0)

pub set_limit_owed : Owed 11 set_limit
unfolding limit_set_outcome quiet_operation ◌and◌
set_limit_owed =
    record {
      good = λ l r g f z. let (i, p) = limit_passed l (caller_of r) (signers_of r) (amount_of r) z in good_limit l g i (amount_of r) p (amount_in f);
      booked = λ b l r g f z m.
          rw (quiet b r _ 11 f.operation refl) (same_booked b l g m _ (simp elsewhere) (at_head_amount l 8 (amount_of r) (omega arith)) (simp elsewhere) (simp elsewhere));
    }

-- ---- 12
token-max_limit_passed : (l : List ℕ) (caller signers n : ℕ) → token_max_limit_number l caller signers n ≡ 0 → (initialised l ≡ 1) × (bias < n)
unfolding token_max_limit_number
token-max_limit_passed l caller signers n z = let u = unlinked _ z in (shared_free l caller signers refl u.1.0, (amount_free n refl u.1.1.0).0)

pub set-token-max_limit_owed : Owed 12 set_token_max_limit
unfolding token_max_limit_outcome quiet_operation ◌and◌ reads_token member
set-token-max_limit_owed =
    record {
      good = λ l r g f z. let (i, p) = token-max_limit_passed l (caller_of r) (signers_of r) (amount_of r) z in good_set_cap l (token_of r) (amount_of r) (token_in f refl) g i p (amount_in f);
      booked = λ b l r g f z m.
          let a = token_in f refl in
          let low = set_cap_below l (token_of r) (amount_of r) a g.keys in
          rw (quiet b r _ 12 f.operation refl)
          (settled b m (set_cap_above l (token_of r) (amount_of r) a g.keys 3680 16768 (omega arith)) (same-le 1 3 (low 3 1 (omega arith)))
          (λ i. (sym (ap (λ (x : ℕ). bit x 5) (same-le 2 0 (low 0 2 (omega arith)))) ∙ i, same-le 1 7 (low 7 1 (omega arith)))));
    }
