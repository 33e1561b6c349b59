-- What the deposits owe to demand 3.
use Rattle.std.specs.Prelude.{◌≡◌, List, ℕ, ◌<◌, eqb, ◌-ℤ◌, get_or}
use Rattle.std.proofs.Math.Path.{refl, sym, subst}
use Rattle.std.proofs.Common.{arith}
use Rattle.book.specs.Book.{Book, adds, enter_book, BookIs}
use Rattle.book.specs.Integers.{integer_of, integer_less}
use Rattle.book.specs.Owed.{Owed}
use Rattle.outcome.specs.FormedLaws.{caller_in}
use Rattle.events.specs.Event.{event_buffer}
use Rattle.record.specs.Record.{operation_of, caller_of, token_of, sequence_of, signers_of, amount_of, fee_of}
use Rattle.storage.specs.Facts.{Good}
use Rattle.image.specs.Layout.{default_token}
use Rattle.fields.specs.Rules.{pick, unlinked}
use Rattle.deposits.specs.Deposit.{deposit_outcome, deposit, net_of, deposit_with_fee_outcome, deposit_with_fee}
use Rattle.deposits.specs.Report.{report_outcome, failure_report_outcome, deposit_with_failure_report}
use Rattle.deposits.proofs.Moved.{token_moves, deposit_booked, default_good, default_booked, report_good, report_booked}
use Rattle.deposits.specs.TokenDeposit.{deposit_token_outcome, deposit_token}
use Rattle.deposits.proofs.Laws.{checks_passed, gross_free, token_passed, receive_token_free}
use Rattle.record.specs.Form.{member, reads_caller}

enter_2 : (b : Book) (r e : List ℕ) → operation_of r ≡ 2 → enter_book b r e ≡ adds b.token (integer_of (amount_of r)) b
unfolding enter_book
enter_2 b r e o = rw o

enter_3 : (b : Book) (r e : List ℕ) → operation_of r ≡ 3 → enter_book b r e ≡ adds b.token (integer_of (amount_of r) -ℤ integer_of (fee_of r)) b
unfolding enter_book
enter_3 b r e o = rw o

enter_7 : (b : Book) (r e : List ℕ) → operation_of r ≡ 7 → enter_book b r e ≡ adds (token_of r) (integer_of (amount_of r)) b
unfolding enter_book
enter_7 b r e o = rw o

enter_9 : (b : Book) (r e : List ℕ) → operation_of r ≡ 9 → enter_book b r e ≡ pick (eqb (get_or e 0 0) 17) b (adds b.token (integer_of (amount_of r)) b)
unfolding enter_book
enter_9 b r e o = rw o

-- r is the record of an accepted operation, and its fields
module _ (l r : List ℕ) (g : Good l) where
  fee_good : caller_of r < 64 → (deposit_with_fee l r).number ≡ 0 → Good (deposit_with_fee l r).image
  unfolding deposit_with_fee_outcome deposit_outcome
  fee_good who z =
      let u = unlinked _ z in
      let v = unlinked _ u.1.0 in
      default_good l (caller_of r) (signers_of r) (sequence_of r) (net_of (amount_of r) (fee_of r)) g who v.0 v.1.0

  fee_booked : (b : Book) → BookIs b l → caller_of r < 64 → (deposit_with_fee l r).number ≡ 0 → BookIs (adds b.token (integer_of (amount_of r) -ℤ integer_of (fee_of r)) b) (deposit_with_fee l r).image
  unfolding deposit_with_fee_outcome deposit_outcome
  fee_booked b m who z =
      let u = unlinked _ z in
      let v = unlinked _ u.1.0 in
      let f = gross_free (amount_of r) (fee_of r) refl u.0 in
      let e : integer_of (amount_of r) -ℤ integer_of (fee_of r) ≡ integer_of (net_of (amount_of r) (fee_of r)) = sym (integer_less (amount_of r) (fee_of r) (net_of (amount_of r) (fee_of r)) (omega arith)) in
      rw e (default_booked l (caller_of r) (signers_of r) (sequence_of r) (net_of (amount_of r) (fee_of r)) g who v.0 v.1.0 b m)

  token_good : caller_of r < 64 → (deposit_token l r).number ≡ 0 → Good (deposit_token l r).image
  unfolding deposit_token_outcome
  token_good who z =
      let u = unlinked _ z in
      let (i, low, high, above) = token_passed l (token_of r) (caller_of r) (signers_of r) (sequence_of r) (amount_of r) refl u.0 in
      (token_moves l (token_of r) (caller_of r) (sequence_of r) (amount_of r) g i who above (receive_token_free l (token_of r) (caller_of r) (amount_of r) refl u.1.0)).good

  token_booked : (b : Book) → BookIs b l → caller_of r < 64 → (deposit_token l r).number ≡ 0 → BookIs (adds (token_of r) (integer_of (amount_of r)) b) (deposit_token l r).image
  unfolding deposit_token_outcome
  token_booked b m who z =
      let u = unlinked _ z in
      let (i, low, high, above) = token_passed l (token_of r) (caller_of r) (signers_of r) (sequence_of r) (amount_of r) refl u.0 in
      let y = receive_token_free l (token_of r) (caller_of r) (amount_of r) refl u.1.0 in
      deposit_booked l (token_of r) (caller_of r) (sequence_of r) (amount_of r) g i who above y (token_moves l (token_of r) (caller_of r) (sequence_of r) (amount_of r) g i who above y) b m

  reported_good : caller_of r < 64 → (deposit_with_failure_report l r).number ≡ 0 → Good (deposit_with_failure_report l r).image
  unfolding failure_report_outcome
  reported_good who z =
      let u = unlinked _ z in
      let f = checks_passed l (default_token l) (caller_of r) (signers_of r) (sequence_of r) (amount_of r) g refl refl u.0 in
      report_good l (default_token l) (caller_of r) (sequence_of r) (amount_of r) g f.begun who f.above u.1.0

  reported_booked : (b : Book) → BookIs b l → caller_of r < 64 → (deposit_with_failure_report l r).number ≡ 0
      → BookIs (pick (eqb (get_or (event_buffer (deposit_with_failure_report l r).events) 0 0) 17) b (adds b.token (integer_of (amount_of r)) b)) (deposit_with_failure_report l r).image
  unfolding failure_report_outcome
  reported_booked b m who z =
      let u = unlinked _ z in
      let f = checks_passed l (default_token l) (caller_of r) (signers_of r) (sequence_of r) (amount_of r) g refl refl u.0 in
      subst (λ (t : ℕ). BookIs (pick (eqb (get_or (event_buffer (report_outcome l (default_token l) (caller_of r) (sequence_of r) (amount_of r)).events) 0 0) 17) b (adds t (integer_of (amount_of r)) b)) (report_outcome l (default_token l) (caller_of r) (sequence_of r) (amount_of r)).image) (sym m.default)
      (report_booked l (default_token l) (caller_of r) (sequence_of r) (amount_of r) g f.begun who f.above b m u.1.0)

pub deposit_owed : Owed 2 deposit
unfolding deposit_outcome reads_caller member
deposit_owed =
    record {
      good = λ l r g f z. let u = unlinked _ z in default_good l (caller_of r) (signers_of r) (sequence_of r) (amount_of r) g (caller_in f refl) u.0 u.1.0;
      booked = λ b l r g f z m. let u = unlinked _ z in
          rw (enter_2 b r _ f.operation) (default_booked l (caller_of r) (signers_of r) (sequence_of r) (amount_of r) g (caller_in f refl) u.0 u.1.0 b m);
    }

pub deposit_with_fee_owed : Owed 3 deposit_with_fee
unfolding reads_caller member
deposit_with_fee_owed =
    record {
      good = λ l r g f z. fee_good l r g (caller_in f refl) z;
      booked = λ b l r g f z m. rw (enter_3 b r _ f.operation) (fee_booked l r g b m (caller_in f refl) z);
    }

pub deposit-token_owed : Owed 7 deposit_token
unfolding reads_caller member
deposit-token_owed =
    record {
      good = λ l r g f z. token_good l r g (caller_in f refl) z;
      booked = λ b l r g f z m. rw (enter_7 b r _ f.operation) (token_booked l r g b m (caller_in f refl) z);
    }

pub deposit_with_failure_report_owed : Owed 9 deposit_with_failure_report
unfolding reads_caller member
deposit_with_failure_report_owed =
    record {
      good = λ l r g f z. reported_good l r g (caller_in f refl) z;
      booked = λ b l r g f z m. rw (enter_9 b r _ f.operation) (reported_booked l r g b m (caller_in f refl) z);
    }
