-- What the payouts owe to demand 3.
use Rattle.std.specs.Prelude.{◌≡◌, List, ℕ, ◌<◌}
use Rattle.std.proofs.Math.Path.{refl}
use Rattle.book.specs.Book.{Book, takes, takes_items, enter_book}
use Rattle.book.specs.Integers.{integer_of}
use Rattle.book.specs.Owed.{Owed}
use Rattle.outcome.specs.Outcome.{Formed}
use Rattle.outcome.specs.FormedLaws.{caller_in, other_in}
use Rattle.record.specs.Form.{member, reads_caller, reads_other}
use Rattle.record.specs.Record.{operation_of, caller_of, token_of, other_of, item_count_of, sequence_of, signers_of, amount_of}
use Rattle.payouts.specs.Moved.{takes_all}
use Rattle.payouts.proofs.Moved.{items-takes_all, withdraw_good, withdraw_booked, token_good, token_booked}
use Rattle.payouts.specs.Token.{withdraw_token_outcome, withdraw_token}
use Rattle.payouts.specs.Laws.{batch_addressed}
use Rattle.payouts.specs.Payouts.{withdraw_outcome, withdraw, withdraw_batch}

module _ {r : List ℕ} where
  payee_5 : Formed 5 r → other_of r < 64
  unfolding reads_other member
  payee_5 f = other_in f refl

  both_8 : Formed 8 r → (caller_of r < 64) × (other_of r < 64)
  unfolding reads_caller reads_other member
  both_8 f = (caller_in f refl, other_in f refl)

module _ (b : Book) (r e : List ℕ) where
  enter_5 : operation_of r ≡ 5 → enter_book b r e ≡ takes b.token (integer_of (amount_of r)) b
  unfolding enter_book
  enter_5 o = rw o

  enter_6 : operation_of r ≡ 6 → enter_book b r e ≡ takes_items (item_count_of r) 0 r b
  unfolding enter_book
  enter_6 o = rw o

  enter_8 : operation_of r ≡ 8 → enter_book b r e ≡ takes (token_of r) (integer_of (amount_of r)) b
  unfolding enter_book
  enter_8 o = rw o

pub withdraw_owed : Owed 5 withdraw
unfolding withdraw_outcome takes_all
withdraw_owed =
    record {
      good = λ l r g f z. withdraw_good l (caller_of r) (signers_of r) (sequence_of r) _ g (payee_5 f, tt) z;
      booked = λ b l r g f z m. rw (enter_5 b r _ f.operation) (withdraw_booked l (caller_of r) (signers_of r) (sequence_of r) _ g (payee_5 f, tt) z b m);
    }

pub withdraw_batch_owed : Owed 6 withdraw_batch
unfolding withdraw_outcome
withdraw_batch_owed =
    record {
      good = λ l r g f z. withdraw_good l (caller_of r) (signers_of r) (sequence_of r) _ g (batch_addressed f) z;
      booked = λ b l r g f z m.
          rw (enter_6 b r _ f.operation, items-takes_all (item_count_of r) 0 r b) (withdraw_booked l (caller_of r) (signers_of r) (sequence_of r) _ g (batch_addressed f) z b m);
    }

pub withdraw-token_owed : Owed 8 withdraw_token
unfolding withdraw_token_outcome
withdraw-token_owed =
    record {
      good = λ l r g f z. token_good l (token_of r) (caller_of r) (signers_of r) (sequence_of r) (other_of r) (amount_of r) g (both_8 f).0 (both_8 f).1 z;
      booked = λ b l r g f z m.
          rw (enter_8 b r _ f.operation) (token_booked l (token_of r) (caller_of r) (signers_of r) (sequence_of r) (other_of r) (amount_of r) g (both_8 f).0 (both_8 f).1 z b m);
    }
