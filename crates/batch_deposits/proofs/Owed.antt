-- What `batch_deposit` owes to demand 3.
use Rattle.std.specs.Prelude.{◌≡◌, refl, List, ℕ, ◌<◌}
use Rattle.book.specs.Book.{Book, adds_items, enter_book}
use Rattle.book.specs.Owed.{Owed}
use Rattle.outcome.specs.Outcome.{Formed}
use Rattle.outcome.specs.FormedLaws.{item_in}
use Rattle.record.specs.Record.{operation_of, item_count_of, sequence_of, signers_of, item_address}
use Rattle.batch_deposits.proofs.Moved.{batch_good, batch_booked}
use Rattle.batch_deposits.specs.Batch.{batch_deposit}
use Rattle.record.specs.Form.{member, reads_items}

enter_4 : (b : Book) (r e : List ℕ) → operation_of r ≡ 4 → enter_book b r e ≡ adds_items (item_count_of r) 0 r b
unfolding enter_book
enter_4 b r e o = rw o

senders_in : {r : List ℕ} → Formed 4 r → (j : ℕ) → j < item_count_of r → item_address r j < 64
unfolding reads_items member
senders_in f = item_in f refl

pub batch_deposit_owed : Owed 4 batch_deposit
batch_deposit_owed =
    record {
      good = λ l r g f z. batch_good l r (signers_of r) (sequence_of r) (item_count_of r) g (senders_in f) z;
      booked = λ b l r g f z m. rw (enter_4 b r _ f.operation) (batch_booked l r (signers_of r) (sequence_of r) (item_count_of r) g (senders_in f) z b m);
    }
