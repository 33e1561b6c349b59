-- What operations 21 to 23 owe to demand 3.
use Rattle.std.specs.Prelude.{◌≡◌, refl, List, ℕ, ◌+◌, ◌<◌}
use Rattle.std.proofs.Common.{arith}
use Rattle.book.specs.Book.{Book, BookIs, enter_book, migrates}
use Rattle.book.specs.Owed.{Owed}
use Rattle.book.specs.Entries.{unmoved, quiet_operation, quiet}
use Rattle.book.specs.Moves.{still_begun}
use Rattle.outcome.specs.FormedLaws.{other_in, time_in}
use Rattle.record.specs.Form.{member, reads_other}
use Rattle.record.specs.Record.{operation_of, caller_of, other_of, timestamp_of, signers_of}
use Rattle.storage.specs.Heads.{at_head, good_initiate}
use Rattle.storage.specs.Facts.{Good}
use Rattle.storage.specs.Writes.{elsewhere}
use Rattle.fields.specs.Logic.{◌and◌}
use Rattle.fields.specs.Frame.{only_then, over}
use Rattle.fields.specs.Bytes.{put, length-put, le-put-same}
use Rattle.migration.specs.Migration.{timelock, initiate_outcome, initiate_emergency_migration, migrate_holding, execute_outcome, execute_emergency_migration, cancel_outcome, cancel_emergency_migration}
use Rattle.migration.proofs.Laws.{initiate_free, execute_free, cancel_free, migrate_moves, good_migrate}
use Rattle.migration.proofs.Moved.{good_clear, clear_booked, migrate_booked}

-- ---- 21
enter_21 : (b : Book) (r e : List ℕ) → operation_of r ≡ 21 → enter_book b r e ≡ record { numbers = b.numbers; tolls = b.tolls; token = b.token; destination = other_of r }
unfolding enter_book
enter_21 b r e o = rw o

-- f the flags, a the destination, p and w the times
initiated_booked : (b : Book) (l : List ℕ) (f a p w : ℕ) → Good l → a < 64 → BookIs b l
    → BookIs (record { numbers = b.numbers; tolls = b.tolls; token = b.token; destination = a }) (put 8 (put 8 (put 1 (put 2 l 0 f) 7 a) 56 p) 64 w)
initiated_booked b l f a p w g h m =
    let n = g.long in
    let v = le-put-same 1 (put 2 l 0 f) 7 a (rw length-put (omega arith)) (omega arith) in
    unmoved b m
    (over 3680 16768 0 80 (only_then (at_head 2 l 0 f (omega arith)) (only_then (at_head 1 _ 7 a (omega arith)) (only_then (at_head 8 _ 56 p (omega arith)) (at_head 8 _ 64 w (omega arith))))) (omega arith))
    b.token a (simp elsewhere m.default) (λ o. simp (elsewhere, v))

pub initiate_emergency_migration_owed : Owed 21 initiate_emergency_migration
unfolding initiate_outcome reads_other member
initiate_emergency_migration_owed =
    record {
      good = λ l r g f z.
          let (i, s) = initiate_free l (caller_of r) (signers_of r) (other_of r) (timestamp_of r) refl z in
          good_initiate l g i (other_of r) (timestamp_of r) (timestamp_of r + timelock) (other_in f refl) (time_in f 8) s;
      booked = λ b l r g f z m.
          rw (enter_21 b r _ f.operation) (initiated_booked b l _ (other_of r) (timestamp_of r) (timestamp_of r + timelock) g (other_in f refl) m);
    }

-- ---- 22
enter_22 : (b : Book) (r e : List ℕ) → operation_of r ≡ 22 → enter_book b r e ≡ migrates b
unfolding enter_book
enter_22 b r e o = rw o

pub execute_emergency_migration_owed : Owed 22 execute_emergency_migration
unfolding execute_outcome
execute_emergency_migration_owed =
    record {
      good = λ l r g f z.
          let (i, o, t) = execute_free l (caller_of r) (signers_of r) (timestamp_of r) z in
          good_clear (migrate_holding l) (good_migrate l g i t) (still_begun (migrate_moves l g i t) i);
      booked = λ b l r g f z m.
          let (i, o, t) = execute_free l (caller_of r) (signers_of r) (timestamp_of r) z in
          rw (enter_22 b r _ f.operation)
          (clear_booked (migrate_holding l) (good_migrate l g i t) (still_begun (migrate_moves l g i t) i) (migrates b) (migrate_booked l g i o t b m));
    }

-- ---- 23
pub cancel_emergency_migration_owed : Owed 23 cancel_emergency_migration
unfolding cancel_outcome quiet_operation ◌and◌
cancel_emergency_migration_owed =
    record {
      good = λ l r g f z. good_clear l g (cancel_free l (caller_of r) (signers_of r) z);
      booked = λ b l r g f z m. rw (quiet b r _ 23 f.operation refl) (clear_booked l g (cancel_free l (caller_of r) (signers_of r) z) b m);
    }
