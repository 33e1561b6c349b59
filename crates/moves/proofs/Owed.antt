-- What operations 29 and 30 owe to demand 3.
use Rattle.std.specs.Prelude.{◌≡◌, refl, Bool, true, false, List, ℕ, ◌+◌, ◌<◌, eqb}
use Rattle.std.proofs.Common.{sym, ◌∙◌, arith, eq-eqb, ne_eqb}
use Rattle.std.proofs.Math.Decide.{ℕ_discrete}
use Rattle.book.specs.Book.{Book, BookIs, adds, enter_book}
use Rattle.book.specs.Entries.{added, still_booked, kind_booked, quiet_operation, quiet}
use Rattle.book.specs.Moves.{transfer_moves}
use Rattle.book.specs.Integers.{integer_of}
use Rattle.book.specs.Owed.{Owed}
use Rattle.outcome.specs.FormedLaws.{caller_in, other_in}
use Rattle.record.specs.Form.{member, reads_caller, reads_other}
use Rattle.record.specs.Record.{operation_of, caller_of, token_of, other_of, flag_of, amount_of}
use Rattle.token.specs.Token.{arrives, transfer_rules, transfer_of}
use Rattle.token.specs.Laws.{transfer_arrives, transfer_other, good_transfer}
use Rattle.storage.specs.Facts.{Good}
use Rattle.storage.specs.Writes.{good_kind}
use Rattle.image.specs.Layout.{slot, toll, holding}
use Rattle.amount.specs.Biased.{bias}
use Rattle.fields.specs.Logic.{◌and◌}
use Rattle.fields.specs.Rules.{AllFail, pick}
use Rattle.moves.specs.Outside.{outside_move_outcome, outside_move, frozen_kind, freeze_outcome, freeze}
use Rattle.moves.specs.Laws.{outside_move_free, freeze_free}

-- ---- 29
enter_29 : (b : Book) (r e : List ℕ) → operation_of r ≡ 29 → enter_book b r e ≡ pick (eqb (other_of r) 1) (adds (token_of r) (integer_of (amount_of r)) b) b
unfolding enter_book
enter_29 b r e o = rw o

module _ (l : List ℕ) (from t to n : ℕ) (g : Good l) (fh : from < 64) (toh : to < 64) (s : from ≡ 1 → ⊥) (p : bias < n) (f : AllFail (transfer_rules l t from to n)) where
  -- to the vault: what arrives is added
  arrived : to ≡ 1 → holding (transfer_of l t from to n) (slot t) 1 ≡ holding l (slot t) 1 + arrives (toll l (slot t)) n
  arrived q =
      let (low, (high, (moving, (enough, (fits, _))))) = f in
      let h = transfer_arrives l t from to n g.long high fh toh (λ e. s (e ∙ q)) fits in
      rw q (rw q at h)

  outside_booked : (b : Book) → BookIs b l → BookIs (pick (eqb to 1) (adds t (integer_of n) b) b) (transfer_of l t from to n)
  unfolding arrives
  outside_booked b m = go (ℕ_discrete to 1)
    where
      go : Dec (to ≡ 1) → BookIs (pick (eqb to 1) (adds t (integer_of n) b) b) (transfer_of l t from to n)
      go (yes q) =
          let (low, (high, _)) = f in
          let v = transfer_moves l t from to n g fh toh (omega arith) f in
          rw (eq-eqb to 1 q) (added b m v low high n (arrived q))
      go (no q) =
          let v = transfer_moves l t from to n g fh toh (omega arith) f in
          let e = transfer_other l t from to n 1 (λ y. s (sym y)) (λ y. q (sym y)) in
          rw (ne_eqb to 1 q) (still_booked b m (rw e at v))

pub outside_move_owed : Owed 29 outside_move
unfolding outside_move_outcome reads_caller reads_other member
outside_move_owed =
    record {
      good = λ l r g f z.
          let (s, p, a) = outside_move_free l (caller_of r) (token_of r) (other_of r) (amount_of r) z in
          good_transfer l (token_of r) (caller_of r) (other_of r) (amount_of r) g (caller_in f refl) (other_in f refl) (omega arith) a;
      booked = λ b l r g f z m.
          let (s, p, a) = outside_move_free l (caller_of r) (token_of r) (other_of r) (amount_of r) z in
          rw (enter_29 b r _ f.operation) (outside_booked l (caller_of r) (token_of r) (other_of r) (amount_of r) g (caller_in f refl) (other_in f refl) s p a b m);
    }

-- ---- 30
frozen_range : (on : ℕ) → (0 < frozen_kind on) × (frozen_kind on < 3)
unfolding frozen_kind
frozen_range on = go (eqb on 1) refl
  where
    go : (t : Bool) → eqb on 1 ≡ t → (0 < frozen_kind on) × (frozen_kind on < 3)
    go true e = rw e (omega arith)
    go false e = rw e (omega arith)

pub freeze_owed : Owed 30 freeze
unfolding freeze_outcome quiet_operation ◌and◌
freeze_owed =
    record {
      good = λ l r g f z.
          let (low, high, _) = freeze_free l (token_of r) refl z in
          let (p, q) = frozen_range (flag_of r) in
          good_kind l (slot (token_of r)) (frozen_kind (flag_of r)) g (omega arith) p q;
      booked = λ b l r g f z m.
          let (low, high, k) = freeze_free l (token_of r) refl z in
          rw (quiet b r _ 30 f.operation refl) (kind_booked b l (slot (token_of r)) (frozen_kind (flag_of r)) (omega arith) m);
    }
