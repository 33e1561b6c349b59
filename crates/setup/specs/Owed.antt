-- What operations 1 and 20 owe to demand 3: neither moves money; 1 sets the default token.
use Rattle.std.specs.Prelude.{◌≡◌, refl, List, ℕ, ◌+◌, ◌≤◌, ◌<◌}
use Rattle.std.proofs.Math.Path.{sym}
use Rattle.std.proofs.Common.{ap, arith}
use Rattle.book.specs.Book.{Book, enter_book, BookIs}
use Rattle.book.specs.Owed.{Owed}
use Rattle.book.specs.Entries.{unmoved, head_settled, quiet_operation, quiet}
use Rattle.outcome.specs.FormedLaws.{caller_in, amount_in}
use Rattle.checks.specs.Checks.{initialised_bit}
use Rattle.checks.specs.Passed.{flag_is, amount_free, owner_free}
use Rattle.record.specs.Form.{member, reads_caller}
use Rattle.record.specs.Record.{operation_of, caller_of, token_of, flag_of, signers_of, amount_of}
use Rattle.token.specs.Laws.{absent_free}
use Rattle.storage.specs.Heads.{at_head, at_head_amount, good_approved, good_initialise}
use Rattle.storage.specs.Facts.{Good}
use Rattle.storage.specs.Writes.{elsewhere}
use Rattle.image.specs.Layout.{slot, bit, flags, default_token, approved_set, kind, initialised, with_bit}
use Rattle.amount.specs.Biased.{bias, put_amount}
use Rattle.fields.specs.Logic.{◌and◌}
use Rattle.fields.specs.Frame.{Only, only_then, over, zero_le}
use Rattle.fields.specs.Rules.{free, unlinked}
use Rattle.fields.specs.Bytes.{put, length-put, le-put-same}
use Rattle.setup.specs.Setup.{valid_token_number, approve_number, approve_outcome, approve_token, done_before_rules, done_before_number, initialize_number, initialize_image, initialize_outcome, initialize}

-- ---- 20
approve_passed : (l : List ℕ) (caller signers t on : ℕ) → approve_number l caller signers t on ≡ 0 → initialised l ≡ 1
unfolding approve_number
approve_passed l caller signers t on z = (owner_free l caller signers refl (unlinked _ z).0).0

pub approve_token_owed : Owed 20 approve_token
unfolding approve_outcome quiet_operation ◌and◌
approve_token_owed =
    record {
      good = λ l r g f z. good_approved l g (approve_passed l (caller_of r) (signers_of r) (token_of r) (flag_of r) z) _;
      booked = λ b l r g f z m.
          rw (quiet b r _ 20 f.operation refl) (head_settled b m (at_head 8 l 72 _ (omega arith)) (simp elsewhere) (simp elsewhere) (simp elsewhere));
    }

-- ---- 1
-- what an accepted initialisation has shown
pub record Fresh (l : List ℕ) (t n : ℕ) : Type 0 where
  pub blank : initialised l ≡ 0
  pub low : 48 ≤ t
  pub high : t < 64
  pub present : 0 < kind l (slot t)
  pub above : bias < n

initialize_passed : (l : List ℕ) (caller signers t n : ℕ) → initialize_number l caller signers t n ≡ 0 → Fresh l t n
unfolding initialize_number valid_token_number done_before_number
initialize_passed l caller signers t n z =
    let u = unlinked _ z in
    let v = unlinked _ u.1.1.0 in
    let (low, (high, (here, _))) = absent_free l t refl v.1.0 in
    let before = (free (done_before_rules l) refl refl u.1.1.1.0).0 in
    let e = flag_is initialised_bit l in
    record { blank = omega arith; low = low; high = high; present = omega arith; above = (amount_free n refl u.1.0).0 }

-- the flags of an image that is not initialised are all off
fresh-flags : (l : List ℕ) → Good l → initialised l ≡ 0 → with_bit (flags l) initialised_bit ≡ 1
fresh-flags l g i =
    let z : flags l ≡ 0 = zero_le l 2 0 (λ j p q. g.blank i j p (omega arith)) in
    ap (λ (f : ℕ). with_bit f initialised_bit) z

module _ (l : List ℕ) (caller t n : ℕ) (g : Good l) (who : caller < 64) (q : n < bias + bias) (f : Fresh l t n) where
  -- all but the approved set
  before : List ℕ
  before = put 8 (put_amount (put 1 (put 1 (put 2 l 0 1) 2 caller) 3 t) 8 n) 48 604800

  good_before : Good before
  unfolding before
  good_before = good_initialise l caller t n 604800 g f.blank who f.low f.high f.present f.above q (omega arith) (omega arith)

  flags_before : flags before ≡ 1
  unfolding before
  flags_before = let w = g.long in let e = le-put-same 2 l 0 1 (omega arith) (omega arith) in simp (elsewhere, e)

  image_is : initialize_image l caller t n ≡ put 8 before 72 (with_bit (approved_set l) t)
  unfolding initialize_image before
  image_is = rw (fresh-flags l g f.blank)

  pub initialize_good : Good (initialize_image l caller t n)
  initialize_good = rw image_is (good_approved before good_before (ap (λ (x : ℕ). bit x 0) flags_before) _)

  only_initialize : Only 0 80 l (put 8 before 72 (with_bit (approved_set l) t))
  unfolding before
  only_initialize =
      only_then (at_head 2 l 0 1 (omega arith)) (only_then (at_head 1 _ 2 caller (omega arith)) (only_then (at_head 1 _ 3 t (omega arith))
      (only_then (at_head_amount _ 8 n (omega arith)) (only_then (at_head 8 _ 48 604800 (omega arith)) (at_head 8 _ 72 _ (omega arith))))))

  token_is : t ≡ default_token (put 8 before 72 (with_bit (approved_set l) t))
  unfolding before
  token_is =
      let w = g.long in
      let h = f.high in
      let e = le-put-same 1 (put 1 (put 2 l 0 1) 2 caller) 3 t (simp length-put (omega arith)) (omega arith) in
      sym (simp (elsewhere, e))

  pub initialize_booked : (b : Book) → BookIs b l → BookIs (record { numbers = b.numbers; tolls = b.tolls; token = t; destination = b.destination }) (initialize_image l caller t n)
  initialize_booked b m =
      rw image_is
      (unmoved b m (over 3680 16768 0 80 only_initialize (omega arith)) t b.destination token_is
      (λ i. let e : flags (put 8 before 72 (with_bit (approved_set l) t)) ≡ 1 = simp (elsewhere, flags_before) in absurd (off (rw e at i))))
    where
      off : bit 1 5 ≡ 1 → ⊥
      off e = omega arith

enter_1 : (b : Book) (r e : List ℕ) → operation_of r ≡ 1 → enter_book b r e ≡ record { numbers = b.numbers; tolls = b.tolls; token = token_of r; destination = b.destination }
unfolding enter_book
enter_1 b r e o = rw o

pub initialize_owed : Owed 1 initialize
unfolding initialize_outcome reads_caller member
initialize_owed =
    record {
      good = λ l r g f z.
          initialize_good l (caller_of r) (token_of r) (amount_of r) g (caller_in f refl) (amount_in f) (initialize_passed l (caller_of r) (signers_of r) (token_of r) (amount_of r) z);
      booked = λ b l r g f z m.
          rw (enter_1 b r _ f.operation)
          (initialize_booked l (caller_of r) (token_of r) (amount_of r) g (caller_in f refl) (amount_in f) (initialize_passed l (caller_of r) (signers_of r) (token_of r) (amount_of r) z) b m);
    }
