-- An accepted deposit leaves the image good, and moves image and book alike; its token takes no toll.
use Rattle.std.specs.Prelude.{◌≡◌, Bool, List, ℕ, ◌+◌, ◌-◌, ◌≤◌, ◌<◌, ltb, get_or}
use Rattle.std.proofs.Math.Path.{refl}
use Rattle.std.proofs.Common.{sym, ◌∙◌, subst, arith, ltb-true, eqb-true}
use Rattle.std.proofs.Math.Bool.{true, false}
use Rattle.std.proofs.Math.Dec.{eqb}
use Rattle.book.specs.Moves.{Moves, moves_then, moves_none, transfer_moves, credit_moves, snapshot_moves, still_begun, still_kind}
use Rattle.book.specs.Book.{Book, adds, BookIs}
use Rattle.book.specs.Entries.{added}
use Rattle.book.specs.Integers.{integer_of}
use Rattle.events.specs.Kinds.{deposited_event, vault_deposit_failed_event}
use Rattle.events.specs.Event.{event_buffer}
use Rattle.token.specs.Token.{arrives, debited, received, transfer_rules, transfer_number, transfer_of}
use Rattle.token.specs.Laws.{debited_other, debited_from, transfer_to}
use Rattle.storage.specs.Facts.{Good}
use Rattle.storage.specs.Writes.{holding_range, credit_range}
use Rattle.storage.specs.Setters.{set_credit}
use Rattle.image.specs.Layout.{slot, default_token, toll, kind, holding, credit, initialised}
use Rattle.amount.specs.Biased.{bias}
use Rattle.fields.specs.Rules.{pick, AllFail}
use Rattle.deposits.specs.Deposit.{deposit_holding, expected_holding, receive_number, add_credit, deposit_image, deposit_checks}
use Rattle.deposits.specs.Report.{settled_report, failed_report, report_outcome}
use Rattle.deposits.specs.TokenDeposit.{deposit_token_image}
use Rattle.deposits.specs.Laws.{Funded}
use Rattle.deposits.proofs.Swap.{same_image}
use Rattle.deposits.proofs.Laws.{checks_passed, receive_free, received-all, credited_free}
use Rattle.events.specs.Buffer.{first_byte}
use Rattle.std.proofs.Math.Decide.{ℕ_discrete}

-- a credit that is added only if it fits moves nothing of the vault's
pub add_credit_moves : (l : List ℕ) (t a n : ℕ) → Good l → initialised l ≡ 1 → 48 ≤ t → t < 64 → 0 < kind l (slot t) → a < 64 → bias ≤ n → Moves t (holding l (slot t) 1) l (add_credit l t a n)
unfolding add_credit
add_credit_moves l t a n g i low high k ah p = go (ltb (credit l (slot t) a + n) (bias + bias + bias)) refl
  where
    go : (b : Bool) → ltb (credit l (slot t) a + n) (bias + bias + bias) ≡ b → Moves t (holding l (slot t) 1) l (pick b (set_credit l t a (credit l (slot t) a + n - bias)) l)
    go true e =
        let s = ltb-true (credit l (slot t) a + n) (bias + bias + bias) e in
        let (c, d) = credit_range l (slot t) a g (omega arith) ah in
        credit_moves l t g i low high k a (credit l (slot t) a + n - bias) ah (omega arith) (omega arith)
    go false e = moves_none t l g

-- ---- a transfer to the vault
module _ (l : List ℕ) (t from n : ℕ) (g : Good l) (fh : from < 64) (p : bias < n) (f : AllFail (transfer_rules l t from 1 n)) where
  -- what the vault holds once the sender has lost the amount is not above what it held
  left : holding (debited l t from n) (slot t) 1 ≤ holding l (slot t) 1
  left = by_from (ℕ_discrete from 1)
    where
      by_from : Dec (from ≡ 1) → holding (debited l t from n) (slot t) 1 ≤ holding l (slot t) 1
      by_from (yes q) =
          let (low, (high, _)) = f in
          let (a, b) = holding_range l (slot t) from g (omega arith) fh in
          let e = debited_from l t from n g.long high fh (omega arith) in
          subst (λ (k : ℕ). holding (debited l t from n) (slot t) k ≤ holding l (slot t) k) q (omega arith)
      by_from (no q) = let e = debited_other l t from n 1 (λ r. q (sym r)) in omega arith

  got : deposit_holding l t from n ≡ holding (debited l t from n) (slot t) 1 + (n - toll l (slot t))
  unfolding received arrives
  got = let (low, (high, (moving, (enough, (fits, _))))) = f in transfer_to l t from 1 n g.long high fh (omega arith) fits

  toll_above : bias ≤ toll l (slot t)
  toll_above = let (low, (high, _)) = f in (g.tokens (slot t) (omega arith)).not_below

  -- the vault gets the amount at most, and with a toll less
  pub transfer_most : deposit_holding l t from n ≤ holding l (slot t) 1 + (n - bias)
  transfer_most = let d = left in let e = got in let k = toll_above in omega arith

  pub no_toll : deposit_holding l t from n ≡ expected_holding l t n → toll l (slot t) ≡ bias
  no_toll due = all_of (holding l (slot t) 1) (holding (debited l t from n) (slot t) 1) (toll l (slot t)) n p (sym got ∙ due) toll_above left
    where
      all_of : (h d k n : ℕ) → bias < n → d + (n - k) ≡ h + n - bias → bias ≤ k → d ≤ h → k ≡ bias
      all_of h d k n p e s u = let w : n - bias ≤ n - k = omega arith in omega arith

-- ---- the transfer, then credit and snapshot
module _ (l : List ℕ) (t from seq n : ℕ) (g : Good l) (i : initialised l ≡ 1) (fh : from < 64) (p : bias < n) (z : receive_number l t from n ≡ 0) where
  pub deposit_moves : Moves t (expected_holding l t n) l (deposit_image l t from seq n)
  unfolding deposit_image
  deposit_moves =
      let (f, due) = receive_free l t from n refl z in
      let (low, (high, (moving, _))) = f in
      let y = transfer_of l t from 1 n in
      let v = transfer_moves l t from 1 n g fh (omega arith) (omega arith) f in
      let ky : 0 < kind y (slot t) = still_kind v high (omega arith) in
      let w = add_credit_moves y t from n v.good (still_begun v i) low high ky fh (omega arith) in
      let s = snapshot_moves (add_credit y t from n) t w.good (still_begun w (still_begun v i)) low high (still_kind w high ky) seq (holding y (slot t) 1) in
      let m = moves_then v (moves_then w s) in
      rw (w.this ∙ due) at m

  pub token_moves : Moves t (expected_holding l t n) l (deposit_token_image l t from seq n)
  token_moves =
      let (f, _) = receive_free l t from n refl z in
      let (_, (high, _)) = f in
      rw (same_image l t from seq n high) deposit_moves

  pub deposit_booked : {m : List ℕ} → Moves t (expected_holding l t n) l m → (b : Book) → BookIs b l → BookIs (adds t (integer_of n) b) m
  deposit_booked v b is =
      let (f, due) = receive_free l t from n refl z in
      let (low, (high, _)) = f in
      let k = no_toll l t from n g fh p f due in
      let h = (holding_range l (slot t) 1 g (omega arith) (omega arith)).0 in
      added b is v low high n (omega arith)

-- ---- of the default token, as the book names it
module _ (l : List ℕ) (caller signers seq n : ℕ) (g : Good l) (who : caller < 64) (a : deposit_checks l caller signers seq n ≡ 0) (z : receive_number l (default_token l) caller n ≡ 0) where
  passed : Funded l (default_token l) n
  passed = checks_passed l (default_token l) caller signers seq n g refl refl a

  pub default_good : Good (deposit_image l (default_token l) caller seq n)
  default_good = (deposit_moves l (default_token l) caller seq n g passed.begun who passed.above z).good

  pub default_booked : (b : Book) → BookIs b l → BookIs (adds b.token (integer_of n) b) (deposit_image l (default_token l) caller seq n)
  default_booked b is =
      subst (λ (t : ℕ). BookIs (adds t (integer_of n) b) (deposit_image l (default_token l) caller seq n)) (sym is.default)
      (deposit_booked l (default_token l) caller seq n g passed.begun who passed.above z (deposit_moves l (default_token l) caller seq n g passed.begun who passed.above z) b is)

-- ---- operation 9: a transfer that fails leaves the image, and is announced by event 17
module _ (l : List ℕ) (t from seq n : ℕ) (g : Good l) (i : initialised l ≡ 1) (fh : from < 64) (p : bias < n) where
  pub report_good : (report_outcome l t from seq n).number ≡ 0 → Good (report_outcome l t from seq n).image
  unfolding report_outcome
  report_good z = go (eqb (transfer_number l t from 1 n) 0) refl z
    where
      go : (x : Bool) → eqb (transfer_number l t from 1 n) 0 ≡ x → (pick x (settled_report l t from seq n) (failed_report l t from n)).number ≡ 0
          → Good (pick x (settled_report l t from seq n) (failed_report l t from n)).image
      go true e z = (deposit_moves l t from seq n g i fh p (received-all l t from n (eqb-true _ 0 e) (credited_free l t from n refl z))).good
      go false e z = g

  pub report_booked : (b : Book) → BookIs b l → (report_outcome l t from seq n).number ≡ 0
      → BookIs (pick (eqb (get_or (event_buffer (report_outcome l t from seq n).events) 0 0) 17) b (adds t (integer_of n) b)) (report_outcome l t from seq n).image
  unfolding report_outcome vault_deposit_failed_event deposited_event
  report_booked b m z = go (eqb (transfer_number l t from 1 n) 0) refl z
    where
      go : (x : Bool) → eqb (transfer_number l t from 1 n) 0 ≡ x → (pick x (settled_report l t from seq n) (failed_report l t from n)).number ≡ 0
          → BookIs (pick (eqb (get_or (event_buffer (pick x (settled_report l t from seq n) (failed_report l t from n)).events) 0 0) 17) b (adds t (integer_of n) b)) (pick x (settled_report l t from seq n) (failed_report l t from n)).image
      go true e z =
          let r = received-all l t from n (eqb-true _ 0 e) (credited_free l t from n refl z) in
          rw first_byte (deposit_booked l t from seq n g i fh p r (deposit_moves l t from seq n g i fh p r) b m)
      go false e z = rw first_byte m
