-- Accepted payouts leave the image good, and move image and book alike.
use Rattle.std.specs.Prelude.{◌≡◌, Bool, true, false, List, [], ◌∷◌, ℕ, zero, suc, ◌+◌, ◌-◌, ◌≤◌, ◌<◌, leb}
use Rattle.std.proofs.Math.Path.{refl, subst}
use Rattle.std.proofs.Common.{sym, ◌∙◌, arith, leb-true}
use Rattle.book.specs.Moves.{Moves, moves_then, moves_none, transfer_moves, credit_moves, snapshot_moves, still_begun, still_kind}
use Rattle.book.specs.Book.{Book, takes, takes_items, BookIs}
use Rattle.book.specs.Integers.{integer_of}
use Rattle.book.specs.Entries.{taken}
use Rattle.record.specs.Record.{item_amount}
use Rattle.token.specs.Token.{transfer_of}
use Rattle.storage.specs.Facts.{Good}
use Rattle.storage.specs.Writes.{credit_range}
use Rattle.storage.specs.Setters.{set_credit}
use Rattle.image.specs.Layout.{slot, default_token, kind, holding, credit, initialised}
use Rattle.amount.specs.Biased.{bias}
use Rattle.fields.specs.Rules.{pick, or_zero}
use Rattle.payouts.specs.Parts.{Addressed, Payable}
use Rattle.payouts.specs.Token.{withdraw_token_number, take_credit, withdraw_token_image}
use Rattle.payouts.specs.Laws.{pay_free, checks_passed, token_checks_passed, withdraw_parts, token_parts}
use Rattle.payouts.specs.Payouts.{Payout, items, held_after, pay_number, pay_image, payouts_number, payouts_image, withdraw_number}
use Rattle.payouts.specs.Moved.{takes_all}

-- ---- one payout: the transfer, then the snapshot
module _ (l : List ℕ) (t seq to n : ℕ) (g : Good l) (i : initialised l ≡ 1) (th : to < 64) (p : bias ≤ n) (z : pay_number l t to n ≡ 0) where
  -- the transfer leaves the vault its holding less the amount
  pub sent_moves : Moves t (holding l (slot t) 1 + bias - n) l (transfer_of l t 1 to n)
  sent_moves =
      let (f, left) = pay_free l t to n refl z in
      rw left at (transfer_moves l t 1 to n g (omega arith) th p f)

  pub pay_moves : Moves t (holding l (slot t) 1 + bias - n) l (pay_image l t seq to n)
  unfolding pay_image
  pay_moves =
      let (f, left) = pay_free l t to n refl z in
      let (low, (high, (moving, _))) = f in
      let v = sent_moves in
      let s = snapshot_moves (transfer_of l t 1 to n) t v.good (still_begun v i) low high (still_kind v high (omega arith)) seq (held_after l t to n) in
      subst (λ (k : ℕ). Moves t k l (pay_image l t seq to n)) left (moves_then v s)

  -- the book's side of it
  pub pay_taken : holding l (slot t) 1 + bias - n + n ≡ holding l (slot t) 1 + bias
  pay_taken =
      let (low, (high, (moving, (enough, _)))) = (pay_free l t to n refl z).0 in
      omega arith

-- ---- payout by payout
pub payouts_booked : (ps : List Payout) (t seq : ℕ) (l : List ℕ) (b : Book) → Good l → initialised l ≡ 1 → Payable ps → payouts_number ps t seq l ≡ 0 → t ≡ default_token l → BookIs b l
    → BookIs (takes_all ps b) (payouts_image ps t seq l)
unfolding payouts_number payouts_image takes_all
payouts_booked [] t seq l b g i a z e is = is
payouts_booked (p ∷ ps) t seq l b g i a z e is =
    let o = or_zero _ _ z in
    let (low, (high, _)) = (pay_free l t p.to p.amount refl o.0).0 in
    let m = pay_moves l t seq p.to p.amount g i a.0.0 a.0.1 o.0 in
    let y = taken b is m low high p.amount (pay_taken l t seq p.to p.amount g i a.0.0 a.0.1 o.0) in
    payouts_booked ps t seq _ (takes b.token (integer_of p.amount) b) m.good (still_begun m i) a.1 o.1 (e ∙ sym m.token)
    (subst (λ (k : ℕ). BookIs (takes k (integer_of p.amount) b) (pay_image l t seq p.to p.amount)) (e ∙ sym is.default) y)

pub payouts_good : (ps : List Payout) (t seq : ℕ) (l : List ℕ) → Good l → initialised l ≡ 1 → Payable ps → payouts_number ps t seq l ≡ 0 → Good (payouts_image ps t seq l)
unfolding payouts_number payouts_image
payouts_good [] t seq l g i a z = g
payouts_good (p ∷ ps) t seq l g i a z =
    let o = or_zero _ _ z in
    let m = pay_moves l t seq p.to p.amount g i a.0.0 a.0.1 o.0 in
    payouts_good ps t seq _ m.good (still_begun m i) a.1 o.1

pub items-takes_all : (n i : ℕ) (r : List ℕ) (b : Book) → takes_items n i r b ≡ takes_all (items n i r) b
unfolding takes_items takes_all items
items-takes_all zero i r b = refl
items-takes_all (suc n) i r b = items-takes_all n (suc i) r (takes b.token (integer_of (item_amount r i)) b)

-- ---- operations 5 and 6
module _ (l : List ℕ) (caller signers seq : ℕ) (ps : List Payout) (g : Good l) (a : Addressed ps) (z : withdraw_number l caller signers seq ps ≡ 0) where
  pub withdraw_good : Good (payouts_image ps (default_token l) seq l)
  withdraw_good =
      let (c, d) = withdraw_parts l caller signers seq ps z in
      let f = checks_passed l (default_token l) caller signers ps g a refl refl c in
      payouts_good ps (default_token l) seq l g f.begun f.amounts d

  pub withdraw_booked : (b : Book) → BookIs b l → BookIs (takes_all ps b) (payouts_image ps (default_token l) seq l)
  withdraw_booked b is =
      let (c, d) = withdraw_parts l caller signers seq ps z in
      let f = checks_passed l (default_token l) caller signers ps g a refl refl c in
      payouts_booked ps (default_token l) seq l b g f.begun f.amounts d refl is

-- ---- operation 8
-- a credit that is lowered where it covers the amount moves nothing of the vault's
pub take_credit_moves : (l : List ℕ) (t a n : ℕ) → Good l → initialised l ≡ 1 → 48 ≤ t → t < 64 → 0 < kind l (slot t) → a < 64 → bias ≤ n → Moves t (holding l (slot t) 1) l (take_credit l t a n)
unfolding take_credit
take_credit_moves l t a n g i low high k ah p = go (leb n (credit l (slot t) a)) refl
  where
    go : (b : Bool) → leb n (credit l (slot t) a) ≡ b → Moves t (holding l (slot t) 1) l (pick b (set_credit l t a (credit l (slot t) a + bias - n)) l)
    go true e =
        let s = leb-true n (credit l (slot t) a) e in
        let (c, d) = credit_range l (slot t) a g (omega arith) ah in
        credit_moves l t g i low high k a (credit l (slot t) a + bias - n) ah (omega arith) (omega arith)
    go false e = moves_none t l g

module _ (l : List ℕ) (t caller signers seq to n : ℕ) (g : Good l) (who : caller < 64) (th : to < 64) (z : withdraw_token_number l t caller signers to n ≡ 0) where
  token_moves : Moves t (holding l (slot t) 1 + bias - n) l (withdraw_token_image l t caller seq to n)
  unfolding withdraw_token_image
  token_moves =
      let (c, d) = token_parts l t caller signers to n z in
      let f = token_checks_passed l t caller signers n refl c in
      let i = f.begun in
      let low = f.low in
      let high = f.high in
      let above = f.above in
      let (moving, _) = (pay_free l t to n refl d).0.1.1 in
      let y = transfer_of l t 1 to n in
      let v = sent_moves l t seq to n g i th (omega arith) d in
      let ky : 0 < kind y (slot t) = still_kind v high (omega arith) in
      let w = take_credit_moves y t caller n v.good (still_begun v i) low high ky who (omega arith) in
      let s = snapshot_moves (take_credit y t caller n) t w.good (still_begun w (still_begun v i)) low high (still_kind w high ky) seq (holding y (slot t) 1) in
      rw (w.this ∙ (pay_free l t to n refl d).1) at (moves_then v (moves_then w s))

  pub token_good : Good (withdraw_token_image l t caller seq to n)
  token_good = token_moves.good

  pub token_booked : (b : Book) → BookIs b l → BookIs (takes t (integer_of n) b) (withdraw_token_image l t caller seq to n)
  token_booked b is =
      let (c, d) = token_parts l t caller signers to n z in
      let f = token_checks_passed l t caller signers n refl c in
      let above = f.above in
      taken b is token_moves f.low f.high n (pay_taken l t seq to n g f.begun th (omega arith) d)
