-- An accepted batch leaves the image good, and moves image and book alike, item by item; its token takes no toll.
use Rattle.std.specs.Prelude.{◌≡◌, List, ℕ, zero, suc, ◌+◌, ◌≤◌, ◌<◌, ℤ}
use Rattle.std.proofs.Math.Path.{refl}
use Rattle.std.proofs.Common.{sym, ◌∙◌, subst, arith}
use Rattle.deposits.specs.Deposit.{deposit_holding, expected_holding}
use Rattle.deposits.proofs.Moved.{transfer_most, no_toll}
use Rattle.deposits.proofs.Laws.{expected_free}
use Rattle.book.specs.Moves.{Moves, moves_then, moves_none, transfer_moves, snapshot_moves, still_begun, still_kind}
use Rattle.book.specs.Book.{Book, change, adds, adds_items, BookIs}
use Rattle.book.specs.Entries.{added, settled}
use Rattle.book.specs.Integers.{integer_of}
use Rattle.record.specs.Record.{item_address, item_amount}
use Rattle.token.specs.Token.{vault_balance, transfer_rules, transfer_of}
use Rattle.token.specs.Laws.{transfer_free, good_transfer}
use Rattle.storage.specs.Kept.{only_record_balance}
use Rattle.storage.specs.Facts.{Good}
use Rattle.storage.specs.Writes.{holding_range, default_range}
use Rattle.image.specs.Layout.{slot, snapshot_at, default_token, holding, initialised}
use Rattle.amount.specs.Biased.{bias}
use Rattle.fields.specs.Frame.{over}
use Rattle.fields.specs.Rules.{AllFail, or_zero, unlinked}
use Rattle.batch_deposits.specs.Batch.{items_sum, batch_checks, item_transfer, transfers_number, transfers_image, collect_outcome, batch_outcome}
use Rattle.batch_deposits.specs.Laws.{open_free, items_free}
use Rattle.batch_deposits.specs.Moved.{Items}

pub transfers_moves : (n : ℕ) (r : List ℕ) (t i : ℕ) (l : List ℕ) → Good l → Items n r i → transfers_number n r t i l ≡ 0 → Moves t (holding (transfers_image n r t i l) (slot t) 1) l (transfers_image n r t i l)
unfolding transfers_number transfers_image
transfers_moves zero r t i l g a z = moves_none t l g
transfers_moves (suc n) r t i l g a z =
    let o = or_zero _ _ z in
    let (w, x) = a i (omega arith) (omega arith) in
    let v = transfer_moves l t (item_address r i) 1 (item_amount r i) g w (omega arith) (omega arith) (transfer_free l t (item_address r i) 1 (item_amount r i) refl o.0) in
    moves_then v (transfers_moves n r t (suc i) (item_transfer l r t i) v.good (λ j p q. a j (omega arith) (omega arith)) o.1)

-- the vault gets the sum at most
pub transfers_most : (n : ℕ) (r : List ℕ) (t i : ℕ) (l : List ℕ) → Good l → Items n r i → transfers_number n r t i l ≡ 0 → holding (transfers_image n r t i l) (slot t) 1 ≤ holding l (slot t) 1 + items_sum n r i
unfolding transfers_number transfers_image items_sum
transfers_most zero r t i l g a z = omega arith
transfers_most (suc n) r t i l g a z =
    let o = or_zero _ _ z in
    let (w, x) = a i (omega arith) (omega arith) in
    let f = transfer_free l t (item_address r i) 1 (item_amount r i) refl o.0 in
    let v = good_transfer l t (item_address r i) 1 (item_amount r i) g w (omega arith) (omega arith) f in
    let h = transfer_most l t (item_address r i) (item_amount r i) g w x f in
    let k = transfers_most n r t (suc i) (item_transfer l r t i) v (λ j p q. a j (omega arith) (omega arith)) o.1 in
    omega arith

-- one item, whose amount arrived whole
item_booked : (l : List ℕ) (t from n : ℕ) → Good l → from < 64 → bias < n → AllFail (transfer_rules l t from 1 n) → deposit_holding l t from n ≡ expected_holding l t n → (b : Book) → BookIs b l → BookIs (adds t (integer_of n) b) (transfer_of l t from 1 n)
item_booked l t from n g fh p f due b m =
    let (low, (high, _)) = f in
    let k = no_toll l t from n g fh p f due in
    let h = (holding_range l (slot t) 1 g (omega arith) (omega arith)).0 in
    added b m (transfer_moves l t from 1 n g fh (omega arith) (omega arith) f) low high n (omega arith)

adds-token : (a : ℕ) (n : ℤ) (b : Book) → (adds a n b).token ≡ b.token
unfolding adds change
adds-token a n b = refl

-- where the sum arrived whole, so did each amount
pub transfers_booked : (n : ℕ) (r : List ℕ) (t i : ℕ) (l : List ℕ) → Good l → Items n r i → transfers_number n r t i l ≡ 0
    → holding (transfers_image n r t i l) (slot t) 1 ≡ holding l (slot t) 1 + items_sum n r i → (b : Book) → b.token ≡ t → BookIs b l → BookIs (adds_items n i r b) (transfers_image n r t i l)
unfolding transfers_number transfers_image items_sum adds_items
transfers_booked zero r t i l g a z e b c m = m
transfers_booked (suc n) r t i l g a z e b c m =
    let o = or_zero _ _ z in
    let (w, x) = a i (omega arith) (omega arith) in
    let f = transfer_free l t (item_address r i) 1 (item_amount r i) refl o.0 in
    let v = good_transfer l t (item_address r i) 1 (item_amount r i) g w (omega arith) (omega arith) f in
    let h = transfer_most l t (item_address r i) (item_amount r i) g w x f in
    let rest : Items n r (suc i) = λ j p q. a j (omega arith) (omega arith) in
    let k = transfers_most n r t (suc i) (item_transfer l r t i) v rest o.1 in
    let due : deposit_holding l t (item_address r i) (item_amount r i) ≡ expected_holding l t (item_amount r i) = omega arith in
    let y = item_booked l t (item_address r i) (item_amount r i) g w x f due b m in
    let y' = subst (λ (u : ℕ). BookIs (adds u (integer_of (item_amount r i)) b) (item_transfer l r t i)) (sym c) y in
    transfers_booked n r t (suc i) (item_transfer l r t i) v rest o.1 (omega arith) (adds b.token (integer_of (item_amount r i)) b) (adds-token b.token (integer_of (item_amount r i)) b ∙ c) y'

-- ---- the operation
module _ (l r : List ℕ) (signers seq count : ℕ) (g : Good l) (senders : (j : ℕ) → j < count → item_address r j < 64) (z : (batch_outcome l r signers seq count).number ≡ 0) where
  -- its parts: initialised, the items, the transfers, and the sum arrived whole
  parts : (initialised l ≡ 1) × Items count r 0 × (transfers_number count r (default_token l) 0 l ≡ 0)
      × (holding (transfers_image count r (default_token l) 0 l) (slot (default_token l)) 1 ≡ vault_balance l + items_sum count r 0)
  unfolding batch_outcome batch_checks collect_outcome
  parts =
      let u = unlinked _ z in
      let c = unlinked _ u.0 in
      let v = unlinked _ u.1.0 in
      let d = expected_free _ _ refl v.1.0 in
      (open_free l count refl c.0, (λ j p q. (senders j (omega arith), items_free count r signers 0 j c.1.0 p q)), v.0, omega arith)

  snapped : Moves (default_token l) (holding (transfers_image count r (default_token l) 0 l) (slot (default_token l)) 1) (transfers_image count r (default_token l) 0 l) (batch_outcome l r signers seq count).image
  unfolding batch_outcome collect_outcome
  snapped =
      let (i, a, x, _) = parts in
      let (low, high) = default_range l g i in
      let v = transfers_moves count r (default_token l) 0 l g a x in
      snapshot_moves (transfers_image count r (default_token l) 0 l) (default_token l) v.good (still_begun v i) low high (still_kind v high (g.default i)) seq _

  pub batch_good : Good (batch_outcome l r signers seq count).image
  batch_good = snapped.good

  pub batch_booked : (b : Book) → BookIs b l → BookIs (adds_items count 0 r b) (batch_outcome l r signers seq count).image
  unfolding batch_outcome collect_outcome
  batch_booked b m =
      let (i, a, x, e) = parts in
      let (low, high) = default_range l g i in
      let n = transfers_image count r (default_token l) 0 l in
      settled (adds_items count 0 r b) (transfers_booked count r (default_token l) 0 l g a x e b m.default m)
      (over 3680 16768 (snapshot_at (slot (default_token l))) 24 (only_record_balance n (default_token l) seq (holding n (slot (default_token l)) 1)) (omega arith))
      snapped.token (λ h. (rw snapped.flagged at h, snapped.to))
