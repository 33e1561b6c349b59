-- A snapshot and a credit are written at places apart: the image is the same, whichever is first.
use Rattle.std.specs.Prelude.{◌≡◌, refl, Bool, true, false, List, ℕ, zero, suc, ◌+◌, ◌/◌, ◌%◌, ◌^◌, ◌-◌, ◌≤◌, ◌<◌, ltb, set}
use Rattle.std.proofs.Common.{sym, ap, ◌∙◌, arith}
use Rattle.std.proofs.lemmas.List.{set_comm}
use Rattle.fields.specs.Bytes.{put}
use Rattle.fields.specs.Frame.{under, over, same-le}
use Rattle.fields.specs.Rules.{pick}
use Rattle.amount.specs.Frame.{same-amount_at}
use Rattle.amount.specs.Biased.{bias, put_amount}
use Rattle.image.specs.Good.{tracked}
use Rattle.image.specs.Layout.{slot, snapshot_at, tracked_key_at, credit_at, tracked_count, holding, credit}
use Rattle.storage.specs.Kept.{only_record_balance}
use Rattle.storage.specs.Setters.{track_key, credit_key, set_credit, record_balance}
use Rattle.token.specs.Token.{transfer_of}
use Rattle.deposits.specs.Deposit.{add_credit, deposit_image}
use Rattle.deposits.specs.TokenDeposit.{deposit_token_image}

set_put : (m : ℕ) (l : List ℕ) (a x j y : ℕ) → a + m ≤ j → set (put m l a x) j y ≡ put m (set l j y) a x
unfolding put
set_put zero l a x j y h = refl
set_put (suc m) l a x j y h =
    set_put m (set l a (x % 256)) (suc a) (x / 256) j y (omega arith)
    ∙ ap (λ (k : List ℕ). put m k (suc a) (x / 256)) (set_comm l a j (x % 256) y (omega arith))

put_swap : (m n : ℕ) (l : List ℕ) (a x b y : ℕ) → a + m ≤ b → put n (put m l a x) b y ≡ put m (put n l b y) a x
unfolding put
put_swap m zero l a x b y h = refl
put_swap m (suc n) l a x b y h =
    ap (λ (k : List ℕ). put n k (suc b) (y / 256)) (set_put m l a x b (y % 256) h)
    ∙ put_swap m n (set l b (y % 256)) a x (suc b) (y / 256) (omega arith)

-- ---- a snapshot of token t, and another write
module _ (t q h : ℕ) where
  put_above : (w : ℕ) (l : List ℕ) (b x : ℕ) → snapshot_at (slot t) + 24 ≤ b → put w (record_balance l t q h) b x ≡ record_balance (put w l b x) t q h
  unfolding record_balance put_amount
  put_above w l b x p =
      let s = snapshot_at (slot t) in
      rw (
        put_swap 8 w _ (s + 8 + 8) _ b x (omega arith),
        put_swap 8 w _ (s + 8) _ b x (omega arith),
        put_swap 4 w _ (s + 4) q b x (omega arith),
        put_swap 4 w l s 1 b x (omega arith),
      ) refl

  put_below : (w : ℕ) (l : List ℕ) (b x : ℕ) → b + w ≤ snapshot_at (slot t) → put w (record_balance l t q h) b x ≡ record_balance (put w l b x) t q h
  unfolding record_balance put_amount
  put_below w l b x p =
      let s = snapshot_at (slot t) in
      sym (rw (
        put_swap w 4 l b x s 1 (omega arith),
        put_swap w 4 _ b x (s + 4) q (omega arith),
        put_swap w 8 _ b x (s + 8) _ (omega arith),
        put_swap w 8 _ b x (s + 8 + 8) _ (omega arith),
      ) refl)

  amount_above : (l : List ℕ) (b n : ℕ) → snapshot_at (slot t) + 24 ≤ b → put_amount (record_balance l t q h) b n ≡ record_balance (put_amount l b n) t q h
  unfolding put_amount
  amount_above l b n p = rw (put_above 8 l b (n % 2 ^ 64) p, put_above 8 (put 8 l b (n % 2 ^ 64)) (b + 8) ((n / 2 ^ 64 + 2 ^ 63) % 2 ^ 64) (omega arith)) refl

  same_tracked : t < 64 → (l : List ℕ) (n k : ℕ) → tracked (record_balance l t q h) n k ≡ tracked l n k
  unfolding tracked
  same_tracked th l zero k = refl
  same_tracked th l (suc n) k =
      rw (same-le 2 (tracked_key_at n) (over (tracked_key_at n) 2 (snapshot_at (slot t)) 24 (only_record_balance l t q h) (omega arith)), same_tracked th l n k) refl

  picked : (b : Bool) (l m : List ℕ) → pick b (record_balance l t q h) (record_balance m t q h) ≡ record_balance (pick b l m) t q h
  picked true l m = refl
  picked false l m = refl

  track_swap : t < 64 → (l : List ℕ) (k : ℕ) → track_key (record_balance l t q h) k ≡ record_balance (track_key l k) t q h
  unfolding track_key
  track_swap th l k =
      let o = only_record_balance l t q h in
      let c : tracked_count (record_balance l t q h) ≡ tracked_count l = same-le 8 88 (under 88 8 (snapshot_at (slot t)) 24 o (omega arith)) in
      rw (
        c,
        same_tracked th l (tracked_count l) k,
        put_above 2 l (tracked_key_at (tracked_count l)) k (omega arith),
        put_below 8 (put 2 l (tracked_key_at (tracked_count l)) k) 88 (tracked_count l + 1) (omega arith),
      ) (picked (tracked l (tracked_count l) k) l (put 8 (put 2 l (tracked_key_at (tracked_count l)) k) 88 (tracked_count l + 1)))

  pub credit_swap : (l : List ℕ) (a n : ℕ) → t < 64 → add_credit (record_balance l t q h) t a n ≡ record_balance (add_credit l t a n) t q h
  unfolding add_credit set_credit
  credit_swap l a n th =
      let o = only_record_balance l t q h in
      let c : credit (record_balance l t q h) (slot t) a ≡ credit l (slot t) a = same-amount_at (credit_at (slot t) a) (over (credit_at (slot t) a) 16 (snapshot_at (slot t)) 24 o (omega arith)) in
      let m = credit l (slot t) a + n - bias in
      rw (
        c,
        amount_above l (credit_at (slot t) a) m (omega arith),
        track_swap th (put_amount l (credit_at (slot t) a) m) (credit_key t a),
      ) (picked (ltb (credit l (slot t) a + n) (bias + bias + bias)) (track_key (put_amount l (credit_at (slot t) a) m) (credit_key t a)) l)

-- so `deposit` and `deposit_token` leave the same image
pub same_image : (l : List ℕ) (t from seq n : ℕ) → t < 64 → deposit_token_image l t from seq n ≡ deposit_image l t from seq n
unfolding deposit_token_image deposit_image
same_image l t from seq n th = let y = transfer_of l t from 1 n in credit_swap t seq (holding y (slot t) 1) y from n th

-- .. and y is the image after the transfer
pub token_image : (l : List ℕ) (t from seq n : ℕ) {y m : List ℕ} → t < 64 → y ≡ transfer_of l t from 1 n → m ≡ record_balance (add_credit y t from n) t seq (holding y (slot t) 1) → m ≡ deposit_token_image l t from seq n
unfolding deposit_image
token_image l t from seq n th p q =
    q ∙ ap (λ (k : List ℕ). record_balance (add_credit k t from n) t seq (holding k (slot t) 1)) p ∙ sym (same_image l t from seq n th)
