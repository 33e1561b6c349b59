-- What is read after a write at a place with a variable in it: a list of rules for `simp`, beside `elsewhere` for literal places.
use Rattle.std.specs.Prelude.{◌≡◌, true, List, ℕ, ◌+◌, ◌<◌, leb}
use Rattle.std.proofs.Common.{arith, leb-true}
use Rattle.image.specs.Layout.{cap_at, snapshot_at, tracked_key_at, token_at, toll_at, holding_at, credit_at, toll, kind, holding, credit}
use Rattle.amount.specs.Frame.{only_put_amount, same-amount_at}
use Rattle.amount.specs.Biased.{amount_at, put_amount}
use Rattle.fields.specs.Frame.{only_put, under, over, same-le}
use Rattle.fields.specs.Bytes.{le, put}
use Rattle.storage.specs.Writes.{three_ways}

-- ---- after a holding is written: below 4064 at a literal place, the tokens, credits, another holding of the token
module _ (l : List ℕ) (t a n : ℕ) where
  pub le-holding : (w b : ℕ) → leb (b + w) 4064 ≡ true → le w (put_amount l (holding_at t a) n) b ≡ le w l b
  le-holding w b e = let h = leb-true (b + w) 4064 e in same-le w b (under b w (holding_at t a) 16 (only_put_amount l (holding_at t a) n) (omega arith))

  pub amount_holding : (b : ℕ) → leb (b + 16) 4064 ≡ true → amount_at (put_amount l (holding_at t a) n) b ≡ amount_at l b
  amount_holding b e = let h = leb-true (b + 16) 4064 e in same-amount_at b (under b 16 (holding_at t a) 16 (only_put_amount l (holding_at t a) n) (omega arith))

  pub kind-holding : (u : ℕ) → u < 16 → kind (put_amount l (holding_at t a) n) u ≡ kind l u
  kind-holding u h = same-le 8 (token_at u) (under (token_at u) 8 (holding_at t a) 16 (only_put_amount l (holding_at t a) n) (omega arith))

  pub toll-holding : (u : ℕ) → u < 16 → toll (put_amount l (holding_at t a) n) u ≡ toll l u
  toll-holding u h = same-amount_at (toll_at u) (under (toll_at u) 16 (holding_at t a) 16 (only_put_amount l (holding_at t a) n) (omega arith))

  pub credit-holding : (u b : ℕ) → t < 16 → a < 64 → credit (put_amount l (holding_at t a) n) u b ≡ credit l u b
  credit-holding u b h k = same-amount_at (credit_at u b) (over (credit_at u b) 16 (holding_at t a) 16 (only_put_amount l (holding_at t a) n) (omega arith))

  pub other_holding : (b : ℕ) → (b ≡ a → ⊥) → holding (put_amount l (holding_at t a) n) t b ≡ holding l t b
  other_holding b h =
      three_ways b a (holding (put_amount l (holding_at t a) n) t b ≡ holding l t b)
      (λ r. same-amount_at (holding_at t b) (under (holding_at t b) 16 (holding_at t a) 16 (only_put_amount l (holding_at t a) n) (omega arith)))
      (λ r. same-amount_at (holding_at t b) (over (holding_at t b) 16 (holding_at t a) 16 (only_put_amount l (holding_at t a) n) (omega arith)))
      (λ r. absurd (h r))

  -- ---- after a credit is written
  pub le-credit : (w b : ℕ) → leb (b + w) 20448 ≡ true → le w (put_amount l (credit_at t a) n) b ≡ le w l b
  le-credit w b e = let h = leb-true (b + w) 20448 e in same-le w b (under b w (credit_at t a) 16 (only_put_amount l (credit_at t a) n) (omega arith))

  pub amount_credit : (b : ℕ) → leb (b + 16) 20448 ≡ true → amount_at (put_amount l (credit_at t a) n) b ≡ amount_at l b
  amount_credit b e = let h = leb-true (b + 16) 20448 e in same-amount_at b (under b 16 (credit_at t a) 16 (only_put_amount l (credit_at t a) n) (omega arith))

  pub kind-credit : (u : ℕ) → u < 16 → kind (put_amount l (credit_at t a) n) u ≡ kind l u
  kind-credit u h = same-le 8 (token_at u) (under (token_at u) 8 (credit_at t a) 16 (only_put_amount l (credit_at t a) n) (omega arith))

  pub holding-credit : (u b : ℕ) → u < 16 → b < 64 → holding (put_amount l (credit_at t a) n) u b ≡ holding l u b
  holding-credit u b h k = same-amount_at (holding_at u b) (under (holding_at u b) 16 (credit_at t a) 16 (only_put_amount l (credit_at t a) n) (omega arith))

-- ---- after a part of a snapshot is written
module _ (l : List ℕ) (t x : ℕ) where
  pub le_snap : (w b : ℕ) → leb (b + w) 1120 ≡ true → le w (put 4 l (snapshot_at t) x) b ≡ le w l b
  le_snap w b e = let h = leb-true (b + w) 1120 e in same-le w b (under b w (snapshot_at t) 4 (only_put 4 l (snapshot_at t) x) (omega arith))

  pub le_ledger : (w b : ℕ) → leb (b + w) 1120 ≡ true → le w (put 4 l (snapshot_at t + 4) x) b ≡ le w l b
  le_ledger w b e = let h = leb-true (b + w) 1120 e in same-le w b (under b w (snapshot_at t + 4) 4 (only_put 4 l (snapshot_at t + 4) x) (omega arith))

  pub le-held : (w b : ℕ) → leb (b + w) 1120 ≡ true → le w (put_amount l (snapshot_at t + 8) x) b ≡ le w l b
  le-held w b e = let h = leb-true (b + w) 1120 e in same-le w b (under b w (snapshot_at t + 8) 16 (only_put_amount l (snapshot_at t + 8) x) (omega arith))

  pub kind_snap : (u : ℕ) → t < 16 → kind (put 4 l (snapshot_at t) x) u ≡ kind l u
  kind_snap u h = same-le 8 (token_at u) (over (token_at u) 8 (snapshot_at t) 4 (only_put 4 l (snapshot_at t) x) (omega arith))

  pub kind_ledger : (u : ℕ) → t < 16 → kind (put 4 l (snapshot_at t + 4) x) u ≡ kind l u
  kind_ledger u h = same-le 8 (token_at u) (over (token_at u) 8 (snapshot_at t + 4) 4 (only_put 4 l (snapshot_at t + 4) x) (omega arith))

  pub kind-held : (u : ℕ) → t < 16 → kind (put_amount l (snapshot_at t + 8) x) u ≡ kind l u
  kind-held u h = same-le 8 (token_at u) (over (token_at u) 8 (snapshot_at t + 8) 16 (only_put_amount l (snapshot_at t + 8) x) (omega arith))

  -- ---- after a key or a cap is written
  pub le_key : (w b : ℕ) → leb (b + w) 1504 ≡ true → le w (put 2 l (tracked_key_at t) x) b ≡ le w l b
  le_key w b e = let h = leb-true (b + w) 1504 e in same-le w b (under b w (tracked_key_at t) 2 (only_put 2 l (tracked_key_at t) x) (omega arith))

  pub kind_key : (u : ℕ) → t < 1088 → kind (put 2 l (tracked_key_at t) x) u ≡ kind l u
  kind_key u h = same-le 8 (token_at u) (over (token_at u) 8 (tracked_key_at t) 2 (only_put 2 l (tracked_key_at t) x) (omega arith))

  pub le-cap : (w b : ℕ) → leb (b + w) 96 ≡ true → le w (put_amount l (cap_at t) x) b ≡ le w l b
  le-cap w b e = let h = leb-true (b + w) 96 e in same-le w b (under b w (cap_at t) 16 (only_put_amount l (cap_at t) x) (omega arith))

  pub kind-cap : (u : ℕ) → t < 64 → kind (put_amount l (cap_at t) x) u ≡ kind l u
  kind-cap u h = same-le 8 (token_at u) (over (token_at u) 8 (cap_at t) 16 (only_put_amount l (cap_at t) x) (omega arith))

  -- after a write in the head, at a literal place
  pub kind_head : (w at u : ℕ) → leb (at + w) 3680 ≡ true → kind (put w l at x) u ≡ kind l u
  kind_head w at u e = let h = leb-true (at + w) 3680 e in same-le 8 (token_at u) (over (token_at u) 8 at w (only_put w l at x) (omega arith))

  pub kind_head_amount : (at u : ℕ) → leb (at + 16) 3680 ≡ true → kind (put_amount l at x) u ≡ kind l u
  kind_head_amount at u e = let h = leb-true (at + 16) 3680 e in same-le 8 (token_at u) (over (token_at u) 8 at 16 (only_put_amount l at x) (omega arith))

pub ruleset after = (
  le-holding,
  amount_holding,
  kind-holding,
  toll-holding,
  credit-holding,
  other_holding,
  le-credit,
  amount_credit,
  kind-credit,
  holding-credit,
  le_snap,
  le_ledger,
  le-held,
  kind_snap,
  kind_ledger,
  kind-held,
  le_key,
  kind_key,
  le-cap,
  kind-cap,
  kind_head,
  kind_head_amount,
)
