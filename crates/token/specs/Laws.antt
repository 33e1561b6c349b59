-- What a transfer does to the holdings, what it leaves, and that it leaves a good image good.
use Rattle.std.specs.Prelude.{◌≡◌, refl, List, ℕ, ◌+◌, ◌-◌, ◌≤◌, ◌<◌, length}
use Rattle.std.proofs.Common.{sym, ◌∙◌, le_antisymm, eq-eqb, ne_eqb}
use Rattle.std.proofs.Math.Path.{ap}
use native.Mathlib.Omega.{arith}
use Rattle.storage.specs.Facts.{Good}
use Rattle.storage.specs.Writes.{good_holding, holding_range}
use Rattle.image.specs.Layout.{image_length, slot, token_at, toll_at, holdings_at, holding_at, toll, kind, holding}
use Rattle.amount.specs.Frame.{only_put_amount, same-amount_at, row_apart}
use Rattle.amount.specs.Laws.{by_lt, length-put_amount, amount_at-put_amount, amount_at-put_amount_other}
use Rattle.amount.specs.Biased.{bias}
use Rattle.fields.specs.Frame.{Only, only_then, only_in, under, over, same-le}
use Rattle.fields.specs.Rules.{AllFail, free}
use Rattle.token.specs.Token.{absent_rules, absent_number, arrives, debited, received, transfer_rules, transfer_number, transfer_of, transferred}

pub absent_free : (l : List ℕ) (t : ℕ) {k : ℕ} → k ≡ absent_number l t → k ≡ 0 → AllFail (absent_rules l t)
unfolding absent_number
absent_free l t e z = free (absent_rules l t) refl e z

pub transfer_free : (l : List ℕ) (t from to n : ℕ) {k : ℕ} → k ≡ transfer_number l t from to n → k ≡ 0 → AllFail (transfer_rules l t from to n)
unfolding transfer_number
transfer_free l t from to n e z = free (transfer_rules l t from to n) refl e z

-- a transfer that fails, and one that does not
pub transfer_failed : (l : List ℕ) (t from to n : ℕ) → (transfer_number l t from to n ≡ 0 → ⊥) → transferred l t from to n ≡ l
unfolding transferred
transfer_failed l t from to n h = rw (ne_eqb (transfer_number l t from to n) 0 h)

pub transfer_done : (l : List ℕ) (t from to n : ℕ) → transfer_number l t from to n ≡ 0 → transferred l t from to n ≡ transfer_of l t from to n
unfolding transferred
transfer_done l t from to n h = rw (eq-eqb (transfer_number l t from to n) 0 h)

-- a higher toll leaves no more
pub arrives_less : (low high n : ℕ) → low ≤ high → arrives high n ≤ arrives low n
unfolding arrives
arrives_less low high n h = omega arith

-- ---- frames: only holdings of the token change
module _ (l : List ℕ) (t from to n : ℕ) (f : from < 64) (g : to < 64) where
  pub only_debited : Only (holdings_at (slot t)) 1024 l (debited l t from n)
  unfolding debited
  only_debited = only_in (holdings_at (slot t)) 1024 (holding_at (slot t) from) 16 (omega arith) (omega arith) (only_put_amount l (holding_at (slot t) from) (holding l (slot t) from + bias - n))

  pub only_transfer : Only (holdings_at (slot t)) 1024 l (transfer_of l t from to n)
  unfolding transfer_of
  only_transfer =
      only_then only_debited
      (only_in (holdings_at (slot t)) 1024 (holding_at (slot t) to) 16 (omega arith) (omega arith) (only_put_amount (debited l t from n) (holding_at (slot t) to) (received l t from to n)))

  -- no toll changes
  pub transfer_tolls : (u : ℕ) → u < 16 → toll (transfer_of l t from to n) u ≡ toll l u
  transfer_tolls u h = same-amount_at (toll_at u) (under (toll_at u) 16 (holdings_at (slot t)) 1024 only_transfer (omega arith))

-- ---- the holdings
module _ (l : List ℕ) (t from n : ℕ) where
  pub debited_other : (b : ℕ) → (b ≡ from → ⊥) → holding (debited l t from n) (slot t) b ≡ holding l (slot t) b
  unfolding debited
  debited_other b h =
      amount_at-put_amount_other l (holding_at (slot t) b) (holding_at (slot t) from) (holding l (slot t) from + bias - n) (row_apart (holdings_at (slot t)) b from h)

  pub debited_from : length l ≡ image_length → t < 64 → from < 64 → holding l (slot t) from + bias - n < bias + bias → holding (debited l t from n) (slot t) from ≡ holding l (slot t) from + bias - n
  unfolding debited
  debited_from len th h b = amount_at-put_amount l (holding_at (slot t) from) (holding l (slot t) from + bias - n) (omega arith) b

module _ (l : List ℕ) (t from to n : ℕ) where
  -- another account's holding of the token
  pub transfer_other : (b : ℕ) → (b ≡ from → ⊥) → (b ≡ to → ⊥) → holding (transfer_of l t from to n) (slot t) b ≡ holding l (slot t) b
  unfolding transfer_of
  transfer_other b h k =
      amount_at-put_amount_other (debited l t from n) (holding_at (slot t) b) (holding_at (slot t) to) (received l t from to n) (row_apart (holdings_at (slot t)) b to k)
      ∙ debited_other l t from n b h

  module _ (len : length l ≡ image_length) (high : t < 64) (f : from < 64) (g : to < 64) where
    -- the receiver
    pub transfer_to : received l t from to n < bias + bias → holding (transfer_of l t from to n) (slot t) to ≡ received l t from to n
    unfolding transfer_of debited
    transfer_to b = amount_at-put_amount _ (holding_at (slot t) to) (received l t from to n) (rw length-put_amount (omega arith)) b

    -- .. where it is not the sender: what it held, and what arrives
    pub transfer_arrives : (from ≡ to → ⊥) → received l t from to n < bias + bias → holding (transfer_of l t from to n) (slot t) to ≡ holding l (slot t) to + arrives (toll l (slot t)) n
    unfolding received
    transfer_arrives d b = transfer_to b ∙ ap (λ (k : ℕ). k + arrives (toll l (slot t)) n) (debited_other l t from n to (λ e. d (sym e)))

    -- the sender, where it is not the receiver
    pub transfer_from : (from ≡ to → ⊥) → holding l (slot t) from + bias - n < bias + bias → holding (transfer_of l t from to n) (slot t) from ≡ holding l (slot t) from + bias - n
    unfolding transfer_of
    transfer_from d b =
        amount_at-put_amount_other (debited l t from n) (holding_at (slot t) from) (holding_at (slot t) to) (received l t from to n) (row_apart (holdings_at (slot t)) from to d)
        ∙ debited_from l t from n len high f b

-- another token's holdings
pub transfer_elsewhere : (l : List ℕ) (t from to n : ℕ) → from < 64 → to < 64 → (u b : ℕ) → b < 64 → (u ≡ slot t → ⊥) → holding (transfer_of l t from to n) u b ≡ holding l u b
transfer_elsewhere l t from to n f g u b h d =
    let o = only_transfer l t from to n f g in
    by_lt u (slot t) (holding (transfer_of l t from to n) u b ≡ holding l u b)
    (λ q. same-amount_at (holding_at u b) (under (holding_at u b) 16 (holdings_at (slot t)) 1024 o (omega arith)))
    (λ q. by_lt (slot t) u (holding (transfer_of l t from to n) u b ≡ holding l u b)
    (λ r. same-amount_at (holding_at u b) (over (holding_at u b) 16 (holdings_at (slot t)) 1024 o (omega arith)))
    (λ r. absurd (d (le_antisymm r q))))

-- ---- a good image stays good
module _ (l : List ℕ) (t from to n : ℕ) (g : Good l) (fh : from < 64) (toh : to < 64) (p : bias ≤ n) (f : AllFail (transfer_rules l t from to n)) where
  pub good_debited : Good (debited l t from n)
  unfolding debited
  good_debited =
      let (low, (high, (moving, (enough, _)))) = f in
      let th : slot t < 16 = omega arith in
      let (a, b) = holding_range l (slot t) from g th fh in
      good_holding l (slot t) from (holding l (slot t) from + bias - n) g th fh (omega arith) (omega arith) (omega arith)

  pub good_transfer : Good (transfer_of l t from to n)
  unfolding transfer_of received
  good_transfer =
      let (low, (high, (moving, (enough, (fits, _))))) = f in
      let th : slot t < 16 = omega arith in
      let k : kind (debited l t from n) (slot t) ≡ kind l (slot t) = same-le 8 (token_at (slot t)) (under (token_at (slot t)) 8 (holdings_at (slot t)) 1024 (only_debited l t from to n fh toh) (omega arith)) in
      let (a, b) = holding_range (debited l t from n) (slot t) to good_debited th toh in
      good_holding (debited l t from n) (slot t) to (received l t from to n) good_debited th toh (omega arith) (omega arith) fits
