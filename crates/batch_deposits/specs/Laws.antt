-- What the checks of a batch that passed say of image and items, and the sums and transfers of items one item on.
use Rattle.std.specs.Prelude.{◌≡◌, List, [], ◌∷◌, length}
use Rattle.std.proofs.Math.Path.{refl}
use Rattle.std.proofs.Common.{sym, ap, ◌∙◌, mul-le-mul_right, arith, lit<}
use Prim.Native.Nat.{ℕ, zero, suc, ◌+◌, ◌-◌, ◌*◌, ◌≤◌, ◌<◌}
use Rattle.checks.specs.Checks.{max_vault_deposit, deposit_amount_rules}
use Rattle.checks.specs.Passed.{initialised_free, deposit_amount_free}
use Rattle.record.specs.Record.{item_address, item_amount}
use Rattle.token.specs.Token.{transfer_number}
use Rattle.image.specs.Layout.{initialised}
use Rattle.amount.specs.Laws.{by_lt}
use Rattle.amount.specs.Biased.{bias}
use Rattle.fields.specs.Rules.{AllFail, or_go, or_stop, or_zero, unlinked}
use Rattle.batch_deposits.specs.Batch.{open_number, item_number, items_number, items_sum, item_transfer, transfers_number, transfers_image, item_event, transfers_events}

pub open_free : (l : List ℕ) (count : ℕ) {k : ℕ} → k ≡ open_number l count → k ≡ 0 → initialised l ≡ 1
unfolding open_number
open_free l count e z = let u = unlinked _ (sym e ∙ z) in initialised_free l refl u.1.1.0

pub item_free : (r : List ℕ) (signers i : ℕ) {k : ℕ} → k ≡ item_number r signers i → k ≡ 0 → AllFail (deposit_amount_rules (item_amount r i))
unfolding item_number
item_free r signers i e z = let u = unlinked _ (sym e ∙ z) in deposit_amount_free (item_amount r i) refl u.0

-- every item is above 0
pub items_free : (n : ℕ) (r : List ℕ) (signers i j : ℕ) → items_number n r signers i ≡ 0 → i ≤ j → j < i + n → bias < item_amount r j
unfolding items_number
items_free zero r signers i j z p q = absurd (omega arith)
items_free (suc n) r signers i j z p q =
    let o = or_zero _ _ z in
    by_lt i j (bias < item_amount r j)
    (λ h. items_free n r signers (suc i) j o.1 (omega arith) (omega arith))
    (λ h. let e : i ≡ j = omega arith in let f = (item_free r signers i refl o.0).0 in rw e at f)

-- sixteen amounts of at most 10 ^ 30
sixteen_fit : 16 * max_vault_deposit < bias
unfolding max_vault_deposit bias
sixteen_fit = lit< tt

pub one_more_fits : (i : ℕ) → i < 16 → i * max_vault_deposit + max_vault_deposit < bias
one_more_fits i h = omega (arith, mul-le-mul_right max_vault_deposit h, sixteen_fit)

-- ---- n items from item i on: none left, a refusal, or one item more. The number left is an equation, so that a loop's count - i and i + 1 fit
module _ (n : ℕ) (r : List ℕ) (signers i : ℕ) where
  pub items_end : n ≡ 0 → (items_number n r signers i ≡ 0) × (items_sum n r i ≡ 0)
  unfolding items_number items_sum
  items_end e = rw e (refl, refl)

  module _ {k : ℕ} (q : k ≡ item_number r signers i) where
    pub items_stop : 0 < n → (k ≡ 0 → ⊥) → k ≡ items_number n r signers i
    unfolding items_number
    items_stop h z = go n h
      where
        go : (n : ℕ) → 0 < n → k ≡ items_number n r signers i
        go zero h = absurd (omega arith)
        go (suc n) h = q ∙ or_stop (item_number r signers i) _ (λ y. z (q ∙ y))

    pub items-step : (m j : ℕ) → n ≡ suc m → j ≡ suc i → k ≡ 0 → (items_number n r signers i ≡ items_number m r signers j) × (items_sum n r i ≡ item_amount r i - bias + items_sum m r j)
    unfolding items_number items_sum
    items-step m j e f z = rw (e, f) (or_go _ (sym q ∙ z), refl)

module _ (n : ℕ) (r : List ℕ) (t i : ℕ) (l : List ℕ) where
  pub transfers_end : n ≡ 0 → (transfers_number n r t i l ≡ 0) × (transfers_image n r t i l ≡ l) × (transfers_events n r t i l ≡ [])
  unfolding transfers_number transfers_image transfers_events
  transfers_end e = rw e (refl, refl, refl)

  module _ {k : ℕ} (q : k ≡ transfer_number l t (item_address r i) 1 (item_amount r i)) where
    pub transfers_stop : 0 < n → (k ≡ 0 → ⊥) → k ≡ transfers_number n r t i l
    unfolding transfers_number
    transfers_stop h z = go n h
      where
        go : (n : ℕ) → 0 < n → k ≡ transfers_number n r t i l
        go zero h = absurd (omega arith)
        go (suc n) h = q ∙ or_stop (transfer_number l t (item_address r i) 1 (item_amount r i)) _ (λ y. z (q ∙ y))

    pub transfers_step : (m j : ℕ) → n ≡ suc m → j ≡ suc i → k ≡ 0
        → (transfers_number n r t i l ≡ transfers_number m r t j (item_transfer l r t i)) × (transfers_image n r t i l ≡ transfers_image m r t j (item_transfer l r t i))
        × (transfers_events n r t i l ≡ item_event l r t i ∷ transfers_events m r t j (item_transfer l r t i))
    unfolding transfers_number transfers_image transfers_events
    transfers_step m j e f z = rw (e, f) (or_go _ (sym q ∙ z), refl, refl)

pub events_long : (n : ℕ) (r : List ℕ) (t i : ℕ) (l : List ℕ) → length (transfers_events n r t i l) ≡ n
unfolding transfers_events
events_long zero r t i l = refl
events_long (suc n) r t i l = ap suc (events_long n r t (suc i) (item_transfer l r t i))
