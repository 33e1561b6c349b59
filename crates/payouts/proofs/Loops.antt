-- The loops over the items of a record: what holds after i of count of them.
use mathlib.Core.Path.{◌≡◌, sym, ap, ◌∙◌}
use mathlib.Core.List.{List, [], ◌∷◌}
use Prim.Native.Nat.{ℕ, suc, ◌+◌, ◌-◌, ◌<◌}
use native.Mathlib.Omega.{arith}
use native.Mathlib.Nat.{sub-zero}
use Rattle.book.specs.Moves.{still_begun}
use Rattle.record.specs.Record.{item_address, item_amount}
use Rattle.storage.specs.Facts.{Good}
use Rattle.image.specs.Layout.{initialised}
use Rattle.amount.specs.Biased.{bias}
use Rattle.fields.specs.Rules.{or_go, or_stop, or_none}
use Rattle.payouts.specs.Parts.{put_events, Pays, Payable}
use Rattle.payouts.proofs.Moved.{pay_moves}
use Rattle.payouts.specs.Payouts.{payout, items, items_number, items_sum, pay_number, payouts_number, payouts_image, payouts_events}

module _ (r : List ℕ) (count i : ℕ) where
  pub items_end : count - i ≡ 0 → items (count - i) i r ≡ []
  unfolding items
  items_end e = rw e

  pub items_next : i < count → items (count - i) i r ≡ payout (item_address r i) (item_amount r i) ∷ items (count - (i + 1)) (i + 1) r
  unfolding items
  items_next h =
      let e : count - i ≡ suc (count - (i + 1)) = omega arith in
      let f : i + 1 ≡ suc i = omega arith in
      rw (e, f)

-- ---- the sum: s is that of the first i items
pub record Added (r : List ℕ) (count i s : ℕ) : Type 0 where
  pub number : items_number (items count 0 r) bias ≡ items_number (items (count - i) i r) s
  pub sum : items_sum (items count 0 r) bias ≡ items_sum (items (count - i) i r) s

pub sum_begins : (r : List ℕ) (count s : ℕ) → s ≡ bias → Added r count 0 s
sum_begins r count s e = record { number = rw (sub-zero, e); sum = rw (sub-zero, e) }

-- ---- the payouts: m and v are image and events after the first i of them, l and e those at first
pub record Paying (r : List ℕ) (t seq caller by count : ℕ) (l e : List ℕ) (i : ℕ) (m v : List ℕ) : Type 0 where
  pub good : Good m
  pub begun : initialised m ≡ 1
  pub payable : Payable (items (count - i) i r)
  pub numbered : payouts_number (items count 0 r) t seq l ≡ payouts_number (items (count - i) i r) t seq m
  pub changed : payouts_image (items count 0 r) t seq l ≡ payouts_image (items (count - i) i r) t seq m
  pub written : put_events e 0 (payouts_events (items count 0 r) t seq caller by l) ≡ put_events v i (payouts_events (items (count - i) i r) t seq caller by m)

module _ (r : List ℕ) (t seq caller by count : ℕ) {l e : List ℕ} where
  pub pay_begins : Good l → initialised l ≡ 1 → Payable (items count 0 r) → Paying r t seq caller by count l e 0 l e
  pay_begins g b a = record { good = g; begun = b; payable = rw sub-zero a; numbered = rw sub-zero; changed = rw sub-zero; written = rw sub-zero }

  module _ (i : ℕ) {m v : List ℕ} (w : Paying r t seq caller by count l e i m v) where
    pub pay_ends : count - i ≡ 0 → Pays (items count 0 r) t seq caller by l e 0 0 m v
    unfolding payouts_number payouts_image payouts_events put_events
    pay_ends z =
        let n = items_end r count i z in
        record { numbered = sym (rw n at w.numbered); changed = λ _. sym (rw n at w.changed); written = λ _. sym (rw n at w.written) }

    -- a turn
    module _ (h : i < count) where
      due : Payable (payout (item_address r i) (item_amount r i) ∷ items (count - (i + 1)) (i + 1) r)
      due = rw (items_next r count i h) at w.payable

      -- to and a are the item's, k its payout's number, m' and v' image and events after it
      module _ {to a k : ℕ} {m' v' : List ℕ} (p : to ≡ item_address r i) (q : a ≡ item_amount r i) (d : Pays (payout to a ∷ []) t seq caller by m v i k m' v') where
        made : Pays (payout (item_address r i) (item_amount r i) ∷ []) t seq caller by m v i k m' v'
        made = rw (p, q) at d

        first : k ≡ pay_number m t (item_address r i) (item_amount r i)
        unfolding payouts_number
        first = made.numbered ∙ or_none _

        pub pay_stops : (k ≡ 0 → ⊥) → k ≡ payouts_number (items count 0 r) t seq l
        unfolding payouts_number
        pay_stops z = first ∙ or_stop _ _ (λ y. z (first ∙ y)) ∙ sym (rw (items_next r count i h) at w.numbered)

        pub pay_goes_on : k ≡ 0 → Paying r t seq caller by count l e (i + 1) m' v'
        unfolding payouts_number payouts_image payouts_events put_events
        pay_goes_on z =
            let c : pay_number m t (item_address r i) (item_amount r i) ≡ 0 = sym first ∙ z in
            let n = items_next r count i h in
            let u = pay_moves m t seq (item_address r i) (item_amount r i) w.good w.begun due.0.0 due.0.1 c in
            let one = payout (item_address r i) (item_amount r i) ∷ [] in
            let m'' : List ℕ = payouts_image one t seq m in
            let v'' : List ℕ = put_events v i (payouts_events one t seq caller by m) in
            let j : suc i ≡ i + 1 = omega arith in
            rw (made.changed z, made.written z)
            (record {
              good = u.good;
              begun = still_begun u w.begun;
              payable = due.1;
              numbered = (rw n at w.numbered) ∙ or_go _ c;
              changed = rw n at w.changed;
              written = (rw n at w.written) ∙ ap (λ (x : ℕ). put_events v'' x (payouts_events (items (count - (i + 1)) (i + 1) r) t seq caller by m'')) j;
            })
