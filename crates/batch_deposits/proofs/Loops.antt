-- The loops over the items: what holds after i of them.
use mathlib.Core.Path.{◌≡◌, refl, sym, ap, ◌∙◌}
use mathlib.Core.List.{List, [], ◌∷◌, ◌++◌, append_assoc, append-nil}
use Prim.Native.Nat.{ℕ, suc, ◌+◌, ◌-◌, ◌*◌, ◌≤◌, ◌<◌}
use native.Mathlib.Omega.{arith}
use lib.ListN.{length, length-append}
use native.Mathlib.Nat.{sub-zero}
use Rattle.events.specs.Event.{EventFields, put_event, event_buffer}
use Rattle.events.specs.Buffer.{appended}
use Rattle.record.specs.Record.{item_address, item_amount}
use Rattle.token.specs.Token.{transfer_number}
use Rattle.token.specs.Laws.{transfer_free, good_transfer}
use Rattle.storage.specs.Facts.{Good}
use Rattle.amount.specs.Biased.{bias}
use Rattle.fields.specs.Rules.{or_else}
use Rattle.checks.specs.Checks.{max_vault_deposit}
use Rattle.batch_deposits.specs.Batch.{item_number, items_number, items_sum, item_transfer, transfers_number, transfers_image, item_event, transfers_events}
use Rattle.batch_deposits.specs.Laws.{transfers_end, transfers_stop, transfers_step}

-- s is the sum, as a number, of the first i items of count
pub record Added (r : List ℕ) (signers count i s : ℕ) : Type 0 where
  pub number : items_number count r signers 0 ≡ items_number (count - i) r signers i
  pub sum : bias + items_sum count r 0 ≡ s + items_sum (count - i) r i
  pub low : bias ≤ s
  pub high : s ≤ bias + i * max_vault_deposit

pub sum_begins : (r : List ℕ) (signers count s : ℕ) → s ≡ bias → Added r signers count 0 s
sum_begins r signers count s e = record { number = rw sub-zero; sum = rw (sub-zero, e); low = omega arith; high = omega arith }

-- one item more
module _ (r : List ℕ) (count i : ℕ) where
  pub number_next : (signers : ℕ) → i < count → items_number (count - i) r signers i ≡ or_else (item_number r signers i) (items_number (count - (i + 1)) r signers (i + 1))
  unfolding items_number
  number_next signers h =
      let e : count - i ≡ suc (count - (i + 1)) = omega arith in
      let f : i + 1 ≡ suc i = omega arith in
      rw (e, f)

  pub sum_next : i < count → items_sum (count - i) r i ≡ item_amount r i - bias + items_sum (count - (i + 1)) r (i + 1)
  unfolding items_sum
  sum_next h =
      let e : count - i ≡ suc (count - (i + 1)) = omega arith in
      let f : i + 1 ≡ suc i = omega arith in
      rw (e, f)

-- the buffer holds i of all events, and the rest is to come
pub record Written (i : ℕ) (e : List ℕ) (all rest : List EventFields) : Type 0 where
  pub done : List EventFields
  pub long : length done ≡ i
  pub bytes : e ≡ event_buffer done
  pub joined : done ++ rest ≡ all

module _ {i : ℕ} {e : List ℕ} {all : List EventFields} where
  pub written_next : {x : EventFields} {rest : List EventFields} {v : List ℕ} → Written i e all (x ∷ rest) → i < 16 → v ≡ put_event e i x → Written (i + 1) v all rest
  written_next {x} {rest} w h q =
      record {
        done = w.done ++ (x ∷ []);
        long = let n = w.long in rw length-append (omega arith);
        bytes = appended w.done i w.bytes refl q w.long h;
        joined = append_assoc w.done (x ∷ []) rest ∙ w.joined;
      }

  pub written_all : {rest : List EventFields} → Written i e all rest → rest ≡ [] → e ≡ event_buffer all
  written_all w z = w.bytes ∙ ap event_buffer (sym (append-nil w.done) ∙ ap (λ (x : List EventFields). w.done ++ x) (sym z) ∙ w.joined)

-- l₀ is the image at first, l and e image and events after i transfers of count
pub record Underway (r : List ℕ) (t count : ℕ) (l₀ : List ℕ) (i : ℕ) (l e : List ℕ) : Type 0 where
  pub good : Good l
  pub number : transfers_number count r t 0 l₀ ≡ transfers_number (count - i) r t i l
  pub image : transfers_image count r t 0 l₀ ≡ transfers_image (count - i) r t i l
  pub written : Written i e (transfers_events count r t 0 l₀) (transfers_events (count - i) r t i l)

module _ (r : List ℕ) (t count : ℕ) (l₀ : List ℕ) (i : ℕ) (l e : List ℕ) (w : Underway r t count l₀ i l e) where
  -- a turn: k is the number of the item's transfer, y and v image and events after it
  module _ {k : ℕ} (h : i < count) (q : k ≡ transfer_number l t (item_address r i) 1 (item_amount r i)) where
    pub stops : (k ≡ 0 → ⊥) → k ≡ transfers_number count r t 0 l₀
    stops z = transfers_stop (count - i) r t i l q (omega arith) z ∙ sym w.number

    pub goes_on : {y v : List ℕ} → count ≤ 16 → item_address r i < 64 → bias < item_amount r i → k ≡ 0 → y ≡ item_transfer l r t i → v ≡ put_event e i (item_event l r t i) → Underway r t count l₀ (i + 1) y v
    goes_on {y} {v} m b d z c x =
        let f = transfer_free l t (item_address r i) 1 (item_amount r i) q z in
        let (sn, si, se) = transfers_step (count - i) r t i l q (count - (i + 1)) (i + 1) (omega arith) (omega arith) z in
        rw c
        (record {
          good = good_transfer l t (item_address r i) 1 (item_amount r i) w.good b (omega arith) (omega arith) f;
          number = w.number ∙ sn;
          image = w.image ∙ si;
          written = written_next (rw se at w.written) (omega arith) x;
        })

  pub ends : count - i ≡ 0 → (0 ≡ transfers_number count r t 0 l₀) × (l ≡ transfers_image count r t 0 l₀) × (e ≡ event_buffer (transfers_events count r t 0 l₀))
  ends z =
      let (sn, si, se) = transfers_end (count - i) r t i l z in
      (sym (w.number ∙ sn), sym (w.image ∙ si), written_all w.written se)
