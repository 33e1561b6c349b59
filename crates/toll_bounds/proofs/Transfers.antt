-- The token's own transfers, one after another: the image stays good, the toll stays, and address 1 holds what the definition says.
use mathlib.Core.Path.{◌≡◌, refl, ap, ◌∙◌}
use mathlib.Core.List.{List}
use Prim.Native.Nat.{ℕ, zero, suc, ◌+◌, ◌≤◌, ◌<◌}
use native.Mathlib.Omega.{arith}
use Rattle.amount.specs.Biased.{bias}
use Rattle.image.specs.Layout.{slot, toll, holding}
use Rattle.storage.specs.Facts.{Good}
use Rattle.token.specs.Token.{arrives, transfer_number, transferred}
use Rattle.token.specs.Laws.{transfer_free, transfer_done, transfer_tolls, transfer_arrives, good_transfer}
use Rattle.toll_bounds.specs.Bounds.{holding_after}
use Rattle.toll_bounds.specs.Theorems.{moved_in_of, AllMove}

-- from image l to image m, where address 1 held h and a transfer brought k
record Arrived (t h k : ℕ) (l m : List ℕ) : Type 0 where
  pub good : Good m
  pub same_toll : toll m (slot t) ≡ toll l (slot t)
  pub held : holding m (slot t) 1 ≡ h + k

-- one transfer
one : (l : List ℕ) (t from n : ℕ) → Good l → from < 64 → (from ≡ 1 → ⊥) → bias ≤ n → transfer_number l t from 1 n ≡ 0
    → Arrived t (holding l (slot t) 1) (arrives (toll l (slot t)) n) l (transferred l t from 1 n)
one l t from n g fh away p z =
    let f = transfer_free l t from 1 n refl z in
    let (low, (high, (moving, (enough, (fits, _))))) = f in
    rw (transfer_done l t from 1 n z)
    (record {
      good = good_transfer l t from 1 n g fh (omega arith) p f;
      same_toll = transfer_tolls l t from 1 n fh (omega arith) (slot t) (omega arith);
      held = transfer_arrives l t from 1 n g.long high fh (omega arith) away fits;
    })

module _ (l : List ℕ) (t : ℕ) (senders amounts : ℕ → ℕ) (g : Good l) where
  fewer : (n : ℕ) → AllMove l t senders amounts (suc n) → AllMove l t senders amounts n
  fewer n a =
      record {
        address = λ i h. a.address i (omega arith);
        outside = λ i h. a.outside i (omega arith);
        done = λ i h. a.done i (omega arith);
      }

  pub moved_in : (n : ℕ) → ((i : ℕ) → i < n → bias ≤ amounts i) → AllMove l t senders amounts n
      → Good (moved_in_of l t senders amounts n)
      × (toll (moved_in_of l t senders amounts n) (slot t) ≡ toll l (slot t))
      × (holding (moved_in_of l t senders amounts n) (slot t) 1 ≡ holding_after (toll l (slot t)) (holding l (slot t) 1) amounts n)
  unfolding moved_in_of holding_after
  moved_in zero p a = (g, refl, refl)
  moved_in (suc n) p a =
      let (h, tolls, held) = moved_in n (λ i k. p i (omega arith)) (fewer n a) in
      let m = moved_in_of l t senders amounts n in
      let o = one m t (senders n) (amounts n) h (a.address n (omega arith)) (a.outside n (omega arith)) (p n (omega arith)) (a.done n (omega arith)) in
      (o.good, o.same_toll ∙ tolls, o.held ∙ (ap (λ (k : ℕ). k + arrives (toll m (slot t)) (amounts n)) held ∙ ap (λ (k : ℕ). holding_after (toll l (slot t)) (holding l (slot t) 1) amounts n + arrives k (amounts n)) tolls))
