-- The steps of a transfer, from what the functions called say.
use mathlib.Core.Path.{◌≡◌, refl, sym}
use mathlib.Core.List.{List}
use Prim.Native.Nat.{ℕ, ◌+◌, ◌-◌, ◌≤◌, ◌<◌}
use native.Mathlib.Omega.{arith}
use Rattle.std.specs.Prelude.{Option, Some, None}
use Rattle.fields.specs.Rules.{stop_at}
use Rattle.storage.specs.Facts.{Good}
use Rattle.image.specs.Layout.{slot, holding_at, holdings_at, toll, holding}
use Rattle.amount.specs.declared.Amount.{Amount}
use Rattle.amount.specs.Biased.{bias, biased, add_of, put_amount}
use Rattle.amount.specs.Frame.{row_apart}
use Rattle.amount.specs.Laws.{over_high, valued, sum-biased, amount_at-put_amount, amount_at-put_amount_other}
use Rattle.token.specs.Token.{Moves, arrives, debited, received, transfer_rules, transfer_number, transfer_of, transferred}
use Rattle.token.specs.Laws.{transfer_done}

pub toll_range : (l : List ℕ) (t : ℕ) → Good l → t < 64 → bias ≤ toll l (slot t)
toll_range l t g h = (g.tokens (slot t) (omega arith)).not_below

-- ---- the sender is left with m
module _ (l : List ℕ) (t from to m : ℕ) where
  pub self_left : Good l → t < 64 → from < 64 → m < bias + bias → from ≡ to → m ≡ holding (put_amount l (holding_at (slot t) from) m) (slot t) to
  self_left g h f b e =
      let len = g.long in
      rw (← e) (sym (amount_at-put_amount l (holding_at (slot t) from) m (omega arith) b))

  pub other_left : (from ≡ to → ⊥) → holding l (slot t) to ≡ holding (put_amount l (holding_at (slot t) from) m) (slot t) to
  other_left d = sym (amount_at-put_amount_other l (holding_at (slot t) to) (holding_at (slot t) from) m (row_apart (holdings_at (slot t)) to from (λ e. d (sym e))))

module _ (l : List ℕ) (t from to n : ℕ) where
  -- h is what the receiver has once the sender is left with m, g what arrives, and s their sum
  module _ (w : Moves l t) (p : n ≤ holding l (slot t) from) {m h g : ℕ} {s : Option Amount} (q : m ≡ holding l (slot t) from + bias - n) (a : h ≡ holding (put_amount l (holding_at (slot t) from) m) (slot t) to) (b : g ≡ bias + arrives (toll l (slot t)) n) (e : s ≡ add_of h g) where
    sum_is : h + g ≡ bias + received l t from to n
    unfolding received debited
    sum_is = let u = rw q at a in omega arith

    pub too_much : s ≡ None → 23 ≡ transfer_number l t from to n
    unfolding transfer_number
    too_much f =
        let u = sum_is in
        let high = over_high _ e f (omega arith) in
        let k = w.of_kind_1 in
        let (low, below) = w.is_token in
        stop_at (transfer_rules l t from to n) 4 _ (omega arith) refl

    pub is_room : {v : Amount} → s ≡ Some v → 0 ≡ transfer_number l t from to n
    unfolding transfer_number
    is_room f =
        let ((low, high), _) = valued _ e f in
        let u = sum_is in
        let k = w.of_kind_1 in
        let (first, last) = w.is_token in
        stop_at (transfer_rules l t from to n) 5 _ (omega arith) refl

    pub sum_received : {v : Amount} → s ≡ Some v → biased v ≡ received l t from to n
    sum_received f =
        let u = sum_is in
        let k = sum-biased _ e f in
        omega arith

  -- the image
  pub moved : {m k : ℕ} {z : List ℕ} → 0 ≡ transfer_number l t from to n → m ≡ holding l (slot t) from + bias - n → k ≡ received l t from to n
      → z ≡ put_amount (put_amount l (holding_at (slot t) from) m) (holding_at (slot t) to) k → z ≡ transferred l t from to n
  unfolding transfer_of debited
  moved e f g h = rw (h, f, g) (sym (transfer_done l t from to n (sym e)))
