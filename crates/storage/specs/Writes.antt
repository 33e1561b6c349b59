-- One law for each kind of write: a good image stays good.
use Rattle.std.specs.Prelude.{◌≡◌, List, ℕ, ◌+◌, ◌*◌, ◌%◌, ◌^◌, ◌≤◌, ◌<◌, length}
use Rattle.std.proofs.Common.{sym, ap, ◌∙◌, arith, mod-lt, le_antisymm, lit<}
use Rattle.image.specs.Layout.{cap_at, snapshot_at, tracked_key_at, token_at, toll_at, holdings_at, holding_at, credits_at, credit_at, bit, capped_set, tracked_count, cap, kind, tracked_key, snapshot_present, initialised, is_capped, with_bit, holding, credit, default_token}
use Rattle.amount.specs.Frame.{only_put_amount, same-amount_at}
use Rattle.amount.specs.Laws.{by_lt, length-put_amount, amount_at-put_amount, le-put_amount_other, amount_at-put_other, amount_at-put_amount_other, amount_at_below}
use Rattle.amount.specs.Biased.{bias, amount_at, put_amount}
use Rattle.fields.specs.Frame.{Only, only_put, only_then, only_in, Agree, under, over, part, same-le}
use Rattle.fields.specs.Bytes.{put, length-put, le-put_other, le-put-same, apart_below}
use Rattle.storage.specs.Bits.{bit-set, bit_kept, le-put_mod, bit_mod}
use Rattle.storage.specs.Facts.{Above, Token, Good}
use Rattle.storage.specs.Regions.{same_kind, same_caps, same_keys, token_from, same_row, same-token, good_middle, good_tokens}

pub ruleset elsewhere = (le-put_other, le-put_amount_other, amount_at-put_other, amount_at-put_amount_other, length-put, length-put_amount)

-- two numbers below, above, or the same
pub three_ways : (a b : ℕ) (P : Type 0) → (a < b → P) → (b < a → P) → (a ≡ b → P) → P
three_ways a b P f g h = by_lt a b P f (λ p. by_lt b a P g (λ q. h (le_antisymm q p)))

-- ---- a row of 64 amounts, one of them written
row_put : (l : List ℕ) (b a n : ℕ) → b + 1024 ≤ length l → a < 64 → bias ≤ n → n < bias + bias → ((c : ℕ) → c < 64 → bias ≤ amount_at l (b + 16 * c))
    → (c : ℕ) → c < 64 → bias ≤ amount_at (put_amount l (b + 16 * a) n) (b + 16 * c)
row_put l b a n w h p q g c k =
    three_ways c a (bias ≤ amount_at (put_amount l (b + 16 * a) n) (b + 16 * c))
    (λ r. rw (same-amount_at (b + 16 * c) (under (b + 16 * c) 16 (b + 16 * a) 16 (only_put_amount l (b + 16 * a) n) (omega arith))) (g c k))
    (λ r. rw (same-amount_at (b + 16 * c) (over (b + 16 * c) 16 (b + 16 * a) 16 (only_put_amount l (b + 16 * a) n) (omega arith))) (g c k))
    (λ e. rw (e, amount_at-put_amount l (b + 16 * a) n (omega arith) q) p)

-- ---- a holding, a credit
module _ (l : List ℕ) (t a n : ℕ) (g : Good l) (th : t < 16) (ah : a < 64) (k : 0 < kind l t) (p : bias ≤ n) (q : n < bias + bias) where
  pub good_holding : Good (put_amount l (holding_at t a) n)
  good_holding =
      let at = holding_at t a in
      let o = only_put_amount l at n in
      let long = g.long in
      good_tokens g o (omega arith)
      (λ u h.
      let e = under (token_at u) 24 at 16 o (omega arith) in
      let s = under (snapshot_at u) 24 at 16 o (omega arith) in
      let c = over (credits_at u) 1024 at 16 o (omega arith) in
      three_ways u t (Token (put_amount l at n) u)
      (λ r. same-token u e s (under (holdings_at u) 1024 at 16 o (omega arith)) c (g.tokens u h))
      (λ r. same-token u e s (over (holdings_at u) 1024 at 16 o (omega arith)) c (g.tokens u h))
      (λ r.
      let y : 0 < kind l u = rw r k in
      token_from u e s (rw r (row_put l (holdings_at t) a n (omega arith) ah p q (g.tokens t th).holdings)) (same_row (credits_at u) c (g.tokens u h).credits)
      (λ z. absurd (omega arith)) (λ z. absurd (omega arith)) (g.tokens u h)))
      (λ u h v. rw (same_kind u (under (token_at u) 24 at 16 o (omega arith))) v)

  pub good_credit : Good (put_amount l (credit_at t a) n)
  good_credit =
      let at = credit_at t a in
      let o = only_put_amount l at n in
      let long = g.long in
      good_tokens g o (omega arith)
      (λ u h.
      let e = under (token_at u) 24 at 16 o (omega arith) in
      let s = under (snapshot_at u) 24 at 16 o (omega arith) in
      let c = under (holdings_at u) 1024 at 16 o (omega arith) in
      three_ways u t (Token (put_amount l at n) u)
      (λ r. same-token u e s c (under (credits_at u) 1024 at 16 o (omega arith)) (g.tokens u h))
      (λ r. same-token u e s c (over (credits_at u) 1024 at 16 o (omega arith)) (g.tokens u h))
      (λ r.
      let y : 0 < kind l u = rw r k in
      token_from u e s (same_row (holdings_at u) c (g.tokens u h).holdings) (rw r (row_put l (credits_at t) a n (omega arith) ah p q (g.tokens t th).credits))
      (λ z. absurd (omega arith)) (λ z. absurd (omega arith)) (g.tokens u h)))
      (λ u h v. rw (same_kind u (under (token_at u) 24 at 16 o (omega arith))) v)

-- ---- a token's kind: moving and frozen
pub good_kind : (l : List ℕ) (t k : ℕ) → Good l → t < 16 → 0 < k → k < 3 → Good (put 8 l (token_at t) k)
good_kind l t k g th p q =
    let at = token_at t in
    let o = only_put 8 l at k in
    let long = g.long in
    let now : kind (put 8 l at k) t ≡ k = le-put-same 8 l at k (omega arith) (omega arith) in
    good_tokens g o (omega arith)
    (λ u h.
    let s = under (snapshot_at u) 24 at 8 o (omega arith) in
    let v = over (holdings_at u) 1024 at 8 o (omega arith) in
    let c = over (credits_at u) 1024 at 8 o (omega arith) in
    let w = g.tokens u h in
    three_ways u t (Token (put 8 l at k) u)
    (λ r. same-token u (under (token_at u) 24 at 8 o (omega arith)) s v c w)
    (λ r. same-token u (over (token_at u) 24 at 8 o (omega arith)) s v c w)
    (λ r.
    let e : kind (put 8 l at k) u ≡ k = rw r now in
    let ep = same-le 4 (snapshot_at u) (part (snapshot_at u) 4 s (omega arith) (omega arith)) in
    let el = same-le 4 (snapshot_at u + 4) (part (snapshot_at u + 4) 4 s (omega arith) (omega arith)) in
    let eh = same-amount_at (snapshot_at u + 8) (part (snapshot_at u + 8) 16 s (omega arith) (omega arith)) in
    let et = same-amount_at (toll_at u) (over (toll_at u) 16 at 8 o (omega arith)) in
    record {
      known = rw e q;
      bool = rw ep w.bool;
      no_snapshot = rw (ep, el, eh) w.no_snapshot;
      not_below = rw et w.not_below;
      holdings = same_row (holdings_at u) v w.holdings;
      credits = same_row (credits_at u) c w.credits;
      absent = λ z. absurd (omega arith);
    }))
    (λ u h v.
    three_ways u t (0 < kind (put 8 l at k) u)
    (λ r. rw (same-le 8 (token_at u) (under (token_at u) 8 at 8 o (omega arith))) v)
    (λ r. rw (same-le 8 (token_at u) (over (token_at u) 8 at 8 o (omega arith))) v)
    (λ r. rw (r, now) p))

-- ---- a snapshot, any value
pub good_snapshot_at : {l m : List ℕ} (t : ℕ) → Good l → initialised l ≡ 1 → t < 16 → 0 < kind l t → Only (snapshot_at t) 24 l m → snapshot_present m t ≡ 1 → Good m
good_snapshot_at {l} {m} t g i th k o e =
    good_middle g i (only_in 80 3600 (snapshot_at t) 24 (omega arith) (omega arith) o)
    (same_caps (under 80 8 (snapshot_at t) 24 o (omega arith)) (under 96 1024 (snapshot_at t) 24 o (omega arith)) g.caps)
    (same_keys (under 88 8 (snapshot_at t) 24 o (omega arith)) (over 1504 2176 (snapshot_at t) 24 o (omega arith)) g.keys)
    (λ u h.
    let a = over (token_at u) 24 (snapshot_at t) 24 o (omega arith) in
    let v = over (holdings_at u) 1024 (snapshot_at t) 24 o (omega arith) in
    let c = over (credits_at u) 1024 (snapshot_at t) 24 o (omega arith) in
    let w = g.tokens u h in
    three_ways u t (Token m u)
    (λ r. same-token u a (under (snapshot_at u) 24 (snapshot_at t) 24 o (omega arith)) v c w)
    (λ r. same-token u a (over (snapshot_at u) 24 (snapshot_at t) 24 o (omega arith)) v c w)
    (λ r.
    let e' : snapshot_present m u ≡ 1 = rw r e in
    let k' : 0 < kind l u = rw r k in
    let ek = same_kind u a in
    record {
      known = rw ek w.known;
      bool = omega arith;
      no_snapshot = λ z. absurd (omega arith);
      not_below = rw (same-amount_at (toll_at u) (part (toll_at u) 16 a (omega arith) (omega arith))) w.not_below;
      holdings = same_row (holdings_at u) v w.holdings;
      credits = same_row (credits_at u) c w.credits;
      absent = λ z. absurd (omega arith);
    }))

pub good_snapshot : (l : List ℕ) (t q n : ℕ) → Good l → initialised l ≡ 1 → t < 16 → 0 < kind l t
    → Good (put_amount (put 4 (put 4 l (snapshot_at t) 1) (snapshot_at t + 4) q) (snapshot_at t + 8) n)
good_snapshot l t q n g i th k =
    let s = snapshot_at t in
    let long = g.long in
    let o = only_then (only_in s 24 s 4 (omega arith) (omega arith) (only_put 4 l s 1))
    (only_then (only_in s 24 (s + 4) 4 (omega arith) (omega arith) (only_put 4 (put 4 l s 1) (s + 4) q))
    (only_in s 24 (s + 8) 16 (omega arith) (omega arith) (only_put_amount (put 4 (put 4 l s 1) (s + 4) q) (s + 8) n))) in
    good_snapshot_at t g i th k o
    (le-put_amount_other 4 (put 4 (put 4 l s 1) (s + 4) q) s (s + 8) n (apart_below s 4 (s + 8) 16 (omega arith))
    ∙ (le-put_other 4 4 (put 4 l s 1) s (s + 4) q (apart_below s 4 (s + 4) 4 (omega arith)) ∙ le-put-same 4 l s 1 (omega arith) (omega arith)))

-- ---- a cap and its bit
pub good_cap : (l : List ℕ) (a n : ℕ) → Good l → initialised l ≡ 1 → a < 64 → bias < n → n < bias + bias
    → Good (put_amount (put 8 l 80 (with_bit (capped_set l) a)) (cap_at a) n)
good_cap l a n g i ah p q =
    let x = capped_set l in
    let y = with_bit x a in
    let l1 = put 8 l 80 y in
    let m = put_amount l1 (cap_at a) n in
    let long = g.long in
    let o1 = only_put 8 l 80 y in
    let o2 = only_put_amount l1 (cap_at a) n in
    let o : Only 80 1040 l m = only_then (only_in 80 1040 80 8 (omega arith) (omega arith) o1) (only_in 80 1040 (cap_at a) 16 (omega arith) (omega arith) o2) in
    let set : capped_set m ≡ y % 2 ^ 64 = same-le 8 80 (under 80 8 (cap_at a) 16 o2 (omega arith)) ∙ le-put_mod 8 l 80 y (omega arith) (mod-lt y (lit< tt)) in
    let cnt : Agree 88 8 l m = record { same = λ j u v. (under 88 8 (cap_at a) 16 o2 (omega arith)).same j u v ∙ (over 88 8 80 8 o1 (omega arith)).same j u v } in
    good_middle g i (only_in 80 3600 80 1040 (omega arith) (omega arith) o)
    (λ c h.
    let b : is_capped m c ≡ bit y c = ap (λ (z : ℕ). bit z c) set ∙ bit_mod y c h in
    let far : (c ≡ a → ⊥) → Agree (cap_at c) 16 l1 m → Above (is_capped m c) (cap m c) = λ d e.
    let v : cap m c ≡ cap l c = same-amount_at (cap_at c) e ∙ same-amount_at (cap_at c) (over (cap_at c) 16 80 8 o1 (omega arith)) in
    rw (b ∙ bit_kept x a c d, v) (g.caps c h) in
    three_ways c a (Above (is_capped m c) (cap m c))
    (λ r. far (λ z. omega arith) (under (cap_at c) 16 (cap_at a) 16 o2 (omega arith)))
    (λ r. far (λ z. omega arith) (over (cap_at c) 16 (cap_at a) 16 o2 (omega arith)))
    (λ r.
    let one : is_capped m c ≡ 1 = b ∙ (ap (bit y) r ∙ bit-set x a) in
    let v : cap m c ≡ n = ap (cap m) r ∙ amount_at-put_amount l1 (cap_at a) n (rw length-put (omega arith)) q in
    record { on = λ _. rw v p; off = λ z. absurd (omega arith) }))
    (same_keys cnt (over 1504 2176 80 1040 o (omega arith)) g.keys)
    (λ t h. same-token t (over (token_at t) 24 80 1040 o (omega arith)) (over (snapshot_at t) 24 80 1040 o (omega arith))
    (over (holdings_at t) 1024 80 1040 o (omega arith)) (over (credits_at t) 1024 80 1040 o (omega arith)) (g.tokens t h))

-- ---- a key that is not tracked yet
pub good_key : (l : List ℕ) (k : ℕ) → Good l → initialised l ≡ 1 → tracked_count l < 1088 → k < 1088 → ((i : ℕ) → i < tracked_count l → tracked_key l i ≡ k → ⊥)
    → Good (put 8 (put 2 l (tracked_key_at (tracked_count l)) k) 88 (tracked_count l + 1))
good_key l k g i few kb new =
    let n = tracked_count l in
    let l1 = put 2 l (tracked_key_at n) k in
    let m = put 8 l1 88 (n + 1) in
    let long = g.long in
    let o1 = only_put 2 l (tracked_key_at n) k in
    let o2 = only_put 8 l1 88 (n + 1) in
    let o : Only 80 3600 l m = only_then (only_in 80 3600 (tracked_key_at n) 2 (omega arith) (omega arith) o1) (only_in 80 3600 88 8 (omega arith) (omega arith) o2) in
    let both : (b w : ℕ) → Agree b w l l1 → Agree b w l1 m → Agree b w l m = λ b w x y. record { same = λ j u v. y.same j u v ∙ x.same j u v } in
    let cm : tracked_count m ≡ n + 1 = le-put-same 8 l1 88 (n + 1) (rw length-put (omega arith)) (omega arith) in
    let old : (j : ℕ) → j < n → tracked_key m j ≡ tracked_key l j = λ j h.
    same-le 2 (tracked_key_at j) (both (tracked_key_at j) 2 (under (tracked_key_at j) 2 (tracked_key_at n) 2 o1 (omega arith)) (over (tracked_key_at j) 2 88 8 o2 (omega arith))) in
    let last : tracked_key m n ≡ k = same-le 2 (tracked_key_at n) (over (tracked_key_at n) 2 88 8 o2 (omega arith)) ∙ le-put-same 2 l (tracked_key_at n) k (omega arith) (omega arith) in
    let w = g.keys in
    good_middle g i o
    (same_caps (both 80 8 (under 80 8 (tracked_key_at n) 2 o1 (omega arith)) (under 80 8 88 8 o2 (omega arith)))
    (both 96 1024 (under 96 1024 (tracked_key_at n) 2 o1 (omega arith)) (over 96 1024 88 8 o2 (omega arith))) g.caps)
    (record {
      few = omega arith;
      below = λ j h. three_ways j n (tracked_key m j < 1088) (λ r. rw (old j r) (w.below j r)) (λ r. absurd (omega arith)) (λ r. rw (r, last) kb);
      differ = λ a b p q e. three_ways b n ⊥
          (λ r. w.differ a b p r (sym (old a (omega arith)) ∙ (e ∙ old b r)))
          (λ r. omega arith)
          (λ r. new a (omega arith) (sym (old a (omega arith)) ∙ (e ∙ (ap (tracked_key m) r ∙ last))));
      rest = λ j p q. let p' : tracked_key_at (n + 1) ≤ j = rw cm at p in o2.above j (omega arith) ∙ (o1.above j (omega arith) ∙ w.rest j (omega arith) q);
    })
    (λ t h. same-token t
    (both (token_at t) 24 (over (token_at t) 24 (tracked_key_at n) 2 o1 (omega arith)) (over (token_at t) 24 88 8 o2 (omega arith)))
    (both (snapshot_at t) 24 (under (snapshot_at t) 24 (tracked_key_at n) 2 o1 (omega arith)) (over (snapshot_at t) 24 88 8 o2 (omega arith)))
    (both (holdings_at t) 1024 (over (holdings_at t) 1024 (tracked_key_at n) 2 o1 (omega arith)) (over (holdings_at t) 1024 88 8 o2 (omega arith)))
    (both (credits_at t) 1024 (over (credits_at t) 1024 (tracked_key_at n) 2 o1 (omega arith)) (over (credits_at t) 1024 88 8 o2 (omega arith))) (g.tokens t h))

-- ---- an amount of a good image
pub holding_range : (l : List ℕ) (t a : ℕ) → Good l → t < 16 → a < 64 → (bias ≤ holding l t a) × (holding l t a < bias + bias)
holding_range l t a g h k = ((g.tokens t h).holdings a k, amount_at_below l (holding_at t a) g.bytes)

pub credit_range : (l : List ℕ) (t a : ℕ) → Good l → t < 16 → a < 64 → (bias ≤ credit l t a) × (credit l t a < bias + bias)
credit_range l t a g h k = ((g.tokens t h).credits a k, amount_at_below l (credit_at t a) g.bytes)

-- the default token of an initialised image is one of the tokens
pub default_range : (l : List ℕ) → Good l → initialised l ≡ 1 → (48 ≤ default_token l) × (default_token l < 64)
default_range l g i = ((g.fields i).is_token, (g.fields i).default_token)
