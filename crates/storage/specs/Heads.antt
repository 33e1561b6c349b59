-- Writes in the head: each law is `good_head` at the values that stand there after.
use Rattle.std.specs.Prelude.{◌≡◌, refl, List, ℕ, ◌+◌, ◌-◌, ◌^◌, ◌≤◌, ◌<◌}
use Rattle.std.proofs.Common.{sym, ◌∙◌, arith}
use Rattle.image.specs.Layout.{flags, kind, initialised, with_bit, without_bit}
use Rattle.amount.specs.Frame.{only_put_amount, zero_amount_at}
use Rattle.amount.specs.Laws.{length-put_amount, amount_at-put_amount}
use Rattle.amount.specs.Biased.{bias, amount_at, put_amount}
use Rattle.fields.specs.Frame.{Only, only_put, only_then, only_in, zero_le}
use Rattle.fields.specs.Bytes.{le, put, length-put, le-put-same}
use Rattle.storage.specs.Facts.{Good}
use Rattle.storage.specs.Writes.{elsewhere}
use Rattle.storage.specs.Regions.{good_head}
use Rattle.storage.specs.Flags.{Turned, flag_on, flag_off}
use Rattle.storage.specs.Values.{with_owner, with_limit, with_ttl, with_flags, with_operator, with_operator_limit, with_pending, with_migration}

-- a write in the head
pub at_head : (w : ℕ) (l : List ℕ) (at x : ℕ) → at + w ≤ 80 → Only 0 80 l (put w l at x)
at_head w l at x h = only_in 0 80 at w (omega arith) (omega arith) (only_put w l at x)

pub at_head_amount : (l : List ℕ) (at x : ℕ) → at + 16 ≤ 80 → Only 0 80 l (put_amount l at x)
at_head_amount l at x h = only_in 0 80 at 16 (omega arith) (omega arith) (only_put_amount l at x)

-- the flags written at 0, read back
pub flags-put : (l : List ℕ) (f : ℕ) → Good l → f < 64 → flags (put 2 l 0 f) ≡ f
flags-put l f g h = let n = g.long in le-put-same 2 l 0 f (omega arith) (omega arith)

module _ (l : List ℕ) (g : Good l) (i : initialised l ≡ 1) where
  -- ---- one field
  pub good_limit : (n : ℕ) → bias < n → n < bias + bias → Good (put_amount l 8 n)
  good_limit n p q =
      let long = g.long in
      let e = amount_at-put_amount l 8 n (omega arith) q in
      good_head g (at_head_amount l 8 n (omega arith)) (simp elsewhere g.flagged) (simp elsewhere i) (simp (elsewhere, e) (with_limit p (g.fields i))) (simp elsewhere (g.default i))

  pub good_ttl : (x : ℕ) → 0 < x → x < 2 ^ 64 → Good (put 8 l 48 x)
  good_ttl x p q =
      let long = g.long in
      let e = le-put-same 8 l 48 x (omega arith) q in
      good_head g (at_head 8 l 48 x (omega arith)) (simp elsewhere g.flagged) (simp elsewhere i) (simp (elsewhere, e) (with_ttl p (g.fields i))) (simp elsewhere (g.default i))

  pub good_owner : (x : ℕ) → x < 64 → Good (put 1 l 2 x)
  good_owner x p =
      let long = g.long in
      let e = le-put-same 1 l 2 x (omega arith) (omega arith) in
      good_head g (at_head 1 l 2 x (omega arith)) (simp elsewhere g.flagged) (simp elsewhere i) (simp (elsewhere, e) (with_owner p (g.fields i))) (simp elsewhere (g.default i))

  pub good_approved : (x : ℕ) → Good (put 8 l 72 x)
  good_approved x =
      good_head g (at_head 8 l 72 x (omega arith)) (simp elsewhere g.flagged) (simp elsewhere i) (simp elsewhere (g.fields i)) (simp elsewhere (g.default i))

  -- ---- flags with one turned, and the fields that hang on it
  pub good_flags : (f v : ℕ) → Turned (flags l) 1 f v → Good (put 2 l 0 f)
  good_flags f v t =
      let long = g.long in
      let b = t.below in
      let e = le-put-same 2 l 0 f (omega arith) (omega arith) in
      good_head g (at_head 2 l 0 f (omega arith)) (rw e b) (rw e (t.other 0 (omega arith) (λ z. omega arith) ∙ i))
      (simp (elsewhere, e) (with_flags (t.other 2 (omega arith) (λ z. omega arith)) (t.other 3 (omega arith) (λ z. omega arith)) (t.other 4 (omega arith) (λ z. omega arith)) (t.other 5 (omega arith) (λ z. omega arith)) (g.fields i)))
      (simp elsewhere (g.default i))

  pub good_operator : (f v x : ℕ) → Turned (flags l) 2 f v → x < 64 → (v ≡ 0 → x ≡ 0) → Good (put 1 (put 2 l 0 f) 4 x)
  good_operator f v x t h z =
      let long = g.long in
      let b = t.below in
      let e = le-put-same 2 l 0 f (omega arith) (omega arith) in
      let w = le-put-same 1 (put 2 l 0 f) 4 x (rw length-put (omega arith)) (omega arith) in
      good_head g (only_then (at_head 2 l 0 f (omega arith)) (at_head 1 (put 2 l 0 f) 4 x (omega arith)))
      (simp (elsewhere, e) b) (simp (elsewhere, e) (t.other 0 (omega arith) (λ z. omega arith) ∙ i))
      (simp (elsewhere, e, w) (with_operator (t.other 3 (omega arith) (λ z. omega arith)) (t.other 4 (omega arith) (λ z. omega arith)) (t.other 5 (omega arith) (λ z. omega arith)) h (λ y. z (sym t.here ∙ y)) (g.fields i)))
      (simp elsewhere (g.default i))

  pub good_operator_limit : (f v n : ℕ) → Turned (flags l) 3 f v → n < bias + bias → (v ≡ 1 → bias < n) → (v ≡ 0 → n ≡ bias) → Good (put_amount (put 2 l 0 f) 24 n)
  good_operator_limit f v n t h a z =
      let long = g.long in
      let b = t.below in
      let e = le-put-same 2 l 0 f (omega arith) (omega arith) in
      let w = amount_at-put_amount (put 2 l 0 f) 24 n (rw length-put (omega arith)) h in
      good_head g (only_then (at_head 2 l 0 f (omega arith)) (at_head_amount (put 2 l 0 f) 24 n (omega arith)))
      (simp (elsewhere, e) b) (simp (elsewhere, e) (t.other 0 (omega arith) (λ z. omega arith) ∙ i))
      (simp (elsewhere, e, w) (with_operator_limit (t.other 2 (omega arith) (λ z. omega arith)) (t.other 4 (omega arith) (λ z. omega arith)) (t.other 5 (omega arith) (λ z. omega arith)) (λ y. a (sym t.here ∙ y)) (λ y. z (sym t.here ∙ y)) (g.fields i)))
      (simp elsewhere (g.default i))

  pub good_pending : (f v a b w : ℕ) → Turned (flags l) 4 f v → a < 64 → b < 64 → w < 2 ^ 64 → (v ≡ 0 → (a ≡ 0) × (b ≡ 0) × (w ≡ 0))
      → Good (put 8 (put 1 (put 1 (put 2 l 0 f) 5 a) 6 b) 40 w)
  good_pending f v a b w t h k q z =
      let long = g.long in
      let fb = t.below in
      let l1 = put 2 l 0 f in let l2 = put 1 l1 5 a in let l3 = put 1 l2 6 b in
      let e = le-put-same 2 l 0 f (omega arith) (omega arith) in
      let v1 = le-put-same 1 l1 5 a (simp length-put (omega arith)) (omega arith) in
      let v2 = le-put-same 1 l2 6 b (simp length-put (omega arith)) (omega arith) in
      let v3 = le-put-same 8 l3 40 w (simp length-put (omega arith)) q in
      good_head g
      (only_then (at_head 2 l 0 f (omega arith)) (only_then (at_head 1 l1 5 a (omega arith)) (only_then (at_head 1 l2 6 b (omega arith)) (at_head 8 l3 40 w (omega arith)))))
      (simp (elsewhere, e) fb) (simp (elsewhere, e) (t.other 0 (omega arith) (λ z. omega arith) ∙ i))
      (simp (elsewhere, e, v1, v2, v3) (with_pending (t.other 2 (omega arith) (λ z. omega arith)) (t.other 3 (omega arith) (λ z. omega arith)) (t.other 5 (omega arith) (λ z. omega arith)) h k (λ y. z (sym t.here ∙ y)) (g.fields i)))
      (simp elsewhere (g.default i))

  pub good_migration : (f v a b w : ℕ) → Turned (flags l) 5 f v → a < 64 → b < 2 ^ 64 → w < 2 ^ 64 → (v ≡ 0 → (a ≡ 0) × (b ≡ 0) × (w ≡ 0))
      → Good (put 8 (put 8 (put 1 (put 2 l 0 f) 7 a) 56 b) 64 w)
  good_migration f v a b w t h k q z =
      let long = g.long in
      let fb = t.below in
      let l1 = put 2 l 0 f in let l2 = put 1 l1 7 a in let l3 = put 8 l2 56 b in
      let e = le-put-same 2 l 0 f (omega arith) (omega arith) in
      let v1 = le-put-same 1 l1 7 a (simp length-put (omega arith)) (omega arith) in
      let v2 = le-put-same 8 l2 56 b (simp length-put (omega arith)) k in
      let v3 = le-put-same 8 l3 64 w (simp length-put (omega arith)) q in
      good_head g
      (only_then (at_head 2 l 0 f (omega arith)) (only_then (at_head 1 l1 7 a (omega arith)) (only_then (at_head 8 l2 56 b (omega arith)) (at_head 8 l3 64 w (omega arith)))))
      (simp (elsewhere, e) fb) (simp (elsewhere, e) (t.other 0 (omega arith) (λ z. omega arith) ∙ i))
      (simp (elsewhere, e, v1, v2, v3) (with_migration (t.other 2 (omega arith) (λ z. omega arith)) (t.other 3 (omega arith) (λ z. omega arith)) (t.other 4 (omega arith) (λ z. omega arith)) h (λ y. z (sym t.here ∙ y)) (g.fields i)))
      (simp elsewhere (g.default i))

  -- ---- the uses, one line each
  pub on : (k : ℕ) → k < 6 → Turned (flags l) k (with_bit (flags l) k) 1
  on k h = flag_on (flags l) k g.flagged h

  pub off : (k : ℕ) → k < 6 → Turned (flags l) k (without_bit (flags l) k) 0
  off k h = flag_off (flags l) k g.flagged h

  pub good_pause : Good (put 2 l 0 (with_bit (flags l) 1))
  good_pause = good_flags (with_bit (flags l) 1) 1 (on 1 (omega arith))

  pub good_unpause : Good (put 2 l 0 (without_bit (flags l) 1))
  good_unpause = good_flags (without_bit (flags l) 1) 0 (off 1 (omega arith))

  pub good_set-operator : (x : ℕ) → x < 64 → Good (put 1 (put 2 l 0 (with_bit (flags l) 2)) 4 x)
  good_set-operator x h = good_operator (with_bit (flags l) 2) 1 x (on 2 (omega arith)) h (λ z. absurd (omega arith))

  pub good_revoke_operator : Good (put 1 (put 2 l 0 (without_bit (flags l) 2)) 4 0)
  good_revoke_operator = good_operator (without_bit (flags l) 2) 0 0 (off 2 (omega arith)) (omega arith) (λ z. refl)

  pub good_set-operator_limit : (n : ℕ) → bias < n → n < bias + bias → Good (put_amount (put 2 l 0 (with_bit (flags l) 3)) 24 n)
  good_set-operator_limit n p q = good_operator_limit (with_bit (flags l) 3) 1 n (on 3 (omega arith)) q (λ z. p) (λ z. absurd (omega arith))

  pub good_propose : (a b w : ℕ) → a < 64 → b < 64 → w < 2 ^ 64 → Good (put 8 (put 1 (put 1 (put 2 l 0 (with_bit (flags l) 4)) 5 a) 6 b) 40 w)
  good_propose a b w h k q = good_pending (with_bit (flags l) 4) 1 a b w (on 4 (omega arith)) h k q (λ z. absurd (omega arith))

  pub good_no_pending : Good (put 8 (put 1 (put 1 (put 2 l 0 (without_bit (flags l) 4)) 5 0) 6 0) 40 0)
  good_no_pending = good_pending (without_bit (flags l) 4) 0 0 0 0 (off 4 (omega arith)) (omega arith) (omega arith) (omega arith) (λ z. (refl, refl, refl))

  pub good_initiate : (a b w : ℕ) → a < 64 → b < 2 ^ 64 → w < 2 ^ 64 → Good (put 8 (put 8 (put 1 (put 2 l 0 (with_bit (flags l) 5)) 7 a) 56 b) 64 w)
  good_initiate a b w h k q = good_migration (with_bit (flags l) 5) 1 a b w (on 5 (omega arith)) h k q (λ z. absurd (omega arith))

  pub good_no_migration : Good (put 8 (put 8 (put 1 (put 2 l 0 (without_bit (flags l) 5)) 7 0) 56 0) 64 0)
  good_no_migration = good_migration (without_bit (flags l) 5) 0 0 0 0 (off 5 (omega arith)) (omega arith) (omega arith) (omega arith) (λ z. (refl, refl, refl))

-- ---- initialise: flags 1, owner, token, limit, time to live; all else was zero
pub good_initialise : (l : List ℕ) (o t n x : ℕ) → Good l → initialised l ≡ 0 → o < 64 → 48 ≤ t → t < 64 → 0 < kind l (t - 48) → bias < n → n < bias + bias → 0 < x → x < 2 ^ 64
    → Good (put 8 (put_amount (put 1 (put 1 (put 2 l 0 1) 2 o) 3 t) 8 n) 48 x)
good_initialise l o t n x g i oh tl th d p q xp xq =
    let long = g.long in
    let z = g.blank i in
    let zl : (w b : ℕ) → b + w ≤ 80 → le w l b ≡ 0 = λ w b h. zero_le l w b (λ j u v. z j (omega arith) (omega arith)) in
    let za : amount_at l 24 ≡ bias = zero_amount_at l 24 (λ j u v. z j (omega arith) (omega arith)) in
    let l1 = put 2 l 0 1 in let l2 = put 1 l1 2 o in let l3 = put 1 l2 3 t in let l4 = put_amount l3 8 n in
    let e = le-put-same 2 l 0 1 (omega arith) (omega arith) in
    let v1 = le-put-same 1 l1 2 o (simp length-put (omega arith)) (omega arith) in
    let v2 = le-put-same 1 l2 3 t (simp length-put (omega arith)) (omega arith) in
    let v3 = amount_at-put_amount l3 8 n (simp length-put (omega arith)) q in
    let v4 = le-put-same 8 l4 48 x (simp (length-put_amount, length-put) (omega arith)) xq in
    good_head g
    (only_then (at_head 2 l 0 1 (omega arith)) (only_then (at_head 1 l1 2 o (omega arith)) (only_then (at_head 1 l2 3 t (omega arith))
    (only_then (at_head_amount l3 8 n (omega arith)) (at_head 8 l4 48 x (omega arith))))))
    (simp (elsewhere, e) (omega arith)) (simp (elsewhere, e) refl)
    (simp (elsewhere, e, v1, v2, v3, v4, zl 1 4 (omega arith), zl 1 5 (omega arith), zl 1 6 (omega arith), zl 1 7 (omega arith), za, zl 8 40 (omega arith), zl 8 56 (omega arith), zl 8 64 (omega arith))
    (record {
      owner = oh;
      default_token = th;
      is_token = tl;
      operator = omega arith;
      pending_owner = omega arith;
      proposer = omega arith;
      destination = omega arith;
      vault_limit = p;
      time_to_live = xp;
      no_operator = λ _. refl;
      operator_limit = λ c. absurd (omega arith);
      no_operator_limit = λ _. refl;
      no_pending = λ _. (refl, refl, refl);
      no_migration = λ _. (refl, refl, refl);
    }))
    (simp (elsewhere, v2) d)
