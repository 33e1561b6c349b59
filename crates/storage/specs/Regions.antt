-- One law for each region of the image: a write there that keeps the region's own facts keeps the image good.
use Rattle.std.specs.Prelude.{◌≡◌, List, ℕ, ◌+◌, ◌-◌, ◌*◌, ◌≤◌, ◌<◌}
use Rattle.std.proofs.Common.{sym, ◌∙◌, arith}
use Rattle.image.specs.Layout.{cap_at, snapshot_at, tracked_key_at, token_at, toll_at, holdings_at, credits_at, flags, default_token, tracked_count, cap, kind, tracked_key, holding, credit, initialised, is_capped}
use Rattle.amount.specs.Frame.{same-amount_at}
use Rattle.amount.specs.Biased.{bias, amount_at}
use Rattle.fields.specs.Frame.{Only, Agree, under, over, part, same-le}
use Rattle.storage.specs.Facts.{FieldsOf, Above, Keys, Zero, Token, Good}

-- ---- facts that are read from bytes that agree
module _ {l m : List ℕ} where
  pub same_zero : {b w : ℕ} → Agree b w l m → Zero b w l → Zero b w m
  same_zero a z i p q = a.same i p q ∙ z i p q

  pub same_fields : Agree 0 72 l m → FieldsOf l → FieldsOf m
  same_fields a g =
      rw (
        same-le 2 0 (part 0 2 a (omega arith) (omega arith)),
        same-le 1 2 (part 2 1 a (omega arith) (omega arith)),
        same-le 1 3 (part 3 1 a (omega arith) (omega arith)),
        same-le 1 4 (part 4 1 a (omega arith) (omega arith)),
        same-le 1 5 (part 5 1 a (omega arith) (omega arith)),
        same-le 1 6 (part 6 1 a (omega arith) (omega arith)),
        same-le 1 7 (part 7 1 a (omega arith) (omega arith)),
        same-amount_at 8 (part 8 16 a (omega arith) (omega arith)),
        same-amount_at 24 (part 24 16 a (omega arith) (omega arith)),
        same-le 8 40 (part 40 8 a (omega arith) (omega arith)),
        same-le 8 48 (part 48 8 a (omega arith) (omega arith)),
        same-le 8 56 (part 56 8 a (omega arith) (omega arith)),
        same-le 8 64 (part 64 8 a (omega arith) (omega arith)),
      ) g

  pub same_flags : Agree 0 2 l m → flags m ≡ flags l
  same_flags a = same-le 2 0 a

  pub same_kind : (t : ℕ) → Agree (token_at t) 24 l m → kind m t ≡ kind l t
  same_kind t a = same-le 8 (token_at t) (part (token_at t) 8 a (omega arith) (omega arith))

  pub same_caps : Agree 80 8 l m → Agree 96 1024 l m → ((a : ℕ) → a < 64 → Above (is_capped l a) (cap l a)) → (a : ℕ) → a < 64 → Above (is_capped m a) (cap m a)
  same_caps s c g a h = rw (same-le 8 80 s, same-amount_at (cap_at a) (part (cap_at a) 16 c (omega arith) (omega arith))) (g a h)

  pub same_keys : Agree 88 8 l m → Agree 1504 2176 l m → Keys l → Keys m
  same_keys s k g =
      let e = same-le 8 88 s in
      let f = g.few in
      record {
        few = rw e f;
        below = λ i h. let h' : i < tracked_count l = rw e at h in rw (same_key i h' f) (g.below i h');
        differ = λ i j p q z.
            let q' : j < tracked_count l = rw e at q in
            g.differ i j p q' (sym (same_key i (omega arith) f) ∙ z ∙ same_key j q' f);
        rest = λ i p q. let p' : tracked_key_at (tracked_count l) ≤ i = rw e at p in k.same i (omega arith) (omega arith) ∙ g.rest i p' q;
      }
    where
      same_key : (i : ℕ) → i < tracked_count l → tracked_count l ≤ 1088 → tracked_key m i ≡ tracked_key l i
      same_key i h f = same-le 2 (tracked_key_at i) (part (tracked_key_at i) 2 k (omega arith) (omega arith))

  -- a token whose entry and snapshot stand as they were
  pub token_from : (t : ℕ) → Agree (token_at t) 24 l m → Agree (snapshot_at t) 24 l m
      → ((a : ℕ) → a < 64 → bias ≤ holding m t a) → ((a : ℕ) → a < 64 → bias ≤ credit m t a)
      → (kind l t ≡ 0 → Zero (holdings_at t) 1024 m) → (kind l t ≡ 0 → Zero (credits_at t) 1024 m) → Token l t → Token m t
  token_from t a s h c zh zc g =
      let ek = same_kind t a in
      let et = same-amount_at (toll_at t) (part (toll_at t) 16 a (omega arith) (omega arith)) in
      let ep = same-le 4 (snapshot_at t) (part (snapshot_at t) 4 s (omega arith) (omega arith)) in
      let el = same-le 4 (snapshot_at t + 4) (part (snapshot_at t + 4) 4 s (omega arith) (omega arith)) in
      let eh = same-amount_at (snapshot_at t + 8) (part (snapshot_at t + 8) 16 s (omega arith) (omega arith)) in
      record {
        known = rw ek g.known;
        bool = rw ep g.bool;
        no_snapshot = rw (ep, el, eh) g.no_snapshot;
        not_below = rw et g.not_below;
        holdings = h;
        credits = c;
        absent = λ z. let z' = sym ek ∙ z in let b = g.absent z' in
            record { no_toll = et ∙ b.no_toll; none_present = ep ∙ b.none_present; holdings = zh z'; credits = zc z' };
      }

  pub same_row : (b : ℕ) → Agree b 1024 l m → ((a : ℕ) → a < 64 → bias ≤ amount_at l (b + 16 * a)) → (a : ℕ) → a < 64 → bias ≤ amount_at m (b + 16 * a)
  same_row b e g a h = rw (same-amount_at (b + 16 * a) (part (b + 16 * a) 16 e (omega arith) (omega arith))) (g a h)

  pub same-token : (t : ℕ) → Agree (token_at t) 24 l m → Agree (snapshot_at t) 24 l m → Agree (holdings_at t) 1024 l m → Agree (credits_at t) 1024 l m → Token l t → Token m t
  same-token t a s h c g =
      token_from t a s (same_row (holdings_at t) h g.holdings) (same_row (credits_at t) c g.credits)
      (λ z. same_zero h (g.absent z).holdings) (λ z. same_zero c (g.absent z).credits) g

  -- ---- the head, 0 to 80: the fields' facts, at the new values
  pub good_head : Good l → Only 0 80 l m → flags m < 64 → initialised m ≡ 1 → FieldsOf m → 0 < kind l (default_token m - 48) → Good m
  good_head g o f i x d = record {
    long = o.long ∙ g.long;
    bytes = o.bytes g.bytes;
    flagged = f;
    fields = λ _. x;
    default = λ _. rw (same_kind (default_token m - 48) (over (token_at (default_token m - 48)) 24 0 80 o (omega arith))) d;
    blank = λ z. absurd (omega arith);
    caps = same_caps (over 80 8 0 80 o (omega arith)) (over 96 1024 0 80 o (omega arith)) g.caps;
    keys = same_keys (over 88 8 0 80 o (omega arith)) (over 1504 2176 0 80 o (omega arith)) g.keys;
    tokens = λ t h. same-token t (over (token_at t) 24 0 80 o (omega arith)) (over (snapshot_at t) 24 0 80 o (omega arith))
        (over (holdings_at t) 1024 0 80 o (omega arith)) (over (credits_at t) 1024 0 80 o (omega arith)) (g.tokens t h);
  }

  -- ---- between head and tokens, 80 to 3680: caps, keys and tokens anew
  pub good_middle : Good l → initialised l ≡ 1 → Only 80 3600 l m → ((a : ℕ) → a < 64 → Above (is_capped m a) (cap m a)) → Keys m → ((t : ℕ) → t < 16 → Token m t) → Good m
  good_middle g i o c k t =
      let e = same_flags (under 0 2 80 3600 o (omega arith)) in
      let x = same_fields (under 0 72 80 3600 o (omega arith)) (g.fields i) in
      let f = g.flagged in
      let et : default_token m ≡ default_token l = same-le 1 3 (under 3 1 80 3600 o (omega arith)) in
      record {
        long = o.long ∙ g.long;
        bytes = o.bytes g.bytes;
        flagged = rw e f;
        fields = λ _. x;
        default = λ _. rw (et, same_kind (default_token l - 48) (over (token_at (default_token l - 48)) 24 80 3600 o (omega arith))) (g.default i);
        blank = λ z. absurd (omega (arith, e));
        caps = c;
        keys = k;
        tokens = t;
      }

  -- ---- tokens, holdings, credits, from 3680 on: tokens anew, none of them gone
  pub good_tokens : {at n : ℕ} → Good l → Only at n l m → 3680 ≤ at → ((t : ℕ) → t < 16 → Token m t) → ((t : ℕ) → t < 16 → 0 < kind l t → 0 < kind m t) → Good m
  good_tokens {at} {n} g o h t k =
      let a = under 0 3680 at n o h in
      let e = same_flags (part 0 2 a (omega arith) (omega arith)) in
      let et : default_token m ≡ default_token l = same-le 1 3 (part 3 1 a (omega arith) (omega arith)) in
      let f = g.flagged in
      record {
        long = o.long ∙ g.long;
        bytes = o.bytes g.bytes;
        flagged = rw e f;
        fields = λ i. same_fields (part 0 72 a (omega arith) (omega arith)) (g.fields (omega (arith, e)));
        default = λ i. let y : initialised l ≡ 1 = omega (arith, e) in let b = (g.fields y).default_token in rw et (k (default_token l - 48) (omega arith) (g.default y));
        blank = λ i. same_zero a (g.blank (omega (arith, e)));
        caps = same_caps (part 80 8 a (omega arith) (omega arith)) (part 96 1024 a (omega arith) (omega arith)) g.caps;
        keys = same_keys (part 88 8 a (omega arith) (omega arith)) (part 1504 2176 a (omega arith) (omega arith)) g.keys;
        tokens = t;
      }
