-- What a good image is, as facts, and that they are the test.
use Rattle.std.specs.Prelude.{◌≡◌, refl, Bool, true, false, not, List, ℕ, zero, suc, ◌+◌, ◌-◌, ◌*◌, ◌/◌, ◌%◌, ◌^◌, ◌≤◌, ◌<◌, eqb, ltb, leb, length, get_or}
use Rattle.std.proofs.Common.{sym, ap, ◌∙◌, arith, add-zero, add-suc, eqb-true, eq-eqb, ne_eqb, lt-ltb, le-leb, ltb-true, leb-true}
use Rattle.std.proofs.lemmas.Bool.{eqb-false, not-true}
use Rattle.image.specs.Layout.{tracked_key_at, holdings_at, credits_at, bit, flags, owner, default_token, operator, pending_owner, proposer, destination, proposed_at, time_to_live, migration_proposed_at, executable_at, capped_set, tracked_count, vault_limit, operator_limit, cap, toll, kind, tracked_key, snapshot_present, snapshot_ledger, snapshot_holding, holding, credit, initialised, is_capped}
use Rattle.image.specs.Good.{not_negatives, above_where, good_addresses, good_defaults, good_pending, good_migration, good_options, good_head, good_cap, tracked, fresh_key, good_keys, good_snapshot, good_absent, good_present, good_token, good_image}
use Rattle.image.specs.Laws.{not_negatives-at, not_negatives_from}
use Rattle.fields.specs.Bytes.{bytes_from, bytes-at}
use Rattle.amount.specs.Frame.{zero_amount_at}
use Rattle.amount.specs.Biased.{bias}
use Rattle.fields.specs.Logic.{◌and◌, ◌or◌, and_l, and_r, and_i, or_l, or_r, or_e, all-at, all_from}
use Rattle.fields.specs.Rules.{pick}
use Rattle.fields.specs.Zeros.{zeros, zeros-at, zeros_from}

-- ---- the head's fields by their values
pub record Fields (f ow tok op pe pr de lim ol pa tl ma ea : ℕ) : Type 0 where
  pub owner : ow < 64
  pub default_token : tok < 64
  pub is_token : 48 ≤ tok
  pub operator : op < 64
  pub pending_owner : pe < 64
  pub proposer : pr < 64
  pub destination : de < 64
  pub vault_limit : bias < lim
  pub time_to_live : 0 < tl
  pub no_operator : bit f 2 ≡ 0 → op ≡ 0
  pub operator_limit : bit f 3 ≡ 1 → bias < ol
  pub no_operator_limit : bit f 3 ≡ 0 → ol ≡ bias
  pub no_pending : bit f 4 ≡ 0 → (pe ≡ 0) × (pr ≡ 0) × (pa ≡ 0)
  pub no_migration : bit f 5 ≡ 0 → (de ≡ 0) × (ma ≡ 0) × (ea ≡ 0)

abbrev pub FieldsOf : List ℕ → Type 0
FieldsOf l =
    Fields (flags l) (owner l) (default_token l) (operator l) (pending_owner l) (proposer l) (destination l) (vault_limit l) (operator_limit l) (proposed_at l) (time_to_live l)
    (migration_proposed_at l) (executable_at l)

-- ---- an amount that is above 0 where its bit is set, and 0 elsewhere
pub record Above (set n : ℕ) : Type 0 where
  pub on : set ≡ 1 → bias < n
  pub off : set ≡ 0 → n ≡ bias

-- ---- tracked keys
pub record Keys (l : List ℕ) : Type 0 where
  pub few : tracked_count l ≤ 1088
  pub below : (i : ℕ) → i < tracked_count l → tracked_key l i < 1088
  pub differ : (i j : ℕ) → i < j → j < tracked_count l → tracked_key l i ≡ tracked_key l j → ⊥
  pub rest : (i : ℕ) → tracked_key_at (tracked_count l) ≤ i → i < 3680 → get_or l i 0 ≡ 0

-- ---- a token
abbrev pub Zero : ℕ → ℕ → List ℕ → Type 0
Zero b w l = (i : ℕ) → b ≤ i → i < b + w → get_or l i 0 ≡ 0

pub record Absent (l : List ℕ) (t : ℕ) : Type 0 where
  pub no_toll : toll l t ≡ bias
  pub none_present : snapshot_present l t ≡ 0
  pub holdings : Zero (holdings_at t) 1024 l
  pub credits : Zero (credits_at t) 1024 l

pub record Token (l : List ℕ) (t : ℕ) : Type 0 where
  pub known : kind l t < 3
  pub bool : snapshot_present l t < 2
  pub no_snapshot : snapshot_present l t ≡ 0 → (snapshot_ledger l t ≡ 0) × (snapshot_holding l t ≡ bias)
  pub not_below : bias ≤ toll l t
  pub holdings : (a : ℕ) → a < 64 → bias ≤ holding l t a
  pub credits : (a : ℕ) → a < 64 → bias ≤ credit l t a
  pub absent : kind l t ≡ 0 → Absent l t

-- ---- the image
pub record Good (l : List ℕ) : Type 0 where
  pub long : length l ≡ 36832
  pub bytes : (i : ℕ) → get_or l i 0 < 256
  pub flagged : flags l < 64
  pub fields : initialised l ≡ 1 → FieldsOf l
  pub default : initialised l ≡ 1 → 0 < kind l (default_token l - 48)
  pub blank : initialised l ≡ 0 → Zero 0 3680 l
  pub caps : (a : ℕ) → a < 64 → Above (is_capped l a) (cap l a)
  pub keys : Keys l
  pub tokens : (t : ℕ) → t < 16 → Token l t

-- ---- from the test to the facts
bit-one : (x : ℕ) → (x % 2 ≡ 1 → ⊥) → x % 2 ≡ 0
bit-one x h = omega arith

not-one : (n : ℕ) → n ≡ 0 → eqb n 1 ≡ false
not-one n e = rw e

above_facts : (x n : ℕ) → above_where (x % 2) n ≡ true → Above (x % 2) n
unfolding above_where
above_facts x n h = record {
  on = λ e. ltb-true bias n (rw (eq-eqb (x % 2) 1 e) at h);
  off = λ e. eqb-true n bias (rw (not-one (x % 2) e) at h);
}

above_test : (x n : ℕ) → Above (x % 2) n → above_where (x % 2) n ≡ true
unfolding above_where
above_test x n a = go (eqb (x % 2) 1) refl
  where
    go : (b : Bool) → eqb (x % 2) 1 ≡ b → pick b (ltb bias n) (eqb n bias) ≡ true
    go true e = lt-ltb bias n (a.on (eqb-true (x % 2) 1 e))
    go false e = eq-eqb n bias (a.off (bit-one x (eqb-false (x % 2) 1 e)))

unless_facts : (x : ℕ) (b : Bool) → eqb (x % 2) 1 or b ≡ true → x % 2 ≡ 0 → b ≡ true
unless_facts x b h e = or_e _ _ h (not-one (x % 2) e)

unless_test : (x : ℕ) (b : Bool) → (x % 2 ≡ 0 → b ≡ true) → eqb (x % 2) 1 or b ≡ true
unless_test x b f = go (eqb (x % 2) 1) refl
  where
    go : (c : Bool) → eqb (x % 2) 1 ≡ c → eqb (x % 2) 1 or b ≡ true
    go true e = or_l _ _ e
    go false e = or_r _ _ (f (bit-one x (eqb-false (x % 2) 1 e)))

three_facts : (a b c : ℕ) → eqb a 0 and eqb b 0 and eqb c 0 ≡ true → (a ≡ 0) × (b ≡ 0) × (c ≡ 0)
three_facts a b c h = (eqb-true a 0 (and_l _ _ h), eqb-true b 0 (and_l _ _ (and_r _ _ h)), eqb-true c 0 (and_r _ _ (and_r _ _ h)))

three_test : (a b c : ℕ) → (a ≡ 0) × (b ≡ 0) × (c ≡ 0) → eqb a 0 and eqb b 0 and eqb c 0 ≡ true
three_test a b c h = and_i _ _ (eq-eqb a 0 h.0) (and_i _ _ (eq-eqb b 0 h.1) (eq-eqb c 0 h.2))

fields_facts : (l : List ℕ) → good_addresses l ≡ true → good_defaults l ≡ true → good_options l ≡ true → FieldsOf l
unfolding good_addresses good_defaults good_options good_pending good_migration
fields_facts l a d o =
    let a2 = and_r _ _ a in let a3 = and_r _ _ a2 in let a4 = and_r _ _ a3 in let a5 = and_r _ _ a4 in
    let d2 = and_r _ _ d in let d3 = and_r _ _ d2 in
    let o2 = and_r _ _ o in let o3 = and_r _ _ o2 in
    let u = above_facts (flags l / 8) (operator_limit l) (and_l _ _ o2) in
    record {
      owner = ltb-true (owner l) 64 (and_l _ _ a);
      default_token = ltb-true (default_token l) 64 (and_l _ _ a2);
      is_token = leb-true 48 (default_token l) (and_l _ _ d3);
      operator = ltb-true (operator l) 64 (and_l _ _ a3);
      pending_owner = ltb-true (pending_owner l) 64 (and_l _ _ a4);
      proposer = ltb-true (proposer l) 64 (and_l _ _ a5);
      destination = ltb-true (destination l) 64 (and_r _ _ a5);
      vault_limit = ltb-true bias (vault_limit l) (and_l _ _ d);
      time_to_live = ltb-true 0 (time_to_live l) (and_l _ _ d2);
      no_operator = λ e. eqb-true (operator l) 0 (unless_facts (flags l / 4) _ (and_l _ _ o) e);
      operator_limit = u.on;
      no_operator_limit = u.off;
      no_pending = λ e. three_facts (pending_owner l) (proposer l) (proposed_at l) (unless_facts (flags l / 16) _ (and_l _ _ o3) e);
      no_migration = λ e. three_facts (destination l) (migration_proposed_at l) (executable_at l) (unless_facts (flags l / 32) _ (and_r _ _ o3) e);
    }

fields_test : (l : List ℕ) → FieldsOf l → 0 < kind l (default_token l - 48) → good_addresses l and good_defaults l and good_options l ≡ true
unfolding good_addresses good_defaults good_options good_pending good_migration
fields_test l g k =
    and_i _ _
    (and_i _ _ (lt-ltb (owner l) 64 g.owner) (and_i _ _ (lt-ltb (default_token l) 64 g.default_token) (and_i _ _ (lt-ltb (operator l) 64 g.operator)
    (and_i _ _ (lt-ltb (pending_owner l) 64 g.pending_owner) (and_i _ _ (lt-ltb (proposer l) 64 g.proposer) (lt-ltb (destination l) 64 g.destination))))))
    (and_i _ _
    (and_i _ _ (lt-ltb bias (vault_limit l) g.vault_limit) (and_i _ _ (lt-ltb 0 (time_to_live l) g.time_to_live) (and_i _ _ (le-leb 48 (default_token l) g.is_token) (lt-ltb 0 (kind l (default_token l - 48)) k))))
    (and_i _ _ (unless_test (flags l / 4) _ (λ e. eq-eqb (operator l) 0 (g.no_operator e)))
    (and_i _ _ (above_test (flags l / 8) (operator_limit l) (record { on = g.operator_limit; off = g.no_operator_limit }))
    (and_i _ _ (unless_test (flags l / 16) _ (λ e. three_test (pending_owner l) (proposer l) (proposed_at l) (g.no_pending e)))
    (unless_test (flags l / 32) _ (λ e. three_test (destination l) (migration_proposed_at l) (executable_at l) (g.no_migration e)))))))

-- zeros as a range
zero_facts : (l : List ℕ) (b w : ℕ) → zeros l b w ≡ true → Zero b w l
zero_facts l b w h i p q = let e : b + (i - b) ≡ i = omega arith in rw e at (zeros-at l w b (i - b) h (omega arith))

zero_test : (l : List ℕ) (b w : ℕ) → Zero b w l → zeros l b w ≡ true
zero_test l b w z = zeros_from l w b (λ i h. z (b + i) (omega arith) (omega arith))

-- keys
tracked_past : (l : List ℕ) (i d : ℕ) → tracked l (suc (i + d)) (tracked_key l i) ≡ true
unfolding tracked
tracked_past l i zero = rw add-zero (or_l _ _ (eq-eqb (tracked_key l i) (tracked_key l i) refl))
tracked_past l i (suc d) = rw add-suc (or_r _ _ (tracked_past l i d))

keys_facts : (l : List ℕ) → good_keys l ≡ true → Keys l
unfolding good_keys fresh_key
keys_facts l h = record {
  few = leb-true (tracked_count l) 1088 (and_l _ _ h);
  below = λ i k. ltb-true (tracked_key l i) 1088 (and_l _ _ (fresh i k));
  differ = λ i j p q e.
      let m : j ≡ suc (i + (j - suc i)) = omega arith in
      let t : tracked l j (tracked_key l i) ≡ true = ap (λ (x : ℕ). tracked l x (tracked_key l i)) m ∙ tracked_past l i (j - suc i) in
      let z : true ≡ false = sym t ∙ ap (tracked l j) e ∙ not-true (tracked l j (tracked_key l j)) (and_r _ _ (fresh j q)) in
      let w : ◌≡◌ {A = ℕ} 0 1 = cc in omega arith;
  rest = λ i p q. zero_facts l (tracked_key_at (tracked_count l)) (2176 - 2 * tracked_count l) (and_r _ _ (and_r _ _ h)) i p (omega arith);
}
  where
    fresh : (i : ℕ) → i < tracked_count l → ltb (tracked_key l i) 1088 and not (tracked l i (tracked_key l i)) ≡ true
    fresh i k = all-at _ (tracked_count l) i k (and_l _ _ (and_r _ _ h))

untracked : (l : List ℕ) (n k : ℕ) → ((i : ℕ) → i < n → tracked_key l i ≡ k → ⊥) → tracked l n k ≡ false
unfolding tracked ◌or◌
untracked l zero k h = refl
untracked l (suc n) k h = rw (ne_eqb (tracked_key l n) k (h n (omega arith))) (untracked l n k (λ i p. h i (omega arith)))

keys_test : (l : List ℕ) → Keys l → good_keys l ≡ true
unfolding good_keys fresh_key
keys_test l g =
    let c = g.few in
    and_i _ _ (le-leb (tracked_count l) 1088 c)
    (and_i _ _
    (all_from _ (tracked_count l) (λ i k. and_i _ _ (lt-ltb (tracked_key l i) 1088 (g.below i k)) (ap not (untracked l i (tracked_key l i) (λ j p. g.differ j i p k)))))
    (zero_test l (tracked_key_at (tracked_count l)) (2176 - 2 * tracked_count l) (λ i p q. g.rest i p (omega arith))))

-- tokens
token_facts : (l : List ℕ) (t : ℕ) → good_token l t ≡ true → Token l t
unfolding good_token good_snapshot good_absent good_present
token_facts l t h =
    let s = and_l _ _ (and_r _ _ h) in
    let k = and_r _ _ (and_r _ _ h) in
    go (eqb (kind l t) 0) refl (ltb-true (kind l t) 3 (and_l _ _ h)) (ltb-true (snapshot_present l t) 2 (and_l _ _ s))
    (λ e. let r = or_e _ _ (and_r _ _ s) (not-one (snapshot_present l t) e) in (eqb-true (snapshot_ledger l t) 0 (and_l _ _ r), eqb-true (snapshot_holding l t) bias (and_r _ _ r))) k
  where
    go : (b : Bool) → eqb (kind l t) 0 ≡ b → kind l t < 3 → snapshot_present l t < 2 → (snapshot_present l t ≡ 0 → (snapshot_ledger l t ≡ 0) × (snapshot_holding l t ≡ bias))
        → pick b (eqb (toll l t) bias and eqb (snapshot_present l t) 0 and zeros l (holdings_at t) 1024 and zeros l (credits_at t) 1024)
        (leb bias (toll l t) and not_negatives l (holdings_at t) 64 and not_negatives l (credits_at t) 64) ≡ true
        → Token l t
    go true e k p n g =
        let to : toll l t ≡ bias = eqb-true (toll l t) bias (and_l _ _ g) in
        let g2 = and_r _ _ g in let g3 = and_r _ _ g2 in
        let zh = zero_facts l (holdings_at t) 1024 (and_l _ _ g3) in
        let zc = zero_facts l (credits_at t) 1024 (and_r _ _ g3) in
        record {
          known = k;
          bool = p;
          no_snapshot = n;
          not_below = omega arith;
          holdings = λ a q. omega (arith, zero_amount_at l (holdings_at t + 16 * a) (λ i u v. zh i (omega arith) (omega arith)));
          credits = λ a q. omega (arith, zero_amount_at l (credits_at t + 16 * a) (λ i u v. zc i (omega arith) (omega arith)));
          absent = λ _. record { no_toll = to; none_present = eqb-true (snapshot_present l t) 0 (and_l _ _ g2); holdings = zh; credits = zc };
        }
    go false e k p n g = record {
      known = k;
      bool = p;
      no_snapshot = n;
      not_below = leb-true bias (toll l t) (and_l _ _ g);
      holdings = λ a q. not_negatives-at l 64 (holdings_at t) a (and_l _ _ (and_r _ _ g)) q;
      credits = λ a q. not_negatives-at l 64 (credits_at t) a (and_r _ _ (and_r _ _ g)) q;
      absent = λ z. absurd (eqb-false (kind l t) 0 e z);
    }

token-test : (l : List ℕ) (t : ℕ) → Token l t → good_token l t ≡ true
unfolding good_token good_snapshot good_absent good_present
token-test l t g =
    and_i _ _ (lt-ltb (kind l t) 3 g.known)
    (and_i _ _ (and_i _ _ (lt-ltb (snapshot_present l t) 2 g.bool) (snap (eqb (snapshot_present l t) 1) refl)) (go (eqb (kind l t) 0) refl))
  where
    snap : (b : Bool) → eqb (snapshot_present l t) 1 ≡ b → eqb (snapshot_present l t) 1 or eqb (snapshot_ledger l t) 0 and eqb (snapshot_holding l t) bias ≡ true
    snap true e = or_l _ _ e
    snap false e =
        let n = eqb-false (snapshot_present l t) 1 e in
        let z : snapshot_present l t ≡ 0 = omega (arith, g.bool) in
        or_r _ _ (and_i _ _ (eq-eqb (snapshot_ledger l t) 0 (g.no_snapshot z).0) (eq-eqb (snapshot_holding l t) bias (g.no_snapshot z).1))

    go : (b : Bool) → eqb (kind l t) 0 ≡ b
        → pick b (eqb (toll l t) bias and eqb (snapshot_present l t) 0 and zeros l (holdings_at t) 1024 and zeros l (credits_at t) 1024)
        (leb bias (toll l t) and not_negatives l (holdings_at t) 64 and not_negatives l (credits_at t) 64) ≡ true
    go true e =
        let a = g.absent (eqb-true (kind l t) 0 e) in
        and_i _ _ (eq-eqb (toll l t) bias a.no_toll) (and_i _ _ (eq-eqb (snapshot_present l t) 0 a.none_present)
        (and_i _ _ (zero_test l (holdings_at t) 1024 a.holdings) (zero_test l (credits_at t) 1024 a.credits)))
    go false e =
        and_i _ _ (le-leb bias (toll l t) g.not_below) (and_i _ _ (not_negatives_from l 64 (holdings_at t) g.holdings) (not_negatives_from l 64 (credits_at t) g.credits))

default_facts : (l : List ℕ) → good_defaults l ≡ true → 0 < kind l (default_token l - 48)
unfolding good_defaults
default_facts l d = ltb-true 0 (kind l (default_token l - 48)) (and_r _ _ (and_r _ _ (and_r _ _ d)))

-- the image
pub facts : (l : List ℕ) → good_image l ≡ true → Good l
unfolding good_image good_head good_cap
facts l h =
    let h2 = and_r _ _ (and_r _ _ h) in
    let hd = and_l _ _ h2 in
    let h3 = and_r _ _ h2 in
    let h4 = and_r _ _ h3 in
    let p = and_r _ _ hd in
    record {
      long = eqb-true (length l) 36832 (and_l _ _ h);
      bytes = bytes-at l (and_l _ _ (and_r _ _ h));
      flagged = ltb-true (flags l) 64 (and_l _ _ hd);
      fields = λ e. let s = on e p in fields_facts l (and_l _ _ s) (and_l _ _ (and_r _ _ s)) (and_r _ _ (and_r _ _ s));
      default = λ e. let s = on e p in default_facts l (and_l _ _ (and_r _ _ s));
      blank = λ e. zero_facts l 0 3680 (off e p);
      caps = λ a k. above_facts (capped_set l / 2 ^ a) (cap l a) (all-at _ 64 a k (and_l _ _ h3));
      keys = keys_facts l (and_l _ _ h4);
      tokens = λ t k. token_facts l t (all-at _ 16 t k (and_r _ _ h4));
    }
  where
    on : initialised l ≡ 1 → pick (eqb (initialised l) 1) (good_addresses l and good_defaults l and good_options l) (zeros l 0 3680) ≡ true → good_addresses l and good_defaults l and good_options l ≡ true
    on e p = rw (eq-eqb (initialised l) 1 e) at p

    off : initialised l ≡ 0 → pick (eqb (initialised l) 1) (good_addresses l and good_defaults l and good_options l) (zeros l 0 3680) ≡ true → zeros l 0 3680 ≡ true
    off e p = rw (not-one (initialised l) e) at p

pub test : (l : List ℕ) → Good l → good_image l ≡ true
unfolding good_image good_head good_cap
test l g =
    and_i _ _ (eq-eqb (length l) 36832 g.long)
    (and_i _ _ (bytes_from l g.bytes)
    (and_i _ _ (and_i _ _ (lt-ltb (flags l) 64 g.flagged) (head (eqb (initialised l) 1) refl))
    (and_i _ _ (all_from _ 64 (λ a k. above_test (capped_set l / 2 ^ a) (cap l a) (g.caps a k)))
    (and_i _ _ (keys_test l g.keys) (all_from _ 16 (λ t k. token-test l t (g.tokens t k)))))))
  where
    head : (b : Bool) → eqb (initialised l) 1 ≡ b → pick b (good_addresses l and good_defaults l and good_options l) (zeros l 0 3680) ≡ true
    head true e = let i = eqb-true (initialised l) 1 e in fields_test l (g.fields i) (g.default i)
    head false e = zero_test l 0 3680 (g.blank (bit-one (flags l / 2 ^ 0) (eqb-false (initialised l) 1 e)))
