-- A key below 1,088 that is not tracked has room: distinct numbers below N are at most N.
use Rattle.std.specs.Prelude.{◌≡◌, refl, Bool, true, false, List, ℕ, zero, suc, ◌≤◌, ◌<◌, eqb, ltb}
use Rattle.std.proofs.Common.{sym, ap, ◌∙◌, arith, eqb-true, eq-eqb, lt-ltb, le-ltb}
use Rattle.std.proofs.lemmas.Bool.{eqb-false}
use Rattle.image.specs.Layout.{tracked_count, tracked_key}
use Rattle.image.specs.Good.{tracked}
use Rattle.fields.specs.Logic.{◌or◌, or_l, or_r}
use Rattle.fields.specs.Rules.{pick}
use Rattle.storage.specs.Facts.{Keys}
use Rattle.storage.specs.Writes.{three_ways}

pub record Apart (N n : ℕ) (f : ℕ → ℕ) : Type 0 where
  pub below : (i : ℕ) → i < n → f i < N
  pub differ : (i j : ℕ) → i < j → j < n → f i ≡ f j → ⊥

-- the number N, wherever it is, replaced by the last
other : ℕ → ℕ → ℕ → ℕ
other N last x = pick (eqb x N) last x

fewer : (N m : ℕ) (f : ℕ → ℕ) → Apart (suc N) (suc m) f → Apart N m (λ i. other N (f m) (f i))
unfolding other
fewer N m f a = record {
  below = λ i h. small i h (eqb (f i) N) refl;
  differ = λ i j p q. apart i j p q (eqb (f i) N) (eqb (f j) N) refl refl;
}
  where
    small : (i : ℕ) → i < m → (b : Bool) → eqb (f i) N ≡ b → pick b (f m) (f i) < N
    small i h true e =
        let k = a.differ i m h (omega arith) in
        let x = eqb-true (f i) N e in
        let y = a.below m (omega arith) in
        three_ways (f m) N (f m < N) (λ r. r) (λ r. omega arith) (λ r. absurd (k (x ∙ sym r)))
    small i h false e =
        let x = eqb-false (f i) N e in
        let y = a.below i (omega arith) in
        omega arith

    apart : (i j : ℕ) → i < j → j < m → (b c : Bool) → eqb (f i) N ≡ b → eqb (f j) N ≡ c → pick b (f m) (f i) ≡ pick c (f m) (f j) → ⊥
    apart i j p q true true d e z = a.differ i j p (omega arith) (eqb-true (f i) N d ∙ sym (eqb-true (f j) N e))
    apart i j p q true false d e z = a.differ j m q (omega arith) (sym z)
    apart i j p q false true d e z = a.differ i m (omega arith) (omega arith) z
    apart i j p q false false d e z = a.differ i j p (omega arith) z

pub pigeon : (N n : ℕ) (f : ℕ → ℕ) → Apart N n f → n ≤ N
pigeon N zero f a = omega arith
pigeon zero (suc m) f a = let h = a.below 0 (omega arith) in omega arith
pigeon (suc N) (suc m) f a = let h = pigeon N m (λ i. other N (f m) (f i)) (fewer N m f a) in omega arith

-- the keys, with k as one more
more : List ℕ → ℕ → ℕ → ℕ
more l k i = pick (ltb i (tracked_count l)) (tracked_key l i) k

more_old : (l : List ℕ) (k i : ℕ) → i < tracked_count l → more l k i ≡ tracked_key l i
unfolding more
more_old l k i h = rw (lt-ltb i (tracked_count l) h)

more_new : (l : List ℕ) (k i : ℕ) → tracked_count l ≤ i → more l k i ≡ k
unfolding more
more_new l k i h = rw (le-ltb i (tracked_count l) h)

pub room : (l : List ℕ) (k : ℕ) → Keys l → k < 1088 → ((i : ℕ) → i < tracked_count l → tracked_key l i ≡ k → ⊥) → tracked_count l < 1088
room l k g h new = let p = pigeon 1088 (suc (tracked_count l)) (more l k) apart in omega arith
  where
    apart : Apart 1088 (suc (tracked_count l)) (more l k)
    apart = record {
      below = λ i p. three_ways i (tracked_count l) (more l k i < 1088) (λ r. rw (more_old l k i r) (g.below i r)) (λ r. absurd (omega arith)) (λ r. let q : tracked_count l ≤ i = omega arith in rw (more_new l k i q) h);
      differ = λ i j p q e. three_ways j (tracked_count l) ⊥
          (λ r. let s : i < tracked_count l = omega arith in g.differ i j p r (sym (more_old l k i s) ∙ (e ∙ more_old l k j r)))
          (λ r. omega arith)
          (λ r. let s : i < tracked_count l = omega arith in let u : tracked_count l ≤ j = omega arith in new i s (sym (more_old l k i s) ∙ (e ∙ more_new l k j u)));
    }

-- `tracked` says it
pub not_there : (l : List ℕ) (n k : ℕ) → tracked l n k ≡ false → (i : ℕ) → i < n → tracked_key l i ≡ k → ⊥
unfolding tracked
not_there l zero k e i h q = omega arith
not_there l (suc n) k e i h q =
    three_ways i n ⊥
    (λ r. not_there l n k (miss (eqb (tracked_key l n) k) (tracked l n k) e) i r q)
    (λ r. omega arith)
    (λ r. let z : true ≡ false = sym (or_l _ _ (eq-eqb (tracked_key l n) k (sym (ap (tracked_key l) r) ∙ q))) ∙ e in let w : ◌≡◌ {A = ℕ} 0 1 = cc in omega arith)
  where
    miss : (a b : Bool) → a or b ≡ false → b ≡ false
    miss a true e = sym (or_r a true refl) ∙ e
    miss a false e = refl
