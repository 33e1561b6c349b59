-- Laws of the tests of an image.
use Rattle.std.specs.Prelude.{◌≡◌, refl, Bool, true, false, List, ℕ, zero, suc, ◌+◌, ◌-◌, ◌*◌, ◌/◌, ◌≤◌, ◌<◌, eqb, leb, length, set, replicate, drop, take}
use Rattle.std.proofs.Math.Path.{sym}
use Rattle.std.proofs.Common.{ap, ◌∙◌, add-zero, le_antisymm, add-one, get_or-set_same, get_or-set_other, drop-drop, length-drop, length-take-le}
use native.Mathlib.Omega.{arith}
use borrow.Author.Tests.{eqb-true, eqb-false, eq-eqb, ne_eqb, lt-ltb, le-ltb, le-leb, lt-leb, ltb-true, leb-true}
use Rattle.std.proofs.Math.ListN.{get_or}
use Rattle.std.proofs.lemmas.List.{get_or-replicate, get_or-take, drop-take}
use Rattle.std.specs.List.{list_all}
use Rattle.std.specs.Simd.{first_chunks}
use Rattle.fields.specs.Bytes.{le, le-drop}
use Rattle.amount.specs.Biased.{amount_at, bias}
use Rattle.image.specs.Layout.{tracked_key, default_token}
use Rattle.fields.specs.Logic.{◌and◌, ◌or◌, and_l, and_r, and_i, and_false, false_and, true_and, and_is, and_assoc, all_none, all-step, all_stop, all_end}
use Rattle.fields.specs.Zeros.{each}
use Rattle.image.specs.Good.{not_negative_here, not_negatives, tracked, fresh_key, good_addresses}

-- ---- amounts that are not negative
amount_at-drop : (l : List ℕ) (at : ℕ) → amount_at (drop at l) 0 ≡ amount_at l at
unfolding amount_at
amount_at-drop l at = rw (le-drop 8 l at (0 + 8), le-drop 8 l at 0, add-zero)

pub not_negatives-none : (l : List ℕ) (at : ℕ) → not_negatives l at 0 ≡ true
unfolding not_negatives each
not_negatives-none l at = refl

pub not_negatives_suc : (l : List ℕ) (at n : ℕ) → not_negatives l at (suc n) ≡ leb bias (amount_at l at) and not_negatives l (at + 16) n
unfolding not_negatives each not_negative_here
not_negatives_suc l at n = rw (amount_at-drop l at, drop-drop 16 at l)

pub not_negatives-at : (l : List ℕ) (n at i : ℕ) → not_negatives l at n ≡ true → i < n → bias ≤ amount_at l (at + 16 * i)
not_negatives-at l zero at i e h = absurd (omega arith)
not_negatives-at l (suc n) at zero e h = leb-true bias (amount_at l (at + 0)) (rw add-zero (and_l _ _ (sym (not_negatives_suc l at n) ∙ e)))
not_negatives-at l (suc n) at (suc i) e h =
    let q : at + 16 + 16 * i ≡ at + 16 * suc i = omega arith in
    rw (← q) (not_negatives-at l n (at + 16) i (and_r _ _ (sym (not_negatives_suc l at n) ∙ e)) (omega arith))

pub not_negatives_from : (l : List ℕ) (n at : ℕ) → ((i : ℕ) → i < n → bias ≤ amount_at l (at + 16 * i)) → not_negatives l at n ≡ true
not_negatives_from l zero at h = not_negatives-none l at
not_negatives_from l (suc n) at h =
    let here : bias ≤ amount_at l at = rw add-zero at (h 0 (omega arith)) in
    let there : (i : ℕ) → i < n → bias ≤ amount_at l (at + 16 + 16 * i) = λ i k. let q : at + 16 + 16 * i ≡ at + 16 * suc i = omega arith in rw q (h (suc i) (omega arith)) in
    not_negatives_suc l at n ∙ and_i _ _ (le-leb bias (amount_at l at) here) (not_negatives_from l n (at + 16) there)

-- the same in a part of the list, and chunk by chunk
le-take : (n m : ℕ) (l : List ℕ) (at : ℕ) → at + n ≤ m → le n (take m l) at ≡ le n l at
unfolding le
le-take zero m l at h = refl
le-take (suc n) m l at h = rw (get_or-take m l at 0 (omega arith), le-take n m l (suc at) (omega arith))

here-take : (m : ℕ) (l : List ℕ) → 16 ≤ m → not_negative_here (take m l) ≡ not_negative_here l
unfolding not_negative_here amount_at
here-take m l h = rw (le-take 8 m l 8 (omega arith), le-take 8 m l 0 (omega arith))

part_of : (n : ℕ) (l : List ℕ) → each not_negative_here 16 n (take (16 * n) l) ≡ each not_negative_here 16 n l
unfolding each
part_of zero l = refl
part_of (suc n) l =
    let q : 16 * suc n ≡ 16 + 16 * n = omega arith in
    rw (q, here-take (16 + 16 * n) l (omega arith), drop-take 16 (16 * n) l, part_of n (drop 16 l))

pub not_negatives_part : (l : List ℕ) (at end n : ℕ) → end ≡ at + 16 * n → end ≤ length l
    → not_negatives l at n ≡ not_negatives (take (end - at) (drop at l)) 0 (length (take (end - at) (drop at l)) / 16)
unfolding not_negatives
not_negatives_part l at end n e h =
    let q : end - at ≡ 16 * n = omega (arith, e) in
    let m : length (take (16 * n) (drop at l)) / 16 ≡ n = rw (length-take-le (16 * n) (drop at l) (rw length-drop (omega (arith, e)))) (omega arith) in
    rw (q, m) (sym (part_of n (drop at l)))

pub not_negatives_chunks : (n : ℕ) (l : List ℕ) → list_all not_negative_here (first_chunks 16 n l) ≡ not_negatives l 0 n
unfolding not_negatives each
not_negatives_chunks zero l = refl
not_negatives_chunks (suc n) l = rw (and_is (not_negative_here (take 16 l)) (list_all not_negative_here (first_chunks 16 n (drop 16 l))), here-take 16 l (omega arith), not_negatives_chunks n (drop 16 l))

-- ---- the keys seen
-- t is true at each key among the first i
abbrev pub Seen : List ℕ → ℕ → List Bool → Type 0
Seen s i t = (k : ℕ) → k < 1088 → get_or t k false ≡ tracked s i k

pub seen_none : (s : List ℕ) → Seen s 0 (replicate 1088 false)
unfolding tracked
seen_none s k h = get_or-replicate 1088 k false false h

seen_go : (s : List ℕ) (t : List Bool) (i k : ℕ) (b : Bool) → eqb (tracked_key s i) k ≡ b → tracked_key s i < length t → get_or t k false ≡ tracked s i k → get_or (set t (tracked_key s i) true) k false ≡ b or tracked s i k
unfolding ◌or◌
seen_go s t i k true e l h = rw (← eqb-true (tracked_key s i) k e) (get_or-set_same t (tracked_key s i) true false l)
seen_go s t i k false e l h = get_or-set_other t (tracked_key s i) k true false (λ q. eqb-false (tracked_key s i) k e (sym q)) ∙ h

pub seen_step : (s : List ℕ) (t : List Bool) (i x : ℕ) → x ≡ tracked_key s i → x < length t → Seen s i t → Seen s (i + 1) (set t x true)
unfolding tracked
seen_step s t i x e l h k kl = rw (add-one, e) (seen_go s t i k (eqb (tracked_key s i) k) refl (rw e at l) (h k kl))

pub stale_far : (s : List ℕ) (i x : ℕ) → x ≡ tracked_key s i → 1088 ≤ x → fresh_key s i ≡ false
unfolding fresh_key ◌and◌
stale_far s i x e h = rw (← e, le-ltb x 1088 h)

pub stale_seen : (s : List ℕ) (t : List Bool) (i x : ℕ) → x ≡ tracked_key s i → x < 1088 → Seen s i t → get_or t x false ≡ true → fresh_key s i ≡ false
unfolding fresh_key ◌and◌
stale_seen s t i x e l h z = rw (← e, lt-ltb x 1088 l, sym (h x l) ∙ z)

pub fresh_new : (s : List ℕ) (t : List Bool) (i x : ℕ) → x ≡ tracked_key s i → x < 1088 → Seen s i t → get_or t x false ≡ false → fresh_key s i ≡ true
unfolding fresh_key ◌and◌
fresh_new s t i x e l h z = rw (← e, lt-ltb x 1088 l, sym (h x l) ∙ z)

pub token_address : (l : List ℕ) → good_addresses l ≡ true → default_token l < 64
unfolding good_addresses
token_address l h = ltb-true (default_token l) 64 (and_l _ _ (and_r _ _ h))

-- a loop that tests each index
pub ruleset each_tested = (all_none, all-step, all_stop, all_end)

-- tests of numbers within a conjunction, some already known
pub ruleset known_tests = (and_is, and_assoc, false_and, true_and, and_false, lt-ltb, le-ltb, le-leb, lt-leb)
