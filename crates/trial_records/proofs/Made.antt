-- Records one after another: in two parts, one of them, and what holds along the loop that makes them.
use Rattle.std.proofs.Common.{◌≡◌, ℕ, suc, ◌+◌, ◌-◌, ◌*◌, ◌<◌, List, ◌++◌, take, drop, sym, ap, ◌∙◌, append_assoc, add-one, add-zero, arith, drop-drop, take_at, drop_at}
use Rattle.trial_records.specs.Generator.{steps}
use Rattle.trial_records.specs.Trial.{trial_record, reached_from, records_from}
use Rattle.trial_records.specs.Laws.{record_long, records_long, records_parts}

-- ---- record i of n
pub record_at_lem : (start first n i : ℕ) → i < n → take 448 (drop (448 * i) (records_from start first n)) ≡ trial_record (reached_from start i) (first + i)
unfolding records_from reached_from
record_at_lem start first n i h =
    let k = n - i - 1 in
    let e : n ≡ i + (1 + k) = omega arith in
    let s = reached_from start i in
    let f = first + i in
    let one : records_from s f 1 ≡ trial_record s f = rw add-zero in
    let front = records_parts start first i (1 + k) in
    let next : records_from s f (1 + k) ≡ trial_record s f ++ records_from (reached_from s 1) (f + 1) k =
    records_parts s f 1 k ∙ ap (λ (l : List ℕ). l ++ records_from (reached_from s 1) (f + 1) k) one in
    ap (λ (j : ℕ). take 448 (drop (448 * i) (records_from start first j))) e
    ∙ ap (λ (l : List ℕ). take 448 (drop (448 * i) l)) front
    ∙ ap (take 448) (drop_at (records_from start first i) _ (448 * i) (records_long start first i))
    ∙ ap (take 448) next
    ∙ take_at (trial_record s f) _ 448 (record_long s f)

-- ---- the loop that makes them: n records of the buffer l₀ are made, and the rest is as it was
pub record Making (start first : ℕ) (l₀ : List ℕ) (n last : ℕ) (l : List ℕ) : Type 0 where
  pub arrived : last ≡ reached_from start n
  pub written : l ≡ records_from start first n ++ drop (448 * n) l₀

-- one record more: the k bytes behind n records, which are 448, are written
pub making_more : (start first : ℕ) (l₀ : List ℕ) (n last : ℕ) (l m : List ℕ) (k : ℕ) → Making start first l₀ n last l → k ≡ 448
    → m ≡ take (448 * n) l ++ (trial_record last (first + n) ++ drop k (drop (448 * n) l)) → Making start first l₀ (n + 1) (steps 6 last) m
unfolding records_from reached_from
making_more start first l₀ n last l m k g j e =
    let at = 448 * n in
    let long = records_long start first n in
    let front : take at l ≡ records_from start first n = ap (take at) g.written ∙ take_at (records_from start first n) _ at long in
    let next : at + 448 ≡ 448 * (n + 1) = omega arith in
    let behind : drop k (drop at l) ≡ drop (448 * (n + 1)) l₀ =
    ap (λ (i : ℕ). drop i (drop at l)) j ∙ ap (drop 448) (ap (drop at) g.written ∙ drop_at (records_from start first n) _ at long) ∙ drop-drop 448 at l₀ ∙ ap (λ (i : ℕ). drop i l₀) next in
    record {
      arrived = rw (add-one, g.arrived);
      written = e ∙ rw (front, behind, add-one, g.arrived) (sym (append_assoc (records_from start first n) (trial_record (reached_from start n) (first + n)) (drop (448 * suc n) l₀)));
    }
