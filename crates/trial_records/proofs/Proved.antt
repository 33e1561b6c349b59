-- The theorems on trial records.
use Rattle.std.proofs.Common.{◌≡◌, ℕ, ◌+◌, ◌/◌, ◌%◌, ◌^◌, ◌<◌, Bool, true, false, eqb, List, length, sym, refl, ap, ◌∙◌, arith, eqb-true}
use Rattle.std.specs.Prelude.{Result, Ok, Err, IsErr, IsErrAnd}
use Rattle.fields.specs.Rules.{pick}
use Rattle.refusal.specs.declared.Refusal.{Refusal}
use Rattle.refusal.specs.Numbers.{number_of, code}
use Rattle.refusal.specs.Laws.{some_number}
use Rattle.record.specs.Form.{form_number}
use Rattle.trial_records.specs.Trial.{draws_from, record_of, trial_record, reached_from, records_from, trial_number, Trial, made, refused, trial, TrialIs, reached_or}
use Rattle.trial_records.specs.Theorems.{SameAsWhole, goes_on, record_at, ReadAs, TrialRecords}
use Rattle.trial_records.specs.Laws.{Allowed, allowed, is_allowed, trial-made, trial-refused, reached_parts, records_parts}
use Rattle.trial_records.proofs.Fields.{draws_within, read_as, record_bytes, good_form}
use Rattle.trial_records.proofs.Made.{record_at_lem}

-- what the code gives, in either case
pub refused_is : (start first : ℕ) (l : List ℕ) (e : Refusal) (r : Result ℕ Refusal) → number_of e ≡ trial_number first (length l)
    → IsErr r × IsErrAnd r (λ y. y ≡ e) → TrialIs (trial start first l) (code r) l (reached_or start r)
refused_is start first l e (Ok x) h (f, g) = cc
refused_is start first l e (Err y) h (f, g) =
    rw (trial-refused start first l (λ z. some_number e (h ∙ z))) (record { numbered = ap number_of g ∙ h; written = refl; arrived = refl })

pub made_is : (start first : ℕ) (l : List ℕ) (buffer : List ℕ) (reached : ℕ) → trial_number first (length l) ≡ 0
    → (buffer ≡ records_from start first (length l / 448)) × (reached ≡ reached_from start (length l / 448)) → TrialIs (trial start first l) 0 buffer reached
made_is start first l buffer reached z m =
    rw (trial-made start first l z) (record { numbered = refl; written = m.0; arrived = m.1 })

picked_none : (n : ℕ) (t : Bool) (m r : Trial) → eqb n 0 ≡ t → r.number ≡ n → (pick t m r).number ≡ 0 → n ≡ 0
picked_none n true m r f g e = eqb-true n 0 f
picked_none n false m r f g e = sym g ∙ e

trial_number_lem : (start first : ℕ) (l : List ℕ) → (trial start first l).number ≡ 0 → trial_number first (length l) ≡ 0
unfolding trial
trial_number_lem start first l e = picked_none (trial_number first (length l)) _ (made start first (length l / 448)) (refused (trial_number first (length l)) start l) refl refl e

-- ---- in two parts
parts_allowed : (first m n k : ℕ) → Allowed first m → Allowed (first + m / 448) n → k ≡ m + n → Allowed first k × (k / 448 ≡ m / 448 + n / 448)
parts_allowed first m n k p q e =
    let u = p.whole in
    let v = q.whole in
    let x = p.positive in
    let y = q.within in
    (record { whole = omega arith; positive = x; within = omega arith }, omega arith)

whole_allowed : (first m n k : ℕ) → Allowed first k → m % 448 ≡ 0 → k ≡ m + n → Allowed first m × Allowed (first + m / 448) n
whole_allowed first m n k p u e =
    let v = p.whole in
    let x = p.positive in
    let y = p.within in
    (record { whole = u; positive = x; within = omega arith }, record { whole = omega arith; positive = omega arith; within = omega arith })

joined : (start first m n : ℕ) {p q r : Trial} → p ≡ made start first m → q ≡ made (reached_from start m) (first + m) n → r ≡ made start first (m + n) → SameAsWhole p q r
joined start first m n e f g =
    record {
      done = ap (λ (t : Trial). t.number) g;
      same_bytes = rw (e, f, g) (sym (records_parts start first m n));
      same_reached = rw (f, g) (sym (reached_parts start m n));
    }

made_in_parts : (start first : ℕ) (a b c : List ℕ) → length c ≡ length a + length b → (trial start first a).number ≡ 0 → (goes_on start first a b).number ≡ 0 → SameAsWhole (trial start first a) (goes_on start first a b) (trial start first c)
made_in_parts start first a b c e h k =
    let m = length a / 448 in
    let n = length b / 448 in
    let u = trial_number_lem start first a h in
    let v = trial_number_lem (trial start first a).reached (first + m) b k in
    let w = parts_allowed first (length a) (length b) (length c) (allowed first (length a) u) (allowed (first + m) (length b) v) e in
    let p = trial-made start first a u in
    let q = trial-made (trial start first a).reached (first + m) b v ∙ ap (λ (t : Trial). made t.reached (first + m) n) p in
    joined start first m n p q (trial-made start first c (is_allowed first (length c) w.0) ∙ ap (made start first) w.1)

made_number : (start first : ℕ) (l : List ℕ) → Allowed first (length l) → (trial start first l).number ≡ 0
made_number start first l a = ap (λ (t : Trial). t.number) (trial-made start first l (is_allowed first (length l) a))

whole_splits : (start first : ℕ) (a b c : List ℕ) → length c ≡ length a + length b → length a % 448 ≡ 0 → (trial start first c).number ≡ 0 → ((trial start first a).number ≡ 0) × ((goes_on start first a b).number ≡ 0)
whole_splits start first a b c e u h =
    let w = whole_allowed first (length a) (length b) (length c) (allowed first (length c) (trial_number_lem start first c h)) u e in
    (made_number start first a w.0, made_number (trial start first a).reached (first + length a / 448) b w.1)

-- ---- one record
module _ (start first : ℕ) (l : List ℕ) (h : (trial start first l).number ≡ 0) (i : ℕ) (k : i < length l / 448) where
  made_record : record_at (trial start first l).buffer i ≡ record_of (draws_from (reached_from start i)) (first + i)
  unfolding trial_record
  made_record =
      ap (λ (t : Trial). record_at t.buffer i) (trial-made start first l (trial_number_lem start first l h))
      ∙ record_at_lem start first (length l / 448) i k

  numbered : first + i < 2 ^ 32
  numbered = let w = (allowed first (length l) (trial_number_lem start first l h)).within in omega arith

  record_read : ReadAs (record_at (trial start first l).buffer i) (draws_from (reached_from start i)) (first + i)
  record_read =
      rw made_record (read_as (draws_from (reached_from start i)) (first + i) (draws_within (reached_from start i)) numbered)

  record_good : form_number (record_at (trial start first l).buffer i) ≡ 0
  record_good =
      let d = draws_from (reached_from start i) in
      let w = draws_within (reached_from start i) in
      rw made_record (good_form (record_of d (first + i)) d (first + i) (read_as d (first + i) w numbered) w (record_bytes d (first + i) w numbered))

pub all_proved : TrialRecords
all_proved = record { in_parts = made_in_parts; splits = whole_splits; read = record_read; good_form = record_good }
