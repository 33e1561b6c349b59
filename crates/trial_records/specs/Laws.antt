-- What follows from the definition: which records are made where nothing is refused, and records in two parts.
use Rattle.std.specs.Prelude.{◌≡◌, ℕ, zero, suc, ◌+◌, ◌*◌, ◌/◌, ◌%◌, ◌^◌, ◌≤◌, List, [], ◌∷◌, ◌++◌, length, replicate, ◌≢◌, refl}
use Rattle.std.proofs.Common.{sym, ap, ◌∙◌, append_assoc, append-nil, add-suc, add-zero, add_assoc, arith, ne_eqb, length-append}
use Rattle.fields.specs.Bytes.{put, length-put}
use Rattle.fields.specs.Rules.{stop, passed}
use Rattle.trial_records.specs.Trial.{Field, field, laid, draws_from, trial_fields, record_of, trial_record, reached_from, records_from, trial_rules, trial_number, made, refused, trial}

-- ---- what is not refused
pub record Allowed (first bytes : ℕ) : Type 0 where
  pub whole : bytes % 448 ≡ 0
  pub positive : 1 ≤ first
  pub within : first + bytes / 448 ≤ 2 ^ 32

pub allowed : (first bytes : ℕ) → trial_number first bytes ≡ 0 → Allowed first bytes
unfolding trial_number
allowed first bytes e =
    let f = passed (trial_rules first bytes) refl e in
    let p = f.1.0 in
    record { whole = f.0; positive = omega arith; within = f.1.1.0 }

pub is_allowed : (first bytes : ℕ) → Allowed first bytes → trial_number first bytes ≡ 0
unfolding trial_number
is_allowed first bytes a =
    let p = a.positive in
    sym (stop (trial_rules first bytes) 3 (a.whole, (omega arith, (a.within, tt))))

pub trial-made : (start first : ℕ) (l : List ℕ) → trial_number first (length l) ≡ 0 → trial start first l ≡ made start first (length l / 448)
unfolding trial
trial-made start first l e = rw e

pub trial-refused : (start first : ℕ) (l : List ℕ) → (trial_number first (length l) ≢ 0) → trial start first l ≡ refused (trial_number first (length l)) start l
unfolding trial
trial-refused start first l e = rw (ne_eqb (trial_number first (length l)) 0 e)

-- n records
pub records_made : (start first n : ℕ) (l : List ℕ) → length l ≡ 448 * n → 1 ≤ first → first + n ≤ 2 ^ 32 → trial start first l ≡ made start first n
records_made start first n l e p h =
    let k : length l / 448 ≡ n = omega arith in
    trial-made start first l (is_allowed first (length l) (record { whole = omega arith; positive = p; within = omega arith })) ∙ ap (made start first) k

-- ---- lengths
pub laid_long : (l : List ℕ) (fs : List Field) → length (laid l fs) ≡ length l
laid_long l [] = refl
laid_long l (field at w x ∷ fs) = laid_long (put w l at x) fs ∙ length-put w l at x

pub record_long : (last number : ℕ) → length (trial_record last number) ≡ 448
unfolding trial_record record_of
record_long last number = laid_long (replicate 448 0) (trial_fields (draws_from last) number)

pub records_long : (start first n : ℕ) → length (records_from start first n) ≡ 448 * n
unfolding records_from
records_long start first zero = refl
records_long start first (suc n) =
    rw (length-append, records_long start first n, record_long (reached_from start n) (first + n)) (omega arith)

-- ---- m records, and n more from the number that they reach
pub reached_parts : (start m n : ℕ) → reached_from start (m + n) ≡ reached_from (reached_from start m) n
unfolding reached_from
reached_parts start m zero = rw add-zero
reached_parts start m (suc n) = rw (add-suc, reached_parts start m n)

pub records_parts : (start first m n : ℕ) → records_from start first (m + n) ≡ records_from start first m ++ records_from (reached_from start m) (first + m) n
unfolding records_from
records_parts start first m zero = rw (add-zero, append-nil)
records_parts start first m (suc n) =
    rw (add-suc, records_parts start first m n, reached_parts start m n, append_assoc, ← add_assoc)
