-- One piece of records, and what is left after it.
use Rattle.std.proofs.Common.{◌≡◌, ℕ, ◌+◌, ◌*◌, ◌^◌, ◌≤◌, List, ◌++◌, length, ap, ap₂, sym, subst, ◌∙◌, Option}
use Rattle.std.specs.Io.KnownBytes.{Appends}
use Rattle.std.proofs.KnownBytes.{Appends-trans}
use Rattle.std.specs.Prelude.{Result, Ok, Err, IsOk, refl}
use Rattle.refusal.specs.declared.Refusal.{Refusal}
use Rattle.refusal.specs.Numbers.{code}
use Rattle.refusal.specs.Laws.{some_number}
use Rattle.trial_records.specs.Laws.{records_made, records_parts}
use Rattle.trial_records.specs.Trial.{Trial, records_from, reached_from, trial, TrialIs}

-- n records were made in the buffer l, and m came of it
pub piece_made : (last next n : ℕ) (l m : List ℕ) (number reached : ℕ) → 1 ≤ next → next + n ≤ 2 ^ 32 → length l ≡ 448 * n
    → TrialIs (trial last next l) number m reached → m ≡ records_from last next n
piece_made last next n l m number reached p b e t = t.written ∙ ap (λ (x : Trial). x.buffer) (records_made last next n l e p b)

pub piece_reached : (last next n : ℕ) (l m : List ℕ) (number reached : ℕ) → 1 ≤ next → next + n ≤ 2 ^ 32 → length l ≡ 448 * n
    → TrialIs (trial last next l) number m reached → reached ≡ reached_from last n
piece_reached last next n l m number reached p b e t = t.arrived ∙ ap (λ (x : Trial). x.reached) (records_made last next n l e p b)

-- an answer without a refusal has a value
has_value : (r : Result ℕ Refusal) → code r ≡ 0 → IsOk r
has_value (Ok x) h = refl
has_value (Err e) h = absurd (some_number e h)

-- no refusal comes of them
pub piece_done : (last next n : ℕ) (l m : List ℕ) (r : Result ℕ Refusal) (reached : ℕ) → 1 ≤ next → next + n ≤ 2 ^ 32 → length l ≡ 448 * n
    → TrialIs (trial last next l) (code r) m reached → IsOk r
piece_done last next n l m r reached p b e t =
    has_value r (t.numbered ∙ ap (λ (x : Trial). x.number) (records_made last next n l e p b))

-- n records more are written behind the first `done`
pub more_written : (start first done n k : ℕ) {last next : ℕ} {piece : List ℕ} (old mid new : Option (List ℕ)) → last ≡ reached_from start done → next ≡ first + done → piece ≡ records_from last next n → done + n ≡ k
    → Appends old mid (records_from start first done) → Appends mid new piece → Appends old new (records_from start first k)
more_written start first done n k old mid new e f p h written more =
    subst (Appends _ _)
    (ap (λ (l : List ℕ). records_from start first done ++ l) (p ∙ ap₂ (λ (x y : ℕ). records_from x y n) e f) ∙ sym (records_parts start first done n) ∙ ap (records_from start first) h)
    (Appends-trans _ _ _ _ _ written more)
