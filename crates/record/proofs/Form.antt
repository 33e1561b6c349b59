-- Refusal 32 at each of the tests of a record: the length, the operation, the head and the items.
use Rattle.std.specs.Prelude.{◌≡◌, refl, Bool, true, false, not, List, ℕ, ◌≤◌, ◌<◌, ltb, length, get_or}
use Rattle.std.proofs.Common.{ap, sym, ◌∙◌, arith}
use Rattle.std.specs.Array.{IsWholeChunk}
use borrow.Author.Tests.{ltb-true, ltb-false}
use Rattle.fields.specs.Bytes.{bytes_from}
use Rattle.fields.specs.Rules.{pick, stop_at}
use Rattle.record.specs.declared.operation.Operation.{Operation}
use Rattle.record.specs.Record.{operation_of}
use Rattle.record.specs.Numbers.{operation_number, number_bounds}
use Rattle.record.specs.Form.{head_exceeds, items_exceed, form_number}

pub other_length : (s : List ℕ) → (length s ≡ 448 → ⊥) → 32 ≡ form_number s
unfolding form_number
other_length s h = stop_at _ 0 _ h refl

-- where a test did not refuse
pub passed_if : (t : Bool) → ◌≡◌ {A = ℕ} 0 (pick t 32 0) → t ≡ false
passed_if true h = absurd (omega (arith, h))
passed_if false h = refl

-- r is the slice s as an array
module _ (s r : List ℕ) (w : IsWholeChunk s r 448) where
  long : length r ≡ 448
  long = ap length w.same ∙ w.long

  on_slice : (n : ℕ) → n ≡ form_number r → n ≡ form_number s
  on_slice n e = e ∙ ap form_number w.same

  pub no_operation : (1 ≤ operation_of r → 30 < operation_of r) → 32 ≡ form_number s
  unfolding form_number
  no_operation h = on_slice 32 (go (ltb (operation_of r) 1) refl)
    where
      go : (t : Bool) → ltb (operation_of r) 1 ≡ t → 32 ≡ form_number r
      go true e = stop_at _ 1 _ (long, ltb-true (operation_of r) 1 e) refl
      go false e = let l = ltb-false (operation_of r) 1 e in stop_at _ 2 _ (long, (l, h l)) refl

  module _ (o : Operation) (e : operation_number o ≡ operation_of r) where
    low : 1 ≤ operation_of r
    low = let b = (number_bounds o).0 in omega (arith, b, e)

    high : operation_of r ≤ 30
    high = let b = (number_bounds o).1 in omega (arith, b, e)

    pub head_refused : head_exceeds r ≡ true → 32 ≡ form_number s
    unfolding form_number
    head_refused h = on_slice 32 (stop_at _ 3 _ (long, (low, (high, h))) refl)

    pub items_refused : head_exceeds r ≡ false → items_exceed r ≡ true → 32 ≡ form_number s
    unfolding form_number
    items_refused h i = on_slice 32 (stop_at _ 4 _ (long, (low, (high, (h, i)))) refl)

    pub good_form : head_exceeds r ≡ false → items_exceed r ≡ false → ((i : ℕ) → get_or s i 0 < 256) → form_number r ≡ 0
    unfolding form_number
    good_form h i b =
        let f : (i : ℕ) → get_or r i 0 < 256 = λ i. rw w.same (b i) in
        sym (stop_at _ 6 _ (long, (low, (high, (h, (i, (ap not (bytes_from r f), tt)))))) refl)
