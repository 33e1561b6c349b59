-- What the decode of a record's first byte says of its operation.
use Rattle.std.specs.Prelude.{◌≡◌, refl, List, ℕ, ◌≤◌, ◌<◌, slice_index_or, Option, Some, None, Result, Ok, Err, ok_or}
use Rattle.std.proofs.Common.{ap, sym, ◌∙◌}
use Rattle.refusal.specs.declared.Refusal.{Refusal}
use Rattle.refusal.specs.declared.Refusal.TheVariants.{InvalidRecord}
use Rattle.record.specs.declared.operation.Operation.{Operation}
use Rattle.record.specs.Record.{operation_of}
use Rattle.record.specs.Numbers.{operation_number, operation_at, number_of_operation_at, number_of_none}
use Rattle.record.proofs.Bytes.{byte_read}

some_of : (m : Option Operation) (o : Operation) → ok_or m InvalidRecord ≡ Ok o → m ≡ Some o
some_of None o e = absurd (cc)
some_of (Some x) o e = let h : x ≡ o = cc in ap Some h

none_of : (m : Option Operation) (e : Refusal) → ok_or m InvalidRecord ≡ Err e → (m ≡ None) × (e ≡ InvalidRecord)
none_of None e h = (refl, cc)
none_of (Some x) e h = absurd (cc)

module _ (l : List ℕ) (r : Result Operation Refusal) (d : r ≡ ok_or (operation_at (slice_index_or l 0 0)) InvalidRecord) where
  pub decoded : (o : Operation) → r ≡ Ok o → operation_number o ≡ operation_of l
  decoded o e = number_of_operation_at _ o (some_of _ o (sym d ∙ e)) ∙ byte_read l 0

  pub undecoded : (e : Refusal) → r ≡ Err e → (1 ≤ operation_of l → 30 < operation_of l) × (e ≡ InvalidRecord)
  undecoded e f = let g = none_of _ e (sym d ∙ f) in (rw (byte_read l 0) at (number_of_none _ g.0), g.1)
