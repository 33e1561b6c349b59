-- `fields::same_words` meets its contract.
use Rattle.std.proofs.Common.{◌≡◌, ◌*◌, eqb, length, take}
use Rattle.fields.specs.Same.{same_bytes_of}
use Rattle.fields.proofs.same_words.Given as goal

abbrev pub invariant-loop-x : goal.invariant-loop-x
invariant-loop-x l = eqb l.difference 0 ≡ same_bytes_of (take (8 * length l.yielded) l.initial.a) (take (8 * length l.yielded) l.initial.b)
