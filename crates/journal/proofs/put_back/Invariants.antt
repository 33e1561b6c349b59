-- `journal::put_back`: the entries behind those that are left are put back.
use Rattle.std.proofs.Common.{◌≡◌, ◌+◌, length, drop}
use Rattle.std.specs.Iterator.Adapters.{rev_source}
use Rattle.std.specs.Slice.Iter.{iter_rest}
use Rattle.journal.proofs.Chunks.{Left}
use Rattle.journal.specs.Journal.{contents_of, restore}
use Rattle.journal.proofs.put_back.Given as goal

abbrev pub invariant-loop-entry : goal.invariant-loop-entry
invariant-loop-entry l = record {
  left : Left (l.from + 1) (l.count + 1) l.journal (iter_rest (rev_source l.entry-iterator));
  image : l.image ≡ restore (drop (l.from + length (iter_rest (rev_source l.entry-iterator))) (contents_of l.journal).entries) l.initial.image;
}
