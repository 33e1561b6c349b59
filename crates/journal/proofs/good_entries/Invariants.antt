-- `journal::good_entries`: what is left of the test is the whole test.
use mathlib.Core.Path.{◌≡◌}
use Prim.Native.Nat.{suc, ◌-◌, ◌*◌}
use lib.ListN.{drop}
use Rattle.journal.specs.Scan.{scan_entries}
use Rattle.journal.proofs.good_entries.Given as goal

abbrev pub invariant-loop-entry : goal.invariant-loop-entry
invariant-loop-entry l = scan_entries l.cells l.counts.calls (l.counts.entries - l.entry-index) l.last l.next (drop (24 * suc l.entry-index) l.journal) ≡ scan_entries l.cells l.counts.calls l.counts.entries 0 0 (drop 24 l.journal)
