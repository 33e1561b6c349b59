-- `journal_bench::journal_bench_by_words` meets its contract.
use native.Mathlib.Omega.{arith}
use Rattle.journal.proofs.Stretches.{found_few}
use Rattle.journal_bench.proofs.journal_bench_by_words.Goals as goal

pub overflow_cast-result : goal.overflow_cast-result
overflow_cast-result c = let f = found_few c.enter_cells.ensures.found in omega (arith, f)
