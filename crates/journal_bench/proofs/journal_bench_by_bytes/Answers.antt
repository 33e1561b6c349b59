-- `journal_bench::journal_bench_by_bytes` meets its contract.
use native.Mathlib.Omega.{arith}
use Rattle.journal.proofs.Exact.{exact}
use Rattle.journal.proofs.Stretches.{found_few}
use Rattle.journal_bench.proofs.journal_bench_by_bytes.Goals as goal

pub overflow_cast-result : goal.overflow_cast-result
overflow_cast-result c = let f = found_few c.enter_span-changed.ensures in omega (arith, f)

pub returns : goal.returns
returns c = record { found = c.enter_span-changed.ensures; exact = exact 1 2302 c.args.old.now c.args.new.now (omega arith) (omega arith) }
