-- `run_image` meets its contract.
use native.Mathlib.Omega.{arith}
use Rattle.vault_program.proofs.Taken.{taken_none}
use Rattle.vault_program.proofs.run_image.Goals as goal

pub returns-then-image-lt-LENGTH-clause-taken : goal.returns-then-image-lt-LENGTH-clause-taken
returns-then-image-lt-LENGTH-clause-taken g c = taken_none _ (omega arith) c.print_answer-written.ensures.carried
