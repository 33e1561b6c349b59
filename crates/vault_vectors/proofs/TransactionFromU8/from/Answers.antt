-- Any number but 1, 2 and 3 is that of undo.
use native.Mathlib.Omega.{arith}
use Rattle.vault_vectors.proofs.Transactions.{other_undone}
use Rattle.vault_vectors.proofs.TransactionFromU8.from.Goals as goal

pub returns-in_default : goal.returns-in_default
returns-in_default c = other_undone c.args.kind (λ e. omega arith) (λ e. omega arith) (λ e. omega arith)
