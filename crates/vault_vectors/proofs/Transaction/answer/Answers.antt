-- `answer` meets its contract.
use Rattle.vault_vectors.proofs.Lines.{transaction_prints}
use Rattle.vault_vectors.proofs.Transactions.{quiet}
use Rattle.vault_vectors.proofs.Transaction.answer.Goals as goal

pub returns : goal.returns
returns c =
    (transaction_prints c.call_transaction.result c.new.result c.call_transaction.ensures (quiet _ _) c.new.ensures (rw c.and-answer.ensures at c.step_line.ensures.words), c.step_line.ensures.short)
