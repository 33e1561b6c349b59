-- `answer_operation` meets its contract.
use Rattle.vault_vectors.proofs.Lines.{operation_prints}
use Rattle.vault_vectors.proofs.answer_operation.Goals as goal

pub returns : goal.returns
returns c = (operation_prints c.call-answer.ensures c.step_line.ensures.words, c.step_line.ensures.short)
