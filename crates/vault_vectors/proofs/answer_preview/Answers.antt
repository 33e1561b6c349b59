-- `answer_preview` meets its contract.
use Rattle.vault_vectors.proofs.Lines.{preview_prints}
use Rattle.vault_vectors.proofs.answer_preview.Goals as goal

pub returns : goal.returns
returns c = (preview_prints _ _ _ _ c.preview-answer.ensures c.step_line.ensures.words, c.step_line.ensures.short)
