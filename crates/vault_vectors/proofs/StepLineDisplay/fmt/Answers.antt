-- The text of a line is that of the definition.
use Rattle.std.proofs.Output.{has_written_of_eq}
use Rattle.answer_line.specs.Decimal.{answer_words-end}
use Rattle.vault_vectors.specs.Vectors.{text_of, event_bytes_text, image_text, journal_text}
use Rattle.vault_vectors.proofs.StepLineDisplay.fmt.Goals as goal

pub returns-clause-writes : goal.returns-clause-writes
unfolding text_of event_bytes_text image_text journal_text
returns-clause-writes g c = λ plain ok. has_written_of_eq _ _ _ _ _ (answer_words-end _ _ _ _) (c.write.ensures.writes plain ok)
