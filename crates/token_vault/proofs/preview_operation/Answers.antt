-- What an operation on a copy of the image answers is what is previewed.
use Rattle.token_vault.proofs.preview_operation.Goals as goal

pub returns-in_default : goal.returns-in_default
returns-in_default c = c.try_operation.ensures.answered
