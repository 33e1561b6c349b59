-- `token_vault::undo` meets its contract.
use Rattle.token_vault.proofs.Called.{state_refused, undone_step}
use Rattle.token_vault.proofs.undo.Goals as goal

-- tried by attribute: the search does not find it
pub returns-in_err-state_check : goal.returns-in_err-state_check
returns-in_err-state_check c = state_refused _ _ _ _ _ c.good_image-is_image_good.ensures c.in_err-state_check.ensures c.from_residual.ensures

pub returns : goal.returns
returns c = undone_step _ _ c.good_image-is_image_good.ensures c.in_ok-state_check.ensures c.undo.ensures
