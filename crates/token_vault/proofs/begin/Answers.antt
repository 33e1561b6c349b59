-- `token_vault::begin` meets its contract.
use Rattle.token_vault.proofs.Called.{state_refused, begun_step}
use Rattle.token_vault.proofs.begin.Goals as goal

-- tried by attribute: the search does not find it
pub returns-in_err-state_check : goal.returns-in_err-state_check
returns-in_err-state_check c = state_refused _ _ _ _ _ c.good_image-is_image_good.ensures c.in_err-state_check.ensures c.from_residual.ensures

pub returns : goal.returns
returns c = begun_step _ _ c.good_image-is_image_good.ensures c.in_ok-state_check.ensures (c.begin.ensures _)
