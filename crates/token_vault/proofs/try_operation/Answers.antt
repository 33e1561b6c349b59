-- `token_vault::try_operation` meets its contract.
use mathlib.Core.Path.{sym, ◌∙◌}
use Rattle.token_vault.proofs.Called.{tried, tried_refused}
use Rattle.token_vault.proofs.try_operation.Goals as goal

pub returns-then-is_err : goal.returns-then-is_err
returns-then-is_err c = tried_refused c.args.copy.now c.args.parsed.rec.now _ c.args.parsed.good_form c.told-events _ (sym c.is_err.ensures.value ∙ c.if-is_err.true) c.operate-answer.ensures c.clear_events.ensures

pub returns-else-is_err : goal.returns-else-is_err
returns-else-is_err c = tried c.args.copy.now c.args.parsed.rec.now _ c.args.parsed.good_form c.told-events _ (sym c.is_err.ensures.value ∙ c.if-is_err.false) c.operate-answer.ensures
