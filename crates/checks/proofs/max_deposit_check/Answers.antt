-- `checks::max_deposit_check` meets its contract.
use Rattle.std.proofs.Common.{rules, pos, ◌^◌, ◌∙◌}
use Rattle.fields.specs.Rules.{only}
use Rattle.amount.specs.declared.Amount.{Amount}
use Rattle.amount.specs.Order.{greater_is}
use Rattle.amount.specs.Laws.{biased_from}
use Rattle.checks.specs.Checks.{max_deposit_number, max_vault_deposit}
use Rattle.checks.proofs.max_deposit_check.Goals as goal

pub returns : goal.returns
unfolding max_deposit_number max_vault_deposit
returns c = let m : Amount = record { 0 = pos (10 ^ 30) } in c.refuse_if.ensures ∙ only _ 5 (c.gt.ensures ∙ rw (← biased_from (10 ^ 30)) (greater_is c.args.n m (search rules) (search rules)))
