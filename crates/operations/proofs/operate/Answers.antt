-- `operations::operate` meets its contract: what the operation gives by its name is what it gives by its number.
use Rattle.operations.specs.Laws.{operation_does}
use Rattle.operations.proofs.operate.Goals as goal

pub returns : goal.returns
returns c = let p = c.args.parsed in operation_does _ _ _ p.good_form p.read c.operate_by_name.ensures
