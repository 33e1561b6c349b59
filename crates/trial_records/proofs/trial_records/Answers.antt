-- `trial_records::trial_records` meets its contract.
use Rattle.std.proofs.Common.{sym}
use Rattle.trial_records.proofs.Proved.{made_is, refused_is}
use Rattle.trial_records.proofs.trial_records.Goals as goal

pub returns-in_err-trial_check : goal.returns-in_err-trial_check
returns-in_err-trial_check c = let x = c.args in refused_is x.start x.first x.records.now _ _ c.in_err-trial_check.ensures c.from_residual.ensures

pub returns : goal.returns
returns c =
    let x = c.args in
    made_is x.start x.first x.records.now _ _ (sym c.in_ok-trial_check.ensures) c.make_records.ensures
