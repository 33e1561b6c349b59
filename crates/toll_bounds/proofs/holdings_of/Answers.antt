-- `toll_bounds::holdings_of` meets its contract.
use Rattle.toll_bounds.proofs.Whole.{refused_46, refused_4, refused_7, low_given}
use Rattle.toll_bounds.proofs.holdings_of.Goals as goal

pub returns-in_err-token : goal.returns-in_err-token
returns-in_err-token c = refused_46 _ _ _ _ _ c.requires _ c.from_residual.ensures c.in_err-token.ensures.number

pub returns-in_err-amounts_check : goal.returns-in_err-amounts_check
returns-in_err-amounts_check c = refused_4 _ _ _ _ _ c.requires c.in_ok-token.ensures.number _ c.from_residual-in_err-amounts_check.ensures c.in_err-amounts_check.ensures

pub returns-in_err-greatest : goal.returns-in_err-greatest
returns-in_err-greatest c =
    let held = rw c.in_ok-token.ensures.token at c.balance-held.ensures in
    refused_7 _ _ _ _ _ c.requires c.in_ok-token.ensures.number c.in_ok-amounts_check.ensures held _ c.from_residual-in_err-greatest.ensures c.in_err-greatest.ensures

pub returns-in_err-least : goal.returns-in_err-least
returns-in_err-least c =
    let held = rw c.in_ok-token.ensures.token at c.balance-held.ensures in
    absurd (low_given _ _ _ _ _ c.requires c.in_ok-token.ensures.number c.in_ok-amounts_check.ensures held c.in_ok-greatest.ensures c.in_err-least.ensures)
