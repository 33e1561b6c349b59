-- `token_vault_abi::token_vault_toll_bounds` meets its contract.
use mathlib.Core.Path.{◌∙◌}
use native.Mathlib.Omega.{arith}
use Rattle.amount.specs.Order.{biased_zero}
use Rattle.toll_bounds.proofs.Whole.{written_out}
use Rattle.token_vault_abi.proofs.token_vault_toll_bounds.Goals as goal

pub returns : goal.returns
returns c =
    let e = rw (c.read_amount.ensures, c.read_amount-2.ensures) at c.toll_bounds-bounds.ensures in
    written_out _ _ biased_zero biased_zero _ _ _ e c.unwrap_or-holdings.ensures (omega arith, omega arith) (c.number.ensures ∙ e.numbered) c.write_amount.ensures c.write_amount-2.ensures
