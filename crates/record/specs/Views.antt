-- The number of each view.
use Rattle.std.specs.Prelude.{ℕ}
use Rattle.record.specs.declared.operation.View.{View}
use Rattle.record.specs.declared.operation.View.TheVariants.{Balance, EffectiveWithdrawLimit, GetTokenAccountBalance, IsTokenApproved, IsTokenCompliant}

abbrev pub view_number : View → ℕ
view_number Balance = 24
view_number EffectiveWithdrawLimit = 25
view_number GetTokenAccountBalance = 26
view_number IsTokenApproved = 27
view_number IsTokenCompliant = 28
