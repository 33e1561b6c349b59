-- `toll_bounds::holding_after` meets its contract.
use mathlib.Core.Path.{◌≡◌}
use Prim.Native.Nat.{◌+◌, ◌<◌}
use Rattle.amount.specs.Biased.{bias, biased}
use Rattle.toll_bounds.specs.Bounds.{amount_in, holding_after}
use Rattle.toll_bounds.proofs.holding_after.Given as goal

abbrev pub invariant-loop-amount : goal.invariant-loop-amount
invariant-loop-amount l = (biased l.sum < bias + bias) × (biased l.sum ≡ holding_after (biased l.toll) (biased l.initial.sum) (amount_in l.fn.amounts) l.amount-index)
