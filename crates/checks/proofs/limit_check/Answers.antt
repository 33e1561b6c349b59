-- `checks::limit_check` meets its contract.
use native.Mathlib.Omega.{arith}
use Rattle.fields.specs.Rules.{only_where, skip}
use Rattle.std.proofs.Common.{rules, ◌∙◌, ◌≡◌, true, false, ◌<◌, ◌≤◌, ◌+◌}
use Rattle.amount.specs.Biased.{bias, biased}
use Rattle.amount.specs.Order.{gt_true, gt_false}
use Rattle.amount.specs.Laws.{sum-biased, valued}
use Rattle.checks.specs.Checks.{limit_number}
use Rattle.checks.proofs.limit_check.Goals as goal

pub returns : goal.returns
unfolding limit_number
returns c =
    let (r, _) = valued _ c.checked_add.ensures c.in_ok-sum.ensures.ok_part in
    let e = sum-biased _ c.checked_add.ensures c.in_ok-sum.ensures.ok_part in
    let above : c.gt.result ≡ true → biased c.args.limit + bias < biased c.args.holding + biased c.args.n = λ y. let h = gt_true c.in_ok-sum.sum c.args.limit (search rules) (search rules) c.gt.ensures y in omega arith in
    let within : c.gt.result ≡ false → biased c.args.holding + biased c.args.n ≤ biased c.args.limit + bias = λ y. let h = gt_false c.in_ok-sum.sum c.args.limit (search rules) (search rules) c.gt.ensures y in omega arith in
    c.refuse_if.ensures ∙ (only_where _ 6 above within ∙ skip _ 7 _ (omega arith))
