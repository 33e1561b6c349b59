-- `toll_bounds::amounts_check` meets its contract.
use Rattle.std.specs.Prelude.{◌≡◌, refl, Bool, true, false, not, ℕ}
use Rattle.fields.specs.Rules.{pick}
use Rattle.std.proofs.Common.{rules, ◌∙◌, ltb}
use borrow.Author.Tests.{tests}
use Rattle.std.proofs.lemmas.Iterator.{YieldsList-from_slice}
use Rattle.std.proofs.lemmas.Iterator.Search.{all_from_yields_List}
use Rattle.amount.specs.Biased.{bias, amount_at}
use Rattle.toll_bounds.specs.Bounds.{amounts_number}
use Rattle.toll_bounds.proofs.Chunks.{all_above}
use Rattle.toll_bounds.proofs.amounts_check.Goals as goal

refused_4 : (b : Bool) → ◌≡◌ {A = ℕ} (pick (not b) 4 0) (pick b 0 4)
refused_4 true = refl
refused_4 false = refl

pub returns : goal.returns
unfolding amounts_number
returns c =
    let e = all_from_yields_List (λ x. ltb bias (amount_at x 0)) _ _ c.all-are_above.result c.all-are_above.ensures.ran (YieldsList-from_slice c.amounts_of.result.now cc) (λ x b q k. search (rules, tests)) ∙ all_above _ _ c.amounts_of.ensures in
    c.refuse_if.ensures ∙ rw (← e) (refused_4 c.all-are_above.result)
