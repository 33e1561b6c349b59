-- `image::not_negatives` meets its contract.
use Rattle.std.proofs.Common.{rules, ◌∙◌, ◌/◌, length}
use borrow.Author.Tests.{tests}
use Rattle.std.specs.Simd.{first_chunks}
use Rattle.std.proofs.lemmas.Iterator.{YieldsList-from_slice}
use Rattle.std.proofs.lemmas.Iterator.Search.{all_from_yields_List}
use Rattle.image.specs.Good.{not_negative_here}
use Rattle.image.specs.Laws.{not_negatives_chunks}
use Rattle.image.proofs.not_negatives.Goals as goal

pub returns : goal.returns
unfolding not_negative_here
returns c =
    let l = c.args.amounts.now in
    let n = length l / 16 in
    all_from_yields_List not_negative_here _ _ c.all.result c.all.ensures.ran (YieldsList-from_slice (first_chunks 16 n l) cc) (λ x b q k. search (rules, tests)) ∙ not_negatives_chunks n l
