-- `record::items_within` meets its contract.
use Rattle.std.proofs.Common.{rules, ◌∙◌, refl}
use borrow.Author.Tests.{tests}
use Rattle.record.specs.Form.{item_within, items_within}
use Rattle.fields.specs.Ranges.{all_below}
use Rattle.record.proofs.items_within.Goals as goal

pub returns : goal.returns
unfolding items_within
returns c = all_below (item_within c.args.rec.now) c.from.result c.all.ensures.ran (λ x b q k. search (rules, tests)) ∙ rw c.from.ensures refl
