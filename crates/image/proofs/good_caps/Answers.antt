-- `image::good_caps` meets its contract.
use Rattle.std.proofs.Common.{rules}
use borrow.Author.Tests.{tests}
use Rattle.image.specs.Good.{good_cap}
use Rattle.fields.specs.Ranges.{all_below}
use Rattle.image.proofs.good_caps.Goals as goal

pub returns : goal.returns
returns c = all_below (good_cap c.args.s.now) 64 c.all.ensures.ran (λ x b q k. search (rules, tests))
