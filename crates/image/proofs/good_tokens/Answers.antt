-- `image::good_tokens` meets its contract.
use Rattle.std.proofs.Common.{rules}
use borrow.Author.Tests.{tests}
use Rattle.image.specs.Good.{good_token}
use Rattle.fields.specs.Ranges.{all_below}
use Rattle.image.proofs.good_tokens.Goals as goal

pub returns : goal.returns
returns c = all_below (good_token c.args.s.now) 16 c.all.ensures.ran (λ x b q k. search (rules, tests))
