-- `sha256` meets its contract: the kit's digest is the one of the definition.
use Rattle.std.proofs.Common.{◌∙◌, arith}
use Rattle.sha256.proofs.Same.{same}
use Rattle.sha256.proofs.sha256.Goals as goal

pub returns : goal.returns
returns c = c.digest.ensures ∙ same c.args.bytes.now (λ i. omega (arith, c.type_inv.bytes i))
