-- `image::tracked_keys` meets its contract.
use Rattle.std.proofs.Common.{arith}
use Rattle.image.proofs.KeyChunks.{key_chunk}
use Rattle.image.proofs.tracked_keys.Goals as goal

pub returns-clause-keys : goal.returns-clause-keys
returns-clause-keys c i h = key_chunk c.args.img.now i _ _ c.as_chunks.ensures.front (grind arith) (grind arith)
