-- The parts of two bytes of the place of the tracked keys are tracked keys.
use Rattle.std.proofs.Common.{◌≡◌, ℕ, ◌+◌, ◌*◌, ◌≤◌, ◌<◌, List, [], get_or, take, drop, ◌∙◌, arith, add-zero}
use Rattle.std.specs.Int.{w16, from_le_bytes}
use Rattle.std.specs.Simd.{first_chunks}
use Rattle.fields.specs.Bytes.{le}
use Rattle.fields.specs.Chunks.{chunk, le_part, part_of}
use Rattle.image.specs.Layout.{tracked_key}

two_bytes : (b : List ℕ) → from_le_bytes w16 b ≡ le 2 b 0
unfolding le
two_bytes b = omega arith

pub key_chunk : (l : List ℕ) (i e m : ℕ) {ks : List (List ℕ)} → ks ≡ first_chunks 2 m (take e (drop 1504 l)) → i < m → 2 * m ≤ e → from_le_bytes w16 (get_or ks i []) ≡ tracked_key l i
key_chunk l i e m {ks} h k f =
    rw (two_bytes (get_or ks i []), chunk 2 m i (take e (drop 1504 l)) h k, part_of 2 e 1504 (2 * i) l (omega arith)) (le_part 2 2 (1504 + 2 * i) 0 l (omega arith) ∙ rw add-zero)
