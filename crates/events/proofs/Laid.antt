-- The bytes of an event, laid over its place in the buffer.
use Rattle.std.specs.Prelude.{◌≡◌, List, ℕ, ◌++◌, ◌+◌, ◌-◌, ◌*◌, take}
use Rattle.std.proofs.Common.{ap, ◌∙◌, arith, drop-drop}
use borrow.Rule.Slice.PartMut.{put_mid}
use Rattle.events.specs.Buffer.{length-event_bytes}
use Rattle.events.specs.Splice.{splice}
use Rattle.events.specs.Event.{EventFields, event_bytes, put_event}

-- ys is what the 56 bytes from 56 i on hold now, and e and f are the same fields
pub laid : (l ys : List ℕ) (i : ℕ) {e f : EventFields} → ys ≡ event_bytes e → e ≡ f → put_mid (56 * i) (56 * i + 56 - 56 * i) l ys ≡ put_event l i f
unfolding put_event splice
laid l ys i {e} {f} p q =
    let n : 56 * i + 56 - 56 * i ≡ 56 = omega arith in
    ap (λ (k : ℕ). put_mid (56 * i) k l ys) n
    ∙ rw (p ∙ ap event_bytes q, length-event_bytes) (ap (λ (k : List ℕ). take (56 * i) l ++ (event_bytes f ++ k)) (drop-drop 56 (56 * i) l))
