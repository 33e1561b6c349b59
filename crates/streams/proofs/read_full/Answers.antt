-- A read grows what stands at the start of the buffer.
use Rattle.std.proofs.Common.{rules, arith, ◌≡◌, ◌≤◌, ℕ, Option, ◌+◌, ◌-◌, List, ◌++◌, length, take, slice_range, sym, ap, ◌∙◌, subst, le_refl, drop_at, length-take-le}
use Rattle.std.proofs.lemmas.Slice.{take-put_mid_below}
use Rattle.std.specs.Prelude.{Result, Ok, Err, IfOk}
use Rattle.std.specs.Result.{result_unwrap_or}
use Rattle.std.specs.Counts.{IsPrefixLen}
use Rattle.std.specs.Io.KnownBytes.{Consumes, ReadConsumes}
use Rattle.std.proofs.KnownBytes.{Consumes-trans}
use borrow.Rule.Slice.PartMut.{put_mid, post_of}
use lib.Seq.{take-add, take-append-le}
use Rattle.streams.proofs.read_full.Goals as goal

take_split : (a b : ℕ) (old new : List ℕ) → a ≤ b → take a new ≡ take a old → take a old ++ slice_range new a b ≡ take b new
take_split a b old new h front =
    let same : a + (b - a) ≡ b = omega arith in
    ap (λ l. l ++ slice_range new a b) (sym front) ∙ sym (take-add a (b - a) new) ∙ ap (λ n. take n new) same

slice_range-put_mid : (a k n : ℕ) (xs ys : List ℕ) → a ≤ length xs → n ≤ length ys → slice_range (put_mid a k xs ys) a (a + n) ≡ take n ys
slice_range-put_mid a k n xs ys within fits =
    let same : (a + n) - a ≡ n = omega arith in
    let after = post_of a k xs in
    ap (take ((a + n) - a)) (drop_at (take a xs) (ys ++ after) a (length-take-le a xs within)) ∙ ap (λ m. take m (ys ++ after)) same ∙ take-append-le n ys after fits

-- a count that is not 0 is what a read gave
was_read : {E : Type 0} (old new : Option (List ℕ)) (r : Result ℕ E) (buf : List ℕ) (n : ℕ) → IfOk r (λ k. IsPrefixLen k buf) → ReadConsumes old new r buf → n ≡ result_unwrap_or r 0 → (n ≡ 0 → ⊥) → (n ≤ length buf) × Consumes old new (take n buf)
was_read old new (Ok k) buf n bound bytes e h = rw e (bound.0, bytes.0)
was_read old new (Err _) buf n bound bytes e h = absurd (h e)

pub loop-done-preserved : goal.loop-done-preserved
loop-done-preserved g c =
    let l = c.loop-done in
    let n = c.unwrap_or-n.result in
    let (fits, more) = was_read _ _ c.read.result c.read.new.buf n c.read.ensures.bound c.read.ensures.bytes c.unwrap_or-n.ensures c.if-n-eq0.false in
    let room = length l.buf - l.done in
    let within = l.invariant.1 in
    let part = slice_range-put_mid l.done room n l.buf c.read.new.buf within fits in
    let joined = take_split l.done (l.done + n) l.buf (put_mid l.done room l.buf c.read.new.buf) (omega arith) (take-put_mid_below _ _ _ _ _ (le_refl _) within) in
    (search rules, search rules, subst (Consumes _ _) (ap (λ x. take l.done l.buf ++ x) (sym part) ∙ joined) (Consumes-trans _ _ _ _ _ l.invariant.2 more))
