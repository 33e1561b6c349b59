-- `fields::same_words` meets its contract.
use Rattle.std.proofs.Common.{◌≡◌, ◌∙◌, ◌+◌, ◌*◌, ◌/◌, ap, add-zero, [], length, length-append, arith}
use Rattle.std.proofs.lemmas.Slice.Zip.{zip_turn}
use Rattle.fields.specs.Bytes.{le}
use Rattle.fields.specs.Chunks.{chunk, le_part}
use Rattle.fields.proofs.Loops.{same_none, word_step}
use Rattle.fields.proofs.same_words.Goals as goal

pub loop-x-init : goal.loop-x-init
loop-x-init c = same_none c.args.a.now c.args.b.now

pub loop-x-preserved : goal.loop-x-preserved
unfolding le
loop-x-preserved c =
    let l = c.loop-x in
    let a = c.args.a.now in
    let b = c.args.b.now in
    let k = length l.yielded in
    let p = c.as_chunks.ensures in
    let q = c.as_chunks-2.ensures in
    let t = zip_turn c.as_chunks.result.0.now c.as_chunks-2.result.0.now l.yielded c.into_iter-x-iterator.result l.x-iterator c.next.new.self c.next.result (cc) (cc) l.yielded_by _ c.in-Some.is c.next.ensures.steps in
    let z : 8 * k + 0 ≡ 8 * k = add-zero (8 * k) in
    let x = t.2 [] ∙ chunk 8 (length a / 8) k a p.front (omega (arith, t.0, p.front_len)) in
    let y = t.3 [] ∙ chunk 8 (length b / 8) k b q.front (omega (arith, t.1, q.front_len)) in
    let u : c.from_le_bytes.result ≡ le 8 c.in-Some.x.now 0 = omega arith in
    let v : c.from_le_bytes-in-loop-x.result ≡ le 8 c.in-Some.y.now 0 = omega arith in
    let s : 8 * (k + 1) ≡ 8 * k + 8 = omega arith in
    rw (length-append, s, u ∙ ap (λ i. le 8 i 0) x ∙ le_part 8 8 (8 * k) 0 a (omega arith) ∙ ap (le 8 a) z, v ∙ ap (λ i. le 8 i 0) y ∙ le_part 8 8 (8 * k) 0 b (omega arith) ∙ ap (le 8 b) z)
    (word_step 8 a b (8 * k) l.difference (λ i. omega (arith, c.type_inv.a i)) (λ i. omega (arith, c.type_inv.b i)) (omega (arith, t.0, p.front_len)) (omega (arith, t.1, q.front_len)) l.invariant)
