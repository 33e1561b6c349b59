-- `journal::enter_cells`: a walk over the cells, a stretch at a time.
use mathlib.Core.Path.{◌≡◌, refl, sym, ap, ◌∙◌}
use Prim.Native.Nat.{ℕ, ◌+◌, ◌*◌, ◌-◌, ◌/◌}
use native.Mathlib.Omega.{arith}
use lib.ListN.{length, drop}
use Rattle.fields.specs.Chunks.{chunk}
use Rattle.journal.proofs.Exact.{exact}
use Rattle.journal.proofs.Stretches.{walk_starts, walk_ends, found_few, stretch_same, stretch_found, rest_all}
use Rattle.journal.proofs.enter_cells.Goals as goal
use Rattle.journal.proofs.enter_cells.Goals.{then-not-same_words, else-not-same_words}

pub loop-stretch-init : goal.loop-stretch-init
loop-stretch-init c = let a = c.args in walk_starts a.call 0 a.old.now a.new.now a.places.now a.cells

pub overflow_add-n : goal.overflow_add-n
overflow_add-n c =
    let p = c.requires.numbered in
    let i = c.loop-stretch.invariant.1 in
    let f = found_few c.enter_span-n.ensures in
    omega (arith, f)

pub loop-stretch-preserved : goal.loop-stretch-preserved
loop-stretch-preserved c =
    let a = c.args in
    let o = c.requires.long_old in
    let l = c.loop-stretch in
    let k = 16 * l.stretch in
    let next : 16 * l.stretch + 16 ≡ 16 * (l.stretch + 1) = omega arith in
    let v = c.requires.long_new in
    let at : 256 * l.stretch ≡ 16 * (16 * l.stretch) = omega arith in
    let x = rw at at (chunk 256 (length a.old.now / 256) l.stretch a.old.now c.as_chunks.ensures.front (omega arith)) in
    let y = rw at at (chunk 256 (length a.new.now / 256) l.stretch a.new.now c.as_chunks-2.ensures.front (omega arith)) in
    elim c.if-not-same_words.branch [
      | then-not-same_words w ↦
          rw (w.n-is, w.places-is, ← next)
          (stretch_found a.call a.old.now a.new.now a.places.now l.places a.cells (16 * l.stretch) 16 l.n l.invariant (omega arith) w.enter_span-n.new.places w.enter_span-n.result w.place_at-at.result
          256 256 c.requires.called.0 (omega arith) w.place_at-at.ensures.0 refl refl (rw (x, y) at w.enter_span-n.ensures))
      | else-not-same_words w ↦
          rw (w.n-is, w.places-is, ← next)
          (stretch_same a.call a.old.now a.new.now a.places.now l.places a.cells (16 * l.stretch) 16 l.n l.invariant (omega arith) (rw (x, y) at (sym c.same_words.ensures ∙ w.if-not-same_words.false)))
    ]

pub overflow_add-result : goal.overflow_add-result
overflow_add-result c =
    let p = c.requires.numbered in
    let i = c.loop-stretch.invariant.1 in
    let f = found_few c.enter_span.ensures in
    omega (arith, f)

pub returns : goal.returns
returns c =
    let a = c.args in
    let o = c.requires.long_old in
    let w = c.requires.long_new in
    let l = c.loop-stretch in
    let last = c.enter_span in
    let place = c.place_at-at-2 in
    let k = 16 * (a.cells / 16) in
    let m = a.cells - k in
    let q : l.stretch ≡ a.cells / 16 = omega arith in
    let i = rw q at l.invariant in
    let x : drop (length a.old.now / 256 * 256) a.old.now ≡ drop (16 * k) a.old.now = ap (λ (n : ℕ). drop n a.old.now) (omega arith) in
    let y : drop (length a.new.now / 256 * 256) a.new.now ≡ drop (16 * k) a.new.now = ap (λ (n : ℕ). drop n a.new.now) (omega arith) in
    let before = c.as_chunks.ensures.back ∙ x ∙ sym (rest_all (16 * k) a.old.now) in
    let after = c.as_chunks-2.ensures.back ∙ y ∙ sym (rest_all (16 * k) a.new.now) in
    let found = stretch_found a.call a.old.now a.new.now a.places.now l.places a.cells k m l.n i (omega arith) last.new.places last.result place.result
    (length a.old.now - 16 * k) (length a.new.now - 16 * k) c.requires.called.0 (omega arith) place.ensures.0 (omega arith) (omega arith) (rw (before, after) at last.ensures) in
    record {
      found = walk_ends a.call 0 a.old.now a.new.now a.places.now _ a.cells (k + m) (l.n + last.result) found (omega arith);
      exact = exact a.call a.cells a.old.now a.new.now (omega arith) (omega arith);
    }
