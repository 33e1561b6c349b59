-- `journal::enter_span`: a walk over the cells.
use mathlib.Core.Path.{◌≡◌, sym, ◌∙◌}
use Prim.Native.Nat.{◌/◌}
use native.Mathlib.Omega.{arith}
use lib.ListN.{length}
use Rattle.fields.specs.Same.{same_bytes_of}
use Rattle.fields.specs.Chunks.{chunk, chunk_long}
use Rattle.journal.proofs.Stretches.{cell_of, walk_starts, walk_same, walk_full, walk_writes}
use Rattle.journal.proofs.enter_span.Goals as goal
use Rattle.journal.proofs.enter_span.Goals.{then-not-same+then-end-places, then-not-same+else-end-places, else-not-same}

pub loop-cell-init : goal.loop-cell-init
loop-cell-init g c = let a = c.args in walk_starts a.span.call a.span.first a.old.now a.new.now a.places.now a.span.cells

pub same-requires : goal.same-requires
same-requires g c =
    let a = c.args in
    let i = c.loop-cell.cell in
    let p = c.requires.cells in
    let o = p.long_old in
    let n = p.long_new in
    c.requires.compares.asked _ _ (chunk_long 16 (length a.old.now / 16) i a.old.now c.as_chunks.ensures.front (omega arith) (omega arith)) (chunk_long 16 (length a.new.now / 16) i a.new.now c.as_chunks-2.ensures.front (omega arith) (omega arith))

pub loop-cell-preserved : goal.loop-cell-preserved
loop-cell-preserved g c =
    let a = c.args in
    let s = a.span in
    let l = c.loop-cell in
    let p = c.requires.cells in
    let o = p.long_old in
    let n = p.long_new in
    let x = chunk 16 (length a.old.now / 16) l.cell a.old.now c.as_chunks.ensures.front (omega arith) in
    let y = chunk 16 (length a.new.now / 16) l.cell a.new.now c.as_chunks-2.ensures.front (omega arith) in
    let t = c.requires.compares.told c.same.ensures (chunk_long 16 (length a.old.now / 16) l.cell a.old.now c.as_chunks.ensures.front (omega arith) (omega arith)) (chunk_long 16 (length a.new.now / 16) l.cell a.new.now c.as_chunks-2.ensures.front (omega arith) (omega arith)) in
    let e : c.same.result ≡ same_bytes_of (cell_of l.cell a.old.now) (cell_of l.cell a.new.now) = rw (x, y) at t in
    elim c.if-not-same.branch [
      | then-not-same+then-end-places w ↦
          rw (w.n-is, w.places-is) (walk_writes s.call s.first a.old.now a.new.now a.places.now l.places s.cells l.cell l.n l.invariant (omega arith) w.copy_from_slice.new.self (sym e ∙ w.if-not-same.true) (omega arith) p.called.0 (omega arith) (w.copy_from_slice.ensures.after ∙ rw x at w.entry_bytes.ensures))
      | then-not-same+else-end-places w ↦
          rw (w.n-is, w.places-is) (walk_full s.call s.first a.old.now a.new.now a.places.now l.places s.cells l.cell l.n l.invariant (omega arith) (sym e ∙ w.if-not-same.true) (omega arith))
      | else-not-same w ↦
          rw (w.n-is, w.places-is) (walk_same s.call s.first a.old.now a.new.now a.places.now l.places s.cells l.cell l.n l.invariant (omega arith) (sym e ∙ w.if-not-same.false))
    ]
