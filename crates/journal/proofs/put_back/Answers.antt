-- `journal::put_back`: the entries behind those that are left are put back.
use Rattle.std.proofs.Common.{◌≡◌, List, ℕ, ◌+◌, ◌-◌, ◌*◌, ◌≤◌, ◌<◌, add-zero, refl, ap, ◌∙◌, length, take, drop, arith}
use lib.Seq.{drop-length}
use Rattle.std.specs.Iterator.Adapters.{rev_source}
use Rattle.std.specs.Slice.Iter.{iter_rest}
use Rattle.fields.specs.Bytes.{le}
use Rattle.fields.specs.Chunks.{le_part, part_of}
use Rattle.journal.specs.Journal.{contents_of, restore}
use Rattle.journal.proofs.Backwards.{in_image, put_turn}
use Rattle.journal.proofs.Chunks.{all_left, taken}
use Rattle.journal.proofs.Written.{good_room}
use Rattle.journal.proofs.put_back.Goals as goal

pub loop-entry-init : goal.loop-entry-init
unfolding restore
loop-entry-init c =
    let a = c.args in
    let r = good_room a.cells a.journal.now c.requires.good_over.good in
    let s = ap (λ it. iter_rest (rev_source it)) c.into_iter-entry-iterator.ensures.into_iter_gives ∙ ap iter_rest c.rev-entry-items.ensures.source ∙ c.iter.ensures.rest in
    let t = all_left (a.from + 1) (a.count + 1) a.journal.now c.as_chunks.ensures.front c.as_chunks.ensures.front_len (omega arith) (omega arith) s in
    let n : a.from + length (iter_rest (rev_source c.into_iter-entry-iterator.result)) ≡ length (contents_of a.journal.now).entries = omega arith in
    record { left = t.0; image = rw (n, drop-length (contents_of a.journal.now).entries) refl }

-- the cell of the entry that the turn takes, which is the k-th of the journal
cell : (j b : List ℕ) (k : ℕ) {n m : ℕ} → b ≡ take 24 (drop (24 * k) j) → n ≡ m → m ≡ le 2 b 0 → n ≡ le 2 j (24 * k)
cell j b k e f g = f ∙ g ∙ rw e (le_part 2 24 (24 * k) 0 j (omega arith) ∙ ap (le 2 j) (add-zero (24 * k)))

pub slice_bounds-copy_from_slice-end : goal.slice_bounds-copy_from_slice-end
slice_bounds-copy_from_slice-end c =
    let a = c.args in
    let r = good_room a.cells a.journal.now c.requires.good_over.good in
    let t = taken (a.from + 1) (a.count + 1) a.journal.now (omega arith) c.loop-entry.invariant.left c.in-Some.ensures.steps in
    let k = a.from + 1 + length (iter_rest (rev_source c.next.new.self)) in
    let e = cell a.journal.now c.in-Some.entry.now k t.entry c.from-lo.ensures c.read_entry_head.ensures.cell in
    let w = in_image a.cells a.journal.now c.requires.good_over.good k (omega arith) (omega (arith, t.within)) in
    omega (arith, c.requires.good_over.long)

pub loop-entry-preserved : goal.loop-entry-preserved
loop-entry-preserved c =
    let a = c.args in
    let j = a.journal.now in
    let r = good_room a.cells j c.requires.good_over.good in
    let t = taken (a.from + 1) (a.count + 1) j (omega arith) c.loop-entry.invariant.left c.in-Some.ensures.steps in
    let m = length (iter_rest (rev_source c.next.new.self)) in
    let k = a.from + 1 + m in
    let e = cell j c.in-Some.entry.now k t.entry c.from-lo.ensures c.read_entry_head.ensures.cell in
    let s : 24 * k + 24 - (24 * k + 8) ≡ 16 = omega arith in
    let n : a.from + length (iter_rest (rev_source c.loop-entry.entry-iterator)) ≡ k = omega (arith, t.one) in
    let p : k - 1 ≡ a.from + m = omega arith in
    let above : 0 < k = omega arith in
    let below : k ≤ length (contents_of j).entries = omega (arith, t.within) in
    let old : c.copy_from_slice.new.self ≡ take 16 (drop (24 * k + 8) j) = c.copy_from_slice.ensures.after ∙ ap (λ (b : List ℕ). take 16 (drop 8 b)) t.entry ∙ part_of 16 24 (24 * k) 8 j (omega arith) in
    record {
      left = t.left;
      image = rw p at (put_turn a.cells j c.requires.good_over.good k above below a.image.now c.loop-entry.image c.copy_from_slice.new.self (16 * c.from-lo.result)
          (ap (λ i. 16 * i) e) (rw n at c.loop-entry.invariant.image) (rw s old));
    }

pub returns : goal.returns
returns c =
    let n : c.args.from + length (iter_rest (rev_source c.loop-entry.entry-iterator)) ≡ c.args.from = omega (arith, c.in-None.ensures.steps) in
    rw n at c.loop-entry.invariant.image
