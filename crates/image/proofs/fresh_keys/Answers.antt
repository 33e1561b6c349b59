-- `image::fresh_keys` meets its contract.
use Rattle.std.proofs.Common.{◌≡◌, ◌∙◌, rules, length}
use Rattle.fields.specs.Logic.{all-step, all_stop}
use Rattle.image.specs.Layout.{tracked_key}
use Rattle.image.specs.Good.{fresh_key}
use Rattle.image.specs.Laws.{seen_step, stale_far, stale_seen, fresh_new}
use Rattle.image.proofs.fresh_keys.Goals as goal
use Rattle.image.proofs.fresh_keys.Goals.{then-k-ge1088-via-then-k-ge1088, then-k-ge1088-via-else-k-ge1088+then-seen-k}

pub returns-then-k-ge1088 : goal.returns-then-k-ge1088
returns-then-k-ge1088 c s h =
    let l = c.loop-key in
    let i = l.key-index in
    let k : c.from-k.result ≡ tracked_key s i = c.from-k.ensures ∙ c.from_le_bytes.ensures ∙ h i c.loop-key-test.true in
    all_stop (fresh_key s) i (length c.args.keys.now) c.loop-key-test.true (elim c.then-k-ge1088.branch [
      | then-k-ge1088-via-then-k-ge1088 w ↦ stale_far s i c.from-k.result k w.if-k-ge1088.true
      | then-k-ge1088-via-else-k-ge1088+then-seen-k w ↦ stale_seen s l.seen i c.from-k.result k w.if-k-ge1088.false (l.invariant.1 s h).1 w.if-seen-k.true
    ])

pub loop-key-preserved : goal.loop-key-preserved
loop-key-preserved c =
    let l = c.loop-key in
    let i = l.key-index in
    let n = c.from-k.result in
    let b = c.if-k-ge1088.false in (
      search rules,
      λ s h.
          let k : n ≡ tracked_key s i = c.from-k.ensures ∙ c.from_le_bytes.ensures ∙ h i c.loop-key-test.true in
          let (a, v) = l.invariant.1 s h in
          (all-step (fresh_key s) i a (fresh_new s l.seen i n k b v c.if-seen-k.false), seen_step s l.seen i n k (search rules) v),
    )
