-- A piece more is written.
use Rattle.std.proofs.Common.{◌≡◌, ◌+◌, min, ℕ, ap, ap₂, sym, subst, ◌∙◌, arith}
use Rattle.std.specs.Io.KnownBytes.{Appends}
use Rattle.std.proofs.KnownBytes.{Appends-nil}
use Rattle.trial_records.specs.Trial.{records_from, reached_from}
use Rattle.trial_records.specs.Laws.{reached_parts}
use Rattle.token_vault_trial.proofs.Pieces.{more_written}
use Rattle.token_vault_trial.proofs.write_records.Goals as goal

pub loop-made-init : goal.loop-made-init
unfolding records_from reached_from
loop-made-init g c =
    let a = c.args.asked in
    let z : 0 ≡ min 0 a.left = omega arith in
    (ap (reached_from a.last) z, omega arith, omega arith, subst (Appends _ _) (ap (records_from a.last a.next) z) (Appends-nil _))

pub write_piece-requires : goal.write_piece-requires
write_piece-requires g c =
    let (last, next, left, written) = c.loop-made.invariant in
    let here : min c.loop-made.made c.args.asked.left ≡ c.loop-made.made = omega arith in
    rw here at (c.next_piece-piece.ensures.piece ∙ ap₂ (λ (x y : ℕ). records_from x y c.min-n.result) last next)

pub loop-made-preserved : goal.loop-made-preserved
loop-made-preserved g c =
    let (last, next, left, written) = c.loop-made.invariant in
    let (reached, follows, remains) = c.next_piece-piece.ensures.rest in
    let a = c.args.asked in
    let n = c.min-n.result in
    let done = min c.loop-made.made a.left in
    let more : done + n ≡ min (c.loop-made.made + 128) a.left = omega arith in (
      reached ∙ ap (λ (x : ℕ). reached_from x n) last ∙ sym (reached_parts a.last done n) ∙ ap (reached_from a.last) more,
      omega arith,
      omega arith,
      more_written a.last a.next done n _ _ _ _ last next c.next_piece-piece.ensures.piece more written c.in_ok-write_piece.ensures,
    )

-- the next step would pass 2 ^ 64
pub returns-in_ok-write_piece-clause-written : goal.returns-in_ok-write_piece-clause-written
returns-in_ok-write_piece-clause-written g c =
    let (last, next, left, written) = c.loop-made.invariant in
    let a = c.args.asked in
    let done = min c.loop-made.made a.left in
    let all : done + c.min-n.result ≡ a.left = omega arith in
    more_written a.last a.next done c.min-n.result _ _ _ _ last next c.next_piece-piece.ensures.piece all written c.in_ok-write_piece.ensures

pub returns-clause-written : goal.returns-clause-written
returns-clause-written g c =
    let (last, next, left, written) = c.loop-made.invariant in
    let a = c.args.asked in
    let all : min c.loop-made.made a.left ≡ a.left = omega arith in
    subst (λ (n : ℕ). Appends (g.O.Write.contents c.args.output.now) (g.O.Write.contents c.loop-made.output) (records_from a.last a.next n)) all written
