-- A piece, and what is left after it.
use Rattle.std.proofs.Common.{◌*◌, arith, length-take-le, ap, refl}
use Rattle.trial_records.specs.Trial.{reached_or}
use Rattle.token_vault_trial.proofs.Pieces.{piece_made, piece_reached, piece_done}
use Rattle.token_vault_trial.proofs.order.Records.next_piece.Goals as goal

pub unwrap-last-requires : goal.unwrap-last-requires
unwrap-last-requires c =
    let s = c.args.self.now in
    piece_done s.last s.next c.args.n _ _ c.trial_records.result _ s.from_one (omega (arith, s.within)) (length-take-le (448 * c.args.n) _ (omega arith)) c.trial_records.ensures

pub returns-clause-piece : goal.returns-clause-piece
returns-clause-piece c =
    let s = c.args.self.now in
    piece_made s.last s.next c.args.n _ _ _ _ s.from_one (omega (arith, s.within)) (length-take-le (448 * c.args.n) _ (omega arith)) c.trial_records.ensures

pub returns-clause-rest : goal.returns-clause-rest
returns-clause-rest c =
    let s = c.args.self.now in
    let t = c.trial_records.ensures in
    (piece_reached s.last s.next c.args.n _ _ _ _ s.from_one (omega (arith, s.within)) (length-take-le (448 * c.args.n) _ (omega arith)) (rw (ap (reached_or s.last) c.unwrap-last.ensures) at t), refl, omega arith)
