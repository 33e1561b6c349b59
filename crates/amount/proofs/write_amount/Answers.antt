-- `amount::write_amount` meets its contract.
use Rattle.std.proofs.Common.{rules, ◌∙◌, ap, ℕ, List, take, drop}
use Rattle.amount.proofs.Integers.{put_bits, put_two, low_bytes, high_bytes}
use Rattle.amount.proofs.write_amount.Goals as goal

pub returns : goal.returns
returns c =
    let x = c.args in
    let b = c.to_le_bytes-bytes.ensures in
    put_two x.s.now _ _ x.at _ c.requires (c.copy_from_slice.ensures.after ∙ ap (take 8) b ∙ low_bytes _) (c.copy_from_slice-2.ensures.after ∙ ap (λ (l : List ℕ). take 8 (drop 8 l)) b ∙ high_bytes _)
    ∙ put_bits x.a (search rules) x.s.now x.at
