-- `step_line` meets its contract: the digests stand where the line has them, and the line has at most 304 bytes.
use Rattle.std.proofs.Common.{refl, append_assoc, rules, arith, FitsSigned, length, length-append, ◌++◌, ◌≤◌}
use Rattle.answer_line.specs.Hexadecimal.{hexadecimal}
use Rattle.std.specs.Int.{w128}
use Rattle.amount.specs.Value.{value}
use Rattle.answer_line.specs.Decimal.{answer_words}
use Rattle.answer_line.specs.Lengths.{answer_words_length, hexadecimal_length}
use Rattle.vault_vectors.specs.Vectors.{text_of, event_bytes_text, image_text, journal_text, digests, digest_text}
use Rattle.vault_vectors.proofs.step_line.Goals as goal

pub returns-clause-words : goal.returns-clause-words
unfolding text_of digests digest_text answer_words
returns-clause-words c = let p = c.printed.ensures in simp (append_assoc, p.0, p.1, p.2, c.sha256.ensures, c.sha256-2.ensures, c.sha256-3.ensures) refl

pub returns-clause-short : goal.returns-clause-short
unfolding text_of value event_bytes_text image_text journal_text
returns-clause-short c =
    let a = c.printed.result in
    let f : FitsSigned w128 a.value.0 = search rules in
    let rest = event_bytes_text ++ (hexadecimal c.sha256.result ++ (image_text ++ (hexadecimal c.sha256-2.result ++ (journal_text ++ hexadecimal c.sha256-3.result)))) in
    let words = answer_words_length a.number a.value.0 a.events rest (omega arith) f (omega arith) in
    let digests_long : length rest ≤ 221 = simp (length-append, hexadecimal_length) (omega arith) in
    omega arith
