-- `print_line` meets its contract: a line that fits is kept whole, and then written.
use Rattle.std.proofs.Common.{◌≡◌, ℕ, List, subst, ◌∙◌, Option, Some, None, IfSome}
use Rattle.std.proofs.lemmas.Result.{on_ok_weaker}
use Rattle.std.specs.Io.KnownBytes.{Appends}
use Rattle.streams.proofs.print_line.Goals as goal

-- the bytes that were written are the text in o, where there is one
text_written : (old new o : Option (List ℕ)) (bytes kept : List ℕ) → bytes ≡ kept → IfSome o (λ text. kept ≡ text) → Appends old new bytes → IfSome o (Appends old new)
text_written old new None bytes kept same whole appended = tt
text_written old new (Some text) bytes kept same whole appended = subst (Appends old new) (same ∙ whole) appended

pub returns-in-Ok : goal.returns-in-Ok
returns-in-Ok g c =
    on_ok_weaker c.write_all.result
    (text_written _ _ _ _ _ (c.as_bytes.ensures.value ∙ c.as_str.ensures.value) c.in-Ok.ensures)
    c.write_all.ensures.bytes
