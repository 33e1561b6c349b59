-- `kept` meets its contract: a text that was written into an empty one is all that stands there.
use Rattle.std.proofs.Common.{◌≡◌, ℕ, List, [], ◌∷◌, ◌++◌, append-nil, append_assoc, ap, sym, ◌∙◌, Option, Some, None, IfSome}
use Rattle.std.specs.List.{FoldsTo, concat}
use Rattle.std.specs.Fmt.{WritesText}
use Rattle.std.specs.Fmt.InlineText.{inline_text, IsIntact}
use Rattle.streams.proofs.kept.Goals as goal

-- texts that grow by what they are given, while they are intact
module _ {T : Type 0} (took : T → List ℕ → T → Type 0) (intact : T → Type 0) (content : T → List ℕ) (step : (s : T) (bs : List ℕ) (t : T) → took s bs t → intact s → intact t × (content t ≡ content s ++ bs)) where
  after_calls : (s : T) (parts : List (List ℕ)) (t : T) → FoldsTo took s parts t → intact s → content t ≡ content s ++ concat parts
  after_calls s [] t same i = ap content (sym same) ∙ sym (append-nil (content s))
  after_calls s (x ∷ parts) t calls i =
      let first = step s x calls.0 calls.1 i in
      after_calls calls.0 parts t calls.2 first.0 ∙ ap (λ (l : List ℕ). l ++ concat parts) first.1 ∙ append_assoc (content s) x (concat parts)

  -- an empty one that was given the text in o holds it
  text_kept : (s t : T) (o : Option (List ℕ)) → content s ≡ [] → intact s → WritesText took s o t → IfSome o (λ bs. content t ≡ bs)
  text_kept s t None empty i wrote = tt
  text_kept s t (Some bs) empty i wrote = after_calls s wrote.parts t wrote.calls i ∙ ap (λ (l : List ℕ). l ++ concat wrote.parts) empty ∙ wrote.whole

pub returns : goal.returns
returns g c = text_kept _ IsIntact inline_text (λ s bs t took. took) c.new-line.result c.writeln.new.self _ c.new-line.ensures.text c.new-line.ensures.intact c.in_ok-writeln.ensures.writes
