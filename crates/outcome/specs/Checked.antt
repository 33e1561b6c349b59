-- An outcome behind checks, for operations whose checks are a function of their own.
use Rattle.std.specs.Prelude.{◌≡◌, refl, List, [], ◌∷◌, ℕ, Result}
use Rattle.std.proofs.Common.{sym, ◌∙◌}
use Rattle.fields.specs.Rules.{chain, ends_at}
use Rattle.refusal.specs.declared.Refusal.{Refusal}
use Rattle.refusal.specs.Numbers.{number_of}
use Rattle.refusal.specs.Laws.{refused_at}
use Rattle.outcome.specs.declared.Done.{Done}
use Rattle.outcome.specs.Outcome.{Outcome, Does, Refuses, refused}

-- k is the number of the checks, o what follows where they pass
abbrev pub checked : ℕ → Outcome → Outcome
checked k o = record { number = chain (k ∷ o.number ∷ []); value = o.value; events = o.events; image = o.image }

module _ (k : ℕ) (o : Outcome) {a : Result Done Refusal} {image events : List ℕ} where
  -- e is the refusal of the checks
  pub checks_refuse : (e : Refusal) → number_of e ≡ k → Refuses a e → Does (checked k o) a image events
  checks_refuse e h r = refused e r (refused_at (k ∷ o.number ∷ []) 0 e tt h)

  pub checks_pass : 0 ≡ k → Does o a image events → Does (checked k o) a image events
  checks_pass z d =
      let f : o.number ≡ chain (k ∷ o.number ∷ []) = ends_at (k ∷ o.number ∷ []) 1 _ (sym z, tt) refl in
      record {
        numbered = d.numbered ∙ f;
        valued = d.valued;
        counted = d.counted;
        changed = λ y. d.changed (f ∙ y);
        written = λ y. d.written (f ∙ y);
      }
