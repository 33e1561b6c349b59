-- The calls of a list one after another.
use Rattle.std.proofs.Common.{◌≡◌, refl, sym, ap, ap₂, ◌∙◌, subst, Bool, false, List, [], ◌∷◌, ◌++◌, map, append-nil, Option, ◌⊎◌, inl, inr, ℕ, ◌+◌, ◌≤◌, length, take, length-append, length-take-le, arith}
use Rattle.std.proofs.Math.Seq.{take-append_seam, drop-append_seam}
use Rattle.std.proofs.lemmas.List.{map-append}
use Rattle.std.proofs.lemmas.List.Folds.{concat-append}
use Rattle.std.proofs.KnownBytes.{Consumes-nil, Consumes-trans}
use Rattle.std.specs.List.{concat}
use Rattle.std.specs.Io.KnownBytes.{Consumes}
use Rattle.fields.specs.Rules.{passed, unlinked}
use Rattle.journal.specs.Calls.{State}
use Rattle.journal.specs.Step.{vault}
use Rattle.token_vault.specs.Preview.{Request, request_step, run_requests}
use Rattle.token_vault_vectors.specs.Faults.{call_head_rules, call_head_fault, call_fault}
use Rattle.token_vault_vectors.specs.Reading.{TakesCall}
use Rattle.token_vault_vectors.specs.Replay.{request_of, request_in, IsCallFault, TakesCalls}

pub record Taken (input left : Option (List ℕ)) (before after : State) (taken : ℕ) : Type 0 where
  pub calls : List (List ℕ)
  pub counted : length calls ≡ taken
  pub consumed : Consumes input left (concat calls)
  pub carried : after ≡ run_requests before (map request_in calls)

pub none_taken : (input : Option (List ℕ)) (s : State) → Taken input input s s 0
none_taken input s = record { calls = []; counted = refl; consumed = Consumes-nil input; carried = refl }

after_more : (s : State) (cs : List Request) (c : Request) → run_requests s (cs ++ (c ∷ [])) ≡ (request_step (run_requests s cs) c).state
after_more s [] c = refl
after_more s (x ∷ cs) c = after_more (request_step s x).state cs c

concat_more : (cs : List (List ℕ)) (c : List ℕ) → concat (cs ++ (c ∷ [])) ≡ concat cs ++ c
concat_more cs c = concat-append cs (c ∷ []) ∙ ap (λ (l : List ℕ). concat cs ++ l) (append-nil c)

-- the head of a call with no fault has 8 bytes
whole_head : (h : List ℕ) (n : ℕ) → 0 ≡ call_fault (length h) h n → length h ≡ 8
unfolding call_fault call_head_fault
whole_head h n z = (passed (call_head_rules (length h) h) refl (unlinked _ (sym z)).0).0

asked_in : (h r : List ℕ) → length h ≡ 8 → request_in (h ++ r) ≡ request_of h r
unfolding request_in
asked_in h r e = rw (sym e, take-append_seam h r, drop-append_seam h r) refl

-- one call more
module _ {input left rest : Option (List ℕ)} {before s : State} {k : ℕ} (t : Taken input left before s k) {b image journal : List ℕ} {fault : ℕ} {Printed : List ℕ → Type 0} (a : TakesCall left rest s b fault image journal Printed) where
  abbrev bytes : List ℕ
  bytes = a.head ++ take a.record_read b

  pub one_more : fault ≡ 0 → Taken input rest before (vault image journal) (k + 1)
  one_more z =
      let c = request_of a.head (take a.record_read b) in
      let p = a.answered.whole z in
      let state_is : vault image journal ≡ (request_step s c).state = rw (p.changed, p.entered) refl in
      let same : request_in bytes ≡ c = asked_in a.head (take a.record_read b) (whole_head a.head a.record_read (sym z ∙ a.answered.decided)) in
      record {
        calls = t.calls ++ (bytes ∷ []);
        counted = length-append t.calls (bytes ∷ []) ∙ ap (λ (i : ℕ). i + 1) t.counted;
        consumed = subst (Consumes input rest) (sym (concat_more t.calls bytes)) (Consumes-trans input left rest _ _ t.consumed a.consumed);
        carried =
            state_is
            ∙ ap₂ (λ (x : State) (y : Request). (request_step x y).state) t.carried (sym same)
            ∙ sym (after_more before (map request_in t.calls) (request_in bytes))
            ∙ ap (run_requests before) (sym (map-append request_in t.calls (bytes ∷ [])));
      }

  pub stopped : {count n : ℕ} {is_written : Bool} → n ≡ fault → (n ≡ 0 → ⊥) → k ≤ count → TakesCalls input before (vault image journal) count k n is_written
  stopped e m h =
      record {
        calls = t.calls;
        counted = t.counted;
        within = h;
        left = left;
        consumed = t.consumed;
        carried = a.answered.other (λ z. m (e ∙ z)) ∙ t.carried;
        ended = inr (inl (record {
          head = a.head;
          part = take a.record_read b;
          left = rest;
          consumed = a.consumed;
          decided = e ∙ a.answered.decided ∙ ap (call_fault (length a.head) a.head) (sym (length-take-le a.record_read b a.record_within));
          some = omega (arith, m);
        }));
      }

pub ended : {input left : Option (List ℕ)} {before after : State} {count k fault : ℕ} {is_written : Bool} → Taken input left before after k → k ≤ count
    → ((k ≡ count) × (fault ≡ 0)) ⊎ (IsCallFault left fault ⊎ ((is_written ≡ false) × (fault ≡ 0))) → TakesCalls input before after count k fault is_written
ended {left = left} t h e = record { calls = t.calls; counted = t.counted; within = h; left = left; consumed = t.consumed; carried = t.carried; ended = e }
