-- What an operation gives by its own rules, and what its function owes.
use Rattle.std.specs.Prelude.{◌≡◌, List, [], ◌∷◌, ℕ, ◌+◌, ◌<◌, length, get_or, Result, Ok, Err, IfOk, IsErr, IsErrAnd}
use Rattle.std.proofs.Common.{refl, sym, ap, ◌∙◌, add-zero, arith}
use Rattle.amount.specs.Biased.{bias, biased}
use Rattle.events.specs.Event.{EventFields, event_buffer}
use Rattle.events.specs.Buffer.{length-event_buffer}
use Rattle.record.specs.Record.{operation_of}
use Rattle.record.specs.Form.{form_number}
use Rattle.record.specs.Laws.{form_length, form_bytes}
use Rattle.refusal.specs.declared.Refusal.{Refusal}
use Rattle.refusal.specs.Numbers.{number_of, code}
use Rattle.refusal.specs.Laws.{some_number, code_passed}
use Rattle.std.proofs.lemmas.Result.{IfOk-from_err}
use Rattle.outcome.specs.declared.Done.{Done}

-- the number, 0 when done; where it is 0, the value, the events in order and the image after it
pub record Outcome : Type 0 where
  pub number : ℕ
  pub value : ℕ
  pub events : List EventFields
  pub image : List ℕ

-- an answer: a refusal, or what was done; and its value and its count of events, which are 0 of a refusal
abbrev pub Answer : Type 0
Answer = Result Done Refusal

abbrev pub value_of : Answer → ℕ
value_of (Ok d) = biased d.value
value_of (Err e) = bias

abbrev pub count_of : Answer → ℕ
count_of (Ok d) = d.events
count_of (Err e) = 0

-- What the function of an operation owes: it runs on a copy of the image and on any event buffer, and may leave both changed where it refuses.
pub record Does (o : Outcome) (a : Answer) (image events : List ℕ) : Type 0 where
  pub numbered : code a ≡ o.number
  pub valued : IfOk a (λ d. biased d.value ≡ bias + o.value)
  pub counted : IfOk a (λ d. d.events ≡ length o.events)
  pub changed : o.number ≡ 0 → image ≡ o.image
  pub written : o.number ≡ 0 → events ≡ event_buffer o.events

-- a is the refusal e
abbrev pub Refuses : {T : Type 0} → Result T Refusal → Refusal → Type 0
Refuses a e = IsErr a × IsErrAnd a (λ y. y ≡ e)

module _ {o : Outcome} {image events : List ℕ} where
  pub refused : (e : Refusal) {a : Answer} → Refuses a e → number_of e ≡ o.number → Does o a image events
  refused e {a} r f =
      record {
        numbered = code_passed e a r ∙ f;
        valued = IfOk-from_err a _ r.0;
        counted = IfOk-from_err a _ r.0;
        changed = λ y. absurd (some_number e (f ∙ y));
        written = λ y. absurd (some_number e (f ∙ y));
      }

  pub accepted : {d : Done} → o.number ≡ 0 → biased d.value ≡ bias + o.value → d.events ≡ length o.events → image ≡ o.image → events ≡ event_buffer o.events
      → Does o (Ok d) image events
  accepted z v c i e =
      record {
        numbered = sym z;
        valued = v;
        counted = c;
        changed = λ y. i;
        written = λ y. e;
      }

-- what a refusal is as a caller finds it
pub silent : (a : Answer) (e : Refusal) → Refuses a e → (code a ≡ number_of e) × (value_of a ≡ bias) × (count_of a ≡ 0)
silent a e r = (code_passed e a r, (go a r.0).0, (go a r.0).1)
  where
    go : (a : Answer) → IsErr a → (value_of a ≡ bias) × (count_of a ≡ 0)
    go (Ok d) f = cc
    go (Err e) f = (refl, refl)

-- what was done, where the number is 0
pub value_is : {n : ℕ} (a : Answer) → code a ≡ 0 → IfOk a (λ d. biased d.value ≡ n) → value_of a ≡ n
value_is (Ok d) z h = h
value_is (Err e) z h = absurd (some_number e z)

pub count_is : {n : ℕ} (a : Answer) → code a ≡ 0 → IfOk a (λ d. d.events ≡ n) → count_of a ≡ n
count_is (Ok d) z h = h
count_is (Err e) z h = absurd (some_number e z)

-- ---- an operation with no value that announces one event
pub record Announced (e : EventFields) (d : Done) (events : List ℕ) : Type 0 where
  pub nothing : biased d.value ≡ bias
  pub one : d.events ≡ 1
  pub written : events ≡ event_buffer (e ∷ [])

-- its outcome, of a number, an event and an image
abbrev pub announces : ℕ → EventFields → List ℕ → Outcome
announces n e m = record { number = n; value = 0; events = e ∷ []; image = m }

pub announced : {n : ℕ} {e f : EventFields} {m image events : List ℕ} {d : Done} → n ≡ 0 → f ≡ e → Announced f d events → image ≡ m → Does (announces n e m) (Ok d) image events
announced z p d i =
    accepted z (d.nothing ∙ sym (add-zero bias)) d.one i (d.written ∙ ap (λ (x : EventFields). event_buffer (x ∷ [])) p)

pub blank_long : {e : List ℕ} → e ≡ event_buffer [] → length e ≡ 896
blank_long p = ap length p ∙ length-event_buffer [] (omega arith)

-- ---- a view: it leaves the image and announces nothing
abbrev pub views : ℕ → ℕ → List ℕ → Outcome
views n v l = record { number = n; value = v; events = []; image = l }

-- what the function of a view owes
pub record Views (o : Outcome) (a : Answer) : Type 0 where
  pub numbered : code a ≡ o.number
  pub valued : IfOk a (λ d. biased d.value ≡ bias + o.value)
  pub counted : IfOk a (λ d. d.events ≡ 0)

module _ {o : Outcome} where
  pub view_refused : (e : Refusal) {a : Answer} → Refuses a e → number_of e ≡ o.number → Views o a
  view_refused e {a} r f = record { numbered = code_passed e a r ∙ f; valued = IfOk-from_err a _ r.0; counted = IfOk-from_err a _ r.0 }

  pub view_accepted : {v : ℕ} {d : Done} → o.number ≡ 0 → (biased d.value ≡ v) × (d.events ≡ 0) → v ≡ bias + o.value → Views o (Ok d)
  view_accepted z d e = record { numbered = sym z; valued = d.0 ∙ e; counted = d.1 }

-- ---- a record of operation k that 32 does not refuse
pub record Formed (k : ℕ) (r : List ℕ) : Type 0 where
  pub long : length r ≡ 448
  pub bytes : (i : ℕ) → get_or r i 0 < 256
  pub formed : form_number r ≡ 0
  pub operation : operation_of r ≡ k

pub formed_as : (k : ℕ) (r : List ℕ) → form_number r ≡ 0 → operation_of r ≡ k → Formed k r
formed_as k r z e = record { long = form_length r z; bytes = form_bytes r z; formed = z; operation = e }
