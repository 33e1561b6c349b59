-- Demand 3, for any operations that keep an image good and move image and book alike; and sums over the kept operations.
use mathlib.Core.Path.{◌≡◌, refl, ap}
use mathlib.Core.Bool.{Bool, true, false}
use mathlib.Core.List.{List}
use Prim.Native.Nat.{ℕ}
use lib.IntN.{ℤ, ◌+ℤ◌}
use lib.ListN.{length}
use Rattle.journal.specs.Calls.{Call, operation, begin, State, Answer, Step, Done}
use Rattle.journal.specs.Journal.{Contents, contents_of, good_journal}
use Rattle.journal.specs.Step.{step, Opening}
use Rattle.journal.proofs.States.{closed, zeros_good, zeros_contents}
use Rattle.journal.proofs.Dispatch.{step_30, step_31}
use Rattle.history.specs.Kept.{run, kept, total, SameAsKept}
use Rattle.history.specs.Owed.{GoodState, OpLaws, BookOps, SumOps}
use Rattle.history.proofs.Kept.{ok, whole, sums}
use Rattle.history.proofs.Steps.{no_zero, laws, Did, outside, inside, does, closed_begin}

module _ (cells : ℕ) (good_image : List ℕ → Bool) (op : List ℕ → List ℕ → List ℕ → Done) (view : List ℕ → Bool) (H : OpLaws cells good_image op) where
  -- an accepted call met a good image and a good journal
  pub accepted_good : (s : State) (c : Call) → ok (step cells good_image op view) s c → GoodState cells good_image s
  accepted_good s c z = go (good_image s.image) refl (good_journal cells s.journal) refl
    where
      go : (a : Bool) → good_image s.image ≡ a → (b : Bool) → good_journal cells s.journal ≡ b → GoodState cells good_image s
      go true ea true eb = (ea, eb)
      go true ea false eb = no_zero (rw (step_31 cells good_image op view s c ea eb) at z)
      go false ea b eb = no_zero (rw (step_30 cells good_image op view s c ea) at z)

  -- what holds of an accepted operation's answer and image holds of the step's
  pub of_step : (P : Answer → List ℕ → Type 0) (s : State) (r e : List ℕ) → GoodState cells good_image s → ok (step cells good_image op view) s (operation r e) → view r ≡ false
      → ((op s.image r e).answer.number ≡ 0 → P (op s.image r e).answer (op s.image r e).image)
      → P (step cells good_image op view s (operation r e)).answer (step cells good_image op view s (operation r e)).state.image
  of_step P s r e g o v p = go (does cells good_image op view H s r e g o v)
    where
      go : {x : Step} → Did cells s (op s.image r e) x → P x.answer x.state.image
      go (outside c z x) = rw x (p z)
      go (inside c z f x) = rw x (p z)

  module _ (s : State) (o : Opening good_image s) where
    start : GoodState cells good_image s
    start = (o.image_good, rw o.all_zero (zeros_good (length s.journal) o.length_fits cells))

    contents : contents_of s.journal ≡ closed
    contents = rw o.all_zero (zeros_contents (length s.journal) o.length_fits)

    shut : ok (step cells good_image op view) s begin
    shut = closed_begin cells good_image op view H s start (ap (λ (p : Contents). p.opened) contents)

    pub same_as_kept : {B : Type 0} (enter : B → List ℕ → Answer → B) (Match : B → List ℕ → Type 0) → BookOps good_image op view enter Match → (b : B) → Match b s.image → (cs : List Call)
        → SameAsKept (step cells good_image op view) view (GoodState cells good_image) enter Match s b cs
    same_as_kept enter Match K b m cs =
        whole (step cells good_image op view) view (GoodState cells good_image) (laws cells good_image op view H) enter Match
        (record { entered = λ b s r e g o v m. of_step (λ a x. Match (enter b r a) x) s r e g o v (λ z. K.moved b s.image r e g.0 z v m) }) s start shut b m cs

    pub sums_kept : (h : List ℕ → ℤ) (f : List ℕ → List ℕ → Answer → ℤ) → SumOps good_image op view h f → (cs : List Call)
        → h (run (step cells good_image op view) s cs).image ≡ h s.image +ℤ total (step cells good_image op view) f s (kept (step cells good_image op view) view s cs)
    sums_kept h f K cs =
        sums (step cells good_image op view) view (GoodState cells good_image) (laws cells good_image op view H) h f
        (record { entered = λ s r e g o v. of_step (λ a x. h x ≡ h s.image +ℤ f s.image r a) s r e g o v (λ z. K.added s.image r e g.0 z v) }) s start shut cs
