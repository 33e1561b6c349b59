-- A vault that gets any list of calls ends as a second one that gets only the kept list, with the same answers to the kept calls,
-- by the laws of one step in the record `Laws`.
use mathlib.Core.Path.{◌≡◌, refl, sym, ap, ◌∙◌, subst}
use mathlib.Core.Bool.{Bool, true, false}
use mathlib.Core.List.{List, [], ◌∷◌, ◌++◌, map, reverse, reverse-cons, map-append}
use Prim.Native.Nat.{ℕ}
use lib.Dec.{eqb}
use lib.IntN.{ℤ, pos, ◌+ℤ◌, +ℤ_assoc, +ℤ_idl, +ℤ_idr}
use borrow.Author.Tests.{eqb-true, eqb-false}
use Rattle.fields.specs.Rules.{pick}
use Rattle.journal.specs.Calls.{Call, operation, begin, commit, rollback, undo, State, Answer, Step}
use Rattle.history.specs.Kept.{Noted, note, call_of, bare, strike, strike_all, place, run, log, accepted, keep, kept_of, kept, book_one, book, total, SameAsKept}

abbrev pub ok : (State → Call → Step) → State → Call → Type 0
ok step s c = (step s c).answer.number ≡ 0

-- the laws of one step; a state in which begin is accepted is one whose journal is closed
pub record Laws (step : State → Call → Step) (view : List ℕ → Bool) (Good : State → Type 0) : Type 0 where
  pub refused : (s : State) (c : Call) → Good s → (ok step s c → ⊥) → (step s c).state ≡ s
  pub looked : (s : State) (r e : List ℕ) → Good s → ok step s (operation r e) → view r ≡ true → (step s (operation r e)).state ≡ s
  pub op_good : (s : State) (r e : List ℕ) → Good s → ok step s (operation r e) → Good (step s (operation r e)).state
  pub begin_good : (s : State) → Good s → ok step s begin → Good (step s begin).state
  pub commit_good : (s : State) → Good s → ok step s commit → Good (step s commit).state
  pub begin_image : (s : State) → Good s → ok step s begin → (step s begin).state.image ≡ s.image
  pub commit_image : (s : State) → Good s → ok step s commit → (step s commit).state.image ≡ s.image
  pub commit_closes : (s : State) → Good s → ok step s commit → ok step (step s commit).state begin
  pub closed_undo : (s : State) → Good s → ok step s begin → ok step s undo → ⊥
  pub closed_roll : (s : State) → Good s → ok step s begin → ok step s rollback → ⊥
  pub begun_undo : (s : State) → Good s → ok step s begin → ok step (step s begin).state undo → ⊥
  pub begun_roll : (s : State) → Good s → ok step s begin → (step (step s begin).state rollback).state ≡ s
  pub undone : (s : State) (r e : List ℕ) → Good s → ok step s (operation r e) → view r ≡ false
      → ok step (step s (operation r e)).state undo → (step (step s (operation r e)).state undo).state ≡ s
  pub rolled : (s : State) (r e : List ℕ) → Good s → ok step s (operation r e) → view r ≡ false
      → ok step (step s (operation r e)).state rollback → step (step s (operation r e)).state rollback ≡ step s rollback

-- the second vault's state after the kept calls, of which the newest stands first
abbrev after : (State → Call → Step) → State → {T : Type 0} → List (Noted T) → State
after step s [] = s
after step s (note c t ∷ ks) = (step (after step s ks) c).state

run-append : (step : State → Call → Step) (s : State) (cs ds : List Call) → run step s (cs ++ ds) ≡ run step (run step s cs) ds
run-append step s [] ds = refl
run-append step s (c ∷ cs) ds = run-append step (step s c).state cs ds

log-append : (step : State → Call → Step) (s : State) (cs ds : List Call) → log step s (cs ++ ds) ≡ log step s cs ++ log step (run step s cs) ds
log-append step s [] ds = refl
log-append step s (c ∷ cs) ds = ap (λ l. note c (step s c).answer ∷ l) (log-append step (step s c).state cs ds)

after_run : (step : State → Call → Step) (s : State) {T : Type 0} (ks : List (Noted T)) → run step s (map call_of (reverse ks)) ≡ after step s ks
after_run step s [] = refl
after_run step s (note c t ∷ ks) =
    rw (reverse-cons, map-append, run-append, after_run step s ks)

more : (step : State → Call → Step) (s : State) (ks : List (Noted Answer)) (c : Call) (t : Answer) → t ≡ (step (after step s ks) c).answer
    → log step s (map call_of (reverse ks)) ≡ reverse ks → log step s (map call_of (reverse (note c t ∷ ks))) ≡ reverse (note c t ∷ ks)
more step s ks c t n h =
    rw (reverse-cons, map-append, log-append, after_run step s ks, h, n)

-- what the kept list is like: each call was accepted where it stands and was answered as noted, none is a view or an undo, and a rollback follows its begin
data Accepted (step : State → Call → Step) (view : List ℕ → Bool) (s : State) : List (Noted Answer) → Type 0 where
  none : Accepted step view s []
  operated : {ks : List (Noted Answer)} (r e : List ℕ) (t : Answer) → Accepted step view s ks → ok step (after step s ks) (operation r e) → view r ≡ false
      → t ≡ (step (after step s ks) (operation r e)).answer → Accepted step view s (note (operation r e) t ∷ ks)
  begun : {ks : List (Noted Answer)} (t : Answer) → Accepted step view s ks → ok step (after step s ks) begin
      → t ≡ (step (after step s ks) begin).answer → Accepted step view s (note begin t ∷ ks)
  committed : {ks : List (Noted Answer)} (t : Answer) → Accepted step view s ks → ok step (after step s ks) commit
      → t ≡ (step (after step s ks) commit).answer → Accepted step view s (note commit t ∷ ks)
  rolled_back : {ks : List (Noted Answer)} (b t : Answer) → Accepted step view s ks → ok step (after step s ks) begin
      → b ≡ (step (after step s ks) begin).answer
      → ok step (step (after step s ks) begin).state rollback
      → t ≡ (step (step (after step s ks) begin).state rollback).answer → Accepted step view s (note rollback t ∷ note begin b ∷ ks)

module _ (step : State → Call → Step) (view : List ℕ → Bool) (Good : State → Type 0) (L : Laws step view Good)
    (s : State) (start : Good s) (closed : ok step s begin) where
  good : {ks : List (Noted Answer)} → Accepted step view s ks → Good (after step s ks)
  good none = start
  good (operated r e t k a v n) = L.op_good _ r e (good k) a
  good (begun t k a n) = L.begin_good _ (good k) a
  good (committed t k a n) = L.commit_good _ (good k) a
  good (rolled_back b t k a m c n) = subst Good (sym (L.begun_roll _ (good k) a)) (good k)

  undo_struck : {ks : List (Noted Answer)} → Accepted step view s ks → ok step (after step s ks) undo
      → Accepted step view s (strike ks) × ((step (after step s ks) undo).state ≡ after step s (strike ks))
  undo_struck none u = absurd (L.closed_undo s start closed u)
  undo_struck (operated r e t k a v n) u = (k, L.undone _ r e (good k) a v u)
  undo_struck (begun t k a n) u = absurd (L.begun_undo _ (good k) a u)
  undo_struck (committed t k a n) u = absurd (L.closed_undo _ (L.commit_good _ (good k) a) (L.commit_closes _ (good k) a) u)
  undo_struck (rolled_back b t k a m c n) u = absurd (L.closed_undo _ (good k) a (rw (L.begun_roll _ (good k) a) at u))

  roll_struck : {ks : List (Noted Answer)} (t : Answer) → Accepted step view s ks → ok step (after step s ks) rollback
      → t ≡ (step (after step s ks) rollback).answer
      → Accepted step view s (note rollback t ∷ strike_all ks) × ((step (after step s ks) rollback).state ≡ (step (after step s (strike_all ks)) rollback).state)
  roll_struck t none u n = absurd (L.closed_roll s start closed u)
  roll_struck t (operated r e a k o v m) u n =
      let same = L.rolled _ r e (good k) o v u in
      let rest = roll_struck t k (rw same at u) (rw same at n) in
      (rest.0, ap (λ x. x.state) same ∙ rest.1)
  roll_struck t (begun b k a m) u n = (rolled_back b t k a m u n, refl)
  roll_struck t (committed b k a m) u n = absurd (L.closed_roll _ (L.commit_good _ (good k) a) (L.commit_closes _ (good k) a) u)
  roll_struck t (rolled_back b c k a m d o) u n = absurd (L.closed_roll _ (good k) a (rw (L.begun_roll _ (good k) a) at u))

  -- one call: the first vault stands where the second stands after the kept list, and so it does after the call
  abbrev Goes : List (Noted Answer) → State → Type 0
  Goes ks x = Accepted step view s ks × (x ≡ after step s ks)

  placed : (c : Call) (ks : List (Noted Answer)) → Accepted step view s ks → ok step (after step s ks) c
      → Goes (place view (note c (step (after step s ks) c).answer) ks) (step (after step s ks) c).state
  placed (operation r e) ks k a = go (view r) refl
    where
      go : (v : Bool) → view r ≡ v
          → Goes (pick v ks (note (operation r e) (step (after step s ks) (operation r e)).answer ∷ ks)) (step (after step s ks) (operation r e)).state
      go true w = (k, L.looked _ r e (good k) a w)
      go false w = (operated r e _ k a w refl, refl)
  placed begin ks k a = (begun _ k a refl, refl)
  placed commit ks k a = (committed _ k a refl, refl)
  placed rollback ks k a = roll_struck _ k a refl
  placed undo ks k a = undo_struck k a

  one : (c : Call) (ks : List (Noted Answer)) → Accepted step view s ks
      → Goes (pick (accepted step s (map call_of (reverse ks)) c) (place view (note c (step (after step s ks) c).answer) ks) ks)
      (step (after step s ks) c).state
  one c ks k = rw (after_run step s ks) (go (eqb (step (after step s ks) c).answer.number 0) refl)
    where
      go : (b : Bool) → eqb (step (after step s ks) c).answer.number 0 ≡ b
          → Goes (pick b (place view (note c (step (after step s ks) c).answer) ks) ks) (step (after step s ks) c).state
      go true w = placed c ks k (eqb-true _ _ w)
      go false w = (k, L.refused _ c (good k) (eqb-false _ _ w))

  -- the whole list
  all : (cs : List Call) (ks : List (Noted Answer)) (x : State) → Goes ks x
      → Goes (keep step view s ks (log step x cs)) (run step x cs)
  all [] ks x g = g
  all (c ∷ cs) ks x g = all cs _ _ (rw g.1 (one c ks g.0))

  -- run over its kept calls, the second vault gives the answers that are noted beside them
  noted : {ks : List (Noted Answer)} → Accepted step view s ks → log step s (map call_of (reverse ks)) ≡ reverse ks
  noted none = refl
  noted (operated {ks = ks} r e t k a v n) = more step s ks (operation r e) t n (noted k)
  noted (begun {ks = ks} t k a n) = more step s ks begin t n (noted k)
  noted (committed {ks = ks} t k a n) = more step s ks commit t n (noted k)
  noted (rolled_back {ks = ks} b t k a m c n) = more step s (note begin b ∷ ks) rollback t n (more step s ks begin b m (noted k))

-- the kept list does not look at what is noted beside the calls
abbrev forget : {T : Type 0} → Noted T → Noted (Unit {0})
forget (note c t) = bare c

forget-strike : {T : Type 0} (ks : List (Noted T)) → map forget (strike ks) ≡ strike (map forget ks)
forget-strike [] = refl
forget-strike (note (operation r e) t ∷ ks) = refl
forget-strike (note begin t ∷ ks) = ap (λ l. bare begin ∷ l) (forget-strike ks)
forget-strike (note commit t ∷ ks) = ap (λ l. bare commit ∷ l) (forget-strike ks)
forget-strike (note rollback t ∷ ks) = ap (λ l. bare rollback ∷ l) (forget-strike ks)
forget-strike (note undo t ∷ ks) = ap (λ l. bare undo ∷ l) (forget-strike ks)

forget-strike_all : {T : Type 0} (ks : List (Noted T)) → map forget (strike_all ks) ≡ strike_all (map forget ks)
forget-strike_all [] = refl
forget-strike_all (note (operation r e) t ∷ ks) = forget-strike_all ks
forget-strike_all (note begin t ∷ ks) = refl
forget-strike_all (note commit t ∷ ks) = ap (λ l. bare commit ∷ l) (forget-strike_all ks)
forget-strike_all (note rollback t ∷ ks) = ap (λ l. bare rollback ∷ l) (forget-strike_all ks)
forget-strike_all (note undo t ∷ ks) = ap (λ l. bare undo ∷ l) (forget-strike_all ks)

forget-pick : {T : Type 0} (b : Bool) (xs ys : List (Noted T)) → map forget (pick b xs ys) ≡ pick b (map forget xs) (map forget ys)
forget-pick true xs ys = refl
forget-pick false xs ys = refl

forget-place : {T : Type 0} (view : List ℕ → Bool) (x : Noted T) (ks : List (Noted T))
    → map forget (place view x ks) ≡ place view (forget x) (map forget ks)
forget-place view (note (operation r e) t) ks = forget-pick (view r) ks (note (operation r e) t ∷ ks)
forget-place view (note begin t) ks = refl
forget-place view (note commit t) ks = refl
forget-place view (note rollback t) ks = ap (λ l. bare rollback ∷ l) (forget-strike_all ks)
forget-place view (note undo t) ks = forget-strike ks

forget_calls : {T : Type 0} (ks : List (Noted T)) → map call_of (reverse (map forget ks)) ≡ map call_of (reverse ks)
forget_calls [] = refl
forget_calls (note c t ∷ ks) = simp (reverse-cons, map-append) (ap (λ l. l ++ (c ∷ [])) (forget_calls ks))

forget-call_of : {T : Type 0} (x : Noted T) → call_of (forget x) ≡ call_of x
forget-call_of (note c t) = refl

forget-keep : (step : State → Call → Step) (view : List ℕ → Bool) (s : State) {T : Type 0} (xs ks : List (Noted T))
    → map forget (keep step view s ks xs) ≡ keep step view s (map forget ks) (map forget xs)
forget-keep step view s [] ks = refl
forget-keep step view s (x ∷ xs) ks =
    forget-keep step view s xs _
    ∙ ap (λ l. keep step view s l (map forget xs))
    (forget-pick (accepted step s (map call_of (reverse ks)) (call_of x)) (place view x ks) ks
    ∙ rw (forget-place view x ks, forget_calls ks, forget-call_of x))

forget-log : (step : State → Call → Step) (s : State) (cs : List Call) → map forget (log step s cs) ≡ map bare cs
forget-log step s [] = refl
forget-log step s (c ∷ cs) = ap (λ l. bare c ∷ l) (forget-log step (step s c).state cs)

-- the calls of the kept part of a log are the kept list of the calls
kept_calls : (step : State → Call → Step) (view : List ℕ → Bool) (s x : State) (cs : List Call)
    → map call_of (kept_of step view s (log step x cs)) ≡ kept step view s cs
kept_calls step view s x cs =
    sym (forget_calls (keep step view s [] (log step x cs)))
    ∙ ap (λ l. map call_of (reverse l)) (forget-keep step view s (log step x cs) [] ∙ ap (λ l. keep step view s [] l) (forget-log step x cs))

-- what the book asks of one step: an operation moves the holdings as its entry does
pub record BookLaws (step : State → Call → Step) (view : List ℕ → Bool) (Good : State → Type 0) {B : Type 0} (enter : B → List ℕ → Answer → B)
    (Match : B → List ℕ → Type 0) : Type 0 where
  pub entered : (b : B) (s : State) (r e : List ℕ) → Good s → ok step s (operation r e) → view r ≡ false → Match b s.image
      → Match (enter b r (step s (operation r e)).answer) (step s (operation r e)).state.image

book-append : {B : Type 0} (enter : B → List ℕ → Answer → B) (b : B) (xs ys : List (Noted Answer)) → book enter b (xs ++ ys) ≡ book enter (book enter b xs) ys
book-append enter b [] ys = refl
book-append enter b (x ∷ xs) ys = book-append enter (book_one enter b x) xs ys

module _ (step : State → Call → Step) (view : List ℕ → Bool) (Good : State → Type 0) (L : Laws step view Good)
    {B : Type 0} (enter : B → List ℕ → Answer → B) (Match : B → List ℕ → Type 0) (K : BookLaws step view Good enter Match)
    (s : State) (start : Good s) (closed : ok step s begin) (b : B) (open-book : Match b s.image) where
  booked : {ks : List (Noted Answer)} → Accepted step view s ks → Match (book enter b (reverse ks)) (after step s ks).image
  booked none = open-book
  booked (operated {ks = ks} r e t k a v n) =
      rw (reverse-cons (note (operation r e) t) ks, book-append, n)
      (K.entered _ _ r e (good step view Good L s start closed k) a v (booked k))
  booked (begun {ks = ks} t k a n) =
      rw (reverse-cons (note begin t) ks, book-append, L.begin_image _ (good step view Good L s start closed k) a) (booked k)
  booked (committed {ks = ks} t k a n) =
      rw (reverse-cons (note commit t) ks, book-append, L.commit_image _ (good step view Good L s start closed k) a) (booked k)
  booked (rolled_back {ks = ks} c t k a m o n) =
      rw (reverse-cons (note rollback t) (note begin c ∷ ks), reverse-cons (note begin c) ks, book-append (enter), book-append (enter), L.begun_roll _ (good step view Good L s start closed k) a)
      (booked k)

  pub whole : (cs : List Call) → SameAsKept step view Good enter Match s b cs
  whole cs = record { same = same; good = subst Good (sym done.1) (good step view Good L s start closed done.0); calls = calls; answers = answers; later = λ ds. ap (λ x. log step x ds) same; holds = rw (← answers, done.1) (booked done.0) }
    where
      done : Goes step view Good L s start closed (keep step view s [] (log step s cs)) (run step s cs)
      done = all step view Good L s start closed cs [] s (none, refl)

      calls : map call_of (kept_of step view s (log step s cs)) ≡ kept step view s cs
      calls = kept_calls step view s s cs

      same : run step s cs ≡ run step s (kept step view s cs)
      same = done.1 ∙ sym (after_run step s (keep step view s [] (log step s cs))) ∙ ap (run step s) calls

      answers : kept_of step view s (log step s cs) ≡ log step s (kept step view s cs)
      answers = sym (noted step view Good L s start closed done.0) ∙ ap (log step s) calls

-- what a measure of the image asks of one step: an operation adds to it as f says
pub record SumLaws (step : State → Call → Step) (view : List ℕ → Bool) (Good : State → Type 0) (h : List ℕ → ℤ) (f : List ℕ → List ℕ → Answer → ℤ) : Type 0 where
  pub entered : (s : State) (r e : List ℕ) → Good s → ok step s (operation r e) → view r ≡ false
      → h (step s (operation r e)).state.image ≡ h s.image +ℤ f s.image r (step s (operation r e)).answer

total-append : (step : State → Call → Step) (f : List ℕ → List ℕ → Answer → ℤ) (s : State) (cs ds : List Call)
    → total step f s (cs ++ ds) ≡ total step f s cs +ℤ total step f (run step s cs) ds
total-append step f s [] ds = sym (+ℤ_idl (total step f s ds))
total-append step f s (operation r e ∷ cs) ds =
    let x = step s (operation r e) in
    let a = f s.image r x.answer in
    ap (λ (z : ℤ). a +ℤ z) (total-append step f x.state cs ds) ∙ sym (+ℤ_assoc a (total step f x.state cs) (total step f (run step x.state cs) ds))
total-append step f s (begin ∷ cs) ds = total-append step f (step s begin).state cs ds
total-append step f s (commit ∷ cs) ds = total-append step f (step s commit).state cs ds
total-append step f s (rollback ∷ cs) ds = total-append step f (step s rollback).state cs ds
total-append step f s (undo ∷ cs) ds = total-append step f (step s undo).state cs ds

module _ (step : State → Call → Step) (view : List ℕ → Bool) (Good : State → Type 0) (L : Laws step view Good)
    (h : List ℕ → ℤ) (f : List ℕ → List ℕ → Answer → ℤ) (K : SumLaws step view Good h f)
    (s : State) (start : Good s) (closed : ok step s begin) where
  -- one more call at the end of the kept list
  one_more : (ks : List (Noted Answer)) (c : Call) (t : Answer)
      → total step f s (map call_of (reverse (note c t ∷ ks))) ≡ total step f s (map call_of (reverse ks)) +ℤ total step f (after step s ks) (c ∷ [])
  one_more ks c t = rw (reverse-cons (note c t) ks, map-append, total-append, after_run step s ks)

  -- one that adds nothing
  none_more : (ks : List (Noted Answer)) (c : Call) (t : Answer) → total step f (after step s ks) (c ∷ []) ≡ pos 0
      → total step f s (map call_of (reverse (note c t ∷ ks))) ≡ total step f s (map call_of (reverse ks))
  none_more ks c t z =
      let rest = total step f s (map call_of (reverse ks)) in
      one_more ks c t ∙ ap (λ (k : ℤ). rest +ℤ k) z ∙ +ℤ_idr rest

  measured : {ks : List (Noted Answer)} → Accepted step view s ks → h (after step s ks).image ≡ h s.image +ℤ total step f s (map call_of (reverse ks))
  measured none = sym (+ℤ_idr (h s.image))
  measured (operated {ks = ks} r e t k a v n) =
      let x = after step s ks in
      let d = f x.image r (step x (operation r e)).answer in
      let rest = total step f s (map call_of (reverse ks)) in
      K.entered x r e (good step view Good L s start closed k) a v ∙ ap (λ (z : ℤ). z +ℤ d) (measured k)
      ∙ +ℤ_assoc (h s.image) rest d ∙ ap (λ (z : ℤ). h s.image +ℤ z) (ap (λ (z : ℤ). rest +ℤ z) (sym (+ℤ_idr d)) ∙ sym (one_more ks (operation r e) t))
  measured (begun {ks = ks} t k a n) =
      ap h (L.begin_image _ (good step view Good L s start closed k) a) ∙ measured k ∙ ap (λ (z : ℤ). h s.image +ℤ z) (sym (none_more ks begin t refl))
  measured (committed {ks = ks} t k a n) =
      ap h (L.commit_image _ (good step view Good L s start closed k) a) ∙ measured k ∙ ap (λ (z : ℤ). h s.image +ℤ z) (sym (none_more ks commit t refl))
  measured (rolled_back {ks = ks} b t k a m c n) =
      ap (λ (x : State). h x.image) (L.begun_roll _ (good step view Good L s start closed k) a) ∙ measured k
      ∙ ap (λ (z : ℤ). h s.image +ℤ z) (sym (none_more (note begin b ∷ ks) rollback t refl ∙ none_more ks begin b refl))

  -- the measure of the image after any list of calls: that of the opening image, and what the kept operations add
  pub sums : (cs : List Call) → h (run step s cs).image ≡ h s.image +ℤ total step f s (kept step view s cs)
  sums cs =
      let done = all step view Good L s start closed cs [] s (none, refl) in
      ap (λ (x : State). h x.image) done.1 ∙ measured done.0 ∙ ap (λ (l : List Call). h s.image +ℤ total step f s l) (kept_calls step view s s cs)
