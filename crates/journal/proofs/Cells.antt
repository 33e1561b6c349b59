-- The changed cells of an image put the old image back, are entries in order, and are found again as those of the last call.
use mathlib.Core.Path.{◌≡◌, refl, sym, ap, ◌∙◌}
use mathlib.Core.Logic.{◌⊎◌, inl, inr}
use mathlib.Core.Bool.{Bool, true, false}
use mathlib.Core.List.{List, [], ◌∷◌, ◌++◌, append_assoc}
use Prim.Native.Nat.{ℕ, zero, suc, ◌+◌, ◌*◌, ◌≤◌, ◌<◌}
use native.Mathlib.Omega.{arith}
use lib.Dec.{eqb}
use lib.ListN.{length, take, drop, length-append, length-take, length-drop, take-append-drop}
use lib.Seq.{take_at, drop_at}
use borrow.Author.Tests.{eq-eqb, ne_eqb}
use Rattle.fields.specs.Rules.{pick}
use Rattle.fields.specs.Same.{same_bytes_of, same_is}
use Rattle.journal.specs.Journal.{Entry, ordered, changed, put_back, restore, of_call, except_call}
use Rattle.journal.proofs.Written.{order_out, order_in}

pub restore-append : (es fs : List Entry) (image : List ℕ) → restore (es ++ fs) image ≡ restore es (restore fs image)
unfolding restore
restore-append [] fs image = refl
restore-append (e ∷ es) fs image = ap (λ x. put_back x e) (restore-append es fs image)

none_left : (a : List ℕ) → length a ≡ 0 → a ≡ []
none_left [] h = refl
none_left (x ∷ xs) h = absurd (let z : suc (length xs) ≡ 0 = h in omega arith)

put-at : (p b t old : List ℕ) (i call : ℕ) → length p ≡ 16 * i → length b ≡ 16
    → put_back ((p ++ b) ++ t) (record { cell = i; call = call; old = old }) ≡ p ++ (old ++ t)
unfolding put_back
put-at p b t old i call hp hb =
    let front : take (16 * i) ((p ++ b) ++ t) ≡ p = rw append_assoc (take_at p (b ++ t) (16 * i) hp) in
    let back : drop (16 * suc i) ((p ++ b) ++ t) ≡ t = drop_at (p ++ b) t (16 * suc i) (simp length-append (omega arith)) in
    rw (front, back)

put_step : (call n i : ℕ) (p a b : List ℕ) → length p ≡ 16 * i → length b ≡ 16 * suc n
    → restore (changed call n (suc i) (drop 16 a) (drop 16 b)) ((p ++ take 16 b) ++ drop 16 b) ≡ (p ++ take 16 b) ++ drop 16 a
    → restore (changed call (suc n) i a b) (p ++ b) ≡ p ++ a
unfolding changed restore
put_step call n i p a b hp hb ih = go (same_bytes_of (take 16 a) (take 16 b)) refl
  where
    whole : take 16 a ++ drop 16 a ≡ a
    whole = take-append-drop 16 a

    first : Entry
    first = record { cell = i; call = call; old = take 16 a }

    rest : restore (changed call n (suc i) (drop 16 a) (drop 16 b)) (p ++ b) ≡ (p ++ take 16 b) ++ drop 16 a
    rest = ap (restore (changed call n (suc i) (drop 16 a) (drop 16 b))) (sym (append_assoc p (take 16 b) (drop 16 b) ∙ rw (take-append-drop 16 b))) ∙ ih

    go : (t : Bool) → same_bytes_of (take 16 a) (take 16 b) ≡ t
        → restore (pick t (changed call n (suc i) (drop 16 a) (drop 16 b)) (first ∷ changed call n (suc i) (drop 16 a) (drop 16 b))) (p ++ b) ≡ p ++ a
    go true w = rest ∙ append_assoc p (take 16 b) (drop 16 a) ∙ rw (← same_is (take 16 a) (take 16 b) w, whole)
    go false w =
        ap (λ x. put_back x first) rest
        ∙ put-at p (take 16 b) (drop 16 a) (take 16 a) i call hp (simp length-take (omega arith)) ∙ rw whole

-- the changed cells of image b behind p, put back, give image a behind p
pub put_back_lem : (call n i : ℕ) (p a b : List ℕ) → length p ≡ 16 * i → length a ≡ 16 * n → length b ≡ 16 * n
    → restore (changed call n i a b) (p ++ b) ≡ p ++ a
unfolding changed restore
put_back_lem call zero i p a b hp ha hb = rw (none_left a ha, none_left b hb)
put_back_lem call (suc n) i p a b hp ha hb =
    put_step call n i p a b hp hb
    (put_back_lem call n (suc i) (p ++ take 16 b) (drop 16 a) (drop 16 b)
    (simp (length-append, length-take) (omega arith)) (simp length-drop (omega arith)) (simp length-drop (omega arith)))

-- they are in order behind any entry of an earlier call
pub changed_order : (cells call n i last next : ℕ) (a b : List ℕ) → 1 ≤ call → last ≤ call → (last < call) ⊎ (next ≤ i) → i + n ≤ cells
    → 16 * n ≤ length a → ordered cells call last next (changed call n i a b) ≡ true
unfolding changed ordered
changed_order cells call zero i last next a b f l o h ha = refl
changed_order cells call (suc n) i last next a b f l o h ha =
    go (same_bytes_of (take 16 a) (take 16 b))
    (changed_order cells call n (suc i) last next (drop 16 a) (drop 16 b) f l (later o) (omega arith) (simp length-drop (omega arith)))
    (changed_order cells call n (suc i) call (suc i) (drop 16 a) (drop 16 b) f (omega arith) (inr (omega arith)) (omega arith) (simp length-drop (omega arith)))
  where
    later : (last < call) ⊎ (next ≤ i) → (last < call) ⊎ (next ≤ suc i)
    later (inl p) = inl p
    later (inr p) = inr (omega arith)

    first : Entry
    first = record { cell = i; call = call; old = take 16 a }

    go : (t : Bool) → ordered cells call last next (changed call n (suc i) (drop 16 a) (drop 16 b)) ≡ true
        → ordered cells call call (suc i) (changed call n (suc i) (drop 16 a) (drop 16 b)) ≡ true
        → ordered cells call last next
        (pick t (changed call n (suc i) (drop 16 a) (drop 16 b)) (first ∷ changed call n (suc i) (drop 16 a) (drop 16 b))) ≡ true
    go true x y = x
    go false x y =
        order_in cells call last next first (changed call n (suc i) (drop 16 a) (drop 16 b))
        (record { first = f; most = omega arith; rising = l; below = omega arith; ascending = o; sixteen = simp length-take (omega arith) }) y

-- entries of one more call go behind those that are there
pub append_order : (cells calls last next : ℕ) (es fs : List Entry) → ordered cells calls last next es ≡ true → last ≤ calls
    → ((last' next' : ℕ) → last' ≤ calls → ordered cells (suc calls) last' next' fs ≡ true)
    → ordered cells (suc calls) last next (es ++ fs) ≡ true
append_order cells calls last next [] fs h hp f = f last next hp
append_order cells calls last next (e ∷ es) fs h hp f =
    let o = order_out cells calls last next e es h in
    let m = o.0.most in
    order_in cells (suc calls) last next e (es ++ fs)
    (record { first = o.0.first; most = omega arith; rising = o.0.rising; below = o.0.below; ascending = o.0.ascending; sixteen = o.0.sixteen })
    (append_order cells calls e.call (suc e.cell) es fs o.1 m f)

pub of_call-append : (n : ℕ) (es fs : List Entry) → of_call n (es ++ fs) ≡ of_call n es ++ of_call n fs
unfolding of_call
of_call-append n [] fs = refl
of_call-append n (e ∷ es) fs = go (eqb e.call n) (of_call-append n es fs)
  where
    go : (t : Bool) → of_call n (es ++ fs) ≡ of_call n es ++ of_call n fs
        → pick t (e ∷ of_call n (es ++ fs)) (of_call n (es ++ fs)) ≡ pick t (e ∷ of_call n es) (of_call n es) ++ of_call n fs
    go true h = ap (λ l. e ∷ l) h
    go false h = h

pub except_call-append : (n : ℕ) (es fs : List Entry) → except_call n (es ++ fs) ≡ except_call n es ++ except_call n fs
unfolding except_call
except_call-append n [] fs = refl
except_call-append n (e ∷ es) fs = go (eqb e.call n) (except_call-append n es fs)
  where
    go : (t : Bool) → except_call n (es ++ fs) ≡ except_call n es ++ except_call n fs
        → pick t (except_call n (es ++ fs)) (e ∷ except_call n (es ++ fs)) ≡ pick t (except_call n es) (e ∷ except_call n es) ++ except_call n fs
    go true h = h
    go false h = ap (λ l. e ∷ l) h

-- earlier entries are none of the next call's
pub older_none : (cells calls last next : ℕ) (es : List Entry) → ordered cells calls last next es ≡ true
    → (of_call (suc calls) es ≡ []) × (except_call (suc calls) es ≡ es)
unfolding of_call except_call
older_none cells calls last next [] h = (refl, refl)
older_none cells calls last next (e ∷ es) h =
    let o = order_out cells calls last next e es h in
    let m = o.0.most in
    let r = older_none cells calls e.call (suc e.cell) es o.1 in
    let w : eqb e.call (suc calls) ≡ false = ne_eqb e.call (suc calls) (λ q. omega arith) in
    (rw w r.0, rw w (ap (λ l. e ∷ l) r.1))

-- the changed cells are all of their call
pub newest_all : (call n i : ℕ) (a b : List ℕ) → (of_call call (changed call n i a b) ≡ changed call n i a b) × (except_call call (changed call n i a b) ≡ [])
unfolding of_call except_call changed
newest_all call zero i a b = (refl, refl)
newest_all call (suc n) i a b = go (same_bytes_of (take 16 a) (take 16 b)) (newest_all call n (suc i) (drop 16 a) (drop 16 b))
  where
    rest : List Entry
    rest = changed call n (suc i) (drop 16 a) (drop 16 b)

    first : Entry
    first = record { cell = i; call = call; old = take 16 a }

    w : eqb call call ≡ true
    w = eq-eqb call call refl

    go : (t : Bool) → (of_call call rest ≡ rest) × (except_call call rest ≡ [])
        → (of_call call (pick t rest (first ∷ rest)) ≡ pick t rest (first ∷ rest)) × (except_call call (pick t rest (first ∷ rest)) ≡ [])
    go true h = h
    go false h = (rw w (ap (λ l. first ∷ l) h.0), rw w h.1)
