-- The entries of a good journal as they are read from its bytes, and the two walks over them from the last one on.
use mathlib.Core.Path.{◌≡◌, refl, sym, ap, ◌∙◌, subst}
use mathlib.Core.Bool.{true}
use mathlib.Core.List.{List, [], ◌∷◌, ◌++◌, append-nil, reverse}
use Prim.Native.Nat.{ℕ, zero, suc, ◌+◌, ◌*◌, ◌-◌, ◌/◌, ◌≤◌, ◌<◌}
use native.Mathlib.Omega.{arith}
use lib.Dec.{eqb}
use lib.ListN.{length, get_or, take, drop, take-append-drop, length-take, length-drop}
use lib.Seq.{take-suc, drop-cons, drop-drop, drop-length}
use borrow.Author.Tests.{eq-eqb}
use denote.Param.Members.{Mut}
use Rattle.std.specs.Prelude.{Option, None, Some, Bool, false}
use Rattle.std.specs.Fn.{Called}
use Rattle.std.specs.Iterator.{YieldsThen, FindsPositionBack}
use Rattle.std.specs.List.{FoldsTo, AllWithin, HoldsAt}
use Rattle.std.specs.Option.{MatchOption, IsSomeAnd}
use Rattle.std.specs.Slice.Iter.{iter_rest, iter_steps_back}
use Rattle.std.proofs.Common.{Iter}
use Rattle.std.proofs.lemmas.Iterator.{YieldsList, IsFirst-from_position}
use Rattle.std.proofs.lemmas.Iterator.Consumers.{YieldsList-from_shown}
use Rattle.std.proofs.lemmas.List.{reverse-append, length-reverse, get_or-reverse}
use Rattle.fields.specs.Chunks.{le_part}
use Rattle.journal.proofs.Chunks.{entries_of, entry_of}
use Rattle.fields.specs.Bytes.{le, le-drop}
use Rattle.journal.specs.Journal.{Entry, read_entry, read_entries, contents_of, ordered, good_journal, put_back, restore, of_call, except_call}
use Rattle.journal.specs.Parts.{Earlier}
use Rattle.journal.proofs.Written.{order_out, order_in, length_read, good_order, good_room}
use Rattle.journal.proofs.Cells.{of_call-append, except_call-append, older_none}

abbrev pub none : Entry
none = record { cell = 0; call = 0; old = [] }

-- ---- parts of entries in order
pub order_front : (cells calls last next : ℕ) (es fs : List Entry) → ordered cells calls last next (es ++ fs) ≡ true → ordered cells calls last next es ≡ true
unfolding ordered
order_front cells calls last next [] fs h = refl
order_front cells calls last next (e ∷ es) fs h =
    let o = order_out cells calls last next e (es ++ fs) h in
    order_in cells calls last next e es o.0 (order_front cells calls e.call (suc e.cell) es fs o.1)

-- what is known of an entry anywhere
pub record Sane (cells calls : ℕ) (e : Entry) : Type 0 where
  pub most : e.call ≤ calls
  pub below : e.cell < cells

sane_at : (cells calls last next : ℕ) (es : List Entry) (e : Entry) (fs : List Entry) → ordered cells calls last next (es ++ e ∷ fs) ≡ true → Sane cells calls e
sane_at cells calls last next [] e fs h =
    let o = order_out cells calls last next e fs h in
    record { most = o.0.most; below = o.0.below }
sane_at cells calls last next (d ∷ es) e fs h =
    sane_at cells calls d.call (suc d.cell) es e fs (order_out cells calls last next d (es ++ e ∷ fs) h).1

-- the last entry's call bounds all
lowered : (cells calls c last next : ℕ) (fs : List Entry) (e : Entry) → ordered cells calls last next (fs ++ e ∷ []) ≡ true → e.call ≤ c
    → (ordered cells c last next (fs ++ e ∷ []) ≡ true) × (last ≤ e.call)
unfolding ordered
lowered cells calls c last next [] e h l =
    let o = order_out cells calls last next e [] h in (
      order_in cells c last next e []
          (record { first = o.0.first; most = l; rising = o.0.rising; below = o.0.below; ascending = o.0.ascending; sixteen = o.0.sixteen }) refl,
      o.0.rising,
    )
lowered cells calls c last next (f ∷ fs) e h l =
    let o = order_out cells calls last next f (fs ++ e ∷ []) h in
    let r = lowered cells calls c f.call (suc f.cell) fs e o.1 l in
    let u = o.0.rising in
    let w = r.1 in (
      order_in cells c last next f (fs ++ e ∷ [])
          (record { first = o.0.first; most = omega arith; rising = u; below = o.0.below; ascending = o.0.ascending; sixteen = o.0.sixteen }) r.0,
      omega arith,
    )

-- ---- entries in the bytes
entry_at : (n : ℕ) (b : List ℕ) (m : ℕ) → m < n → get_or (read_entries n b) m none ≡ read_entry (drop (24 * m) b)
unfolding read_entries
entry_at zero b m h = absurd (omega arith)
entry_at (suc n) b zero h = refl
entry_at (suc n) b (suc m) h =
    let e : 24 + 24 * m ≡ 24 * suc m = omega arith in
    entry_at n (drop 24 b) m (omega arith) ∙ ap read_entry (drop-drop (24 * m) 24 b ∙ ap (λ i. drop i b) e)

module _ (j : List ℕ) (k : ℕ) (h : 0 < k) (l : k ≤ length (contents_of j).entries) where
  -- entry k - 1 stands at byte 24 * k
  read_entry_lem : get_or (contents_of j).entries (k - 1) none ≡ read_entry (drop (24 * k) j)
  unfolding contents_of
  read_entry_lem =
      let n = length_read (le 2 j 4) (drop 24 j) in
      let e : 24 + 24 * (k - 1) ≡ 24 * k = omega arith in
      entry_at (le 2 j 4) (drop 24 j) (k - 1) (omega arith) ∙ ap read_entry (drop-drop (24 * (k - 1)) 24 j ∙ ap (λ i. drop i j) e)

  pub read_cell : le 2 j (24 * k) ≡ (get_or (contents_of j).entries (k - 1) none).cell
  read_cell = let z : 24 * k + 0 ≡ 24 * k = omega arith in sym (ap (λ (e : Entry). e.cell) read_entry_lem ∙ le-drop 2 j (24 * k) 0 ∙ ap (le 2 j) z)

  pub read_call : le 2 j (24 * k + 2) ≡ (get_or (contents_of j).entries (k - 1) none).call
  read_call = sym (ap (λ (e : Entry). e.call) read_entry_lem ∙ le-drop 2 j (24 * k) 2)

  pub read_old : take 16 (drop (24 * k + 8) j) ≡ (get_or (contents_of j).entries (k - 1) none).old
  read_old = sym (ap (λ (e : Entry). e.old) read_entry_lem ∙ ap (take 16) (drop-drop 8 (24 * k) j))

-- one more entry put back
back_one : (es : List Entry) (k : ℕ) (x : List ℕ) → 0 < k → k ≤ length es → put_back (restore (drop k es) x) (get_or es (k - 1) none) ≡ restore (drop (k - 1) es) x
unfolding restore
back_one es zero x h l = absurd (omega arith)
back_one es (suc m) x h l =
    let n : suc m - 1 ≡ m = omega arith in
    rw (n, drop-cons es m none l)

module _ (cells : ℕ) (j : List ℕ) (g : good_journal cells j ≡ true) (k : ℕ) (h : 0 < k) (l : k ≤ length (contents_of j).entries) where
  sane : Sane cells (contents_of j).calls (get_or (contents_of j).entries (k - 1) none)
  sane =
      let es = (contents_of j).entries in
      sane_at cells (contents_of j).calls 0 0 (take (k - 1) es) (get_or es (k - 1) none) (drop (suc (k - 1)) es)
      (rw (← drop-cons es (k - 1) none (omega arith), take-append-drop (k - 1) es) (good_order cells j g))

  -- the cell is one of the image's
  pub in_image : 16 * le 2 j (24 * k) + 16 ≤ 16 * cells
  in_image = let b = sane.below in let c = read_cell j k h l in omega arith

  -- a turn of the walk that puts entries back; the 16 bytes come back as a part of the image
  pub put_turn : (x₀ x ys : List ℕ) (lo : ℕ) → lo ≡ 16 * le 2 j (24 * k) → x ≡ restore (drop k (contents_of j).entries) x₀
      → ys ≡ take (24 * k + 24 - (24 * k + 8)) (drop (24 * k + 8) j)
      → take lo x ++ (ys ++ drop (lo + 16 - lo) (drop lo x)) ≡ restore (drop (k - 1) (contents_of j).entries) x₀
  unfolding put_back
  put_turn x₀ x ys lo el ex ey =
      let e = get_or (contents_of j).entries (k - 1) none in
      let s : 24 * k + 24 - (24 * k + 8) ≡ 16 = omega arith in
      let m : lo + 16 - lo ≡ 16 = omega arith in
      let a : lo ≡ 16 * e.cell = el ∙ ap (λ n. 16 * n) (read_cell j k h l) in
      let b : 16 * e.cell + 16 ≡ 16 * suc e.cell = omega arith in
      let y : ys ≡ e.old = ey ∙ rw s (read_old j k h l) in
      let one : take lo x ++ (ys ++ drop (lo + 16 - lo) (drop lo x)) ≡ put_back x e = rw (m, drop-drop 16 lo x, a, b, y) in
      one ∙ ap (λ z. put_back z e) ex ∙ back_one (contents_of j).entries k x₀ h l

-- ---- the walk that looks for the first entry of the last call: those from k on are of the call
abbrev pub Taken : (calls : ℕ) → List Entry → ℕ → Type 0
Taken calls es k = (of_call calls (drop k es) ≡ drop k es) × (except_call calls (drop k es) ≡ [])

pub none_taken : (calls : ℕ) (es : List Entry) (k : ℕ) → k ≡ length es → Taken calls es k
unfolding of_call except_call
none_taken calls es k e = rw (e, drop-length es) (refl, refl)

one_taken : (calls : ℕ) (es : List Entry) (k : ℕ) → 0 < k → k ≤ length es → (get_or es (k - 1) none).call ≡ calls → Taken calls es k → Taken calls es (k - 1)
unfolding of_call except_call
one_taken calls es zero h l e t = absurd (omega arith)
one_taken calls es (suc m) h l e t =
    let n : suc m - 1 ≡ m = omega arith in
    let w : eqb (get_or es m none).call calls ≡ true = eq-eqb _ _ (rw n at e) in
    rw (n, drop-cons es m none l, w) (ap (λ r. get_or es m none ∷ r) t.0, t.1)

stops_at : (calls : ℕ) (es : List Entry) (k : ℕ) → k ≤ length es → Taken calls es k
    → (of_call calls (take k es) ≡ []) × (except_call calls (take k es) ≡ take k es) → Earlier calls es k
stops_at calls es k l t f =
    record {
      few = l;
      last = ap (of_call calls) (sym (take-append-drop k es)) ∙ of_call-append calls (take k es) (drop k es) ∙ rw (f.0, t.0);
      earlier = ap (except_call calls) (sym (take-append-drop k es)) ∙ except_call-append calls (take k es) (drop k es) ∙ rw (f.1, t.1) (append-nil (take k es));
    }

le_of : (a c : ℕ) → a ≤ suc c → (a ≡ suc c → ⊥) → a ≤ c
le_of a c h n = omega arith

-- entries that end with one of an earlier call are all of earlier calls
earlier_all : (cells calls last next : ℕ) (fs : List Entry) (e : Entry) → ordered cells calls last next (fs ++ e ∷ []) ≡ true → (e.call ≡ calls → ⊥) → e.call ≤ calls
    → (of_call calls (fs ++ e ∷ []) ≡ []) × (except_call calls (fs ++ e ∷ []) ≡ fs ++ e ∷ [])
earlier_all cells zero last next fs e o n m = absurd (n (omega arith))
earlier_all cells (suc c) last next fs e o n m =
    older_none cells c last next (fs ++ e ∷ []) (lowered cells (suc c) c last next fs e o (le_of e.call c m n)).0

module _ (cells : ℕ) (j : List ℕ) (g : good_journal cells j ≡ true) (k : ℕ) (h : 0 < k) (l : k ≤ length (contents_of j).entries) where
  pub call_turn : le 2 j (24 * k + 2) ≡ (contents_of j).calls → Taken (contents_of j).calls (contents_of j).entries k
      → Taken (contents_of j).calls (contents_of j).entries (k - 1)
  call_turn e t = one_taken (contents_of j).calls (contents_of j).entries k h l (sym (read_call j k h l) ∙ e) t

  pub stops_other : (le 2 j (24 * k + 2) ≡ (contents_of j).calls → ⊥) → Taken (contents_of j).calls (contents_of j).entries k
      → Earlier (contents_of j).calls (contents_of j).entries k
  stops_other n t =
      let es = (contents_of j).entries in
      let s : suc (k - 1) ≡ k = omega arith in
      let cut : take k es ≡ take (k - 1) es ++ get_or es (k - 1) none ∷ [] = ap (λ i. take i es) (sym s) ∙ take-suc es (k - 1) none (omega arith) in
      let o = order_front cells (contents_of j).calls 0 0 (take k es) (drop k es) (rw (take-append-drop k es) (good_order cells j g)) in
      stops_at (contents_of j).calls es k l t
      (rw cut
      (earlier_all cells (contents_of j).calls 0 0 (take (k - 1) es) (get_or es (k - 1) none) (rw cut at o) (λ q. n (read_call j k h l ∙ q)) (sane cells j g k h l).most))

-- ---- the same by `rposition`, which asks the entries from the last on: of `all`, which are n in reverse, the last one with Yes
abbrev LastYes : (Yes No : List ℕ → Type 0) (n : ℕ) (all : List (List ℕ)) → Option ℕ → Type 0
LastYes Yes No n all r = MatchOption r (AllWithin No all 0 (length all)) (λ i. (i < n) × HoldsAt Yes all (n - 1 - i) × AllWithin No all 0 (n - 1 - i))

module _ {S A F : Type 0} {steps : S → Option A → S → Type 0} {v : A → List ℕ} {g : Mut F (A × Unit {0}) Bool} {s u : S} {f : F} {all : List (List ℕ)} (Yes No : List ℕ → Type 0) (n : ℕ)
    (list : YieldsList steps v s all) (yes : (x : A) (q : F) → Called g f (x, tt) true q → Yes (v x)) (no : (x : A) (q : F) → Called g f (x, tt) false q → (q ≡ f) × No (v x)) where
  last_at : (r : Option ℕ) (xs : List A) (j : F) (o : Option A) → YieldsThen steps s xs o u → FoldsTo (λ p x q. Called g p (x, tt) false q) f xs j
      → MatchOption o (r ≡ None) (λ x. IsSomeAnd r (λ i. i + 1 + length xs ≡ n) × ((h : F) × Called g j (x, tt) true h)) → LastYes Yes No n all r
  last_at r xs j None y c e = subst (LastYes Yes No n all) (sym e) (IsFirst-from_position u f None Yes No (xs, None, j, y, c, refl) list yes no)
  last_at None xs j (Some x) y c e = absurd e.0
  last_at (Some i) xs j (Some x) y c e =
      let k = IsFirst-from_position u f (Some (length xs)) Yes No (xs, Some x, j, y, c, (refl, e.1)) list yes no in
      let m : length xs ≡ n - 1 - i = omega (arith, e.0) in
      subst (λ q. (i < n) × HoldsAt Yes all q × AllWithin No all 0 q) m (omega (arith, e.0), k.1, k.2)

  pub last_yes : (r : Option ℕ) (m : ℕ) → m ≡ n → FindsPositionBack steps g s f m r u → LastYes Yes No n all r
  last_yes r m e d = let w = subst (λ i. FindsPositionBack steps g s f i r u) e d in last_at r w.0 w.2 w.1 w.3 w.4 w.5

pub list_back : {s : Iter (List ℕ)} (xs : List (List ℕ)) → iter_rest s ≡ xs → YieldsList iter_steps_back (λ y. y.now) s (reverse xs)
list_back {s} xs e = subst (λ k. YieldsList iter_steps_back (λ y. y.now) s (reverse k)) e
    (YieldsList-from_shown iter_steps_back (λ y. y.now) (λ u. reverse (iter_rest u)) (λ u t p. length-reverse _ ∙ p.0)
    (λ u x t p. ap reverse p ∙ reverse-append (iter_rest t) (x.now ∷ [])) s)

module _ (cells : ℕ) (j : List ℕ) (g : good_journal cells j ≡ true) (c n : ℕ) (ec : c ≡ (contents_of j).calls) (en : n ≡ length (contents_of j).entries) {ps : List (List ℕ)} (e : ps ≡ entries_of j) (long : length ps ≡ length j / 24) where
  walked_long : length (reverse (take (n + 1 - 1) (drop 1 ps))) ≡ n
  walked_long =
      let r = good_room cells j g in
      length-reverse (take (n + 1 - 1) (drop 1 ps)) ∙ length-take (n + 1 - 1) (drop 1 ps) ∙ omega (arith, length-drop 1 ps)

  -- the i-th entry's call, as the walk reads it
  call_of : (i : ℕ) → i < n → le 2 (get_or (reverse (take (n + 1 - 1) (drop 1 ps))) (n - 1 - i) []) 2 ≡ le 2 j (24 * (i + 1) + 2)
  call_of i h =
      let r = good_room cells j g in
      let es = take (n + 1 - 1) (drop 1 ps) in
      let l : length es ≡ n = length-take (n + 1 - 1) (drop 1 ps) ∙ omega (arith, length-drop 1 ps) in
      let k : length es - 1 - (n - 1 - i) ≡ i = omega arith in
      let b : get_or (reverse es) (n - 1 - i) [] ≡ take 24 (drop (24 * (i + 1)) j) = get_or-reverse es (n - 1 - i) [] (omega arith) ∙ rw k (entry_of 1 (n + 1) i (i + 1) j e (omega arith) (omega arith) (omega arith)) in
      rw b (le_part 2 24 (24 * (i + 1)) 2 j (omega arith))

  taken_down : (m k : ℕ) → k + m ≡ n → ((i : ℕ) → k ≤ i → i < n → le 2 j (24 * (i + 1) + 2) ≡ c) → Taken (contents_of j).calls (contents_of j).entries k
  taken_down zero k s h = none_taken _ _ k (omega arith)
  taken_down (suc m) k s h =
      let a : 24 * (k + 1) + 2 ≡ 24 * suc k + 2 = omega arith in
      let b : suc k - 1 ≡ k = omega arith in
      rw b at (call_turn cells j g (suc k) (omega arith) (omega arith) (rw a at (h k (omega arith) (omega arith)) ∙ ec) (taken_down m (suc k) (omega arith) (λ i p q. h i (omega arith) q)))

  pub earlier_of : (r : Option ℕ) (k : ℕ) → LastYes (λ b. le 2 b 2 ≡ c → ⊥) (λ b. le 2 b 2 ≡ c) n (reverse (take (n + 1 - 1) (drop 1 ps))) r → MatchOption r (k ≡ 0) (λ i. k ≡ i + 1)
      → Earlier c (contents_of j).entries k
  unfolding of_call except_call
  earlier_of None k h d =
      let t = taken_down n 0 (omega arith) (λ i p q. sym (call_of i q) ∙ h (n - 1 - i) [] (omega arith) (omega (arith, walked_long))) in
      rw (ec, d) (stops_at (contents_of j).calls (contents_of j).entries 0 (omega arith) t (refl, refl))
  earlier_of (Some i) k h d =
      let t = taken_down (n - (i + 1)) (i + 1) (omega (arith, h.0)) (λ m p q. sym (call_of m q) ∙ h.2 (n - 1 - m) [] (omega arith) (omega (arith, h.0))) in
      rw (ec, d) (stops_other cells j g (i + 1) (omega arith) (omega (arith, h.0)) (λ z. h.1 [] (call_of i h.0 ∙ z ∙ sym ec)) t)
