-- The changed cells are exactly those in which some byte differs, ascending.
use mathlib.Core.Path.{◌≡◌, refl, sym, ap, subst, ◌∙◌}
use mathlib.Core.Logic.{◌⊎◌, inl, inr}
use mathlib.Core.Bool.{Bool, true, false}
use mathlib.Core.List.{List, [], ◌∷◌, ◌++◌}
use Prim.Native.Nat.{ℕ, zero, suc, ◌+◌, ◌*◌, ◌≤◌, ◌<◌}
use native.Mathlib.Nat.{zero-add}
use native.Mathlib.Numerals.{add-one}
use native.Mathlib.Omega.{arith}
use lib.Dec.{eqb, leb}
use lib.ListN.{length, get_or, drop, length-append, length-take, length-drop, get_or-append}
use lib.Seq.{get_or_at, get_or-take, get_or-drop}
use borrow.Author.Tests.{eqb-false, leb-true, leb-false}
use Rattle.fields.specs.Logic.{◌and◌}
use Rattle.fields.specs.Same.{same_bytes_of, same_is}
use Rattle.journal.specs.Journal.{Entry, Contents, changed, contents_of, good_journal, entered, room, journal_after}
use Rattle.journal.specs.Step.{vault}
use Rattle.journal.specs.Changed.{Differs, Listed, ChangedCells, numbers, CellsEntered}
use Rattle.journal.proofs.States.{entered_contents}
use Rattle.journal.proofs.Stretches.{cell_of, entry_of, cell_same, cell_changed}

-- ---- a cell is not the same exactly if some byte of it differs
record Unlike (a b : List ℕ) : Type 0 where
  place : ℕ
  within : place < length a
  other : get_or a place 0 ≡ get_or b place 0 → ⊥

later : (x y : ℕ) (a b : List ℕ) → Unlike a b → Unlike (x ∷ a) (y ∷ b)
later x y a b u = let w = u.within in record { place = suc u.place; within = omega arith; other = u.other }

unlike : (a b : List ℕ) → length a ≡ length b → same_bytes_of a b ≡ false → Unlike a b
unfolding same_bytes_of ◌and◌
unlike [] [] l e = absurd (let w : ◌≡◌ {A = ℕ} 0 1 = cc in omega arith)
unlike [] (y ∷ b) l e = absurd (omega arith)
unlike (x ∷ a) [] l e = absurd (omega arith)
unlike (x ∷ a) (y ∷ b) l e = go (eqb x y) refl e (unlike a b (omega arith))
  where
    go : (t : Bool) → eqb x y ≡ t → t and same_bytes_of a b ≡ false → (same_bytes_of a b ≡ false → Unlike a b) → Unlike (x ∷ a) (y ∷ b)
    go true w h u = later x y a b (u h)
    go false w h u = record { place = 0; within = omega arith; other = eqb-false x y w }

module _ (k : ℕ) (a b : List ℕ) where
  byte_of : (l : List ℕ) (i : ℕ) → i < 16 → get_or (cell_of k l) i 0 ≡ get_or l (16 * k + i) 0
  byte_of l i h = get_or-take 16 (drop (16 * k) l) i 0 h ∙ get_or-drop (16 * k) l i 0

  differs : 16 * suc k ≤ length a → 16 * suc k ≤ length b → same_bytes_of (cell_of k a) (cell_of k b) ≡ false → Differs k a b
  differs ha hb e =
      let la : length (cell_of k a) ≡ 16 = simp (length-take, length-drop) (omega arith) in
      let lb : length (cell_of k b) ≡ 16 = simp (length-take, length-drop) (omega arith) in
      let u = unlike (cell_of k a) (cell_of k b) (la ∙ sym lb) e in
      let w = u.within in
      record { byte = u.place; within = omega arith; other = λ z. u.other (byte_of a u.place (omega arith) ∙ z ∙ sym (byte_of b u.place (omega arith))) }

  alike : same_bytes_of (cell_of k a) (cell_of k b) ≡ true → Differs k a b → ⊥
  alike e d =
      d.other (sym (byte_of a d.byte d.within) ∙ ap (λ (l : List ℕ). get_or l d.byte 0) (same_is (cell_of k a) (cell_of k b) e) ∙ byte_of b d.byte d.within)

-- ---- a list with one number more
at_most : (c k : ℕ) → c < k + 1 → (c < k) ⊎ (c ≡ k)
at_most c k h = go (leb k c) refl
  where
    go : (t : Bool) → leb k c ≡ t → (c < k) ⊎ (c ≡ k)
    go true e = let l = leb-true k c e in inr (omega arith)
    go false e = inl (leb-false k c e)

module _ (l : List ℕ) (x : ℕ) where
  longer : length (l ++ x ∷ []) ≡ length l + 1
  longer = length-append l (x ∷ [])

  last : get_or (l ++ x ∷ []) (length l) 0 ≡ x
  last = get_or_at l x [] 0 (length l) refl

  listed_front : (c : ℕ) → Listed c l → Listed c (l ++ x ∷ [])
  listed_front c h = let n = longer in let w = h.within in record { place = h.place; within = omega arith; there = get_or-append l (x ∷ []) 0 h.place w ∙ h.there }

  listed_last : Listed x (l ++ x ∷ [])
  listed_last = let n = longer in record { place = length l; within = omega arith; there = last }

  listed_cut : (c : ℕ) → Listed c (l ++ x ∷ []) → Listed c l ⊎ (c ≡ x)
  listed_cut c h = let n = longer in let w = h.within in go (at_most h.place (length l) (omega arith))
    where
      go : (h.place < length l) ⊎ (h.place ≡ length l) → Listed c l ⊎ (c ≡ x)
      go (inl w) = inl (record { place = h.place; within = w; there = sym (get_or-append l (x ∷ []) 0 h.place w) ∙ h.there })
      go (inr e) = inr (sym h.there ∙ ap (λ (i : ℕ). get_or (l ++ x ∷ []) i 0) e ∙ last)

-- ---- one cell more
module _ (k : ℕ) (a b l : List ℕ) (ih : ChangedCells k a b l) where
  kept : (Differs k a b → ⊥) → ChangedCells (k + 1) a b l
  kept same = record {
    listed = λ c h. let r = ih.listed c h in let w = r.0 in (omega arith, r.1);
    every = λ c h d. go c d (at_most c k h);
    ascends = ih.ascends;
  }
    where
      go : (c : ℕ) → Differs c a b → (c < k) ⊎ (c ≡ k) → Listed c l
      go c d (inl h) = ih.every c h d
      go c d (inr e) = absurd (same (rw e at d))

  grown : Differs k a b → ChangedCells (k + 1) a b (l ++ k ∷ [])
  grown d = record {
    listed = λ c h. out c (listed_cut l k c h);
    every = λ c h e. into c e (at_most c k h);
    ascends = λ i n h w. let m = longer l k in up i n h (at_most n (length l) (omega arith));
  }
    where
      out : (c : ℕ) → Listed c l ⊎ (c ≡ k) → (c < k + 1) × Differs c a b
      out c (inl h) = let r = ih.listed c h in let w = r.0 in (omega arith, r.1)
      out c (inr e) = (omega arith, rw e d)

      into : (c : ℕ) → Differs c a b → (c < k) ⊎ (c ≡ k) → Listed c (l ++ k ∷ [])
      into c e (inl h) = listed_front l k c (ih.every c h e)
      into c e (inr q) = rw q (listed_last l k)

      front : (i : ℕ) → i < length l → get_or (l ++ k ∷ []) i 0 ≡ get_or l i 0
      front i h = get_or-append l (k ∷ []) 0 i h

      up : (i n : ℕ) → i < n → (n < length l) ⊎ (n ≡ length l) → get_or (l ++ k ∷ []) i 0 < get_or (l ++ k ∷ []) n 0
      up i n h (inl w) = rw (front i (omega arith), front n w) (ih.ascends i n h w)
      up i n h (inr e) = rw (front i (omega arith), e, last l k) (ih.listed (get_or l i 0) (record { place = i; within = omega arith; there = refl })).0

numbers_last : (es : List Entry) (e : Entry) → numbers (es ++ e ∷ []) ≡ numbers es ++ e.cell ∷ []
numbers_last [] e = refl
numbers_last (d ∷ es) e = ap (λ l. d.cell ∷ l) (numbers_last es e)

-- ---- the theorem
one_more : (call k : ℕ) (a b : List ℕ) → 16 * suc k ≤ length a → 16 * suc k ≤ length b → ChangedCells k a b (numbers (changed call k 0 a b))
    → ChangedCells (k + 1) a b (numbers (changed call (k + 1) 0 a b))
one_more call k a b ha hb ih = go (same_bytes_of (cell_of k a) (cell_of k b)) refl
  where
    go : (t : Bool) → same_bytes_of (cell_of k a) (cell_of k b) ≡ t → ChangedCells (k + 1) a b (numbers (changed call (k + 1) 0 a b))
    go true e = rw (cell_same call 0 a b k e) (kept k a b (numbers (changed call k 0 a b)) ih (alike k a b e))
    go false e = rw (cell_changed call 0 a b k e, numbers_last (changed call k 0 a b) (entry_of call 0 a b k), zero-add) (grown k a b (numbers (changed call k 0 a b)) ih (differs k a b ha hb e))

pub exact : (call k : ℕ) (a b : List ℕ) → 16 * k ≤ length a → 16 * k ≤ length b → ChangedCells k a b (numbers (changed call k 0 a b))
unfolding changed
exact call zero a b ha hb = record {
  listed = λ c h. absurd (let w = h.within in omega arith);
  every = λ c h d. absurd (omega arith);
  ascends = λ i n h w. absurd (omega arith);
}
exact call (suc k) a b ha hb = subst (λ n. ChangedCells n a b (numbers (changed call n 0 a b))) (add-one k) (one_more call k a b ha hb (exact call k a b (omega arith) (omega arith)))

-- an operation that is entered
pub cells-entered : (cells : ℕ) (old new j : List ℕ) → good_journal cells j ≡ true → length old ≡ 16 * cells → length new ≡ 16 * cells → room cells old new j ≡ true
    → CellsEntered cells (vault old j) (vault new (journal_after cells old new j))
unfolding entered
cells-entered cells old new j g ho hn r = record {
  long_before = ho;
  long_after = hn;
  entries = ap (λ (p : Contents). p.entries) (entered_contents cells old new j g ho hn r);
  exact = exact (suc (contents_of j).calls) cells old new (omega arith) (omega arith);
}
