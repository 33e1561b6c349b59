-- The laws of begin, commit, rollback, undo and an entered operation: which journals they leave, and that a call taken back gives the state before it.
use mathlib.Core.Path.{◌≡◌, refl, sym, ap, ◌∙◌}
use mathlib.Core.Logic.{◌⊎◌, inl, inr}
use mathlib.Core.Bool.{Bool, true, false}
use mathlib.Core.List.{List, [], ◌∷◌, ◌++◌, append-nil}
use Prim.Native.Nat.{ℕ, suc, ◌+◌, ◌*◌, ◌-◌}
use native.Mathlib.Omega.{arith}
use lib.Dec.{eqb}
use lib.ListN.{length, replicate, replicate-append-replicate}
use borrow.Author.Tests.{eqb-true, le-leb}
use Rattle.fields.specs.Logic.{◌and◌, ◌or◌, and_l, and_r, and_i, or_l}
use Rattle.journal.specs.Calls.{State}
use Rattle.journal.specs.Journal.{Entry, Contents, entries_bytes, layout, bytes_of, contents_of, ordered, valid, fits, good_journal, changed, restore, of_call, except_call, entered, room, journal_after}
use Rattle.journal.specs.Step.{vault, reply, begun, committed, rolled_back, undone, last_undone}
use Rattle.journal.proofs.Written.{or_out, contents≡, length-bytes, contents_bytes, good_bytes, sound, fits_long, good_order}
use Rattle.journal.proofs.Cells.{restore-append, put_back_lem, changed_order, append_order, of_call-append, except_call-append, older_none, newest_all}

pub state≡ : {a b : State} → a.image ≡ b.image → a.journal ≡ b.journal → a ≡ b
state≡ p q = λ i. record { image = p i; journal = q i }

-- ---- closed journals, and those just opened
abbrev pub closed : Contents
closed = record { opened = false; calls = 0; entries = [] }

abbrev pub fresh : Contents
fresh = record { opened = true; calls = 0; entries = [] }

module _ (len : ℕ) (f : fits len ≡ true) where
  closed-bytes : bytes_of len closed ≡ replicate len 0
  unfolding bytes_of layout entries_bytes
  closed-bytes =
      let h = (fits_long len f).0 in
      let e : 24 + (len - 24 * 1) ≡ len = omega arith in
      replicate-append-replicate 24 (len - 24 * 1) 0 ∙ ap (λ n. replicate n 0) e

  closed-valid : (cells : ℕ) → valid cells len closed ≡ true
  unfolding valid ordered ◌and◌ ◌or◌
  closed-valid cells = let h = (fits_long len f).0 in and_i _ _ (le-leb (24 * 1) len (omega arith)) refl

  pub fresh-valid : (cells : ℕ) → valid cells len fresh ≡ true
  unfolding valid ordered ◌and◌ ◌or◌
  fresh-valid cells = let h = (fits_long len f).0 in and_i _ _ (le-leb (24 * 1) len (omega arith)) refl

  pub fresh_good : (cells : ℕ) → good_journal cells (bytes_of len fresh) ≡ true
  fresh_good cells = good_bytes cells len fresh (fresh-valid cells) f

  pub fresh_contents : contents_of (bytes_of len fresh) ≡ fresh
  fresh_contents = contents_bytes 0 len fresh (fresh-valid 0)

  pub zeros_good : (cells : ℕ) → good_journal cells (replicate len 0) ≡ true
  zeros_good cells = rw (← closed-bytes) (good_bytes cells len closed (closed-valid cells) f)

  pub zeros_contents : contents_of (replicate len 0) ≡ closed
  zeros_contents = rw (← closed-bytes) (contents_bytes 0 len closed (closed-valid 0))

true_false : {A : Type 0} (b : Bool) → b ≡ true → b ≡ false → A
true_false b p q = absurd (let z : ◌≡◌ {A = ℕ} 0 1 = cc in omega arith)

closed_is : (cells len : ℕ) (p : Contents) → valid cells len p ≡ true → p.opened ≡ false → p ≡ closed
unfolding valid
closed_is cells len p v o = go (or_out _ _ (and_r _ _ (and_r _ _ v)))
  where
    nil : (es : List Entry) → length es ≡ 0 → es ≡ []
    nil [] h = refl
    nil (e ∷ es) h = absurd (let z : suc (length es) ≡ 0 = h in omega arith)

    go : (p.opened ≡ true) ⊎ (eqb p.calls 0 and eqb (length p.entries) 0 ≡ true) → p ≡ closed
    go (inl h) = true_false p.opened h o
    go (inr h) = contents≡ o (eqb-true p.calls 0 (and_l _ _ h)) (nil p.entries (eqb-true (length p.entries) 0 (and_r _ _ h)))

module _ (cells : ℕ) (j : List ℕ) (g : good_journal cells j ≡ true) where
  pub closed_contents : (contents_of j).opened ≡ false → contents_of j ≡ closed
  closed_contents o = closed_is cells (length j) (contents_of j) (sound cells j g).fine o

  -- a closed journal is all zero
  pub closed-zeros : (contents_of j).opened ≡ false → replicate (length j) 0 ≡ j
  closed-zeros o =
      let s = sound cells j g in
      sym (closed-bytes (length j) s.long) ∙ ap (bytes_of (length j)) (sym (closed_contents o)) ∙ s.exact

-- ---- each call, by whether the journal is open
module _ (s : State) where
  pub begun_open : (contents_of s.journal).opened ≡ true → begun s ≡ reply 36 [] s
  unfolding begun
  begun_open o = rw o

  pub begun-closed : (contents_of s.journal).opened ≡ false → begun s ≡ reply 0 [] (vault s.image (bytes_of (length s.journal) fresh))
  unfolding begun
  begun-closed o = rw o

  pub committed_open : (contents_of s.journal).opened ≡ true → committed s ≡ reply 0 [] (vault s.image (replicate (length s.journal) 0))
  unfolding committed
  committed_open o = rw o

  pub committed_closed : (contents_of s.journal).opened ≡ false → committed s ≡ reply 35 [] s
  unfolding committed
  committed_closed o = rw o

  pub rolled_open : (contents_of s.journal).opened ≡ true
      → rolled_back s ≡ reply 0 [] (vault (restore (contents_of s.journal).entries s.image) (replicate (length s.journal) 0))
  unfolding rolled_back
  rolled_open o = rw o

  pub rolled_closed : (contents_of s.journal).opened ≡ false → rolled_back s ≡ reply 35 [] s
  unfolding rolled_back
  rolled_closed o = rw o

  pub undone_open : (n : ℕ) → (contents_of s.journal).opened ≡ true → (contents_of s.journal).calls ≡ n
      → undone s ≡ last_undone s n (contents_of s.journal).entries
  unfolding undone
  undone_open n o e = rw (o, e)

  pub undone_closed : (contents_of s.journal).opened ≡ false → undone s ≡ reply 35 [] s
  unfolding undone
  undone_closed o = rw o

-- begin and then rollback: the state before
pub begun_rolled : (cells : ℕ) (s : State) → good_journal cells s.journal ≡ true → (contents_of s.journal).opened ≡ false
    → (rolled_back (begun s).state).state ≡ s
unfolding restore
begun_rolled cells s g o =
    let f = (sound cells s.journal g).long in
    let e = fresh_contents (length s.journal) f in
    let l = length-bytes cells (length s.journal) fresh (fresh-valid (length s.journal) f cells) in
    rw (begun-closed s o, rolled_open (vault s.image (bytes_of (length s.journal) fresh)) (ap (λ (p : Contents). p.opened) e), e, l)
    (state≡ refl (closed-zeros cells s.journal g o))

-- ---- an operation that is entered
module _ (cells : ℕ) (old new j : List ℕ) (g : good_journal cells j ≡ true) (long_old : length old ≡ 16 * cells) (long_new : length new ≡ 16 * cells)
    (r : room cells old new j ≡ true) where
  abbrev after : Contents
  after = entered cells old new (contents_of j)

  entered-valid : valid cells (length j) after ≡ true
  unfolding valid room entered
  entered-valid =
      let p = contents_of j in
      and_i _ _ r
      (and_i _ _
      (append_order cells p.calls 0 0 p.entries (changed (suc p.calls) cells 0 old new) (good_order cells j g) (omega arith)
      (λ last next h. changed_order cells (suc p.calls) cells 0 last next old new (omega arith) (omega arith) (inl (omega arith)) (omega arith) (omega arith)))
      (or_l _ _ refl))

  -- the journal is good again, as long as before, and says what was entered
  pub entered_good : good_journal cells (journal_after cells old new j) ≡ true
  unfolding journal_after
  entered_good = good_bytes cells (length j) after entered-valid (sound cells j g).long

  pub entered-length : length (journal_after cells old new j) ≡ length j
  unfolding journal_after
  entered-length = length-bytes cells (length j) after entered-valid

  pub entered_contents : contents_of (journal_after cells old new j) ≡ entered cells old new (contents_of j)
  unfolding journal_after
  entered_contents = contents_bytes cells (length j) after entered-valid

  restored : (n : ℕ) → restore (changed n cells 0 old new) new ≡ old
  restored n = put_back_lem n cells 0 [] old new refl long_old long_new

  pub entered-opened : (contents_of (journal_after cells old new j)).opened ≡ true
  unfolding entered
  entered-opened = ap (λ (p : Contents). p.opened) entered_contents

  -- undone, it gives image and journal back byte for byte
  pub entered-undone : (contents_of j).opened ≡ true → undone (vault new (journal_after cells old new j)) ≡ reply 0 [] (vault old j)
  unfolding entered last_undone
  entered-undone o =
      let p = contents_of j in
      let n = suc p.calls in
      let more = changed n cells 0 old new in
      let older = older_none cells p.calls 0 0 p.entries (good_order cells j g) in
      let late = newest_all n cells 0 old new in
      let mine : of_call n (p.entries ++ more) ≡ more = of_call-append n p.entries more ∙ rw (older.0, late.0) in
      let rest : except_call n (p.entries ++ more) ≡ p.entries = except_call-append n p.entries more ∙ rw (older.1, late.1) (append-nil p.entries) in
      undone_open (vault new (journal_after cells old new j)) n entered-opened (ap (λ (q : Contents). q.calls) entered_contents)
      ∙ rw (entered_contents, entered-length, mine, rest)
      (ap (reply 0 [])
      (state≡ (restored n) (ap (bytes_of (length j)) (contents≡ {b = p} (sym o) refl refl) ∙ (sound cells j g).exact)))

  -- rolling back past it is rolling back from before it
  pub entered_rolled : (contents_of j).opened ≡ true → rolled_back (vault new (journal_after cells old new j)) ≡ rolled_back (vault old j)
  unfolding entered
  entered_rolled o =
      let p = contents_of j in
      rolled_open (vault new (journal_after cells old new j)) entered-opened
      ∙ rw (entered_contents, entered-length, restore-append, restored (suc p.calls)) (sym (rolled_open (vault old j) o))
