-- The bytes of valid contents are a good journal that says those contents, and a good journal is the bytes of what it says.
use mathlib.Core.Path.{◌≡◌, refl, ap, ap₂, ◌∙◌}
use mathlib.Core.Logic.{◌⊎◌, inl, inr}
use mathlib.Core.Bool.{Bool, true, false}
use mathlib.Core.List.{List, [], ◌∷◌, ◌++◌, append_assoc}
use Prim.Native.Nat.{ℕ, zero, suc, ◌+◌, ◌*◌, ◌-◌, ◌/◌, ◌%◌, ◌≤◌, ◌<◌}
use native.Mathlib.Omega.{arith}
use lib.Dec.{eqb, leb, ltb}
use lib.ListN.{length, get_or, take, drop, replicate, length-append, length-replicate}
use lib.Seq.{take_at, drop_at}
use borrow.Author.Tests.{eqb-true, leb-true, ltb-true, eq-eqb, ne_eqb, le-leb, lt-leb, lt-ltb, le-ltb}
use Rattle.fields.specs.Logic.{◌or◌, and_l, and_r, and_i, or_l, or_r, and_is, or_is, and_assoc, false_and, true_and, and_false}
use Rattle.fields.specs.Bytes.{le}
use Rattle.fields.specs.Rules.{pick}
use Rattle.fields.specs.Same.{same_is, same_refl}
use Rattle.journal.specs.Journal.{Entry, Contents, entry_bytes, entries_bytes, layout, bytes_of, read_entries, contents_of, ordered, valid, fits, good_journal}

-- what is known of a test, for those that are joined by `and` and `or`
pub true_or : (a : Bool) → true or a ≡ true
unfolding ◌or◌
true_or a = refl

pub false_or : (a : Bool) → false or a ≡ a
unfolding ◌or◌
false_or a = refl

pub or_false : (a : Bool) → a or false ≡ a
unfolding ◌or◌
or_false true = refl
or_false false = refl

pub ruleset known_tests = (and_is, or_is, and_assoc, false_and, true_and, and_false, false_or, true_or, or_false, lt-ltb, le-ltb, le-leb, lt-leb, eq-eqb, ne_eqb)

pub or_out : (a b : Bool) → a or b ≡ true → (a ≡ true) ⊎ (b ≡ true)
unfolding ◌or◌
or_out true b h = inl refl
or_out false b h = inr h

-- the number in two bytes
pub le_two : (b : List ℕ) (i : ℕ) → le 2 b i ≡ get_or b i 0 + 256 * get_or b (suc i) 0
unfolding le
le_two b i = omega arith

pub halves : (n : ℕ) → n % 256 + 256 * (n / 256) ≡ n
halves n = omega arith

pub entry≡ : {a b : Entry} → a.cell ≡ b.cell → a.call ≡ b.call → a.old ≡ b.old → a ≡ b
entry≡ p q r = λ i. record { cell = p i; call = q i; old = r i }

pub contents≡ : {a b : Contents} → a.opened ≡ b.opened → a.calls ≡ b.calls → a.entries ≡ b.entries → a ≡ b
contents≡ p q r = λ i. record { opened = p i; calls = q i; entries = r i }

-- what the order says of one entry
pub record Next (cells calls last next : ℕ) (e : Entry) : Type 0 where
  pub first : 1 ≤ e.call
  pub most : e.call ≤ calls
  pub rising : last ≤ e.call
  pub below : e.cell < cells
  pub ascending : (last < e.call) ⊎ (next ≤ e.cell)
  pub sixteen : length e.old ≡ 16

pub order_out : (cells calls last next : ℕ) (e : Entry) (es : List Entry) → ordered cells calls last next (e ∷ es) ≡ true
    → Next cells calls last next e × (ordered cells calls e.call (suc e.cell) es ≡ true)
unfolding ordered
order_out cells calls last next e es h =
    let h2 = and_r _ _ h in
    let h3 = and_r _ _ h2 in
    let h4 = and_r _ _ h3 in
    let h5 = and_r _ _ h4 in
    let h6 = and_r _ _ h5 in (
      record {
        first = leb-true _ _ (and_l _ _ h);
        most = leb-true _ _ (and_l _ _ h2);
        rising = leb-true _ _ (and_l _ _ h3);
        below = ltb-true _ _ (and_l _ _ h4);
        ascending = go (or_out _ _ (and_l _ _ h5));
        sixteen = eqb-true _ _ (and_l _ _ h6);
      },
      and_r _ _ h6,
    )
  where
    go : (ltb last e.call ≡ true) ⊎ (leb next e.cell ≡ true) → (last < e.call) ⊎ (next ≤ e.cell)
    go (inl p) = inl (ltb-true _ _ p)
    go (inr p) = inr (leb-true _ _ p)

pub order_in : (cells calls last next : ℕ) (e : Entry) (es : List Entry) → Next cells calls last next e
    → ordered cells calls e.call (suc e.cell) es ≡ true → ordered cells calls last next (e ∷ es) ≡ true
unfolding ordered
order_in cells calls last next e es n h =
    and_i _ _ (le-leb _ _ n.first) (and_i _ _ (le-leb _ _ n.most) (and_i _ _ (le-leb _ _ n.rising)
    (and_i _ _ (lt-ltb _ _ n.below) (and_i _ _ (go n.ascending) (and_i _ _ (eq-eqb _ _ n.sixteen) h)))))
  where
    go : (last < e.call) ⊎ (next ≤ e.cell) → ltb last e.call or leb next e.cell ≡ true
    go (inl p) = or_l _ _ (lt-ltb _ _ p)
    go (inr p) = or_r _ _ (le-leb _ _ p)

pub length_entries : (cells calls last next : ℕ) (es : List Entry) → ordered cells calls last next es ≡ true → length (entries_bytes es) ≡ 24 * length es
unfolding entries_bytes
length_entries cells calls last next [] h = refl
length_entries cells calls last next (e ∷ es) h =
    let o = order_out cells calls last next e es h in
    let r = length_entries cells calls e.call (suc e.cell) es o.1 in
    simp length-append (omega (arith, o.0.sixteen, r))

read_entries_lem : (cells calls last next : ℕ) (es : List Entry) (z : List ℕ) → ordered cells calls last next es ≡ true
    → read_entries (length es) (entries_bytes es ++ z) ≡ es
unfolding entries_bytes read_entries
read_entries_lem cells calls last next [] z h = refl
read_entries_lem cells calls last next (e ∷ es) z h =
    let o = order_out cells calls last next e es h in
    let r = read_entries_lem cells calls e.call (suc e.cell) es z o.1 in
    let b = (entry_bytes e ++ entries_bytes es) ++ z in
    let t : take 16 ((e.old ++ entries_bytes es) ++ z) ≡ e.old = rw append_assoc (take_at e.old (entries_bytes es ++ z) 16 o.0.sixteen) in
    let d : drop 16 ((e.old ++ entries_bytes es) ++ z) ≡ entries_bytes es ++ z = rw append_assoc (drop_at e.old (entries_bytes es ++ z) 16 o.0.sixteen) in
    ap₂ (λ x xs. x ∷ xs) (entry≡ (le_two b 0 ∙ halves e.cell) (le_two b 2 ∙ halves e.call) t) (ap (read_entries (length es)) d ∙ r)

pub length-layout : (cells len calls : ℕ) (o : Bool) (c n : ℕ) (es : List Entry) → ordered cells calls 0 0 es ≡ true → 24 * suc (length es) ≤ len
    → length (layout len o c n es) ≡ len
unfolding layout
length-layout cells len calls o c n es h b =
    let a = length_entries cells calls 0 0 es h in
    simp (length-append, length-replicate, a) (omega arith)

module _ (cells len : ℕ) (p : Contents) (v : valid cells len p ≡ true) where
  pub valid_order : ordered cells p.calls 0 0 p.entries ≡ true
  unfolding valid
  valid_order = and_l _ _ (and_r _ _ v)

  pub valid_calls : p.calls ≤ 1000
  unfolding valid
  valid_calls = leb-true _ _ (and_l _ _ (and_l _ _ v))

  pub valid-room : 24 * suc (length p.entries) ≤ len
  unfolding valid
  valid-room = leb-true _ _ (and_r _ _ (and_l _ _ v))

  pub length-bytes : length (bytes_of len p) ≡ len
  unfolding bytes_of
  length-bytes = length-layout cells len p.calls p.opened p.calls (length p.entries) p.entries valid_order valid-room

  pub contents_bytes : contents_of (bytes_of len p) ≡ p
  unfolding contents_of bytes_of layout
  contents_bytes =
      contents≡ (flag p.opened) (le_two (layout len p.opened p.calls (length p.entries) p.entries) 2 ∙ halves p.calls)
      (ap (λ n. read_entries n (entries_bytes p.entries ++ replicate (len - 24 * suc (length p.entries)) 0))
      (le_two (layout len p.opened p.calls (length p.entries) p.entries) 4 ∙ halves (length p.entries))
      ∙ read_entries_lem cells p.calls 0 0 p.entries _ valid_order)
    where
      flag : (o : Bool) → eqb (pick o 1 0) 1 ≡ o
      flag true = refl
      flag false = refl

  -- so the bytes of what is valid are a good journal
  pub good_bytes : fits len ≡ true → good_journal cells (bytes_of len p) ≡ true
  unfolding good_journal
  good_bytes f = rw (length-bytes, contents_bytes) (and_i _ _ f (and_i _ _ v (same_refl _)))

-- what a good journal is
pub record Sound (cells : ℕ) (j : List ℕ) : Type 0 where
  pub long : fits (length j) ≡ true
  pub fine : valid cells (length j) (contents_of j) ≡ true
  pub exact : bytes_of (length j) (contents_of j) ≡ j

pub sound : (cells : ℕ) (j : List ℕ) → good_journal cells j ≡ true → Sound cells j
unfolding good_journal
sound cells j h = record { long = and_l _ _ h; fine = and_l _ _ (and_r _ _ h); exact = same_is _ _ (and_r _ _ (and_r _ _ h)) }

pub fits_long : (len : ℕ) → fits len ≡ true → (48 ≤ len) × (len ≤ 48024)
unfolding fits
fits_long len f = (leb-true 48 len (and_l _ _ (and_r _ _ f)), leb-true len 48024 (and_r _ _ (and_r _ _ f)))

-- what is read from a good journal's head
module _ (cells : ℕ) (j : List ℕ) (g : good_journal cells j ≡ true) where
  pub good_long : 48 ≤ length j
  good_long = (fits_long (length j) (sound cells j g).long).0

  pub good_short : length j ≤ 48024
  good_short = (fits_long (length j) (sound cells j g).long).1

  pub good_order : ordered cells (contents_of j).calls 0 0 (contents_of j).entries ≡ true
  good_order = valid_order cells (length j) (contents_of j) (sound cells j g).fine

  pub good_room : 24 * suc (length (contents_of j).entries) ≤ length j
  good_room = valid-room cells (length j) (contents_of j) (sound cells j g).fine

  pub good_few : length (contents_of j).entries ≤ 2000
  good_few = let r = good_room in let f = good_short in omega arith

  pub good_calls : (contents_of j).calls ≤ 1000
  good_calls = valid_calls cells (length j) (contents_of j) (sound cells j g).fine

pub length_read : (n : ℕ) (b : List ℕ) → length (read_entries n b) ≡ n
unfolding read_entries
length_read zero b = refl
length_read (suc n) b = ap suc (length_read n (drop 24 b))

pub calls_at : (j : List ℕ) → (contents_of j).calls ≡ le 2 j 2
unfolding contents_of
calls_at j = refl

pub count_at : (j : List ℕ) → length (contents_of j).entries ≡ le 2 j 4
unfolding contents_of
count_at j = length_read (le 2 j 4) (drop 24 j)
