-- What a function's stores do to a journal's bytes: an entry written behind the others, entries zeroed, and the counts written.
use mathlib.Core.Path.{◌≡◌, refl, sym, ap, ◌∙◌}
use mathlib.Core.Bool.{Bool, true}
use mathlib.Core.List.{List, [], ◌∷◌, ◌++◌, append_assoc}
use Prim.Native.Nat.{ℕ, suc, ◌+◌, ◌*◌, ◌-◌, ◌/◌, ◌%◌, ◌≤◌, ◌<◌}
use native.Mathlib.Omega.{arith}
use lib.ListN.{length, take, drop, replicate, length-append, length-replicate, replicate-append-replicate}
use lib.Seq.{take_at, drop_at}
use Rattle.fields.specs.Bytes.{put}
use Rattle.journal.specs.Journal.{Entry, head_bytes_of, entry_bytes, entries_bytes, layout, ordered}
use Rattle.journal.proofs.Written.{order_out, length_entries}

pub entries_append : (es fs : List Entry) → entries_bytes (es ++ fs) ≡ entries_bytes es ++ entries_bytes fs
unfolding entries_bytes
entries_append [] fs = refl
entries_append (e ∷ es) fs = rw (entries_append es fs) (sym (append_assoc (entry_bytes e) (entries_bytes es) (entries_bytes fs)))

-- the length of the bytes of entries in order, in two parts
pub parts_long : (cells calls last next : ℕ) (es fs : List Entry) → ordered cells calls last next (es ++ fs) ≡ true
    → (length (entries_bytes es) ≡ 24 * length es) × (length (entries_bytes fs) ≡ 24 * length fs)
unfolding entries_bytes
parts_long cells calls last next [] fs h = (refl, length_entries cells calls last next fs h)
parts_long cells calls last next (e ∷ es) fs h =
    let o = order_out cells calls last next e (es ++ fs) h in
    let r = parts_long cells calls e.call (suc e.cell) es fs o.1 in
    (simp length-append (omega (arith, o.0.sixteen, r.0)), r.1)

abbrev pub nul : ℕ → List ℕ
nul n = replicate n 0

-- the bytes from a place on, replaced
splice_at : (p q r v : List ℕ) (at : ℕ) → length p ≡ at → length q ≡ length v
    → take at (p ++ (q ++ r)) ++ (v ++ drop (at + length v) (p ++ (q ++ r))) ≡ p ++ (v ++ r)
splice_at p q r v at hp hq =
    let back : drop (at + length v) (p ++ (q ++ r)) ≡ r =
    rw (← append_assoc p q r) (drop_at (p ++ q) r (at + length v) (simp length-append (omega arith))) in
    rw (take_at p (q ++ r) at hp, back)

module _ (len : ℕ) (o : Bool) (c n : ℕ) (es fs : List Entry) (le : length (entries_bytes es) ≡ 24 * length es) (lf : length (entries_bytes fs) ≡ 24 * length fs)
    (fits : 24 * suc (length es + length fs) ≤ len) where
  abbrev rest : ℕ
  rest = len - 24 * suc (length es + length fs)

  front_long : length (head_bytes_of o c n ++ entries_bytes es) ≡ 24 * suc (length es)
  front_long = omega arith

  -- a layout, cut where the entries fs stand, or would stand
  cut_with : layout len o c n (es ++ fs) ≡ (head_bytes_of o c n ++ entries_bytes es) ++ (entries_bytes fs ++ nul rest)
  unfolding layout
  cut_with = rw (entries_append es fs, length-append es fs) (simp append_assoc)

  cut_without : layout len o c n es ≡ (head_bytes_of o c n ++ entries_bytes es) ++ (nul (24 * length fs) ++ nul rest)
  unfolding layout
  cut_without =
      let m : len - 24 * suc (length es) ≡ 24 * length fs + rest = omega arith in
      ap (λ l. head_bytes_of o c n ++ (entries_bytes es ++ l)) (ap nul m ∙ sym (replicate-append-replicate (24 * length fs) rest 0))
      ∙ sym (append_assoc (head_bytes_of o c n) (entries_bytes es) _)

  -- the entries fs written behind es
  pub written : take (24 * suc (length es)) (layout len o c n es) ++ (entries_bytes fs ++ drop (24 * suc (length es) + length (entries_bytes fs)) (layout len o c n es))
      ≡ layout len o c n (es ++ fs)
  written =
      rw cut_without
      (splice_at (head_bytes_of o c n ++ entries_bytes es) (nul (24 * length fs)) (nul rest) (entries_bytes fs) (24 * suc (length es)) front_long
      (length-replicate (24 * length fs) 0 ∙ sym lf) ∙ sym cut_with)

  -- and zeroed
  pub zeroed : take (24 * suc (length es)) (layout len o c n (es ++ fs))
      ++ (nul (24 * length fs) ++ drop (24 * suc (length es) + length (nul (24 * length fs))) (layout len o c n (es ++ fs)))
      ≡ layout len o c n es
  zeroed =
      rw cut_with
      (splice_at (head_bytes_of o c n ++ entries_bytes es) (entries_bytes fs) (nul rest) (nul (24 * length fs)) (24 * suc (length es)) front_long
      (lf ∙ sym (length-replicate (24 * length fs) 0)) ∙ sym cut_without)

-- both counts written
pub counted : (len c n c' n' : ℕ) (o : Bool) (es : List Entry) → c' < 65536 → n' < 65536 → put 2 (put 2 (layout len o c n es) 2 c') 4 n' ≡ layout len o c' n' es
unfolding layout put
counted len c n c' n' o es hc hn =
    let e : c' / 256 % 256 ≡ c' / 256 = omega arith in
    let f : n' / 256 % 256 ≡ n' / 256 = omega arith in
    rw (e, f)
