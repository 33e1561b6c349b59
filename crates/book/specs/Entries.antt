-- The book at the opening, and the book after an operation, from what the operation does to the image.
use Rattle.std.specs.Prelude.{◌≡◌, refl, Bool, true, not, List, ℕ, ◌+◌, ◌-◌, ◌≤◌, ◌<◌, eqb, ℤ, ◌+ℤ◌, ◌-ℤ◌}
use Rattle.std.proofs.Math.Path.{sym, ap}
use Rattle.std.proofs.Common.{◌∙◌, arith, eq-eqb, ne_eqb}
use Rattle.std.proofs.Math.Decide.{ℕ_discrete}
use Rattle.std.proofs.lemmas.Bool.{not-true}
use Rattle.image.specs.Layout.{slot, token_at, toll_at, holding_at, default_token, destination, toll, holding, has_migration}
use Rattle.amount.specs.Frame.{same-amount_at}
use Rattle.amount.specs.Laws.{by_lt}
use Rattle.amount.specs.Biased.{bias}
use Rattle.fields.specs.Frame.{Only, Agree, only_put, under, over, part, same-le}
use Rattle.fields.specs.Bytes.{put}
use Rattle.fields.specs.Logic.{◌and◌, and_l, and_r}
use Rattle.fields.specs.Rules.{pick}
use Rattle.record.specs.Record.{operation_of}
use Rattle.book.specs.Integers.{integer_of, not_below_zero, integer_more, integer-net, integer_less}
use Rattle.book.specs.Moves.{Moves}
use Rattle.book.specs.Book.{Book, vault_holding, open_book, change, net, adds, takes, enter_book, BookIs}

pub opens : (x : List ℕ) → BookIs (open_book x) x
unfolding open_book
opens x = record { numbered = λ t low high. refl; tolled = λ t low high. refl; default = refl; migrating = λ i. refl }

-- ---- an operation that moves money of one token
module _ (b : Book) {t new : ℕ} {l m : List ℕ} (fits : BookIs b l) (v : Moves t new l m) (low : 48 ≤ t) (high : t < 64) where
  pub changed : (f : ℤ → ℤ) → integer_of new ≡ f (vault_holding l t) → BookIs (change f t b) m
  unfolding change
  changed f e =
      record {
        numbered = λ u g h. at u g h (ℕ_discrete u t);
        tolled = λ u g h. fits.tolled u g h ∙ ap integer_of (sym (v.tolls (slot u) (omega arith)));
        default = fits.default ∙ sym v.token;
        migrating = λ i. fits.migrating (rw v.flagged at i) ∙ sym v.to;
      }
    where
      at : (u : ℕ) → 48 ≤ u → u < 64 → Dec (u ≡ t) → pick (eqb u t) (f (b.numbers u)) (b.numbers u) ≡ vault_holding m u
      at u g h (yes p) =
          rw (eq-eqb u t p) (ap f (fits.numbered u g h) ∙ rw p (sym e ∙ ap integer_of (sym v.this)))
      at u g h (no p) =
          rw (ne_eqb u t p) (fits.numbered u g h ∙ ap integer_of (sym (v.other (slot u) (omega arith) (λ q. p (omega arith)))))

  -- what arrives of an amount is added, in numbers
  pub added : (n : ℕ) → new ≡ holding l (slot t) 1 + (n - toll l (slot t)) → BookIs (adds t (integer_of n) b) m
  unfolding adds net
  added n e =
      changed (λ h. h +ℤ not_below_zero (integer_of n -ℤ b.tolls t))
      (ap integer_of e ∙ integer_more (holding l (slot t) 1) (n - toll l (slot t))
      ∙ ap (λ (k : ℤ). vault_holding l t +ℤ k) (sym (ap (λ (k : ℤ). not_below_zero (integer_of n -ℤ k)) (fits.tolled t low high) ∙ integer-net n (toll l (slot t)))))

  -- an amount is taken, in numbers
  pub taken : (n : ℕ) → new + n ≡ holding l (slot t) 1 + bias → BookIs (takes t (integer_of n) b) m
  unfolding takes
  taken n e = changed (λ h. h -ℤ integer_of n) (integer_less (holding l (slot t) 1) n new e)

-- a transfer that leaves the vault's holding
pub still_booked : (b : Book) {t : ℕ} {l m : List ℕ} → BookIs b l → Moves t (holding l (slot t) 1) l m → BookIs b m
still_booked b {t} {l} {m} fits v =
    record {
      numbered = λ u g h. fits.numbered u g h ∙ ap integer_of (sym (at (slot u) (omega arith) (ℕ_discrete (slot u) (slot t))));
      tolled = λ u g h. fits.tolled u g h ∙ ap integer_of (sym (v.tolls (slot u) (omega arith)));
      default = fits.default ∙ sym v.token;
      migrating = λ i. fits.migrating (rw v.flagged at i) ∙ sym v.to;
    }
  where
    at : (u : ℕ) → u < 16 → Dec (u ≡ slot t) → holding m u 1 ≡ holding l u 1
    at u h (yes p) = rw p v.this
    at u h (no p) = v.other u h p

-- a token's kind is no part of the book
pub kind_booked : (b : Book) (l : List ℕ) (t k : ℕ) → t < 16 → BookIs b l → BookIs b (put 8 l (token_at t) k)
kind_booked b l t k h fits =
    let o = only_put 8 l (token_at t) k in
    record {
      numbered = λ u g q. fits.numbered u g q ∙ ap integer_of (sym (same-amount_at (holding_at (slot u) 1) (over (holding_at (slot u) 1) 16 (token_at t) 8 o (omega arith))));
      tolled = λ u g q. fits.tolled u g q ∙ ap integer_of (sym (tolls (slot u)));
      default = fits.default ∙ sym (same-le 1 3 (under 3 1 (token_at t) 8 o (omega arith)));
      migrating = λ i. fits.migrating (rw (same-le 2 0 (under 0 2 (token_at t) 8 o (omega arith))) at i) ∙ sym (same-le 1 7 (under 7 1 (token_at t) 8 o (omega arith)));
    }
  where
    tolls : (u : ℕ) → toll (put 8 l (token_at t) k) u ≡ toll l u
    tolls u =
        let o = only_put 8 l (token_at t) k in
        by_lt u t (toll (put 8 l (token_at t) k) u ≡ toll l u)
        (λ q. same-amount_at (toll_at u) (under (toll_at u) 16 (token_at t) 8 o (omega arith)))
        (λ q. same-amount_at (toll_at u) (over (toll_at u) 16 (token_at t) 8 o (omega arith)))

-- ---- an operation that moves none
module _ (b : Book) {l m : List ℕ} (fits : BookIs b l) (a : Agree 3680 16768 l m) where
  pub unmoved : (token to : ℕ) → token ≡ default_token m → (has_migration m ≡ 1 → to ≡ destination m)
      → BookIs (record { numbers = b.numbers; tolls = b.tolls; token = token; destination = to }) m
  unmoved token to e f =
      record {
        numbered = λ u g h. fits.numbered u g h ∙ ap integer_of (sym (same-amount_at (holding_at (slot u) 1) (part (holding_at (slot u) 1) 16 a (omega arith) (omega arith))));
        tolled = λ u g h. fits.tolled u g h ∙ ap integer_of (sym (same-amount_at (toll_at (slot u)) (part (toll_at (slot u)) 16 a (omega arith) (omega arith))));
        default = e;
        migrating = f;
      }

  -- default token, destination and its flag as they were
  pub settled : default_token m ≡ default_token l → (has_migration m ≡ 1 → (has_migration l ≡ 1) × (destination m ≡ destination l)) → BookIs b m
  settled e f = unmoved b.token b.destination (fits.default ∙ sym e) (λ i. let (h, d) = f i in fits.migrating h ∙ sym d)

-- ---- an operation that writes between 0 and 80 alone, and neither the default token nor the migration
pub head_settled : (b : Book) {l m : List ℕ} → BookIs b l → Only 0 80 l m → default_token m ≡ default_token l → destination m ≡ destination l → has_migration m ≡ has_migration l → BookIs b m
head_settled b fits o e d h = settled b fits (over 3680 16768 0 80 o (omega arith)) e (λ i. (sym h ∙ i, d))

-- ---- the operations that the book does not know
unfoldable pub quiet_operation : ℕ → Bool
quiet_operation o =
    not (eqb o 1) and not (eqb o 2) and not (eqb o 3) and not (eqb o 4) and not (eqb o 5) and not (eqb o 6)
    and not (eqb o 7) and not (eqb o 8) and not (eqb o 9) and not (eqb o 21) and not (eqb o 22) and not (eqb o 29)

pub quiet : (b : Book) (r e : List ℕ) (o : ℕ) → operation_of r ≡ o → quiet_operation o ≡ true → enter_book b r e ≡ b
unfolding enter_book quiet_operation
quiet b r e o p q =
    let q2 = and_r _ _ q in let q3 = and_r _ _ q2 in let q4 = and_r _ _ q3 in let q5 = and_r _ _ q4 in let q6 = and_r _ _ q5 in
    let q7 = and_r _ _ q6 in let q8 = and_r _ _ q7 in let q9 = and_r _ _ q8 in let q10 = and_r _ _ q9 in let q11 = and_r _ _ q10 in let q12 = and_r _ _ q11 in
    rw (
      p,
      not-true (eqb o 1) (and_l _ _ q),
      not-true (eqb o 2) (and_l _ _ q2),
      not-true (eqb o 3) (and_l _ _ q3),
      not-true (eqb o 4) (and_l _ _ q4),
      not-true (eqb o 5) (and_l _ _ q5),
      not-true (eqb o 6) (and_l _ _ q6),
      not-true (eqb o 7) (and_l _ _ q7),
      not-true (eqb o 8) (and_l _ _ q8),
      not-true (eqb o 9) (and_l _ _ q9),
      not-true (eqb o 21) (and_l _ _ q10),
      not-true (eqb o 22) (and_l _ _ q11),
      not-true (eqb o 29) q12,
    )
