-- The book after one operation, from the opening: the number of a token is the holding and what the operation adds to it.
use Rattle.std.specs.Prelude.{◌≡◌, refl, Bool, List, [], ◌∷◌, ℕ, zero, suc, eqb, pos, neg_ℤ, ◌+ℤ◌, ◌-ℤ◌, get_or}
use Rattle.std.proofs.Math.Path.{sym}
use Rattle.std.proofs.Common.{ap, ◌∙◌, eq-eqb, ne_eqb, eqb-true}
use Rattle.std.proofs.Math.Bool.{true, false}
use Rattle.std.proofs.Math.Decide.{ℕ_discrete}
use Rattle.std.proofs.Math.IntN.{ℤ, neg_ℤ-+ℤ, +ℤ_assoc, +ℤ_idl, +ℤ_idr, +ℤ_invr}
use Rattle.fields.specs.Rules.{pick}
use Rattle.image.specs.Layout.{slot, default_token, destination, toll, holding}
use Rattle.record.specs.Record.{operation_of, token_of, other_of, item_count_of, amount_of, fee_of, item_amount}
use Rattle.book.specs.Integers.{integer_of, smaller, integer_left}
use Rattle.book.specs.Book.{Book, vault_holding, toll_value, open_book, after_toll, change, net, adds, takes, adds_items, takes_items, migrates, enter_book}
use Rattle.book.specs.Flows.{of_token, items_after_toll, items_amount, deposited, moved_in_of, paid_out, migration_takes, migrated, flow}

-- ---- of one token
brought : (c : Bool) (h n : ℤ) → pick c (h +ℤ n) h ≡ h +ℤ pick c n (pos 0)
brought true h n = refl
brought false h n = sym (+ℤ_idr h)

took : (c : Bool) (h n : ℤ) → pick c (h -ℤ n) h ≡ h -ℤ pick c n (pos 0)
took true h n = refl
took false h n = sym (+ℤ_idr h)

none : (c : Bool) → pick c (pos 0) (pos 0) ≡ pos 0
none true = refl
none false = refl

-- item by item: what the items bring or take together
items_brought : (n i : ℕ) (r : List ℕ) (b : Book) (t : ℕ) → (adds_items n i r b).numbers t ≡ b.numbers t +ℤ of_token b.token t (items_after_toll n i r (b.tolls b.token))
unfolding adds_items items_after_toll adds change net
items_brought zero i r b t = sym (ap (λ (z : ℤ). b.numbers t +ℤ z) (none (eqb t b.token)) ∙ +ℤ_idr (b.numbers t))
items_brought (suc n) i r b t =
    let a = after_toll (b.tolls b.token) (integer_of (item_amount r i)) in
    items_brought n (suc i) r (adds b.token (integer_of (item_amount r i)) b) t ∙ both (eqb t b.token) (b.numbers t) a (items_after_toll n (suc i) r (b.tolls b.token))
  where
    both : (c : Bool) (h a z : ℤ) → pick c (h +ℤ a) h +ℤ pick c z (pos 0) ≡ h +ℤ pick c (a +ℤ z) (pos 0)
    both true h a z = +ℤ_assoc h a z
    both false h a z = refl

items_taken : (n i : ℕ) (r : List ℕ) (b : Book) (t : ℕ) → (takes_items n i r b).numbers t ≡ b.numbers t -ℤ of_token b.token t (items_amount n i r)
unfolding takes_items items_amount takes change
items_taken zero i r b t = sym (ap (λ (z : ℤ). b.numbers t -ℤ z) (none (eqb t b.token)) ∙ +ℤ_idr (b.numbers t))
items_taken (suc n) i r b t =
    let a = integer_of (item_amount r i) in
    items_taken n (suc i) r (takes b.token a b) t ∙ both (eqb t b.token) (b.numbers t) a (items_amount n (suc i) r)
  where
    both : (c : Bool) (h a z : ℤ) → pick c (h -ℤ a) h -ℤ pick c z (pos 0) ≡ h -ℤ pick c (a +ℤ z) (pos 0)
    both true h a z = +ℤ_assoc h (neg_ℤ a) (neg_ℤ z) ∙ ap (λ (k : ℤ). h +ℤ k) (sym (neg_ℤ-+ℤ a z))
    both false h a z = refl

-- a migration takes all, or to the vault itself the smaller of toll and holding
migration_taken : (x : List ℕ) (t a : ℕ)
    → pick (eqb t a) (pick (eqb (destination x) 1) (after_toll (toll_value x a) (vault_holding x t)) (pos 0)) (vault_holding x t) ≡ vault_holding x t -ℤ of_token a t (migration_takes x a)
migration_taken x t a = go (eqb t a) refl
  where
    here : (c : Bool) → pick c (after_toll (toll_value x a) (vault_holding x a)) (pos 0) ≡ vault_holding x a -ℤ pick c (smaller (toll_value x a) (vault_holding x a)) (vault_holding x a)
    here true = integer_left (holding x (slot a) 1) (toll x (slot a))
    here false = sym (+ℤ_invr (vault_holding x a))

    go : (c : Bool) → eqb t a ≡ c
        → pick c (pick (eqb (destination x) 1) (after_toll (toll_value x a) (vault_holding x t)) (pos 0)) (vault_holding x t) ≡ vault_holding x t -ℤ pick c (migration_takes x a) (pos 0)
    go true e = rw (eqb-true t a e) (here (eqb (destination x) 1))
    go false e = sym (+ℤ_idr (vault_holding x t))

-- ---- one of the four sums, the others 0
module _ (h n : ℤ) where
  by_deposit : h +ℤ n ≡ h +ℤ (n +ℤ pos 0 -ℤ pos 0 -ℤ pos 0)
  by_deposit = ap (λ (z : ℤ). h +ℤ z) (sym (+ℤ_idr (n +ℤ pos 0 -ℤ pos 0) ∙ +ℤ_idr (n +ℤ pos 0) ∙ +ℤ_idr n))

  by_move : h +ℤ n ≡ h +ℤ (pos 0 +ℤ n -ℤ pos 0 -ℤ pos 0)
  by_move = ap (λ (z : ℤ). h +ℤ z) (sym (+ℤ_idr (pos 0 +ℤ n -ℤ pos 0) ∙ +ℤ_idr (pos 0 +ℤ n) ∙ +ℤ_idl n))

  by_payout : h -ℤ n ≡ h +ℤ (pos 0 -ℤ n -ℤ pos 0)
  by_payout = ap (λ (z : ℤ). h +ℤ z) (sym (+ℤ_idr (pos 0 -ℤ n) ∙ +ℤ_idl (neg_ℤ n)))

  by_migration : h -ℤ n ≡ h +ℤ (pos 0 -ℤ n)
  by_migration = ap (λ (z : ℤ). h +ℤ z) (sym (+ℤ_idl (neg_ℤ n)))

-- ---- by the operation's number: one of ks, or none of them
abbrev Each : ℕ → List ℕ → Type 0 → Type 0
Each o [] P = Unit {0}
Each o (k ∷ ks) P = (o ≡ k → P) × Each o ks P

abbrev NoneOf : ℕ → List ℕ → Type 0
NoneOf o [] = Unit {0}
NoneOf o (k ∷ ks) = (eqb o k ≡ false) × NoneOf o ks

either : {A P : Type 0} → Dec A → (A → P) → ((A → ⊥) → P) → P
either (yes p) f g = f p
either (no p) f g = g p

by_number : (o : ℕ) (ks : List ℕ) (P : Type 0) → Each o ks P → (NoneOf o ks → P) → P
by_number o [] P c f = f tt
by_number o (k ∷ ks) P c f = either (ℕ_discrete o k) c.0 (λ p. by_number o ks P c.1 (λ q. f (ne_eqb o k p, q)))

-- ---- the operations
module _ (x r e : List ℕ) (t : ℕ) where
  abbrev Flows : Type 0
  Flows = (enter_book (open_book x) r e).numbers t ≡ vault_holding x t +ℤ flow x r e t

  -- an amount of the token at address a, or nothing
  arrived : (a : ℕ) (n : ℤ) → (adds a n (open_book x)).numbers t ≡ vault_holding x t +ℤ of_token a t (after_toll (toll_value x a) n)
  unfolding open_book adds change net
  arrived a n = brought (eqb t a) (vault_holding x t) (after_toll (toll_value x a) n)

  unless : (c : Bool) (a : ℕ) (n : ℤ)
      → (pick c (open_book x) (adds a n (open_book x))).numbers t ≡ vault_holding x t +ℤ pick c (pos 0) (of_token a t (after_toll (toll_value x a) n))
  unfolding open_book
  unless true a n = sym (+ℤ_idr (vault_holding x t))
  unless false a n = arrived a n

  where_to : (c : Bool) (a : ℕ) (n : ℤ)
      → (pick c (adds a n (open_book x)) (open_book x)).numbers t ≡ vault_holding x t +ℤ pick c (of_token a t (after_toll (toll_value x a) n)) (pos 0)
  unfolding open_book
  where_to true a n = arrived a n
  where_to false a n = sym (+ℤ_idr (vault_holding x t))

  left : (a : ℕ) (n : ℤ) → (takes a n (open_book x)).numbers t ≡ vault_holding x t -ℤ of_token a t n
  unfolding open_book takes change
  left a n = took (eqb t a) (vault_holding x t) n

  pub flows : Flows
  unfolding enter_book open_book change net migrates deposited moved_in_of paid_out migrated
  flows =
      by_number (operation_of r) (1 ∷ 2 ∷ 3 ∷ 4 ∷ 5 ∷ 6 ∷ 7 ∷ 8 ∷ 9 ∷ 21 ∷ 22 ∷ 29 ∷ []) Flows (
        (λ p. rw p (sym (+ℤ_idr h))),
        (
          (λ p. rw p (arrived default amount ∙ by_deposit h _)),
          (
            (λ p. rw p (arrived default (amount -ℤ integer_of (fee_of r)) ∙ by_deposit h _)),
            (
              (λ p. rw p (items_brought (item_count_of r) 0 r (open_book x) t ∙ by_deposit h _)),
              (
                (λ p. rw p (left default amount ∙ by_payout h (of_token default t amount))),
                (
                  (λ p. rw p (items_taken (item_count_of r) 0 r (open_book x) t ∙ by_payout h (of_token default t (items_amount (item_count_of r) 0 r)))),
                  (
                    (λ p. rw p (arrived (token_of r) amount ∙ by_deposit h _)),
                    (
                      (λ p. rw p (left (token_of r) amount ∙ by_payout h (of_token (token_of r) t amount))),
                      (
                        (λ p. rw p (unless (eqb (get_or e 0 0) 17) default amount ∙ by_deposit h _)),
                        (
                          (λ p. rw p (sym (+ℤ_idr h))),
                          (
                            (λ p. rw p (migration_taken x t default ∙ by_migration h (of_token default t (migration_takes x default)))),
                            (
                              (λ p. rw p (where_to (eqb (other_of r) 1) (token_of r) amount ∙ by_move h _)),
                              tt,
                            ),
                          ),
                        ),
                      ),
                    ),
                  ),
                ),
              ),
            ),
          ),
        ),
      )
      (λ q. rw (q.0, q.1.0, q.1.1.0, q.1.1.1.0, q.1.1.1.1.0, q.1.1.1.1.1.0, q.1.1.1.1.1.1.0, q.1.1.1.1.1.1.1.0, q.1.1.1.1.1.1.1.1.0, q.1.1.1.1.1.1.1.1.1.0, q.1.1.1.1.1.1.1.1.1.1.0, q.1.1.1.1.1.1.1.1.1.1.1.0) (sym (+ℤ_idr h)))
    where
      h : ℤ
      h = vault_holding x t

      amount : ℤ
      amount = integer_of (amount_of r)

      default : ℕ
      default = default_token x

-- 22, of the default token
pub flow_migration : (x r e : List ℕ) → operation_of r ≡ 22
    → vault_holding x (default_token x) +ℤ flow x r e (default_token x) ≡ vault_holding x (default_token x) -ℤ migration_takes x (default_token x)
unfolding deposited moved_in_of paid_out migrated
flow_migration x r e p =
    let d = default_token x in
    rw (p, eq-eqb d d refl) (sym (by_migration (vault_holding x d) (migration_takes x d)))
