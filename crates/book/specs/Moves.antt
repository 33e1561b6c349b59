-- How a step that moves money changes what the book reads, together with the image's goodness: one law a step, composed by `moves_then`.
use Rattle.std.specs.Prelude.{◌≡◌, refl, List, ℕ, ◌+◌, ◌≤◌, ◌<◌}
use Rattle.std.proofs.Common.{◌∙◌, arith}
use Rattle.token.specs.Token.{transfer_rules, transfer_of}
use Rattle.token.specs.Laws.{only_transfer, transfer_tolls, transfer_elsewhere, good_transfer}
use Rattle.storage.specs.Kept.{set_credit_below, set_credit_above, good_set_credit, only_record_balance, good_record_balance}
use Rattle.storage.specs.Facts.{Good}
use Rattle.storage.specs.Setters.{set_credit, record_balance}
use Rattle.image.specs.Layout.{slot, snapshot_at, token_at, toll_at, holdings_at, holding_at, flags, default_token, destination, toll, kind, holding, initialised}
use Rattle.amount.specs.Frame.{same-amount_at}
use Rattle.amount.specs.Biased.{bias}
use Rattle.fields.specs.Frame.{Agree, under, over, part, same-le}
use Rattle.fields.specs.Rules.{AllFail}

-- the vault's holding of the token at address t becomes `new`; its other holdings, all tolls and kinds, the default token, the destination and the flags stay
pub record Moves (t new : ℕ) (l m : List ℕ) : Type 0 where
  pub good : Good m
  pub this : holding m (slot t) 1 ≡ new
  pub other : (u : ℕ) → u < 16 → (u ≡ slot t → ⊥) → holding m u 1 ≡ holding l u 1
  pub tolls : (u : ℕ) → u < 16 → toll m u ≡ toll l u
  pub kinds : (u : ℕ) → u < 16 → kind m u ≡ kind l u
  pub token : default_token m ≡ default_token l
  pub to : destination m ≡ destination l
  pub flagged : flags m ≡ flags l

pub moves_then : {t a b : ℕ} {l m k : List ℕ} → Moves t a l m → Moves t b m k → Moves t b l k
moves_then p q =
    record {
      good = q.good;
      this = q.this;
      other = λ u h d. q.other u h d ∙ p.other u h d;
      tolls = λ u h. q.tolls u h ∙ p.tolls u h;
      kinds = λ u h. q.kinds u h ∙ p.kinds u h;
      token = q.token ∙ p.token;
      to = q.to ∙ p.to;
      flagged = q.flagged ∙ p.flagged;
    }

-- a step that leaves head, tokens and holdings
pub still : (t : ℕ) {l m : List ℕ} → t < 64 → Good m → Agree 0 8 l m → Agree 3680 16768 l m → Moves t (holding l (slot t) 1) l m
still t h g a b =
    record {
      good = g;
      this = same-amount_at (holding_at (slot t) 1) (part (holding_at (slot t) 1) 16 b (omega arith) (omega arith));
      other = λ u k d. same-amount_at (holding_at u 1) (part (holding_at u 1) 16 b (omega arith) (omega arith));
      tolls = λ u k. same-amount_at (toll_at u) (part (toll_at u) 16 b (omega arith) (omega arith));
      kinds = λ u k. same-le 8 (token_at u) (part (token_at u) 8 b (omega arith) (omega arith));
      token = same-le 1 3 (part 3 1 a (omega arith) (omega arith));
      to = same-le 1 7 (part 7 1 a (omega arith) (omega arith));
      flagged = same-le 2 0 (part 0 2 a (omega arith) (omega arith));
    }

-- nothing done
pub moves_none : (t : ℕ) (l : List ℕ) → Good l → Moves t (holding l (slot t) 1) l l
moves_none t l g =
    record { good = g; this = refl; other = λ u h d. refl; tolls = λ u h. refl; kinds = λ u h. refl; token = refl; to = refl; flagged = refl }

-- ---- a transfer that does not fail
module _ (l : List ℕ) (t from to n : ℕ) (g : Good l) (fh : from < 64) (toh : to < 64) (p : bias ≤ n) (f : AllFail (transfer_rules l t from to n)) where
  pub transfer_moves : Moves t (holding (transfer_of l t from to n) (slot t) 1) l (transfer_of l t from to n)
  transfer_moves =
      let o = only_transfer l t from to n fh toh in
      record {
        good = good_transfer l t from to n g fh toh p f;
        this = refl;
        other = λ u h d. transfer_elsewhere l t from to n fh toh u 1 (omega arith) d;
        tolls = transfer_tolls l t from to n fh toh;
        kinds = λ u h. same-le 8 (token_at u) (under (token_at u) 8 (holdings_at (slot t)) 1024 o (omega arith));
        token = same-le 1 3 (under 3 1 (holdings_at (slot t)) 1024 o (omega arith));
        to = same-le 1 7 (under 7 1 (holdings_at (slot t)) 1024 o (omega arith));
        flagged = same-le 2 0 (under 0 2 (holdings_at (slot t)) 1024 o (omega arith));
      }

-- ---- a credit, a snapshot
module _ (l : List ℕ) (t : ℕ) (g : Good l) (i : initialised l ≡ 1) (low : 48 ≤ t) (high : t < 64) (k : 0 < kind l (slot t)) where
  pub credit_moves : (a n : ℕ) → a < 64 → bias ≤ n → n < bias + bias → Moves t (holding l (slot t) 1) l (set_credit l t a n)
  credit_moves a n ah p q =
      still t high (good_set_credit l t a n high ah g i low k p q) (set_credit_below l t a n high ah g.keys 0 8 (omega arith))
      (set_credit_above l t a n high ah g.keys 3680 16768 (omega arith) (omega arith))

  pub snapshot_moves : (q n : ℕ) → Moves t (holding l (slot t) 1) l (record_balance l t q n)
  snapshot_moves q n =
      let o = only_record_balance l t q n in
      still t high (good_record_balance l t q n g i high k) (under 0 8 (snapshot_at (slot t)) 24 o (omega arith)) (over 3680 16768 (snapshot_at (slot t)) 24 o (omega arith))

-- what an earlier step left, for the premises of the next
module _ {t new : ℕ} {l m : List ℕ} (v : Moves t new l m) where
  pub still_begun : initialised l ≡ 1 → initialised m ≡ 1
  still_begun i = rw v.flagged i

  pub still_kind : t < 64 → 0 < kind l (slot t) → 0 < kind m (slot t)
  still_kind h k = rw (v.kinds (slot t) (omega arith)) k
