-- The writes of Setters: the bytes that each leaves, and that a good image stays good.
use Rattle.std.specs.Prelude.{◌≡◌, Bool, List, ℕ, ◌+◌, ◌≤◌, ◌<◌}
use Rattle.std.proofs.Math.Path.{refl}
use Rattle.std.proofs.Math.Bool.{true, false}
use Rattle.std.proofs.Common.{arith}
use Rattle.image.specs.Layout.{slot, cap_at, snapshot_at, tracked_key_at, credits_at, credit_at, capped_set, tracked_count, kind, initialised, with_bit}
use Rattle.image.specs.Good.{tracked}
use Rattle.amount.specs.Frame.{only_put_amount}
use Rattle.amount.specs.Biased.{bias, put_amount}
use Rattle.fields.specs.Frame.{Only, only_put, only_then, only_in, Agree, under, over, only_self, agree_then}
use Rattle.fields.specs.Rules.{pick}
use Rattle.fields.specs.Bytes.{put}
use Rattle.storage.specs.Facts.{Keys, Good}
use Rattle.storage.specs.Room.{room, not_there}
use Rattle.storage.specs.Writes.{good_credit, good_snapshot, good_cap, good_key}
use Rattle.storage.specs.Regions.{same_flags, same_keys}
use Rattle.storage.specs.Setters.{track_key, credit_key, set_credit, set_cap, record_balance}

-- ---- a tracked key
pub tracked_already : (l : List ℕ) (k : ℕ) → tracked l (tracked_count l) k ≡ true → track_key l k ≡ l
unfolding track_key
tracked_already l k e = rw e

pub tracked_anew : (l : List ℕ) (k : ℕ) → tracked l (tracked_count l) k ≡ false → track_key l k ≡ put 8 (put 2 l (tracked_key_at (tracked_count l)) k) 88 (tracked_count l + 1)
unfolding track_key
tracked_anew l k e = rw e

-- there is room for a key that is not tracked
pub key_room : (l : List ℕ) (k : ℕ) → Keys l → k < 1088 → tracked l (tracked_count l) k ≡ false → tracked_count l < 1088
key_room l k g h e = room l k g h (not_there l (tracked_count l) k e)

pub good_track : (l : List ℕ) (k : ℕ) → Good l → initialised l ≡ 1 → k < 1088 → Good (track_key l k)
unfolding track_key
good_track l k g i h = go (tracked l (tracked_count l) k) refl
  where
    go : (b : Bool) → tracked l (tracked_count l) k ≡ b → Good (pick b l (put 8 (put 2 l (tracked_key_at (tracked_count l)) k) 88 (tracked_count l + 1)))
    go true e = g
    go false e = good_key l k g i (key_room l k g.keys h e) h (not_there l (tracked_count l) k e)

module _ (l : List ℕ) (k : ℕ) (g : Keys l) (h : k < 1088) where
  only_track : Only 88 3592 l (track_key l k)
  unfolding track_key
  only_track = go (tracked l (tracked_count l) k) refl
    where
      go : (b : Bool) → tracked l (tracked_count l) k ≡ b → Only 88 3592 l (pick b l (put 8 (put 2 l (tracked_key_at (tracked_count l)) k) 88 (tracked_count l + 1)))
      go true e = only_self 88 3592 l
      go false e =
          let r = key_room l k g h e in
          only_then (only_in 88 3592 (tracked_key_at (tracked_count l)) 2 (omega arith) (omega arith) (only_put 2 l (tracked_key_at (tracked_count l)) k))
          (only_in 88 3592 88 8 (omega arith) (omega arith) (only_put 8 _ 88 (tracked_count l + 1)))

  -- the bytes below the count, those between the count and the keys, and those above the keys
  pub track_below : (b w : ℕ) → b + w ≤ 88 → Agree b w l (track_key l k)
  track_below b w q = under b w 88 3592 only_track q

  pub track_above : (b w : ℕ) → 3680 ≤ b → Agree b w l (track_key l k)
  track_above b w q = over b w 88 3592 only_track (omega arith)

-- ---- a credit
module _ (l : List ℕ) (t a n : ℕ) (th : t < 64) (ah : a < 64) where
  only_credit : Only (credits_at (slot t)) 1024 l (put_amount l (credit_at (slot t) a) n)
  only_credit = only_in (credits_at (slot t)) 1024 (credit_at (slot t) a) 16 (omega arith) (omega arith) (only_put_amount l (credit_at (slot t) a) n)

  pub credit_keys : Keys l → Keys (put_amount l (credit_at (slot t) a) n)
  credit_keys g = same_keys (under 88 8 (credits_at (slot t)) 1024 only_credit (omega arith)) (under 1504 2176 (credits_at (slot t)) 1024 only_credit (omega arith)) g

  module _ (g : Keys l) where
    pub set_credit_below : (b w : ℕ) → b + w ≤ 88 → Agree b w l (set_credit l t a n)
    unfolding set_credit
    set_credit_below b w q =
        agree_then (under b w (credits_at (slot t)) 1024 only_credit (omega arith)) (track_below _ (credit_key t a) (credit_keys g) (omega arith) b w q)

    -- tokens and holdings
    pub set_credit_above : (b w : ℕ) → 3680 ≤ b → b + w ≤ 20448 → Agree b w l (set_credit l t a n)
    unfolding set_credit
    set_credit_above b w p q =
        agree_then (under b w (credits_at (slot t)) 1024 only_credit (omega arith)) (track_above _ (credit_key t a) (credit_keys g) (omega arith) b w p)

  pub good_set_credit : Good l → initialised l ≡ 1 → 48 ≤ t → 0 < kind l (slot t) → bias ≤ n → n < bias + bias → Good (set_credit l t a n)
  unfolding set_credit
  good_set_credit g i low k p q =
      good_track _ (credit_key t a) (good_credit l (slot t) a n g (omega arith) ah k p q)
      (rw (same_flags (under 0 2 (credits_at (slot t)) 1024 only_credit (omega arith))) i) (omega arith)

-- ---- a cap
module _ (l : List ℕ) (a n : ℕ) (ah : a < 64) where
  abbrev pub capped : List ℕ
  capped = put_amount (put 8 l 80 (with_bit (capped_set l) a)) (cap_at a) n

  below_cap : (b w : ℕ) → b + w ≤ 80 → Agree b w l capped
  below_cap b w q =
      agree_then (under b w 80 8 (only_put 8 l 80 (with_bit (capped_set l) a)) q) (under b w (cap_at a) 16 (only_put_amount _ (cap_at a) n) (omega arith))

  above_cap : (b w : ℕ) → 1120 ≤ b → Agree b w l capped
  above_cap b w q =
      agree_then (over b w 80 8 (only_put 8 l 80 (with_bit (capped_set l) a)) (omega arith)) (over b w (cap_at a) 16 (only_put_amount _ (cap_at a) n) (omega arith))

  count_cap : Agree 88 8 l capped
  count_cap =
      agree_then (over 88 8 80 8 (only_put 8 l 80 (with_bit (capped_set l) a)) (omega arith)) (under 88 8 (cap_at a) 16 (only_put_amount _ (cap_at a) n) (omega arith))

  pub cap_keys : Keys l → Keys capped
  cap_keys g = same_keys count_cap (above_cap 1504 2176 (omega arith)) g

  module _ (g : Keys l) where
    pub set_cap_below : (b w : ℕ) → b + w ≤ 80 → Agree b w l (set_cap l a n)
    unfolding set_cap
    set_cap_below b w q = agree_then (below_cap b w q) (track_below _ (1024 + a) (cap_keys g) (omega arith) b w (omega arith))

    pub set_cap_above : (b w : ℕ) → 3680 ≤ b → Agree b w l (set_cap l a n)
    unfolding set_cap
    set_cap_above b w q = agree_then (above_cap b w (omega arith)) (track_above _ (1024 + a) (cap_keys g) (omega arith) b w q)

  pub good_set_cap : Good l → initialised l ≡ 1 → bias < n → n < bias + bias → Good (set_cap l a n)
  unfolding set_cap
  good_set_cap g i p q =
      good_track _ (1024 + a) (good_cap l a n g i ah p q) (rw (same_flags (below_cap 0 2 (omega arith))) i) (omega arith)

-- ---- a snapshot
module _ (l : List ℕ) (t q n : ℕ) where
  pub only_record_balance : Only (snapshot_at (slot t)) 24 l (record_balance l t q n)
  unfolding record_balance
  only_record_balance =
      let s = snapshot_at (slot t) in
      only_then (only_in s 24 s 4 (omega arith) (omega arith) (only_put 4 l s 1))
      (only_then (only_in s 24 (s + 4) 4 (omega arith) (omega arith) (only_put 4 _ (s + 4) q)) (only_in s 24 (s + 8) 16 (omega arith) (omega arith) (only_put_amount _ (s + 8) n)))

  pub good_record_balance : Good l → initialised l ≡ 1 → t < 64 → 0 < kind l (slot t) → Good (record_balance l t q n)
  unfolding record_balance
  good_record_balance g i th k = good_snapshot l (slot t) q n g i (omega arith) k
