-- A whole operation, from what its parts say.
use mathlib.Core.Path.{◌≡◌, refl, ap, ◌∙◌}
use mathlib.Core.List.{List, [], ◌∷◌, ◌++◌, append-nil, append_assoc}
use Prim.Native.Nat.{ℕ, suc, ◌+◌, ◌≤◌, ◌<◌}
use native.Mathlib.Omega.{arith}
use lib.ListN.{length, length-append}
use Rattle.events.specs.Event.{EventFields, event_buffer}
use Rattle.events.specs.Buffer.{append-event}
use Rattle.token.specs.Token.{transfer_of}
use Rattle.token.specs.Laws.{good_transfer}
use Rattle.storage.specs.Facts.{Keys, Good}
use Rattle.amount.specs.Biased.{bias}
use Rattle.payouts.specs.Laws.{items-length, pay_free}
use Rattle.payouts.specs.Parts.{put_events}
use Rattle.payouts.specs.Payouts.{Payout, items, pay_number, payouts_events}

-- events put one after another make the buffer of all of them
put_all : (fs es : List EventFields) (i : ℕ) → length es ≡ i → i + length fs ≤ 16 → put_events (event_buffer es) i fs ≡ event_buffer (es ++ fs)
unfolding put_events
put_all [] es i h k = rw append-nil
put_all (f ∷ fs) es i h k =
    ap (λ (b : List ℕ). put_events b (suc i) fs) (append-event es i f h (omega arith))
    ∙ (put_all fs (es ++ (f ∷ [])) (suc i) (rw length-append (omega arith)) (omega arith) ∙ rw append_assoc)

events_length : (ps : List Payout) (t seq caller by : ℕ) (l : List ℕ) → length (payouts_events ps t seq caller by l) ≡ length ps
unfolding payouts_events
events_length [] t seq caller by l = refl
events_length (p ∷ ps) t seq caller by l = ap suc (events_length ps t seq caller by _)

-- ---- of the items of a record: their events in the buffer, and how many there are
module _ (n : ℕ) (r : List ℕ) (t seq caller by : ℕ) (l : List ℕ) where
  pub all_counted : length (payouts_events (items n 0 r) t seq caller by l) ≡ n
  all_counted = events_length (items n 0 r) t seq caller by l ∙ items-length n 0 r

  pub all_written : {o v : List ℕ} → o ≡ event_buffer [] → n ≤ 16 → v ≡ put_events o 0 (payouts_events (items n 0 r) t seq caller by l) → v ≡ event_buffer (payouts_events (items n 0 r) t seq caller by l)
  all_written e few q =
      let es = payouts_events (items n 0 r) t seq caller by l in
      let k : length es ≡ n = all_counted in
      q ∙ (ap (λ (b : List ℕ). put_events b 0 es) e ∙ put_all es [] 0 refl (omega arith))

-- ---- operation 8
pub sent_keys : (l : List ℕ) (t to n : ℕ) {y : List ℕ} → Good l → to < 64 → bias ≤ n → 0 ≡ pay_number l t to n → y ≡ transfer_of l t 1 to n → Keys y
sent_keys l t to n g th p e q = rw q (good_transfer l t 1 to n g (omega arith) th p (pay_free l t to n e refl).0).keys
