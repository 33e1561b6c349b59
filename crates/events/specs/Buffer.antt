-- Laws of the event buffer: its length, one event more, and an event read back.
use Rattle.std.specs.Prelude.{◌≡◌, refl, List, [], ◌∷◌, ◌++◌, Bool, true, false, ℕ, zero, suc, ◌+◌, ◌*◌, ◌-◌, ◌≤◌, ◌<◌, length, get_or, replicate, take, drop}
use Rattle.std.proofs.Common.{sym, ap, ◌∙◌, append_assoc, append-nil, arith, length-append, take_at, drop_at, drop-drop}
use Rattle.std.proofs.Math.Seq.{drop-length}
use Rattle.std.proofs.Math.Nat.{sub-zero, zero-sub, suc-sub-suc}
use Rattle.std.proofs.lemmas.List.{length-replicate}
use Rattle.fields.specs.Bytes.{put}
use Rattle.fields.specs.Rules.{passed}
use Rattle.amount.specs.Biased.{bias, num, put_amount}
use Rattle.events.specs.Splice.{splice, bytes_of, amount_bytes, length-amount_bytes, put-splice, put_next, put_amount-next, byte_of}
use Rattle.events.specs.Kinds.{deposited_event, token_deposited_event, paused_event, unpaused_event}
use Rattle.events.specs.Event.{EventFields, event_head, event_bytes, put_event, event_run, event_buffer, buffer_rules, buffer_number}

pub length-event_bytes : (e : EventFields) → length (event_bytes e) ≡ 56
unfolding event_bytes event_head
length-event_bytes e = simp (length-append, length-amount_bytes)

pub length-event_run : (es : List EventFields) → length (event_run es) ≡ 56 * length es
unfolding event_run
length-event_run [] = refl
length-event_run (e ∷ es) = rw (length-append, length-event_bytes, length-event_run es) (omega arith)

pub length-event_buffer : (es : List EventFields) → length es ≤ 16 → length (event_buffer es) ≡ 896
unfolding event_buffer
length-event_buffer es h = rw (length-append, length-event_run, length-replicate) (omega arith)

pub buffer_none : event_buffer [] ≡ replicate 896 0
unfolding event_buffer event_run
buffer_none = refl

pub buffer_cleared : (l : List ℕ) → length l ≡ 896 → replicate (length l) 0 ≡ event_buffer []
unfolding event_buffer event_run
buffer_cleared l h = rw h

-- ---- one event more
run_snoc : (es : List EventFields) (e : EventFields) → event_run (es ++ (e ∷ [])) ≡ event_run es ++ event_bytes e
unfolding event_run
run_snoc [] e = append-nil (event_bytes e)
run_snoc (x ∷ es) e = rw (run_snoc es e, append_assoc)

drop-replicate : (m n : ℕ) → drop m (replicate {A = ℕ} n 0) ≡ replicate (n - m) 0
drop-replicate zero n = rw sub-zero
drop-replicate (suc m) zero = rw zero-sub
drop-replicate (suc m) (suc n) = rw suc-sub-suc (drop-replicate m n)

pub append-event : (es : List EventFields) (i : ℕ) (e : EventFields) → length es ≡ i → i < 16 → put_event (event_buffer es) i e ≡ event_buffer (es ++ (e ∷ []))
unfolding put_event event_buffer splice
append-event es i e h k =
    let z : List ℕ = replicate (896 - 56 * length es) 0 in
    let front : length (event_run es) ≡ 56 * i = rw (length-event_run, h) in
    let p : take (56 * i) (event_run es ++ z) ≡ event_run es = take_at (event_run es) z (56 * i) front in
    let n : 896 - 56 * length es - length (event_bytes e) ≡ 896 - 56 * length (es ++ (e ∷ [])) = rw (length-append, length-event_bytes) (omega arith) in
    let q : drop (56 * i + length (event_bytes e)) (event_run es ++ z) ≡ replicate (896 - 56 * length (es ++ (e ∷ []))) 0 =
    sym (drop-drop (length (event_bytes e)) (56 * i) _) ∙ ap (drop (length (event_bytes e))) (drop_at (event_run es) z (56 * i) front)
    ∙ drop-replicate (length (event_bytes e)) (896 - 56 * length es) ∙ ap (λ (m : ℕ). replicate m 0) n in
    rw (p, q, run_snoc, append_assoc)

-- the same for a caller of `put_event`: the events so far are es, and f, the fields of the event written in the place i, are e
pub appended : {old new : List ℕ} (es : List EventFields) (i : ℕ) {e f : EventFields} → old ≡ event_buffer es → f ≡ e → new ≡ put_event old i f → length es ≡ i → i < 16 → new ≡ event_buffer (es ++ (e ∷ []))
appended es i {e} p g q h k = q ∙ (λ t. put_event (p t) i (g t)) ∙ append-event es i e h k

-- .. of the first event
pub written_one : {old new : List ℕ} {e f : EventFields} → old ≡ event_buffer [] → f ≡ e → new ≡ put_event old 0 f → new ≡ event_buffer (e ∷ [])
written_one p g q = appended [] 0 p g q refl (omega arith)

-- ---- the bytes of an event
pub head_written : (l : List ℕ) (at : ℕ) (e : EventFields) → at + 8 ≤ length l → e.kind < 256 → e.first < 256 → e.second < 256 → e.yes < 256
    → put 4 (put 1 (put 1 (put 1 (put 1 l at e.kind) (at + 1) e.first) (at + 2) e.second) (at + 3) e.yes) (at + 4) 0 ≡ splice l at (event_head e)
unfolding event_head bytes_of
head_written l at e h a b c d =
    rw (
      put-splice 1 l at e.kind (omega arith),
      byte_of e.kind a,
      put_next l at 1 _ refl 1 e.first (omega arith),
      byte_of e.first b,
      put_next l at 2 _ refl 1 e.second (omega arith),
      byte_of e.second c,
      put_next l at 3 _ refl 1 e.yes (omega arith),
      byte_of e.yes d,
      put_next l at 4 _ refl 4 0 (omega arith),
    )

pub yes_byte : (b : Bool) → num b < 256
yes_byte true = omega arith
yes_byte false = omega arith

head_long : (e : EventFields) → length (event_head e) ≡ 8
unfolding event_head
head_long e = refl

one_long : (e : EventFields) → length (event_head e ++ amount_bytes e.number0) ≡ 24
one_long e = rw (length-append, head_long, length-amount_bytes)

two_long : (e : EventFields) → length ((event_head e ++ amount_bytes e.number0) ++ amount_bytes e.number1) ≡ 40
two_long e = rw (length-append, one_long, length-amount_bytes)

three_long : (e : EventFields) → length (((event_head e ++ amount_bytes e.number0) ++ amount_bytes e.number1) ++ amount_bytes e.number2) ≡ 56
three_long e = rw (length-append, two_long, length-amount_bytes)

-- .. and its numbers behind them, in a list of 56 bytes
pub bytes_written : (l : List ℕ) (e : EventFields) → length l ≡ 56 → put_amount (put_amount (put_amount (splice l 0 (event_head e)) 8 e.number0) 24 e.number1) 40 e.number2 ≡ event_bytes e
unfolding event_bytes splice
bytes_written l e h =
    let z : drop 56 l ≡ [] = ap (λ (k : ℕ). drop k l) (sym h) ∙ drop-length l in
    rw (
      put_amount-next l 0 8 (event_head e) (head_long e) e.number0 (omega arith),
      put_amount-next l 0 24 _ (one_long e) e.number1 (omega arith),
      put_amount-next l 0 40 _ (two_long e) e.number2 (omega arith),
      three_long e,
      z,
      append-nil,
      append_assoc,
      append_assoc,
    )

-- the buffer's first byte is the kind of the first event, as the book reads it
pub first_byte : (e : EventFields) (es : List EventFields) → get_or (event_buffer (e ∷ es)) 0 0 ≡ e.kind
unfolding event_buffer event_run event_bytes event_head
first_byte e es = refl

-- ---- refusal 33
pub buffer_long : (l : List ℕ) → buffer_number l ≡ 0 → length l ≡ 896
unfolding buffer_number
buffer_long l z = (passed (buffer_rules l) refl z).0

-- ---- worked examples
deposited-bytes : event_bytes (deposited_event 2 (bias + 900) (bias + 1000))
    ≡ 2 ∷ 2 ∷ 0 ∷ 0 ∷ 0 ∷ 0 ∷ 0 ∷ 0 ∷ 132 ∷ 3 ∷ (replicate 14 0 ++ (232 ∷ 3 ∷ replicate 30 0))
unfolding event_bytes event_head amount_bytes bytes_of bias deposited_event
deposited-bytes = refl

deposit_and_fee : (l : List ℕ) → l ≡ put_event (event_buffer (deposited_event 2 (bias + 1) (bias + 1) ∷ [])) 1 (token_deposited_event 2 (bias + 10) (bias + 9) (bias + 1))
    → l ≡ event_buffer (deposited_event 2 (bias + 1) (bias + 1) ∷ token_deposited_event 2 (bias + 10) (bias + 9) (bias + 1) ∷ [])
deposit_and_fee l q = appended (deposited_event 2 (bias + 1) (bias + 1) ∷ []) 1 refl refl q refl (omega arith)

two_events : length (event_buffer (paused_event 2 7 ∷ unpaused_event 2 8 ∷ [])) ≡ 896
unfolding event_buffer event_run event_bytes event_head amount_bytes bytes_of bias paused_event unpaused_event
two_events = refl
