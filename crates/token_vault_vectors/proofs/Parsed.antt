-- The head of a call, test by test, and what is read with it.
use Rattle.std.proofs.Common.{◌≡◌, refl, sym, ap, ◌∙◌, subst, ℕ, ◌<◌, ◌≤◌, Bool, true, false, not, ltb, eqb, List, ◌++◌, length, take, get_or, replicate, append-nil, length-append, Option, Result, Ok, Err, IfOk, IsErr, IsErrAnd, arith}
use Rattle.std.proofs.KnownBytes.{Consumes-trans}
use lib.Seq.{take-append-le}
use Rattle.std.specs.Io.KnownBytes.{Consumes}
use Rattle.std.specs.Result.{OnOk}
use Rattle.std.specs.Array.{IsWholeChunk}
use Rattle.fields.specs.Bytes.{le}
use Rattle.fields.specs.Logic.{◌and◌, ◌or◌}
use Rattle.fields.specs.Rules.{pick, verdict, stop_at, link_at_lem, ends_at, unlinked, passed, when, ne}
use Rattle.std.specs.Prelude.{[], ◌∷◌}
use Rattle.journal.specs.Calls.{State}
use Rattle.journal.specs.Step.{vault}
use Rattle.token_vault.specs.Preview.{Request, request_step}
use Rattle.vault_vectors.specs.declared.Transaction.{Transaction}
use Rattle.vault_vectors.specs.declared.Transaction.TheVariants.{Begin, Commit, Rollback, Undo}
use Rattle.vault_vectors.specs.Vectors.{PrintsStep}
use Rattle.token_vault_vectors.specs.declared.Fault.{Fault}
use Rattle.token_vault_vectors.specs.declared.Stop.{Stop}
use Rattle.token_vault_vectors.specs.declared.Stop.TheVariants.{Unwritten}
use Rattle.token_vault_vectors.specs.declared.heads.Kind.{Kind}
use Rattle.token_vault_vectors.specs.declared.heads.Kind.TheVariants.{Operation, Transaction as OfTransaction, Preview}
use Rattle.token_vault_vectors.specs.declared.heads.CallHead.{CallHead}
use Rattle.token_vault_vectors.specs.Faults.{state_fault, has_needless, call_head_rules, call_head_fault, record_fault, call_fault}
use Rattle.token_vault_vectors.specs.Numbers.{number_of, code, fault_of, some_number}
use Rattle.token_vault_vectors.specs.Replay.{byte_of, asked, asked_by, events_of, request_of}
use Rattle.token_vault_vectors.specs.Reading.{CallHeadOf, ReadsWhole, ReadsCall, ReadsState, TakesCall}

-- ---- the kinds 1 to 4

pub between : (k : Kind) (t : Transaction) → k ≡ OfTransaction t → true ≡ (ltb 0 (byte_of k) and ltb (byte_of k) 5)
unfolding ◌and◌
between k Begin e = rw e refl
between k Commit e = rw e refl
between k Rollback e = rw e refl
between k Undo e = rw e refl

pub not_between : (k : Kind) → ((t : Transaction) → k ≡ OfTransaction t → ⊥) → false ≡ (ltb 0 (byte_of k) and ltb (byte_of k) 5)
unfolding ◌and◌
not_between Operation h = refl
not_between (OfTransaction t) h = absurd (h t refl)
not_between Preview h = refl

at_most_five : (k : Kind) → byte_of k ≤ 5
at_most_five Operation = omega arith
at_most_five (OfTransaction Begin) = omega arith
at_most_five (OfTransaction Commit) = omega arith
at_most_five (OfTransaction Rollback) = omega arith
at_most_five (OfTransaction Undo) = omega arith
at_most_five Preview = omega arith

-- ---- h is the slice s as an array, and t what the code finds needless
module _ (s h : List ℕ) (w : IsWholeChunk s h 8) (k : Kind) (e : byte_of k ≡ get_or h 0 0) (z : le 2 h 6 ≡ 0) (n m : ℕ) (p : n ≡ le 2 h 2) (q : m ≡ le 2 h 4) (t : Bool) (r : t ≡ (ltb 0 (byte_of k) and ltb (byte_of k) 5) and (ltb 0 n or ltb 0 m)) where
  long : length h ≡ 8
  long = ap length w.same ∙ w.long

  on_slice : (x : ℕ) → x ≡ call_head_fault (length h) h → x ≡ call_head_fault (length s) s
  on_slice x f = f ∙ ap (λ (l : List ℕ). call_head_fault (length l) l) w.same

  known : get_or h 0 0 ≤ 5
  known = let b = at_most_five k in omega arith

  found : t ≡ has_needless h
  unfolding has_needless
  found = r ∙ rw (e, p, q) refl

  pub needless : t ≡ true → 10 ≡ call_head_fault (length s) s
  unfolding call_head_fault
  needless f = on_slice 10 (stop_at (call_head_rules (length h) h) 3 10 (long, (known, (z, sym found ∙ f))) refl)

  pub record_long : t ≡ false → 512 < n → 11 ≡ call_head_fault (length s) s
  unfolding call_head_fault
  record_long f i = on_slice 11 (stop_at (call_head_rules (length h) h) 4 11 (long, (known, (z, (sym found ∙ f, omega arith)))) refl)

  pub events_long : t ≡ false → n ≤ 512 → 1024 < m → 12 ≡ call_head_fault (length s) s
  unfolding call_head_fault
  events_long f i j = on_slice 12 (stop_at (call_head_rules (length h) h) 5 12 (long, (known, (z, (sym found ∙ f, (omega arith, omega arith))))) refl)

  pub well_formed : t ≡ false → n ≤ 512 → m ≤ 1024 → 0 ≡ call_head_fault (length s) s
  unfolding call_head_fault
  well_formed f i j = on_slice 0 (stop_at (call_head_rules (length h) h) 6 0 (long, (known, (z, (sym found ∙ f, (omega arith, (omega arith, tt)))))) refl)

-- ---- a call that was read: h was read of its head
pub head_faulty : {before after : Option (List ℕ)} {b : List ℕ} (h : List ℕ) (f : Fault) (r : Result CallHead Fault) → length h ≤ 8 → Consumes before after h
    → number_of f ≡ call_head_fault (length h) h → IsErr r × IsErrAnd r (λ y. y ≡ f) → ReadsCall before after b r
unfolding call_fault
head_faulty h f (Ok x) i p e (a, b) = absurd b
head_faulty {before} {after} h f (Err y) i p e (a, b) =
    record {
      head = h;
      head_within = i;
      record_read = 0;
      record_within = omega arith;
      consumed = subst (Consumes before after) (sym (append-nil h)) p;
      decided = ap number_of b ∙ e ∙ link_at_lem _ 0 _ (λ z. some_number f (e ∙ z)) refl;
      parsed = tt;
    }

-- and then a record, to the start of the buffer b ++ c
module _ (h b c : List ℕ) (z : 0 ≡ call_head_fault (length h) h) (k : length b ≡ le 2 h 2) where
  record_decided : {before after : Option (List ℕ)} {x : ℕ} (w : ReadsWhole before after b 13 x) → x ≡ call_fault (length h) h w.read
  unfolding call_fault record_fault verdict
  record_decided w = ends_at _ 1 _ (sym z, tt) (w.decided ∙ ap (λ (n : ℕ). pick (not (eqb w.read n)) 13 0) k)

  module _ {before between after : Option (List ℕ)} (i : length h ≤ 8) (p : Consumes before between h) where
    read_of : (r : Result CallHead Fault) → ReadsWhole between after b 13 (code r) → IfOk r (λ d. CallHeadOf h d) → ReadsCall before after (b ++ c) r
    read_of r w q =
        let f = w.within in
        record {
          head = h;
          head_within = i;
          record_read = w.read;
          record_within = omega (arith, length-append b c);
          consumed = Consumes-trans before between after _ _ p (subst (Consumes between after) (sym (take-append-le w.read b c f)) w.consumed);
          decided = record_decided w;
          parsed = q;
        }

    pub record_cut : (f : Fault) (r : Result CallHead Fault) → ReadsWhole between after b 13 (number_of f) → IsErr r × IsErrAnd r (λ y. y ≡ f) → ReadsCall before after (b ++ c) r
    record_cut f (Ok d) w (m, n) = absurd n
    record_cut f (Err y) w (m, n) = read_of (Err y) (rw (sym n) at w) tt

    pub call_read : (d : CallHead) → ReadsWhole between after b 13 0 → CallHeadOf h d → ReadsCall before after (b ++ c) (Ok d)
    call_read d w q = read_of (Ok d) w q

-- ---- image and journal
stays_first : (t : Bool) (f : Fault) (x : ℕ) → number_of f ≡ pick t 5 0 → number_of f ≡ pick t 5 x
stays_first true f x e = e
stays_first false f x e = absurd (some_number f e)

goes_by : (t : Bool) (x y : ℕ) → ◌≡◌ {A = ℕ} 0 (pick t 5 0) → x ≡ y → x ≡ pick t 5 y
goes_by true x y e f = absurd (omega arith)
goes_by false x y e f = f

pub image_cut : {T : Type 0} {before after : Option (List ℕ)} (image journal : List ℕ) (f : Fault) (r : Result T Fault)
    → ReadsWhole before after image 5 (number_of f) → IsErr r × IsErrAnd r (λ y. y ≡ f) → ReadsState before after (vault image journal) (code r)
unfolding state_fault verdict
image_cut image journal f (Ok x) w (a, b) = absurd b
image_cut {before = before} {after} image journal f (Err y) w (a, b) =
    record {
      image_read = w.read;
      image_within = w.within;
      journal_read = 0;
      journal_within = omega arith;
      consumed = subst (Consumes before after) (sym (append-nil (take w.read image))) w.consumed;
      decided = ap number_of b ∙ stays_first (not (eqb w.read (length image))) f _ w.decided;
    }

pub state_read : {before between after : Option (List ℕ)} (image journal : List ℕ) (x : ℕ)
    → ReadsWhole before between image 5 0 → ReadsWhole between after journal 6 x → ReadsState before after (vault image journal) x
unfolding state_fault verdict
state_read {before} {between} {after} image journal x v w =
    record {
      image_read = v.read;
      image_within = v.within;
      journal_read = w.read;
      journal_within = w.within;
      consumed = Consumes-trans before between after _ _ v.consumed w.consumed;
      decided = goes_by (not (eqb v.read (length image))) x _ v.decided w.decided;
    }

-- ---- a call that is answered: its record was read into the buffer b
module _ (h : List ℕ) (n : ℕ) (b : List ℕ) (c : CallHead) (z : 0 ≡ call_fault (length h) h n) (p : CallHeadOf h c) where
  whole_record : n ≡ le 2 h 2
  unfolding call_fault record_fault
  whole_record = (passed (when (ne n (le 2 h 2)) 13 ∷ []) refl (unlinked _ (sym z)).1.0).0

  same : asked c.kind (take c.record_length b) (replicate c.events_length c.fill) ≡ request_of h (take n b)
  unfolding events_of
  same = rw (p.record_length ∙ sym whole_record, p.events_length, p.fill) (asked_by c.kind h (take n b) p.kind)

pub taken : (s : State) {before after : Option (List ℕ)} {b : List ℕ} {c : CallHead} → ReadsCall before after b (Ok c) → {text image journal : List ℕ} {fault : ℕ} {Printed : List ℕ → Type 0}
    → PrintsStep (request_step s (asked c.kind (take c.record_length b) (replicate c.events_length c.fill))) text image journal → fault ≡ 0 → Printed text → TakesCall before after s b fault image journal Printed
taken s {b = b} {c} e {text} {image} {journal} {fault} {Printed} q f g =
    let o : PrintsStep (request_step s (request_of e.head (take e.record_read b))) text image journal =
    subst (λ (x : Request). PrintsStep (request_step s x) text image journal) (same e.head e.record_read b c e.decided e.parsed) q in
    record {
      head = e.head;
      head_within = e.head_within;
      record_read = e.record_read;
      record_within = e.record_within;
      consumed = e.consumed;
      answered = record { decided = f ∙ e.decided; whole = λ _. record { printed = refl; changed = o.changed; entered = o.entered }; other = λ m. absurd (m f) };
      printed = λ _. subst Printed o.printed g;
    }

pub no_fault : {T : Type 0} (r : Result T Stop) (e : _) → IsErr r × IsErrAnd r (λ y. y ≡ Unwritten e) → fault_of r ≡ 0
no_fault (Ok x) e (a, b) = refl
no_fault (Err y) e (a, b) = rw b refl

pub nothing_said : {T E : Type 0} (r : Result T E) (P : Type 0) → IsErr r → OnOk r P
nothing_said (Ok x) P a = absurd (let w : ◌≡◌ {A = Bool} true false = cc in cc)
nothing_said (Err y) P a = tt
