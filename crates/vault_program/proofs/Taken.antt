-- A record read, and the records taken one after another.
use mathlib.Core.Path.{◌≡◌, refl, sym, ap, ◌∙◌}
use mathlib.Core.Bool.{Bool, false}
use mathlib.Core.List.{List, [], ◌∷◌, ◌++◌, map, map-append}
use mathlib.Core.Logic.{◌⊎◌, inl, inr}
use Prim.Native.Nat.{ℕ, zero, suc, ◌+◌, ◌-◌, ◌<◌, ◌≤◌}
use native.Mathlib.Omega.{arith}
use lib.ListN.{length, take, drop, replicate, take-append-drop, length-append, replicate-append-replicate}
use lib.Seq.{length-take-le, take-length, take-take, take_all}
use Rattle.std.proofs.Common.{append-nil}
use Rattle.std.proofs.lemmas.List.{drop_all}
use Rattle.fields.specs.Rules.{pick}
use Rattle.image.specs.Good.{good_image}
use Rattle.vault_program.specs.Program.{answer_line, record_step, Prints}
use Rattle.vault_program.specs.Records.{read_text, read_image, AnswersRead, image_after, record_lengths, TakesRecords, TakesImage}
use Rattle.vault_program.proofs.Short.{answered, short_record, short_image, answered-line}

-- ---- one record
module _ (l b : List ℕ) where
  text_some : (n : ℕ) → 0 < n → answer_line (record_step l (take n b)).answer ≡ read_text l b n
  unfolding read_text
  text_some zero h = absurd (omega arith)
  text_some (suc n) h = refl

  image_some : (n : ℕ) → 0 < n → (record_step l (take n b)).state.image ≡ read_image l b n
  unfolding read_image
  image_some zero h = absurd (omega arith)
  image_some (suc n) h = refl

  pub text_none : length b ≡ 0 → read_text l b (length b) ≡ []
  unfolding read_text
  text_none e = rw e refl

  pub read_none : (n : ℕ) {text : List ℕ} → n ≡ 0 → text ≡ [] → AnswersRead l b n text l
  unfolding read_text read_image
  read_none n e t = record { within = omega arith; printed = t ∙ rw e refl; carried = rw e refl; short_line = λ p q. absurd (omega arith); short_image = λ p q. absurd (omega arith) }

  read_some : (n : ℕ) {text image : List ℕ} → 0 < n → n ≤ length b → Prints (record_step l (take n b)) text image → AnswersRead l b n text image
  read_some n h f p =
      record {
        within = f;
        printed = p.printed ∙ text_some n h;
        carried = p.carried ∙ image_some n h;
        short_line = λ _ q. p.printed ∙ rw (short q) (answered-line _ l);
        short_image = λ _ q. p.carried ∙ rw (short q) refl;
      }
    where
      short : n < 448 → record_step l (take n b) ≡ answered (pick (good_image l) 32 30) l
      short q = short_record l (take n b) (λ z. omega (arith, length-take-le n b f))

  -- of all bytes of b
  pub text_all : 0 < length b → answer_line (record_step l b).answer ≡ read_text l b (length b)
  text_all h = ap (λ (x : List ℕ). answer_line (record_step l x).answer) (sym (take-length b)) ∙ text_some (length b) h

  pub read_all : {text image : List ℕ} → 0 < length b → Prints (record_step l b) text image → AnswersRead l b (length b) text image
  read_all h p = read_some (length b) h (omega arith) (rw (take-length b) p)

-- the same of the whole buffer, of which n bytes were read
module _ (l b : List ℕ) (n : ℕ) (h : n ≤ length b) where
  pub text_read : read_text l (take n b) (length (take n b)) ≡ read_text l b n
  unfolding read_text
  text_read = rw (length-take-le n b h) (go n)
    where
      go : (k : ℕ) → read_text l (take k b) k ≡ read_text l b k
      go zero = refl
      go (suc k) = rw (take-take (suc k) (suc k) b (omega arith)) refl

  image_read : read_image l (take n b) (length (take n b)) ≡ read_image l b n
  unfolding read_image
  image_read = rw (length-take-le n b h) (go n)
    where
      go : (k : ℕ) → read_image l (take k b) k ≡ read_image l b k
      go zero = refl
      go (suc k) = ap (λ (x : List ℕ). (record_step l x).state.image) (take-take (suc k) (suc k) b (omega arith))

  pub all_read : {text image : List ℕ} → AnswersRead l (take n b) (length (take n b)) text image → AnswersRead l b n text image
  all_read a =
      let e : length (take n b) ≡ n = length-take-le n b h in
      record {
        within = h;
        printed = a.printed ∙ text_read;
        carried = a.carried ∙ image_read;
        short_line = λ p q. a.short_line (rw e p) (rw e q);
        short_image = λ p q. a.short_image (rw e p) (rw e q);
      }

-- ---- the records, all whole so far
pub record Whole (l image : List ℕ) (taken : ℕ) : Type 0 where
  pub records : List (List ℕ)
  pub counted : length records ≡ taken
  pub lengths : map length records ≡ replicate taken 448
  pub carried : image ≡ image_after l records

pub none_taken : (l : List ℕ) → Whole l l 0
unfolding image_after
none_taken l = record { records = []; counted = refl; lengths = refl; carried = refl }

after_more : (l : List ℕ) (rs : List (List ℕ)) (r : List ℕ) → image_after l (rs ++ (r ∷ [])) ≡ (record_step (image_after l rs) r).state.image
unfolding image_after
after_more l [] r = refl
after_more l (x ∷ rs) r = after_more (record_step l x).state.image rs r

last_whole : (k : ℕ) → ◌++◌ {A = ℕ} (replicate k 448) (448 ∷ []) ≡ replicate (k + 1) 448
last_whole k = replicate-append-replicate k 1 448

lengths_some : (k n : ℕ) → 0 < n → replicate k 448 ++ (n ∷ []) ≡ record_lengths (k + 1) n
unfolding record_lengths
lengths_some k zero h = absurd (omega arith)
lengths_some k (suc n) h = let e : k + 1 - 1 ≡ k = omega arith in rw e

lengths_whole : (k : ℕ) → 0 < k → replicate k 448 ≡ record_lengths k 448
lengths_whole k h =
    let e : k ≡ k - 1 + 1 = omega arith in
    ap (λ (i : ℕ). replicate i 448) e ∙ sym (last_whole (k - 1)) ∙ lengths_some (k - 1) 448 (omega arith) ∙ ap (λ (i : ℕ). record_lengths i 448) (sym e)

module _ {l m : List ℕ} {k : ℕ} (w : Whole l m k) where
  pub all_taken : {is_written : Bool} → k ≡ 18446744073709551615 → TakesRecords l m k 448 is_written
  all_taken e = record { records = w.records; counted = w.counted; lengths = w.lengths ∙ lengths_whole k (omega arith); carried = w.carried; ended = inr (inr e) }

  module _ {b : List ℕ} {n : ℕ} {text image : List ℕ} (a : AnswersRead m b n text image) where
    pub no_more : {is_written : Bool} → n ≡ 0 → TakesRecords l image k n is_written
    unfolding read_image record_lengths
    no_more e = record { records = w.records; counted = w.counted; lengths = w.lengths ∙ rw e refl; carried = a.carried ∙ rw e w.carried; ended = inl (omega arith) }

    module _ (h : 0 < n) where
      abbrev one : List (List ℕ)
      one = w.records ++ (take n b ∷ [])

      one_counted : length one ≡ k + 1
      one_counted = length-append w.records (take n b ∷ []) ∙ ap (λ (i : ℕ). i + 1) w.counted

      one_carried : image ≡ image_after l one
      one_carried = a.carried ∙ sym (image_some m b n h) ∙ ap (λ (x : List ℕ). (record_step x (take n b)).state.image) w.carried ∙ sym (after_more l w.records (take n b))

      one_lengths : map length one ≡ replicate k 448 ++ (n ∷ [])
      one_lengths = map-append length w.records (take n b ∷ []) ∙ rw (w.lengths, length-take-le n b a.within) refl

      pub last_taken : {is_written : Bool} → (n < 448) ⊎ (is_written ≡ false) → TakesRecords l image (k + 1) n is_written
      last_taken (inl e) = record { records = one; counted = one_counted; lengths = one_lengths ∙ lengths_some k n h; carried = one_carried; ended = inl e }
      last_taken (inr e) = record { records = one; counted = one_counted; lengths = one_lengths ∙ lengths_some k n h; carried = one_carried; ended = inr (inl e) }

      pub one_more : n ≡ 448 → Whole l image (k + 1)
      one_more e = record { records = one; counted = one_counted; lengths = one_lengths ∙ rw e (last_whole k); carried = one_carried }

-- ---- the image
module _ (l : List ℕ) where
  pub taken_none : {image : List ℕ} {last : ℕ} {is_written : Bool} → length l < 36832 → image ≡ (record_step l []).state.image → TakesImage l (length l) (answer_line (record_step l []).answer) image 0 last is_written
  taken_none h e =
      let short : record_step l [] ≡ answered 30 l = short_image l [] (λ z. omega arith) in
      record {
        short_text = λ _. rw (take-length l) refl;
        short_line = λ _. rw short (answered-line 30 l);
        short_image = λ _. e ∙ rw short refl;
        short_taken = λ _. refl;
        whole = λ e. absurd (omega arith);
      }

-- the same of the whole buffer, of which n bytes were read
pub image_taken : (b : List ℕ) (n : ℕ) {text image : List ℕ} {taken last : ℕ} {is_written : Bool} → length b ≡ 36832 → n ≤ 36832
    → TakesImage (take n b) (length (take n b)) text image taken last is_written → TakesImage b n text (image ++ drop n b) taken last is_written
image_taken b n {image = image} {taken} {last} {is_written} h f t =
    let e : length (take n b) ≡ n = length-take-le n b (omega arith) in
    record {
      short_text = λ q. t.short_text (rw e q) ∙ rw (take-length (take n b)) refl;
      short_line = λ q. t.short_line (rw e q);
      short_image = λ q. ap (λ (x : List ℕ). x ++ drop n b) (t.short_image (rw e q)) ∙ take-append-drop n b;
      short_taken = λ q. t.short_taken (rw e q);
      whole = λ q. all q (t.whole (e ∙ q));
    }
  where
    all : n ≡ 36832 → TakesRecords (take n b) image taken last is_written → TakesRecords b (image ++ drop n b) taken last is_written
    all q w =
        let i : take n b ≡ b = take_all n b (omega arith) in
        let d : drop n b ≡ [] = drop_all n b (omega arith) in
        rw (d, append-nil image) (rw i at w)
