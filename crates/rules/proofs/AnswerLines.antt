-- The line of an answer, both ways: read together with the operation that it answers, what is written is read back, and no other line is read so. It goes value by value
-- along the form, by the laws of readers (Reading, SnapshotBytes).
use mathlib.Core.Path.{◌≡◌, refl, sym, ◌∙◌, ap, subst}
use mathlib.Core.Bool.{Bool, true, false, cond}
use mathlib.Core.List.{List, [], ◌∷◌, ◌++◌, flat_map}
use mathlib.Core.Option.{some}
use Prim.Native.Nat.{ℕ}
use native.Mathlib.Omega.{arith}
use borrow.Author.Tests.{ltb-false, eqb-true, eqb-false}
use lib.Dec.{ltb, eqb}
use lib.ListN.{length}
use Rattle.rules.specs.Lists.{first, All}
use Rattle.rules.specs.RoomAndSoundLedger.{longest_name, IsByte}
use Rattle.rules.specs.AnswerNumbers.{Value, Amount, Identifier, Version, Fence, Count, Field, YesOrNo, TheName, SnapshotBytes, Reply, reply}
use Rattle.rules.specs.AccountRules.{is_too_long}
use Rattle.rules.specs.SnapshotsMigrationCertificates.{bytes_of, twos_complement, reads, read_number, read_amount, read_name, read_snapshot, amount_bytes, name_bytes, snapshot_bytes, has_long_name}
use Rattle.rules.specs.Frames.{bytes_of_line, line_of_bytes, value_bytes, reply_bytes, answer_line}
use Rattle.rules.specs.Recorder.{Answers, answer_table, forms_in, form_of, unless, read_like, read_likes, read_form, read_answer, answer_of_bytes, answer_in, answer_of_line, Holds, HoldsAll, OfForm, CanAnswer}
use Rattle.rules.proofs.Tests.{by-test, by-option, none-some}
use Rattle.rules.proofs.Lists.{first_passes, first-all, all_join}
use Rattle.rules.proofs.Numbers.{bytes_fit}
use Rattle.rules.proofs.Reading.{ReadsBack, back-then, back_last, whole_back, Read, ReadsAfter, ReadsOnly, only-reads, only_then, whole-only, number-back, number-only, amount-back, amount-only, name_back, name-only}
use Rattle.rules.proofs.SnapshotBytes.{read_snapshot-back, read_snapshot-only, snapshot-is-bytes}
use Rattle.rules.proofs.FrameBytes.{line-back, line-only}

-- ── a value ────────────────────────────────────────────────────────────────────────────────────

short-name : (n : ℕ) → ltb longest_name n ≡ false → IsByte n
short-name n e = omega (arith, ltb-false longest_name n e)

pub like-back : (v w : Value) → Holds v w → ReadsBack (read_like v) (value_bytes w) w
like-back (Amount y) w (z, e, h) = rw e (back_last read_amount _ (amount_bytes z) z (Amount z) (amount-back z h) (λ rest. refl))
like-back (Identifier m) w (n, e, h) = rw e (back_last (read_number 8) _ (bytes_of 8 n) n (Identifier n) (number-back 8 n h) (λ rest. refl))
like-back (Version m) w (n, e, h) = rw e (back_last (read_number 8) _ (bytes_of 8 n) n (Version n) (number-back 8 n h) (λ rest. refl))
like-back (Fence m) w (n, e, h) = rw e (back_last (read_number 8) _ (bytes_of 8 n) n (Fence n) (number-back 8 n h) (λ rest. refl))
like-back (Count m) w (n, e, h) = rw e (back_last (read_number 8) _ (bytes_of 8 n) n (Count n) (number-back 8 n h) (λ rest. refl))
like-back (Field m) w (n, e, h) = rw e (back_last (read_number 1) _ (bytes_of 1 n) n (Field n) (number-back 1 n h) (λ rest. refl))
like-back (YesOrNo c) w (true, e) = rw e (back_last (read_number 1) _ (bytes_of 1 1) 1 (YesOrNo true) (number-back 1 1 (omega arith)) (λ rest. refl))
like-back (YesOrNo c) w (false, e) = rw e (back_last (read_number 1) _ (bytes_of 1 0) 0 (YesOrNo false) (number-back 1 0 (omega arith)) (λ rest. refl))
like-back (TheName b) w (a, e, bytes, short) = rw e (back_last read_name _ (name_bytes a) a (TheName a) (name_back a (bytes, short-name (length a) short)) (λ rest. rw short))
like-back (SnapshotBytes bs) w (s, e, fits, short) =
    rw e (back_last read_snapshot _ (snapshot_bytes s) s (SnapshotBytes (snapshot_bytes s)) (read_snapshot-back s fits) (λ rest. rw short))

only-unless : {A : Type 0} {front : List ℕ} {Is : List ℕ → A → Type 0} (refused : Bool) (x : A) → (refused ≡ false → Is front x) → ReadsAfter front (unless refused x) Is
only-unless {front} {Is} refused x h = record {
  read = λ bs bytes r. by-test (λ o. o ≡ some r → Read Is (front ++ bs) r) refused
      (λ t q. none-some q)
      (λ t q. (only-reads (h t)).read bs bytes r q);
}

-- a byte that is no more than 1
flag_is : (n : ℕ) → ltb 1 n ≡ false → n ≡ cond (eqb n 1) 1 0
flag_is n e = by-test (λ k. n ≡ k) (eqb n 1) (λ t. eqb-true n 1 t) (λ t. let other = eqb-false n 1 t in omega (arith, ltb-false 1 n e, other))

pub like-only : (v : Value) → ReadsOnly (read_like v) value_bytes (Holds v)
like-only (Amount y) = only_then amount-only λ z h. only-reads (refl, (z, refl, h))
like-only (Identifier m) = only_then (number-only 8) λ n h. only-reads (refl, (n, refl, h))
like-only (Version m) = only_then (number-only 8) λ n h. only-reads (refl, (n, refl, h))
like-only (Fence m) = only_then (number-only 8) λ n h. only-reads (refl, (n, refl, h))
like-only (Count m) = only_then (number-only 8) λ n h. only-reads (refl, (n, refl, h))
like-only (Field m) = only_then (number-only 1) λ n h. only-reads (refl, (n, refl, h))
like-only (YesOrNo c) = only_then (number-only 1) λ n h. only-unless (ltb 1 n) (YesOrNo (eqb n 1)) (λ t. (ap (bytes_of 1) (flag_is n t), (eqb n 1, refl)))
like-only (TheName b) = only_then name-only λ a (bytes, size). only-unless (is_too_long a) (TheName a) (λ t. (refl, (a, refl, bytes, t)))
like-only (SnapshotBytes bs) = only_then read_snapshot-only λ s fits. only-unless (has_long_name s.rows) (SnapshotBytes (snapshot_bytes s)) (λ t. (refl, (s, refl, fits, t)))

value-is-bytes : (v w : Value) → Holds v w → All IsByte (value_bytes w)
value-is-bytes (Amount y) w (z, e, h) = rw e (bytes_fit 8 (twos_complement z))
value-is-bytes (Identifier m) w (n, e, h) = rw e (bytes_fit 8 n)
value-is-bytes (Version m) w (n, e, h) = rw e (bytes_fit 8 n)
value-is-bytes (Fence m) w (n, e, h) = rw e (bytes_fit 8 n)
value-is-bytes (Count m) w (n, e, h) = rw e (bytes_fit 8 n)
value-is-bytes (Field m) w (n, e, h) = rw e (bytes_fit 1 n)
value-is-bytes (YesOrNo c) w (b, e) = rw e (bytes_fit 1 (cond b 1 0))
value-is-bytes (TheName b) w (a, e, bytes, short) = rw e (short-name (length a) short, bytes)
value-is-bytes (SnapshotBytes bs) w (s, e, fits, short) = rw e (snapshot-is-bytes s fits)

-- ── all that an answer carries ─────────────────────────────────────────────────────────────────

pub likes-back : (vs ws : List Value) → HoldsAll vs ws → ReadsBack (read_likes vs) (flat_map value_bytes ws) ws
unfolding read_likes flat_map
likes-back [] [] h = λ rest. refl
likes-back [] (w ∷ ws) h = absurd h
likes-back (v ∷ vs) [] h = absurd h
likes-back (v ∷ vs) (w ∷ ws) (h, k) =
    back-then (read_like v) _ (value_bytes w) (flat_map value_bytes ws) w (w ∷ ws) (like-back v w h) (back_last (read_likes vs) _ (flat_map value_bytes ws) ws (w ∷ ws) (likes-back vs ws k) (λ rest. refl))

pub likes-only : (vs : List Value) → ReadsOnly (read_likes vs) (flat_map value_bytes) (HoldsAll vs)
unfolding read_likes flat_map
likes-only [] = only-reads (refl, tt)
likes-only (v ∷ vs) = only_then (like-only v) λ w h. only_then (likes-only vs) λ ws k. only-reads (refl, (h, k))

values-are-bytes : (vs ws : List Value) → HoldsAll vs ws → All IsByte (flat_map value_bytes ws)
unfolding flat_map
values-are-bytes [] [] h = tt
values-are-bytes [] (w ∷ ws) h = absurd h
values-are-bytes (v ∷ vs) [] h = absurd h
values-are-bytes (v ∷ vs) (w ∷ ws) (h, k) = all_join IsByte (value_bytes w) (flat_map value_bytes ws) (value-is-bytes v w h) (values-are-bytes vs ws k)

-- ── an answer ──────────────────────────────────────────────────────────────────────────────────

infixr 5 ◌and◌
abbrev ◌and◌ : {A B : Type 0} → A → B → A × B
a and b = (a, b)

-- a number is one byte, row by row
numbers-small : All (λ (a : Answers). All (λ (r : Reply). IsByte r.number) a.forms) answer_table
unfolding answer_table
numbers-small =
    omega arith and omega arith and omega arith and omega arith and omega arith and omega arith and omega arith
    and omega arith and omega arith and omega arith and omega arith and omega arith and omega arith and omega arith and tt

forms-small : (code : ℕ) → All (λ (r : Reply). IsByte r.number) (forms_in (first (λ a. eqb code a.code) answer_table))
forms-small code = by-option (λ o. first (λ a. eqb code a.code) answer_table ≡ o → All (λ (r : Reply). IsByte r.number) (forms_in o)) (first (λ a. eqb code a.code) answer_table)
    (λ _ _. tt)
    (λ a _ found. first-all (λ (a : Answers). All (λ (r : Reply). IsByte r.number) a.forms) _ answer_table a numbers-small found)
    refl

-- the form that was found has the number that it was asked for, and that is a byte
record Found (number : ℕ) (form : Reply) : Type 0 where
  same : number ≡ form.number
  small : IsByte number

pub form-number : (code number : ℕ) (form : Reply) → form_of code number ≡ some form → number ≡ form.number
unfolding form_of
form-number code number form e =
    eqb-true number form.number (first_passes (λ r. eqb number r.number) (forms_in (first (λ a. eqb code a.code) answer_table)) form e)

found-form : (code number : ℕ) (form : Reply) → form_of code number ≡ some form → Found number form
unfolding form_of
found-form code number form e =
    let forms = forms_in (first (λ a. eqb code a.code) answer_table) in
    let same : number ≡ form.number = form-number code number form e in
    record { same = same; small = rw same (first-all (λ (r : Reply). IsByte r.number) (λ r. eqb number r.number) forms form (forms-small code) e) }

-- every answer that the operation can get is read back from its bytes
pub answer_back : (code : ℕ) (r : Reply) → CanAnswer code r → answer_of_bytes code (reply_bytes r) ≡ some r
unfolding answer_of_bytes read_answer reply_bytes
answer_back code r = by-option (λ o. form_of code r.number ≡ o → OfForm o r → answer_of_bytes code (reply_bytes r) ≡ some r) (form_of code r.number)
    (λ _ _ h. absurd h)
    (λ form _ e h. let f = found-form code r.number form e in
    whole_back (read_answer code) (reply_bytes r) r
    (back-then (read_number 1) (λ number. read_form (form_of code number)) (bytes_of 1 r.number) (flat_map value_bytes r.carried) r.number r (number-back 1 r.number f.small)
    (λ rest. ap (λ o. read_form o (flat_map value_bytes r.carried ++ rest)) e
    ∙ back_last (read_likes form.carried) (λ vs. reads (reply form.number vs)) (flat_map value_bytes r.carried) r.carried r (likes-back form.carried r.carried h)
    (λ more. ap (λ n. some (record { value = reply n r.carried; rest = more })) (sym f.same)) rest)))
    refl

abbrev IsAnswer : (code : ℕ) → List ℕ → Reply → Type 0
IsAnswer code part r = (part ≡ reply_bytes r) × CanAnswer code r

answer-read : (code : ℕ) → ReadsAfter [] (read_answer code) (IsAnswer code)
unfolding read_answer reply_bytes
answer-read code = only_then (number-only 1) λ number small. record {
  read = λ bs bytes r. by-option (λ o. form_of code number ≡ o → read_form o bs ≡ some r → Read (IsAnswer code) (bytes_of 1 number ++ bs) r) (form_of code number)
      (λ _ _ q. none-some q)
      (λ form _ e q. let f = found-form code number form e in
      let read : ReadsAfter (bytes_of 1 number) (read_form (some form)) (IsAnswer code) = only_then (likes-only form.carried)
      λ vs h. only-reads (ap (λ n. bytes_of 1 n ++ flat_map value_bytes vs) f.same, subst (λ n. OfForm (form_of code n) (reply form.number vs)) f.same (rw e h)) in
      read.read bs bytes r q)
      refl;
}

-- .. and no other bytes are read so
pub answer-only : (code : ℕ) (bs : List ℕ) → All IsByte bs → (r : Reply) → answer_of_bytes code bs ≡ some r → (reply_bytes r ≡ bs) × CanAnswer code r
unfolding answer_of_bytes
answer-only code bs bytes r e = let (is, can) = whole-only (answer-read code) bs bytes r e in (sym is, can)

-- ── an answer's line ───────────────────────────────────────────────────────────────────────────

pub reply-is-bytes : (code : ℕ) (r : Reply) → CanAnswer code r → All IsByte (reply_bytes r)
unfolding reply_bytes
reply-is-bytes code r = by-option (λ o. OfForm o r → All IsByte (reply_bytes r)) (form_of code r.number)
    (λ _ h. absurd h)
    (λ form _ h. all_join IsByte (bytes_of 1 r.number) (flat_map value_bytes r.carried) (bytes_fit 1 r.number) (values-are-bytes form.carried r.carried h))

pub answer-line-back : (code : ℕ) (r : Reply) → CanAnswer code r → answer_of_line code (answer_line r) ≡ some r
unfolding answer_of_line answer_line
answer-line-back code r can = ap (answer_in code) (line-back (reply_bytes r) (reply-is-bytes code r can)) ∙ answer_back code r can

pub answer-line-only : (code : ℕ) (line : List ℕ) (r : Reply) → answer_of_line code line ≡ some r → (answer_line r ≡ line) × CanAnswer code r
unfolding answer_of_line answer_line
answer-line-only code line r = by-option (λ o. bytes_of_line line ≡ o → answer_in code o ≡ some r → (answer_line r ≡ line) × CanAnswer code r) (bytes_of_line line)
    (λ _ _ q. none-some q)
    (λ bs _ p q. let (bytes, is) = line-only line bs p in let (same, can) = answer-only code bs bytes r q in (ap line_of_bytes same ∙ is, can))
    refl
