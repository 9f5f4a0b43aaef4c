-- The rules write an answer value by value, by the form that its number has; the code goes by kinds. A value of a kind has the kind's bytes, whichever number it is (`like`),
-- so by induction along the form all of them have (`likes`), and what is written comes to what the kinds say (`answer-is`).
use mathlib.Core.Path.{◌≡◌, refl, sym, ◌∙◌, ap, ap₂, subst}
use mathlib.Core.Bool.{Bool, true, false, cond, not, ◌||◌}
use mathlib.Core.List.{List, [], ◌∷◌, ◌++◌, map, flat_map, append-nil}
use mathlib.Core.Option
use mathlib.Core.Option.{Option, none, some}
use Prim.Native.Nat.{ℕ, suc, ◌+◌, ◌-◌, ◌≤◌, ◌<◌}
use native.Mathlib.Omega.{arith}
use borrow.Author.Tests.{ltb-false, eqb-true, eqb-false}
use lib.Dec.{ltb, eqb}
use lib.ListN.{length, take, drop, get_or, length-drop, length-map}
use lib.Seq.{drop-cons, take-length}
use Rattle.rules.specs.Lists.{any, All}
use Rattle.rules.specs.RoomAndSoundLedger.{IsByte}
use Rattle.rules.specs.AnswerNumbers.{Value, Amount, Identifier, Version, Fence, Count, Field, YesOrNo, TheName, SnapshotBytes, Reply, reply}
use Rattle.rules.specs.AnswerNumbers as numbers
use Rattle.rules.specs.SnapshotsMigrationCertificates.{Snapshot, bytes_of, signed, name_bytes, snapshot_bytes, snapshot_of_bytes, has_long_name}
use Rattle.rules.specs.Frames.{value_bytes, reply_bytes, line_of_bytes, longest_snapshot, longest_frame}
use Rattle.rules.specs.Domain.{IsWord}
use Rattle.rules.specs.Recorder.{line_in, bytes_in, long_in, is_long_value, value_like, values_like, cons_of, form_filled, form_of, answer_of_words, answer_written, Recording, unwritten, fitting, recording, record_answer}
use Rattle.rules.proofs.Tests.{by-test, by_bool, by-option, or-false, true-false}
use Rattle.rules.proofs.Lists.{first_passes}
use Rattle.rules.proofs.Numbers.{word-of-signed}
use Rattle.rules.proofs.SnapshotBytes.{snapshot-only, longest}
use Rattle.std.specs.Prelude.{Result, Ok, Err}
use Rattle.refusals.specs.declared.Refusal.{Refusal}
use Rattle.refusals.specs.declared.Refusal.TheVariants.{NameTooLong, BadFrame}
use Rattle.refusals.specs.Answers.{refusal_of}
use Rattle.snapshot_reader.specs.Standing.{is_read}
use Rattle.recorder.specs.declared.answer_table.Shape.{Shape}
use Rattle.recorder.specs.declared.answer_table.Shape.TheVariants as shape
use Rattle.recorder.specs.Shapes.{Kind, a_word, a_byte, a_flag, a_name, a_snapshot, kind_of, kinds_of, kinds_in}
use Rattle.recorder.specs.Recording.{Records}
use Rattle.recorder.specs.AnswerWords.{is_bad, is_long, bad_from, long_is_in, judged_as, head_of, tail_of}

-- ── what passes ────────────────────────────────────────────────────────────────────────────────

both_false : (bad long : Bool) → ◌≡◌ {A = Result (Unit {0}) Refusal} (cond bad (Err BadFrame) (cond long (Err NameTooLong) (Ok tt))) (Ok tt) → (bad ≡ false) × (long ≡ false)
both_false true long e = absurd (let z : ◌≡◌ {A = ℕ} 0 1 = cc in omega arith)
both_false false true e = absurd (let z : ◌≡◌ {A = ℕ} 0 1 = cc in omega arith)
both_false false false e = (refl, refl)

-- ── a value ────────────────────────────────────────────────────────────────────────────────────

-- the bytes that a kind has from its word and the part
abbrev kind_bytes : Kind → (word : ℕ) → (part : List ℕ) → List ℕ
kind_bytes a_word word part = bytes_of 8 word
kind_bytes a_byte word part = bytes_of 1 word
kind_bytes a_flag word part = bytes_of 1 word
kind_bytes a_name word part = name_bytes part
kind_bytes a_snapshot word part = part

record Like (v : Value) (word : ℕ) (part : List ℕ) : Type 0 where
  value : Value
  is : value_like v word part ≡ some value
  long : is_long_value value ≡ is_long (kind_of v) part
  bytes : value_bytes value ≡ kind_bytes (kind_of v) word part

-- a byte that is no more than 1
flag_is : (n : ℕ) → ltb 1 n ≡ false → cond (eqb n 1) 1 0 ≡ n
flag_is n e = by-test (λ k. k ≡ n) (eqb n 1) (λ t. sym (eqb-true n 1 t)) (λ t. let other = eqb-false n 1 t in omega (arith, ltb-false 1 n e, other))

module _ (word : ℕ) (part : List ℕ) (fits : IsWord word) (bytes_fit : All IsByte part) where
  snapshot-like : (bs : List ℕ) → (s : Snapshot) → snapshot_of_bytes part ≡ some s → Like (SnapshotBytes bs) word part
  snapshot-like bs s e = record {
    value = SnapshotBytes (snapshot_bytes s);
    is = ap (Option.map (λ s. SnapshotBytes (snapshot_bytes s))) e;
    long = ap (λ x. long_in (snapshot_of_bytes x)) (snapshot-only part bytes_fit s e).0;
    bytes = (snapshot-only part bytes_fit s e).0;
  }

  like : (v : Value) → is_bad (kind_of v) word part ≡ false → Like v word part
  like (Amount z) ok = record { value = Amount (signed word); is = refl; long = refl; bytes = ap (bytes_of 8) (word-of-signed word fits) }
  like (Identifier n) ok = record { value = Identifier word; is = refl; long = refl; bytes = refl }
  like (Version n) ok = record { value = Version word; is = refl; long = refl; bytes = refl }
  like (Fence n) ok = record { value = Fence word; is = refl; long = refl; bytes = refl }
  like (Count n) ok = record { value = Count word; is = refl; long = refl; bytes = refl }
  like (Field n) ok = record { value = Field word; is = ap (λ b. cond b none (some (Field word))) ok; long = refl; bytes = refl }
  like (YesOrNo b) ok = record {
    value = YesOrNo (eqb word 1);
    is = ap (λ b. cond b none (some (YesOrNo (eqb word 1)))) ok;
    long = refl;
    bytes = ap (bytes_of 1) (flag_is word ok);
  }
  like (TheName a) ok = record { value = TheName part; is = refl; long = refl; bytes = refl }
  like (SnapshotBytes bs) ok = by-option (λ o. snapshot_of_bytes part ≡ o → not (is_read o) ≡ false → Like (SnapshotBytes bs) word part) (snapshot_of_bytes part)
      (λ _ _ t. true-false refl t)
      (λ s _ e _. snapshot-like bs s e)
      refl ok

unlike : (v : Value) (word : ℕ) (part : List ℕ) → is_bad (kind_of v) word part ≡ true → value_like v word part ≡ none
unlike (Amount z) word part bad = true-false bad refl
unlike (Identifier n) word part bad = true-false bad refl
unlike (Version n) word part bad = true-false bad refl
unlike (Fence n) word part bad = true-false bad refl
unlike (Count n) word part bad = true-false bad refl
unlike (Field n) word part bad = ap (λ b. cond b none (some (Field word))) bad
unlike (YesOrNo b) word part bad = ap (λ b. cond b none (some (YesOrNo (eqb word 1)))) bad
unlike (TheName a) word part bad = true-false bad refl
unlike (SnapshotBytes bs) word part bad = by-option (λ o. not (is_read o) ≡ true → Option.map (λ s. SnapshotBytes (snapshot_bytes s)) o ≡ none) (snapshot_of_bytes part)
    (λ _ _. refl)
    (λ s _ t. true-false t refl)
    bad

-- ── all that an answer carries ─────────────────────────────────────────────────────────────────

abbrev bytes_from : List Kind → (at : ℕ) → (words part : List ℕ) → List ℕ
bytes_from [] at words part = []
bytes_from (k ∷ ks) at words part = kind_bytes k (get_or words at 0) part ++ bytes_from ks (suc at) words part

record Likes (vs : List Value) (at : ℕ) (words part : List ℕ) : Type 0 where
  values : List Value
  is : values_like vs (drop at words) part ≡ some values
  long : any is_long_value values ≡ long_is_in (map kind_of vs) part
  bytes : flat_map value_bytes values ≡ bytes_from (map kind_of vs) at words part

module _ (words part : List ℕ) (fit : (i : ℕ) → IsWord (get_or words i 0)) (bytes_fit : All IsByte part) where
  -- one value, and those behind it
  next : (v : Value) (vs : List Value) (at : ℕ) → at < length words → values_like (v ∷ vs) (drop at words) part ≡ cons_of (value_like v (get_or words at 0) part) (values_like vs (drop (suc at) words) part)
  unfolding values_like
  next v vs at h = ap (λ ws. values_like (v ∷ vs) ws part) (drop-cons words at 0 h)

  likes : (vs : List Value) (at : ℕ) → at + length vs ≤ length words → bad_from (map kind_of vs) at words part ≡ false → Likes vs at words part
  unfolding values_like any flat_map
  likes [] at h ok = record { values = []; is = refl; long = refl; bytes = refl }
  likes (v ∷ vs) at h ok =
      let (good, others) = or-false (is_bad (kind_of v) (get_or words at 0) part) (bad_from (map kind_of vs) (suc at) words part) ok in
      let x = like (get_or words at 0) part (fit at) bytes_fit v good in
      let xs = likes vs (suc at) (omega arith) others in
      record {
        values = x.value ∷ xs.values;
        is = next v vs at (omega arith) ∙ ap₂ cons_of x.is xs.is;
        long = ap₂ (λ a b. a || b) x.long xs.long;
        bytes = ap₂ (λ a b. a ++ b) x.bytes xs.bytes;
      }

  unlikes : (vs : List Value) (at : ℕ) → at + length vs ≤ length words → bad_from (map kind_of vs) at words part ≡ true → values_like vs (drop at words) part ≡ none
  unlikes [] at h bad = true-false bad refl
  unlikes (v ∷ vs) at h bad = next v vs at (omega arith) ∙ by_bool (λ b. is_bad (kind_of v) (get_or words at 0) part ≡ b → b || bad_from (map kind_of vs) (suc at) words part ≡ true
      → cons_of (value_like v (get_or words at 0) part) (values_like vs (drop (suc at) words) part) ≡ none) (is_bad (kind_of v) (get_or words at 0) part)
      (λ _ t _. ap (λ o. cons_of o (values_like vs (drop (suc at) words) part)) (unlike v (get_or words at 0) part t))
      (λ _ t others. ap₂ cons_of (like (get_or words at 0) part (fit at) bytes_fit v t).is (unlikes vs (suc at) (omega arith) others))
      refl bad

-- ── the whole answer ───────────────────────────────────────────────────────────────────────────

-- what writing comes to, once an answer is judged
abbrev pub outcome : Result (Unit {0}) Refusal → (text room : List ℕ) → Recording
outcome (Ok x) text room = fitting text room
outcome (Err e) text room = unwritten (refusal_of e) room

by_length : (long : Bool) (text room : List ℕ) → cond long (unwritten numbers.NameTooLong room) (fitting text room) ≡ outcome (cond long (Err NameTooLong) (Ok tt)) text room
by_length true text room = refl
by_length false text room = refl

abbrev line_with : (number : ℕ) → List Kind → (words part : List ℕ) → List ℕ
line_with number ks words part = line_of_bytes (bytes_of 1 number ++ bytes_from ks 1 words part)

module _ (words part room : List ℕ) (fit : (i : ℕ) → IsWord (get_or words i 0)) (bytes_fit : All IsByte part) where
  filled : (number : ℕ) (form : Reply) → form.number ≡ number → 1 + length form.carried ≤ length words
      → recording line_in (Option.map answer_written (form_filled (some form) (drop 1 words) part)) room
      ≡ outcome (judged_as (map kind_of form.carried) words part) (line_with number (map kind_of form.carried) words part) room
  unfolding recording line_in bytes_in
  filled number form same enough =
      let ks = map kind_of form.carried in
      let with_values : Option (List Value) → Recording = λ o. recording line_in (Option.map answer_written (Option.map (reply form.number) o)) room in
      let text = line_with number ks words part in
      by_bool (λ b. bad_from ks 1 words part ≡ b → with_values (values_like form.carried (drop 1 words) part) ≡ outcome (cond b (Err BadFrame) (cond (long_is_in ks part) (Err NameTooLong) (Ok tt))) text room)
      (bad_from ks 1 words part)
      (λ _ t. ap with_values (unlikes words part fit bytes_fit form.carried 1 enough t))
      (λ _ t. let l = likes words part fit bytes_fit form.carried 1 enough t in
      ap with_values l.is
      ∙ ap₂ (λ b line. cond b (unwritten numbers.NameTooLong room) (fitting line room)) l.long
      (ap₂ (λ n fields. line_of_bytes (bytes_of 1 n ++ fields)) same l.bytes)
      ∙ by_length (long_is_in ks part) text room)
      refl

form-number : (code number : ℕ) (form : Reply) → form_of code number ≡ some form → form.number ≡ number
unfolding form_of
form-number code number form e = sym (eqb-true number form.number (first_passes (λ (r : Reply). eqb number r.number) _ form e))

answer-is : (code : ℕ) (words part room : List ℕ) → ((i : ℕ) → IsWord (get_or words i 0)) → All IsByte part
    → (ks : List Kind) → some ks ≡ kinds_in (form_of code (get_or words 0 0)) → 1 + length ks ≤ length words
    → record_answer line_in code words part room ≡ outcome (judged_as ks words part) (line_with (get_or words 0 0) ks words part) room
unfolding record_answer recording answer_of_words
answer-is code [] part room fit bytes_fit ks is enough = absurd (omega arith)
answer-is code (number ∷ rest) part room fit bytes_fit ks is enough =
    by-option (λ o. form_of code number ≡ o → some ks ≡ kinds_in o → recording line_in (Option.map answer_written (form_filled o rest part)) room
    ≡ outcome (judged_as ks (number ∷ rest) part) (line_with number ks (number ∷ rest) part) room)
    (form_of code number)
    (λ _ _ other. absurd (let z : ◌≡◌ {A = ℕ} 0 1 = cc in omega arith))
    (λ form _ e same. let kinds : map kind_of form.carried ≡ ks = cc in
    let room_for : 1 + length form.carried ≤ length (number ∷ rest) = omega (arith, length-map form.carried kind_of, ap length kinds) in
    subst (λ ks. recording line_in (Option.map answer_written (form_filled (some form) rest part)) room ≡ outcome (judged_as ks (number ∷ rest) part) (line_with number ks (number ∷ rest) part) room) kinds
    (filled (number ∷ rest) part room fit bytes_fit number form (form-number code number form e) room_for))
    refl is

-- ── by its shape ───────────────────────────────────────────────────────────────────────────────

-- no shape has more than eight values
few : (s : Shape) → length (kinds_of s) ≤ 8
few shape.Nothing = omega arith
few shape.Word = omega arith
few shape.TwoWords = omega arith
few shape.ThreeWords = omega arith
few shape.Named = omega arith
few shape.NamedWord = omega arith
few shape.NamedField = omega arith
few shape.Snapshot = omega arith
few shape.Certificate = omega arith
few shape.Proof = omega arith

-- head and tail together
joined : (s : Shape) (number : ℕ) (words part : List ℕ) → reply_bytes (head_of (kinds_of s) number words part) ++ tail_of (kinds_of s) part ≡ bytes_of 1 number ++ bytes_from (kinds_of s) 1 words part
unfolding reply_bytes flat_map bytes_of
joined shape.Nothing number words part = append-nil _
joined shape.Word number words part = append-nil _
joined shape.TwoWords number words part = append-nil _
joined shape.ThreeWords number words part = append-nil _
joined shape.Named number words part = append-nil _
joined shape.NamedWord number words part = append-nil _
joined shape.NamedField number words part = append-nil _
joined shape.Snapshot number words part = ap (λ l. bytes_of 1 number ++ l) (sym (append-nil part))
joined shape.Certificate number words part = append-nil _
joined shape.Proof number words part = append-nil _

-- a frame has room for it
snapshot-size : (part : List ℕ) → All IsByte part → (o : Option Snapshot) → snapshot_of_bytes part ≡ o → not (is_read o) || false ≡ false → long_in o || false ≡ false → length part ≤ longest_snapshot
snapshot-size part bytes_fit none is bad long = true-false refl bad
snapshot-size part bytes_fit (some s) is bad long =
    let (bytes, fits) = snapshot-only part bytes_fit s is in
    subst (λ l. length l ≤ longest_snapshot) bytes (longest s fits.count (or-false (has_long_name s.rows) false long).0)

pub fits-frame : (s : Shape) (number : ℕ) (words part : List ℕ) → All IsByte part → judged_as (kinds_of s) words part ≡ Ok tt → length (reply_bytes (head_of (kinds_of s) number words part)) ≤ longest_frame
    → length (reply_bytes (head_of (kinds_of s) number words part)) + length (tail_of (kinds_of s) part) ≤ longest_frame
unfolding reply_bytes flat_map bytes_of
fits-frame shape.Nothing number words part bytes_fit e h = omega arith
fits-frame shape.Word number words part bytes_fit e h = omega arith
fits-frame shape.TwoWords number words part bytes_fit e h = omega arith
fits-frame shape.ThreeWords number words part bytes_fit e h = omega arith
fits-frame shape.Named number words part bytes_fit e h = omega arith
fits-frame shape.NamedWord number words part bytes_fit e h = omega arith
fits-frame shape.NamedField number words part bytes_fit e h = omega arith
fits-frame shape.Snapshot number words part bytes_fit e h =
    let (bad, long) = both_false (not (is_read (snapshot_of_bytes part)) || false) (long_in (snapshot_of_bytes part) || false) e in
    let size = snapshot-size part bytes_fit (snapshot_of_bytes part) refl bad long in
    omega arith
fits-frame shape.Certificate number words part bytes_fit e h = omega arith
fits-frame shape.Proof number words part bytes_fit e h = omega arith

no-form : (code : ℕ) (words part room : List ℕ) → 1 ≤ length words → form_of code (get_or words 0 0) ≡ none → record_answer line_in code words part room ≡ unwritten numbers.BadFrame room
unfolding record_answer recording answer_of_words
no-form code [] part room some-there is = absurd (omega arith)
no-form code (number ∷ rest) part room some-there is = ap (λ o. recording line_in (Option.map answer_written (form_filled o rest part)) room) is

module _ (code : ℕ) (words part room : List ℕ) where
  abbrev number : ℕ
  number = get_or words 0 0

  -- a number that the operation is never answered with
  pub none_is : 1 ≤ length words → form_of code number ≡ none → Records (record_answer line_in code words part room) room (Err BadFrame)
  none_is some-there is = rw (no-form code words part room some-there is) (record { reply = refl; room = refl })

  -- by what judging has told
  module _ (fit : (i : ℕ) → IsWord (get_or words i 0)) (bytes_fit : All IsByte part) (nine : length words ≡ 9) (s : Shape) (is : some (kinds_of s) ≡ kinds_in (form_of code number))
      {judged : Result (Unit {0}) Refusal} (judged_is : judged ≡ judged_as (kinds_of s) words part) where
    abbrev text : List ℕ
    text = line_of_bytes (reply_bytes (head_of (kinds_of s) number words part) ++ tail_of (kinds_of s) part)

    rule-is : {told : Result (Unit {0}) Refusal} → judged ≡ told → record_answer line_in code words part room ≡ outcome told text room
    rule-is {told} e =
        answer-is code words part room fit bytes_fit (kinds_of s) is (omega (arith, few s))
        ∙ ap (λ bs. outcome (judged_as (kinds_of s) words part) (line_of_bytes bs) room) (sym (joined s number words part))
        ∙ ap (λ j. outcome j text room) (sym judged_is ∙ e)

    pub refused : {e : Refusal} {r : Result ℕ Refusal} → judged ≡ Err e → r ≡ Err e → Records (record_answer line_in code words part room) room r
    refused told answered = rw (rule-is told, answered) (record { reply = refl; room = refl })

    pub written : {x : Unit {0}} {after : List ℕ} {r : Result ℕ Refusal} → judged ≡ Ok x → Records (fitting text room) after r → Records (record_answer line_in code words part room) after r
    written {after = after} {r = r} told records = subst (λ rule. Records rule after r) (sym (rule-is told)) records

pub formless : (o : Option Reply) → none ≡ kinds_in o → o ≡ none
formless none e = refl
formless (some form) e = absurd (let z : ◌≡◌ {A = ℕ} 0 1 = cc in omega arith)

-- ── head and tail as they stand ────────────────────────────────────────────────────────────────

-- what a part is from a place to its end
pub from_is : (start : ℕ) (part : List ℕ) → take (length part - start) (drop start part) ≡ drop start part
from_is start part = ap (λ n. take n (drop start part)) (sym (length-drop start part)) ∙ take-length (drop start part)
