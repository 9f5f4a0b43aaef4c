-- Readers of bytes, both ways: what was written is read back, and what is read was written by nothing else. Two readers in a row do so where each
-- does (`back-then`, `only_then`), so the proof for a record follows its reader line by line.
use mathlib.Core.Path.{◌≡◌, refl, sym, ◌∙◌, ap, subst, subst₂}
use mathlib.Core.List.{List, [], ◌∷◌, ◌++◌, append_assoc, append-nil}
use mathlib.Core.Option.{some}
use Prim.Native.Nat.{ℕ, ◌^◌, ◌<◌}
use native.Mathlib.Nat.{mod-eq_of_lt}
use native.Mathlib.Omega.{arith}
use borrow.Author.Tests.{ltb-false, le-ltb, eqb-true}
use lib.Dec.{ltb, eqb}
use lib.IntN.{ℤ}
use lib.ListN.{length, take, drop, length-append, take-append-drop}
use lib.Seq.{length-take-le, take_at, drop_at}
use Rattle.rules.specs.Lists.{All}
use Rattle.rules.specs.RoomAndSoundLedger.{Name, IsByte}
use Rattle.rules.specs.SnapshotsMigrationCertificates.{bytes_of, twos_complement, amount_bytes, name_bytes, Reading, Reader, reads, go_on, ◌>>=◌, read_part, read_number, read_amount, read_name, whole}
use Rattle.rules.specs.Domain.{IsAmount, IsBytes}
use Rattle.rules.proofs.Tests.{by-test, by-option, none-some}
use Rattle.rules.proofs.Lists.{all-parts}
use Rattle.rules.proofs.Numbers.{bytes-length, number-of-bytes, number_small, bytes-of-number, signed-of-word, word_small, signed-fits, word-of-signed}

abbrev pub after : {A : Type 0} → A → List ℕ → Reading A
after x rest = record { value = x; rest = rest }

-- ── what was written is read back ──────────────────────────────────────────────────────────────

abbrev pub ReadsBack : {A : Type 0} → Reader A → List ℕ → A → Type 0
ReadsBack reader bytes x = (rest : List ℕ) → reader (bytes ++ rest) ≡ some (after x rest)

module _ {A B : Type 0} (m : Reader A) (f : A → Reader B) where
  pub back-then : (bytes more : List ℕ) (x : A) (y : B) → ReadsBack m bytes x → ReadsBack (f x) more y → ReadsBack (m >>= f) (bytes ++ more) y
  back-then bytes more x y h k rest = rw (append_assoc bytes more rest, h (more ++ rest)) (k rest)

  -- the last part of a value
  pub back_last : (bytes : List ℕ) (x : A) (y : B) → ReadsBack m bytes x → ReadsBack (f x) [] y → ReadsBack (m >>= f) bytes y
  back_last bytes x y h k rest = rw (h rest) (k rest)

pub whole_back : {A : Type 0} (reader : Reader A) (bytes : List ℕ) (x : A) → ReadsBack reader bytes x → whole (reader bytes) ≡ some x
whole_back reader bytes x h = subst (λ bs. whole (reader bs) ≡ some x) (append-nil bytes) (ap whole (h []))

-- ── what is read was written by nothing else ───────────────────────────────────────────────────

-- bytes read: the part that is the value's, and the bytes after it
pub record Read {A : Type 0} (Is : List ℕ → A → Type 0) (bs : List ℕ) (r : Reading A) : Type 0 where
  pub part : List ℕ
  pub split : bs ≡ part ++ r.rest
  pub is : Is part r.value
  pub bytes : All IsByte r.rest

-- the bytes before, which an earlier reader took, are the value's too
pub record ReadsAfter {A : Type 0} (before : List ℕ) (reader : Reader A) (Is : List ℕ → A → Type 0) : Type 0 where
  pub read : (bs : List ℕ) → All IsByte bs → (r : Reading A) → reader bs ≡ some r → Read Is (before ++ bs) r

-- the part is just what the value is written as
abbrev pub WrittenBy : {A : Type 0} → (A → List ℕ) → (A → Type 0) → List ℕ → A → Type 0
WrittenBy write Fits part x = (part ≡ write x) × Fits x

abbrev pub ReadsOnly : {A : Type 0} → Reader A → (write : A → List ℕ) → (Fits : A → Type 0) → Type 0
ReadsOnly reader write Fits = ReadsAfter [] reader (WrittenBy write Fits)

module _ {A : Type 0} where
  -- nothing further is read
  pub only-reads : {before : List ℕ} {x : A} {Is : List ℕ → A → Type 0} → Is before x → ReadsAfter before (reads x) Is
  only-reads {before} {x} {Is} h = record {
    read = λ bs bytes r e.
        let q : after x bs ≡ r = cc in
        subst (Read Is (before ++ bs)) q (record { part = before; split = refl; is = h; bytes = bytes });
  }

  joined : (write : A → List ℕ) (Fits : A → Type 0) (before bs : List ℕ) (r : Reading A) → Read (WrittenBy write Fits) bs r → before ++ bs ≡ before ++ write r.value ++ r.rest
  joined write Fits before bs r h = rw (append_assoc, ← h.is.0, h.split)

  module _ {write : A → List ℕ} {Fits : A → Type 0} {before : List ℕ} where
    -- the last reader
    pub only-last : {m : Reader A} {Is : List ℕ → A → Type 0} → ReadsOnly m write Fits → ((x : A) → Fits x → Is (before ++ write x) x) → ReadsAfter before m Is
    only-last h k = record {
      read = λ bs bytes r e.
          let q : Read (WrittenBy write Fits) bs r = h.read bs bytes r e in
          record { part = before ++ write r.value; split = joined write Fits before bs r q; is = k r.value q.is.1; bytes = q.bytes };
    }

    -- a reader, and those that go on after it
    pub only_then : {B : Type 0} {m : Reader A} {f : A → Reader B} {Is : List ℕ → B → Type 0}
        → ReadsOnly m write Fits → ((x : A) → Fits x → ReadsAfter (before ++ write x) (f x) Is) → ReadsAfter before (m >>= f) Is
    only_then {m} {f} {Is} h k = record {
      read = λ bs bytes r. by-option (λ o. go_on o f ≡ some r → Read Is (before ++ bs) r) (m bs)
          (λ _ q. none-some q)
          (λ x p q. let t : Read (WrittenBy write Fits) bs x = h.read bs bytes x p in
          subst (λ l. Read Is l r) (sym (joined write Fits before bs x t)) ((k x.value t.is.1).read x.rest t.bytes r q));
    }

  -- no byte is left over
  pub whole-only : {reader : Reader A} {Is : List ℕ → A → Type 0} → ReadsAfter [] reader Is → (bs : List ℕ) → All IsByte bs → (x : A) → whole (reader bs) ≡ some x → Is bs x
  whole-only {reader} {Is} h bs bytes x e = by-option (λ o. whole o ≡ some x → Is bs x) (reader bs)
      (λ _ q. none-some q)
      (λ r p. by-test (λ o. o ≡ some x → Is bs x) (eqb (length r.rest) 0)
      (λ t q. let read : Read Is bs r = h.read bs bytes r p in
      let v : r.value ≡ x = cc in
      let n : r.rest ≡ [] = nothing r.rest (eqb-true (length r.rest) 0 t) in
      let s : read.part ≡ bs = sym (read.split ∙ ap (λ l. read.part ++ l) n ∙ append-nil read.part) in
      subst₂ Is s v read.is)
      (λ t q. none-some q)) e
    where
      nothing : (l : List ℕ) → length l ≡ 0 → l ≡ []
      nothing [] z = refl
      nothing (y ∷ l) z = absurd (omega arith)

-- ── a part, a number, an amount, a name ────────────────────────────────────────────────────────

pub part-back : (bytes : List ℕ) → ReadsBack (read_part (length bytes)) bytes bytes
unfolding read_part
part-back bytes rest =
    rw (le-ltb (length (bytes ++ rest)) (length bytes) (rw length-append (omega arith)), take_at bytes rest (length bytes) refl, drop_at bytes rest (length bytes) refl)

abbrev pub IsPart : ℕ → List ℕ → Type 0
IsPart size part = (length part ≡ size) × All IsByte part

pub part-only : (size : ℕ) → ReadsOnly (read_part size) (λ part. part) (IsPart size)
unfolding read_part
part-only size = record {
  read = λ bs bytes r. by-test (λ o. o ≡ some r → Read (WrittenBy (λ part. part) (IsPart size)) bs r) (ltb (length bs) size)
      (λ t q. none-some q)
      (λ t q. let v : after (take size bs) (drop size bs) ≡ r = cc in
      let (a, b) = all-parts IsByte (take size bs) (drop size bs) (rw take-append-drop bytes) in
      let l : length (take size bs) ≡ size = length-take-le size bs (ltb-false (length bs) size t) in
      subst (Read _ bs) v (record { part = take size bs; split = sym (take-append-drop size bs); is = (refl, (l, a)); bytes = b }));
}

pub number-back : (size n : ℕ) → n < 256 ^ size → ReadsBack (read_number size) (bytes_of size n) n
unfolding read_number
number-back size n h =
    let part : ReadsBack (read_part size) (bytes_of size n) (bytes_of size n) = rw bytes-length at (part-back (bytes_of size n)) in
    back_last (read_part size) _ (bytes_of size n) (bytes_of size n) n part (λ rest. rw (number-of-bytes size n h))

pub number-only : (size : ℕ) → ReadsOnly (read_number size) (bytes_of size) (λ n. n < 256 ^ size)
unfolding read_number
number-only size = only_then (part-only size)
    (λ part (l, bytes). only-reads (rw (← l) (sym (bytes-of-number part bytes), number_small part bytes)))

pub amount-back : (z : ℤ) → IsAmount z → ReadsBack read_amount (amount_bytes z) z
unfolding read_amount
amount-back z h = back_last (read_number 8) _ (amount_bytes z) (twos_complement z) z (number-back 8 (twos_complement z) (word_small z h)) (λ rest. rw (signed-of-word z h))

pub amount-only : ReadsOnly read_amount amount_bytes IsAmount
unfolding read_amount
amount-only = only_then (number-only 8)
    (λ w h. only-reads (rw (word-of-signed w h), signed-fits w h))

-- one byte holds a name's length
byte-is : (n : ℕ) → IsByte n → bytes_of 1 n ≡ n ∷ []
unfolding bytes_of
byte-is n h = rw (mod-eq_of_lt h)

abbrev pub NameFits : Name → Type 0
NameFits a = IsBytes a × IsByte (length a)

pub name_back : (a : Name) → NameFits a → ReadsBack read_name (name_bytes a) a
unfolding read_name
name_back a h =
    let size : ReadsBack (read_number 1) (length a ∷ []) (length a) = rw (byte-is (length a) h.1) at (number-back 1 (length a) h.1) in
    back-then (read_number 1) read_part (length a ∷ []) a (length a) a size (part-back a)

pub name-only : ReadsOnly read_name name_bytes NameFits
unfolding read_name
name-only = only_then (number-only 1)
    (λ n h. only-last (part-only n) (λ a (l, bytes). rw (byte-is n h, ← l) (refl, (bytes, rw l h))))
