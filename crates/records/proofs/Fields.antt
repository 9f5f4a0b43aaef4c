-- Laws of numbers of given widths, one after the other: there and back, as code writes them, and apart from what is put elsewhere.
use mathlib.Core.Path.{◌≡◌, refl, sym, ap, ap₂, ◌∙◌}
use mathlib.Core.Logic.{◌⊎◌, inl, inr}
use mathlib.Core.List.{List, [], ◌∷◌, ◌++◌, append_assoc}
use Prim.Native.Nat.{ℕ, ◌+◌, ◌^◌, ◌≤◌, ◌<◌}
use native.Mathlib.Omega.{arith}
use lib.ListN.{length, take, drop, length-append, take-append-drop}
use lib.Seq.{take_at, drop_at, drop-drop}
use Rattle.rules.specs.Lists.{All}
use Rattle.rules.specs.RoomAndSoundLedger.{IsByte}
use Rattle.numbers.specs.LittleEndian.{little_number, little_bytes}
use Rattle.numbers.proofs.Bytes.{all_take, all_drop}
use Rattle.numbers.proofs.LittleEndian.{little-length, little-number, little-bytes, little-small}
use Rattle.records.specs.Rows.{row, put, encoded, field_bytes}
use Rattle.records.specs.Layout.{total}
use Rattle.records.proofs.Rows.{row-length, row-join, row_apart, put-length, put_next}

-- each value fits its width
abbrev pub Fit : (widths values : List ℕ) → Type 0
Fit [] [] = Unit {0}
Fit [] (v ∷ vs) = ⊥
Fit (k ∷ ks) [] = ⊥
Fit (k ∷ ks) (v ∷ vs) = (v < 256 ^ k) × Fit ks vs

-- the values of these widths that stand from an index on: at numerals this computes to what a record's fields read
abbrev pub fields : (from : ℕ) (widths : List ℕ) → List ℕ → List ℕ
fields from [] xs = []
fields from (k ∷ ks) xs = little_number (row k from xs) ∷ fields (from + k) ks xs

-- ── values written one by one, whichever the encoder ───────────────────────────────────────────

module _ (encode : (width value : ℕ) → List ℕ) where
  -- at numerals this computes to what code leaves that writes each of them
  abbrev pub written : (from : ℕ) (widths values : List ℕ) → List ℕ → List ℕ
  written from [] vs xs = xs
  written from (k ∷ ks) [] xs = xs
  written from (k ∷ ks) (v ∷ vs) xs = written (from + k) ks vs (put from k xs (encode k v))

  module _ (sized : (k v : ℕ) → length (encode k v) ≡ k) where
    pub encoded-length : (ks vs : List ℕ) → length vs ≡ length ks → length (encoded encode ks vs) ≡ total ks
    encoded-length [] vs h = refl
    encoded-length (k ∷ ks) [] h = absurd (omega arith)
    encoded-length (k ∷ ks) (v ∷ vs) h = rw (length-append, sized, encoded-length ks vs (omega arith))

    pub written_is : (from : ℕ) (ks vs xs : List ℕ) → length vs ≡ length ks → from + total ks ≤ length xs → written from ks vs xs ≡ put from (total ks) xs (encoded encode ks vs)
    written_is from [] vs xs h l = sym (take-append-drop from xs)
    written_is from (k ∷ ks) [] xs h l = absurd (omega arith)
    written_is from (k ∷ ks) (v ∷ vs) xs h l =
        let w = encode k v in
        let fits : from + k ≤ length xs = omega arith in
        let same : length (put from k xs w) ≡ length xs = put-length from k xs w fits (sized k v) in
        written_is (from + k) ks vs (put from k xs w) (omega arith) (omega arith) ∙ put_next from k xs w fits (sized k v) (total ks) (encoded encode ks vs)

pub fields-length : (ks vs : List ℕ) → length vs ≡ length ks → length (field_bytes ks vs) ≡ total ks
fields-length = encoded-length little_bytes little-length

pub fields-written : (from : ℕ) (ks vs xs : List ℕ) → length vs ≡ length ks → from + total ks ≤ length xs → written little_bytes from ks vs xs ≡ put from (total ks) xs (field_bytes ks vs)
fields-written = written_is little_bytes little-length

-- what was written is read
pub fields_read : (from : ℕ) (ks vs xs rest : List ℕ) → Fit ks vs → drop from xs ≡ field_bytes ks vs ++ rest → fields from ks xs ≡ vs
fields_read from [] [] xs rest h e = refl
fields_read from [] (v ∷ vs) xs rest h e = absurd h
fields_read from (k ∷ ks) [] xs rest h e = absurd h
fields_read from (k ∷ ks) (v ∷ vs) xs rest (h, h') e =
    let w = little_bytes k v in
    let f : drop from xs ≡ w ++ (field_bytes ks vs ++ rest) = e ∙ append_assoc w (field_bytes ks vs) rest in
    let r : row k from xs ≡ w = ap (take k) f ∙ take_at w (field_bytes ks vs ++ rest) k (little-length k v) in
    let d : drop (from + k) xs ≡ field_bytes ks vs ++ rest = sym (drop-drop k from xs) ∙ ap (drop k) f ∙ drop_at w (field_bytes ks vs ++ rest) k (little-length k v) in
    ap₂ (λ n ns. n ∷ ns) (ap little_number r ∙ little-number k v h) (fields_read (from + k) ks vs xs rest h' d)

-- a row of bytes
pub row-bytes : (k b : ℕ) (xs : List ℕ) → All IsByte xs → All IsByte (row k b xs)
row-bytes k b xs h = all_take IsByte k (drop b xs) (all_drop IsByte b xs h)

-- what was read is what stood there
pub bytes-of-fields : (from : ℕ) (ks xs : List ℕ) → All IsByte xs → from + total ks ≤ length xs → field_bytes ks (fields from ks xs) ≡ row (total ks) from xs
bytes-of-fields from [] xs h l = refl
bytes-of-fields from (k ∷ ks) xs h l =
    let n : length (row k from xs) ≡ k = row-length k from xs (omega arith) in
    let b : little_bytes k (little_number (row k from xs)) ≡ row k from xs = rw n at (little-bytes (row k from xs) (row-bytes k from xs h)) in
    ap₂ (λ w v. w ++ v) b (bytes-of-fields (from + k) ks xs h (omega arith)) ∙ sym (row-join k (total ks) from xs)

pub fields_fit : (from : ℕ) (ks xs : List ℕ) → All IsByte xs → from + total ks ≤ length xs → Fit ks (fields from ks xs)
fields_fit from [] xs h l = tt
fields_fit from (k ∷ ks) xs h l =
    let n : length (row k from xs) ≡ k = row-length k from xs (omega arith) in
    (rw n at (little-small (row k from xs) (row-bytes k from xs h)), fields_fit (from + k) ks xs h (omega arith))

-- what is put apart from the fields leaves them
pub fields-apart : (from : ℕ) (ks : List ℕ) (m j : ℕ) (xs w : List ℕ) → m + j ≤ length xs → length w ≡ j → (from + total ks ≤ m) ⊎ (m + j ≤ from) → fields from ks (put m j xs w) ≡ fields from ks xs
fields-apart from [] m j xs w l e h = refl
fields-apart from (k ∷ ks) m j xs w l e (inl h) =
    ap₂ (λ n ns. n ∷ ns) (ap little_number (row_apart m j xs w l e k from (inl (omega arith)))) (fields-apart (from + k) ks m j xs w l e (inl (omega arith)))
fields-apart from (k ∷ ks) m j xs w l e (inr h) =
    ap₂ (λ n ns. n ∷ ns) (ap little_number (row_apart m j xs w l e k from (inr h))) (fields-apart (from + k) ks m j xs w l e (inr (omega arith)))
