-- The values of an answer by the places where they stand. The rules read them one after the other, along the form; each takes so many bytes, and only a flag and a name can
-- be refused (`Stands`, one line for each kind of value). So all of them come to the words at their places where the bytes end just behind the last (`places`). A snapshot
-- takes all that is left, and is read by itself (SnapshotPlace).
use mathlib.Core.Path.{◌≡◌, refl, sym, ◌∙◌, ap, subst}
use mathlib.Core.Bool.{Bool, true, false, cond}
use mathlib.Core.List.{List, [], ◌∷◌, map}
use mathlib.Core.Option
use mathlib.Core.Option.{Option, none, some}
use Prim.Native.Nat.{ℕ, ◌+◌, ◌-◌, ◌^◌, ◌≤◌, ◌<◌}
use native.Mathlib.Omega.{arith}
use borrow.Author.Tests.{ltb-true, ltb-false, lt-ltb, eqb-true, eqb-false, eq-eqb, ne_eqb}
use lib.Dec.{ltb, eqb}
use lib.ListN.{length, take, drop, get_or, length-drop}
use lib.Seq.{length-take-le}
use Rattle.rules.specs.Lists.{All}
use Rattle.rules.specs.RoomAndSoundLedger.{longest_name}
use Rattle.rules.specs.AnswerNumbers.{Value, Amount, Identifier, Version, Fence, Count, Field, YesOrNo, TheName, SnapshotBytes}
use Rattle.rules.specs.SnapshotsMigrationCertificates.{Reading, Reader, reads, go_on, ◌>>=◌, whole, number_of, read_number}
use Rattle.rules.specs.Domain.{IsWord, IsBytes}
use Rattle.rules.specs.Recorder.{unless, read_like, read_likes, word_of}
use Rattle.rules.proofs.Tests.{by_bool}
use Rattle.rules.proofs.Numbers.{number_small, word-of-signed}
use Rattle.rules.proofs.Reading.{after}
use Rattle.numbers.proofs.Bytes.{all_take, all_drop}
use Rattle.snapshot_reader.proofs.RowBytes.{Takes, goes_on, byte_at, number-takes, amount_at, amount-takes, name-takes-from}
use Rattle.recorder.specs.Shapes.{Kind, a_word, a_byte, a_flag, a_name, a_snapshot, kind_of}
use Rattle.recorder.specs.Reading.{filled, Carries}
use Rattle.std.specs.Prelude.{None}

-- ── what stands at a place ─────────────────────────────────────────────────────────────────────

abbrev pub IsFixed : Kind → Type 0
IsFixed a_word = Unit {0}
IsFixed a_byte = Unit {0}
IsFixed a_flag = Unit {0}
IsFixed a_name = Unit {0}
IsFixed a_snapshot = ⊥

module _ (from : ℕ) (bs : List ℕ) where
  abbrev end_at : Kind → ℕ
  end_at a_word = from + 8
  end_at a_byte = from + 1
  end_at a_flag = from + 1
  end_at a_name = from + 1 + get_or bs from 0
  end_at a_snapshot = length bs

  abbrev refused_at : Kind → Bool
  refused_at a_word = false
  refused_at a_byte = false
  refused_at a_flag = ltb 1 (get_or bs from 0)
  refused_at a_name = ltb longest_name (get_or bs from 0)
  refused_at a_snapshot = true

  abbrev word_at : Kind → ℕ
  word_at a_word = number_of (take 8 (drop from bs))
  word_at a_byte = get_or bs from 0
  word_at a_flag = get_or bs from 0
  word_at a_name = get_or bs from 0
  word_at a_snapshot = 0

abbrev unless_refused : Bool → ℕ → Option (List ℕ) → Option (List ℕ)
unless_refused refused word later = cond refused none (Option.map (λ ws. word ∷ ws) later)

-- the words of values of these kinds, of which the first stands here; none where one is refused, or the bytes do not end behind the last
unfoldable pub values_at : List Kind → (from : ℕ) → List ℕ → Option (List ℕ)
values_at [] from bs = cond (eqb (length bs) from) (some []) none
values_at (k ∷ ks) from bs = unless_refused (refused_at from bs k) (word_at from bs k) (values_at ks (end_at from bs k) bs)

-- where the last of them ends
abbrev pub end_of : List Kind → (from : ℕ) → List ℕ → ℕ
end_of [] from bs = from
end_of (k ∷ ks) from bs = end_of ks (end_at from bs k) bs

unless-none : (refused : Bool) (word : ℕ) → unless_refused refused word none ≡ none
unless-none true word = refl
unless-none false word = refl

misfit : (kinds : List Kind) (from : ℕ) (bs : List ℕ) → (length bs ≡ end_of kinds from bs → ⊥) → values_at kinds from bs ≡ none
unfolding values_at
misfit [] from bs other = rw (ne_eqb (length bs) from other)
misfit (k ∷ ks) from bs other =
    ap (unless_refused (refused_at from bs k) (word_at from bs k)) (misfit ks (end_at from bs k) bs other) ∙ unless-none (refused_at from bs k) (word_at from bs k)

further : (from : ℕ) (bs : List ℕ) (k : Kind) → IsFixed k → from ≤ end_at from bs k
further from bs a_word f = omega arith
further from bs a_byte f = omega arith
further from bs a_flag f = omega arith
further from bs a_name f = omega arith
further from bs a_snapshot f = absurd f

grows : (kinds : List Kind) → All IsFixed kinds → (from : ℕ) (bs : List ℕ) → from ≤ end_of kinds from bs
grows [] f from bs = omega arith
grows (k ∷ ks) (f, fs) from bs = omega (arith, further from bs k f, grows ks fs (end_at from bs k) bs)

-- a name's length stands behind the number, and it is no more than 24
no_name : (kinds : List Kind) → All IsFixed kinds → (bs : List ℕ) → (1 < length bs → longest_name < get_or bs 1 0) → values_at (a_name ∷ kinds) 1 bs ≡ none
unfolding values_at
no_name kinds f bs long = by_bool (λ b. ltb 1 (length bs) ≡ b → values_at (a_name ∷ kinds) 1 bs ≡ none) (ltb 1 (length bs))
    (λ _ t. rw (lt-ltb longest_name (get_or bs 1 0) (long (ltb-true 1 (length bs) t))))
    (λ _ t. misfit (a_name ∷ kinds) 1 bs (λ e. omega (arith, ltb-false 1 (length bs) t, grows kinds f (2 + get_or bs 1 0) bs)))
    refl

-- ── a value ────────────────────────────────────────────────────────────────────────────────────

record Stands (bs : List ℕ) (from : ℕ) (k : Kind) (reader : Reader Value) : Type 0 where
  value : Value
  short : from ≤ length bs → length bs < end_at from bs k → reader (drop from bs) ≡ none
  refused : end_at from bs k ≤ length bs → refused_at from bs k ≡ true → reader (drop from bs) ≡ none
  read : end_at from bs k ≤ length bs → refused_at from bs k ≡ false → reader (drop from bs) ≡ some (after value (drop (end_at from bs k) bs))
  word : end_at from bs k ≤ length bs → refused_at from bs k ≡ false → word_of value ≡ word_at from bs k

module _ (bs : List ℕ) (bytes : IsBytes bs) (from : ℕ) where
  -- a reader that takes the bytes, and then perhaps refuses them
  standing : {A : Type 0} {m : Reader A} {x : A} (k : Kind) (value : Value) (g : A → Reader Value)
      → Takes bs from (end_at from bs k) m x
      → (end_at from bs k ≤ length bs → g x ≡ unless (refused_at from bs k) value)
      → (end_at from bs k ≤ length bs → refused_at from bs k ≡ false → word_of value ≡ word_at from bs k)
      → Stands bs from k (m >>= g)
  standing k value g takes then word = record {
    value = value;
    short = λ s l. ap (λ o. go_on o g) (takes.short s l);
    refused = λ l t. goes_on g takes l ∙ ap (λ f. f (drop (end_at from bs k) bs)) (then l ∙ ap (λ b. unless b value) t);
    read = λ l t. goes_on g takes l ∙ ap (λ f. f (drop (end_at from bs k) bs)) (then l ∙ ap (λ b. unless b value) t);
    word = word;
  }

  word_small : from + 8 ≤ length bs → IsWord (number_of (take 8 (drop from bs)))
  word_small h =
      let small : number_of (take 8 (drop from bs)) < 256 ^ length (take 8 (drop from bs)) = number_small (take 8 (drop from bs)) (all_take _ 8 (drop from bs) (all_drop _ from bs bytes)) in
      subst (λ n. number_of (take 8 (drop from bs)) < 256 ^ n) (length-take-le 8 (drop from bs) (omega (arith, length-drop from bs))) small

  byte-takes : Takes bs from (from + 1) (read_number 1) (get_or bs from 0)
  byte-takes = subst (Takes bs from (from + 1) (read_number 1)) (byte_at from bs) (number-takes bs from (from + 1) 1 refl)

  flag_word : (n : ℕ) → ltb 1 n ≡ false → cond (eqb n 1) 1 0 ≡ n
  flag_word n t = by_bool (λ b. eqb n 1 ≡ b → cond b 1 0 ≡ n) (eqb n 1)
      (λ _ e. sym (eqb-true n 1 e))
      (λ _ e. let other = eqb-false n 1 e in omega (arith, ltb-false 1 n t, other))
      refl

  -- a name's length is the byte before it
  abbrev named : List ℕ
  named = take (from + 1 + get_or bs from 0 - (from + 1)) (drop (from + 1) bs)

  name-size : from + 1 + get_or bs from 0 ≤ length bs → length named ≡ get_or bs from 0
  name-size h = length-take-le (from + 1 + get_or bs from 0 - (from + 1)) (drop (from + 1) bs) (omega (arith, length-drop (from + 1) bs)) ∙ omega arith

  stands : (v : Value) → IsFixed (kind_of v) → Stands bs from (kind_of v) (read_like v)
  stands (Amount y) f = standing a_word (Amount (amount_at from bs)) _ (amount-takes bs from (from + 8) refl) (λ _. refl) (λ h _. word-of-signed _ (word_small h))
  stands (Identifier m) f = standing a_word (Identifier (number_of (take 8 (drop from bs)))) _ (number-takes bs from (from + 8) 8 refl) (λ _. refl) (λ _ _. refl)
  stands (Version m) f = standing a_word (Version (number_of (take 8 (drop from bs)))) _ (number-takes bs from (from + 8) 8 refl) (λ _. refl) (λ _ _. refl)
  stands (Fence m) f = standing a_word (Fence (number_of (take 8 (drop from bs)))) _ (number-takes bs from (from + 8) 8 refl) (λ _. refl) (λ _ _. refl)
  stands (Count m) f = standing a_word (Count (number_of (take 8 (drop from bs)))) _ (number-takes bs from (from + 8) 8 refl) (λ _. refl) (λ _ _. refl)
  stands (Field m) f = standing a_byte (Field (get_or bs from 0)) _ byte-takes (λ _. refl) (λ _ _. refl)
  stands (YesOrNo c) f = standing a_flag (YesOrNo (eqb (get_or bs from 0) 1)) _ byte-takes (λ _. refl) (λ _ t. flag_word (get_or bs from 0) t)
  stands (TheName a) f = standing a_name (TheName named) _ (name-takes-from bs from (from + 1) (from + 1 + get_or bs from 0) refl refl)
      (λ h. ap (λ n. unless (ltb longest_name n) (TheName named)) (name-size h))
      (λ h _. name-size h)
  stands (SnapshotBytes part) f = absurd f

-- ── all values ─────────────────────────────────────────────────────────────────────────────────

-- the words of what a reader has read to the end
abbrev words_read : Option (Reading (List Value)) → Option (List ℕ)
words_read o = Option.map (map word_of) (whole o)

later-read : (v : Value) (o : Option (Reading (List Value))) → words_read (go_on o (λ vs. reads (v ∷ vs))) ≡ Option.map (λ ws. word_of v ∷ ws) (words_read o)
later-read v none = refl
later-read v (some r) = by_bool (λ b. Option.map (map word_of) (cond b (some (v ∷ r.value)) none) ≡ Option.map (λ ws. word_of v ∷ ws) (Option.map (map word_of) (cond b (some r.value) none))) (eqb (length r.rest) 0)
    (λ _. refl)
    (λ _. refl)

module _ (bs : List ℕ) (bytes : IsBytes bs) where
  ended : (from : ℕ) → from ≤ length bs → words_read (some (after [] (drop from bs))) ≡ values_at [] from bs
  unfolding values_at
  ended from h = by_bool (λ b. eqb (length bs) from ≡ b → words_read (some (after [] (drop from bs))) ≡ cond b (some []) none) (eqb (length bs) from)
      (λ _ t. rw (eq-eqb (length (drop from bs)) 0 (omega (arith, eqb-true (length bs) from t, length-drop from bs))))
      (λ _ t. let other = eqb-false (length bs) from t in rw (ne_eqb (length (drop from bs)) 0 (λ z. other (omega (arith, length-drop from bs)))))
      refl

  pub places : (form : List Value) → All IsFixed (map kind_of form) → (from : ℕ) → from ≤ length bs → words_read (read_likes form (drop from bs)) ≡ values_at (map kind_of form) from bs
  unfolding read_likes values_at
  places [] f from h = ended from h
  places (v ∷ vs) (f, fs) from h =
      let s = stands bs bytes from v f in
      let end = end_at from bs (kind_of v) in
      let refused = refused_at from bs (kind_of v) in
      let word = word_at from bs (kind_of v) in
      let go : Value → Reader (List Value) = λ w. read_likes vs >>= (λ ws. reads (w ∷ ws)) in
      by_bool (λ b. ltb (length bs) end ≡ b → words_read (go_on (read_like v (drop from bs)) go) ≡ unless_refused refused word (values_at (map kind_of vs) end bs)) (ltb (length bs) end)
      (λ _ t. let l : length bs < end = ltb-true (length bs) end t in
      ap (λ o. words_read (go_on o go)) (s.short h l) ∙ sym (ap (unless_refused refused word) (misfit (map kind_of vs) end bs (λ e. omega (arith, grows (map kind_of vs) fs end bs))) ∙ unless-none refused word))
      (λ _ t. let l : end ≤ length bs = ltb-false (length bs) end t in
      by_bool (λ b. refused ≡ b → words_read (go_on (read_like v (drop from bs)) go) ≡ unless_refused b word (values_at (map kind_of vs) end bs)) refused
      (λ _ r. ap (λ o. words_read (go_on o go)) (s.refused l r))
      (λ _ r. ap (λ o. words_read (go_on o go)) (s.read l r)
      ∙ later-read s.value (read_likes vs (drop end bs))
      ∙ ap (λ n. Option.map (λ ws. n ∷ ws) (words_read (read_likes vs (drop end bs)))) (s.word l r)
      ∙ ap (Option.map (λ ws. word ∷ ws)) (places vs fs end l))
      refl)
      refl

  map-twice : (o : Option (List Value)) → Option.map (λ vs. filled 8 (map word_of vs)) o ≡ Option.map (filled 8) (Option.map (map word_of) o)
  map-twice none = refl
  map-twice (some vs) = refl

  module _ (kinds : List Kind) (f : All IsFixed kinds) (h : 1 ≤ length bs) where
    -- what a function has to show of its answer
    pub carries : {values : Option (List ℕ)} → values ≡ Option.map (filled 8) (values_at kinds 1 bs)
        → (form : List Value) → map kind_of form ≡ kinds → values ≡ Option.map (λ vs. filled 8 (map word_of vs)) (whole (read_likes form (drop 1 bs)))
    carries e form same =
        e
        ∙ ap (λ ks. Option.map (filled 8) (values_at ks 1 bs)) (sym same)
        ∙ ap (Option.map (filled 8)) (sym (places form (subst (All IsFixed) (sym same) f) 1 h))
        ∙ sym (map-twice (whole (read_likes form (drop 1 bs))))

    pub refuses : values_at kinds 1 bs ≡ none → Carries kinds bs None
    refuses e = carries (ap (Option.map (filled 8)) (sym e))

    -- too few bytes, or one is left over
    pub other-size : (length bs ≡ end_of kinds 1 bs → ⊥) → Carries kinds bs None
    other-size other = refuses (misfit kinds 1 bs other)

  pub nameless : (kinds : List Kind) → All IsFixed kinds → 1 ≤ length bs → (1 < length bs → longest_name < get_or bs 1 0) → Carries (a_name ∷ kinds) bs None
  nameless kinds f h long = refuses (a_name ∷ kinds) (tt, f) h (no_name kinds f bs long)

-- what was read, for what stands there
pub alike : {a b c d e f g h a' b' c' d' e' f' g' h' : ℕ} → a ≡ a' → b ≡ b' → c ≡ c' → d ≡ d' → e ≡ e' → f ≡ f' → g ≡ g' → h ≡ h'
    → some (a ∷ b ∷ c ∷ d ∷ e ∷ f ∷ g ∷ h ∷ []) ≡ some (a' ∷ b' ∷ c' ∷ d' ∷ e' ∷ f' ∷ g' ∷ h' ∷ [])
alike p q r s t u v w = cc
