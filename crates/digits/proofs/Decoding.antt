-- Decoding from the front, for `front_bytes` and `bytes_of_line`. `Underway` holds whatever characters follow, so that a pair more is one step of the rules'
-- `bytes_of_line` behind those passed (`turn`), and a pair that is none, or one character left, makes no frame of any longer part (`stopped`).
use mathlib.Core.Path.{◌≡◌, refl, sym, ap, ap₂, subst, ◌∙◌}
use mathlib.Core.Logic.{◌⊎◌, inl, inr}
use mathlib.Core.Bool.{and-false}
use mathlib.Core.List.{List, [], ◌∷◌, ◌++◌, append_assoc, append-nil}
use mathlib.Core.Option.{Option, none, some}
use Prim.Native.Nat.{ℕ, zero, suc, ◌+◌, ◌-◌, ◌*◌, ◌/◌, ◌≤◌, ◌<◌}
use native.Mathlib.Nat.{add-zero}
use native.Mathlib.Numerals.{add-one}
use native.Mathlib.Omega.{arith}
use borrow.Author.Tests.{lt-ltb, le-ltb, ltb-true, ltb-false}
use lib.Dec.{ltb}
use lib.ListN.{length, get_or, take, drop, set, length-append, length-drop, take-append-drop}
use lib.Seq.{get_or-drop, drop-cons, drop-drop, take-add, take_all, take-suc-set, drop-set-lt, length-take-le}
use Rattle.rules.specs.Frames.{digit_of, byte_before, bytes_of_line}
use Rattle.rules.proofs.Tests.{by_bool, none-some}
use Rattle.std.specs.Prelude.{Some, None}
use Rattle.digits.specs.Decoding.{Decodes, FrontDecoded}

-- bytes before those of the rest, if that has any
abbrev joined : List ℕ → Option (List ℕ) → Option (List ℕ)
joined bytes none = none
joined bytes (some bs) = some (bytes ++ bs)

joined-none : (rest : Option (List ℕ)) → rest ≡ joined [] rest
joined-none none = refl
joined-none (some bs) = refl

joined-twice : (xs ys : List ℕ) (rest : Option (List ℕ)) → joined xs (joined ys rest) ≡ joined (xs ++ ys) rest
joined-twice xs ys none = refl
joined-twice xs ys (some bs) = ap some (sym (append_assoc xs ys bs))

module _ (high low : ℕ) where
  right-pair : (rest : Option (List ℕ)) → high < 16 → low < 16 → byte_before high low rest ≡ joined ((high * 16 + low) ∷ []) rest
  right-pair none h l = refl
  right-pair (some bs) h l = rw (lt-ltb high 16 h, lt-ltb low 16 l)

  pub wrong-pair : (rest : Option (List ℕ)) → (15 < high) ⊎ (15 < low) → byte_before high low rest ≡ none
  wrong-pair none w = refl
  wrong-pair (some bs) (inl h) = rw (le-ltb high 16 h)
  wrong-pair (some bs) (inr l) = rw (le-ltb low 16 l, and-false (ltb high 16))

-- the pair of characters at a place, and their digits
pub record Pair (line : List ℕ) (at high low : ℕ) : Type 0 where
  pub is_high : high ≡ digit_of (get_or line at 0)
  pub is_low : low ≡ digit_of (get_or line (at + 1) 0)
  pub inside : at + 1 < length line

-- the pairs that are left of a line once i of them are taken: pieces of two characters of its rest
pub record PairsLeft (line : List ℕ) (i size : ℕ) (left : List ℕ) : Type 0 where
  pub two : size ≡ 2
  pub rest : left ≡ drop (i + i) line
  pub inside : i + i ≤ length line

two-taken : (line pair rest : List ℕ) (at : ℕ) → drop at line ≡ pair ++ rest → length pair ≡ 2 → (get_or pair 0 0 ≡ get_or line at 0) × (get_or pair 1 0 ≡ get_or line (at + 1) 0) × (rest ≡ drop (at + 2) line)
two-taken line [] rest at e two = absurd (omega arith)
two-taken line (x ∷ []) rest at e two = absurd (omega arith)
two-taken line (x ∷ y ∷ z ∷ zs) rest at e two = absurd (omega arith)
two-taken line (x ∷ y ∷ []) rest at e two = (
  ap (λ xs. get_or xs 0 0) (sym e) ∙ get_or-drop at line 0 0 ∙ ap (λ n. get_or line n 0) (add-zero at),
  ap (λ xs. get_or xs 1 0) (sym e) ∙ get_or-drop at line 1 0,
  ap (drop 2) (sym e) ∙ drop-drop 2 at line,
)

-- a piece is taken
module _ {line left : List ℕ} {i size : ℕ} (l : PairsLeft line i size left) (pair rest : List ℕ) (e : left ≡ pair ++ rest) (w : length pair ≡ size) where
  parts : drop (i + i) line ≡ pair ++ rest
  parts = sym l.rest ∙ e

  fits : i + i + 2 ≤ length line
  fits = omega (arith, l.inside, l.two, ap length parts, length-append pair rest, length-drop (i + i) line)

  pub pair-taken : {high low : ℕ} → high ≡ digit_of (get_or pair 0 0) → low ≡ digit_of (get_or pair 1 0) → Pair line (i + i) high low
  pair-taken h k =
      let t = two-taken line pair rest (i + i) parts (w ∙ l.two) in
      record { is_high = h ∙ ap digit_of t.0; is_low = k ∙ ap digit_of t.1; inside = omega (arith, fits) }

  pub pairs-left : {next : ℕ} → next ≡ size → PairsLeft line (i + 1) next rest
  pairs-left n =
      let at : i + i + 2 ≡ i + 1 + (i + 1) = omega arith in
      record {
        two = n ∙ l.two;
        rest = (two-taken line pair rest (i + i) parts (w ∙ l.two)).2 ∙ ap (λ n. drop n line) at;
        inside = omega (arith, fits);
      }

-- where less than a piece is left, they are all taken
pub no-pair-left : {line left : List ℕ} {i size : ℕ} → PairsLeft line i size left → length left < size → length line / 2 ≡ i
no-pair-left {line} {i = i} l h = omega (arith, l.inside, l.two, ap length l.rest, length-drop (i + i) line)

one_more : (line : List ℕ) (at : ℕ) → at < length line → bytes_of_line (take 1 (drop at line)) ≡ none
unfolding bytes_of_line
one_more line at h = rw (drop-cons line at 0 h)

module _ {line : List ℕ} {at high low : ℕ} (p : Pair line at high low) where
  -- the pair before other characters
  abbrev before-others : List ℕ → List ℕ
  before-others later = get_or line at 0 ∷ get_or line (at + 1) 0 ∷ later

  passed : (later : List ℕ) → take (at + 2) line ++ later ≡ take at line ++ before-others later
  passed later =
      let two : at + 1 ≡ suc at = omega arith in
      ap (λ front. front ++ later) (take-add at 2 line)
      ∙ append_assoc (take at line) (take 2 (drop at line)) later
      ∙ ap (λ xs. take at line ++ (take 2 xs ++ later)) (drop-cons line at 0 (omega (arith, p.inside)))
      ∙ ap (λ xs. take at line ++ (take 2 (get_or line at 0 ∷ xs) ++ later)) (drop-cons line (suc at) 0 (omega (arith, p.inside)))
      ∙ ap (λ n. take at line ++ (get_or line at 0 ∷ get_or line n 0 ∷ later)) (sym two)

  pair-bytes : (later : List ℕ) → bytes_of_line (before-others later) ≡ byte_before high low (bytes_of_line later)
  unfolding bytes_of_line
  pair-bytes later = rw (p.is_high, p.is_low)

  wrong-from : (15 < high) ⊎ (15 < low) → (more : ℕ) → 0 < more → bytes_of_line (take more (drop at line)) ≡ none
  wrong-from w zero h = absurd (omega arith)
  wrong-from w (suc zero) h = one_more line at (omega (arith, p.inside))
  wrong-from w (suc (suc more)) h =
      let two : suc at ≡ at + 1 = omega arith in
      ap (λ xs. bytes_of_line (take (suc (suc more)) xs)) (drop-cons line at 0 (omega (arith, p.inside)))
      ∙ ap (λ xs. bytes_of_line (get_or line at 0 ∷ take (suc more) xs)) (drop-cons line (suc at) 0 (omega (arith, p.inside)))
      ∙ ap (λ n. bytes_of_line (get_or line at 0 ∷ get_or line n 0 ∷ take more (drop (suc (suc at)) line))) two
      ∙ pair-bytes (take more (drop (suc (suc at)) line))
      ∙ wrong-pair high low (bytes_of_line (take more (drop (suc (suc at)) line))) w

-- under way: the room's first i bytes are those of the line's first i pairs, whatever follows them, and behind them it is as it was
pub record Underway (line before after : List ℕ) (i : ℕ) : Type 0 where
  pub front : (later : List ℕ) → bytes_of_line (take (i + i) line ++ later) ≡ joined (take i after) (bytes_of_line later)
  pub room : drop i after ≡ drop i before

pub begun : (line room : List ℕ) → Underway line room room 0
begun line room = record { front = λ later. joined-none (bytes_of_line later); room = refl }

module _ {line before after : List ℕ} {i : ℕ} (w : Underway line before after i) where
  -- where no character or no pair behind those passed makes a byte, they are all that does
  stopped : i + i ≤ length line → i ≤ length after → ((more : ℕ) → 0 < more → i + i + more ≤ length line → bytes_of_line (take more (drop (i + i) line)) ≡ none)
      → FrontDecoded line before after i
  unfolding bytes_of_line
  stopped h k further = record {
    within = h;
    fits = k;
    bytes = ap bytes_of_line (sym (append-nil (take (i + i) line))) ∙ w.front [] ∙ ap some (append-nil (take i after));
    room = w.room;
    no_frame = λ end behind inside.
        let more = end - (i + i) in
        let end_is : end ≡ i + i + more = omega arith in
        ap (λ n. bytes_of_line (take n line)) end_is
        ∙ ap bytes_of_line (take-add (i + i) more line)
        ∙ w.front (take more (drop (i + i) line))
        ∙ ap (joined (take i after)) (further more (omega arith) (omega arith));
  }

  module _ {high low : ℕ} (p : Pair line (i + i) high low) where
    pub turn : (byte : ℕ) → byte ≡ high * 16 + low → high < 16 → low < 16 → i < length after → Underway line before (set after i byte) (i + 1)
    turn byte e h l k =
        let two : i + 1 + (i + 1) ≡ i + i + 2 = omega arith in
        record {
          front = λ later. ap (λ n. bytes_of_line (take n line ++ later)) two
              ∙ ap bytes_of_line (passed p later)
              ∙ w.front (before-others p later)
              ∙ ap (joined (take i after)) (pair-bytes p later ∙ right-pair high low (bytes_of_line later) h l)
              ∙ joined-twice (take i after) ((high * 16 + low) ∷ []) (bytes_of_line later)
              ∙ rw (add-one, take-suc-set after i byte k, e);
          room = drop-set-lt (i + 1) after i byte (omega arith) ∙ sym (drop-drop 1 i after) ∙ ap (drop 1) w.room ∙ drop-drop 1 i before;
        }

    pub wrong : (15 < high) ⊎ (15 < low) → i ≤ length after → FrontDecoded line before after i
    wrong k fits = stopped (omega (arith, p.inside)) fits (λ more h _. wrong-from p k more h)

  -- no pair is left
  pub finished : i + i ≤ length line → length line ≤ i + i + 1 → i ≤ length after → FrontDecoded line before after i
  finished h l k = stopped h k (λ more some_more inside.
      let one : more ≡ 1 = omega arith in
      ap (λ n. bytes_of_line (take n (drop (i + i) line))) one ∙ one_more line (i + i) (omega arith))

-- ── the line ───────────────────────────────────────────────────────────────────────────────────

module _ {line before after : List ℕ} {size : ℕ} (f : FrontDecoded line before after size) where
  pub no_line : size + size < length line → bytes_of_line line ≡ none
  no_line h = ap bytes_of_line (sym (take_all (length line) line (omega arith))) ∙ f.no_frame (length line) h (omega arith)

  pub whole-line : length line ≤ size + size → bytes_of_line line ≡ some (take size after)
  whole-line h = ap bytes_of_line (sym (take_all (size + size) line h)) ∙ f.bytes

  pub room-holds : after ≡ take size after ++ drop size before
  room-holds = sym (take-append-drop size after) ∙ ap (λ bs. take size after ++ bs) f.room

  pub refused : size + size < length line → length after ≡ length before → Decodes (bytes_of_line line) before after None
  refused h s = subst (λ bs. Decodes bs before after None) (sym (no_line h)) record { answer = refl; size = s }

  pub whole : length line ≤ size + size → Decodes (bytes_of_line line) before after (Some size)
  whole h =
      let long : length (take size after) ≡ size = length-take-le size after f.fits in
      subst (λ bs. Decodes bs before after (Some size)) (sym (whole-line h)) record {
        answer = ap Some (sym long);
        room = room-holds ∙ ap (λ n. take size after ++ drop n before) (sym long);
      }

-- the pairs at the front of a line fix what the room holds
module _ {line before : List ℕ} where
  no_longer : {after others : List ℕ} {size other : ℕ} → FrontDecoded line before after size → FrontDecoded line before others other → other ≤ size
  no_longer {size} {other} f g = by_bool (λ b. ltb size other ≡ b → other ≤ size) (ltb size other)
      (λ _ t. let more : size < other = ltb-true size other t in none-some (sym (f.no_frame (other + other) (omega arith) g.within) ∙ g.bytes))
      (λ _ t. ltb-false size other t)
      refl

  pub same-front : {after others : List ℕ} {size other : ℕ} → FrontDecoded line before after size → FrontDecoded line before others other → (size ≡ other) × (after ≡ others)
  same-front {after} {others} {size} {other} f g =
      let same : size ≡ other = omega (arith, no_longer f g, no_longer g f) in
      let both : some (take size after) ≡ some (take other others) = sym f.bytes ∙ ap (λ n. bytes_of_line (take (n + n) line)) same ∙ g.bytes in
      let front : take size after ≡ take other others = cc in
      (same, room-holds f ∙ ap₂ (λ bs n. bs ++ drop n before) front same ∙ sym (room-holds g))
