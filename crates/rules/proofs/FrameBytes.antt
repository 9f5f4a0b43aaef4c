-- A frame's line: its bytes have no other line, both are the same operation, and an operation read from it lies within what the theorems about operations
-- suppose. The digits are undone pair by pair, so a line is twice as long as its bytes, and the two tests of length say the same; what is read fits by the laws
-- of readers (Reading), body by body along the table of codes.
use mathlib.Core.Path.{◌≡◌, refl, sym, subst, ap, ◌∙◌}
use mathlib.Core.Bool.{true, cond, ◌&&◌}
use mathlib.Core.List.{List, [], ◌∷◌, ◌++◌}
use mathlib.Core.Option.{none, some}
use Prim.Native.Nat.{ℕ, ◌+◌, ◌-◌, ◌*◌, ◌/◌, ◌%◌, ◌≤◌, ◌<◌}
use native.Mathlib.Nat.{div-add-mod'}
use native.Mathlib.Omega.{arith}
use borrow.Author.Tests.{ltb-true, ltb-false, lt-ltb, le-ltb, leb-true, le-leb, lt-leb}
use lib.Arith.{digits_div, digits_mod}
use lib.Dec.{leb, ltb}
use lib.ListN.{length}
use Rattle.rules.specs.Lists.{All}
use Rattle.rules.specs.RoomAndSoundLedger.{IsByte, is_in_range}
use Rattle.rules.specs.Frames.{digit_of, byte_before, bytes_of_line, Operation, operation_of, character_of, line_of_bytes, operation_of_bytes, longest_frame, longest_line, operation_of_line, operation_of_frame}
use Rattle.rules.specs.Domain.{OperationFits}
use Rattle.rules.proofs.Tests.{by-test, by_bool, by-option, and-true, none-some}
use Rattle.rules.proofs.Reading.{whole-only}
use Rattle.rules.proofs.Fields.{operation-read}

-- ── digits and their characters ────────────────────────────────────────────────────────────────

between : (low high c : ℕ) → is_in_range low high c ≡ true → (low ≤ c) × (c ≤ high)
between low high c e = let (a, b) = and-true (leb low c) (leb c high) e in (leb-true low c a, leb-true c high b)

digit-of-character : (d : ℕ) → d < 16 → digit_of (character_of d) ≡ d
digit-of-character d h = by-test (λ c. digit_of c ≡ d) (ltb d 10)
    (λ t. let l : d < 10 = ltb-true d 10 t in
    rw (le-leb 48 (48 + d) (omega arith), le-leb (48 + d) 57 (omega arith)) (omega arith))
    (λ t. let l : 10 ≤ d = ltb-false d 10 t in
    rw (le-leb 48 (87 + d) (omega arith), lt-leb (87 + d) 57 (omega arith), le-leb 97 (87 + d) (omega arith), le-leb (87 + d) 102 (omega arith)) (omega arith))

character-of-digit : (c : ℕ) → digit_of c < 16 → character_of (digit_of c) ≡ c
character-of-digit c = by-test (λ d. d < 16 → character_of d ≡ c) (is_in_range 48 57 c)
    (λ t h. let (l, m) = between 48 57 c t in rw (lt-ltb (c - 48) 10 (omega arith)) (omega arith))
    (λ _. by-test (λ d. d < 16 → character_of d ≡ c) (is_in_range 97 102 c)
    (λ t h. let (l, m) = between 97 102 c t in rw (le-ltb (c - 87) 10 (omega arith)) (omega arith))
    (λ _ h. absurd (omega arith)))

-- ── a line and its bytes ───────────────────────────────────────────────────────────────────────

pub line-back : (bs : List ℕ) → All IsByte bs → bytes_of_line (line_of_bytes bs) ≡ some bs
unfolding bytes_of_line line_of_bytes
line-back [] h = refl
line-back (b ∷ bs) (h, k) =
    let high : b / 16 < 16 = omega arith in
    let low : b % 16 < 16 = omega arith in
    rw (digit-of-character (b / 16) high, digit-of-character (b % 16) low, line-back bs k, lt-ltb (b / 16) 16 high, lt-ltb (b % 16) 16 low, div-add-mod' b 16)

-- the bytes of a line, and that they have no other
abbrev pub OnlyLine : (line bs : List ℕ) → Type 0
OnlyLine line bs = All IsByte bs × (line_of_bytes bs ≡ line)

pub line-only : (line bs : List ℕ) → bytes_of_line line ≡ some bs → OnlyLine line bs
unfolding bytes_of_line line_of_bytes
line-only [] bs e = let q : [] ≡ bs = cc in subst (OnlyLine []) q (tt, refl)
line-only (c ∷ []) bs e = none-some e
line-only (c ∷ d ∷ cs) bs e = by-option (λ o. byte_before (digit_of c) (digit_of d) o ≡ some bs → OnlyLine (c ∷ d ∷ cs) bs) (bytes_of_line cs)
    (λ _ q. none-some q)
    (λ rest p. by-test (λ o. o ≡ some bs → OnlyLine (c ∷ d ∷ cs) bs) (ltb (digit_of c) 16 && ltb (digit_of d) 16)
    (λ t q. let (a, b) = and-true (ltb (digit_of c) 16) (ltb (digit_of d) 16) t in
    let high : digit_of c < 16 = ltb-true (digit_of c) 16 a in
    let low : digit_of d < 16 = ltb-true (digit_of d) 16 b in
    let (bytes, is) = line-only cs rest p in
    let v : (digit_of c * 16 + digit_of d) ∷ rest ≡ bs = cc in
    subst (OnlyLine (c ∷ d ∷ cs)) v ((omega arith, bytes), rw (digits_div (digit_of c) low, digits_mod (digit_of c) low, character-of-digit c high, character-of-digit d low, is)))
    (λ t q. none-some q)) e

pub line-length : (bs : List ℕ) → length (line_of_bytes bs) ≡ length bs + length bs
unfolding line_of_bytes
line-length [] = refl
line-length (b ∷ bs) = omega (arith, line-length bs)

pub line-append : (bs cs : List ℕ) → line_of_bytes (bs ++ cs) ≡ line_of_bytes bs ++ line_of_bytes cs
unfolding line_of_bytes
line-append [] cs = refl
line-append (b ∷ bs) cs = ap (λ l. character_of (b / 16) ∷ character_of (b % 16) ∷ l) (line-append bs cs)

-- ── a frame as bytes and as a line ─────────────────────────────────────────────────────────────

module _ (line : List ℕ) where
  pub line-as-frame : (bs : List ℕ) → bytes_of_line line ≡ some bs → operation_of_line line ≡ operation_of_frame bs
  unfolding operation_of_line operation_of_frame
  line-as-frame bs e =
      let size : length line ≡ length bs + length bs = ap length (sym (line-only line bs e).1) ∙ line-length bs in
      let same : ltb longest_line (length line) ≡ ltb longest_frame (length bs) = by_bool (λ b. ltb longest_line (length line) ≡ b) (ltb longest_frame (length bs))
      (λ long. lt-ltb longest_line (length line) (omega (arith, size, ltb-true longest_frame (length bs) long)))
      (λ short. le-ltb longest_line (length line) (omega (arith, size, ltb-false longest_frame (length bs) short))) in
      ap (λ long. cond long none (operation_of_bytes (bytes_of_line line))) same ∙ ap (λ o. cond (ltb longest_frame (length bs)) none (operation_of_bytes o)) e

  pub no-bytes-no-frame : bytes_of_line line ≡ none → operation_of_line line ≡ none
  unfolding operation_of_line
  no-bytes-no-frame e = by-test (λ o. o ≡ none) (ltb longest_line (length line)) (λ _. refl) (λ _. ap operation_of_bytes e)

-- whichever way a frame comes, it is the same operation
pub frame-as-line : (bs : List ℕ) → All IsByte bs → operation_of_frame bs ≡ operation_of_line (line_of_bytes bs)
frame-as-line bs bytes = sym (line-as-frame (line_of_bytes bs) bs (line-back bs bytes))

-- ── an operation read fits ─────────────────────────────────────────────────────────────────────

pub operation-fits : (bs : List ℕ) → All IsByte bs → (x : Operation) → operation_of bs ≡ some x → OperationFits x
unfolding operation_of
operation-fits bs bytes x e = (whole-only operation-read bs bytes x e).1

-- whatever characters the line has
pub line-fits : (line : List ℕ) (x : Operation) → operation_of_line line ≡ some x → OperationFits x
unfolding operation_of_line
line-fits line x e = by-test (λ o. o ≡ some x → OperationFits x) (ltb longest_line (length line))
    (λ _ q. none-some q)
    (λ _. by-option (λ o. operation_of_bytes o ≡ some x → OperationFits x) (bytes_of_line line)
    (λ _ q. none-some q)
    (λ bs p q. operation-fits bs (line-only line bs p).0 x q)) e
