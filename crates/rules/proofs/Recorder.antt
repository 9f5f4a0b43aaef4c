-- The line of an operation, both ways: what is written is read back, and no other line is read so. The frame goes by the laws of its fields (Fields), and its digits add
-- nothing, since a line's bytes have no other line (FrameBytes).
use mathlib.Core.Path.{◌≡◌, refl, sym, ◌∙◌, ap, subst}
use mathlib.Core.Bool.{false}
use mathlib.Core.List.{List}
use mathlib.Core.Option.{some, map}
use Prim.Native.Nat.{ℕ, ◌≤◌}
use borrow.Author.Tests.{le-ltb}
use lib.Dec.{ltb}
use lib.ListN.{length}
use Rattle.rules.specs.Frames.{Operation, Parts, bytes_of_line, line_of_bytes, operation_of, operation_of_bytes, longest_frame, longest_line, operation_of_line, operation_of_frame}
use Rattle.rules.specs.Recorder.{Written, bytes_in, line_in, frame_of, line_of_operation, PartsFit, operation_of_parts}
use Rattle.rules.proofs.Tests.{by-test, by-option, none-some}
use Rattle.rules.proofs.Reading.{whole-only}
use Rattle.rules.proofs.Fields.{parts-recorded, operation-read}
use Rattle.rules.proofs.FrameBytes.{line-only, frame-as-line}

-- ── operations ─────────────────────────────────────────────────────────────────────────────────

-- each line that is read as an operation is the line that is written for it
pub operation-only : (line : List ℕ) (x : Operation) → operation_of_line line ≡ some x → line_of_operation x ≡ some line
unfolding operation_of_line line_of_operation line_in operation_of
operation-only line x e = by-test (λ o. o ≡ some x → line_of_operation x ≡ some line) (ltb longest_line (length line))
    (λ _ q. none-some q)
    (λ _. by-option (λ o. bytes_of_line line ≡ o → operation_of_bytes o ≡ some x → line_of_operation x ≡ some line) (bytes_of_line line)
    (λ _ _ q. none-some q)
    (λ bs _ p q. let (bytes, is) = line-only line bs p in
    let (frame, _) = whole-only operation-read bs bytes x q in
    by-option (λ o. map bytes_in o ≡ some bs → map line_in o ≡ some line) (frame_of x)
    (λ _ z. none-some z)
    (λ w _ z. let same : bytes_in w ≡ bs = cc in ap (λ l. some (line_of_bytes l)) same ∙ ap some is)
    frame)
    refl) e

within : (bs : List ℕ) → length bs ≤ longest_frame → operation_of_frame bs ≡ operation_of bs
unfolding operation_of_frame
within bs h = rw (le-ltb longest_frame (length bs) h)

-- what is written of parts is one line, which is read as the operation
pub operation-back : (number : ℕ) (p : Parts) → PartsFit p → (x : Operation) → operation_of_parts number p ≡ some x → (w : Written) → frame_of x ≡ some w → w.is_long ≡ false → operation_of_line (line_in w) ≡ some x
unfolding line_in
operation-back number p fits x e w is s =
    let r = parts-recorded number p fits x e in
    let same : r.frame ≡ w = let q : some r.frame ≡ some w = sym r.is ∙ is in cc in
    let short : r.frame.is_long ≡ false = ap (λ (v : Written). v.is_long) same ∙ s in
    subst (λ v. operation_of_line (line_of_bytes (bytes_in v)) ≡ some x) same (sym (frame-as-line (bytes_in r.frame) (r.bytes short)) ∙ within (bytes_in r.frame) (r.size short) ∙ r.reads_back short)
