-- `frame_reader::read_settlement`: `committing` and `releasing` of Sized.antt fix the frame's length by its code; what was read is put in for the numbers that
-- stand in the bytes.
use mathlib.Core.Path.{◌≡◌, sym, ◌∙◌, ap, ap₂}
use mathlib.Core.Logic.{⊎_elim}
use mathlib.Core.List.{List}
use mathlib.Core.Option.{none, some}
use Prim.Native.Nat.{ℕ, ◌≤◌, ◌<◌}
use native.Mathlib.Omega.{arith}
use lib.ListN.{length, get_or}
use Rattle.rules.specs.AccountRules.{commit, release}
use Rattle.rules.specs.Frames.{on_account, operation_of}
use Rattle.rules.proofs.Tests.{equal_or_not}
use Rattle.frame_reader.specs.Operations.{word_end}
use Rattle.frame_reader.proofs.Sized.{committing, releasing}
use Rattle.frame_reader.proofs.read_settlement.Goals as goal

short : (bs : List ℕ) (code : ℕ) → 1 ≤ length bs → get_or bs 0 0 ≡ code → 5 ≤ code → code ≤ 6 → length bs < word_end → operation_of bs ≡ none
short bs code h e low high l = ⊎_elim
    (λ six. (releasing h (e ∙ six)).misfit (omega arith))
    (λ other. (committing h (omega arith)).misfit (omega arith))
    (equal_or_not code 6)

pub returns-then-bytes-lt-WORD_END : goal.returns-then-bytes-lt-WORD_END
returns-then-bytes-lt-WORD_END c = let ((h, e), low, high) = c.requires in record { operation = sym (short _ c.args.code h e low high c.if-bytes-lt-WORD_END.true); parts = tt }

pub returns-then-bytes-ne-WORD_END : goal.returns-then-bytes-ne-WORD_END
returns-then-bytes-ne-WORD_END c = let ((h, e), low, high) = c.requires in record { operation = sym ((releasing h (e ∙ c.if-code-eq6.true)).misfit (omega arith)); parts = tt }

pub returns-then-code-eq6 : goal.returns-then-code-eq6
returns-then-code-eq6 c =
    let ((h, e), low, high) = c.requires in record { operation = ap (λ i. some (on_account (release i))) c.read8.ensures ∙ sym ((releasing h (e ∙ c.if-code-eq6.true)).fit (omega arith)); parts = tt }

pub returns-then-bytes-ne-TWO_WORDS_END : goal.returns-then-bytes-ne-TWO_WORDS_END
returns-then-bytes-ne-TWO_WORDS_END c =
    let ((h, e), low, high) = c.requires in record { operation = sym ((committing h (omega arith)).misfit (omega arith)); parts = tt }

pub returns : goal.returns
returns c =
    let ((h, e), low, high) = c.requires in
    let id = c.read8 in record { operation = ap₂ (λ i z. some (on_account (commit i z))) id.ensures c.read_amount.ensures ∙ sym ((committing h (omega arith)).fit (omega arith)); parts = tt }
