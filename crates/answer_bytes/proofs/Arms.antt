-- What every arm of a match over answers needs: the answer is the arm's (`matched`), and an amount goes by the word of its two's complement (`word-is`).
use mathlib.Core.Path.{◌≡◌, sym, ap, subst}
use mathlib.Core.List.{List}
use Prim.Native.Nat.{ℕ}
use Rattle.rules.specs.AnswerNumbers.{Reply}
use Rattle.rules.specs.SnapshotsMigrationCertificates.{bytes_of}
use Rattle.answer_bytes.specs.Writing.{WritesReply}

-- the answer is the arm's, so what writes the one writes the other
pub matched : {answer arm : Reply} {before after : List ℕ} {written : ℕ} → answer ≡ arm → WritesReply arm before after written → WritesReply answer before after written
matched {before = before} {after = after} {written = written} is writes = subst (λ r. WritesReply r before after written) (sym is) writes

-- an amount's word is its two's complement: `IsWritten word (Amount z)` where z comes to this number
pub word-is : {word number : ℕ} → word ≡ number → bytes_of 8 number ≡ bytes_of 8 word
word-is is = ap (bytes_of 8) (sym is)
