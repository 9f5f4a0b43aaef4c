-- An answer's line: the pairs of digits at its front stand in the lent bytes (`FrontDecoded` of digits). Where they are not all of it there is no answer; else they are its
-- bytes, and the answer's bytes are no others (`answer-only` of the rules).
use mathlib.Core.Path.{◌≡◌, refl, sym, ◌∙◌, ap, ap₂, subst}
use mathlib.Core.List.{List, ◌++◌}
use mathlib.Core.Option.{none}
use Prim.Native.Nat.{ℕ, ◌+◌, ◌*◌, ◌≤◌, ◌<◌}
use native.Mathlib.Omega.{arith}
use lib.ListN.{length, take, drop}
use lib.Seq.{length-take-le}
use Rattle.rules.specs.Frames.{reply_bytes}
use Rattle.rules.specs.Recorder.{answer_of_bytes, answer_in, answer_of_line}
use Rattle.rules.proofs.Tests.{by-option}
use Rattle.rules.proofs.FrameBytes.{line-only}
use Rattle.rules.proofs.AnswerLines.{answer-only}
use Rattle.digits.specs.Decoding.{FrontDecoded}
use Rattle.digits.proofs.Decoding.{no_line, whole-line, room-holds}
use Rattle.recorder.specs.Reading.{ReadsAnswer, StandsInFront, LineRead, ReadsLine}
use Rattle.refusals.specs.declared.Refusal.{Refusal}
use Rattle.refusals.specs.declared.Refusal.TheVariants.{BadFrame}
use Rattle.std.specs.Prelude.{Result, Err}

module _ (code : ℕ) (line before after : List ℕ) (room : length line ≤ 2 * length before) where
  read_as : {words words-after : List ℕ} {r : Result (Unit {0}) Refusal} → LineRead (answer_of_line code line) line before after words words-after r → ReadsLine code line before after words words-after r
  read_as read = record { too_short = λ h. absurd (omega arith); long_enough = λ _. read }

  module _ {size : ℕ} (front : FrontDecoded line before after size) where
    pub broken : size + size < length line → (words : List ℕ) → ReadsLine code line before after words words (Err BadFrame)
    unfolding answer_of_line
    broken h words =
        let none_read : answer_of_line code line ≡ none = ap (answer_in code) (no_line front h) in
        read_as (subst (λ o. LineRead o line before after words words (Err BadFrame)) (sym none_read)
        record { size = size; front = front; bytes = tt; answer = record { answer = refl; words = refl } })

    in_front : length line ≤ size + size → StandsInFront (answer_of_bytes code (take size after)) before after
    in_front h = by-option (λ o. answer_of_bytes code (take size after) ≡ o → StandsInFront o before after) (answer_of_bytes code (take size after))
        (λ _ _. tt)
        (λ a _ e. let (bytes, is) = line-only line (take size after) (whole-line front h) in
        let (same, can) = answer-only code (take size after) bytes a e in
        let long : size ≡ length (reply_bytes a) = sym (length-take-le size after front.fits) ∙ ap length (sym same) in
        room-holds front ∙ ap₂ (λ bs n. bs ++ drop n before) (sym same) long)
        refl

    pub decoded : length line ≤ size + size → (words words-after : List ℕ) (r : Result (Unit {0}) Refusal) → ReadsAnswer (answer_of_bytes code (take size after)) words words-after r
        → ReadsLine code line before after words words-after r
    unfolding answer_of_line
    decoded h words words-after r reads =
        let read : answer_of_line code line ≡ answer_of_bytes code (take size after) = ap (answer_in code) (whole-line front h) in
        read_as (subst (λ o. LineRead o line before after words words-after r) (sym read)
        record { size = size; front = front; bytes = in_front h; answer = reads })
