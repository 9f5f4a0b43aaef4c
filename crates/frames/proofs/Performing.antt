-- An operation performed on a sound ledger, and its reply written, answer the frame that asks for it: the rules' `answer` on what is lent sound is the
-- operation's outcome, so both parts carry over along that equation.
use mathlib.Core.Path.{◌≡◌, sym, ap, subst, ◌∙◌}
use mathlib.Core.List.{List}
use mathlib.Core.Option.{some}
use Prim.Native.Nat.{ℕ}
use native.Mathlib.Omega.{arith}
use Rattle.rules.specs.RoomAndSoundLedger.{Ledger}
use Rattle.rules.specs.AnswerNumbers.{Reply, Outcome, Answered, sound, on_lent}
use Rattle.rules.specs.Frames.{Operation, answer}
use Rattle.room.specs.Room.{Performed}
use Rattle.answer_bytes.specs.Writing.{WritesReply}
use Rattle.frames.specs.Answering.{IsLent, AnswersOperation}

-- the equation is refl where `answer` is unfolded; `untouched` is of memory that is no room, and what is lent here is sound
pub performed : {f : Ledger → Outcome} {L : Ledger} {r : Reply} {x : Operation} {before after output-before output-after : List ℕ} {written : ℕ}
    → Performed f L r after
    → WritesReply r output-before output-after written
    → answer (sound L) x ≡ on_lent (sound L) f
    → AnswersOperation (some x) (sound L) before after output-before output-after written
unfolding on_lent
performed {after} {output-before} {output-after} {written} performs writes e = record {
  writes = subst (λ r. WritesReply r output-before output-after written) (performs.answer ∙ sym (ap (λ (a : Answered). a.reply) e)) writes;
  lent = subst (λ (a : Answered). IsLent after a.lent) (sym e) performs.room;
  untouched = λ no_room. absurd (let z : ◌≡◌ {A = ℕ} 0 1 = cc in omega arith);
}
