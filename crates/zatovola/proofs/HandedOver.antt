-- An answer as a number and a place tells the reply that it is of, where a refusal of that reply carries nothing (`told-is`): so what a read promises of any memory is
-- promised of the number and the place (`handed`).
use mathlib.Core.Path.{◌≡◌, refl, sym, ap, subst, ◌∙◌}
use mathlib.Core.Logic.{◌≢◌}
use mathlib.Core.List.{List, [], ◌∷◌}
use Prim.Native.Nat.{ℕ, ◌<◌, ◌^◌}
use lib.IntN.{ℤ}
use lib.Signed.{mag}
use lib.Dec.{eqb}
use native.Mathlib.Omega.{arith}
use Rattle.std.specs.Prelude.{Result, Ok, Err}
use Rattle.rules.specs.RoomAndSoundLedger.{Ledger}
use Rattle.rules.specs.AnswerNumbers.{Value, Count, Reply, Refusal as RulesRefusal, reply, reply_of, done}
use borrow.Author.Tests.{eqb-true}
use Rattle.rules.proofs.Tests.{by-test}
use Rattle.refusals.specs.declared.Refusal.{Refusal}
use Rattle.refusals.specs.Answers.{refusal_of, answer_of}
use Rattle.any_memory_accounts.specs.Tells.{Tells}
use Rattle.rules.specs.Recorder.{Written, Recording, record_operation}
use Rattle.numbers.proofs.Amounts.{held, held-is}
use Rattle.recorder.specs.Recording.{Records, parts}
use Rattle.zatovola.specs.Reads.{told, HandedOver, Reads}
use Rattle.zatovola.specs.Recorder.{HandsRecorded}
use Rattle.zatovola.proofs.QuietAnswers.{Quiet, quiet-operation}

-- no refusal has the number of done
refused-above : (e : RulesRefusal) → 0 < (reply_of e).number
refused-above e = grind arith

module _ {A : Type 0} (carried : A → Value) (before : A) where
  told-refused : (number : ℕ) (held : A) → 0 < number → told carried number held ≡ reply number []
  told-refused number held above = by-test (λ r. r ≡ reply number []) (eqb number 0) (λ e. absurd (omega (arith, above, eqb-true number 0 e))) (λ _. refl)

  told-is : (q : Reply) → Quiet q → (r : Result A Refusal) (number : ℕ) (after : A) → HandedOver r before number after → answer_of (λ x. carried x ∷ []) r ≡ q → told carried number after ≡ q
  told-is q quiet (Ok x) number after (n, v) e = ap (λ k. told carried k after) n ∙ ap (λ y. done (carried y ∷ [])) v ∙ e
  told-is q quiet (Err d) number after (n, v) e =
      let numbered : q.number ≡ number = sym (ap (λ (r : Reply). r.number) e) ∙ sym n in
      let above : 0 < number = omega (arith, refused-above (refusal_of d), n) in
      let bare : q.carried ≡ [] = quiet (λ none. omega (arith, above, numbered, none)) in
      let same : q ≡ reply number [] = λ i. record { number = numbered i; carried = bare i } in
      told-refused number after above ∙ sym same

  kept-is : (r : Result A Refusal) (number : ℕ) (after : A) → HandedOver r before number after → number ≢ 0 → after ≡ before
  kept-is (Ok x) number after (n, v) other = absurd (other n)
  kept-is (Err d) number after (n, v) other = v

  pub handed : (f : Ledger → Reply) → ((L : Ledger) → Quiet (f L)) → (memory : List ℕ) (r : Result A Refusal) (number : ℕ) (after : A)
      → Tells f memory (answer_of (λ x. carried x ∷ []) r) → HandedOver r before number after → Reads carried f memory before number after
  handed f quiet memory r number after promised over = record {
    tells = record {
      sound_room = λ L room. told-is (f L) (quiet L) r number after over (promised.sound_room L room);
      other = λ no_room. told-is _ (λ _. refl) r number after over (promised.other no_room);
    };
    kept = kept-is r number after over;
  }

-- of what the recorder writes
pub recorded : {rule : Recording} {room : List ℕ} (before : ℕ) → Quiet rule.reply → (r : Result ℕ Refusal) (number after : ℕ)
    → Records rule room r → HandedOver r before number after → HandsRecorded rule room before number after
recorded {rule} before quiet r number after records over = record {
  answer = record { tells = told-is Count before rule.reply quiet r number after over records.reply; kept = kept-is Count before r number after over };
  room_after = records.room;
}

-- of an operation, whose amount goes as the bits that code holds of it, which are its own
pub operation-recorded : (text : Written → List ℕ) (code word : ℕ) (part output : List ℕ) (amount : ℤ) → mag amount < 2 ^ 63 → {room : List ℕ} (before : ℕ) (r : Result ℕ Refusal) (number after : ℕ)
    → Records (record_operation text code (parts word (held amount) part) output) room r → HandedOver r before number after
    → HandsRecorded (record_operation text code (parts word amount part) output) room before number after
operation-recorded text code word part output amount small {room} before r number after records over =
    recorded before (quiet-operation text code (parts word amount part) output) r number after
    (subst (λ z. Records (record_operation text code (parts word z part) output) room r) (held-is amount small) records) over
