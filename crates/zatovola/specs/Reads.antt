-- What a read promises of any lent memory and of the place lent for its value: the number that it returns, and what the place then holds.
use Rattle.std.specs.Prelude.{◌≡◌, ◌≢◌, cond, List, [], ◌∷◌, ℕ, eqb, Result, Ok, Err}
use Rattle.rules.specs.RoomAndSoundLedger.{Ledger}
use Rattle.rules.specs.AnswerNumbers.{Value, Reply, reply, reply_of, done}
use Rattle.refusals.specs.declared.Refusal.{Refusal}
use Rattle.refusals.specs.Answers.{refusal_of}
use Rattle.any_memory_accounts.specs.Tells.{Tells}

-- the reply that a number and a place tell: 0 carries what the place holds, as an amount, a count or a version; a refusal carries nothing
abbrev pub told : {A : Type 0} → (A → Value) → (number : ℕ) (held : A) → Reply
told carried number held = cond (eqb number 0) (done (carried held ∷ [])) (reply number [])

-- a reply handed over as a number and a place; where nothing is carried the place is as it was
pub record HandsOver {A : Type 0} (carried : A → Value) (r : Reply) (before : A) (number : ℕ) (after : A) : Type 0 where
  pub tells : told carried number after ≡ r
  pub kept : number ≢ 0 → after ≡ before

-- an answer by its number, and its value in its place, which a refusal leaves as it was
abbrev pub HandedOver : {A : Type 0} → Result A Refusal → (before : A) (number : ℕ) (after : A) → Type 0
HandedOver (Ok value) before number after = (number ≡ 0) × (after ≡ value)
HandedOver (Err e) before number after = (number ≡ (reply_of (refusal_of e)).number) × (after ≡ before)

-- the read of the rules where the memory is the room of a sound ledger, else 24
pub record Reads {A : Type 0} (carried : A → Value) (f : Ledger → Reply) (memory : List ℕ) (before : A) (number : ℕ) (after : A) : Type 0 where
  pub tells : Tells f memory (told carried number after)
  pub kept : number ≢ 0 → after ≡ before
