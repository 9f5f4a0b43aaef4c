-- What the contracts of the reads and of the recorder's writers for C and Rust leave open: nothing. Both results tell the same reply (`same-reading`), so the numbers are
-- one; and where that is 0 the places hold what the reply carries, else what they held.
use mathlib.Core.Path.{◌≡◌, refl, sym, ap, ◌∙◌}
use mathlib.Core.Logic.{⊎_elim, ◌≢◌}
use mathlib.Core.List.{List, [], ◌∷◌}
use Prim.Native.Nat.{ℕ}
use lib.Dec.{eqb}
use lib.IntN.{ℤ}
use borrow.Author.Tests.{eqb-true}
use Rattle.rules.specs.RoomAndSoundLedger.{Ledger}
use Rattle.rules.specs.AnswerNumbers.{Value, Amount, Count, Version, Reply, done}
use Rattle.rules.specs.Recorder.{Recording}
use Rattle.rules.proofs.Tests.{by-test, equal_or_not}
use Rattle.any_memory_accounts.proofs.SameReading.{same-reading}
use Rattle.zatovola.specs.Reads.{told, Reads}
use Rattle.zatovola.specs.Recorder.{HandsRecorded}

told-number : {A : Type 0} (carried : A → Value) (number : ℕ) (held : A) → (told carried number held).number ≡ number
told-number carried number held = by-test (λ (r : Reply). r.number ≡ number) (eqb number 0) (λ e. sym (eqb-true number 0 e)) (λ _. refl)

-- what the places hold is told apart by the values
pub amounts-apart : (x y : ℤ) → Amount x ≡ Amount y → x ≡ y
amounts-apart x y e = cc

pub counts-apart : (m n : ℕ) → Count m ≡ Count n → m ≡ n
counts-apart m n e = cc

pub versions-apart : (m n : ℕ) → Version m ≡ Version n → m ≡ n
versions-apart m n e = cc

-- two numbers and places that tell one reply, and are as before where nothing is carried
module _ {A : Type 0} (carried : A → Value) (apart : (x y : A) → carried x ≡ carried y → x ≡ y) (before : A) (m n : ℕ) (v w : A) (same : told carried m v ≡ told carried n w)
    (kept : m ≢ 0 → v ≡ before) (kept-too : n ≢ 0 → w ≡ before) where
  same_number : m ≡ n
  same_number = sym (told-number carried m v) ∙ ap (λ r. r.number) same ∙ told-number carried n w

  both-carried : m ≡ 0 → v ≡ w
  both-carried none =
      let replies : done (carried v ∷ []) ≡ done (carried w ∷ []) = sym (ap (λ k. told carried k v) none) ∙ same ∙ ap (λ k. told carried k w) (sym same_number ∙ none) in
      let values : carried v ∷ [] ≡ carried w ∷ [] = ap (λ (r : Reply). r.carried) replies in
      apart v w cc

  pub same-told : (m ≡ n) × (v ≡ w)
  same-told = (same_number, ⊎_elim both-carried (λ other. kept other ∙ sym (kept-too (λ e. other (same_number ∙ e)))) (equal_or_not m 0))

-- of all nine reads, by what their places hold
pub same_read : {A : Type 0} (carried : A → Value) → ((x y : A) → carried x ≡ carried y → x ≡ y) → (f : Ledger → Reply) (memory : List ℕ) (before : A) (m n : ℕ) (v w : A)
    → Reads carried f memory before m v → Reads carried f memory before n w → (m ≡ n) × (v ≡ w)
same_read carried apart f memory before m n v w one two =
    same-told carried apart before m n v w
    (same-reading (λ r. r) (record { back = λ r. r; is = λ _. refl }) f memory (told carried m v) (told carried n w) one.tells two.tells) one.kept two.kept

-- of what the recorder writes: the number, the place and the room
pub same-recorded : (rule : Recording) (before m n v w : ℕ) (room others : List ℕ) → HandsRecorded rule room before m v → HandsRecorded rule others before n w → (m ≡ n) × (v ≡ w) × (room ≡ others)
same-recorded rule before m n v w room others one two =
    let (number, place) = same-told Count counts-apart before m n v w (one.answer.tells ∙ sym two.answer.tells) one.answer.kept two.answer.kept in
    (number, place, one.room_after ∙ sym two.room_after)
