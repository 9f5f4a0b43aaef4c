-- What is known of the memory stays known. Every answer leaves what is lent or is the outcome of a ledger's operation (`lent_by`, a clause an operation): so a
-- sound ledger stays sound, and what is unsound after was so before.
use mathlib.Core.Path.{◌≡◌, refl, sym, subst, ap, ◌∙◌}
use mathlib.Core.Bool.{Bool, true, false}
use mathlib.Core.List.{List, [], ◌∷◌}
use mathlib.Core.Option.{Option, none, some}
use Prim.Native.Nat.{ℕ}
use native.Mathlib.Omega.{arith}
use Rattle.rules.specs.RoomAndSoundLedger.{Ledger}
use Rattle.rules.specs.AnswerNumbers.{Outcome, Lent, sound, unsound, on_lent}
use Rattle.rules.specs.AccountRules.{operate}
use Rattle.rules.specs.SnapshotsMigrationCertificates.{snapshot, restore, recovery_restore, certificate_of_ledger, conservation_proof}
use Rattle.rules.specs.Frames.{Operation, on_account, take_snapshot, certify_ledger, prove_conservation, restore_from, recover_from, judge, migrate_to, certify, longest_snapshot, answer, answer_or23, answer_to_line, operation_of_line, lent_after}
use Rattle.room.specs.Room.{SoundRoom}
use Rattle.frames.specs.Answering.{IsLent, Known}
use Rattle.lines.specs.Batching.{PromisesLine}
use Rattle.std.specs.Prelude.{Some}

-- an answer leaves what is lent as it was, or is the outcome of a ledger's operation
lent_by : (P : Lent → Type 0) (l : Lent) (o : Option Operation) → P l → ((f : Ledger → Outcome) → P (on_lent l f).lent) → P (answer_or23 l o).lent
unfolding answer
lent_by P l none same on = same
lent_by P l (some (on_account x)) same on = on (λ L. operate L x)
lent_by P l (some take_snapshot) same on = on (snapshot longest_snapshot)
lent_by P l (some certify_ledger) same on = on certificate_of_ledger
lent_by P l (some prove_conservation) same on = on conservation_proof
lent_by P l (some (restore_from s)) same on = on (λ L. restore L s)
lent_by P l (some (recover_from s)) same on = on (λ L. recovery_restore L s)
lent_by P l (some (judge s)) same on = same
lent_by P l (some (migrate_to fence s)) same on = same
lent_by P l (some (certify since s)) same on = same

stays_sound : (memory : List ℕ) (L : Ledger) (o : Option Operation) → IsLent memory (answer_or23 (sound L) o).lent → SoundRoom memory
unfolding on_lent
stays_sound memory L o = lent_by (λ l. IsLent memory l → SoundRoom memory) (sound L) o (λ is. record { ledger = L; is_room = is }) (λ f is. record { ledger = (f L).ledger; is_room = is })

stays-unsound : (o : Option Operation) → (answer_or23 unsound o).lent ≡ unsound
unfolding on_lent
stays-unsound o = lent_by (λ l. l ≡ unsound) unsound o refl (λ f. refl)

pub unsound-after : (l : Lent) (lines : List (List ℕ)) → l ≡ unsound → lent_after l lines ≡ unsound
unfolding lent_after answer_to_line
unsound-after l [] e = e
unsound-after l (line ∷ lines) e = unsound-after (answer_to_line l line).lent lines (ap (λ k. (answer_or23 k (operation_of_line line)).lent) e ∙ stays-unsound (operation_of_line line))

pub unsound-before-answer : (l : Lent) (o : Option Operation) → (answer_or23 l o).lent ≡ unsound → l ≡ unsound
unfolding on_lent
unsound-before-answer unsound o = λ e. refl
unsound-before-answer (sound L) o = lent_by (λ l. l ≡ unsound → sound L ≡ unsound) (sound L) o (λ e. e) (λ f e. absurd (let z : ◌≡◌ {A = ℕ} 0 1 = cc in omega arith))

-- what is no sound ledger after some lines was none before them
pub unsound-before-lines : (l : Lent) (lines : List (List ℕ)) → lent_after l lines ≡ unsound → l ≡ unsound
unfolding lent_after answer_to_line
unsound-before-lines l [] e = e
unsound-before-lines l (line ∷ lines) e = unsound-before-answer l (operation_of_line line) (unsound-before-lines (answer_to_line l line).lent lines e)

pub stays-known : (known : Bool) (o : Option Operation) (before after output-before output-after : List ℕ) (size : ℕ) → Known known before
    → PromisesLine o before after output-before output-after (Some size) → Known known after
stays-known true o before after output-before output-after size is promise = stays_sound after is.ledger o (promise (sound is.ledger) is.is_room).1.lent
stays-known false o before after output-before output-after size is promise = subst (λ m. Known false m) (sym ((promise unsound is).1.untouched refl)) is
