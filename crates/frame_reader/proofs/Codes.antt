-- The rules pick a frame's body by its first byte from their list of codes. `by_code` opens that choice for a number at hand; `unknown` goes over the whole
-- list once, as all its numbers are from 1 to 14.
use mathlib.Core.Path.{◌≡◌, refl, ◌∙◌, ap}
use mathlib.Core.Logic.{◌⊎◌, inl, inr}
use mathlib.Core.List.{List, [], ◌∷◌}
use mathlib.Core.Option.{none}
use Prim.Native.Nat.{ℕ, ◌≤◌, ◌<◌}
use native.Mathlib.Omega.{arith}
use lib.IntN.{ℤ}
use lib.ListN.{length, drop, get_or}
use Rattle.rules.specs.RoomAndSoundLedger.{Name}
use Rattle.rules.specs.AccountRules.{AccountOperation}
use Rattle.rules.specs.SnapshotsMigrationCertificates.{Snapshot, Reader, reads, whole, read_part, read_number}
use Rattle.rules.specs.Frames.{Operation, on_account, an_amount, a_name, a_snapshot, ◌followed-by◌, body_of, read_operation, operation_of}
use Rattle.rules.proofs.Fields.{body_with, no_code}
use Rattle.snapshot_reader.proofs.RowBytes.{goes_on, number-takes, byte_at}

pub otherwise : {A B : Type 0} → A ⊎ B → (A → ⊥) → B
otherwise (inl a) other = absurd (other a)
otherwise (inr b) other = b

-- what follows a code: a name and an amount, or a snapshot
abbrev pub name_and_amount : (Name → ℤ → AccountOperation ℕ) → Reader Operation
name_and_amount operation = (a_name followed-by an_amount).read (λ f. reads (on_account (operation f.0 f.1)))

abbrev pub snapshot_for : (Snapshot → Operation) → Reader Operation
snapshot_for operation = a_snapshot.read (λ s. reads (operation s))

pub empty : (bs : List ℕ) → length bs ≡ 0 → operation_of bs ≡ none
unfolding operation_of read_operation read_number read_part
empty [] h = refl
empty (b ∷ bs) h = absurd (omega arith)

pub by_code : (bs : List ℕ) → 1 ≤ length bs → (number : ℕ) → get_or bs 0 0 ≡ number → operation_of bs ≡ whole (body_with number (drop 1 bs))
unfolding operation_of read_operation
by_code bs h number e = ap whole (goes_on body_with (number-takes bs 0 1 1 refl) h ∙ ap (λ n. body_with n (drop 1 bs)) (byte_at 0 bs ∙ e))

pub unknown : (bs : List ℕ) → 1 ≤ length bs → (1 ≤ get_or bs 0 0 → 14 < get_or bs 0 0) → operation_of bs ≡ none
unknown bs h other = by_code bs h (get_or bs 0 0) refl ∙ ap (λ c. whole (body_of c (drop 1 bs))) (no_code (get_or bs 0 0) other)
