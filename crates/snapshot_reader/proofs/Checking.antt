-- What each answer of `check` says of the bytes, for those who ask it: by cases on whether they are a snapshot, and on whether it has a long name.
use mathlib.Core.Path.{◌≡◌, refl, sym, ◌∙◌, subst}
use mathlib.Core.Bool.{true, cond}
use mathlib.Core.Logic.{◌⊎◌, inl, inr}
use mathlib.Core.List.{List}
use mathlib.Core.Option.{none, some}
use Prim.Native.Nat.{ℕ}
use Rattle.std.specs.Prelude.{Result, Ok, Err}
use Rattle.rules.specs.SnapshotsMigrationCertificates.{Snapshot, snapshot_of_bytes, has_long_name}
use Rattle.rules.proofs.Tests.{by_bool, by-option}
use Rattle.refusals.specs.declared.Refusal.{Refusal}
use Rattle.refusals.specs.declared.Refusal.TheVariants.{NameTooLong, BadFrame}
use Rattle.snapshot_reader.specs.Standing.{checked_as, ShortNames}

-- a snapshot with a name of more than 24 bytes
pub record LongName (bs : List ℕ) : Type 0 where
  pub snapshot : Snapshot
  pub is_read : snapshot_of_bytes bs ≡ some snapshot
  pub long : has_long_name snapshot.rows ≡ true

-- what an answer says: it refuses bytes that are no snapshot, and a long name, and nothing else
abbrev pub Says : List ℕ → Result (Unit {0}) Refusal → Type 0
Says bs (Ok x) = ShortNames bs
Says bs (Err e) = ((e ≡ BadFrame) × (snapshot_of_bytes bs ≡ none)) ⊎ ((e ≡ NameTooLong) × LongName bs)

checked : (bs : List ℕ) → Says bs (checked_as (snapshot_of_bytes bs))
checked bs = by-option (λ o. Says bs (checked_as o)) (snapshot_of_bytes bs)
    (λ e. inl (refl, e))
    (λ s e. by_bool (λ b. Says bs (cond b (Err NameTooLong) (Ok tt))) (has_long_name s.rows)
    (λ long. inr (refl, record { snapshot = s; is_read = e; long = long }))
    (λ short. record { snapshot = s; is_read = e; short = short }))

-- an answer that was given, and is known to be this one
pub says : (bs : List ℕ) {given answer : Result (Unit {0}) Refusal} → given ≡ checked_as (snapshot_of_bytes bs) → given ≡ answer → Says bs answer
says bs is told = subst (Says bs) (sym is ∙ told) (checked bs)
