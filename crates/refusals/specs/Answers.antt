-- What an answer says in document 01's numbers: 0 and what is handed over, or a refusal's number and what it carries.
use Rattle.std.specs.Prelude.{List, [], ◌∷◌, ℕ, take, Result, Ok, Err}
use Rattle.std.proofs.Math.Option.{Option, none, some}
use Rattle.rules.specs.AnswerNumbers.{Value, Amount, Version, Count, SnapshotBytes, Reply, done, reply_of, Refusal as RulesRefusal}
use Rattle.rules.specs.AnswerNumbers as rules
use Rattle.names.specs.Names.{spelled}
use Rattle.numbers.specs.declared.Microcents.{Microcents}
use Rattle.refusals.specs.declared.Refusal.{Refusal}
use Rattle.refusals.specs.declared.Refusal.TheVariants as refusal

-- the refusal of the rules that is told so: of reserve's and commit's overflow, which are told alike, reserve's
abbrev pub refusal_of : Refusal → RulesRefusal
refusal_of (refusal.NegativeAmount value) = rules.NegativeAmount value.0
refusal_of refusal.InvalidAmount = rules.InvalidAmount
refusal_of refusal.MissingTenant = rules.MissingTenant
refusal_of (refusal.Overflow carried) = rules.OverflowOfReserve carried.0
refusal_of refusal.OverflowOfTopUp = rules.OverflowOfTopUp
refusal_of (refusal.ExposureLimitExceeded reserved limit) = rules.ExposureLimitExceeded reserved.0 limit.0
refusal_of (refusal.Insufficient remaining required) = rules.Insufficient remaining.0 required.0
refusal_of refusal.MissingReservation = rules.MissingReservation
refusal_of (refusal.Overrun remaining) = rules.Overrun remaining.0
refusal_of refusal.AllocatorExhausted = rules.AllocatorExhausted
refusal_of (refusal.ActiveReservations count) = rules.ActiveReservations count
refusal_of (refusal.DuplicateTenant tenant) = rules.DuplicateTenant (spelled tenant.name)
refusal_of (refusal.GhostReservation tenant reserved) = rules.GhostReservation (spelled tenant.name) reserved.0
refusal_of (refusal.NegativeLedgerField tenant field value) = rules.NegativeLedgerField (spelled tenant.name) field value.0
refusal_of (refusal.ConservationViolation tenant delta) = rules.ConservationViolation (spelled tenant.name) delta.0
refusal_of refusal.AggregateOverflow = rules.AggregateOverflow
refusal_of refusal.AlreadyRecoveryAware = rules.AlreadyRecoveryAware
refusal_of (refusal.InvalidAllocatorFence fence) = rules.InvalidAllocatorFence fence
refusal_of refusal.LegacySnapshotRequiresMigration = rules.LegacySnapshotRequiresMigration
refusal_of refusal.NameTooLong = rules.NameTooLong
refusal_of refusal.NamesFull = rules.NamesFull
refusal_of refusal.ReservationsFull = rules.ReservationsFull
refusal_of refusal.OutputTooShort = rules.OutputTooShort
refusal_of refusal.BadFrame = rules.BadFrame
refusal_of refusal.UnsoundLedger = rules.UnsoundLedger

-- the refusal, or none where what was asked passes
abbrev pub refusal_in : {A : Type 0} → Result A Refusal → Option RulesRefusal
refusal_in (Ok x) = none
refusal_in (Err e) = some (refusal_of e)

-- an answer, by what it carries when it is done
abbrev pub answer_of : {A : Type 0} → (A → List Value) → Result A Refusal → Reply
answer_of carried (Ok x) = done (carried x)
answer_of carried (Err e) = reply_of (refusal_of e)

abbrev pub carries_nothing : {A : Type 0} → A → List Value
carries_nothing x = []

abbrev pub carries_amount : Microcents → List Value
carries_amount z = Amount z.0 ∷ []

abbrev pub carries_count : ℕ → List Value
carries_count n = Count n ∷ []

abbrev pub carries_version : ℕ → List Value
carries_version v = Version v ∷ []

-- a snapshot of this size, which stands at the front of the output
abbrev pub carries_snapshot : (output : List ℕ) → (size : ℕ) → List Value
carries_snapshot output size = SnapshotBytes (take size output) ∷ []
