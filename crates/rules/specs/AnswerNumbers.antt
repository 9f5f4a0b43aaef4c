-- Document 01, section "Answer numbers".
use Rattle.std.specs.Prelude.{Bool, List, [], ◌∷◌, ℕ, ℤ}
use Rattle.rules.specs.RoomAndSoundLedger.{Name, Ledger, Sound}

-- What an answer can carry
pub data Value : Type 0 where
  Amount : ℤ → Value
  Identifier Version Fence Count Field : ℕ → Value
  YesOrNo : Bool → Value
  TheName : Name → Value
  SnapshotBytes : List ℕ → Value

-- An answer's number and what it carries
pub record Reply : Type 0 where
  pub number : ℕ
  pub carried : List Value

abbrev pub reply : ℕ → List Value → Reply
reply n vs = record { number = n; carried = vs }

abbrev pub done : List Value → Reply
done vs = reply 0 vs

-- the field byte of row 13
abbrev pub remaining_field : ℕ
remaining_field = 1

abbrev pub initial_field : ℕ
initial_field = 2

abbrev pub committed_field : ℕ
committed_field = 3

abbrev pub version_field : ℕ
version_field = 4

-- The paper's refusals by name, each with the numbers that it carries
pub data Refusal : Type 0 where
  NegativeAmount : (value : ℤ) → Refusal
  InvalidAmount MissingTenant : Refusal
  OverflowOfReserve : (reserved : ℤ) → Refusal
  OverflowOfCommit : (remaining : ℤ) → Refusal
  OverflowOfTopUp : Refusal
  ExposureLimitExceeded : (reserved limit : ℤ) → Refusal
  Insufficient : (remaining required : ℤ) → Refusal
  MissingReservation : Refusal
  Overrun : (remaining : ℤ) → Refusal
  AllocatorExhausted : Refusal
  ActiveReservations : (count : ℕ) → Refusal
  DuplicateTenant : (tenant : Name) → Refusal
  GhostReservation : (tenant : Name) (reserved : ℤ) → Refusal
  NegativeLedgerField : (tenant : Name) (field : ℕ) (value : ℤ) → Refusal
  ConservationViolation : (tenant : Name) (delta : ℤ) → Refusal
  AggregateOverflow AlreadyRecoveryAware : Refusal
  InvalidAllocatorFence : (fence : ℕ) → Refusal
  LegacySnapshotRequiresMigration NameTooLong NamesFull ReservationsFull OutputTooShort BadFrame UnsoundLedger : Refusal

-- The table: number, name, what it carries
abbrev pub reply_of : Refusal → Reply
reply_of (NegativeAmount value) = reply 1 (Amount value ∷ [])
reply_of InvalidAmount = reply 2 []
reply_of MissingTenant = reply 3 []
reply_of (OverflowOfReserve reserved) = reply 4 (Amount reserved ∷ [])
reply_of (OverflowOfCommit remaining) = reply 4 (Amount remaining ∷ [])
reply_of OverflowOfTopUp = reply 4 []
reply_of (ExposureLimitExceeded reserved limit) = reply 5 (Amount reserved ∷ Amount limit ∷ [])
reply_of (Insufficient remaining required) = reply 6 (Amount remaining ∷ Amount required ∷ [])
reply_of MissingReservation = reply 7 []
reply_of (Overrun remaining) = reply 8 (Amount remaining ∷ [])
reply_of AllocatorExhausted = reply 9 []
reply_of (ActiveReservations count) = reply 10 (Count count ∷ [])
reply_of (DuplicateTenant tenant) = reply 11 (TheName tenant ∷ [])
reply_of (GhostReservation tenant reserved) = reply 12 (TheName tenant ∷ Amount reserved ∷ [])
reply_of (NegativeLedgerField tenant field value) = reply 13 (TheName tenant ∷ Field field ∷ Amount value ∷ [])
reply_of (ConservationViolation tenant delta) = reply 14 (TheName tenant ∷ Amount delta ∷ [])
reply_of AggregateOverflow = reply 15 []
reply_of AlreadyRecoveryAware = reply 16 []
reply_of (InvalidAllocatorFence fence) = reply 17 (Fence fence ∷ [])
reply_of LegacySnapshotRequiresMigration = reply 18 []
reply_of NameTooLong = reply 19 []
reply_of NamesFull = reply 20 []
reply_of ReservationsFull = reply 21 []
reply_of OutputTooShort = reply 22 []
reply_of BadFrame = reply 23 []
reply_of UnsoundLedger = reply 24 []

-- ── what an operation comes to ─────────────────────────────────────────────────────────────────

-- The answer, and the ledger after it
pub record Outcome : Type 0 where
  pub reply : Reply
  pub ledger : Ledger

abbrev pub outcome : Reply → Ledger → Outcome
outcome r L = record { reply = r; ledger = L }

-- by a refusal that changes nothing
abbrev pub refused : Refusal → Ledger → Outcome
refused e L = outcome (reply_of e) L

-- What is lent: a sound ledger with this content, or memory that holds none, for which there is 24
pub data Lent : Type 0 where
  sound : Ledger → Lent
  unsound : Lent

-- a ledger is lent, and it is sound
abbrev pub LentSound : Lent → Type 0
LentSound (sound L) = Sound L
LentSound unsound = ⊥

pub record Answered : Type 0 where
  pub reply : Reply
  pub lent : Lent

abbrev pub answered : Reply → Lent → Answered
answered r l = record { reply = r; lent = l }

unfoldable pub on_lent : Lent → (Ledger → Outcome) → Answered
on_lent unsound f = answered (reply_of UnsoundLedger) unsound
on_lent (sound L) f = answered (f L).reply (sound (f L).ledger)
