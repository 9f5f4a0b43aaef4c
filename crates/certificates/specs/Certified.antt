-- The answers of certificates and of the conservation proof in document 01's numbers.
use Rattle.std.specs.Prelude.{Bool, true, cond, ◌&&◌, List, [], ◌∷◌, ℕ, ℤ, length, Option, Some, None, Result, Ok, Err}
use Rattle.rules.specs.RoomAndSoundLedger.{Ledger}
use Rattle.rules.specs.AnswerNumbers.{Value, Amount, Version, Count, YesOrNo}
use Rattle.rules.specs.AccountRules.{next_id_is_m}
use Rattle.rules.specs.SnapshotsMigrationCertificates.{Row, after_snapshot, snapshot_of, fits64, initial_total, committed_rows_total}
use Rattle.records.specs.declared.Head.{Head}
use Rattle.refusals.specs.declared.Refusal.{Refusal}
use Rattle.refusals.specs.declared.Refusal.TheVariants.{AllocatorExhausted}
use Rattle.heads.specs.Heads.{rotated_head}
use Rattle.heads.specs.declared.Rotated.{Rotated}
use Rattle.room.specs.Room.{head_in}
use Rattle.certificates.specs.declared.Certificate.{Certificate}
use Rattle.certificates.specs.declared.Proof.{Proof}
use Rattle.certificates.specs.declared.Totals.{Totals}
use Rattle.certificates.specs.declared.Summary.{Summary}

-- the eight values of a certificate, in the paper's order
abbrev pub carries_certificate : Certificate → List Value
carries_certificate c =
    Version c.version ∷ Count c.rows ∷ Count c.active ∷ YesOrNo c.balanced
    ∷ Amount c.initial_total.0 ∷ Amount c.committed_total.0 ∷ YesOrNo c.representable ∷ Amount c.since.0 ∷ []

-- the six values of a conservation proof, the last of which is always yes
abbrev pub carries_proof : Proof → List Value
carries_proof p = Version p.version ∷ Count p.accounts ∷ Count p.active ∷ Amount p.initial_total.0 ∷ Amount p.committed_total.0 ∷ YesOrNo true ∷ []

-- both totals, where both are within signed 64 bits
abbrev pub both_fitted : (initial committed : ℤ) → Option Totals
both_fitted initial committed = cond (fits64 initial && fits64 committed) (Some (record { initial = record { 0 = initial }; committed = record { 0 = committed } })) None

abbrev pub totals_of : List Row → Option Totals
totals_of rs = both_fitted (initial_total rs) (committed_rows_total rs)

-- the baseline moves where both totals fit and the committed one is above it
abbrev pub rotation_of : (fit : Bool) → Head → (total : ℕ) → Rotated
rotation_of fit h total = cond fit (rotated_head h total) (record { since = 0; head = h })

-- what the ledger's own snapshot says beside its rows, and the head that it stamps
abbrev pub summary_of : Ledger → Summary
summary_of L = record { head = head_in (after_snapshot L); rows = length (snapshot_of L).rows; active = (snapshot_of L).active; totals = totals_of (snapshot_of L).rows }

-- a snapshot is taken where there is an id left to draw
abbrev pub summarized_of : Ledger → Result Summary Refusal
summarized_of L = cond (next_id_is_m L) (Err AllocatorExhausted) (Ok (summary_of L))
