-- What drawing an id, a snapshot and a certificate make of a ledger's head, in the words of the rules.
use Rattle.std.specs.Prelude.{cond, ℕ, suc, ◌-◌, ltb, eqb, Option, Some, None, Result, Ok, Err}
use Rattle.rules.specs.RoomAndSoundLedger.{M}
use Rattle.rules.specs.SnapshotsMigrationCertificates.{tagged}
use Rattle.records.specs.declared.Head.{Head}
use Rattle.numbers.specs.declared.Identifier.{Identifier}
use Rattle.refusals.specs.declared.Refusal.{Refusal}
use Rattle.refusals.specs.declared.Refusal.TheVariants.{AllocatorExhausted}
use Rattle.heads.specs.declared.Drawn.{Drawn}
use Rattle.heads.specs.declared.Rotated.{Rotated}

-- "the id drawn is the old next id", and at M there is none
abbrev pub identifier_at : ℕ → Option Identifier
identifier_at n = cond (ltb n M) (Some (record { 0 = n })) None

abbrev pub next_after : ℕ → ℕ
next_after n = cond (ltb n M) (suc n) n

abbrev pub with_next_id : ℕ → Head → Head
with_next_id n h = record { next_id = n; last_version = h.last_version; baseline = h.baseline }

-- "next id grows by 1"
abbrev pub after_draw : Head → Head
after_draw h = with_next_id (suc h.next_id) h

-- the id and the head; at M none, and the head as it was
abbrev pub drawn_head : Head → Drawn
drawn_head h = record { id = identifier_at h.next_id; head = with_next_id (next_after h.next_id) h }

-- document 01, Snapshots, the taking of one: the id after the one drawn, tagged, is kept as the last version
abbrev pub after_stamp : Head → Head
after_stamp h = record { next_id = suc h.next_id; last_version = tagged (suc h.next_id); baseline = h.baseline }

-- "next id M gives 9"
abbrev pub stamped_head : Head → Result Head Refusal
stamped_head h = cond (eqb h.next_id M) (Err AllocatorExhausted) (Ok (after_stamp h))

abbrev pub with_baseline : ℕ → Head → Head
with_baseline n h = record { next_id = h.next_id; last_version = h.last_version; baseline = n }

abbrev pub since_baseline : (baseline total : ℕ) → ℕ
since_baseline baseline total = cond (ltb baseline total) (total - baseline) 0

abbrev pub larger : (baseline total : ℕ) → ℕ
larger baseline total = cond (ltb baseline total) total baseline

-- document 01, Snapshots, certificate of the ledger: what was committed past the baseline, which follows a total only upwards
abbrev pub rotated_head : Head → ℕ → Rotated
rotated_head h total = record { since = since_baseline h.baseline total; head = with_baseline (larger h.baseline total) h }
