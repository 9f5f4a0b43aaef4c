-- `frame_reader::read_snapshot`: `is_snapshot` has read the part behind the code. Where it says yes, `after-code` of Supplied.antt gives the operation on that
-- snapshot, and where it says no, none (`misfit`, through the codes).
use mathlib.Core.Path.{◌≡◌, refl, sym, ◌∙◌}
use mathlib.Core.Logic.{◌⊎◌, inl, inr}
use mathlib.Core.Bool.{true, false}
use mathlib.Core.List.{List}
use mathlib.Core.Option.{none}
use Prim.Native.Nat.{ℕ, ◌≤◌}
use native.Mathlib.Omega.{arith}
use lib.ListN.{length, drop, get_or}
use Rattle.rules.specs.Lists.{first}
use Rattle.rules.specs.SnapshotsMigrationCertificates.{Snapshot, snapshot_of_bytes}
use Rattle.rules.specs.Frames.{Operation, restore_from, recover_from, judge, codes, operation_of}
use Rattle.snapshot_reader.specs.Standing.{is_read}
use Rattle.frame_reader.specs.Operations.{supplied, StandsFrom}
use Rattle.rules.proofs.Fields.{body_with}
use Rattle.frame_reader.proofs.Codes.{snapshot_for}
use Rattle.frame_reader.proofs.Supplied.{tested, stands, refused, after-code}
use Rattle.frame_reader.proofs.read_snapshot.Lts as place
use Rattle.frame_reader.proofs.read_snapshot.Tie as tie
use Rattle.frame_reader.proofs.read_snapshot.Goals as goal

abbrev Start : Type 0
Start = place.Start tie.the-claims tie.handed_pre tie.handed_post tie.handed_clauses

abbrev Else-not-is_snapshot : Type 0
Else-not-is_snapshot = place.Else1 tie.the-claims tie.handed_pre tie.handed_post tie.handed_clauses

-- no snapshot follows
misfit : (bs : List ℕ) {code : ℕ} → 1 ≤ length bs → get_or bs 0 0 ≡ code → (code ≡ 8) ⊎ (code ≡ 9) ⊎ (code ≡ 14) → is_read (snapshot_of_bytes (drop 1 bs)) ≡ false → operation_of bs ≡ none
unfolding first codes
misfit bs h e (inl k) f = refused (after-code h restore_from (e ∙ k) refl) (λ _. f)
misfit bs h e (inr (inl k)) f = refused (after-code h recover_from (e ∙ k) refl) (λ _. f)
misfit bs h e (inr (inr k)) f = refused (after-code h judge (e ∙ k) refl) (λ _. f)

pub returns-then-not-is_snapshot : goal.returns-then-not-is_snapshot
returns-then-not-is_snapshot c =
    let ((h, e), one) = c.requires in
    let test = c.is_snapshot in record { operation = sym (misfit _ h e one (tested c.args.bytes.now 1 test.ensures ∙ c.if-not-is_snapshot.true)); parts = tt }

module _ (c : Else-not-is_snapshot) where
  abbrev start : Start
  start = c.before.before.before.before

  abbrev bytes : List ℕ
  bytes = start.args.bytes.now

  reads : is_read (snapshot_of_bytes (drop 1 bytes)) ≡ true
  reads = tested bytes 1 c.is_snapshot.ensures ∙ c.if-not-is_snapshot.false

  fit : (number : ℕ) → start.args.code ≡ number → (operation : Snapshot → Operation) → body_with number ≡ snapshot_for operation
      → (supplied operation (snapshot_of_bytes (drop 1 bytes)) ≡ operation_of bytes) × StandsFrom 1 bytes
  fit number k operation is =
      let ((h, e), one) = start.requires in
      (sym ((after-code h operation (e ∙ k) is).long h), stands bytes 1 h reads)

pub returns-in-8 : goal.returns-in-8
unfolding first codes
returns-in-8 c = let both = fit c.before.before 8 c.in-8.is restore_from refl in record { operation = both.0; parts = both.1 }

pub returns-in-9 : goal.returns-in-9
unfolding first codes
returns-in-9 c = let both = fit c.before.before 9 c.in-9.is recover_from refl in record { operation = both.0; parts = both.1 }

pub returns-in_default : goal.returns-in_default
unfolding first codes
returns-in_default c =
    let last : c.args.code ≡ 14 = omega arith in
    let both = fit c.before.before 14 last judge refl in
    record { operation = both.0; parts = both.1 }
