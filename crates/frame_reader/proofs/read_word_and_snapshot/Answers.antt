-- `frame_reader::read_word_and_snapshot`: the same as `read_snapshot`, with a word between the code and the snapshot: `migrating` and `certifying` of
-- Supplied.antt, and a frame too short for the word is none.
use mathlib.Core.Path.{◌≡◌, sym, ◌∙◌, ap}
use mathlib.Core.Logic.{◌⊎◌, inl, inr}
use mathlib.Core.Bool.{false}
use mathlib.Core.List.{List}
use mathlib.Core.Option.{none}
use Prim.Native.Nat.{ℕ, ◌≤◌}
use native.Mathlib.Omega.{arith}
use lib.ListN.{length, drop, get_or}
use Rattle.rules.specs.SnapshotsMigrationCertificates.{snapshot_of_bytes}
use Rattle.rules.specs.Frames.{migrate_to, certify, operation_of}
use Rattle.snapshot_reader.specs.Standing.{is_read}
use Rattle.frame_reader.specs.Operations.{word_end, supplied, StandsFrom}
use Rattle.frame_reader.proofs.Codes.{otherwise}
use Rattle.frame_reader.proofs.Supplied.{tested, stands, refused, migrating, certifying}
use Rattle.frame_reader.proofs.read_word_and_snapshot.Lts as place
use Rattle.frame_reader.proofs.read_word_and_snapshot.Tie as tie
use Rattle.frame_reader.proofs.read_word_and_snapshot.Goals as goal

abbrev Else-not-is_snapshot : Type 0
Else-not-is_snapshot = place.Else2 tie.the-claims tie.handed_pre tie.handed_post tie.handed_clauses

-- too few bytes, or no snapshot behind the word
misfit : (bs : List ℕ) {code : ℕ} → 1 ≤ length bs → get_or bs 0 0 ≡ code → (code ≡ 10) ⊎ (code ≡ 12) → (word_end ≤ length bs → is_read (snapshot_of_bytes (drop word_end bs)) ≡ false) → operation_of bs ≡ none
misfit bs h e (inl k) = refused (migrating h (e ∙ k))
misfit bs h e (inr k) = refused (certifying h (e ∙ k))

pub returns-then-bytes-lt-WORD_END : goal.returns-then-bytes-lt-WORD_END
returns-then-bytes-lt-WORD_END c = let ((h, e), one) = c.requires in record { operation = sym (misfit _ h e one (λ l. absurd (omega arith))); parts = tt }

pub returns-then-not-is_snapshot : goal.returns-then-not-is_snapshot
returns-then-not-is_snapshot c =
    let ((h, e), one) = c.requires in
    let test = c.is_snapshot in record { operation = sym (misfit _ h e one (λ _. tested c.args.bytes.now word_end test.ensures ∙ c.if-not-is_snapshot.true)); parts = tt }

stands-there : (c : Else-not-is_snapshot) → StandsFrom word_end c.args.bytes.now
stands-there c =
    let bytes = c.args.bytes.now in
    let test = c.is_snapshot in
    stands bytes word_end (omega arith) (tested bytes word_end test.ensures ∙ c.if-not-is_snapshot.false)

pub returns-then-code-eq10 : goal.returns-then-code-eq10
returns-then-code-eq10 c =
    let ((h, e), one) = c.requires in record {
      operation = ap (λ fence. supplied (migrate_to fence) (snapshot_of_bytes (drop word_end c.args.bytes.now))) c.read8.ensures
          ∙ sym ((migrating h (e ∙ c.if-code-eq10.true)).long (omega arith));
      parts = stands-there c.before.before.before.before;
    }

pub returns : goal.returns
returns c =
    let ((h, e), one) = c.requires in record {
      operation = ap (λ since. supplied (certify since) (snapshot_of_bytes (drop word_end c.args.bytes.now))) c.read_amount.ensures
          ∙ sym ((certifying h (e ∙ otherwise one c.if-code-eq10.false)).long (omega arith));
      parts = stands-there c.before.before.before.before;
    }
