-- Frames that end in a snapshot: the rules' reader of a snapshot takes all that is left, so the operation is there exactly when `snapshot_of_bytes` reads the
-- rest (`Supplied`). A value in front of it is passed over by `goes_on`.
use mathlib.Core.Path.{◌≡◌, refl, sym, ◌∙◌, ap}
use mathlib.Core.Bool.{Bool, true, false, cond}
use mathlib.Core.List.{List}
use mathlib.Core.Option.{none, some}
use Prim.Native.Nat.{ℕ, ◌-◌, ◌≤◌, ◌<◌}
use native.Mathlib.Omega.{arith}
use borrow.Author.Tests.{ltb-true, ltb-false}
use lib.Dec.{ltb, eqb}
use lib.ListN.{length, take, drop, get_or, length-drop}
use lib.Seq.{take_all}
use Rattle.rules.specs.Lists.{first}
use Rattle.rules.specs.SnapshotsMigrationCertificates.{Snapshot, Reader, reads, go_on, ◌>>=◌, whole, number_of, read_snapshot, snapshot_of_bytes}
use Rattle.rules.specs.Frames.{Operation, migrate_to, certify, codes, operation_of}
use Rattle.rules.proofs.Tests.{by_bool, by-option, true-false}
use Rattle.snapshot_reader.specs.Standing.{is_read}
use Rattle.snapshot_reader.proofs.RowBytes.{Takes, goes_on, takes-nothing, number-takes, amount_at, amount-takes}
use Rattle.frame_reader.specs.Operations.{word_end, supplied, StandsFrom}
use Rattle.rules.proofs.Fields.{body_with}
use Rattle.frame_reader.proofs.Codes.{by_code, snapshot_for}

-- ── bytes that are a snapshot ──────────────────────────────────────────────────────────────────

whole-snapshot : (operation : Snapshot → Operation) (bs : List ℕ) → whole (snapshot_for operation bs) ≡ supplied operation (snapshot_of_bytes bs)
unfolding snapshot_of_bytes
whole-snapshot operation bs = by-option (λ o. whole (go_on o (λ s. reads (operation s))) ≡ supplied operation (whole o)) (read_snapshot bs)
    (λ _. refl)
    (λ r _. by_bool (λ b. cond b (some (operation r.value)) none ≡ supplied operation (cond b (some r.value) none)) (eqb (length r.rest) 0) (λ _. refl) (λ _. refl))

-- the part of a frame that is lent to be tested
pub tested : (bs : List ℕ) (from : ℕ) {answer : Bool} → answer ≡ is_read (snapshot_of_bytes (take (length bs - from) (drop from bs))) → is_read (snapshot_of_bytes (drop from bs)) ≡ answer
tested bs from e = sym (e ∙ ap (λ part. is_read (snapshot_of_bytes part)) (take_all (length bs - from) (drop from bs) (omega (arith, length-drop from bs))))

pub stands : (bs : List ℕ) (from : ℕ) → from ≤ length bs → is_read (snapshot_of_bytes (drop from bs)) ≡ true → StandsFrom from bs
stands bs from h = by-option (λ o. snapshot_of_bytes (drop from bs) ≡ o → is_read o ≡ true → StandsFrom from bs) (snapshot_of_bytes (drop from bs))
    (λ _ _ t. true-false t refl)
    (λ s _ e _. record { within = h; snapshot = s; is_read = e })
    refl

-- ── frames ─────────────────────────────────────────────────────────────────────────────────────

pub record Supplied (bs : List ℕ) (from : ℕ) (operation : Snapshot → Operation) : Type 0 where
  pub short : length bs < from → operation_of bs ≡ none
  pub long : from ≤ length bs → operation_of bs ≡ supplied operation (snapshot_of_bytes (drop from bs))

pub refused : {bs : List ℕ} {from : ℕ} {operation : Snapshot → Operation} → Supplied bs from operation → (from ≤ length bs → is_read (snapshot_of_bytes (drop from bs)) ≡ false) → operation_of bs ≡ none
refused {bs} {from} {operation} frame f = by_bool (λ b. ltb (length bs) from ≡ b → operation_of bs ≡ none) (ltb (length bs) from)
    (λ _ t. frame.short (ltb-true (length bs) from t))
    (λ _ t. let l : from ≤ length bs = ltb-false (length bs) from t in
    frame.long l ∙ by-option (λ o. is_read o ≡ false → supplied operation o ≡ none) (snapshot_of_bytes (drop from bs)) (λ _ _. refl) (λ _ _ z. true-false refl z) (f l))
    refl

module _ {bs : List ℕ} (h : 1 ≤ length bs) where
  -- the snapshot stands after another value
  after-value : {number from : ℕ} {A : Type 0} {reader : Reader A} {x : A} (operation : A → Snapshot → Operation)
      → get_or bs 0 0 ≡ number → body_with number ≡ (reader >>= (λ y. snapshot_for (operation y))) → Takes bs 1 from reader x → Supplied bs from (operation x)
  after-value {number} {from} {reader} {x} operation e is takes =
      let read : operation_of bs ≡ whole ((reader >>= (λ y. snapshot_for (operation y))) (drop 1 bs)) = by_code bs h number e ∙ ap (λ r. whole (r (drop 1 bs))) is in
      record {
        short = λ l. read ∙ ap (λ o. whole (go_on o (λ y. snapshot_for (operation y)))) (takes.short h l);
        long = λ l. read ∙ ap whole (goes_on (λ y. snapshot_for (operation y)) takes l) ∙ whole-snapshot (operation x) (drop from bs);
      }

  -- 08, 09, 0e: the snapshot
  pub after-code : {number : ℕ} (operation : Snapshot → Operation) → get_or bs 0 0 ≡ number → body_with number ≡ snapshot_for operation → Supplied bs 1 operation
  after-code operation e is = after-value (λ _. operation) e is (takes-nothing bs 1 (tt {0}))

  -- 0a: the fence, then the snapshot
  pub migrating : get_or bs 0 0 ≡ 10 → Supplied bs word_end (migrate_to (number_of (take 8 (drop 1 bs))))
  unfolding first codes
  migrating e = after-value migrate_to e refl (number-takes bs 1 word_end 8 refl)

  -- 0c: since, then the snapshot
  pub certifying : get_or bs 0 0 ≡ 12 → Supplied bs word_end (certify (amount_at 1 bs))
  unfolding first codes
  certifying e = after-value certify e refl (amount-takes bs 1 word_end refl)
