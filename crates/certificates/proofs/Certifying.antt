-- A certificate from the totals that were fitted: what was told of them decides the rule's test, and then the values are equal one by one. And how large since
-- may be.
use mathlib.Core.Path.{◌≡◌, subst}
use mathlib.Core.Bool.{Bool, true, false}
use mathlib.Core.List.{List, [], ◌∷◌}
use Prim.Native.Nat.{ℕ, ◌≤◌}
use native.Mathlib.Omega.{arith}
use borrow.Author.Tests.{leb-true}
use lib.Dec.{ltb}
use lib.IntN.{ℤ, pos}
use lib.ListN.{length}
use Rattle.rules.specs.RoomAndSoundLedger.{M}
use Rattle.rules.specs.AnswerNumbers.{Amount, Version, Count, YesOrNo, Reply, done}
use Rattle.rules.specs.SnapshotsMigrationCertificates.{Row, Snapshot, fits64, conservation, initial_total, committed_rows_total, totals_fit, is_none, certificate}
use Rattle.rules.proofs.Tests.{by-test, and-true}
use Rattle.records.specs.declared.Head.{Head}
use Rattle.heads.specs.declared.Rotated.{Rotated}
use Rattle.certificates.specs.Certified.{rotation_of}
use Rattle.certificates.specs.declared.Totals.{Totals}
use Rattle.certificates.proofs.BothTotals.{Fitting}

-- ── a certificate ──────────────────────────────────────────────────────────────────────────────

abbrev replied : (version rows active : ℕ) (balanced : Bool) (initial committed : ℤ) (representable : Bool) (since : ℤ) → Reply
replied version rows active balanced initial committed representable since =
    done (Version version ∷ Count rows ∷ Count active ∷ YesOrNo balanced ∷ Amount initial ∷ Amount committed ∷ YesOrNo representable ∷ Amount since ∷ [])

module _ (s : Snapshot) (since : ℤ) (version rows active : ℕ) (v : version ≡ s.version) (n : rows ≡ length s.rows) (a : active ≡ s.active) where
  -- a total that does not fit
  pub certified-outside : totals_fit s.rows ≡ false → replied version rows active false (pos 0) (pos 0) false since ≡ certificate s since
  unfolding certificate
  certified-outside e = rw e (λ i. replied (v i) (n i) (a i) false (pos 0) (pos 0) false since)

  pub certified-fit : (balanced : Bool) (t : Totals) → balanced ≡ is_none (conservation s.rows) → Fitting s.rows t
      → replied version rows active balanced t.initial.0 t.committed.0 true since ≡ certificate s since
  unfolding certificate
  certified-fit balanced t b f = rw f.fit (λ i. replied (v i) (n i) (a i) (b i) (f.initial_is i) (f.committed_is i) true since)

-- ── a rotation ─────────────────────────────────────────────────────────────────────────────────

-- what a certificate says of since is an amount: a total that fits is at most M
pub since-small : (rs : List Row) (h : Head) (total : ℕ) → committed_rows_total rs ≡ pos total → (rotation_of (totals_fit rs) h total).since ≤ M
since-small rs h total is-total =
    by-test (λ (r : Rotated). r.since ≤ M) (totals_fit rs)
    (λ fit. let small = leb-true total M (subst (λ z. fits64 z ≡ true) is-total (and-true (fits64 (initial_total rs)) (fits64 (committed_rows_total rs)) fit).1) in
    by-test (λ since. since ≤ M) (ltb h.baseline total) (λ _. omega arith) (λ _. omega arith))
    (λ _. omega arith)
