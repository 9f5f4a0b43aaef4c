-- The checks of a version, one law for each answer.
use mathlib.Core.Path.{◌≡◌, refl, sym, ap, ◌∙◌}
use mathlib.Core.Logic.{◌≢◌, ◌⊎◌, inl, inr}
use mathlib.Core.Bool.{Bool, true, false, not, ◌||◌}
use mathlib.Core.List.{[]}
use mathlib.Core.Option.{none, some}
use Prim.Native.Nat.{ℕ, min}
use borrow.Author.Tests.{eq-eqb, ne_eqb}
use lib.Dec.{eqb}
use lib.IntN.{pos}
use Rattle.rules.specs.RoomAndSoundLedger.{M, has_tag, fence_of}
use Rattle.rules.specs.AnswerNumbers.{version_field, NegativeLedgerField, InvalidAllocatorFence, LegacySnapshotRequiresMigration}
use Rattle.rules.specs.SnapshotsMigrationCertificates.{restore_version, recovery_version}
use Rattle.validation.proofs.Deciding.{decides, goes_on}

module _ (v : ℕ) where
  -- ── restore ──────────────────────────────────────────────────────────────────────────────────

  pub carried : (has_tag v ≡ false) ⊎ (fence_of v ≡ 0) → some (NegativeLedgerField [] version_field (pos (min v M))) ≡ restore_version v
  unfolding restore_version
  carried (inl untagged) = sym (decides _ _ _ (ap (λ b. not b || eqb (fence_of v) 0) untagged))
  carried (inr zero-fence) = sym (decides _ _ _ (rw (eq-eqb (fence_of v) 0 zero-fence) (always (not (has_tag v)))))
    where
      always : (b : Bool) → b || true ≡ true
      always true = refl
      always false = refl

  pub restores : has_tag v ≡ true → fence_of v ≢ 0 → none ≡ restore_version v
  unfolding restore_version
  restores tag fence = sym (goes_on _ _ _ (ap (λ b. not b || eqb (fence_of v) 0) tag ∙ ne_eqb (fence_of v) 0 fence))

  -- ── the recovery form ────────────────────────────────────────────────────────────────────────

  pub legacy : has_tag v ≡ false → some LegacySnapshotRequiresMigration ≡ recovery_version v
  unfolding recovery_version
  legacy untagged = sym (decides _ _ _ (ap not untagged))

  module _ (tag : has_tag v ≡ true) where
    pub zero-fence-refused : fence_of v ≡ 0 → some (InvalidAllocatorFence 0) ≡ recovery_version v
    unfolding recovery_version
    zero-fence-refused zero-fence = sym (goes_on _ _ _ (ap not tag) ∙ decides _ _ _ (eq-eqb (fence_of v) 0 zero-fence))

    pub recovers : fence_of v ≢ 0 → none ≡ recovery_version v
    unfolding recovery_version
    recovers fence = sym (goes_on _ _ _ (ap not tag) ∙ goes_on _ _ _ (ne_eqb (fence_of v) 0 fence))
