-- The checks of a migration: one law for each answer, in their order; each walks the rule's checks to the one that decides.
use mathlib.Core.Path.{◌≡◌, sym, ap, ◌∙◌}
use mathlib.Core.Logic.{◌≢◌, ◌⊎◌, inl, inr}
use mathlib.Core.Bool.{true, false, ◌||◌}
use mathlib.Core.Option.{Option, none, some}
use Prim.Native.Nat.{ℕ, ◌≤◌, ◌<◌}
use borrow.Author.Tests.{eq-eqb, ne_eqb, lt-ltb, le-ltb}
use lib.Dec.{eqb, ltb}
use lib.ListN.{length}
use Rattle.rules.specs.RoomAndSoundLedger.{M, has_tag}
use Rattle.rules.specs.AnswerNumbers.{Reply, Refusal, NameTooLong, AlreadyRecoveryAware, InvalidAllocatorFence, OutputTooShort}
use Rattle.rules.specs.SnapshotsMigrationCertificates.{Snapshot, snapshot_bytes, with_version, tagged, too_short_for, has_long_name, ◌gives◌else◌, passes, and_then, validation, reply_or, migrate}
use Rattle.validation.proofs.Deciding.{decides, goes_on, refuses, passes_on}
use Rattle.migration.specs.Migrated.{migrated_to}

-- what the checks come to
abbrev pub Decided : (size fence : ℕ) → Snapshot → Option Refusal → Type 0
Decided size fence s o = reply_or o (migrated_to fence s) ≡ migrate size fence s

-- the checks before the validation pass
pub record Passed (fence : ℕ) (s : Snapshot) : Type 0 where
  pub short : has_long_name s.rows ≡ false
  pub untagged : has_tag s.version ≡ false
  pub given : fence ≢ 0
  pub low : fence ≤ M

-- the check after it
abbrev pub room_for : (size fence : ℕ) → Snapshot → Option Refusal
room_for size fence s = too_short_for size (with_version (tagged fence) s) gives OutputTooShort else passes

module _ (size fence : ℕ) (s : Snapshot) where
  abbrev answer : Option Refusal → Reply
  answer o = reply_or o (migrated_to fence s)

  pub long-name : has_long_name s.rows ≡ true → Decided size fence s (some NameTooLong)
  unfolding migrate
  long-name e = ap answer (sym (decides _ _ _ e))

  module _ (short : has_long_name s.rows ≡ false) where
    pub aware : has_tag s.version ≡ true → Decided size fence s (some AlreadyRecoveryAware)
    unfolding migrate
    aware e = ap answer (sym (goes_on _ _ _ short ∙ decides _ _ _ e))

    pub bad-fence : has_tag s.version ≡ false → (fence ≡ 0) ⊎ ((fence ≢ 0) × (M < fence)) → Decided size fence s (some (InvalidAllocatorFence fence))
    unfolding migrate
    bad-fence untagged bad = ap answer (sym (goes_on _ _ _ short ∙ goes_on _ _ _ untagged ∙ decides _ _ _ (is-bad bad)))
      where
        is-bad : (fence ≡ 0) ⊎ ((fence ≢ 0) × (M < fence)) → eqb fence 0 || ltb M fence ≡ true
        is-bad (inl none-given) = rw (eq-eqb fence 0 none-given)
        is-bad (inr (given, high)) = rw (ne_eqb fence 0 given, lt-ltb M fence high)

  -- the validation decides, and then the room
  module _ (p : Passed fence s) where
    by-validation : {o : Option Refusal} → o ≡ and_then (validation s) (room_for size fence s) → Decided size fence s o
    unfolding migrate
    by-validation is =
        ap answer (is ∙ sym (goes_on _ _ _ p.short ∙ goes_on _ _ _ p.untagged ∙ goes_on _ _ _ (rw (ne_eqb fence 0 p.given, le-ltb M fence p.low))))

    pub invalid : {e : Refusal} → some e ≡ validation s → Decided size fence s (some e)
    invalid is = by-validation (refuses _ is)

    module _ (valid : none ≡ validation s) where
      pub short-room : size < length (snapshot_bytes (with_version (tagged fence) s)) → Decided size fence s (some OutputTooShort)
      short-room h = by-validation (sym (decides _ _ _ (lt-ltb size _ h)) ∙ passes_on _ valid)

      pub room-enough : length (snapshot_bytes (with_version (tagged fence) s)) ≤ size → Decided size fence s none
      room-enough h = by-validation (sym (goes_on _ _ _ (le-ltb size _ h)) ∙ passes_on _ valid)
