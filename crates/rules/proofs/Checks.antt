-- What it says of a snapshot and its rows that the checks of a restore pass. A check that passes leaves its test's opposite and the later checks
-- (`check-passes`, `both-pass`); the facts are read off one after the other, and then row by row.
use mathlib.Core.Path.{◌≡◌, refl, ap}
use mathlib.Core.Bool.{Bool, true, false, not}
use mathlib.Core.List.{List, [], ◌∷◌}
use mathlib.Core.Option.{Option, none, some}
use Prim.Native.Nat.{ℕ, ◌+◌, ◌≤◌}
use native.Mathlib.Omega.{arith}
use borrow.Author.Tests.{ltb-false, eqb-true, not-false}
use lib.Dec.{eqb}
use lib.IntN.{ℤ, pos, negsuc, ◌+ℤ◌}
use lib.ListN.{length}
use Rattle.rules.specs.Lists.{any, All}
use Rattle.rules.specs.RoomAndSoundLedger.{Name, same, has_tag, fence_of}
use Rattle.rules.specs.AnswerNumbers.{Refusal}
use Rattle.rules.specs.AccountRules.{natural, is_too_long}
use Rattle.rules.specs.SnapshotsMigrationCertificates.{Row, Snapshot, has_long_name, ◌gives◌else◌, and_then, is_negative, equals, row_conservation, conservation, row_validation, rows_validation, validation, restore_version, recovery_version, restore_refusal}
use Rattle.rules.proofs.Tests.{true-false, or-false}
use Rattle.rules.proofs.Lists.{none_any}

-- ── checks in their order ──────────────────────────────────────────────────────────────────────

pub both-pass : (earlier later : Option Refusal) → and_then earlier later ≡ none → (earlier ≡ none) × (later ≡ none)
unfolding and_then
both-pass none later e = (refl, e)
both-pass (some x) later e = absurd (let z : ◌≡◌ {A = ℕ} 0 1 = cc in omega arith)

pub check-passes : (fails : Bool) (x : Refusal) (later : Option Refusal) → (fails gives x else later) ≡ none → (fails ≡ false) × (later ≡ none)
unfolding ◌gives◌else◌
check-passes false x later e = (refl, e)
check-passes true x later e = absurd (let z : ◌≡◌ {A = ℕ} 0 1 = cc in omega arith)

-- ── signed numbers ─────────────────────────────────────────────────────────────────────────────

pub not_negative : (z : ℤ) → is_negative z ≡ false → z ≡ pos (natural z)
not_negative (pos n) e = refl
not_negative (negsuc n) e = absurd (let z : ◌≡◌ {A = ℕ} 0 1 = cc in omega arith)

pub equals-true : (y z : ℤ) → equals y z ≡ true → y ≡ z
equals-true (pos m) (pos n) e = ap pos (eqb-true m n e)
equals-true (pos m) (negsuc n) e = true-false e refl
equals-true (negsuc m) (pos n) e = true-false e refl
equals-true (negsuc m) (negsuc n) e = ap negsuc (eqb-true m n e)

-- ── a row that passes ──────────────────────────────────────────────────────────────────────────

-- its amounts are natural numbers, nothing is reserved, and the rest adds up
pub record Restorable (r : Row) : Type 0 where
  pub reserved : r.reserved ≡ pos 0
  pub initial : r.initial ≡ pos (natural r.initial)
  pub remaining : r.remaining ≡ pos (natural r.remaining)
  pub committed : r.committed ≡ pos (natural r.committed)
  pub adds_up : natural r.remaining + natural r.committed ≡ natural r.initial

pub record RowPasses (seen : List Name) (r : Row) : Type 0 where
  pub unseen : any (same r.name) seen ≡ false
  pub reserved : r.reserved ≡ pos 0
  pub initial : r.initial ≡ pos (natural r.initial)
  pub remaining : r.remaining ≡ pos (natural r.remaining)
  pub committed : r.committed ≡ pos (natural r.committed)

row-passes : (seen : List Name) (r : Row) → row_validation seen r ≡ none → RowPasses seen r
unfolding row_validation
row-passes seen r e =
    let (unseen, e) = check-passes _ _ _ e in
    let (reserved, e) = check-passes _ _ _ e in
    let (remaining, e) = check-passes _ _ _ e in
    let (initial, e) = check-passes _ _ _ e in
    let (committed, e) = check-passes _ _ _ e in
    record {
      unseen = unseen;
      reserved = equals-true r.reserved (pos 0) (not-false _ reserved);
      initial = not_negative r.initial initial;
      remaining = not_negative r.remaining remaining;
      committed = not_negative r.committed committed;
    }

abbrev Sums : Row → Type 0
Sums r = r.remaining +ℤ r.reserved +ℤ r.committed ≡ r.initial

row-sums : (r : Row) → row_conservation r ≡ none → Sums r
unfolding row_conservation
row-sums r e =
    let (a, e) = check-passes _ _ _ e in
    let (b, e) = check-passes _ _ _ e in
    let (differs, e) = check-passes _ _ _ e in
    equals-true _ _ (not-false _ differs)

rows-sum : (rs : List Row) → conservation rs ≡ none → All Sums rs
unfolding conservation
rows-sum [] e = tt
rows-sum (r ∷ rs) e = let (a, b) = both-pass _ _ e in (row-sums r a, rows-sum rs b)

restorable : (seen : List Name) (r : Row) → RowPasses seen r → Sums r → Restorable r
restorable seen r p sums = record {
  reserved = p.reserved;
  initial = p.initial;
  remaining = p.remaining;
  committed = p.committed;
  adds_up =
      let q : pos (natural r.remaining) +ℤ pos 0 +ℤ pos (natural r.committed) ≡ pos (natural r.initial) = rw (p.remaining, p.reserved, p.committed, p.initial) at sums in
      omega (arith, ap natural q);
}

rows-restorable : (seen : List Name) (rs : List Row) → rows_validation seen rs ≡ none → All Sums rs → All Restorable rs
unfolding rows_validation
rows-restorable seen [] e h = tt
rows-restorable seen (r ∷ rs) e (h, k) = let (a, b) = both-pass _ _ e in (restorable seen r (row-passes seen r a) h, rows-restorable (r.name ∷ seen) rs b k)

-- ── a snapshot that passes ─────────────────────────────────────────────────────────────────────

pub validation-passes : (s : Snapshot) → validation s ≡ none → All Restorable s.rows
unfolding validation
validation-passes s e =
    let (a, e) = check-passes _ _ _ e in
    let (rows, sums) = both-pass _ _ e in
    rows-restorable [] s.rows rows (rows-sum s.rows sums)

pub record VersionPasses (v : ℕ) : Type 0 where
  pub tag : has_tag v ≡ true
  pub fence : eqb (fence_of v) 0 ≡ false

pub restore-version-passes : (v : ℕ) → restore_version v ≡ none → VersionPasses v
unfolding restore_version
restore-version-passes v e =
    let (bad, e) = check-passes _ _ _ e in
    let (untagged, fence) = or-false (not (has_tag v)) (eqb (fence_of v) 0) bad in
    record { tag = not-false (has_tag v) untagged; fence = fence }

pub recovery-version-passes : (v : ℕ) → recovery_version v ≡ none → VersionPasses v
unfolding recovery_version
recovery-version-passes v e =
    let (untagged, e) = check-passes _ _ _ e in
    let (fence, e) = check-passes _ _ _ e in
    record { tag = not-false (has_tag v) untagged; fence = fence }

pub record RestorePasses (of_version : Option Refusal) (t : ℕ) (s : Snapshot) : Type 0 where
  pub short_names : All (λ r. is_too_long r.name ≡ false) s.rows
  pub version : of_version ≡ none
  pub rows : All Restorable s.rows
  pub fit : length s.rows ≤ t

pub restore-passes : (of_version : Option Refusal) (t : ℕ) (s : Snapshot) → restore_refusal of_version t s ≡ none → RestorePasses of_version t s
unfolding restore_refusal has_long_name
restore-passes of_version t s e =
    let (short, e) = check-passes _ _ _ e in
    let (version, e) = both-pass of_version _ e in
    let (valid, e) = both-pass (validation s) _ e in
    let (fit, e) = check-passes _ _ _ e in
    record { short_names = none_any _ s.rows short; version = version; rows = validation-passes s valid; fit = ltb-false t (length s.rows) fit }
