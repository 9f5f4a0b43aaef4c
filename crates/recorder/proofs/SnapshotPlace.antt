-- A snapshot in an answer takes all that stands behind the number: the rules read one just where `snapshot_of_bytes` does and no name is long (`taken`), which is what `check` of
-- snapshot_reader tells; and what they read is written as the bytes that are there, so that its length is theirs.
use mathlib.Core.Path.{◌≡◌, refl, sym, ◌∙◌, ap}
use mathlib.Core.Bool.{Bool, true, false, cond}
use mathlib.Core.List.{List, [], ◌∷◌, map}
use mathlib.Core.Option
use mathlib.Core.Option.{Option, none, some}
use Prim.Native.Nat.{ℕ, ◌-◌, ◌≤◌}
use native.Mathlib.Omega.{arith}
use lib.Dec.{eqb}
use lib.ListN.{length, take, drop, length-drop}
use lib.Seq.{take_all}
use Rattle.rules.specs.AnswerNumbers.{Value, Amount, Identifier, Version, Fence, Count, Field, YesOrNo, TheName, SnapshotBytes}
use Rattle.rules.specs.SnapshotsMigrationCertificates.{Snapshot, whole, go_on, reads, read_snapshot, snapshot_bytes, snapshot_of_bytes, has_long_name}
use Rattle.rules.specs.Domain.{IsBytes}
use Rattle.rules.specs.Recorder.{unless, read_likes, word_of}
use Rattle.rules.proofs.Tests.{by_bool, by-option}
use Rattle.rules.proofs.SnapshotBytes.{snapshot-only}
use Rattle.numbers.proofs.Bytes.{all_drop}
use Rattle.snapshot_reader.specs.Standing.{checked_as}
use Rattle.refusals.specs.declared.Refusal.{Refusal}
use Rattle.refusals.specs.declared.Refusal.TheVariants.{NameTooLong}
use Rattle.std.specs.Prelude.{None, Result, Ok, Err}
use Rattle.recorder.specs.Shapes.{a_snapshot, kind_of}
use Rattle.recorder.specs.Reading.{filled, Carries}

-- ── the form ───────────────────────────────────────────────────────────────────────────────────

-- all that a form of this kind can be
record Alone (form : List Value) : Type 0 where
  part : List ℕ
  is : form ≡ SnapshotBytes part ∷ []

impossible : {A : Type 0} → ◌≡◌ {A = ℕ} 0 1 → A
impossible z = absurd (omega arith)

alone : (form : List Value) → map kind_of form ≡ a_snapshot ∷ [] → Alone form
alone [] e = impossible (cc)
alone (SnapshotBytes part ∷ []) e = record { part = part; is = refl }
alone (SnapshotBytes part ∷ (v ∷ vs)) e = impossible (cc)
alone (Amount z ∷ vs) e = impossible (cc)
alone (Identifier n ∷ vs) e = impossible (cc)
alone (Version n ∷ vs) e = impossible (cc)
alone (Fence n ∷ vs) e = impossible (cc)
alone (Count n ∷ vs) e = impossible (cc)
alone (Field n ∷ vs) e = impossible (cc)
alone (YesOrNo b ∷ vs) e = impossible (cc)
alone (TheName a ∷ vs) e = impossible (cc)

-- ── the snapshot ───────────────────────────────────────────────────────────────────────────────

abbrev taken : Option Snapshot → Option (List Value)
taken none = none
taken (some s) = cond (has_long_name s.rows) none (some (SnapshotBytes (snapshot_bytes s) ∷ []))

taken-whole : (s : Snapshot) (long : Bool) → has_long_name s.rows ≡ long → (all : Bool) → taken (cond all (some s) none) ≡ cond all (cond long none (some (SnapshotBytes (snapshot_bytes s) ∷ []))) none
taken-whole s long e true = ap (λ b. cond b none (some (SnapshotBytes (snapshot_bytes s) ∷ []))) e
taken-whole s long e false = refl

none-either : (all : Bool) → ◌≡◌ {A = Option (List Value)} none (cond all none none)
none-either true = refl
none-either false = refl

read-alone : (part bs : List ℕ) → whole (read_likes (SnapshotBytes part ∷ []) bs) ≡ taken (snapshot_of_bytes bs)
unfolding read_likes snapshot_of_bytes
read-alone part bs = by-option (λ o. whole (go_on (go_on o (λ s. unless (has_long_name s.rows) (SnapshotBytes (snapshot_bytes s)))) (λ w. reads (w ∷ []))) ≡ taken (whole o)) (read_snapshot bs)
    (λ _. refl)
    (λ r _. let all = eqb (length r.rest) 0 in
    by_bool (λ long. has_long_name r.value.rows ≡ long
    → whole (go_on (cond long none (reads (SnapshotBytes (snapshot_bytes r.value)) r.rest)) (λ w. reads (w ∷ []))) ≡ taken (cond all (some r.value) none)) (has_long_name r.value.rows)
    (λ _ e. none-either all ∙ sym (taken-whole r.value true e all))
    (λ _ e. sym (taken-whole r.value false e all))
    refl)

-- ── what the check tells ───────────────────────────────────────────────────────────────────────

refused : (o : Option Snapshot) → (checked_as o ≡ Ok tt → ⊥) → taken o ≡ none
refused none other = refl
refused (some s) other = by_bool (λ long. has_long_name s.rows ≡ long → cond long none (some (SnapshotBytes (snapshot_bytes s) ∷ [])) ≡ none) (has_long_name s.rows)
    (λ _ _. refl)
    (λ _ e. absurd (other (ap (λ b. cond b (Err NameTooLong) (Ok tt)) e)))
    refl

-- the snapshot that passed
record Passed (o : Option Snapshot) : Type 0 where
  snapshot : Snapshot
  is_read : o ≡ some snapshot
  short : has_long_name snapshot.rows ≡ false

passed : (o : Option Snapshot) → checked_as o ≡ Ok tt → Passed o
passed none e = impossible (cc)
passed (some s) e = by_bool (λ long. has_long_name s.rows ≡ long → cond long (Err NameTooLong) (Ok tt) ≡ Ok tt → Passed (some s)) (has_long_name s.rows)
    (λ _ _ (q : ◌≡◌ {A = Result (Unit {0}) Refusal} (Err NameTooLong) (Ok tt)). impossible (cc))
    (λ _ t _. record { snapshot = s; is_read = refl; short = t })
    refl e

module _ (bs : List ℕ) (bytes : IsBytes bs) (h : 1 ≤ length bs) {r : Result (Unit {0}) Refusal} (is-checked : r ≡ checked_as (snapshot_of_bytes (take (length bs - 1) (drop 1 bs)))) where
  lent : r ≡ checked_as (snapshot_of_bytes (drop 1 bs))
  lent = is-checked ∙ ap (λ part. checked_as (snapshot_of_bytes part)) (take_all (length bs - 1) (drop 1 bs) (omega (arith, length-drop 1 bs)))

  abbrev words_of_all : List Value → List ℕ
  words_of_all vs = filled 8 (map word_of vs)

  by-check : {values : Option (List ℕ)} → values ≡ Option.map words_of_all (taken (snapshot_of_bytes (drop 1 bs)))
      → (form : List Value) → map kind_of form ≡ a_snapshot ∷ [] → values ≡ Option.map words_of_all (whole (read_likes form (drop 1 bs)))
  by-check e form same =
      let a = alone form same in
      e ∙ ap (Option.map words_of_all) (sym (ap (λ vs. whole (read_likes vs (drop 1 bs))) a.is ∙ read-alone a.part (drop 1 bs)))

  pub no-snapshot : (r ≡ Ok tt → ⊥) → Carries (a_snapshot ∷ []) bs None
  no-snapshot other = by-check (ap (Option.map words_of_all) (sym (refused (snapshot_of_bytes (drop 1 bs)) (λ e. other (lent ∙ e)))))

  pub a-snapshot : r ≡ Ok tt → {values : Option (List ℕ)} → values ≡ some ((length bs - 1) ∷ 0 ∷ 0 ∷ 0 ∷ 0 ∷ 0 ∷ 0 ∷ 0 ∷ [])
      → (form : List Value) → map kind_of form ≡ a_snapshot ∷ [] → values ≡ Option.map words_of_all (whole (read_likes form (drop 1 bs)))
  a-snapshot passes e =
      let p = passed (snapshot_of_bytes (drop 1 bs)) (sym lent ∙ passes) in
      let (same, fits) = snapshot-only (drop 1 bs) (all_drop _ 1 bs bytes) p.snapshot p.is_read in
      let size : length bs - 1 ≡ length (snapshot_bytes p.snapshot) = sym (length-drop 1 bs) ∙ ap length (sym same) in
      by-check
      (e
      ∙ ap (λ n. some (n ∷ 0 ∷ 0 ∷ 0 ∷ 0 ∷ 0 ∷ 0 ∷ 0 ∷ [])) size
      ∙ ap (λ long. Option.map words_of_all (cond long none (some (SnapshotBytes (snapshot_bytes p.snapshot) ∷ [])))) (sym p.short)
      ∙ ap (λ o. Option.map words_of_all (taken o)) (sym p.is_read))
