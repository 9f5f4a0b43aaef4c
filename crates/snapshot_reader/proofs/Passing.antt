-- A pass over the rows of bytes, row by row, decides what they come to: whether they are a snapshot, and whether a name of it is long. Each row passed hands
-- that on to the rows left, and a flag tells of the names passed.
use mathlib.Core.Path.{◌≡◌, refl, sym, ◌∙◌, ap, subst}
use mathlib.Core.Bool.{Bool, true, false, cond, ◌||◌, or_assoc, or-false}
use mathlib.Core.List.{List, ◌∷◌}
use mathlib.Core.Option.{Option, none, some}
use Prim.Native.Nat.{ℕ, suc, ◌+◌, ◌≤◌, ◌<◌}
use native.Mathlib.Omega.{arith}
use borrow.Author.Tests.{eq-eqb, ne_eqb}
use lib.Dec.{eqb, ltb}
use lib.ListN.{length, get_or, drop, length-drop}
use Rattle.std.specs.Prelude.{Option as Found, Some, None, Result, Ok, Err}
use Rattle.rules.specs.Lists.{any}
use Rattle.rules.specs.RoomAndSoundLedger.{longest_name}
use Rattle.rules.specs.AccountRules.{is_too_long}
use Rattle.rules.specs.SnapshotsMigrationCertificates.{Row, Snapshot, Reading, Reader, reads, go_on, ◌>>=◌, whole, read_row, read_rows, snapshot_of_bytes, most_rows, has_long_name}
use Rattle.rules.proofs.Tests.{by-option}
use Rattle.big_endian.specs.Layout.{snapshot_header}
use Rattle.refusals.specs.declared.Refusal.{Refusal}
use Rattle.refusals.specs.declared.Refusal.TheVariants.{NameTooLong, BadFrame}
use Rattle.snapshot_reader.specs.Standing.{checked_as, RowEnds}
use Rattle.snapshot_reader.proofs.Header.{count_in, rows_after, with_rows, head_read, head-refused}

-- what bytes come to of which all is read, or not, by whether a name is long
abbrev pub verdict : (all long : Bool) → Result (Unit {0}) Refusal
verdict all long = cond all (cond long (Err NameTooLong) (Ok tt)) (Err BadFrame)

-- what rows come to, after some that had a long name or had none: they are read, and nothing is left over
abbrev pub checked_rows : (long : Bool) → Option (Reading (List Row)) → Result (Unit {0}) Refusal
checked_rows long none = Err BadFrame
checked_rows long (some r) = verdict (eqb (length r.rest) 0) (long || has_long_name r.value)

-- after the first row, so many more
abbrev later_rows : ℕ → Row → Reader (List Row)
later_rows left r = read_rows left >>= (λ rs. reads (r ∷ rs))

later-checked : (long : Bool) (left : ℕ) (r : Row) (bs : List ℕ) → checked_rows long (later_rows left r bs) ≡ checked_rows (long || is_too_long r.name) (read_rows left bs)
unfolding has_long_name any
later-checked long left r bs = by-option (λ o. checked_rows long (go_on o (λ rs. reads (r ∷ rs))) ≡ checked_rows (long || is_too_long r.name) o) (read_rows left bs)
    (λ _. refl)
    (λ rs _. ap (verdict (eqb (length rs.rest) 0)) (sym (or_assoc long (is_too_long r.name) (has_long_name rs.value))))

-- a pass that has come to a place: what the bytes come to is what those from there on do as the rows left, and the flag tells whether a name passed was long
pub record Undecided (bs : List ℕ) (long : Bool) (at left : ℕ) : Type 0 where
  pub within : at ≤ length bs
  pub same : checked_as (snapshot_of_bytes bs) ≡ checked_rows long (read_rows left (drop at bs))

module _ (bs : List ℕ) where
  -- ── the head ─────────────────────────────────────────────────────────────────────────────────

  pub refused : (snapshot_header ≤ length bs → most_rows < count_in bs) → Err BadFrame ≡ checked_as (snapshot_of_bytes bs)
  unfolding snapshot_of_bytes
  refused many = sym (ap (λ o. checked_as (whole o)) (head-refused bs many))

  pub by_rows : {count : ℕ} → count ≡ count_in bs → snapshot_header ≤ length bs → count ≤ most_rows → Undecided bs false snapshot_header count
  unfolding snapshot_of_bytes
  by_rows {count} is h few = record {
    within = h;
    same = ap (λ o. checked_as (whole o)) (head_read bs h (omega arith)) ∙ decided (rows_after bs) ∙ ap (λ n. checked_rows false (read_rows n (drop snapshot_header bs))) (sym is);
  }
    where
      kept : (b : Bool) (s : Snapshot) → checked_as (cond b (some s) none) ≡ verdict b (has_long_name s.rows)
      kept true s = refl
      kept false s = refl

      decided : (o : Option (Reading (List Row))) → checked_as (whole (go_on o (λ rs. reads (with_rows bs rs)))) ≡ checked_rows false o
      decided none = refl
      decided (some r) = kept (eqb (length r.rest) 0) (with_rows bs r.value)

-- ── a row, or none, or the end ─────────────────────────────────────────────────────────────────

module _ {bs : List ℕ} {long : Bool} {at left : ℕ} (pass : Undecided bs long at left) where
  module _ (later : ℕ) (more : left ≡ later + 1) where
    next : checked_as (snapshot_of_bytes bs) ≡ checked_rows long (read_rows (suc later) (drop at bs))
    next = pass.same ∙ ap (λ n. checked_rows long (read_rows n (drop at bs))) (omega arith)

    pub passed : (end : ℕ) → {r : Found ℕ} → RowEnds bs at (read_row (drop at bs)) r → r ≡ Some end → Undecided bs (long || ltb longest_name (get_or bs at 0)) end later
    unfolding read_rows
    passed end {r} ends is = by-option (λ o. checked_as (snapshot_of_bytes bs) ≡ checked_rows long (go_on o (later_rows later)) → RowEnds bs at o (Some end) → Undecided bs (long || ltb longest_name (get_or bs at 0)) end later)
        (read_row (drop at bs))
        (λ _ _ e. cc)
        (λ r _ same e. record {
          within = e.within;
          same = same ∙ later-checked long later r.value r.rest
              ∙ ap (λ n. checked_rows (long || ltb longest_name n) (read_rows later r.rest)) (sym e.size)
              ∙ ap (λ rest. checked_rows (long || ltb longest_name (get_or bs at 0)) (read_rows later rest)) (sym e.rest);
        })
        next (subst (RowEnds bs at (read_row (drop at bs))) is ends)

    pub broken : {r : Found ℕ} → RowEnds bs at (read_row (drop at bs)) r → r ≡ None → Err BadFrame ≡ checked_as (snapshot_of_bytes bs)
    unfolding read_rows
    broken ends is = by-option (λ o. checked_as (snapshot_of_bytes bs) ≡ checked_rows long (go_on o (later_rows later)) → RowEnds bs at o None → Err BadFrame ≡ checked_as (snapshot_of_bytes bs)) (read_row (drop at bs))
        (λ _ same _. sym same) (λ _ _ _ e. absurd e) next (subst (RowEnds bs at (read_row (drop at bs))) is ends)

  module _ (none_left : left ≡ 0) where
    last : checked_as (snapshot_of_bytes bs) ≡ checked_rows long (read_rows 0 (drop at bs))
    last = pass.same ∙ ap (λ n. checked_rows long (read_rows n (drop at bs))) none_left

    pub left_over : at < length bs → Err BadFrame ≡ checked_as (snapshot_of_bytes bs)
    unfolding read_rows
    left_over h = sym (last ∙ rw (ne_eqb (length (drop at bs)) 0 (λ z. omega (arith, length-drop at bs))))

    pub ended : length bs ≤ at → (is : Bool) → long ≡ is → verdict true is ≡ checked_as (snapshot_of_bytes bs)
    unfolding read_rows has_long_name any
    ended h is e = sym (last ∙ rw (eq-eqb (length (drop at bs)) 0 (omega (arith, length-drop at bs)), or-false long) (ap (verdict true) e))
