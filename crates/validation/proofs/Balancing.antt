-- The conservation of one row: one law for each answer, over its amounts and over what the totals of them are fitted to. Each walks the rule's checks to the
-- one that decides.
use mathlib.Core.Path.{◌≡◌, sym, ap, ◌∙◌}
use mathlib.Core.Logic.{◌≢◌}
use mathlib.Core.Bool.{true, false, not}
use mathlib.Core.Option.{none, some}
use lib.IntN.{ℤ, pos, ◌+ℤ◌, ◌-ℤ◌, +ℤ_idl}
use mir.Syntax.{w64}
use mir.Val.{SFits, of_z, to_z}
use Rattle.std.specs.Prelude.{Some, None}
use Rattle.std.proofs.lemmas.Int.{to_z-of_z}
use Rattle.rules.specs.RoomAndSoundLedger.{Name}
use Rattle.rules.specs.AnswerNumbers.{ConservationViolation, AggregateOverflow}
use Rattle.rules.specs.SnapshotsMigrationCertificates.{Row, fits64, is_negative, row_conservation}
use Rattle.rules.proofs.Values.{equals-self}
use Rattle.numbers.specs.declared.Microcents.{Microcents}
use Rattle.totals.specs.declared.Total.{Total}
use Rattle.totals.specs.Totals.{value_of, fitted}
use Rattle.totals.proofs.Fitting.{fits-is, outside-is}
use Rattle.validation.specs.Judgement.{row_with}
use Rattle.validation.proofs.Deciding.{decides, goes_on, equals-other}

-- code compares amounts by their bits, which are equal just where the amounts are
pub same_bits : {x y : ℤ} → SFits w64 x → SFits w64 y → of_z w64 x ≡ of_z w64 y → x ≡ y
same_bits {x} {y} fits other-fits e = sym (to_z-of_z w64 x fits) ∙ ap (to_z w64) e ∙ to_z-of_z w64 y other-fits

-- three amounts added up
pub record AddsUp (remaining reserved committed : ℤ) (sum : Total) : Type 0 where
  pub is : value_of sum ≡ remaining +ℤ reserved +ℤ committed

-- one after the other, from nothing on
pub added_up : {remaining reserved committed : ℤ} (nothing first second sum : Total) → value_of nothing ≡ pos 0 → value_of first ≡ value_of nothing +ℤ remaining
    → value_of second ≡ value_of first +ℤ reserved → value_of sum ≡ value_of second +ℤ committed → AddsUp remaining reserved committed sum
added_up {remaining} {reserved} {committed} nothing first second sum n f s e =
    record { is = e ∙ ap (λ z. z +ℤ committed) (s ∙ ap (λ z. z +ℤ reserved) (f ∙ ap (λ z. z +ℤ remaining) n ∙ +ℤ_idl remaining)) }

module _ (a : Name) (initial : ℤ) {remaining reserved committed : ℤ} {sum : Total} (adds-up : AddsUp remaining reserved committed sum) where
  abbrev exact : ℤ
  exact = remaining +ℤ reserved +ℤ committed

  abbrev row : Row
  row = row_with a initial remaining reserved committed

  pub overflows : fitted (value_of sum) ≡ None → some AggregateOverflow ≡ row_conservation row
  unfolding row_conservation
  overflows e = sym (decides _ _ _ (ap not (outside-is exact (ap fitted (sym adds-up.is) ∙ e))))

  module _ {m : Microcents} (fit : fitted (value_of sum) ≡ Some m) where
    both : (m.0 ≡ exact) × (fits64 exact ≡ true)
    both = fits-is exact m (ap fitted (sym adds-up.is) ∙ fit)

    -- the sum isn't initial
    module _ (other : m.0 ≢ initial) (difference : Total) (difference_is : value_of difference ≡ value_of sum -ℤ initial) where
      unequal : exact ≢ initial
      unequal e = other (both.0 ∙ e)

      fitted-delta : fitted (value_of difference) ≡ fitted (exact -ℤ initial)
      fitted-delta = ap fitted (difference_is ∙ ap (λ z. z -ℤ initial) adds-up.is)

      pub delta-overflows : fitted (value_of difference) ≡ None → some AggregateOverflow ≡ row_conservation row
      unfolding row_conservation
      delta-overflows e =
          let large = outside-is (exact -ℤ initial) (sym fitted-delta ∙ e) in
          sym (goes_on _ _ _ (ap not both.1) ∙ decides _ _ _ (rw (equals-other exact initial unequal, large)))

      pub differs : {delta : Microcents} → fitted (value_of difference) ≡ Some delta → some (ConservationViolation a delta.0) ≡ row_conservation row
      unfolding row_conservation
      differs {delta} e =
          let (delta_is, small) = fits-is (exact -ℤ initial) delta (sym fitted-delta ∙ e) in
          ap (λ z. some (ConservationViolation a z)) delta_is
          ∙ sym (goes_on _ _ _ (ap not both.1) ∙ goes_on _ _ _ (rw (equals-other exact initial unequal, small)) ∙ decides _ _ _ (rw (equals-other exact initial unequal)))

    -- the sum is initial
    module _ (equal : m.0 ≡ initial) where
      is_initial : exact ≡ initial
      is_initial = sym both.0 ∙ equal

      pub below_zero : is_negative remaining ≡ true → some (ConservationViolation a remaining) ≡ row_conservation row
      unfolding row_conservation
      below_zero e =
          sym (goes_on _ _ _ (ap not both.1) ∙ goes_on _ _ _ (rw (is_initial, equals-self initial)) ∙ goes_on _ _ _ (rw (is_initial, equals-self initial))
          ∙ decides _ _ _ e)

      pub balanced : is_negative remaining ≡ false → none ≡ row_conservation row
      unfolding row_conservation
      balanced e =
          sym (goes_on _ _ _ (ap not both.1) ∙ goes_on _ _ _ (rw (is_initial, equals-self initial)) ∙ goes_on _ _ _ (rw (is_initial, equals-self initial))
          ∙ goes_on _ _ _ e)
