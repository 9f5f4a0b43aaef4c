-- A sound seat is one whose amounts add up, with the flag 1, or with the flag 0, no amounts and a limit.
use mathlib.Core.Path.{◌≡◌, sym, ◌∙◌, ap, subst}
use mathlib.Core.Logic.{⊎_elim}
use mathlib.Core.Bool.{false, not, ◌&&◌}
use mathlib.Core.Option.{none, some}
use lib.Dec.{eqb}
use Prim.Native.Nat.{◌≤◌}
use native.Mathlib.Omega.{arith}
use borrow.Author.Tests.{eqb-false, ne_eqb}
use Rattle.rules.specs.RoomAndSoundLedger.{M, is_vacant, has_account, AddsUp}
use Rattle.rules.proofs.Tests.{equal_or_not}
use Rattle.moves.specs.declared.Seat.{Seat}
use Rattle.moves.specs.Moves.{account_in, account_of, meaning, kept, kept_seat, SeatSound}
use Rattle.moves.proofs.Cases.{AmountsAddUp, without-account, with_account, amounts-add-up, account-sound}

-- a seat that is sound and not empty
abbrev pub SeatHeld : Seat → Type 0
SeatHeld s = SeatSound s × (is_vacant (meaning s) ≡ false)

module _ (s : Seat) where
  formed : SeatSound s → kept (account_of s) s.limit ≡ s
  unfolding kept_seat
  formed sound = sound.form

  bare : SeatSound s → s.account ≡ 0 → kept none s.limit ≡ s
  bare sound e = ap (λ o. kept o s.limit) (sym (without-account s e)) ∙ formed sound

  pub flag-is-one : SeatSound s → (s.account ≡ 0 → ⊥) → s.account ≡ 1
  flag-is-one sound n =
      let e : kept (some (account_in s)) s.limit ≡ s = ap (λ o. kept o s.limit) (sym (with_account s n)) ∙ formed sound in
      sym (ap (λ t. t.account) e)

  pub no-amounts : SeatSound s → s.account ≡ 0 → s.initial ≡ 0
  no-amounts sound e = sym (ap (λ t. t.initial) (bare sound e))

  pub a-limit : SeatHeld s → s.account ≡ 0 → s.limit ≡ 0 → ⊥
  a-limit held e = eqb-false s.limit 0 (ap (λ o. not (has_account o) && eqb s.limit 0) (sym (without-account s e)) ∙ held.1)

  -- amounts that are zero add up too
  pub sound-adds-up : SeatSound s → AmountsAddUp s
  sound-adds-up sound =
      ⊎_elim
      (λ e.
      let kept-bare = bare sound e in
      let a : 0 ≡ s.initial = ap (λ t. t.initial) kept-bare in
      let b : 0 ≡ s.remaining = ap (λ t. t.remaining) kept-bare in
      let d : 0 ≡ s.reserved = ap (λ t. t.reserved) kept-bare in
      let f : 0 ≡ s.committed = ap (λ t. t.committed) kept-bare in
      (omega arith, omega arith))
      (λ n. amounts-add-up s sound n)
      (equal_or_not s.account 0)

  pub held-with-account : s.account ≡ 1 → AmountsAddUp s → s.limit ≤ M → SeatHeld s
  held-with-account e h l =
      let n : s.account ≡ 0 → ⊥ = λ z. omega arith in (
        subst (λ a. SeatSound (record { initial = s.initial; remaining = s.remaining; reserved = s.reserved; committed = s.committed; limit = s.limit; account = a })) (sym e) (account-sound s.initial s.remaining s.reserved s.committed s.limit h.0 h.1 l),
        ap (λ o. not (has_account o) && eqb s.limit 0) (with_account s n),
      )

  pub held-without-account : s.account ≡ 0 → s.initial ≡ 0 → AmountsAddUp s → s.limit ≤ M → (s.limit ≡ 0 → ⊥) → SeatHeld s
  unfolding kept_seat
  held-without-account e z h l n =
      let remaining : 0 ≡ s.remaining = omega arith in
      let reserved : 0 ≡ s.reserved = omega arith in
      let committed : 0 ≡ s.committed = omega arith in
      let is-bare : kept none s.limit ≡ s = λ i. record { initial = sym z i; remaining = remaining i; reserved = reserved i; committed = committed i; limit = s.limit; account = sym e i } in (
        record { form = ap (λ o. kept o s.limit) (without-account s e) ∙ is-bare; adds_up = subst AddsUp (sym (without-account s e)) tt; limit = l },
        ap (λ o. not (has_account o) && eqb s.limit 0) (without-account s e) ∙ ne_eqb s.limit 0 n,
      )
