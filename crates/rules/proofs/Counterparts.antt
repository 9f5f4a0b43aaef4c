-- Two stages at which every reference has a live reservation of the same amount, or none in both: each live reservation has its counterpart under
-- the paired id, and is the counterpart of its counterpart. So the one's bookings, under paired ids and in id order again, are the other's.
use mathlib.Core.Path.{◌≡◌, refl, sym, ◌∙◌, ap}
use mathlib.Core.List.{map}
use mathlib.Core.Option
use mathlib.Core.Option.{Option, none, some, get_or}
use Prim.Native.Nat.{ℕ}
use native.Mathlib.Omega.{arith}
use Rattle.rules.specs.Lists.{All, Pairwise}
use Rattle.rules.specs.RoomAndSoundLedger.{Booking}
use Rattle.rules.specs.AccountRules.{booked}
use Rattle.rules.specs.OrderBetweenAirlines.{Reference, id_of, Stage, paired_id, with_paired_id, in_id_order}
use Rattle.rules.proofs.Tests.{by-option, none-some}
use Rattle.rules.proofs.Lists.{all_map}
use Rattle.rules.proofs.Bookings.{Below, booked-id, booked-all}
use Rattle.rules.proofs.Keys.{pairwise_map, pairwise-with, all-images, all-sources, pairwise-images}
use Rattle.rules.proofs.SameTables.{same-bookings, Apart, Live, all_live, order-ascends, booked-in-order}
use Rattle.rules.proofs.Notes.{id-of-found}
use Rattle.rules.proofs.Plans.{amount_of, booking_of}
use Rattle.rules.proofs.Stages.{Noted, Orderly, noted-reference, of-its-airline}

abbrev pub SameLive : Stage → Stage → Type 0
SameLive t u = (k : Reference) → amount_of (booking_of k t) ≡ amount_of (booking_of k u)

-- the booking under its paired id
abbrev over : Stage → Stage → Booking → Booking
over t u = with_paired_id t.notes u.notes

record Counterpart (t u : Stage) (b : Booking) : Type 0 where
  live : Live u.ledger.bookings (over t u b)
  back : paired_id u.notes t.notes (over t u b).id ≡ b.id

counterpart : (t u : Stage) → Orderly t → Orderly u → SameLive t u → (b : Booking) → Live t.ledger.bookings b → Counterpart t u b
unfolding booking_of paired_id
counterpart t u ot ou same_live b live = go (booking_of k u) refl (sym (same_live k) ∙ ap amount_of here)
  where
    noted : Noted t.notes b
    noted = booked-all (Noted t.notes) b.id t.ledger.bookings b ot.bookings_noted live

    k : Reference
    k = noted.0

    id-here : id_of k t.notes ≡ b.id
    id-here = id-of-found t.notes ot.notes_apart b.id k noted.1

    here : booked (id_of k t.notes) t.ledger.bookings ≡ some b
    here = ap (λ i. booked i t.ledger.bookings) id-here ∙ live

    id-there : paired_id t.notes u.notes b.id ≡ id_of k u.notes
    id-there = ap (λ o. get_or (Option.map (λ k. id_of k u.notes) o) 0) noted.1

    go : (o : Option Booking) → booking_of k u ≡ o → amount_of (booking_of k u) ≡ some b.amount → Counterpart t u b
    go none e f = none-some (sym (ap amount_of e) ∙ f)
    go (some c) e f =
        let p : some c.amount ≡ some b.amount = sym (ap amount_of e) ∙ f in
        let amount : c.amount ≡ b.amount = cc in
        let name : c.name ≡ b.name = of-its-airline u ou k c e ∙ noted.2 in
        let id : c.id ≡ paired_id t.notes u.notes b.id = booked-id (id_of k u.notes) u.ledger.bookings c e ∙ sym id-there in
        record {
          live = ap (λ i. booked i u.ledger.bookings) id-there ∙ e ∙ ap some (λ i. record { id = id i; name = name i; amount = amount i });
          back = ap (paired_id u.notes t.notes) id-there ∙ ap (λ o. get_or (Option.map (λ k. id_of k t.notes) o) 0) (noted-reference u ou k c e) ∙ id-here;
        }

module _ (t u : Stage) (ot : Orderly t) (ou : Orderly u) (same_live : SameLive t u) where
  live_here : All (Live t.ledger.bookings) t.ledger.bookings
  live_here = all_live t.ledger.bookings (pairwise_map Below Apart (λ b c l. omega arith) t.ledger.bookings ot.sound.ids_ascend)

  to : (b : Booking) → Live t.ledger.bookings b → Counterpart t u b
  to = counterpart t u ot ou same_live

  from : (b : Booking) → Live u.ledger.bookings b → Counterpart u t b
  from = counterpart u t ou ot (λ k. sym (same_live k))

  -- paired ids differ where the ids do
  apart : Pairwise Apart (map (over t u) t.ledger.bookings)
  apart = pairwise-images (over t u) Apart t.ledger.bookings
      (pairwise-with (Live t.ledger.bookings) Below (λ b c. Apart (over t u b) (over t u c))
      (λ b c p q l e. let z : b.id ≡ c.id = sym (to b p).back ∙ ap (paired_id u.notes t.notes) e ∙ (to c q).back in omega arith)
      t.ledger.bookings live_here ot.sound.ids_ascend)

  -- what is live there is found under the paired ids
  found-there : (d : Booking) → Live u.ledger.bookings d → booked d.id (map (over t u) t.ledger.bookings) ≡ some d
  found-there d live =
      let c : Booking = over u t d in
      let p : over t u c ≡ d = λ i. record { id = (from d live).back i; name = d.name; amount = d.amount } in
      let q : Live (map (over t u) t.ledger.bookings) (over t u c) = booked-all (λ b. Live (map (over t u) t.ledger.bookings) (over t u b)) c.id t.ledger.bookings c
      (all-sources (over t u) (Live (map (over t u) t.ledger.bookings)) t.ledger.bookings (all_live (map (over t u) t.ledger.bookings) apart)) (from d live).live in
      ap (λ b. booked b.id (map (over t u) t.ledger.bookings)) (sym p) ∙ q ∙ ap some p

  -- what is found under the paired ids is live there
  live-there : All (Live u.ledger.bookings) (map (over t u) t.ledger.bookings)
  live-there = all-images (over t u) (Live u.ledger.bookings) t.ledger.bookings (all_map (Live t.ledger.bookings) (λ b. Live u.ledger.bookings (over t u b)) (λ b l. (to b l).live) t.ledger.bookings live_here)

  found_alike : (i : ℕ) → booked i (map (over t u) t.ledger.bookings) ≡ booked i u.ledger.bookings
  found_alike i = by-option (λ o. booked i u.ledger.bookings ≡ o → booked i (map (over t u) t.ledger.bookings) ≡ o) (booked i u.ledger.bookings)
      (λ _ e. by-option (λ o. booked i (map (over t u) t.ledger.bookings) ≡ o → o ≡ none) (booked i (map (over t u) t.ledger.bookings)) (λ _ f. refl)
      (λ b _ f. let l : Live u.ledger.bookings b = booked-all (Live u.ledger.bookings) i (map (over t u) t.ledger.bookings) b live-there f in
      sym l ∙ ap (λ j. booked j u.ledger.bookings) (booked-id i (map (over t u) t.ledger.bookings) b f) ∙ e) refl)
      (λ d _ e. let p : d.id ≡ i = booked-id i u.ledger.bookings d e in
      ap (λ j. booked j (map (over t u) t.ledger.bookings)) (sym p) ∙ found-there d (ap (λ j. booked j u.ledger.bookings) p ∙ e)) refl

  pub same-paired : in_id_order (map (with_paired_id t.notes u.notes) t.ledger.bookings) ≡ u.ledger.bookings
  same-paired = same-bookings (in_id_order (map (over t u) t.ledger.bookings)) u.ledger.bookings (order-ascends (map (over t u) t.ledger.bookings) apart) ou.sound.ids_ascend
      (λ i. booked-in-order i (map (over t u) t.ledger.bookings) apart ∙ found_alike i)
