-- The second half of the road: airlines do not meet. A plan of one airline changes that airline's own part by that part alone, and leaves the own
-- part of every other airline as it was. Plan by plan, for the seat, the live amounts and the grants: the id of one reference finds no other's booking.
use mathlib.Core.Path.{◌≡◌, refl, sym, ◌∙◌, ap, subst}
use mathlib.Core.Logic.{◌⊎◌, inl, inr, ◌≢◌}
use mathlib.Core.Bool.{false, cond}
use mathlib.Core.List.{[], ◌∷◌, ◌++◌}
use mathlib.Core.Option.{none, some}
use Prim.Native.Nat.{ℕ, suc}
use native.Mathlib.Omega.{arith}
use Rattle.rules.specs.Lists.{keep}
use Rattle.rules.specs.RoomAndSoundLedger.{Name, same, Seat}
use Rattle.rules.specs.AnswerNumbers.{Reply}
use Rattle.rules.specs.AccountRules.{booked, ended}
use Rattle.rules.specs.OrderBetweenAirlines.{Which, grant, Reference, reference, same_which, id_of, grants_of, Stage}
use Rattle.rules.proofs.Tests.{by_bool, true-false, equal_or_not}
use Rattle.rules.proofs.Names.{same_self, same_false}
use Rattle.rules.proofs.Places.{seat_in-seated, seat_in-seated-other}
use Rattle.rules.proofs.Bookings.{booked-more, booked-last, booked-ended, booked-ended-other}
use Rattle.rules.proofs.Notes.{same-which-self, same-which-true, id-of-more, same_id}
use Rattle.rules.proofs.Plans.{OwnPart, amount_of, booking_of, own_part, own-path, Plan, stays, writes, loses, books, ends, new_booking, new_note, enact}
use Rattle.rules.proofs.Stages.{Orderly, none_at_zero, none-at-next, id-below-next, own-grants}

-- what an airline's plan makes of its own part
unfoldable pub own_after : OwnPart → Plan → OwnPart
own_after o (stays r) = o
own_after o (writes r s) = record { seat = s; live = o.live; grants = o.grants }
own_after o (loses r) = o
own_after o (books remaining s cost) = record { seat = s; live = λ w. cond (same_which w (grant (suc o.grants))) (some cost) (o.live w); grants = suc o.grants }
own_after o (ends r s w) = record { seat = s; live = λ v. cond (same_which v w) none (o.live v); grants = o.grants }

module _ (t : Stage) (orderly : Orderly t) (a : Name) where
  -- a reservation is still found once another is granted, and the one granted is found
  still-found : (cost : ℕ) (k : Reference) → booked (id_of k t.notes) (t.ledger.bookings ++ new_booking t a cost ∷ []) ≡ booked (id_of k t.notes) t.ledger.bookings
  still-found cost k = booked-more (id_of k t.notes) (new_booking t a cost) t.ledger.bookings (omega (arith, id-below-next t orderly k))

  new-found : (cost : ℕ) → booked t.ledger.next_id (t.ledger.bookings ++ new_booking t a cost ∷ []) ≡ some (new_booking t a cost)
  new-found cost = booked-last (new_booking t a cost) t.ledger.bookings (none-at-next t orderly)

  -- an end takes away no other reference's reservation
  others-stay : (w : Which) (k : Reference) → k ≢ reference a w → booked (id_of k t.notes) (ended (id_of (reference a w) t.notes) t.ledger.bookings) ≡ booked (id_of k t.notes) t.ledger.bookings
  others-stay w k n = go (equal_or_not (id_of k t.notes) i)
    where
      i : ℕ
      i = id_of (reference a w) t.notes

      unknown : id_of k t.notes ≡ i → (id_of k t.notes ≡ 0) ⊎ (k ≡ reference a w) → booked (id_of k t.notes) (ended i t.ledger.bookings) ≡ booked (id_of k t.notes) t.ledger.bookings
      unknown e (inl z) = subst (λ j. booked j (ended i t.ledger.bookings) ≡ none) (sym e) (booked-ended i t.ledger.bookings) ∙ sym (ap (λ j. booked j t.ledger.bookings) z ∙ none_at_zero t orderly)
      unknown e (inr q) = absurd (n q)

      go : (id_of k t.notes ≡ i) ⊎ (id_of k t.notes ≢ i) → booked (id_of k t.notes) (ended i t.ledger.bookings) ≡ booked (id_of k t.notes) t.ledger.bookings
      go (inl e) = unknown e (same_id t.notes orderly.notes_apart k (reference a w) e)
      go (inr d) = booked-ended-other (id_of k t.notes) i t.ledger.bookings d

  live-books : (remaining : ℕ) (s : Seat) (cost : ℕ) (w : Which) → (own_part a (enact t a (books remaining s cost))).live w ≡ (own_after (own_part a t) (books remaining s cost)).live w
  unfolding own_part own_after enact booking_of
  live-books remaining s cost w = rw (id-of-more (reference a w) (new_note t a) t.notes, same_self a)
      (by_bool (λ c. amount_of (booked (cond c t.ledger.next_id (id_of (reference a w) t.notes)) (t.ledger.bookings ++ new_booking t a cost ∷ [])) ≡ cond c (some cost) (amount_of (booked (id_of (reference a w) t.notes) t.ledger.bookings)))
      (same_which w (grant (suc (grants_of a t.notes)))) (λ _. ap amount_of (new-found cost)) (λ _. ap amount_of (still-found cost (reference a w))))

  live-ends : (r : Reply) (s : Seat) (w v : Which) → (own_part a (enact t a (ends r s w))).live v ≡ (own_after (own_part a t) (ends r s w)).live v
  unfolding own_part own_after enact booking_of
  live-ends r s w v = by_bool (λ c. same_which v w ≡ c → amount_of (booked (id_of (reference a v) t.notes) (ended (id_of (reference a w) t.notes) t.ledger.bookings)) ≡ cond c none (amount_of (booked (id_of (reference a v) t.notes) t.ledger.bookings))) (same_which v w)
      (λ _ e. ap amount_of (subst (λ u. booked (id_of (reference a u) t.notes) (ended (id_of (reference a w) t.notes) t.ledger.bookings) ≡ none) (sym (same-which-true v w e)) (booked-ended (id_of (reference a w) t.notes) t.ledger.bookings)))
      (λ _ e. ap amount_of (others-stay w (reference a v) (λ q. true-false (same-which-self v) (ap (λ k. same_which v k.which) q ∙ e)))) refl

  -- the airline's own part after its plan
  pub own-enact : (p : Plan) → own_part a (enact t a p) ≡ own_after (own_part a t) p
  unfolding own_part own_after enact booking_of
  own-enact (stays r) = refl
  own-enact (writes r s) = own-path (seat_in-seated a s t.ledger.places) (λ w. refl) refl
  own-enact (loses r) = refl
  own-enact (books remaining s cost) = own-path (seat_in-seated a s t.ledger.places) (live-books remaining s cost) (own-grants t a)
  own-enact (ends r s w) = own-path (seat_in-seated a s t.ledger.places) (live-ends r s w) refl

  -- another airline's own part
  pub own-other : (b : Name) → same b a ≡ false → (p : Plan) → own_part b (enact t a p) ≡ own_part b t
  unfolding own_part enact booking_of grants_of keep
  own-other b n (stays r) = refl
  own-other b n (writes r s) = own-path (seat_in-seated-other b a s t.ledger.places n) (λ w. refl) refl
  own-other b n (loses r) = refl
  own-other b n (books remaining s cost) = own-path (seat_in-seated-other b a s t.ledger.places n)
      (λ w. rw (id-of-more (reference b w) (new_note t a) t.notes, n) (ap amount_of (still-found cost (reference b w)))) (rw n)
  own-other b n (ends r s w) = own-path (seat_in-seated-other b a s t.ledger.places n)
      (λ v. ap amount_of (others-stay w (reference b v) (λ e. same_false b a n (ap (λ k. k.airline) e)))) refl
