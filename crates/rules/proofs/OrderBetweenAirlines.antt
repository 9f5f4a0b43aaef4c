-- Demand 3: the order between airlines does not matter. What an airline is answered, what becomes of its own part and how many ids it draws depend on
-- its own operations alone (OwnRuns), and these are the same in both orders. Places in which every name has the same seat are equal (SameTables), so
-- are bookings that answer to each other (Counterparts), and ids drawn airline by airline add up to one next id (ByAirline).
use mathlib.Core.Path.{◌≡◌, sym, ◌∙◌, ap, subst}
use mathlib.Core.Bool.{false}
use Prim.Native.Nat.{ℕ, ◌+◌}
use Rattle.rules.specs.Lists.{sum, All}
use Rattle.rules.specs.RoomAndSoundLedger.{Name, Ledger, Sound}
use Rattle.rules.specs.AccountRules.{AccountOperation}
use Rattle.rules.specs.Domain.{AccountOperationFits}
use Rattle.rules.specs.OrderBetweenAirlines.{Reference, Run, airline_of, Stage, start, after, own_operations, KeepsOwnOrder, run_meets, paired, Agree}
use Rattle.rules.proofs.Lists.{all_keep}
use Rattle.rules.proofs.ByAirline.{same_sum, all-by-airline}
use Rattle.rules.proofs.SameTables.{same-places}
use Rattle.rules.proofs.Plans.{own_part}
use Rattle.rules.proofs.Stages.{Orderly, orderly-start}
use Rattle.rules.proofs.OwnRuns.{planned_part, planned_answers, planned_draws, draws_of, draws_by, fixed_part, RunFits, ByOwn, by-own, Reaches, reaches}
use Rattle.rules.proofs.Counterparts.{same-paired}

same-ledger : (K L : Ledger) → fixed_part K ≡ fixed_part L → K.next_id ≡ L.next_id → K.places ≡ L.places → K.bookings ≡ L.bookings → K ≡ L
same-ledger K L f n p b = λ i. record { T = (f i).T; R = (f i).R; next_id = n i; last_version = (f i).last_version; baseline = (f i).baseline; places = p i; bookings = b i }

fits-reordered : (xs ys : Run) → KeepsOwnOrder xs ys → RunFits xs → RunFits ys
unfolding own_operations
fits-reordered xs ys order fits = all-by-airline airline_of AccountOperationFits ys (λ a. subst (All AccountOperationFits) (order a) (all_keep AccountOperationFits _ xs fits))

-- keeping each airline's own order keeps the operations: whatever is counted over them comes to the same
pub same-operations : (count : AccountOperation Reference → ℕ) (xs ys : Run) → KeepsOwnOrder xs ys → sum count xs ≡ sum count ys
unfolding own_operations
same-operations count xs ys order = same_sum airline_of count xs ys order

-- The theorem. It is stronger than asked in one point: no premise says that a settlement names a reservation live at the start or an earlier grant
-- of its airline. One that names no reservation of its airline is answered alike in both orders.
pub order-between-airlines : (L : Ledger) → Sound L → (xs ys : Run) → All AccountOperationFits xs → KeepsOwnOrder xs ys → run_meets (start L) xs ≡ false → run_meets (start L) ys ≡ false → Agree L xs ys
order-between-airlines L sound xs ys fits order clear clear' = record {
  answers = λ a. (own a).answers ∙ ap (planned_answers (own_part a (start L))) (order a) ∙ sym (own' a).answers;
  ledger = same-ledger (paired one other) other.ledger fixed next places bookings;
}
  where
    one : Stage
    one = after (start L) xs

    other : Stage
    other = after (start L) ys

    orderly : Orderly (start L)
    orderly = orderly-start L sound

    fits' : RunFits ys
    fits' = fits-reordered xs ys order fits

    own : (a : Name) → ByOwn a (start L) xs (own_operations a xs)
    own a = by-own a xs (start L) orderly fits clear

    own' : (a : Name) → ByOwn a (start L) ys (own_operations a ys)
    own' a = by-own a ys (start L) orderly fits' clear'

    end : Reaches (start L) one xs
    end = reaches xs (start L) orderly fits clear

    end' : Reaches (start L) other ys
    end' = reaches ys (start L) orderly fits' clear'

    parts : (a : Name) → own_part a one ≡ own_part a other
    parts a = (own a).part ∙ ap (planned_part (own_part a (start L))) (order a) ∙ sym (own' a).part

    draws : (a : Name) → draws_by a (draws_of (start L) xs) ≡ draws_by a (draws_of (start L) ys)
    draws a = (own a).draws ∙ ap (planned_draws (own_part a (start L))) (order a) ∙ sym (own' a).draws

    fixed : fixed_part (paired one other) ≡ fixed_part other.ledger
    fixed = unfold paired in end.fixed ∙ sym end'.fixed

    next : (paired one other).next_id ≡ other.ledger.next_id
    next = unfold paired draws_by in end.next ∙ ap (λ n. n + (start L).ledger.next_id) (same_sum (λ d. d.airline) (λ d. d.count) (draws_of (start L) xs) (draws_of (start L) ys) draws) ∙ sym end'.next

    places : (paired one other).places ≡ other.ledger.places
    places = unfold paired own_part in same-places one.ledger.places other.ledger.places end.orderly.sound.names_ascend end'.orderly.sound.names_ascend
        end.orderly.sound.places_held end'.orderly.sound.places_held (λ a. ap (λ o. o.seat) (parts a))

    bookings : (paired one other).bookings ≡ other.ledger.bookings
    bookings = unfold paired own_part in same-paired one other end.orderly end'.orderly (λ k. ap (λ o. o.live k.which) (parts k.airline))
