-- Two orders of one run, computed: the airlines' messages change places, the ids granted differ, and the answers and the paired ledgers are equal.
-- The premises of the theorem hold of it, so they can be met, and the theorem is applied to it.
use mathlib.Core.Path.{◌≡◌, refl, sym, ◌∙◌, subst}
use mathlib.Core.Logic.{◌⊎◌, inl, inr}
use mathlib.Core.Bool.{false}
use mathlib.Core.List.{List, [], ◌∷◌}
use Prim.Native.Nat.{ℕ}
use native.Mathlib.Omega.{arith}
use lib.IntN.{pos}
use Rattle.rules.specs.Lists.{first, any, keep, All}
use Rattle.rules.specs.RoomAndSoundLedger.{M, Name, order, same, seat, place, Booking, Ledger, holds_place, seat_in, Sound, fresh}
use Rattle.rules.specs.AnswerNumbers.{Amount, Identifier, done, Insufficient, reply_of}
use Rattle.rules.specs.AccountRules.{account, ensure_rule, limit_rule, reserve_rule, commit_rule, release_rule, read_rule, read_reserved_rule, put, seated, booked, ended, done_with, perform, settle, ensure, limit, reserve, commit, release, read_remaining, read_reserved, on_name, on_booking, operate}
use Rattle.rules.specs.Domain.{IsBytes, AccountOperationFits}
use Rattle.rules.specs.OrderBetweenAirlines.{live_at_start, grant, reference, Run, airline_of, same_which, id_of, reference_of, grants_of, start, outcome_at, identifier_in, granted_id, onward, after, without_ids, AirlineAnswer, answer_to, answers_of, own_operations, own_answers, KeepsOwnOrder, meets_end_of_ids, meets, run_meets, paired_id, insert_by_id, in_id_order, paired, Agree}
use Rattle.rules.proofs.Names.{same_or_not}
use Rattle.rules.proofs.Soundness.{operate-sound}
use Rattle.rules.proofs.SnapshotSoundness.{fresh-sound}
use Rattle.rules.proofs.OrderBetweenAirlines.{order-between-airlines}

abbrev A : Name
A = 65 ∷ []

abbrev B : Name
B = 66 ∷ []

-- a ledger where A has prepaid 100, of which 5 are reserved with id 1
desk : Ledger
desk = (operate (operate (fresh 4 4) (ensure A (pos 100))).ledger (reserve A (pos 5))).ledger

-- what the facts below compute with
computes : Unit {0}
unfolding first any keep M order same holds_place seat_in fresh ensure_rule limit_rule reserve_rule commit_rule release_rule read_rule read_reserved_rule put seated booked ended perform settle on_name on_booking operate airline_of same_which id_of grants_of start identifier_in granted_id outcome_at onward desk after without_ids answers_of own_answers meets_end_of_ids meets run_meets reference_of paired_id insert_by_id in_id_order paired
computes = tt

-- A reserves 10 and then 500, which it has not, and B comes between
abbrev evening : Run
evening =
    reserve A (pos 10)
    ∷ reserve A (pos 500)
    ∷ ensure B (pos 90)
    ∷ reserve B (pos 70)
    ∷ limit A (pos 60)
    ∷ reserve A (pos 7)
    ∷ commit (reference A (grant 1)) (pos 4)
    ∷ commit (reference B (grant 1)) (pos 60)
    ∷ reserve B (pos 20)
    ∷ release (reference A (live_at_start 1))
    ∷ read_remaining A
    ∷ read_reserved B
    ∷ []

abbrev rebalanced : Run
rebalanced =
    ensure B (pos 90)
    ∷ reserve A (pos 10)
    ∷ reserve A (pos 500)
    ∷ limit A (pos 60)
    ∷ reserve B (pos 70)
    ∷ commit (reference B (grant 1)) (pos 60)
    ∷ reserve B (pos 20)
    ∷ reserve A (pos 7)
    ∷ commit (reference A (grant 1)) (pos 4)
    ∷ release (reference A (live_at_start 1))
    ∷ read_reserved B
    ∷ read_remaining A
    ∷ []

abbrev booking : ℕ → Name → ℕ → Booking
booking i a n = record { id = i; name = a; amount = n }

-- what both orders come to: A has 89 of its 100 left, B 10 of its 90
abbrev comes_to : List Booking → Ledger
comes_to bs = record {
  T = 4;
  R = 4;
  next_id = 7;
  last_version = 0;
  baseline = 0;
  places = place A (seat (account 100 89 7 4) 60) ∷ place B (seat (account 90 10 20 60) 0) ∷ [];
  bookings = bs;
}

-- the ids: A's second grant has 5 in the one order and 6 in the other, B's the other way round, and each order's bookings stand in id order
evening-ledger : (after (start desk) evening).ledger ≡ comes_to (booking 5 A 7 ∷ booking 6 B 20 ∷ [])
unfolding computes
evening-ledger = refl

rebalanced-ledger : (after (start desk) rebalanced).ledger ≡ comes_to (booking 5 B 20 ∷ booking 6 A 7 ∷ [])
unfolding computes
rebalanced-ledger = refl

-- under the other order's ids, and in id order again, the one ledger is the other
paired-ledger : paired (after (start desk) evening) (after (start desk) rebalanced) ≡ comes_to (booking 5 B 20 ∷ booking 6 A 7 ∷ [])
unfolding computes
paired-ledger = refl

paired-ledgers : paired (after (start desk) evening) (after (start desk) rebalanced) ≡ (after (start desk) rebalanced).ledger
paired-ledgers = paired-ledger ∙ sym rebalanced-ledger

-- the answers, their ids hidden
abbrev to_a : List AirlineAnswer
to_a =
    answer_to A (done (Amount (pos 85) ∷ Identifier 0 ∷ []))
    ∷ answer_to A (reply_of (Insufficient (pos 85) (pos 500)))
    ∷ answer_to A (done [])
    ∷ answer_to A (done (Amount (pos 78) ∷ Identifier 0 ∷ []))
    ∷ answer_to A (done_with (pos 84 ∷ pos 4 ∷ []))
    ∷ answer_to A (done_with (pos 89 ∷ pos 5 ∷ []))
    ∷ answer_to A (done_with (pos 89 ∷ []))
    ∷ []

abbrev to_b : List AirlineAnswer
to_b =
    answer_to B (done [])
    ∷ answer_to B (done (Amount (pos 20) ∷ Identifier 0 ∷ []))
    ∷ answer_to B (done_with (pos 30 ∷ pos 60 ∷ []))
    ∷ answer_to B (done (Amount (pos 10) ∷ Identifier 0 ∷ []))
    ∷ answer_to B (done_with (pos 20 ∷ []))
    ∷ []

evening-to-A : own_answers A (answers_of (start desk) evening) ≡ to_a
unfolding computes
evening-to-A = refl

rebalanced-to-A : own_answers A (answers_of (start desk) rebalanced) ≡ to_a
unfolding computes
rebalanced-to-A = refl

evening-to-B : own_answers B (answers_of (start desk) evening) ≡ to_b
unfolding computes
evening-to-B = refl

rebalanced-to-B : own_answers B (answers_of (start desk) rebalanced) ≡ to_b
unfolding computes
rebalanced-to-B = refl

-- ── the theorem's premises hold of them ────────────────────────────────────────────────────────

A-is-bytes : IsBytes A
A-is-bytes = (omega arith, tt)

B-is-bytes : IsBytes B
B-is-bytes = (omega arith, tt)

desk-sound : Sound desk
unfolding desk M
desk-sound = operate-sound _ prepaid (reserve A (pos 5)) (A-is-bytes, refl)
  where
    prepaid : Sound (operate (fresh 4 4) (ensure A (pos 100))).ledger
    prepaid = operate-sound _ (fresh-sound 4 4 (omega arith, omega arith) (omega arith, omega arith)) (ensure A (pos 100)) (A-is-bytes, refl)

evening-fits : All AccountOperationFits evening
unfolding M
evening-fits =
    let a = A-is-bytes in
    let b = B-is-bytes in
    ((a, refl), ((a, refl), ((b, refl), ((b, refl), ((a, refl), ((a, refl), (refl, (refl, ((b, refl), (tt, (a, (b, tt))))))))))))

evening-meets-none : run_meets (start desk) evening ≡ false
unfolding computes
evening-meets-none = refl

rebalanced-meets-none : run_meets (start desk) rebalanced ≡ false
unfolding computes
rebalanced-meets-none = refl

keeps-own-order : KeepsOwnOrder evening rebalanced
unfolding own_operations keep airline_of order same
keeps-own-order a = go (same_or_not a A) (same_or_not a B)
  where
    go : (a ≡ A) ⊎ (same a A ≡ false) → (a ≡ B) ⊎ (same a B ≡ false) → own_operations a evening ≡ own_operations a rebalanced
    go (inl p) q = subst (λ b. own_operations b evening ≡ own_operations b rebalanced) (sym p) refl
    go (inr p) (inl q) = subst (λ b. own_operations b evening ≡ own_operations b rebalanced) (sym q) refl
    go (inr p) (inr q) = rw (p, q)

-- ── and so the theorem's claim ─────────────────────────────────────────────────────────────────

evening-agrees : Agree desk evening rebalanced
evening-agrees = order-between-airlines desk desk-sound evening rebalanced evening-fits keeps-own-order evening-meets-none rebalanced-meets-none
