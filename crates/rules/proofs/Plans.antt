-- The first half of the road: what an operation does, and answers, is a plan made from its airline's own part of the stage alone (its seat, the
-- amounts of its live reservations by reference, its number of grants), as long as the operation meets none of 20, 21 and the end of the ids.
-- A plan knows no id: the one that it draws, and the one that it ends, are read off the stage where it is enacted. A move or a settlement enacts its
-- plan case by case, and only a rule that would draw an id asks how far the ids are (`asks-last`).
use mathlib.Core.Path.{◌≡◌, refl, sym, ◌∙◌, ap, subst}
use mathlib.Core.Bool.{Bool, true, false, cond, ◌&&◌, ◌||◌}
use mathlib.Core.List.{List, [], ◌∷◌, ◌++◌}
use mathlib.Core.Option.{Option, none, some}
use Prim.Native.Nat.{ℕ, zero, suc, ◌+◌}
use lib.Dec.{ltb}
use lib.IntN.{ℤ, pos, negsuc}
use lib.ListN.{length}
use Rattle.rules.specs.RoomAndSoundLedger.{M, Name, Account, Seat, Booking, Ledger, with_places, with_bookings, seat_in}
use Rattle.rules.specs.AnswerNumbers.{Value, Amount, Identifier, Reply, done, Refusal, MissingReservation, NameTooLong, NamesFull, ReservationsFull, reply_of, Outcome}
use Rattle.rules.specs.AccountRules.{Move, refuse, tell, write, lose, book, Settlement, leave, end, reserve_rule, seated, has_room, booked, ended, drawn, done_with, perform, settle, AccountOperation, ensure, top_up, limit, reserve, commit, release, read_remaining, read_initial, read_committed, read_reserved, Rule, for_name, for_reservation, rule_of, is_too_long, named, on_name, on_booking, next_id_is_m, apply}
use Rattle.rules.specs.OrderBetweenAirlines.{Which, grant, Reference, reference, airline_by, airline_of, Note, note, id_of, grants_of, Stage, stage, with_id_from, outcome_at, identifier_in, granted_id, with_grant, is_answer, draws, would_draw, meets_end_of_ids, meets}
use Rattle.rules.proofs.Tests.{by-test, by_bool, true-false, or-false}
use Rattle.rules.proofs.Bookings.{booked-id}
use Rattle.rules.proofs.Refusals.{refusal-grants-nothing}

-- ── an airline's own part of a stage ───────────────────────────────────────────────────────────

pub record OwnPart : Type 0 where
  pub seat : Seat
  pub live : Which → Option ℕ
  pub grants : ℕ

abbrev pub amount_of : Option Booking → Option ℕ
amount_of none = none
amount_of (some b) = some b.amount

-- the live reservation of a reference
unfoldable pub booking_of : Reference → Stage → Option Booking
booking_of k t = booked (id_of k t.notes) t.ledger.bookings

unfoldable pub own_part : Name → Stage → OwnPart
own_part a t = record { seat = seat_in a t.ledger.places; live = λ w. amount_of (booking_of (reference a w) t); grants = grants_of a t.notes }

pub own-path : {o p : OwnPart} → o.seat ≡ p.seat → ((w : Which) → o.live w ≡ p.live w) → o.grants ≡ p.grants → o ≡ p
own-path s l g = λ i. record { seat = s i; live = λ w. l w i; grants = g i }

-- ── a plan, and its making ─────────────────────────────────────────────────────────────────────

pub data Plan : Type 0 where
  stays : Reply → Plan
  writes : Reply → Seat → Plan
  loses : Reply → Plan
  books : (remaining : ℕ) → Seat → (cost : ℕ) → Plan
  ends : Reply → Seat → Which → Plan

abbrev pub of_move : Move → Plan
of_move (refuse e) = stays (reply_of e)
of_move (tell zs) = stays (done_with zs)
of_move (write zs s) = writes (done_with zs) s
of_move (lose e) = loses (reply_of e)
of_move (book remaining s cost) = books remaining s cost

abbrev pub of_settlement : Which → Option ℕ → Settlement → Plan
of_settlement w live (leave e) = stays (reply_of e)
of_settlement w none (end zs s) = stays (reply_of MissingReservation)
of_settlement w (some amount) (end zs s) = ends (done_with zs) s w

-- what a rule decides for a reservation, from the amount that is live and its airline's seat
abbrev pub decided : Option ℕ → (Option ℕ → Option Account → ℕ → Settlement) → Seat → Settlement
decided none rule s = rule none none 0
decided (some amount) rule s = rule (some amount) s.account s.limit

abbrev pub plan_by : Rule Reference → OwnPart → Plan
plan_by (for_name a rule) o = of_move (named a (rule false o.seat.account o.seat.limit))
plan_by (for_reservation k rule) o = of_settlement k.which (o.live k.which) (decided (o.live k.which) rule o.seat)

unfoldable pub plan_of : AccountOperation Reference → OwnPart → Plan
plan_of x o = plan_by (rule_of x) o

-- ── a plan enacted at a stage ──────────────────────────────────────────────────────────────────

-- the reservation that a grant adds, and the note of it
abbrev pub new_booking : Stage → Name → ℕ → Booking
new_booking t a cost = record { id = t.ledger.next_id; name = a; amount = cost }

abbrev pub new_note : Stage → Name → Note
new_note t a = note (reference a (grant (suc (grants_of a t.notes)))) t.ledger.next_id

unfoldable pub enact : Stage → Name → Plan → Stage
enact t a (stays r) = t
enact t a (writes r s) = stage (with_places t.ledger (seated a s t.ledger.places)) t.notes
enact t a (loses r) = stage (drawn t.ledger) t.notes
enact t a (books remaining s cost) = stage
    (with_bookings (with_places (drawn t.ledger) (seated a s t.ledger.places)) (t.ledger.bookings ++ new_booking t a cost ∷ []))
    (new_note t a ∷ t.notes)
enact t a (ends r s w) = stage
    (with_bookings (with_places t.ledger (seated a s t.ledger.places)) (ended (id_of (reference a w) t.notes) t.ledger.bookings))
    t.notes

-- what a plan answers where the next id is i
unfoldable pub says : (i : ℕ) → Plan → Reply
says i (stays r) = r
says i (writes r s) = r
says i (loses r) = r
says i (books remaining s cost) = done (Amount (pos remaining) ∷ Identifier i ∷ [])
says i (ends r s w) = r

-- an outcome is what the plan says and enacts
pub record Enacts (t : Stage) (a : Name) (o : Outcome) (p : Plan) : Type 0 where
  pub reply : o.reply ≡ says t.ledger.next_id p
  pub stage : stage o.ledger (with_grant a t.notes (granted_id o.reply.carried)) ≡ enact t a p

-- ── every operation enacts its plan ────────────────────────────────────────────────────────────

amounts-grant-nothing : (zs : List ℤ) → granted_id (done_with zs).carried ≡ none
unfolding granted_id identifier_in
amounts-grant-nothing [] = refl
amounts-grant-nothing (z ∷ zs) = amounts-grant-nothing zs

-- an answer that grants nothing leaves the notes
unnoted : (a : Name) (ns : List Note) (L : Ledger) (vs : List Value) → granted_id vs ≡ none → stage L (with_grant a ns (granted_id vs)) ≡ stage L ns
unnoted a ns L vs e = ap (λ g. stage L (with_grant a ns g)) e

performs : (t : Stage) (a : Name) (m : Move) → is_answer NamesFull (perform t.ledger a m) ≡ false → is_answer ReservationsFull (perform t.ledger a m) ≡ false
    → Enacts t a (perform t.ledger a m) (of_move m)
unfolding perform says enact
performs t a (refuse e) h k = record { reply = refl; stage = unnoted a t.notes _ _ (refusal-grants-nothing e) }
performs t a (tell zs) h k = record { reply = refl; stage = unnoted a t.notes _ _ (amounts-grant-nothing zs) }
performs t a (write zs s) h k = by-test (λ (o : Outcome). is_answer NamesFull o ≡ false → Enacts t a o (writes (done_with zs) s)) (has_room a s t.ledger)
    (λ _ f. record { reply = refl; stage = unnoted a t.notes _ _ (amounts-grant-nothing zs) }) (λ _ f. true-false refl f) h
performs t a (lose e) h k = record { reply = refl; stage = unnoted a t.notes _ _ (refusal-grants-nothing e) }
performs t a (book remaining s cost) h k = by-test (λ (o : Outcome). is_answer ReservationsFull o ≡ false → Enacts t a o (books remaining s cost)) (ltb (length t.ledger.bookings) t.ledger.R)
    (λ _ f. record { reply = refl; stage = unfold granted_id identifier_in in refl }) (λ _ f. true-false refl f) k

-- a settlement of a reference whose reservation is its airline's
settles : (t : Stage) (k : Reference) (rule : Option ℕ → Option Account → ℕ → Settlement) → ((b : Booking) → booking_of k t ≡ some b → b.name ≡ k.airline)
    → Enacts t k.airline (on_booking t.ledger (booking_of k t) rule) (plan_by (for_reservation k rule) (own_part k.airline t))
unfolding booking_of settle says enact on_booking own_part
settles t k rule mine = go (booking_of k t) refl
  where
    own : Seat
    own = seat_in k.airline t.ledger.places

    decides-none : (x : Settlement) → Enacts t k.airline (settle t.ledger none x) (of_settlement k.which none x)
    decides-none (leave e) = record { reply = refl; stage = unnoted k.airline t.notes _ _ (refusal-grants-nothing e) }
    decides-none (end zs s) = record { reply = refl; stage = unnoted k.airline t.notes _ _ (refusal-grants-nothing MissingReservation) }

    decides : (b : Booking) → b.name ≡ k.airline → b.id ≡ id_of k t.notes → (x : Settlement) → Enacts t k.airline (settle t.ledger (some b) x) (of_settlement k.which (some b.amount) x)
    decides b p q (leave e) = record { reply = refl; stage = unnoted k.airline t.notes _ _ (refusal-grants-nothing e) }
    decides b p q (end zs s) = record {
      reply = refl;
      stage = unnoted k.airline t.notes _ _ (amounts-grant-nothing zs)
          ∙ (λ i. stage (with_bookings (with_places t.ledger (seated (p i) s t.ledger.places)) (ended (q i) t.ledger.bookings)) t.notes);
    }

    go : (o : Option Booking) → booking_of k t ≡ o → Enacts t k.airline (on_booking t.ledger o rule) (of_settlement k.which (amount_of o) (decided (amount_of o) rule own))
    go none e = decides-none (rule none none 0)
    go (some b) e =
        let p : b.name ≡ k.airline = mine b e in
        let x : Settlement = rule (some b.amount) own.account own.limit in
        subst (λ a. Enacts t k.airline (settle t.ledger (some b) (rule (some b.amount) (seat_in a t.ledger.places).account (seat_in a t.ledger.places).limit)) (of_settlement k.which (some b.amount) x))
        (sym p)
        (decides b p (booked-id (id_of k t.notes) t.ledger.bookings b e) x)

-- where an operation does not meet the end of the ids, it does not see how far they are: only a rule that would draw an id asks for it
abbrev AsksLast : Rule Reference → Type 0
AsksLast (for_name a rule) = (last : Bool) (c : Option Account) (l : ℕ) → draws (rule false c l) && last ≡ false → rule last c l ≡ rule false c l
AsksLast (for_reservation k rule) = Unit {0}

-- a check before the one of the next id
past-check : (b : Bool) (r x y : Move) → (draws y && true ≡ false → x ≡ y) → draws (cond b r y) && true ≡ false → cond b r x ≡ cond b r y
past-check true r x y f h = refl
past-check false r x y f h = f h

drawn-anyway : {A : Type 0} (b : Bool) (e : Refusal) (remaining : ℕ) (s : Seat) (cost : ℕ) → draws (cond b (lose e) (book remaining s cost)) && true ≡ false → A
drawn-anyway true e remaining s cost h = true-false refl h
drawn-anyway false e remaining s cost h = true-false refl h

reserve-asks : (z : ℤ) (last : Bool) (c : Option Account) (l : ℕ) → draws (reserve_rule z false c l) && last ≡ false → reserve_rule z last c l ≡ reserve_rule z false c l
unfolding reserve_rule
reserve-asks z false c l h = refl
reserve-asks (negsuc n) true c l h = refl
reserve-asks (pos zero) true c l h = refl
reserve-asks (pos (suc n)) true none l h = refl
reserve-asks (pos (suc n)) true (some c) l h = past-check (ltb M (c.reserved + suc n)) _ _ _ (past-check (ltb 0 l && ltb l (c.reserved + suc n)) _ _ _ (drawn-anyway (ltb c.remaining (suc n)) _ _ _ _)) h

asks-last : (x : AccountOperation Reference) → AsksLast (rule_of x)
asks-last (ensure a z) = λ last c l h. refl
asks-last (top_up a z) = λ last c l h. refl
asks-last (limit a z) = λ last c l h. refl
asks-last (reserve a z) = reserve-asks z
asks-last (commit k z) = tt
asks-last (release k) = tt
asks-last (read_remaining a) = λ last c l h. refl
asks-last (read_initial a) = λ last c l h. refl
asks-last (read_committed a) = λ last c l h. refl
asks-last (read_reserved a) = λ last c l h. refl

before-the-end : (a : Name) (last : Bool) (m n : Move) → (draws n && last ≡ false → m ≡ n) → draws (named a n) && last ≡ false → named a m ≡ named a n
before-the-end a last m n f = by_bool (λ b. draws (cond b (refuse NameTooLong) n) && last ≡ false → cond b (refuse NameTooLong) m ≡ cond b (refuse NameTooLong) n) (is_too_long a) (λ _ h. refl) (λ _ h. f h)

-- the three that an operation does not meet
pub record MeetsNone (t : Stage) (x : AccountOperation Reference) : Type 0 where
  pub names_full : is_answer NamesFull (outcome_at t x) ≡ false
  pub reservations_full : is_answer ReservationsFull (outcome_at t x) ≡ false
  pub end_of_ids : meets_end_of_ids t.ledger x ≡ false

pub meets-none : (t : Stage) (x : AccountOperation Reference) → meets t x ≡ false → MeetsNone t x
unfolding meets
meets-none t x h =
    let (p, q) = or-false (is_answer NamesFull (outcome_at t x) || is_answer ReservationsFull (outcome_at t x)) (meets_end_of_ids t.ledger x) h in
    let (r, s) = or-false (is_answer NamesFull (outcome_at t x)) (is_answer ReservationsFull (outcome_at t x)) p in
    record { names_full = r; reservations_full = s; end_of_ids = q }

module _ (t : Stage) (mine : (k : Reference) (b : Booking) → booking_of k t ≡ some b → b.name ≡ k.airline) where
  enacts-rule : (r : Rule Reference) → AsksLast r → let o = apply t.ledger (with_id_from t.notes r) in
      is_answer NamesFull o ≡ false → is_answer ReservationsFull o ≡ false → would_draw t.ledger r && next_id_is_m t.ledger ≡ false → Enacts t (airline_by r) o (plan_by r (own_part (airline_by r) t))
  unfolding on_name own_part booking_of
  enacts-rule (for_name a rule) asks names reservations ids =
      let s : Seat = seat_in a t.ledger.places in
      let last : Bool = next_id_is_m t.ledger in
      subst (λ m. Enacts t a (perform t.ledger a (named a (rule last s.account s.limit))) (of_move m))
      (before-the-end a last (rule last s.account s.limit) (rule false s.account s.limit) (asks last s.account s.limit) ids)
      (performs t a _ names reservations)
  enacts-rule (for_reservation k rule) asks names reservations ids = settles t k rule (mine k)

  pub enacts-its-plan : (x : AccountOperation Reference) → MeetsNone t x → Enacts t (airline_of x) (outcome_at t x) (plan_of x (own_part (airline_of x) t))
  unfolding outcome_at airline_of plan_of meets_end_of_ids
  enacts-its-plan x m = enacts-rule (rule_of x) (asks-last x) m.names_full m.reservations_full m.end_of_ids
