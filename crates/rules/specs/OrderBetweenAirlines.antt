-- Demand 3, the order between airlines; document 01 settles its terms in the paragraph that ends its account rules.
-- A run is a list of account operations, made one after the other from a sound ledger. Another order of the same operations keeps the order within each
-- airline. Ids differ between two orders, so a settlement names its reservation by the id that it had at the start, or by its airline and the number of its
-- grant within the run. Where neither order comes to 20, to 21 or to the end of the ids, each airline gets the same answers in both, the ids granted apart,
-- and the ledgers at the end are the same, once each id of the one is replaced by the other's for the same reservation and the reservations are sorted anew.
use Rattle.std.specs.Prelude.{◌≡◌, Bool, true, false, cond, ◌&&◌, ◌||◌, List, [], ◌∷◌, map, ℕ, suc, ltb, eqb, length}
use Rattle.std.proofs.Math.Option
use Rattle.std.proofs.Math.Option.{Option, none, some, get_or}
use Rattle.rules.specs.Lists.{first, keep}
use Rattle.rules.specs.RoomAndSoundLedger.{Name, same, Seat, Booking, Ledger, with_bookings, seat_in}
use Rattle.rules.specs.AnswerNumbers.{Value, Amount, Identifier, Version, Fence, Count, Field, YesOrNo, TheName, SnapshotBytes, Reply, reply, Refusal, NamesFull, ReservationsFull, reply_of, Outcome}
use Rattle.rules.specs.AccountRules.{Move, refuse, tell, write, lose, book, booked, AccountOperation, Rule, for_name, for_reservation, rule_of, named, next_id_is_m, apply}

-- ── a run and the reservations that it names ───────────────────────────────────────────────────

-- a reservation live at the start, by its id, or a grant of the run, the airline's first being number 1
pub data Which : Type 0 where
  live_at_start : (id : ℕ) → Which
  grant : (number : ℕ) → Which

pub record Reference : Type 0 where
  pub airline : Name
  pub which : Which

abbrev pub reference : Name → Which → Reference
reference a w = record { airline = a; which = w }

abbrev pub Run : Type 0
Run = List (AccountOperation Reference)

-- a settlement is its reservation's airline's
abbrev pub airline_by : Rule Reference → Name
airline_by (for_name a rule) = a
airline_by (for_reservation k rule) = k.airline

unfoldable pub airline_of : AccountOperation Reference → Name
airline_of x = airline_by (rule_of x)

-- ── which id stands for which reservation ──────────────────────────────────────────────────────

pub record Note : Type 0 where
  pub reference : Reference
  pub id : ℕ

abbrev pub note : Reference → ℕ → Note
note k i = record { reference = k; id = i }

unfoldable pub same_which : Which → Which → Bool
same_which (live_at_start m) (live_at_start n) = eqb m n
same_which (live_at_start m) (grant n) = false
same_which (grant m) (live_at_start n) = false
same_which (grant m) (grant n) = eqb m n

abbrev pub same_reference : Reference → Reference → Bool
same_reference j k = same j.airline k.airline && same_which j.which k.which

abbrev pub is_note_of : Reference → Note → Bool
is_note_of k n = same_reference k n.reference

abbrev pub is_note_for : ℕ → Note → Bool
is_note_for i n = eqb i n.id

-- 0, which is no reservation's id, where the run knows no such reservation
unfoldable pub id_of : Reference → List Note → ℕ
id_of k ns = get_or (Option.map (λ n. n.id) (first (is_note_of k) ns)) 0

unfoldable pub reference_of : ℕ → List Note → Option Reference
reference_of i ns = Option.map (λ n. n.reference) (first (is_note_for i) ns)

abbrev pub is_grant : Which → Bool
is_grant (live_at_start id) = false
is_grant (grant number) = true

abbrev pub is_grant_of : Name → Note → Bool
is_grant_of a n = same a n.reference.airline && is_grant n.reference.which

-- how many grants an airline has had in the run
unfoldable pub grants_of : Name → List Note → ℕ
grants_of a ns = length (keep (is_grant_of a) ns)

-- ── the course of a run ────────────────────────────────────────────────────────────────────────

-- A stage of a run: the ledger, and the reservations that the run can name so far
pub record Stage : Type 0 where
  pub ledger : Ledger
  pub notes : List Note

abbrev pub stage : Ledger → List Note → Stage
stage L ns = record { ledger = L; notes = ns }

abbrev pub note_at_start : Booking → Note
note_at_start b = note (reference b.name (live_at_start b.id)) b.id

unfoldable pub start : Ledger → Stage
start L = stage L (map note_at_start L.bookings)

-- the rule for the id that the reservation has at this stage
abbrev pub with_id_from : List Note → Rule Reference → Rule ℕ
with_id_from ns (for_name a rule) = for_name a rule
with_id_from ns (for_reservation k rule) = for_reservation (id_of k ns) rule

-- what an operation comes to at a stage
unfoldable pub outcome_at : Stage → AccountOperation Reference → Outcome
outcome_at t x = apply t.ledger (with_id_from t.notes (rule_of x))

unfoldable pub identifier_in : Value → Option ℕ
identifier_in (Amount z) = none
identifier_in (Identifier i) = some i
identifier_in (Version n) = none
identifier_in (Fence n) = none
identifier_in (Count n) = none
identifier_in (Field n) = none
identifier_in (YesOrNo b) = none
identifier_in (TheName a) = none
identifier_in (SnapshotBytes bs) = none

abbrev pub or_later : Option ℕ → Option ℕ → Option ℕ
or_later none later = later
or_later (some i) later = some i

-- the id that an answer grants: only a reserve's answer carries one
unfoldable pub granted_id : List Value → Option ℕ
granted_id [] = none
granted_id (v ∷ vs) = or_later (identifier_in v) (granted_id vs)

abbrev pub with_grant : Name → List Note → Option ℕ → List Note
with_grant a ns none = ns
with_grant a ns (some i) = note (reference a (grant (suc (grants_of a ns)))) i ∷ ns

unfoldable pub onward : Stage → AccountOperation Reference → Stage
onward t x =
    let o : Outcome = outcome_at t x in
    stage o.ledger (with_grant (airline_of x) t.notes (granted_id o.reply.carried))

unfoldable pub after : Stage → Run → Stage
after t [] = t
after t (x ∷ xs) = after (onward t x) xs

-- ── the answers, the ids granted apart ─────────────────────────────────────────────────────────

abbrev pub hidden : Value → Value
hidden v = get_or (Option.map (λ i. Identifier 0) (identifier_in v)) v

unfoldable pub without_ids : Reply → Reply
without_ids r = reply r.number (map hidden r.carried)

-- an answer of the run, and the airline that it goes to
pub record AirlineAnswer : Type 0 where
  pub airline : Name
  pub reply : Reply

abbrev pub answer_to : Name → Reply → AirlineAnswer
answer_to a r = record { airline = a; reply = r }

unfoldable pub answers_of : Stage → Run → List AirlineAnswer
answers_of t [] = []
answers_of t (x ∷ xs) = answer_to (airline_of x) (without_ids (outcome_at t x).reply) ∷ answers_of (onward t x) xs

-- ── an airline's own operations and answers, in its order ──────────────────────────────────────

unfoldable pub own_operations : Name → Run → Run
own_operations a = keep (λ x. same a (airline_of x))

unfoldable pub own_answers : Name → List AirlineAnswer → List AirlineAnswer
own_answers a = keep (λ r. same a r.airline)

-- Every operation is some airline's own, so the two runs also hold the same operations, each as often
abbrev pub KeepsOwnOrder : Run → Run → Type 0
KeepsOwnOrder xs ys = (a : Name) → own_operations a xs ≡ own_operations a ys

-- ── what a run may not meet: 20, 21, the end of the ids ────────────────────────────────────────

abbrev pub is_answer : Refusal → Outcome → Bool
is_answer e o = eqb o.reply.number (reply_of e).number

abbrev pub draws : Move → Bool
draws (refuse e) = false
draws (tell zs) = false
draws (write zs s) = false
draws (lose e) = true
draws (book remaining s cost) = true

-- The checks of a reserve before the one of next id are passed where it would draw an id, were next id not M
abbrev pub would_draw : Ledger → Rule Reference → Bool
would_draw L (for_name a rule) = let s : Seat = seat_in a L.places in draws (named a (rule false s.account s.limit))
would_draw L (for_reservation k rule) = false

unfoldable pub meets_end_of_ids : Ledger → AccountOperation Reference → Bool
meets_end_of_ids L x = would_draw L (rule_of x) && next_id_is_m L

unfoldable pub meets : Stage → AccountOperation Reference → Bool
meets t x = is_answer NamesFull (outcome_at t x) || is_answer ReservationsFull (outcome_at t x) || meets_end_of_ids t.ledger x

unfoldable pub run_meets : Stage → Run → Bool
run_meets t [] = false
run_meets t (x ∷ xs) = meets t x || run_meets (onward t x) xs

-- ── one run's ledger with the other run's ids ──────────────────────────────────────────────────

-- the id that the other run has for the reservation of this id
unfoldable pub paired_id : (here there : List Note) → ℕ → ℕ
paired_id here there i = get_or (Option.map (λ k. id_of k there) (reference_of i here)) 0

abbrev pub with_paired_id : (here there : List Note) → Booking → Booking
with_paired_id here there b = record { id = paired_id here there b.id; name = b.name; amount = b.amount }

unfoldable pub insert_by_id : Booking → List Booking → List Booking
insert_by_id b [] = b ∷ []
insert_by_id b (c ∷ cs) = cond (ltb b.id c.id) (b ∷ c ∷ cs) (c ∷ insert_by_id b cs)

unfoldable pub in_id_order : List Booking → List Booking
in_id_order [] = []
in_id_order (b ∷ bs) = insert_by_id b (in_id_order bs)

unfoldable pub paired : (here there : Stage) → Ledger
paired here there = with_bookings here.ledger (in_id_order (map (with_paired_id here.notes there.notes) here.ledger.bookings))

-- ── what the theorem claims ────────────────────────────────────────────────────────────────────

pub record Agree (L : Ledger) (xs ys : Run) : Type 0 where
  pub answers : (a : Name) → own_answers a (answers_of (start L) xs) ≡ own_answers a (answers_of (start L) ys)
  pub ledger : paired (after (start L) xs) (after (start L) ys) ≡ (after (start L) ys).ledger

-- ── one operation ──────────────────────────────────────────────────────────────────────────────

-- the airline of an operation on a ledger; a settlement has none where its reservation is not live
abbrev pub airline_on : Ledger → Rule ℕ → Option Name
airline_on L (for_name a rule) = some a
airline_on L (for_reservation i rule) = Option.map (λ b. b.name) (booked i L.bookings)

unfoldable pub belongs_to : Ledger → AccountOperation ℕ → Option Name
belongs_to L x = airline_on L (rule_of x)
