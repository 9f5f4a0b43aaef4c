-- Document 01, section "Account rules, in source order".
-- A rule sees only what its airline has, and decides a move; a few functions then carry any move out on the ledger.
use Rattle.std.specs.Prelude.{Bool, not, cond, ◌&&◌, ◌||◌, List, [], ◌∷◌, ◌++◌, map, ltb, eqb, ℤ, pos, negsuc, ◌-ℤ◌, length}
use Rattle.std.proofs.Math.Option.{Option, none, some}
use Prim.Native.Nat.{ℕ, zero, suc, ◌+◌, ◌-◌, min, Ordering}
use Rattle.std.specs.Int.Signed.{lt_z}
use Rattle.rules.specs.Lists.{first, keep}
use Rattle.rules.specs.RoomAndSoundLedger.{M, longest_name, Name, order, Account, Seat, seat, Place, place, is_vacant, Booking, Ledger, with_next_id, with_places, with_bookings, is_at, holds_place, seat_in, has_account, committed_total}
use Rattle.rules.specs.AnswerNumbers.{Amount, Identifier, Version, Count, Reply, done, Refusal, NegativeAmount, InvalidAmount, MissingTenant, OverflowOfReserve, OverflowOfCommit, OverflowOfTopUp, ExposureLimitExceeded, Insufficient, MissingReservation, Overrun, AggregateOverflow, NameTooLong, NamesFull, ReservationsFull, reply_of, Outcome, outcome, refused}

-- What a rule decides for a name. `tell`: done, with these amounts, and nothing changes. `write`: done, and the seat is now this one.
-- `lose`: refused, but an id is drawn. `book`: the id drawn is granted for this cost; carries remaining and the id
pub data Move : Type 0 where
  refuse : Refusal → Move
  tell : List ℤ → Move
  write : List ℤ → Seat → Move
  lose : Refusal → Move
  book : (remaining : ℕ) → Seat → (cost : ℕ) → Move

-- What a rule decides for a reservation: it stays, or it ends and its airline's seat is now this one
pub data Settlement : Type 0 where
  leave : Refusal → Settlement
  end : List ℤ → Seat → Settlement

abbrev pub account : (initial remaining reserved committed : ℕ) → Option Account
account i r v c = some (record { initial = i; remaining = r; reserved = v; committed = c })

-- a signed number that is at least 0
abbrev pub natural : ℤ → ℕ
natural (pos n) = n
natural (negsuc n) = 0

-- ── the six rules and the reads ────────────────────────────────────────────────────────────────

-- Each rule sees its airline's account, if there is one, and its limit. Its lines stand in the order of its sentence in the paper.

-- Ensure: 1 below 0; an account that is there stays as it is; else one is opened that holds the amount
unfoldable pub ensure_rule : ℤ → Option Account → ℕ → Move
ensure_rule (negsuc n) c l = refuse (NegativeAmount (negsuc n))
ensure_rule (pos n) (some c) l = tell []
ensure_rule (pos n) none l = write [] (seat (account n n 0 0) l)

-- Top-up: 2 unless positive; 3; 4 where initial would pass M; else initial and remaining grow. Carries the amount and both
unfoldable pub top_up_rule : ℤ → Option Account → ℕ → Move
top_up_rule (negsuc n) c l = refuse InvalidAmount
top_up_rule (pos zero) c l = refuse InvalidAmount
top_up_rule (pos (suc n)) none l = refuse MissingTenant
top_up_rule (pos (suc n)) (some c) l =
    let initial : ℕ = c.initial + suc n in
    let remaining : ℕ = c.remaining + suc n in
    cond (ltb M initial) (refuse OverflowOfTopUp)
    (write (pos (suc n) ∷ pos initial ∷ pos remaining ∷ []) (seat (account initial remaining c.reserved c.committed) l))

-- Limit: 1 below 0; 0 takes it away, anything else sets it
unfoldable pub limit_rule : ℤ → Option Account → ℕ → Move
limit_rule (negsuc n) c l = refuse (NegativeAmount (negsuc n))
limit_rule (pos n) c l = write [] (seat c n)

-- Reserve: 6 unless the cost is positive, without an account too; 3; 4 where reserved would pass M; 5 where it would pass a limit that is set;
-- 4 with the ids at their end; 6 where remaining is less, and an id is drawn; else it is booked. 21 is asked last, by `perform`
unfoldable pub reserve_rule : ℤ → (next_id_is_m : Bool) → Option Account → ℕ → Move
reserve_rule (negsuc n) next_id_is_m c l = refuse (Insufficient (pos 0) (negsuc n))
reserve_rule (pos zero) next_id_is_m c l = refuse (Insufficient (pos 0) (pos zero))
reserve_rule (pos (suc n)) next_id_is_m none l = refuse MissingTenant
reserve_rule (pos (suc n)) next_id_is_m (some c) l =
    let cost : ℕ = suc n in
    let reserved : ℕ = c.reserved + cost in
    let remaining : ℕ = c.remaining - cost in
    cond (ltb M reserved) (refuse (OverflowOfReserve (pos c.reserved)))
    (cond (ltb 0 l && ltb l reserved) (refuse (ExposureLimitExceeded (pos c.reserved) (pos l)))
    (cond next_id_is_m (refuse (OverflowOfReserve (pos c.reserved)))
    (cond (ltb c.remaining cost) (lose (Insufficient (pos c.remaining) (pos cost)))
    (book remaining (seat (account c.initial remaining reserved c.committed) l) cost))))

-- Commit: 2 below 0; 7; 4 where committed would pass M; 8 where delta is more than remaining; else remaining pays delta, or gets it back,
-- committed grows by actual and the reservation ends. Carries remaining, actual. `live` is the amount of the reservation, if it is live;
-- in a sound ledger its airline has an account, and no 3 is given
unfoldable pub commit_rule : ℤ → (live : Option ℕ) → Option Account → ℕ → Settlement
commit_rule (negsuc n) live c l = leave InvalidAmount
commit_rule (pos actual) none c l = leave MissingReservation
commit_rule (pos actual) (some reserved) none l = leave MissingTenant
commit_rule (pos actual) (some reserved) (some c) l =
    let delta : ℤ = pos actual -ℤ pos reserved in
    let remaining : ℕ = natural (pos c.remaining -ℤ delta) in
    cond (ltb M (c.committed + actual)) (leave (OverflowOfCommit (pos c.remaining)))
    (cond (lt_z (pos c.remaining) delta) (leave (Overrun (pos c.remaining)))
    (end (pos remaining ∷ pos actual ∷ []) (seat (account c.initial remaining (c.reserved - reserved) (c.committed + actual)) l)))

-- Release: 7; else remaining gets the amount back and the reservation ends. Carries both
unfoldable pub release_rule : (live : Option ℕ) → Option Account → ℕ → Settlement
release_rule none c l = leave MissingReservation
release_rule (some reserved) none l = leave MissingTenant
release_rule (some reserved) (some c) l =
    let remaining : ℕ = c.remaining + reserved in
    end (pos remaining ∷ pos reserved ∷ []) (seat (account c.initial remaining (c.reserved - reserved) c.committed) l)

-- Reads of one name: without an account 3, and 0 for reserved
unfoldable pub read_rule : (Account → ℕ) → Option Account → ℕ → Move
read_rule of none l = refuse MissingTenant
read_rule of (some c) l = tell (pos (of c) ∷ [])

unfoldable pub read_reserved_rule : Option Account → ℕ → Move
read_reserved_rule none l = tell (pos 0 ∷ [])
read_reserved_rule (some c) l = tell (pos c.reserved ∷ [])

-- ── a decision on the ledger ───────────────────────────────────────────────────────────────────────

-- the places with a name's seat written, in name order; a vacant seat frees the place
abbrev pub inserted : Ordering → Place → Place → List Place → List Place → List Place
inserted Ordering.lt new p ps further = new ∷ p ∷ ps
inserted Ordering.eq new p ps further = new ∷ ps
inserted Ordering.gt new p ps further = p ∷ further

unfoldable pub put : Name → Seat → List Place → List Place
put a s [] = place a s ∷ []
put a s (p ∷ ps) = inserted (order a p.name) (place a s) p ps (put a s ps)

unfoldable pub freed : Name → List Place → List Place
freed a = keep (λ p. not (is_at a p))

unfoldable pub seated : Name → Seat → List Place → List Place
seated a s ps = cond (is_vacant s) (freed a ps) (put a s ps)

-- else 20: the seat needs a place, its name holds none, and T are held
abbrev pub has_room : Name → Seat → Ledger → Bool
has_room a s L = is_vacant s || holds_place a L.places || ltb (length L.places) L.T

abbrev pub has_id : ℕ → Booking → Bool
has_id i b = eqb i b.id

unfoldable pub booked : ℕ → List Booking → Option Booking
booked i = first (has_id i)

unfoldable pub ended : ℕ → List Booking → List Booking
ended i = keep (λ b. not (has_id i b))

-- an id is drawn
abbrev pub drawn : Ledger → Ledger
drawn L = with_next_id L (suc L.next_id)

abbrev pub done_with : List ℤ → Reply
done_with zs = done (map Amount zs)

-- 20 and 21 are asked last, and draw no id
unfoldable pub perform : Ledger → Name → Move → Outcome
perform L a (refuse e) = refused e L
perform L a (tell zs) = outcome (done_with zs) L
perform L a (write zs s) = cond (has_room a s L) (outcome (done_with zs) (with_places L (seated a s L.places))) (refused NamesFull L)
perform L a (lose e) = refused e (drawn L)
perform L a (book remaining s cost) =
    cond (ltb (length L.bookings) L.R)
    (outcome (done (Amount (pos remaining) ∷ Identifier L.next_id ∷ []))
    (with_bookings (with_places (drawn L) (seated a s L.places)) (L.bookings ++ record { id = L.next_id; name = a; amount = cost } ∷ [])))
    (refused ReservationsFull L)

-- no rule ends a reservation that is not live
unfoldable pub settle : Ledger → Option Booking → Settlement → Outcome
settle L o (leave e) = refused e L
settle L none (end zs s) = refused MissingReservation L
settle L (some b) (end zs s) = outcome (done_with zs) (with_bookings (with_places L (seated b.name s L.places)) (ended b.id L.bookings))

-- ── the operations ─────────────────────────────────────────────────────────────────────────────

-- The account operations of demand 3: the six rules, and the reads of one name. X is what stands for a reservation: here its id
pub data AccountOperation (X : Type 0) : Type 0 where
  ensure top_up limit reserve : Name → ℤ → AccountOperation X
  commit : X → ℤ → AccountOperation X
  release : X → AccountOperation X
  read_remaining read_initial read_committed read_reserved : Name → AccountOperation X

-- What an operation comes down to: a rule, and the name or the reservation that it is for. Only a reserve asks whether next id is M
pub data Rule (X : Type 0) : Type 0 where
  for_name : Name → ((next_id_is_m : Bool) → Option Account → ℕ → Move) → Rule X
  for_reservation : X → ((live : Option ℕ) → Option Account → ℕ → Settlement) → Rule X

abbrev pub rule_of : {X : Type 0} → AccountOperation X → Rule X
rule_of (ensure a z) = for_name a (λ _. ensure_rule z)
rule_of (top_up a z) = for_name a (λ _. top_up_rule z)
rule_of (limit a z) = for_name a (λ _. limit_rule z)
rule_of (reserve a z) = for_name a (reserve_rule z)
rule_of (commit x z) = for_reservation x (commit_rule z)
rule_of (release x) = for_reservation x release_rule
rule_of (read_remaining a) = for_name a (λ _. read_rule (λ c. c.remaining))
rule_of (read_initial a) = for_name a (λ _. read_rule (λ c. c.initial))
rule_of (read_committed a) = for_name a (λ _. read_rule (λ c. c.committed))
rule_of (read_reserved a) = for_name a (λ _. read_reserved_rule)

-- 19 comes before every rule
abbrev pub is_too_long : Name → Bool
is_too_long a = ltb longest_name (length a)

abbrev pub named : Name → Move → Move
named a m = cond (is_too_long a) (refuse NameTooLong) m

unfoldable pub on_name : Ledger → Name → (Option Account → ℕ → Move) → Outcome
on_name L a rule = let s : Seat = seat_in a L.places in perform L a (named a (rule s.account s.limit))

unfoldable pub on_booking : Ledger → Option Booking → (Option ℕ → Option Account → ℕ → Settlement) → Outcome
on_booking L none rule = settle L none (rule none none 0)
on_booking L (some b) rule = let s : Seat = seat_in b.name L.places in settle L (some b) (rule (some b.amount) s.account s.limit)

abbrev pub next_id_is_m : Ledger → Bool
next_id_is_m L = eqb L.next_id M

abbrev pub apply : Ledger → Rule ℕ → Outcome
apply L (for_name a rule) = on_name L a (rule (next_id_is_m L))
apply L (for_reservation i rule) = on_booking L (booked i L.bookings) rule

unfoldable pub operate : Ledger → AccountOperation ℕ → Outcome
operate L x = apply L (rule_of x)

-- ── reads over the whole ledger ────────────────────────────────────────────────────────────────

abbrev pub is_account : Place → Bool
is_account p = has_account p.seat.account

-- The committed total is 15 above M, and counts as M for what was committed since the baseline
pub data LedgerRead : Type 0 where
  read_committed_total read_accounts read_live read_last_version read_committed_since : LedgerRead

unfoldable pub read_ledger : Ledger → LedgerRead → Reply
read_ledger L read_committed_total = let total : ℕ = committed_total L.places in cond (ltb M total) (reply_of AggregateOverflow) (done (Amount (pos total) ∷ []))
read_ledger L read_accounts = done (Count (length (keep is_account L.places)) ∷ [])
read_ledger L read_live = done (Count (length L.bookings) ∷ [])
read_ledger L read_last_version = done (Version L.last_version ∷ [])
read_ledger L read_committed_since = done (Amount (pos (min (committed_total L.places) M - L.baseline)) ∷ [])
