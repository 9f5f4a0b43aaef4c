-- The seat that a look-up finds is the name's, in its one form, and sound; and a seat written, freed or put in makes the contents those of the ledger
-- with that seat.
use mathlib.Core.Path.{◌≡◌, refl, sym, ◌∙◌, ap, ap₂, subst}
use mathlib.Core.Bool.{true, false, not, cond, ◌||◌}
use mathlib.Core.List.{List, [], ◌∷◌, map}
use mathlib.Core.Option.{Option, none, some}
use Prim.Native.Nat.{ℕ, suc, ◌≤◌, ◌<◌}
use native.Mathlib.Omega.{arith}
use lib.ListN.{length, get_or, get_or-map, length-map}
use Rattle.std.specs.Prelude.{Some, None}
use Rattle.rules.specs.Lists.{first, any}
use Rattle.rules.specs.RoomAndSoundLedger.{M, Name, same, Seat as RulesSeat, seat, Place as RulesPlace, place, Ledger, is_vacant, with_places, is_at, seat_of, holds_place, seat_in, has_account, AddsUp, Sound, Account}
use Rattle.rules.specs.AccountRules.{put, freed, seated}
use Rattle.rules.proofs.Tests.{by_bool, true-false}
use Rattle.rules.proofs.Lists.{first_any, all_map, none_any, keep_all}
use Rattle.rules.proofs.Names.{other}
use Rattle.rules.proofs.Places.{seat_in-all}
use Rattle.moves.specs.Moves.{account_of, meaning, kept_seat, SeatSound, kept}
use Rattle.moves.specs.declared.Seat.{Seat}
use Rattle.room.specs.Contents.{Contents, empty_place, place_of_name, place_for_name, with_place, inserted_place, freed_place}
use Rattle.room.specs.Room.{place_with, place_record, place_number, contents_in}
use Rattle.room.specs.Seats.{seat_of_place, seat_found, reseated, with_seat}
use Rattle.room.proofs.Decoding.{nowhere, number-name, kept-meaning}
use Rattle.room.proofs.Filled.{filled_at}
use Rattle.room.proofs.Numbers.{found_number, number-below}
use Rattle.room.proofs.Steps.{seat-replaced, place-inserted, place-freed}

-- ── the seat that is found ─────────────────────────────────────────────────────────────────────

-- the place of a name's number has the name's seat
pub number-seat : (a : Name) (ps : List RulesPlace) → holds_place a ps ≡ true → (get_or ps (place_number a ps) nowhere).seat ≡ seat_in a ps
unfolding holds_place any place_number seat_in first
number-seat a [] h = true-false h refl
number-seat a (p ∷ ps) h = by_bool (λ b. b || any (is_at a) ps ≡ true → (get_or (p ∷ ps) (cond b 0 (suc (place_number a ps))) nowhere).seat ≡ seat_of (cond b (some p) (first (is_at a) ps))) (is_at a p)
    (λ _ k. refl) (λ _ k. number-seat a ps k) h

absent-seat : (a : Name) (ps : List RulesPlace) → holds_place a ps ≡ false → seat_in a ps ≡ seat none 0
unfolding holds_place seat_in
absent-seat a ps h = ap seat_of (first_any (is_at a) ps h)

-- an empty place is the record of a name that has nothing
empty-record : place_record nowhere ≡ empty_place
unfolding place_record kept_seat
empty-record = refl

pub record-at : (ps : List RulesPlace) (i : ℕ) → get_or (map place_record ps) i empty_place ≡ place_record (get_or ps i nowhere)
record-at ps i = subst (λ p. get_or (map place_record ps) i p ≡ place_record (get_or ps i nowhere)) empty-record (get_or-map place_record ps i nowhere)

record-seat : (p : RulesPlace) → seat_of_place (place_record p) ≡ kept_seat p.seat
unfolding place_record
record-seat p = refl

pub seat-found : (a : Name) (ps : List RulesPlace) → seat_found (place_of_name a (map place_record ps)) (map place_record ps) ≡ kept_seat (seat_in a ps)
seat-found a ps = rw (found_number a ps) (by_bool (λ b. holds_place a ps ≡ b → seat_found (cond b (Some (place_number a ps)) None) (map place_record ps) ≡ kept_seat (seat_in a ps)) (holds_place a ps)
    (λ _ h. ap seat_of_place (record-at ps (place_number a ps)) ∙ record-seat (get_or ps (place_number a ps) nowhere) ∙ ap kept_seat (number-seat a ps h))
    (λ _ h. unfold kept_seat in sym (ap kept_seat (absent-seat a ps h))) refl)

-- the form of a seat says what it is
pub kept-account : (s : RulesSeat) → account_of (kept_seat s) ≡ s.account
unfolding kept_seat
kept-account s = ap (λ t. t.account) (kept-meaning s.account s.limit)

pub kept-limit : (s : RulesSeat) → (kept_seat s).limit ≡ s.limit
unfolding kept_seat
kept-limit s = ap (λ t. t.limit) (kept-meaning s.account s.limit)

pub kept-means : (s : RulesSeat) → meaning (kept_seat s) ≡ s
unfolding kept_seat
kept-means s = kept-meaning s.account s.limit

pub kept-sound : (s : RulesSeat) → AddsUp s.account → s.limit ≤ M → SeatSound (kept_seat s)
kept-sound s adds small = record {
  form = ap kept_seat (kept-means s);
  adds_up = subst AddsUp (sym (kept-account s)) adds;
  limit = rw (kept-limit s) small;
}

-- every amount of a sound seat is at most M: without an account they are 0
pub record Small (s : Seat) : Type 0 where
  pub initial : s.initial ≤ M
  pub remaining : s.remaining ≤ M
  pub reserved : s.reserved ≤ M
  pub committed : s.committed ≤ M

kept_small : (c : Option Account) (l : ℕ) → AddsUp c → Small (kept c l)
kept_small none l h = record { initial = omega arith; remaining = omega arith; reserved = omega arith; committed = omega arith }
kept_small (some c) l h = record { initial = h.1; remaining = omega arith; reserved = omega arith; committed = omega arith }

pub seat-small : (s : Seat) → SeatSound s → Small s
unfolding kept_seat
seat-small s known = subst Small known.form (kept_small (account_of s) s.limit known.adds_up)

module _ (L : Ledger) (sound : Sound L) (a : Name) where
  abbrev ps : List RulesPlace
  ps = L.places

  -- the seat of every name of a sound ledger is sound
  pub seat-sound : SeatSound (kept_seat (seat_in a ps))
  seat-sound = kept-sound (seat_in a ps)
      (seat_in-all (λ s. AddsUp s.account) ps tt sound.accounts_add_up a)
      (seat_in-all (λ s. s.limit ≤ M) ps (omega arith) sound.limits a)

  -- ── a seat written ───────────────────────────────────────────────────────────────────────────

  -- the place of the name with another seat is the record of the name with what the seat means
  reseated-record : (s : Seat) → kept_seat (meaning s) ≡ s → holds_place a ps ≡ true → reseated s (get_or (map place_record ps) (place_number a ps) empty_place) ≡ place_record (place a (meaning s))
  unfolding place_record
  reseated-record s form h = ap (reseated s) (record-at ps (place_number a ps)) ∙ ap₂ place_with (sym form) (number-name a ps h)

  abbrev after : List RulesPlace → Contents
  after qs = contents_in (with_places L qs)

  module _ (s : Seat) where
    pub seated-put : is_vacant (meaning s) ≡ false → seated a (meaning s) ps ≡ put a (meaning s) ps
    unfolding seated
    seated-put e = ap (λ b. cond b (freed a ps) (put a (meaning s) ps)) e

    seated-freed : is_vacant (meaning s) ≡ true → seated a (meaning s) ps ≡ freed a ps
    unfolding seated
    seated-freed e = ap (λ b. cond b (freed a ps) (put a (meaning s) ps)) e

    -- written where the name holds a place
    pub seat-kept : SeatSound s → is_vacant (meaning s) ≡ false → holds_place a ps ≡ true → with_seat (place_number a ps) s (contents_in L) ≡ contents_in (with_places L (seated a (meaning s) ps))
    unfolding with_seat contents_in
    seat-kept known taken h =
        let within : place_number a ps < length (map place_record ps) = rw (length-map ps place_record) (number-below a ps h) in
        ap (λ p. with_place (place_number a ps) p (contents_in L)) (ap (reseated s) (filled_at L.T empty_place (map place_record ps) (place_number a ps) empty_place within) ∙ reseated-record s known.form h)
        ∙ seat-replaced L sound a (meaning s) h
        ∙ ap after (sym (seated-put taken))

    -- put in where it holds none
    pub seat-opened : SeatSound s → is_vacant (meaning s) ≡ false → holds_place a ps ≡ false → length ps < L.T
        → inserted_place (place_for_name a (map place_record ps)) (place_with s a) (contents_in L) ≡ contents_in (with_places L (seated a (meaning s) ps))
    unfolding place_record
    seat-opened known taken h room =
        ap (λ t. inserted_place (place_for_name a (map place_record ps)) (place_with t a) (contents_in L)) (sym known.form)
        ∙ place-inserted L sound a (meaning s) h room
        ∙ ap after (sym (seated-put taken))

    -- freed: a name without an account has no live booking
    pub seat-freed : is_vacant (meaning s) ≡ true → holds_place a ps ≡ true → (seat_in a ps).account ≡ none → freed_place (place_number a ps) (contents_in L) ≡ contents_in (with_places L (seated a (meaning s) ps))
    seat-freed vacant h without =
        place-freed L sound a h
        (all_map (λ b. has_account (seat_in b.name ps).account ≡ true) (λ b. same b.name a ≡ false) (λ b k. other b.name a (λ q. true-false (subst (λ n. has_account (seat_in n ps).account ≡ true) q k) (ap has_account without))) L.bookings sound.accounts_exist)
        ∙ ap after (sym (seated-freed vacant))

    -- nothing to free
    pub seat-nowhere : is_vacant (meaning s) ≡ true → holds_place a ps ≡ false → contents_in L ≡ contents_in (with_places L (seated a (meaning s) ps))
    unfolding holds_place freed
    seat-nowhere vacant h =
        let stays : freed a ps ≡ ps = keep_all _ ps (all_map (λ p. is_at a p ≡ false) (λ p. not (is_at a p) ≡ true) (λ p e. rw e) ps (none_any (is_at a) ps h)) in
        ap after (sym (seated-freed vacant ∙ stays))
