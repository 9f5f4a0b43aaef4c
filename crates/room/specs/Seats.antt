-- The seat that a look-up found, and the tables with a seat changed.
use Rattle.std.specs.Prelude.{List, ℕ, ◌<◌, length, get_or, Option, Some, None, IfSome}
use Rattle.moves.specs.declared.Seat.{Seat}
use Rattle.records.specs.declared.Place.{Place}
use Rattle.room.specs.Contents.{Contents, empty_place, with_place}

-- a look-up's answer about these places
abbrev pub FoundIn : Option ℕ → List Place → Type 0
FoundIn found ps = IfSome found (λ i. i < length ps)

abbrev pub seat_of_place : Place → Seat
seat_of_place p = record { initial = p.initial; remaining = p.remaining; reserved = p.reserved; committed = p.committed; limit = p.limit; account = p.account }

-- a name that holds no place has nothing
abbrev pub seat_found : Option ℕ → List Place → Seat
seat_found (Some i) ps = seat_of_place (get_or ps i empty_place)
seat_found None ps = seat_of_place empty_place

-- the place with another seat
abbrev pub reseated : Seat → Place → Place
reseated s p = record { initial = s.initial; remaining = s.remaining; reserved = s.reserved; committed = s.committed; limit = s.limit; account = s.account; name = p.name }

unfoldable pub with_seat : ℕ → Seat → Contents → Contents
with_seat i s c = with_place i (reseated s (get_or c.places i empty_place)) c
