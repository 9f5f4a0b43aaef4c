-- What the writing of a seat promises: done where there is room for the name, and then the room holds the ledger with that seat; else NamesFull, and
-- nothing changed.
use Rattle.std.specs.Prelude.{◌≡◌, cond, List, ℕ, length, Result, Ok, Err}
use Rattle.rules.specs.RoomAndSoundLedger.{Name, Ledger, with_places}
use Rattle.rules.specs.AccountRules.{seated, has_room}
use Rattle.names.specs.declared.Name.{Name as StoredName}
use Rattle.records.specs.declared.Place.{Place}
use Rattle.moves.specs.Moves.{meaning}
use Rattle.moves.specs.declared.Seat.{Seat}
use Rattle.room.specs.Contents.{contents_of}
use Rattle.room.specs.Room.{contents_in}
use Rattle.refusals.specs.declared.Refusal.{Refusal}
use Rattle.refusals.specs.declared.Refusal.TheVariants.{NamesFull}

-- a seat in the place of a name
abbrev pub seated_under : StoredName → Seat → Place
seated_under n s = record { initial = s.initial; remaining = s.remaining; reserved = s.reserved; committed = s.committed; limit = s.limit; account = s.account; name = n }

pub record WritesSeat (a : Name) (s : Seat) (L : Ledger) (before after : List ℕ) (r : Result (Unit {0}) Refusal) : Type 0 where
  pub answer : r ≡ cond (has_room a (meaning s) L) (Ok tt) (Err NamesFull)
  pub size : length after ≡ length before
  pub holds : contents_of after ≡ cond (has_room a (meaning s) L) (contents_in (with_places L (seated a (meaning s) L.places))) (contents_in L)
