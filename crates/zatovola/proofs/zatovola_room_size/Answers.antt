-- `zatovola::zatovola_room_size`: what the tests leave is that T and R are in range, and RoomSize.antt has the size there and outside.
use native.Mathlib.Omega.{arith}
use Rattle.zatovola.proofs.RoomSize.{no_room, its-room}
use Rattle.zatovola.proofs.zatovola_room_size.Goals as goal

pub returns-then-names-eq0 : goal.returns-then-names-eq0
returns-then-names-eq0 c = no_room _ _ (λ names reservations. omega (arith, c.then-names-eq0.either))

pub returns-then-reservations-eq0 : goal.returns-then-reservations-eq0
returns-then-reservations-eq0 c = no_room _ _ (λ names reservations. omega (arith, c.then-reservations-eq0.either))

pub returns : goal.returns
returns c = its-room _ _ (omega arith, omega arith) (omega arith, omega arith)
