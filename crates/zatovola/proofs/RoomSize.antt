-- The room of a ledger that can be made, by cases on `made`: it is made exactly where T and R are in range.
use mathlib.Core.Path.{◌≡◌, refl, sym, ap, ◌∙◌}
use Prim.Native.Nat.{ℕ}
use Rattle.rules.specs.RoomAndSoundLedger.{most_names, most_reservations, InRange, made}
use Rattle.rules.proofs.Tests.{by-option}
use Rattle.room.specs.Contents.{room_size}
use Rattle.soundness.proofs.Fresh.{made_some, made-fresh, fresh-size}
use Rattle.zatovola.specs.Interface.{bytes_of_room}

module _ (t r : ℕ) where
  pub no_room : (InRange 1 most_names t → InRange 1 most_reservations r → ⊥) → 0 ≡ bytes_of_room (made t r)
  no_room out = by-option (λ o. 0 ≡ bytes_of_room o) (made t r) (λ _. refl) (λ L e. let m = made_some t r L e in absurd (out m.0 m.1))

  pub its-room : InRange 1 most_names t → InRange 1 most_reservations r → room_size t r ≡ bytes_of_room (made t r)
  its-room names reservations = sym (ap bytes_of_room (made-fresh t r names reservations) ∙ fresh-size t r names reservations)
