-- What each answer carries in document 01's numbers.
use Rattle.std.specs.Prelude.{List, [], ◌∷◌}
use Rattle.rules.specs.AnswerNumbers.{Value, Amount, Identifier}
use Rattle.reservations.specs.declared.Granted.{Granted}
use Rattle.reservations.specs.declared.Committed.{Committed}
use Rattle.reservations.specs.declared.Released.{Released}

abbrev pub carries_grant : Granted → List Value
carries_grant g = Amount g.remaining.0 ∷ Identifier g.id.0 ∷ []

abbrev pub carries_commit : Committed → List Value
carries_commit c = Amount c.remaining.0 ∷ Amount c.actual.0 ∷ []

abbrev pub carries_release : Released → List Value
carries_release r = Amount r.remaining.0 ∷ Amount r.amount.0 ∷ []
