-- What is sought of a name, and what is summed.
use Rattle.std.specs.Prelude.{cond, ℕ, ltb, eqb, Option, Some, None, Result, Ok, Err}
use Rattle.rules.specs.RoomAndSoundLedger.{M, Name, Ledger, seat_in}
use Rattle.rules.specs.AccountRules.{is_too_long}
use Rattle.moves.specs.declared.Seat.{Seat}
use Rattle.moves.specs.Moves.{kept_seat}
use Rattle.refusals.specs.declared.Refusal.{Refusal}
use Rattle.refusals.specs.declared.Refusal.TheVariants.{NameTooLong, MissingTenant}

-- the seat of a name, 19 before any
abbrev pub sought : Ledger → Name → Result Seat Refusal
sought L a = cond (is_too_long a) (Err NameTooLong) (Ok (kept_seat (seat_in a L.places)))

-- a seat with an account; "3" where the flag says that there is none
abbrev pub with_account : Result Seat Refusal → Result Seat Refusal
with_account (Ok s) = cond (eqb s.account 0) (Err MissingTenant) (Ok s)
with_account (Err e) = Err e

-- "(15 above M)"
abbrev pub summed : ℕ → Option ℕ
summed n = cond (ltb M n) None (Some n)
