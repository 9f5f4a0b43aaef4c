-- What a place keeps of a name beside the name itself, and what each answer of a rule by value means as a move of the rules.
use Rattle.std.specs.Prelude.{◌≡◌, cond, List, [], ◌∷◌, ℕ, ◌≤◌, eqb, ℤ, pos, Option as Answer, Some, None, Result, Ok, Err}
use Rattle.std.proofs.Math.Option.{Option, none, some}
use Rattle.rules.specs.RoomAndSoundLedger.{M, Account, Seat as RulesSeat, seat, AddsUp}
use Rattle.rules.specs.AccountRules.{Move, refuse, tell, write, lose, book, Settlement, leave, end}
use Rattle.moves.specs.declared.Seat.{Seat}
use Rattle.refusals.specs.declared.Refusal.{Refusal}
use Rattle.refusals.specs.Answers.{refusal_of}

abbrev pub account_in : Seat → Account
account_in s = record { initial = s.initial; remaining = s.remaining; reserved = s.reserved; committed = s.committed }

-- the account, where the flag says that there is one
abbrev pub account_of : Seat → Option Account
account_of s = cond (eqb s.account 0) none (some (account_in s))

abbrev pub meaning : Seat → RulesSeat
meaning s = seat (account_of s) s.limit

-- the one form in which a seat is kept: the flag is 0 or 1, and without an account the amounts are zero
abbrev pub kept : Option Account → ℕ → Seat
kept none l = record { initial = 0; remaining = 0; reserved = 0; committed = 0; limit = l; account = 0 }
kept (some c) l = record { initial = c.initial; remaining = c.remaining; reserved = c.reserved; committed = c.committed; limit = l; account = 1 }

unfoldable pub kept_seat : RulesSeat → Seat
kept_seat s = kept s.account s.limit

-- a seat of a sound ledger, in its one form
pub record SeatSound (s : Seat) : Type 0 where
  pub form : kept_seat (meaning s) ≡ s
  pub adds_up : AddsUp (account_of s)
  pub limit : s.limit ≤ M

-- ── what the answers mean ──────────────────────────────────────────────────────────────────────

-- the account that is opened, or none where there is one
abbrev pub ensuring_move : Answer Seat → Move
ensuring_move None = tell []
ensuring_move (Some s) = write [] (meaning s)

-- the seat that is written, which carries these amounts, or the refusal
abbrev pub decided : (carried : Seat → List ℤ) → Result Seat Refusal → Move
decided carried (Ok s) = write (carried s) (meaning s)
decided carried (Err e) = refuse (refusal_of e)

abbrev pub topping_up_move : ℤ → Result Seat Refusal → Move
topping_up_move z r = decided (λ s. z ∷ pos s.initial ∷ pos s.remaining ∷ []) r

abbrev pub limiting_move : Result Seat Refusal → Move
limiting_move r = decided (λ s. []) r

-- a refusal uses the id up
abbrev pub reserving_move : (cost : ℕ) → Result Seat Refusal → Move
reserving_move cost (Ok s) = book s.remaining (meaning s) cost
reserving_move cost (Err e) = lose (refusal_of e)

-- the reservation ends with these amounts carried, or stays
abbrev pub settled : (carried : Seat → List ℤ) → Result Seat Refusal → Settlement
settled carried (Ok s) = end (carried s) (meaning s)
settled carried (Err e) = leave (refusal_of e)

abbrev pub committing_settlement : ℤ → Result Seat Refusal → Settlement
committing_settlement z r = settled (λ s. pos s.remaining ∷ z ∷ []) r

abbrev pub releasing_settlement : (reserved : ℕ) → Result Seat Refusal → Settlement
releasing_settlement reserved r = settled (λ s. pos s.remaining ∷ pos reserved ∷ []) r
