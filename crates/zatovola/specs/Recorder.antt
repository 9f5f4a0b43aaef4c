-- What the recorder's functions for C and Rust promise, in numbers.
use Rattle.std.specs.Prelude.{◌≡◌, List, ℕ, Result, Ok, Err}
use Rattle.rules.specs.AnswerNumbers.{Count, reply_of}
use Rattle.rules.specs.Recorder.{Recording}
use Rattle.refusals.specs.declared.Refusal.{Refusal}
use Rattle.refusals.specs.Answers.{refusal_of}
use Rattle.zatovola.specs.Reads.{HandsOver}

-- the answer of the rules, handed over as a number and a place, and the room that they leave
pub record HandsRecorded (rule : Recording) (room : List ℕ) (before number after : ℕ) : Type 0 where
  pub answer : HandsOver Count rule.reply before number after
  pub room_after : room ≡ rule.room

abbrev pub number_of_read : Result (Unit {0}) Refusal → ℕ
number_of_read (Ok x) = 0
number_of_read (Err e) = (reply_of (refusal_of e)).number

-- a number, and what is promised of the reading that it tells
pub record AnswersRead (Promised : Result (Unit {0}) Refusal → Type 0) (number : ℕ) : Type 0 where
  pub told : Result (Unit {0}) Refusal
  pub is : number ≡ number_of_read told
  pub promised : Promised told
