-- Document 01, Room and the sound ledger, making a fresh ledger: T or R out of range is refused with 24. Our decision: so is memory that is not of
-- just the size that they ask for.
use Rattle.std.specs.Prelude.{◌≡◌, cond, List, [], ℕ, eqb, length}
use Rattle.std.proofs.Math.Option.{Option, none, some}
use Rattle.rules.specs.RoomAndSoundLedger.{Ledger}
use Rattle.rules.specs.AnswerNumbers.{Reply, UnsoundLedger, done, reply_of}
use Rattle.room.specs.Room.{IsRoom}
use Rattle.room.specs.LedgerBytes.{ledger_bytes}

-- the ledger, where the memory has just the bytes that it takes
abbrev pub made_in : (memory : List ℕ) → Option Ledger → Option Ledger
made_in memory none = none
made_in memory (some L) = cond (eqb (length memory) (length (ledger_bytes L))) (some L) none

-- the memory is overwritten and is the ledger's room, or no ledger is made and no byte has changed
abbrev pub Makes : Option Ledger → (before : List ℕ) → Reply → (after : List ℕ) → Type 0
Makes none before r after = (r ≡ reply_of UnsoundLedger) × (after ≡ before)
Makes (some L) before r after = (r ≡ done []) × IsRoom after L
