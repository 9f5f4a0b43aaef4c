-- What the writing of an answer's bytes promises: they stand at the front of the output, and what stood past them stands there still.
use Rattle.std.specs.Prelude.{◌≡◌, List, ◌++◌, ℕ, length, drop}
use Rattle.rules.specs.AnswerNumbers.{Value, Reply}
use Rattle.rules.specs.SnapshotsMigrationCertificates.{bytes_of}
use Rattle.rules.specs.Frames.{value_bytes, reply_bytes}

pub record WritesReply (answer : Reply) (before after : List ℕ) (written : ℕ) : Type 0 where
  pub size : written ≡ length (reply_bytes answer)
  pub output : after ≡ reply_bytes answer ++ drop (length (reply_bytes answer)) before

-- a value that is written as this word of 8 bytes
abbrev pub IsWritten : ℕ → Value → Type 0
IsWritten word v = value_bytes v ≡ bytes_of 8 word

-- a value that is written as this one byte
abbrev pub IsByteWritten : ℕ → Value → Type 0
IsByteWritten byte v = value_bytes v ≡ bytes_of 1 byte
