-- A total of two words: the integer that they are, and whether 64 bits hold it.
use Rattle.std.specs.Prelude.{cond, ℕ, ◌^◌, ◌≤◌, ℤ, pos, ◌+ℤ◌, ◌*ℤ◌, Option, Some, None}
use Rattle.std.specs.Int.Signed.{mag}
use Rattle.rules.specs.SnapshotsMigrationCertificates.{fits64}
use Rattle.totals.specs.declared.Total.{Total}
use Rattle.numbers.specs.declared.Microcents.{Microcents}

abbrev pub value_of : Total → ℤ
value_of t = t.high *ℤ pos (2 ^ 64) +ℤ pos t.low

-- so many amounts have been added or taken off: the high word has moved by no more than one for each
abbrev pub Moved : ℕ → Total → Type 0
Moved n t = mag t.high ≤ n

-- the amount that an integer is, or that it is none
abbrev pub fitted : ℤ → Option Microcents
fitted z = cond (fits64 z) (Some (record { 0 = z })) None
