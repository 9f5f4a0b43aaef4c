-- Sums, signs and commit's delta, in the words of the rules.
use Rattle.std.specs.Prelude.{cond, ℕ, zero, suc, ◌+◌, ltb, ℤ, pos, negsuc, ◌-ℤ◌, Option, Some, None}
use Rattle.std.specs.Int.Signed.{lt_z}
use Rattle.rules.specs.RoomAndSoundLedger.{M}
use Rattle.rules.specs.AccountRules.{natural}

-- a sum, where it is not above M
abbrev pub sum_of : ℕ → ℕ → Option ℕ
sum_of a b = cond (ltb M (a + b)) None (Some (a + b))

-- an amount that is not negative
abbrev pub natural_of : ℤ → Option ℕ
natural_of (pos n) = Some n
natural_of (negsuc n) = None

-- an amount above 0
abbrev pub positive_of : ℤ → Option ℕ
positive_of (pos zero) = None
positive_of (pos (suc n)) = Some (suc n)
positive_of (negsuc n) = None

-- document 01, Account rules, commit: a delta past remaining is an overrun, any other is taken off, so that one below 0 adds
abbrev pub remainder_of : ℕ → ℤ → Option ℕ
remainder_of remaining delta = cond (lt_z (pos remaining) delta) None (Some (natural (pos remaining -ℤ delta)))
