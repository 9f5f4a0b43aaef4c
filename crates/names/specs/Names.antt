-- A name by value: its length, and as many bytes as the longest name has, of which those past the length are zero.
use Rattle.std.specs.Prelude.{◌≡◌, Bool, true, false, List, ◌++◌, length, get_or, take, replicate}
use Prim.Native.Nat.{ℕ, ◌-◌, ◌≤◌, Ordering}
use Rattle.rules.specs.RoomAndSoundLedger.{longest_name}
use Rattle.std.specs.declared.cmp.Ordering.{Ordering as Compared}
use Rattle.std.specs.declared.cmp.Ordering.TheVariants.{Less, Equal, Greater}
use Rattle.names.specs.declared.Name.{Name}

-- the code's answer, in the words of the rules
abbrev pub ordering_of : Compared → Ordering
ordering_of Less = Ordering.lt
ordering_of Equal = Ordering.eq
ordering_of Greater = Ordering.gt

abbrev pub is_before : Ordering → Bool
is_before Ordering.lt = true
is_before Ordering.eq = false
is_before Ordering.gt = false

-- the bytes within the length
abbrev pub spelled : Name → List ℕ
spelled n = take n.length n.bytes

-- bytes as a name, with zeros after them
abbrev pub stored : List ℕ → Name
stored a = record { length = length a; bytes = a ++ replicate (longest_name - length a) 0 }

pub record IsStored (n : Name) : Type 0 where
  pub fits : n.length ≤ longest_name
  -- an array has just so many bytes; a list may have any number
  pub width : length n.bytes ≡ longest_name
  pub clear : (i : ℕ) → n.length ≤ i → get_or n.bytes i 0 ≡ 0
