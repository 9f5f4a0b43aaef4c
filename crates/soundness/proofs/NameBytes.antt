-- The names in a room of bytes are names of bytes. The facts do not ask it of a room, since a room that code is lent has nothing else.
use mathlib.Core.List.{List, map}
use Prim.Native.Nat.{ℕ, zero, suc}
use lib.ListN.{take, drop}
use Rattle.rules.specs.Lists.{All}
use Rattle.rules.specs.RoomAndSoundLedger.{IsByte, longest_name}
use Rattle.numbers.proofs.Bytes.{all_take, all_drop}
use Rattle.records.specs.Layout.{place_start, place_size, head_size, name_bytes_offset}
use Rattle.records.specs.Rows.{row, rows}
use Rattle.records.specs.Records.{place_of, places}
use Rattle.records.specs.declared.Place.{Place}
use Rattle.records.proofs.Fields.{row-bytes}
use Rattle.soundness.specs.Steps.{place_at}

abbrev pub NameOfBytes : Place → Type 0
NameOfBytes p = All IsByte p.name.bytes

pub name-at-bytes : (i : ℕ) (xs : List ℕ) → All IsByte xs → All IsByte (place_at i xs).name.bytes
name-at-bytes i xs h = row-bytes longest_name name_bytes_offset (row place_size (place_start i) xs) (row-bytes place_size (place_start i) xs h)

rows-of-bytes : (n : ℕ) (xs : List ℕ) → All IsByte xs → All NameOfBytes (map place_of (rows place_size n xs))
rows-of-bytes zero xs h = tt
rows-of-bytes (suc n) xs h = (row-bytes longest_name name_bytes_offset (take place_size xs) (all_take IsByte place_size xs h), rows-of-bytes n (drop place_size xs) (all_drop IsByte place_size xs h))

pub names-of-bytes : (n : ℕ) (xs : List ℕ) → All IsByte xs → All NameOfBytes (places n xs)
names-of-bytes n xs h = rows-of-bytes n (drop head_size xs) (all_drop IsByte head_size xs h)
