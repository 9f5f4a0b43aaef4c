-- The shapes that answers have: the kinds of what they carry, one behind the other.
use Rattle.std.specs.Prelude.{List, [], ◌∷◌, map, Option as Answer, Some, None}
use Rattle.std.proofs.Math.Option.{Option, none, some}
use Rattle.rules.specs.AnswerNumbers.{Value, Amount, Identifier, Version, Fence, Count, Field, YesOrNo, TheName, SnapshotBytes, Reply}
use Rattle.recorder.specs.declared.answer_table.Shape.{Shape}
use Rattle.recorder.specs.declared.answer_table.Shape.TheVariants as shape

-- how a value is written: in a word of eight bytes, in a byte, in a byte that is 0 or 1, as a name, as a snapshot
pub data Kind : Type 0 where
  a_word a_byte a_flag a_name a_snapshot : Kind

abbrev pub kind_of : Value → Kind
kind_of (Amount z) = a_word
kind_of (Identifier n) = a_word
kind_of (Version n) = a_word
kind_of (Fence n) = a_word
kind_of (Count n) = a_word
kind_of (Field n) = a_byte
kind_of (YesOrNo b) = a_flag
kind_of (TheName a) = a_name
kind_of (SnapshotBytes bs) = a_snapshot

abbrev pub kinds_of : Shape → List Kind
kinds_of shape.Nothing = []
kinds_of shape.Word = a_word ∷ []
kinds_of shape.TwoWords = a_word ∷ a_word ∷ []
kinds_of shape.ThreeWords = a_word ∷ a_word ∷ a_word ∷ []
kinds_of shape.Named = a_name ∷ []
kinds_of shape.NamedWord = a_name ∷ a_word ∷ []
kinds_of shape.NamedField = a_name ∷ a_byte ∷ a_word ∷ []
kinds_of shape.Snapshot = a_snapshot ∷ []
kinds_of shape.Certificate = a_word ∷ a_word ∷ a_word ∷ a_flag ∷ a_word ∷ a_word ∷ a_flag ∷ a_word ∷ []
kinds_of shape.Proof = a_word ∷ a_word ∷ a_word ∷ a_word ∷ a_word ∷ a_flag ∷ []

-- of what stands behind a number, or none where it is no answer
abbrev pub kinds_behind : Answer Shape → Option (List Kind)
kinds_behind None = none
kinds_behind (Some s) = some (kinds_of s)

-- the kinds of what a form carries, or none for no form
abbrev pub kinds_in : Option Reply → Option (List Kind)
kinds_in none = none
kinds_in (some form) = some (map kind_of form.carried)
