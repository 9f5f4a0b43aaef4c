-- `answer_writer::write_head`: in each arm the shape is the arm's, and the values that its kinds make of the words are those that the called function writes. A name that was
-- read into a record is spelled as it was lent (`named`), and an answer of many values is behind 0 (`many`).
use mathlib.Core.Path.{◌≡◌, refl, sym, ◌∙◌, ap, subst}
use mathlib.Core.List.{List, [], ◌∷◌}
use Prim.Native.Nat.{ℕ, ◌≤◌}
use native.Mathlib.Omega.{arith}
use lib.ListN.{length}
use Rattle.rules.specs.AnswerNumbers.{Value, TheName, reply}
use Rattle.names.specs.declared.Name.{Name}
use Rattle.names.specs.Names.{spelled, stored}
use Rattle.names.proofs.Storing.{spelled-stored}
use Rattle.answer_bytes.specs.Writing.{WritesReply}
use Rattle.answer_bytes.proofs.Arms.{matched}
use Rattle.recorder.specs.declared.answer_table.Shape.{Shape}
use Rattle.recorder.specs.Shapes.{kinds_of}
use Rattle.recorder.specs.AnswerWords.{head_of, Writable}
use Rattle.recorder.proofs.answer_writer.write_head.Goals as goal

named : {number r : ℕ} {part before after : List ℕ} {name : Name} → name ≡ stored part → (vs : List Value) → WritesReply (reply number (TheName (spelled name) ∷ vs)) before after r
    → WritesReply (reply number (TheName part ∷ vs)) before after r
named {number = number} {part = part} is vs writes = matched (ap (λ a. reply number (TheName a ∷ vs)) (sym (ap spelled is ∙ spelled-stored part))) writes

module _ {shape other : Shape} (number : ℕ) (words part : List ℕ) (is : shape ≡ other) {before after : List ℕ} {r : ℕ} where
  arm : WritesReply (head_of (kinds_of other) number words part) before after r → WritesReply (head_of (kinds_of shape) number words part) before after r
  arm writes = matched (ap (λ s. head_of (kinds_of s) number words part) is) writes

  many : Writable (kinds_of shape) number words part → 4 ≤ length (kinds_of other) → WritesReply (head_of (kinds_of other) 0 words part) before after r
      → WritesReply (head_of (kinds_of shape) number words part) before after r
  many writable count writes =
      let zero : number ≡ 0 = writable.done (subst (λ s. 4 ≤ length (kinds_of s)) (sym is) count) in
      arm (matched (ap (λ n. head_of (kinds_of other) n words part) zero) writes)

pub returns-in-NamedWord : goal.returns-in-NamedWord
returns-in-NamedWord c = arm c.args.number c.args.words.now c.args.part.now c.in-NamedWord.is (named c.name_of-in-NamedWord.ensures (_ ∷ []) (c.write_named_word.ensures _ refl))

pub returns-in-NamedField : goal.returns-in-NamedField
returns-in-NamedField c =
    arm c.args.number c.args.words.now c.args.part.now c.in-NamedField.is (named c.name_of-in-NamedField.ensures (_ ∷ _ ∷ []) (c.write_named_field.ensures _ _ refl refl))

pub returns-in-Certificate : goal.returns-in-Certificate
returns-in-Certificate c = many c.args.number c.args.words.now c.args.part.now c.in-Certificate.is c.requires.1 (omega arith) (c.write_certificate.ensures c.args.part.now)

pub returns-in-Proof : goal.returns-in-Proof
returns-in-Proof c = many c.args.number c.args.words.now c.args.part.now c.in-Proof.is c.requires.1 (omega arith) (c.write_proof.ensures c.args.part.now)
