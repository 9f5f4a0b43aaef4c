-- `frame_reader::read_alone`: for each of its three codes `alone` of Sized.antt says what the frame is when it has one byte and when not; `misfit` goes through
-- the codes.
use mathlib.Core.Path.{◌≡◌, refl, sym, ◌∙◌}
use mathlib.Core.Logic.{◌⊎◌, inl, inr}
use mathlib.Core.List.{List}
use mathlib.Core.Option.{none}
use Prim.Native.Nat.{ℕ, ◌≤◌}
use native.Mathlib.Omega.{arith}
use lib.ListN.{length, get_or}
use Rattle.rules.specs.Lists.{first}
use Rattle.rules.specs.Frames.{take_snapshot, certify_ledger, prove_conservation, codes, operation_of}
use Rattle.frame_reader.proofs.Sized.{alone}
use Rattle.frame_reader.proofs.read_alone.Goals as goal

misfit : (bs : List ℕ) {code : ℕ} → 1 ≤ length bs → get_or bs 0 0 ≡ code → (code ≡ 7) ⊎ (code ≡ 11) ⊎ (code ≡ 13) → (length bs ≡ 1 → ⊥) → operation_of bs ≡ none
unfolding first codes
misfit bs h e (inl k) = (alone h take_snapshot (e ∙ k) refl).misfit
misfit bs h e (inr (inl k)) = (alone h certify_ledger (e ∙ k) refl).misfit
misfit bs h e (inr (inr k)) = (alone h prove_conservation (e ∙ k) refl).misfit

pub returns-then-bytes-ne1 : goal.returns-then-bytes-ne1
returns-then-bytes-ne1 c = let ((h, e), one) = c.requires in record { operation = sym (misfit _ h e one c.if-bytes-ne1.true); parts = tt }

pub returns-in-7 : goal.returns-in-7
unfolding first codes
returns-in-7 c = let ((h, e), one) = c.requires in record { operation = sym ((alone h take_snapshot (e ∙ c.in-7.is) refl).fit c.if-bytes-ne1.false); parts = tt }

pub returns-in-11 : goal.returns-in-11
unfolding first codes
returns-in-11 c = let ((h, e), one) = c.requires in record { operation = sym ((alone h certify_ledger (e ∙ c.in-11.is) refl).fit c.if-bytes-ne1.false); parts = tt }

pub returns-in_default : goal.returns-in_default
unfolding first codes
returns-in_default c =
    let ((h, e), one) = c.requires in
    let last : c.args.code ≡ 13 = omega arith in
    record { operation = sym ((alone h prove_conservation (e ∙ last) refl).fit c.if-bytes-ne1.false); parts = tt }
