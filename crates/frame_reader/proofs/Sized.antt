-- Frames whose length their code fixes. A body that takes the bytes up to a place (`Takes` of snapshot_reader) reads the frame when it ends there, and none
-- when it is shorter or longer (`Sized`); a body is put together of its parts by `takes-then`.
use mathlib.Core.Path.{◌≡◌, refl, ◌∙◌, ap}
use mathlib.Core.List.{List}
use mathlib.Core.Option.{none, some}
use Prim.Native.Nat.{ℕ, ◌+◌, ◌≤◌}
use native.Mathlib.Omega.{arith}
use borrow.Author.Tests.{ltb-true, ltb-false, eq-eqb, ne_eqb}
use lib.Dec.{ltb}
use lib.IntN.{ℤ}
use lib.ListN.{length, take, drop, get_or, length-drop}
use Rattle.rules.specs.Lists.{first}
use Rattle.rules.specs.RoomAndSoundLedger.{Name}
use Rattle.rules.specs.AccountRules.{AccountOperation, commit, release}
use Rattle.rules.specs.SnapshotsMigrationCertificates.{Reader, reads, whole, number_of}
use Rattle.rules.specs.Frames.{Operation, on_account, codes, operation_of}
use Rattle.rules.proofs.Tests.{by_bool}
use Rattle.snapshot_reader.proofs.RowBytes.{Takes, takes-then, takes-nothing, number-takes, amount_at, amount-takes, name-takes-from}
use Rattle.frame_reader.specs.Operations.{word_end, two_words_end, name_start, name_in}
use Rattle.rules.proofs.Fields.{body_with}
use Rattle.frame_reader.proofs.Codes.{by_code, name_and_amount}

-- ── a reader that takes just the bytes that are there ──────────────────────────────────────────

module _ {A : Type 0} {bs : List ℕ} {from to : ℕ} {reader : Reader A} {x : A} (takes : Takes bs from to reader x) where
  whole-fit : length bs ≡ to → whole (reader (drop from bs)) ≡ some x
  whole-fit e = ap whole (takes.long (omega arith)) ∙ rw (eq-eqb (length (drop to bs)) 0 (omega (arith, length-drop to bs)))

  -- too few bytes, or one is left over
  whole-misfit : from ≤ length bs → (length bs ≡ to → ⊥) → whole (reader (drop from bs)) ≡ none
  whole-misfit h other = by_bool (λ b. ltb (length bs) to ≡ b → whole (reader (drop from bs)) ≡ none) (ltb (length bs) to)
      (λ _ t. ap whole (takes.short h (ltb-true (length bs) to t)))
      (λ _ t. let l : to ≤ length bs = ltb-false (length bs) to t in
      ap whole (takes.long l) ∙ rw (ne_eqb (length (drop to bs)) 0 (λ z. other (omega (arith, length-drop to bs)))))
      refl

-- ── frames ─────────────────────────────────────────────────────────────────────────────────────

pub record Sized (bs : List ℕ) (size : ℕ) (x : Operation) : Type 0 where
  pub fit : length bs ≡ size → operation_of bs ≡ some x
  pub misfit : (length bs ≡ size → ⊥) → operation_of bs ≡ none

module _ {bs : List ℕ} (h : 1 ≤ length bs) where
  sized : {number size : ℕ} {x : Operation} {body : Reader Operation} → get_or bs 0 0 ≡ number → body_with number ≡ body → Takes bs 1 size body x → Sized bs size x
  sized {number} {body} e is takes =
      let read : operation_of bs ≡ whole (body (drop 1 bs)) = by_code bs h number e ∙ ap (λ r. whole (r (drop 1 bs))) is in
      record { fit = λ f. read ∙ whole-fit takes f; misfit = λ f. read ∙ whole-misfit takes h f }

  -- 07, 0b, 0d: the code alone
  pub alone : {number : ℕ} (x : Operation) → get_or bs 0 0 ≡ number → body_with number ≡ reads x → Sized bs 1 x
  alone x e is = sized e is (takes-nothing bs 1 x)

  -- 05: the identifier, then the amount
  pub committing : get_or bs 0 0 ≡ 5 → Sized bs two_words_end (on_account (commit (number_of (take 8 (drop 1 bs))) (amount_at word_end bs)))
  unfolding first codes
  committing e = sized e refl
      (takes-then _ (number-takes bs 1 word_end 8 refl) (omega arith)
      (takes-then _ (amount-takes bs word_end two_words_end refl) (omega arith)
      (takes-nothing bs two_words_end _)))

  -- 06: the identifier
  pub releasing : get_or bs 0 0 ≡ 6 → Sized bs word_end (on_account (release (number_of (take 8 (drop 1 bs)))))
  unfolding first codes
  releasing e = sized e refl (takes-then _ (number-takes bs 1 word_end 8 refl) (omega arith) (takes-nothing bs word_end _))

  -- 01 to 04: byte 1 is the length of the name, and the amount follows the name
  module _ (end : ℕ) (ends : end ≡ name_start + get_or bs 1 0) where
    pub naming : {number : ℕ} (operation : Name → ℤ → AccountOperation ℕ) → get_or bs 0 0 ≡ number → body_with number ≡ name_and_amount operation
        → Sized bs (end + 8) (on_account (operation (name_in bs end) (amount_at end bs)))
    naming operation e is = sized e is
        (takes-then _ (name-takes-from bs 1 name_start end refl ends) (omega arith)
        (takes-then _ (amount-takes bs end (end + 8) refl) (omega arith)
        (takes-nothing bs (end + 8) _)))
