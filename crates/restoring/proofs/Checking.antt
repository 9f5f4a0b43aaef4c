-- The checks of a restore in their order, one law for each answer; each supposes what the checks before it found.
use mathlib.Core.Path.{◌≡◌, sym, ap, ◌∙◌}
use mathlib.Core.Bool.{true, false}
use mathlib.Core.Option.{none, some}
use Prim.Native.Nat.{ℕ, ◌≤◌, ◌<◌}
use borrow.Author.Tests.{lt-ltb, le-ltb}
use lib.ListN.{length}
use Rattle.std.specs.Prelude.{Result, Ok, Err}
use Rattle.rules.specs.AnswerNumbers.{Refusal, NameTooLong, NamesFull}
use Rattle.rules.specs.SnapshotsMigrationCertificates.{Snapshot, has_long_name, validation, restore_refusal}
use Rattle.refusals.specs.declared.Refusal.{Refusal as Told}
use Rattle.refusals.specs.Answers.{refusal_of, refusal_in}
use Rattle.validation.proofs.Deciding.{decides, goes_on, refuses, passes_on}

module _ (names : ℕ) (s : Snapshot) (of-version : Result (Unit {0}) Told) where
  pub long-name : has_long_name s.rows ≡ true → some NameTooLong ≡ restore_refusal (refusal_in of-version) names s
  unfolding restore_refusal
  long-name e = sym (decides _ _ _ e)

  module _ (short : has_long_name s.rows ≡ false) where
    pub version-refused : {e : Told} → of-version ≡ Err e → some (refusal_of e) ≡ restore_refusal (refusal_in of-version) names s
    unfolding restore_refusal
    version-refused is = refuses _ (ap refusal_in (sym is)) ∙ sym (goes_on _ _ _ short)

    module _ {x : Unit {0}} (passed : of-version ≡ Ok x) where
      pub validation-refused : {e : Refusal} → some e ≡ validation s → some e ≡ restore_refusal (refusal_in of-version) names s
      unfolding restore_refusal
      validation-refused is = refuses _ is ∙ passes_on _ (ap refusal_in (sym passed)) ∙ sym (goes_on _ _ _ short)

      module _ (valid : none ≡ validation s) where
        pub names_full : names < length s.rows → some NamesFull ≡ restore_refusal (refusal_in of-version) names s
        unfolding restore_refusal
        names_full h =
            sym (decides _ _ _ (lt-ltb names (length s.rows) h)) ∙ passes_on _ valid ∙ passes_on _ (ap refusal_in (sym passed)) ∙ sym (goes_on _ _ _ short)

        pub passes_all : length s.rows ≤ names → none ≡ restore_refusal (refusal_in of-version) names s
        unfolding restore_refusal
        passes_all h =
            sym (goes_on _ _ _ (le-ltb names (length s.rows) h)) ∙ passes_on _ valid ∙ passes_on _ (ap refusal_in (sym passed)) ∙ sym (goes_on _ _ _ short)
