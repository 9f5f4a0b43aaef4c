-- Each result of the eight functions can be read back from its answer: what is done value by value, and a refusal by its number and by what it carries (`answer-read`, crate refusals).
-- Of a snapshot's size that takes what the contract says beside the answer, that it lies within the output.
use mathlib.Core.Path.{◌≡◌, refl, ap, ◌∙◌, subst}
use mathlib.Core.List.{List}
use Prim.Native.Nat.{ℕ, ◌≤◌}
use native.Mathlib.Omega.{arith}
use lib.ListN.{length, drop, length-append, length-drop}
use lib.Seq.{length-take-le}
use Rattle.std.specs.Prelude.{Result, IfOk}
use Rattle.rules.specs.AnswerNumbers.{Reply}
use Rattle.rules.specs.SnapshotsMigrationCertificates.{handed_out, output_after}
use Rattle.refusals.specs.declared.Refusal.{Refusal}
use Rattle.refusals.specs.Answers.{answer_of, carries_snapshot}
use Rattle.refusals.proofs.SameResult.{amount_at, number_at, yes_at, bytes_at, ReadBack, HandsOver, answer-read, answer_back, answer-back}
use Rattle.certificates.specs.Certified.{carries_certificate, carries_proof}
use Rattle.certificates.specs.declared.Certificate.{Certificate}
use Rattle.certificates.specs.declared.Proof.{Proof}

-- ── certificates and the conservation proof ────────────────────────────────────────────────────

abbrev certificate_in : Reply → Certificate
certificate_in r = record {
  version = number_at r 0;
  rows = number_at r 1;
  active = number_at r 2;
  balanced = yes_at r 3;
  initial_total = amount_at r 4;
  committed_total = amount_at r 5;
  representable = yes_at r 6;
  since = amount_at r 7;
}

certificate-read : HandsOver carries_certificate
certificate-read = record { back = certificate_in; is = λ _. refl }

pub certified-read : ReadBack (answer_of carries_certificate)
certified-read = answer-read carries_certificate certificate-read

abbrev proof_in : Reply → Proof
proof_in r = record { version = number_at r 0; accounts = number_at r 1; active = number_at r 2; initial_total = amount_at r 3; committed_total = amount_at r 4 }

proof-read : HandsOver carries_proof
proof-read = record { back = proof_in; is = λ _. refl }

pub proved-read : ReadBack (answer_of carries_proof)
proved-read = answer-read carries_proof proof-read

-- ── the size of a snapshot ─────────────────────────────────────────────────────────────────────

abbrev size_in : Reply → ℕ
size_in r = length (bytes_at r 0)

pub sized_in : Reply → Result ℕ Refusal
sized_in = answer_back size_in

-- an answer makes no output shorter
as_long : (r : Reply) (before after : List ℕ) → after ≡ output_after r before → length before ≤ length after
as_long r before after is =
    let handed = handed_out r.carried in
    omega (arith, ap length is ∙ length-append handed (drop (length handed) before), length-drop (length handed) before)

module _ (output after : List ℕ) (r : Result ℕ Refusal) (is : after ≡ output_after (answer_of (carries_snapshot after) r) output)
    (within : IfOk r (λ size. size ≤ length output)) where
  pub size-read : sized_in (answer_of (carries_snapshot after) r) ≡ r
  unfolding sized_in
  size-read = answer-back (carries_snapshot after) size_in r (λ size e.
      let fits : size ≤ length output = subst (λ (s : Result ℕ Refusal). IfOk s (λ n. n ≤ length output)) e within in
      length-take-le size after (omega (arith, as_long (answer_of (carries_snapshot after) r) output after is, fits)))
