-- `frame_reader::read_named`: `naming` of Sized.antt, with the end of the name that byte 1 gives. `misfit` goes through the four codes for a frame of another
-- length, `fit` takes the amount that was read as the one that stands behind the name.
use mathlib.Core.Path.{◌≡◌, refl, sym, ◌∙◌, ap}
use mathlib.Core.List.{List}
use mathlib.Core.Option.{none, some}
use Prim.Native.Nat.{ℕ, zero, suc, ◌+◌, ◌-◌, ◌≤◌, ◌<◌}
use native.Mathlib.Omega.{arith}
use lib.IntN.{ℤ}
use lib.ListN.{length, take, drop, get_or}
use Rattle.rules.specs.Lists.{first}
use Rattle.rules.specs.RoomAndSoundLedger.{Name}
use Rattle.rules.specs.AccountRules.{AccountOperation, ensure, top_up, limit, reserve}
use Rattle.rules.specs.SnapshotsMigrationCertificates.{number_of, signed}
use Rattle.rules.specs.Frames.{on_account, codes, operation_of}
use Rattle.snapshot_reader.proofs.RowBytes.{amount_at}
use Rattle.frame_reader.specs.Operations.{name_start, name_in}
use Rattle.rules.proofs.Fields.{body_with}
use Rattle.frame_reader.proofs.Codes.{name_and_amount}
use Rattle.frame_reader.proofs.Sized.{naming}
use Rattle.frame_reader.proofs.read_named.Lts as place
use Rattle.frame_reader.proofs.read_named.Tie as tie
use Rattle.frame_reader.proofs.read_named.Goals as goal

abbrev After-shared_slice_known-2-1 : Type 0
After-shared_slice_known-2-1 = place.After-shared_slice_known2 tie.the-claims tie.handed_pre tie.handed_post tie.handed_clauses

abbrev After-read_amount-amount : Type 0
After-read_amount-amount = place.After-read_amount tie.the-claims tie.handed_pre tie.handed_post tie.handed_clauses

misfit : (bs : List ℕ) (code : ℕ) → 1 ≤ length bs → get_or bs 0 0 ≡ code → 1 ≤ code → code ≤ 4 → (length bs ≡ name_start + get_or bs 1 0 + 8 → ⊥) → operation_of bs ≡ none
unfolding first codes
misfit bs zero h e low high = absurd (omega arith)
misfit bs (suc zero) h e low high = (naming h _ refl ensure e refl).misfit
misfit bs (suc (suc zero)) h e low high = (naming h _ refl top_up e refl).misfit
misfit bs (suc (suc (suc zero))) h e low high = (naming h _ refl limit e refl).misfit
misfit bs (suc (suc (suc (suc zero)))) h e low high = (naming h _ refl reserve e refl).misfit
misfit bs (suc (suc (suc (suc (suc code))))) h e low high = absurd (omega arith)

pub returns-then-bytes-lt-NAME_START : goal.returns-then-bytes-lt-NAME_START
returns-then-bytes-lt-NAME_START c = let ((h, e), low, high) = c.requires in record { operation = sym (misfit _ c.args.code h e low high (omega arith)); parts = tt }

-- a byte is below 256
byte : (c : After-shared_slice_known-2-1) → get_or c.args.bytes.now 1 0 < 256
byte c = omega (arith, c.shared_slice_known-2-1.given 1)

pub returns-then-bytes-end : goal.returns-then-bytes-end
returns-then-bytes-end c =
    let ((h, e), low, high) = c.requires in record { operation = sym (misfit _ c.args.code h e low high (omega arith)); parts = tt }

module _ (c : After-read_amount-amount) where
  abbrev bytes : List ℕ
  bytes = c.args.bytes.now

  abbrev code : ℕ
  code = c.args.code

  abbrev end : ℕ
  end = name_start + get_or bytes 1 0

  fit : (number : ℕ) → code ≡ number → (operation : Name → ℤ → AccountOperation ℕ) → body_with number ≡ name_and_amount operation
      → (some (on_account (operation (name_in bytes end) c.read_amount-amount.result.0)) ≡ operation_of bytes) × ((name_start ≤ end) × (end ≤ length bytes))
  fit number k operation is =
      let ((h, e), low, high) = c.requires in
      let eight : length bytes - end ≡ 8 = omega arith in
      let amount : c.read_amount-amount.result.0 ≡ amount_at end bytes = c.read_amount-amount.ensures ∙ ap (λ size. signed (number_of (take size (drop end bytes)))) eight in
      (sym ((naming h end refl operation (e ∙ k) is).fit (omega arith) ∙ ap (λ z. some (on_account (operation (name_in bytes end) z))) (sym amount)), (omega arith, omega arith))

pub returns-in-1 : goal.returns-in-1
unfolding first codes
returns-in-1 c = let both = fit c.before.before 1 c.in-1.is ensure refl in record { operation = both.0; parts = both.1 }

pub returns-in-2 : goal.returns-in-2
unfolding first codes
returns-in-2 c = let both = fit c.before.before 2 c.in-2.is top_up refl in record { operation = both.0; parts = both.1 }

pub returns-in-3 : goal.returns-in-3
unfolding first codes
returns-in-3 c = let both = fit c.before.before 3 c.in-3.is limit refl in record { operation = both.0; parts = both.1 }

pub returns-in_default : goal.returns-in_default
unfolding first codes
returns-in_default c = let both = fit c.before.before 4 (omega arith) reserve refl in record { operation = both.0; parts = both.1 }

pub overflow_cast-end : goal.overflow_cast-end
overflow_cast-end c = record { fits = omega (arith, byte c.before) }

pub overflow_add-end : goal.overflow_add-end
overflow_add-end c = record { fits = omega (arith, byte c.before) }

pub overflow_add-end-2 : goal.overflow_add-end-2
overflow_add-end-2 c = record { fits = omega (arith, byte c.before) }
