-- What an operation promises, from its outcome: a refusal changes nothing; else the room is that of the ledger after it.
use mathlib.Core.Path.{◌≡◌, sym, ap, subst}
use mathlib.Core.List.{List}
use Prim.Native.Nat.{ℕ}
use native.Mathlib.Omega.{arith}
use lib.ListN.{length}
use Rattle.rules.specs.RoomAndSoundLedger.{Ledger, Sound}
use Rattle.rules.specs.AnswerNumbers.{Reply, Outcome, outcome}
use Rattle.rules.specs.AccountRules.{AccountOperation, operate}
use Rattle.rules.specs.Domain.{AccountOperationFits}
use Rattle.rules.proofs.Soundness.{operate-sound}
use Rattle.room.specs.Contents.{contents_of}
use Rattle.room.specs.Room.{contents_in, IsRoom, Performed}

module _ (x : AccountOperation ℕ) (L : Ledger) (xs : List ℕ) (room : IsRoom xs L) (r : Reply) where
  pub stays : operate L x ≡ outcome r L → Performed (λ K. operate K x) L r xs
  stays e = record { answer = sym (ap (λ o. o.reply) e); room = subst (IsRoom xs) (sym (ap (λ o. o.ledger) e)) room }

  pub becomes : AccountOperationFits x → (K : Ledger) → operate L x ≡ outcome r K → K.T ≡ L.T → K.R ≡ L.R
      → (ys : List ℕ) → length ys ≡ length xs → contents_of ys ≡ contents_in K → Performed (λ K. operate K x) L r ys
  becomes fits K e t n ys l k =
      record {
        answer = sym (ap (λ o. o.reply) e);
        room = subst (IsRoom ys) (sym (ap (λ o. o.ledger) e))
            (record { size = omega (arith, room.size); holds = k; sound = subst (λ (o : Outcome). Sound o.ledger) e (operate-sound L room.sound x fits) });
      }
