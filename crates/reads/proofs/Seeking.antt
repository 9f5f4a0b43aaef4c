-- The seat that is sought in the room of a sound ledger is the ledger's seat of the name, and what is read of it is what the rules tell.
use mathlib.Core.Path.{◌≡◌, refl, sym, ◌∙◌, ap, subst}
use mathlib.Core.Bool.{cond}
use mathlib.Core.List.{List, [], ◌∷◌}
use mathlib.Core.Option.{Option, none, some}
use Prim.Native.Nat.{ℕ, ◌≤◌}
use native.Mathlib.Omega.{arith}
use borrow.Author.Tests.{le-ltb}
use lib.Dec.{eqb}
use lib.IntN.{pos}
use lib.ListN.{length}
use Rattle.std.specs.Prelude.{Option as Found, Result, Ok, Err, IfOk}
use Rattle.rules.specs.RoomAndSoundLedger.{Name, Account, Ledger, seat_in, longest_name}
use Rattle.rules.specs.AnswerNumbers.{Value, Amount}
use Rattle.rules.specs.AccountRules.{refuse, perform, is_too_long, on_name, read_rule, read_reserved_rule}
use Rattle.rules.specs.AnswerNumbers as rules
use Rattle.rules.proofs.Tests.{by_bool}
use Rattle.moves.specs.Moves.{account_in, kept, kept_seat}
use Rattle.moves.specs.declared.Seat.{Seat}
use Rattle.refusals.specs.Answers.{answer_of}
use Rattle.refusals.specs.declared.Refusal.{Refusal}
use Rattle.refusals.specs.declared.Refusal.TheVariants.{NameTooLong, MissingTenant}
use Rattle.room.specs.Contents.{contents_of, used_places, place_of_name}
use Rattle.room.specs.Room.{IsRoom, SoundRoom, OfRoom}
use Rattle.room.specs.Seats.{seat_found}
use Rattle.room.proofs.Seating.{seat-found, seat-sound, Small, seat-small}
use Rattle.room.proofs.SoundRoom.{places-are}
use Rattle.reads.specs.Answers.{sought, with_account}

-- an amount of a seat, as it is told
abbrev tells : (Seat → ℕ) → Seat → List Value
tells of s = Amount (pos (of s)) ∷ []

-- the amount may be taken of the seat before this is tested for an account
pub taken-before : (of : Seat → ℕ) (s : Seat) → answer_of (λ _. tells of s) (with_account (Ok s)) ≡ answer_of (tells of) (with_account (Ok s))
taken-before of s = by_bool (λ b. answer_of {A = Seat} (λ _. tells of s) (cond b (Err MissingTenant) (Ok s)) ≡ answer_of (tells of) (cond b (Err MissingTenant) (Ok s))) (eqb s.account 0) (λ _. refl) (λ _. refl)

module _ (L : Ledger) (a : Name) where
  -- ── the look-up ──────────────────────────────────────────────────────────────────────────────

  pub sought-seat : (xs : List ℕ) → IsRoom xs L → (f : Found ℕ) (s : Seat) → length a ≤ longest_name → f ≡ place_of_name a (used_places (contents_of xs)) → s ≡ seat_found f (used_places (contents_of xs)) → Ok s ≡ sought L a
  sought-seat xs room f s short found_is seat_is =
      let is : s ≡ kept_seat (seat_in a L.places) =
      seat_is ∙ ap (λ f. seat_found f (used_places (contents_of xs))) found_is ∙ ap (λ ps. seat_found (place_of_name a ps) ps) (places-are xs L room) ∙ seat-found a L.places in
      rw (le-ltb longest_name (length a) short) (ap Ok is)

  -- what is sought has one refusal, 19
  pub sought-refused : (e : Refusal) → Err e ≡ sought L a → Err NameTooLong ≡ sought L a
  sought-refused e =
      let seat = kept_seat (seat_in a L.places) in
      by_bool (λ b. Err e ≡ cond b (Err NameTooLong) (Ok seat) → Err NameTooLong ≡ cond b (Err NameTooLong) (Ok seat)) (is_too_long a)
      (λ _ _. refl) (λ _ is. absurd (let z : ◌≡◌ {A = ℕ} 0 1 = cc in omega arith))

  -- ── what is read ─────────────────────────────────────────────────────────────────────────────

  -- an amount of an account
  pub read-account : (of : Account → ℕ) (r : Result Seat Refusal) → r ≡ sought L a → answer_of (tells (λ s. of (account_in s))) (with_account r) ≡ (on_name L a (read_rule of)).reply
  unfolding on_name read_rule perform kept_seat
  read-account of r is =
      let s = seat_in a L.places in
      ap (λ r. answer_of (tells (λ s. of (account_in s))) (with_account r)) is
      ∙ by_bool (λ b. answer_of (tells (λ s. of (account_in s))) (with_account (cond b (Err NameTooLong) (Ok (kept_seat s)))) ≡ (perform L a (cond b (refuse rules.NameTooLong) (read_rule of s.account s.limit))).reply) (is_too_long a)
      (λ _. refl) (λ _. of-kept s.account s.limit)
    where
      of-kept : (c : Option Account) (l : ℕ) → answer_of (tells (λ s. of (account_in s))) (with_account (Ok (kept c l))) ≡ (perform L a (read_rule of c l)).reply
      of-kept none l = refl
      of-kept (some c) l = refl

  -- "reserved of one gives 0": a seat in its one form has nothing reserved without an account
  pub read-reserved : (r : Result Seat Refusal) → r ≡ sought L a → answer_of (tells (λ s. s.reserved)) r ≡ (on_name L a read_reserved_rule).reply
  unfolding on_name read_reserved_rule perform kept_seat
  read-reserved r is =
      let s = seat_in a L.places in
      ap (answer_of (tells (λ s. s.reserved))) is
      ∙ by_bool (λ b. answer_of (tells (λ s. s.reserved)) (cond b (Err NameTooLong) (Ok (kept_seat s))) ≡ (perform L a (cond b (refuse rules.NameTooLong) (read_reserved_rule s.account s.limit))).reply) (is_too_long a)
      (λ _. refl) (λ _. of-kept s.account s.limit)
    where
      of-kept : (c : Option Account) (l : ℕ) → answer_of (tells (λ s. s.reserved)) (Ok (kept c l)) ≡ (perform L a (read_reserved_rule c l)).reply
      of-kept none l = refl
      of-kept (some c) l = refl

-- ── amounts ────────────────────────────────────────────────────────────────────────────────────

module _ (xs : List ℕ) (sound : SoundRoom xs) (a : Name) (s : Seat) where
  abbrev L : Ledger
  L = sound.ledger

  small : IfOk (sought L a) Small
  small =
      let seat = kept_seat (seat_in a L.places) in
      by_bool (λ b. IfOk {E = Refusal} (cond b (Err NameTooLong) (Ok seat)) Small) (is_too_long a) (λ _. tt) (λ _. seat-small seat (seat-sound L sound.is_room.sound a))

  pub sought-small : OfRoom xs (λ L. Ok s ≡ sought L a) → Small s
  sought-small is = subst (λ r. IfOk r Small) (sym (is L sound.is_room)) small
