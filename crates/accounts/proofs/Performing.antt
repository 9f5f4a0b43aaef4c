-- An account operation on the room of a sound ledger: the seat that was found is the name's, and what the rule decides of it, carried out in the room,
-- is the operation.
use mathlib.Core.Path.{◌≡◌, refl, sym, ◌∙◌, ap, subst}
use mathlib.Core.Bool.{Bool, true, cond}
use mathlib.Core.List.{List, map}
use mathlib.Core.Option.{Option, none}
use Prim.Native.Nat.{ℕ, ◌^◌, ◌≤◌, ◌<◌}
use borrow.Author.Tests.{lt-ltb, le-ltb}
use lib.IntN.{ℤ}
use lib.ListN.{length, get_or}
use lib.Signed.{mag}
use mir.Syntax.{w8}
use mir.Val.{Fits}
use Rattle.std.specs.Prelude.{Option as Found, Result, Ok, Err}
use Rattle.rules.specs.RoomAndSoundLedger.{Name, Account, Ledger, is_vacant, with_places, seat_in, Sound, longest_name}
use Rattle.rules.specs.AnswerNumbers.{Amount, Reply, Refusal, NameTooLong, NamesFull as FullOfNames, reply_of, Outcome, outcome, refused}
use Rattle.rules.specs.AccountRules.{Move, refuse, tell, write, seated, has_room, done_with, perform, is_too_long, on_name, ensure_rule, top_up_rule, limit_rule, ensure, top_up, limit, operate}
use Rattle.rules.specs.Domain.{IsAmount, IsBytes}
use Rattle.rules.proofs.Soundness.{operate-sound}
use Rattle.rules.proofs.Tests.{by_bool}
use Rattle.numbers.proofs.Bytes.{all-bytes}
use Rattle.numbers.proofs.Amounts.{amount-fits}
use Rattle.refusals.specs.declared.Refusal.{Refusal as TheRefusal}
use Rattle.refusals.specs.declared.Refusal.TheVariants.{NamesFull}
use Rattle.refusals.specs.Answers.{answer_of}
use Rattle.moves.specs.Moves.{account_of, meaning, kept_seat, SeatSound}
use Rattle.moves.specs.declared.Seat.{Seat}
use Rattle.room.specs.Contents.{contents_of, used_places, place_of_name}
use Rattle.room.specs.Room.{contents_in, IsRoom, SoundRoom, OfRoom, Performed, Performs}
use Rattle.room.specs.Seats.{seat_found}
use Rattle.room.proofs.Seating.{seat-found, kept-account, kept-limit, seat-sound}
use Rattle.room.proofs.SoundRoom.{places-are}
use Rattle.seats.specs.Writing.{WritesSeat}
use Rattle.accounts.proofs.Writes.{Vacates, ensure-vacates, top-up-vacates, limit-vacates}

-- an operation on a name: its rule, and what is known of it
pub record OnName (a : Name) : Type 0 where
  pub carry : Ledger → Outcome
  pub rule : Option Account → ℕ → Move
  pub is : (L : Ledger) → carry L ≡ on_name L a rule
  pub sound : (L : Ledger) → Sound L → Sound (carry L).ledger
  pub vacates : Vacates rule

-- what a function has seen when it asks the rule: the seat of a name that is not too long
pub record Seen (xs : List ℕ) (a : Name) (found : Found ℕ) (s : Seat) : Type 0 where
  pub sound : SoundRoom xs
  pub short : length a ≤ longest_name
  pub found_is : found ≡ place_of_name a (used_places (contents_of xs))
  pub seat_is : s ≡ seat_found found (used_places (contents_of xs))

-- the same, from what the test of the name's length, `find` and `seat_at` say
pub seen : {xs : List ℕ} {a : Name} {found : Found ℕ} {s : Seat} → SoundRoom xs → length a ≤ longest_name → found ≡ place_of_name a (used_places (contents_of xs))
    → s ≡ seat_found found (used_places (contents_of xs)) → Seen xs a found s
seen room short place there = record { sound = room; short = short; found_is = place; seat_is = there }

module _ {xs : List ℕ} {a : Name} {found : Found ℕ} {s : Seat} (looked : Seen xs a found s) where
  -- in the room of any ledger, it is the ledger's seat of the name
  seen-seat : (L : Ledger) → IsRoom xs L → s ≡ kept_seat (seat_in a L.places)
  seen-seat L room =
      looked.seat_is
      ∙ ap (λ f. seat_found f (used_places (contents_of xs))) looked.found_is
      ∙ ap (λ ps. seat_found (place_of_name a ps) ps) (places-are xs L room)
      ∙ seat-found a L.places

  seen-account : (L : Ledger) → IsRoom xs L → account_of s ≡ (seat_in a L.places).account
  seen-account L room = ap (λ t. account_of t) (seen-seat L room) ∙ kept-account (seat_in a L.places)

  seen-limit : (L : Ledger) → IsRoom xs L → s.limit ≡ (seat_in a L.places).limit
  seen-limit L room = ap (λ t. t.limit) (seen-seat L room) ∙ kept-limit (seat_in a L.places)

  -- what the rules by value ask
  pub seen-sound : SeatSound s
  seen-sound = let L = looked.sound.ledger in let room = looked.sound.is_room in subst SeatSound (sym (seen-seat L room)) (seat-sound L room.sound a)

  -- what the writing of a seat asks
  pub ready : (o : OnName a) (zs : List ℤ) (t : Seat) → write zs (meaning t) ≡ o.rule (account_of s) s.limit → SeatSound t
      → SoundRoom xs × (length a ≤ longest_name) × SeatSound t × (found ≡ place_of_name a (used_places (contents_of xs))) × OfRoom xs (λ L. is_vacant (meaning t) ≡ true → (seat_in a L.places).account ≡ none)
  ready o zs t e known =
      (looked.sound, looked.short, known, looked.found_is, λ L room v. sym (seen-account L room) ∙ o.vacates (account_of s) s.limit zs (meaning t) e v)

-- of the writing of a seat there is one refusal, 20
pub full : {a : Name} {t : Seat} {L : Ledger} {xs ys : List ℕ} {e : TheRefusal} → WritesSeat a t L xs ys (Err e) → WritesSeat a t L xs ys (Err NamesFull)
full {a} {t} {L} {e = e} w =
    let Told : Bool → Result (Unit {0}) TheRefusal → Type 0 = λ b r. r ≡ cond b (Ok tt) (Err NamesFull) in
    record { answer = by_bool (λ b. Told b (Err e) → Told b (Err NamesFull)) (has_room a (meaning t) L) (λ _ q. cc) (λ _ _. refl) w.answer; size = w.size; holds = w.holds }

-- ── the operation carried out ──────────────────────────────────────────────────────────────────

module _ {a : Name} (o : OnName a) (L : Ledger) where
  -- the move of the rule, behind the test of the name
  moved : Bool → Outcome
  moved b = perform L a (cond b (refuse NameTooLong) (o.rule (seat_in a L.places).account (seat_in a L.places).limit))

  carried : o.carry L ≡ moved (is_too_long a)
  unfolding on_name moved
  carried = o.is L

module _ {xs : List ℕ} {a : Name} (o : OnName a) where
  -- nothing changed
  unchanged : (L : Ledger) → IsRoom xs L → (r : Reply) → o.carry L ≡ outcome r L → Performed o.carry L r xs
  unchanged L room r e = record { answer = sym (ap (λ p. p.reply) e); room = subst (λ (p : Outcome). IsRoom xs p.ledger) (sym e) room }

  -- 19 before any rule
  pub too_long : longest_name < length a → Performs o.carry xs (reply_of NameTooLong) xs
  unfolding moved perform
  too_long h L room = unchanged L room (reply_of NameTooLong) (carried o L ∙ ap (moved o L) (lt-ltb longest_name (length a) h))

  module _ {found : Found ℕ} {s : Seat} (looked : Seen xs a found s) where
    decided : (L : Ledger) → IsRoom xs L → (m : Move) → m ≡ o.rule (account_of s) s.limit → o.carry L ≡ perform L a m
    unfolding moved
    decided L room m e =
        carried o L
        ∙ ap (moved o L) (le-ltb longest_name (length a) looked.short)
        ∙ sym (ap (perform L a) (e ∙ λ i. o.rule (seen-account looked L room i) (seen-limit looked L room i)))

    pub refuses : (e : Refusal) → refuse e ≡ o.rule (account_of s) s.limit → Performs o.carry xs (reply_of e) xs
    unfolding perform
    refuses e q L room = unchanged L room (reply_of e) (decided L room (refuse e) q)

    pub tells : (zs : List ℤ) → tell zs ≡ o.rule (account_of s) s.limit → Performs o.carry xs (done_with zs) xs
    unfolding perform
    tells zs q L room = unchanged L room (done_with zs) (decided L room (tell zs) q)

    -- done, with these amounts carried, or 20
    pub writes : (zs : List ℤ) (t : Seat) → write zs (meaning t) ≡ o.rule (account_of s) s.limit → (ys : List ℕ) (w : Result (Unit {0}) TheRefusal) → OfRoom xs (λ L. WritesSeat a t L xs ys w)
        → Performs o.carry xs (answer_of (λ _. map Amount zs) w) ys
    unfolding perform
    writes zs t q ys w stored L room =
        let after : Ledger = with_places L (seated a (meaning t) L.places) in
        let done = stored L room in
        by_bool
        (λ b. o.carry L ≡ cond b (outcome (done_with zs) after) (refused FullOfNames L) → w ≡ cond b (Ok tt) (Err NamesFull) → contents_of ys ≡ cond b (contents_in after) (contents_in L)
        → Performed o.carry L (answer_of (λ _. map Amount zs) w) ys)
        (has_room a (meaning t) L)
        (λ _ m e h. record {
          answer = ap (answer_of (λ _. map Amount zs)) e ∙ sym (ap (λ p. p.reply) m);
          room = subst (λ (p : Outcome). IsRoom ys p.ledger) (sym m)
              (record { size = done.size ∙ room.size; holds = h; sound = subst (λ (p : Outcome). Sound p.ledger) m (o.sound L room.sound) });
        })
        (λ _ m e h. record {
          answer = ap (answer_of (λ _. map Amount zs)) e ∙ sym (ap (λ p. p.reply) m);
          room = subst (λ (p : Outcome). IsRoom ys p.ledger) (sym m) (record { size = done.size ∙ room.size; holds = h; sound = room.sound });
        })
        (decided L room (write zs (meaning t)) q) done.answer done.holds

-- ── the three operations ───────────────────────────────────────────────────────────────────────

module _ (a : Name) (z : ℤ) where
  pub ensure-is : (L : Ledger) → operate L (ensure a z) ≡ on_name L a (ensure_rule z)
  unfolding operate
  ensure-is L = refl

  pub top-up-is : (L : Ledger) → operate L (top_up a z) ≡ on_name L a (top_up_rule z)
  unfolding operate
  top-up-is L = refl

  pub limit_is : (L : Ledger) → operate L (limit a z) ≡ on_name L a (limit_rule z)
  unfolding operate
  limit_is L = refl

  -- of bytes and a 64-bit amount
  module _ (given : (i : ℕ) → Fits w8 (get_or a i 0)) (small : mag z < 2 ^ 63) where
    pub fits : IsBytes a × IsAmount z
    fits = (all-bytes a given, amount-fits z small)

    abbrev pub ensuring : OnName a
    ensuring = record { carry = λ K. operate K (ensure a z); rule = ensure_rule z; is = ensure-is; sound = λ L s. operate-sound L s (ensure a z) fits; vacates = ensure-vacates z }

    abbrev pub topping_up : OnName a
    topping_up = record { carry = λ K. operate K (top_up a z); rule = top_up_rule z; is = top-up-is; sound = λ L s. operate-sound L s (top_up a z) fits; vacates = top-up-vacates z }

    abbrev pub limiting : OnName a
    limiting = record { carry = λ K. operate K (limit a z); rule = limit_rule z; is = limit_is; sound = λ L s. operate-sound L s (limit a z) fits; vacates = limit-vacates z }
