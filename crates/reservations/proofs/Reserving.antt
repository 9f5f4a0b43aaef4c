-- A reserve: what the code decides is the rule's move at the name's seat, and each answer performs it.
use mathlib.Core.Path.{◌≡◌, refl, sym, ◌∙◌, ap, ap₂, subst}
use mathlib.Core.Bool.{Bool, true, false, cond}
use mathlib.Core.List.{List, [], ◌∷◌, ◌++◌}
use Prim.Native.Nat.{ℕ, ◌^◌, ◌≤◌, ◌<◌}
use native.Mathlib.Omega.{arith}
use borrow.Author.Tests.{lt-ltb, le-ltb, eq-eqb, ne_eqb}
use lib.IntN.{ℤ, pos}
use lib.ListN.{length, get_or}
use lib.Signed.{mag}
use mir.Syntax.{w8}
use mir.Val.{Fits}
use Rattle.std.specs.Prelude.{Option, Some, None, Result}
use Rattle.std.proofs.lemmas.List.{length-take}
use Rattle.rules.specs.RoomAndSoundLedger.{M, Name, Seat as RulesSeat, Ledger, with_places, with_bookings, seat_in, has_account, holds_place, longest_name}
use Rattle.rules.specs.AnswerNumbers.{Amount, Identifier as TheIdentifier, Reply, done, NameTooLong, ReservationsFull, Refusal, reply_of, outcome, refused}
use Rattle.rules.specs.AccountRules.{Move, refuse, lose, book, reserve_rule, next_id_is_m, reserve, operate, on_name, perform, drawn, seated}
use Rattle.rules.specs.Domain.{IsBytes, IsAmount}
use Rattle.rules.proofs.Places.{account-holds}
use Rattle.numbers.specs.declared.Identifier.{Identifier}
use Rattle.numbers.specs.declared.Held.{Held}
use Rattle.numbers.proofs.Bytes.{all-bytes}
use Rattle.numbers.proofs.Amounts.{amount-fits}
use Rattle.refusals.specs.declared.Refusal.{Refusal as TheRefusal}
use Rattle.refusals.specs.Answers.{answer_of}
use Rattle.moves.specs.Moves.{account_of, meaning, kept_seat, SeatSound}
use Rattle.moves.specs.declared.Seat.{Seat}
use Rattle.records.specs.declared.Head.{Head}
use Rattle.records.specs.Records.{booking, head_of}
use Rattle.heads.specs.Heads.{identifier_at, after_draw, drawn_head}
use Rattle.heads.specs.declared.Drawn.{Drawn}
use Rattle.heads.proofs.Draws.{none_left, one_left, old-next-id, head-drawn}
use Rattle.room.specs.Contents.{contents_of, Sized, used_places, place_of_name, with_head, appended_booking}
use Rattle.room.specs.Room.{place_number, head_in, contents_in, IsRoom, SoundRoom, Performs}
use Rattle.room.specs.Seats.{FoundIn, seat_found, with_seat}
use Rattle.room.proofs.Numbers.{found_number}
use Rattle.room.proofs.Steps.{id-drawn}
use Rattle.room.proofs.Seating.{seat-found, kept-account, kept-limit, seat-sound, seat-small}
use Rattle.room.proofs.Settling.{booked-contents}
use Rattle.room.proofs.SoundRoom.{head-is, places-are, sized}
use Rattle.tables.specs.Steps.{Becomes}
use Rattle.lookup.proofs.Places.{seat-readable}
use Rattle.reservations.specs.Answers.{carries_grant}
use Rattle.reservations.specs.Steps.{Booked, granted, full}
use Rattle.reservations.specs.declared.Granted.{Granted}
use Rattle.reservations.proofs.Fitting.{reserve-keeps}
use Rattle.reservations.proofs.Performing.{stays, becomes}

-- ── what a booking comes to ────────────────────────────────────────────────────────────────────

-- the ledger after a reserve that is granted
abbrev booked_ledger : Ledger → Name → RulesSeat → ℕ → Ledger
booked_ledger L a s cost = with_bookings (with_places (drawn L) (seated a s L.places)) (L.bookings ++ record { id = L.next_id; name = a; amount = cost } ∷ [])

abbrev granted_reply : ℤ → ℕ → Reply
granted_reply remaining id = done (Amount remaining ∷ TheIdentifier id ∷ [])

module _ (L : Ledger) (a : Name) (remaining : ℕ) (s : RulesSeat) (cost : ℕ) where
  performed-booking : length L.bookings < L.R → perform L a (book remaining s cost) ≡ outcome (granted_reply (pos remaining) L.next_id) (booked_ledger L a s cost)
  unfolding perform
  performed-booking left = rw (lt-ltb (length L.bookings) L.R left)

  performed-full : L.R ≤ length L.bookings → perform L a (book remaining s cost) ≡ refused ReservationsFull L
  unfolding perform
  performed-full all = rw (le-ltb (length L.bookings) L.R all)

-- ── what a reserve has seen when it asks the rule ──────────────────────────────────────────────

-- the seat of a name that is not too long, and the draw of an id
pub record Seen (xs : List ℕ) (a : Name) (found : Option ℕ) (s : Seat) (w : Drawn) : Type 0 where
  pub sound : SoundRoom xs
  pub short : length a ≤ longest_name
  pub found_is : found ≡ place_of_name a (used_places (contents_of xs))
  pub seat_is : s ≡ seat_found found (used_places (contents_of xs))
  pub drew : w ≡ drawn_head (head_of xs)

-- the same, from what the test of the name's length, `find`, `seat_at`, `load_head` and `after_draw` say
pub seen : {xs : List ℕ} {a : Name} {found : Option ℕ} {s : Seat} {h : Head} {w : Drawn} → SoundRoom xs → length a ≤ longest_name → found ≡ place_of_name a (used_places (contents_of xs))
    → s ≡ seat_found found (used_places (contents_of xs)) → h ≡ head_of xs → w ≡ drawn_head h → Seen xs a found s w
seen room short place there loaded drew = record { sound = room; short = short; found_is = place; seat_is = there; drew = drew ∙ ap drawn_head loaded }

module _ {xs : List ℕ} {a : Name} {found : Option ℕ} {s : Seat} {w : Drawn} (looked : Seen xs a found s w) where
  -- in the room of any ledger, the seat is the ledger's seat of the name
  seen-seat : (L : Ledger) → IsRoom xs L → s ≡ kept_seat (seat_in a L.places)
  seen-seat L room =
      looked.seat_is
      ∙ ap (λ f. seat_found f (used_places (contents_of xs))) looked.found_is
      ∙ ap (λ ps. seat_found (place_of_name a ps) ps) (places-are xs L room)
      ∙ seat-found a L.places

  seen-account : (L : Ledger) → IsRoom xs L → account_of s ≡ (seat_in a L.places).account
  seen-account L room = ap (λ t. account_of t) (seen-seat L room) ∙ kept-account (seat_in a L.places)

  seen-limit : (L : Ledger) → IsRoom xs L → s.limit ≡ (seat_in a L.places).limit
  seen-limit L room = ap (λ t. t.limit) (seen-seat L room) ∙ kept-limit (seat_in a L.places)

  -- what the rule by value asks
  pub seen-sound : SeatSound s
  seen-sound = let L = looked.sound.ledger in let room = looked.sound.is_room in subst SeatSound (sym (seen-seat L room)) (seat-sound L room.sound a)

  pub seen-sized : Sized xs
  seen-sized = sized xs looked.sound.ledger looked.sound.is_room

  -- ── a name with an account is found in its place ─────────────────────────────────────────────

  module _ (has : has_account (account_of s) ≡ true) where
    holds : (L : Ledger) → IsRoom xs L → holds_place a L.places ≡ true
    holds L room = account-holds a L.places (subst (λ c. has_account c ≡ true) (seen-account L room) has)

    found_at : (L : Ledger) → IsRoom xs L → found ≡ Some (place_number a L.places)
    found_at L room = looked.found_is ∙ ap (place_of_name a) (places-are xs L room) ∙ found_number a L.places ∙ ap (λ b. cond b (Some (place_number a L.places)) None) (holds L room)

  place-in-use : (i : ℕ) → found ≡ Some i → i < (contents_of xs).sizes.used
  place-in-use i e =
      let within = subst (λ f. FoundIn f (used_places (contents_of xs))) e (seat-readable xs looked.sound a found looked.found_is).1 in
      omega (arith, within, length-take (contents_of xs).sizes.used (contents_of xs).places)

  -- what the booking asks
  pub ready : (t : Seat) → SeatSound t → (i : ℕ) → found ≡ Some i → Sized xs × (i < (contents_of xs).sizes.used) × (t.remaining ≤ M)
  ready t known i e = (seen-sized, place-in-use i e, (seat-small t known).remaining)

  -- ── what was drawn says whether the next id is M ─────────────────────────────────────────────

  module _ (L : Ledger) (room : IsRoom xs L) where
    next-is : (head_of xs).next_id ≡ L.next_id
    next-is = ap (λ (g : Head). g.next_id) (head-is xs L room)

    none-drawn : w.id ≡ None → true ≡ next_id_is_m L
    none-drawn e =
        let all = none_left (head_of xs).next_id (sym (ap (λ (d : Drawn). d.id) looked.drew) ∙ e) in
        sym (eq-eqb L.next_id M (omega (arith, next-is, all, room.sound.next_id)))

    module _ (id : Identifier) (e : w.id ≡ Some id) where
      id-is : identifier_at (head_of xs).next_id ≡ Some id
      id-is = sym (ap (λ (d : Drawn). d.id) looked.drew) ∙ e

      one-drawn : false ≡ next_id_is_m L
      one-drawn = let left = one_left (head_of xs).next_id id id-is in sym (ne_eqb L.next_id M (λ q. omega (arith, next-is, left)))

      drawn-id : id.0 ≡ L.next_id
      drawn-id = old-next-id (head_of xs).next_id id id-is ∙ next-is

      -- the head after the draw
      drawn-after : w.head ≡ head_in (drawn L)
      drawn-after = ap (λ (d : Drawn). d.head) looked.drew ∙ head-drawn (head_of xs) (one_left (head_of xs).next_id id id-is) ∙ ap after_draw (head-is xs L room)

-- ── the operation carried out ──────────────────────────────────────────────────────────────────

module _ {xs : List ℕ} (a : Name) (z : ℤ) where
  -- 19 before any rule
  pub too_long : longest_name < length a → Performs (λ K. operate K (reserve a z)) xs (reply_of NameTooLong) xs
  too_long long L room = stays (reserve a z) L xs room (reply_of NameTooLong) (unfold operate on_name perform in rw (lt-ltb longest_name (length a) long))

  module _ {found : Option ℕ} {s : Seat} {w : Drawn} (looked : Seen xs a found s w) where
    decided : (L : Ledger) → IsRoom xs L → (m : Move) → m ≡ reserve_rule z (next_id_is_m L) (account_of s) s.limit → operate L (reserve a z) ≡ perform L a m
    decided L room m by-rule =
        let own : RulesSeat = seat_in a L.places in
        let rule : Move = reserve_rule z (next_id_is_m L) own.account own.limit in
        let named : operate L (reserve a z) ≡ perform L a rule = unfold operate on_name in rw (le-ltb longest_name (length a) looked.short) in
        named ∙ ap (perform L a) (sym (by-rule ∙ ap₂ (reserve_rule z (next_id_is_m L)) (seen-account looked L room) (seen-limit looked L room)))

    -- refused, whatever was drawn
    pub refuses : (e : Refusal) → ((last : Bool) → refuse e ≡ reserve_rule z last (account_of s) s.limit) → Performs (λ K. operate K (reserve a z)) xs (reply_of e) xs
    unfolding perform
    refuses e q L room = stays (reserve a z) L xs room (reply_of e) (decided L room (refuse e) (q (next_id_is_m L)))

    -- refused where no id was left
    pub refuses_last : (e : Refusal) → w.id ≡ None → refuse e ≡ reserve_rule z true (account_of s) s.limit → Performs (λ K. operate K (reserve a z)) xs (reply_of e) xs
    unfolding perform
    refuses_last e none q L room =
        stays (reserve a z) L xs room (reply_of e) (decided L room (refuse e) (q ∙ ap (λ last. reserve_rule z last (account_of s) s.limit) (none-drawn looked L room none)))

    -- an id was drawn
    module _ (id : Identifier) (one : w.id ≡ Some id) (given : (i : ℕ) → Fits w8 (get_or a i 0)) (small : mag z < 2 ^ 63) where
      fits : IsBytes a × IsAmount z
      fits = (all-bytes a given, amount-fits z small)

      drew : (L : Ledger) → IsRoom xs L → (m : Move) → m ≡ reserve_rule z false (account_of s) s.limit → operate L (reserve a z) ≡ perform L a m
      drew L room m q = decided L room m (q ∙ ap (λ last. reserve_rule z last (account_of s) s.limit) (one-drawn looked L room id one))

      -- and is lost
      pub loses : (e : Refusal) → lose e ≡ reserve_rule z false (account_of s) s.limit → (ys : List ℕ) → Becomes (with_head w.head) xs ys → Performs (λ K. operate K (reserve a z)) xs (reply_of e) ys
      unfolding perform
      loses e q ys (l, k) L room =
          becomes (reserve a z) L xs room (reply_of e) fits (drawn L) (drew L room (lose e) q) refl refl ys l
          (k ∙ ap₂ with_head (drawn-after looked L room id one) room.holds ∙ id-drawn L)

      -- and is granted
      module _ (t : Seat) (cost : Held) (q : book t.remaining (meaning t) cost.0 ≡ reserve_rule z false (account_of s) s.limit) (known : SeatSound t) (has : has_account (account_of s) ≡ true) (i : ℕ) (at : found ≡ Some i) where
        counts : (L : Ledger) → IsRoom xs L → ((contents_of xs).sizes.live ≡ length L.bookings) × ((contents_of xs).sizes.reservations ≡ L.R)
        unfolding contents_in
        counts L room = (ap (λ c. c.sizes.live) room.holds, ap (λ c. c.sizes.reservations) room.holds)

        pub books : {r : Result Granted TheRefusal} {ys : List ℕ} → Booked i t cost id w.head xs r ys → Performs (λ K. operate K (reserve a z)) xs (answer_of carries_grant r) ys
        books (granted remaining ys left p l k) L room =
            let number : i ≡ place_number a L.places = (let place : found ≡ Some (place_number a L.places) = found_at looked has L room in cc) in
            let head : w.head ≡ head_in (drawn L) = drawn-after looked L room id one in
            let next : id.0 ≡ L.next_id = drawn-id looked L room id one in
            let sizes = counts L room in
            let room_left : length L.bookings < L.R = omega arith in
            let taken = reserve-keeps z false (account_of s) s.limit t.remaining cost.0 (meaning t) q in
            let stepped : with_head w.head (appended_booking (record { id = id; amount = cost; owner = i }) (with_seat i t (contents_of xs)))
            ≡ with_head (head_in (drawn L)) (appended_booking (booking L.next_id cost.0 (place_number a L.places)) (with_seat (place_number a L.places) t (contents_in L)))
            = (λ j. with_head (head j) (appended_booking (booking (next j) cost.0 (number j)) (with_seat (number j) t (room.holds j)))) in
            rw (p, next)
            (becomes (reserve a z) L xs room (granted_reply (pos t.remaining) L.next_id) fits (booked_ledger L a (meaning t) cost.0)
            (drew L room (book t.remaining (meaning t) cost.0) q ∙ performed-booking L a t.remaining (meaning t) cost.0 room_left) refl refl ys l
            (k ∙ stepped ∙ booked-contents L room.sound a t known taken (holds looked has L room) cost.0 room_left))
        books (full n) L room =
            let sizes = counts L room in
            stays (reserve a z) L xs room (reply_of ReservationsFull) (drew L room (book t.remaining (meaning t) cost.0) q ∙ performed-full L a t.remaining (meaning t) cost.0 (omega arith))
