-- The room with the rows put so far: what putting the next row asks, and what it makes of the room and of the total.
use mathlib.Core.Path.{◌≡◌, refl, sym, ◌∙◌, ap, subst}
use mathlib.Core.Bool.{true, false}
use mathlib.Core.List.{List, [], ◌∷◌, ◌++◌}
use Prim.Native.Nat.{ℕ, ◌+◌, ◌≤◌, min}
use native.Mathlib.Omega.{arith}
use borrow.Author.Tests.{lt-ltb, le-ltb}
use lib.IntN.{ℤ, pos}
use lib.ListN.{length}
use lib.Seq.{append_snoc}
use Rattle.rules.specs.Lists.{sum, All}
use Rattle.rules.specs.RoomAndSoundLedger.{M, Name, IsByte, Ledger, is_vacant, with_places, committed_total, fresh, longest_name}
use Rattle.rules.specs.AccountRules.{natural, seated, has_room}
use Rattle.rules.specs.SnapshotsMigrationCertificates.{Row, Snapshot, has_long_name, is_negative, validation, restored_seat, restored_places}
use Rattle.rules.proofs.Lists.{none_any}
use Rattle.rules.proofs.Checks.{both-pass, check-passes, validation-passes}
use Rattle.rules.proofs.SnapshotBytes.{snapshot-only}
use Rattle.rules.proofs.SnapshotSoundness.{restored-account}
use Rattle.moves.specs.Moves.{meaning, kept_seat, SeatSound}
use Rattle.moves.specs.declared.Seat.{Seat}
use Rattle.room.specs.Room.{contents_in, IsRoom, SoundRoom, OfRoom}
use Rattle.room.proofs.Decoding.{one-ledger}
use Rattle.snapshot_reader.specs.Standing.{OfSnapshot}
use Rattle.filling.specs.Filling.{Takes, Holds, NotNegative, seat_of_row, PutsRows}
use Rattle.filling.proofs.Placing.{Pass, restored-more, not-held, capped-total, rows-sound, row_fits, row-short, row-restorable, row-unseen, room_left}

-- ── what a ledger that takes a snapshot says of its rows ───────────────────────────────────────

pub passes : (t : ℕ) (bs : List ℕ) → All IsByte bs → Takes t bs → OfSnapshot bs (λ s. Pass t s.rows)
unfolding has_long_name validation
passes t bs bytes takes s e =
    let same : takes.snapshot ≡ s = cc in
    subst (λ (s : Snapshot). Pass t s.rows) same (record {
      fit = (snapshot-only bs bytes takes.snapshot takes.is_read).1.rows;
      short = none_any _ takes.snapshot.rows takes.short;
      restorable = validation-passes takes.snapshot takes.valid;
      unseen = (both-pass _ _ (check-passes _ _ _ takes.valid).1).0;
      few = takes.few;
    })

-- ── the rows put so far ────────────────────────────────────────────────────────────────────────

abbrev ledger_with : ℕ → ℕ → List Row → Ledger
ledger_with t r rs = with_places (fresh t r) (restored_places rs)

pub record Put (t r : ℕ) (room : List ℕ) (baseline : ℕ) (earlier later : List Row) : Type 0 where
  pub puts : PutsRows t r earlier room baseline
  pub pass : Pass t (earlier ++ later)

pub none-put : (room : List ℕ) (L : Ledger) → IsRoom room L → L ≡ fresh L.T L.R → (rs : List Row) → Pass L.T rs → Put L.T L.R room 0 [] rs
unfolding fresh restored_places committed_total sum
none-put room L is_room e rs pass = record { puts = record { is_room = subst (IsRoom room) e is_room; total = omega arith }; pass = pass }

not-below : (z : ℤ) → z ≡ pos (natural z) → NotNegative z
not-below z e = ap is_negative e ∙ le-ltb (natural z) 0 (omega arith)

-- ── the next row ───────────────────────────────────────────────────────────────────────────────

module _ {t r : ℕ} {room : List ℕ} {baseline : ℕ} {earlier : List Row} {row : Row} {later : List Row} (put : Put t r room baseline earlier (row ∷ later)) where
  -- its amounts are natural numbers
  pub row-natural : NotNegative row.initial × NotNegative row.remaining × NotNegative row.committed
  row-natural =
      let h = row-restorable t earlier row later put.pass in
      (not-below row.initial h.initial, not-below row.remaining h.remaining, not-below row.committed h.committed)

  row-seat : SeatSound (seat_of_row row)
  unfolding kept_seat
  row-seat =
      let h = restored-account row (row_fits t earlier row later put.pass) (row-restorable t earlier row later put.pass) in
      record { form = refl; adds_up = (h.0, h.1); limit = omega arith }

  with_room : has_room row.name (restored_seat row) (ledger_with t r earlier) ≡ true
  unfolding fresh
  with_room = rw (not-held row.name earlier (row-unseen t earlier row later put.pass), lt-ltb (length (restored_places earlier)) t (room_left t earlier row later put.pass))

  module _ {a : Name} (is_name : a ≡ row.name) {seat : Seat} (is-seat : seat ≡ seat_of_row row) where
    -- what putting it asks
    pub row-asks : SoundRoom room × (length a ≤ longest_name) × SeatSound seat × (is_vacant (meaning seat) ≡ false) × (OfRoom room (λ L. has_room a (meaning seat) L ≡ true))
    row-asks =
        let is_room = put.puts.is_room in (
          record { ledger = ledger_with t r earlier; is_room = is_room },
          subst (λ a. length a ≤ longest_name) (sym is_name) (row-short t earlier row later put.pass),
          subst SeatSound (sym is-seat) row-seat,
          ap (λ s. is_vacant (meaning s)) is-seat,
          λ L known. (λ i. has_room (is_name i) (meaning (is-seat i)) (one-ledger room L (ledger_with t r earlier) known is_room i)) ∙ with_room,
        )

    -- and what it makes of the room and of the total
    pub row_put : (after : List ℕ) (total : ℕ) → OfRoom room (λ L. Holds (with_places L (seated a (meaning seat) L.places)) room after)
        → total ≡ min (baseline + natural row.committed) M → Put t r after total (earlier ++ row ∷ []) later
    unfolding seated fresh
    row_put after total holds e =
        let is_room = put.puts.is_room in
        let done = holds (ledger_with t r earlier) is_room in
        let unseen = row-unseen t earlier row later put.pass in
        let pass = subst (Pass t) (sym (append_snoc earlier row later)) put.pass in
        record {
          puts = record {
            is_room = record {
              size = done.size ∙ is_room.size;
              holds = done.contents
                  ∙ (λ i. contents_in (with_places (fresh t r) (seated (is_name i) (meaning (is-seat i)) (restored_places earlier))))
                  ∙ ap (λ ps. contents_in (with_places (fresh t r) ps)) (sym (restored-more row earlier unseen));
              sound = rows-sound t r is_room.sound.names_in_range is_room.sound.reservations_in_range (earlier ++ row ∷ []) later pass;
            };
            total = e ∙ ap (λ n. min (n + natural row.committed) M) put.puts.total ∙ capped-total row earlier unseen;
          };
          pass = pass;
        }
