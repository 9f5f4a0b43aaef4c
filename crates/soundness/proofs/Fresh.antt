-- When a ledger is made, and that zeros with the sizes and the head stored over them are its room.
use mathlib.Core.Path.{◌≡◌, refl, sym, ap, ap₂, ◌∙◌}
use mathlib.Core.Bool.{true, cond, ◌&&◌}
use mathlib.Core.List.{List, []}
use mathlib.Core.Option.{none, some}
use Prim.Native.Nat.{ℕ, ◌+◌, ◌-◌, ◌*◌, ◌≤◌}
use native.Mathlib.Omega.{arith}
use borrow.Author.Tests.{leb-true, le-leb, eq-eqb, ne_eqb}
use lib.Dec.{leb}
use lib.ListN.{length, replicate, length-replicate}
use Rattle.rules.specs.RoomAndSoundLedger.{Ledger, InRange, is_in_range, fresh, made, most_names, most_reservations}
use Rattle.rules.proofs.Tests.{by-test, by-option, and-true, none-some}
use Rattle.rules.proofs.SnapshotSoundness.{fresh-sound}
use Rattle.records.specs.Layout.{ledger_head_offset, ledger_head_size, counts_offset, capacity_offset, pair_size, place_size, booking_size, head_size}
use Rattle.records.specs.Rows.{put}
use Rattle.records.specs.Records.{place_of, place_bytes, booking_of, booking_bytes, pair_bytes, head_bytes, SizesFit, HeadFits, places, bookings}
use Rattle.records.specs.declared.Head.{Head}
use Rattle.records.specs.declared.Sizes.{Sizes}
use Rattle.records.proofs.Records.{bytes-of-place, bytes-of-booking, pair-length}
use Rattle.records.proofs.Rows.{put-length}
use Rattle.records.proofs.Room.{sizes-stored, head-stored}
use Rattle.room.specs.Contents.{contents, contents_of, base_of, room_size, empty_place, empty_booking}
use Rattle.room.specs.Room.{filled, contents_in, IsRoom}
use Rattle.room.specs.LedgerBytes.{ledger_bytes}
use Rattle.room.proofs.LedgerBytes.{is-its-room}
use Rattle.soundness.specs.Making.{made_in}
use Rattle.soundness.proofs.Zeros.{zeros, row-zeros, zeros-empty}
use Rattle.soundness.proofs.Parts.{empty-place, empty-booking, contents-with}

-- ── when a ledger is made ──────────────────────────────────────────────────────────────────────

in_range : (low high n : ℕ) → is_in_range low high n ≡ true → InRange low high n
in_range low high n e = let (a, b) = and-true (leb low n) (leb n high) e in (leb-true low n a, leb-true n high b)

is_in_range-holds : (low high n : ℕ) → InRange low high n → is_in_range low high n ≡ true
is_in_range-holds low high n h = ap₂ ◌&&◌ (le-leb low n h.0) (le-leb n high h.1)

module _ (t r : ℕ) where
  pub made_some : (L : Ledger) → made t r ≡ some L → InRange 1 most_names t × InRange 1 most_reservations r × (fresh t r ≡ L)
  unfolding made
  made_some L =
      by-test (λ o. o ≡ some L → InRange 1 most_names t × InRange 1 most_reservations r × (fresh t r ≡ L)) (is_in_range 1 most_names t && is_in_range 1 most_reservations r)
      (λ e h. let (a, b) = and-true (is_in_range 1 most_names t) (is_in_range 1 most_reservations r) e in let q : fresh t r ≡ L = cc in (in_range 1 most_names t a, in_range 1 most_reservations r b, q))
      (λ e h. none-some h)

  pub made-fresh : InRange 1 most_names t → InRange 1 most_reservations r → made t r ≡ some (fresh t r)
  unfolding made
  made-fresh h k = rw (is_in_range-holds 1 most_names t h, is_in_range-holds 1 most_reservations r k)

-- the ledger that is made is sound, so memory of its size and contents is its room
pub made-room : (t r : ℕ) → InRange 1 most_names t → InRange 1 most_reservations r → (after : List ℕ) → length after ≡ room_size t r → contents_of after ≡ contents_in (fresh t r) → IsRoom after (fresh t r)
unfolding fresh
made-room t r a b after size holds = record { size = size; holds = holds; sound = fresh-sound t r a b }

-- ── in which memory ────────────────────────────────────────────────────────────────────────────

-- the bytes that a fresh ledger takes
pub fresh-size : (t r : ℕ) → InRange 1 most_names t → InRange 1 most_reservations r → length (ledger_bytes (fresh t r)) ≡ room_size t r
unfolding fresh
fresh-size t r a b = (is-its-room (fresh t r) (fresh-sound t r a b)).size

module _ (t r : ℕ) (memory : List ℕ) where
  pub made-here : InRange 1 most_names t → InRange 1 most_reservations r → length memory ≡ room_size t r → made_in memory (made t r) ≡ some (fresh t r)
  made-here a b size =
      ap (made_in memory) (made-fresh t r a b) ∙ ap (λ x. cond x (some (fresh t r)) none) (eq-eqb (length memory) (length (ledger_bytes (fresh t r))) (size ∙ sym (fresh-size t r a b)))

  pub none_here : (InRange 1 most_names t → InRange 1 most_reservations r → length memory ≡ room_size t r → ⊥) → made_in memory (made t r) ≡ none
  none_here out = by-option (λ o. made_in memory o ≡ none) (made t r) (λ _. refl)
      (λ L e.
      let (a, b, q) = made_some t r L e in
      ap (λ x. cond x (some L) none)
      (ne_eqb (length memory) (length (ledger_bytes L)) (λ h. out a b (h ∙ ap (λ K. length (ledger_bytes K)) (sym q) ∙ fresh-size t r a b))))

-- ── the room of a fresh ledger ─────────────────────────────────────────────────────────────────

abbrev pub fresh_sizes : (t r : ℕ) → Sizes
fresh_sizes t r = record { names = t; reservations = r; used = 0; live = 0 }

abbrev pub fresh_head : Head
fresh_head = record { next_id = 1; last_version = 0; baseline = 0 }

abbrev pub sizes_put : Sizes → List ℕ → List ℕ
sizes_put s xs = put counts_offset pair_size (put capacity_offset pair_size xs (pair_bytes s.names s.reservations)) (pair_bytes s.used s.live)

sizes-put-length : (s : Sizes) (xs : List ℕ) → head_size ≤ length xs → length (sizes_put s xs) ≡ length xs
sizes-put-length s xs h =
    let ys = put capacity_offset pair_size xs (pair_bytes s.names s.reservations) in
    let e : length ys ≡ length xs = put-length capacity_offset pair_size xs (pair_bytes s.names s.reservations) (omega arith) (pair-length s.names s.reservations) in
    put-length counts_offset pair_size ys (pair_bytes s.used s.live) (omega arith) (pair-length s.used s.live) ∙ e

filled_none : {A : Type 0} (n : ℕ) (x : A) → replicate n x ≡ filled n x []
unfolding filled
filled_none n x = let e : n ≡ n - 0 = omega arith in ap (λ m. replicate m x) e

pub fresh-room : (t r n : ℕ) → n ≡ room_size t r → SizesFit (fresh_sizes t r) → HeadFits fresh_head
    → contents_of (put ledger_head_offset ledger_head_size (sizes_put (fresh_sizes t r) (zeros n)) (head_bytes fresh_head)) ≡ contents_in (fresh t r)
unfolding contents_in fresh
fresh-room t r n e sizes-fit head-fits =
    let base = base_of t in
    let long : base + booking_size * r ≤ length (zeros n) = omega (arith, length-replicate {A = ℕ} n 0) in
    let l = sizes-put-length (fresh_sizes t r) (zeros n) (omega arith) in
    let a = sizes-stored t base r (zeros n) (omega arith) long (fresh_sizes t r) sizes-fit in
    let b = head-stored t base r (sizes_put (fresh_sizes t r) (zeros n)) (omega arith) (omega arith) fresh_head head-fits in
    let no-places : places t (zeros n) ≡ replicate t empty_place =
    zeros-empty place_of place_bytes place_size bytes-of-place head_size t (zeros n) (row-zeros (place_size * t) head_size n (omega arith)) ∙ ap (replicate t) empty-place in
    let no-bookings : bookings base r (zeros n) ≡ replicate r empty_booking =
    zeros-empty booking_of booking_bytes booking_size bytes-of-booking base r (zeros n) (row-zeros (booking_size * r) base n (omega arith)) ∙ ap (replicate r) empty-booking in
    sym (contents-with (fresh_sizes t r) fresh_head (put ledger_head_offset ledger_head_size (sizes_put (fresh_sizes t r) (zeros n)) (head_bytes fresh_head)) (sym (b.sizes ∙ a.sizes)) (sym b.head))
    ∙ ap₂ (contents (fresh_sizes t r) fresh_head) (b.places ∙ a.places ∙ no-places ∙ filled_none t empty_place) (b.bookings ∙ a.bookings ∙ no-bookings ∙ filled_none r empty_booking)
