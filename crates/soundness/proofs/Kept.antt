-- One record at a time: a place's record in its one form is the record of the place that it decodes to, with that place's amounts; and back.
use mathlib.Core.Path.{◌≡◌, refl, sym, ◌∙◌, ap, subst}
use mathlib.Core.Bool.{false}
use mathlib.Core.Option.{Option, none, some}
use Prim.Native.Nat.{ℕ, ◌≤◌}
use lib.ListN.{length}
use Rattle.rules.specs.RoomAndSoundLedger.{M, Account, Seat as RulesSeat, Place as RulesPlace, is_vacant, committed_of, AddsUp, longest_name}
use Rattle.names.specs.Names.{spelled, stored}
use Rattle.names.proofs.Storing.{stored-spelled, stored-is-stored}
use Rattle.moves.specs.Moves.{account_of, meaning, kept, kept_seat}
use Rattle.moves.specs.declared.Seat.{Seat}
use Rattle.records.specs.declared.Place.{Place}
use Rattle.room.specs.Room.{place_record}
use Rattle.room.specs.Seats.{seat_of_place}
use Rattle.room.proofs.Decoding.{kept-meaning, place_in}
use Rattle.soundness.specs.Facts.{PlaceSound}

-- what an account has reserved; without one, nothing
abbrev pub reserved_of : Option Account → ℕ
reserved_of none = 0
reserved_of (some c) = c.reserved

kept_reserved : (c : Option Account) (l : ℕ) → (kept c l).reserved ≡ reserved_of c
kept_reserved none l = refl
kept_reserved (some c) l = refl

kept-committed : (c : Option Account) (l : ℕ) → (kept c l).committed ≡ committed_of c
kept-committed none l = refl
kept-committed (some c) l = refl

-- ── a record that is in its one form ───────────────────────────────────────────────────────────

module _ (p : Place) (sound : PlaceSound p) where
  pub record-kept : place_record (place_in p) ≡ p
  unfolding place_record
  record-kept =
      let s : kept_seat (meaning (seat_of_place p)) ≡ seat_of_place p = sound.seat.form in
      let n : stored (spelled p.name) ≡ p.name = stored-spelled p.name sound.name in
      λ i. record { initial = (s i).initial; remaining = (s i).remaining; reserved = (s i).reserved; committed = (s i).committed; limit = (s i).limit; account = (s i).account; name = n i }

  pub record-reserved : p.reserved ≡ reserved_of (account_of (seat_of_place p))
  unfolding kept_seat
  record-reserved = sym (ap (λ (s : Seat). s.reserved) sound.seat.form) ∙ kept_reserved (account_of (seat_of_place p)) p.limit

  pub record-committed : p.committed ≡ committed_of (account_of (seat_of_place p))
  unfolding kept_seat
  record-committed = sym (ap (λ (s : Seat). s.committed) sound.seat.form) ∙ kept-committed (account_of (seat_of_place p)) p.limit

-- ── the record of a place ──────────────────────────────────────────────────────────────────────

module _ (p : RulesPlace) where
  meaning-kept : meaning (seat_of_place (place_record p)) ≡ p.seat
  unfolding place_record kept_seat
  meaning-kept = kept-meaning p.seat.account p.seat.limit

  pub place-sound : length p.name ≤ longest_name → AddsUp p.seat.account → p.seat.limit ≤ M → is_vacant p.seat ≡ false → PlaceSound (place_record p)
  unfolding place_record
  place-sound fits adds limit held = record {
    name = stored-is-stored p.name fits;
    seat = record {
      form = ap kept_seat meaning-kept;
      adds_up = subst AddsUp (sym (ap (λ (s : RulesSeat). s.account) meaning-kept)) adds;
      limit = subst (λ l. l ≤ M) (sym (ap (λ (s : RulesSeat). s.limit) meaning-kept)) limit;
    };
    held = ap is_vacant meaning-kept ∙ held;
  }

  pub place-reserved : (place_record p).reserved ≡ reserved_of p.seat.account
  unfolding place_record kept_seat
  place-reserved = kept_reserved p.seat.account p.seat.limit

  pub place-committed : (place_record p).committed ≡ committed_of p.seat.account
  unfolding place_record kept_seat
  place-committed = kept-committed p.seat.account p.seat.limit
