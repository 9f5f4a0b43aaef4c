-- What holds at every stage of a run from a sound ledger: the ledger is sound, no two notes share an id or a reference, a further grant is not
-- noted yet, and every live reservation is noted under its own airline. It holds at the start, and a plan of any airline keeps it.
use mathlib.Core.Path.{◌≡◌, refl, sym, ◌∙◌, ap, subst}
use mathlib.Core.Logic.{◌⊎◌, inl, inr}
use mathlib.Core.List.{List, ◌∷◌, map}
use mathlib.Core.Option.{none, some}
use Prim.Native.Nat.{ℕ, suc, ◌≤◌, ◌<◌}
use native.Mathlib.Omega.{arith}
use borrow.Author.Tests.{eq-eqb, ne_eqb}
use lib.ListN.{length}
use Rattle.rules.specs.Lists.{first, keep, All, Pairwise}
use Rattle.rules.specs.RoomAndSoundLedger.{Name, Seat, Booking, Ledger, Sound}
use Rattle.rules.specs.AccountRules.{booked, ended}
use Rattle.rules.specs.OrderBetweenAirlines.{Which, live_at_start, grant, Reference, Note, is_note_of, is_note_for, id_of, reference_of, is_grant_of, grants_of, Stage, note_at_start, start}
use Rattle.rules.proofs.Tests.{by-test, by-option, none-some}
use Rattle.rules.proofs.Lists.{first-all, all_map, all_both, all_keep, all_more}
use Rattle.rules.proofs.Names.{same_self}
use Rattle.rules.proofs.Bookings.{Below, IdBelow, booked-id, booked-all, booked-out-of-range}
use Rattle.rules.proofs.Keys.{pairwise_map, all-images, all-sources, pairwise-images}
use Rattle.rules.proofs.Notes.{id_noted, reference_noted, reference-of-more, NotesApart, found-by-id, reference-of-found}
use Rattle.rules.proofs.Plans.{booking_of, Plan, stays, writes, loses, books, ends, new_booking, new_note, enact}

-- the number of a grant; a reservation live at the start has none
abbrev pub number_of : Which → ℕ
number_of (live_at_start id) = 0
number_of (grant number) = number

-- a reservation is noted under its airline
abbrev pub Noted : List Note → Booking → Type 0
Noted ns b = (k : Reference) × (reference_of b.id ns ≡ some k) × (k.airline ≡ b.name)

abbrev pub Counted : List Note → Note → Type 0
Counted ns n = number_of n.reference.which ≤ grants_of n.reference.airline ns

pub record Orderly (t : Stage) : Type 0 where
  pub sound : Sound t.ledger
  pub notes_apart : Pairwise NotesApart t.notes
  pub ids_drawn : All (λ n. n.id < t.ledger.next_id) t.notes
  pub grants_counted : All (Counted t.notes) t.notes
  pub bookings_noted : All (Noted t.notes) t.ledger.bookings

-- ── what follows from it ───────────────────────────────────────────────────────────────────────

module _ (t : Stage) (orderly : Orderly t) where
  pub none_at_zero : booked 0 t.ledger.bookings ≡ none
  none_at_zero = booked-out-of-range t.ledger.next_id 0 t.ledger.bookings orderly.sound.ids_in_range (inl refl)

  pub none-at-next : booked t.ledger.next_id t.ledger.bookings ≡ none
  none-at-next = booked-out-of-range t.ledger.next_id t.ledger.next_id t.ledger.bookings orderly.sound.ids_in_range (inr (omega arith))

  -- 0, or an id drawn
  pub id-below-next : (k : Reference) → id_of k t.notes < t.ledger.next_id
  unfolding id_of
  id-below-next k = by-option (λ o. first (is_note_of k) t.notes ≡ o → id_noted o < t.ledger.next_id) (first (is_note_of k) t.notes) (λ _ e. omega (arith, orderly.sound.next_id.0))
      (λ n _ e. first-all (λ n. n.id < t.ledger.next_id) (is_note_of k) t.notes n orderly.ids_drawn e) refl

  -- the reservation that an id finds has a reference
  pub noted-reference : (k : Reference) (b : Booking) → booking_of k t ≡ some b → reference_of (id_of k t.notes) t.notes ≡ some k
  unfolding booking_of
  noted-reference k b e = go (reference-of-found t.notes orderly.notes_apart k)
    where
      go : (id_of k t.notes ≡ 0) ⊎ (reference_of (id_of k t.notes) t.notes ≡ some k) → reference_of (id_of k t.notes) t.notes ≡ some k
      go (inl z) = none-some (sym none_at_zero ∙ ap (λ i. booked i t.ledger.bookings) (sym z) ∙ e)
      go (inr f) = f

  -- the reservation that a reference finds is its airline's
  pub of-its-airline : (k : Reference) (b : Booking) → booking_of k t ≡ some b → b.name ≡ k.airline
  unfolding booking_of
  of-its-airline k b e =
      let (j, p, q) = booked-all (Noted t.notes) (id_of k t.notes) t.ledger.bookings b orderly.bookings_noted e in
      let i : b.id ≡ id_of k t.notes = booked-id (id_of k t.notes) t.ledger.bookings b e in
      let y : some j ≡ some k = sym p ∙ ap (λ n. reference_of n t.notes) i ∙ noted-reference k b e in
      let z : j ≡ k = cc in
      sym q ∙ ap (λ r. r.airline) z

-- ── a plan keeps it ────────────────────────────────────────────────────────────────────────────

-- a note more counts no fewer grants
more-grants : (a : Name) (n : Note) (ns : List Note) → grants_of a ns ≤ grants_of a (n ∷ ns)
unfolding grants_of keep
more-grants a n ns = by-test (λ l. grants_of a ns ≤ length l) (is_grant_of a n) {x = n ∷ keep (is_grant_of a) ns} {y = keep (is_grant_of a) ns} (λ _. omega arith) (λ _. omega arith)

pub own-grants : (t : Stage) (a : Name) → grants_of a (new_note t a ∷ t.notes) ≡ suc (grants_of a t.notes)
unfolding grants_of keep
own-grants t a = rw (same_self a)

module _ (t : Stage) (orderly : Orderly t) (a : Name) where
  orderly-books : (remaining : ℕ) (s : Seat) (cost : ℕ) → Sound (enact t a (books remaining s cost)).ledger → Orderly (enact t a (books remaining s cost))
  unfolding enact
  orderly-books remaining s cost sound = record {
    sound = sound;
    notes_apart = (
      all_both (λ n. n.id < t.ledger.next_id) (Counted t.notes) (NotesApart (new_note t a))
          (λ n l c. (λ e. omega arith, λ e. let c' : number_of (new_note t a).reference.which ≤ grants_of (new_note t a).reference.airline t.notes = subst (λ k. number_of k.which ≤ grants_of k.airline t.notes) (sym e) c in omega arith))
          t.notes orderly.ids_drawn orderly.grants_counted,
      orderly.notes_apart,
    );
    ids_drawn = (omega arith, all_map (λ n. n.id < t.ledger.next_id) (λ n. n.id < suc t.ledger.next_id) (λ n l. omega arith) t.notes orderly.ids_drawn);
    grants_counted = (omega (arith, own-grants t a), all_map (Counted t.notes) (Counted (new_note t a ∷ t.notes)) (λ n c. omega (arith, more-grants n.reference.airline (new_note t a) t.notes)) t.notes orderly.grants_counted);
    bookings_noted = all_more (Noted (new_note t a ∷ t.notes)) t.ledger.bookings (new_booking t a cost)
        (all_both (IdBelow t.ledger.next_id) (Noted t.notes) (Noted (new_note t a ∷ t.notes))
        (λ b l (k, p, q). (k, reference-of-more b.id (new_note t a) t.notes ∙ rw (ne_eqb b.id t.ledger.next_id (omega arith)) p, q))
        t.ledger.bookings orderly.sound.ids_in_range orderly.bookings_noted)
        ((new_note t a).reference, reference-of-more t.ledger.next_id (new_note t a) t.notes ∙ rw (eq-eqb t.ledger.next_id t.ledger.next_id refl), refl);
  }

  pub orderly-enact : (p : Plan) → Sound (enact t a p).ledger → Orderly (enact t a p)
  unfolding enact
  orderly-enact (stays r) sound = orderly
  orderly-enact (writes r s) sound = record { sound = sound; notes_apart = orderly.notes_apart; ids_drawn = orderly.ids_drawn; grants_counted = orderly.grants_counted; bookings_noted = orderly.bookings_noted }
  orderly-enact (loses r) sound = record {
    sound = sound;
    notes_apart = orderly.notes_apart;
    ids_drawn = all_map (λ n. n.id < t.ledger.next_id) (λ n. n.id < suc t.ledger.next_id) (λ n l. omega arith) t.notes orderly.ids_drawn;
    grants_counted = orderly.grants_counted;
    bookings_noted = orderly.bookings_noted;
  }
  orderly-enact (books remaining s cost) sound = orderly-books remaining s cost sound
  orderly-enact (ends r s w) sound = record {
    sound = sound;
    notes_apart = orderly.notes_apart;
    ids_drawn = orderly.ids_drawn;
    grants_counted = orderly.grants_counted;
    bookings_noted = unfold ended in all_keep (Noted t.notes) _ t.ledger.bookings orderly.bookings_noted;
  }

-- ── the start ──────────────────────────────────────────────────────────────────────────────────

pub orderly-start : (L : Ledger) → Sound L → Orderly (start L)
unfolding start
orderly-start L sound = record {
  sound = sound;
  notes_apart = apart;
  ids_drawn = all-images note_at_start (λ n. n.id < L.next_id) L.bookings (all_map (IdBelow L.next_id) (λ b. b.id < L.next_id) (λ b r. r.1) L.bookings sound.ids_in_range);
  grants_counted = all-images note_at_start (Counted (map note_at_start L.bookings)) L.bookings (all_map (IdBelow L.next_id) (λ b. Counted (map note_at_start L.bookings) (note_at_start b)) (λ b r. omega arith) L.bookings sound.ids_in_range);
  bookings_noted = all_map (λ b. first (is_note_for b.id) (map note_at_start L.bookings) ≡ some (note_at_start b)) (Noted (map note_at_start L.bookings))
      (λ b e. ((note_at_start b).reference, unfold reference_of in ap reference_noted e, refl)) L.bookings
      (all-sources note_at_start (λ n. first (is_note_for n.id) (map note_at_start L.bookings) ≡ some n) L.bookings (found-by-id (map note_at_start L.bookings) apart));
}
  where
    apart : Pairwise NotesApart (map note_at_start L.bookings)
    apart = pairwise-images note_at_start NotesApart L.bookings (pairwise_map Below (λ b c. NotesApart (note_at_start b) (note_at_start c)) (λ b c l. (omega arith, λ e. let q : live_at_start b.id ≡ live_at_start c.id = ap (λ k. k.which) e in let n : b.id ≡ c.id = cc in omega arith)) L.bookings sound.ids_ascend)
