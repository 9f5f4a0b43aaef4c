-- An amount added up over the places of a sound room is its exact total over the rows of the ledger's own snapshot: a place without an account adds 0 and has
-- no row. Said once over a kind of amount.
use mathlib.Core.Path.{◌≡◌, refl, sym, ◌∙◌, ap, subst}
use mathlib.Core.List.{List, [], ◌∷◌}
use mathlib.Core.Option.{Option, none, some}
use Prim.Native.Nat.{ℕ, ◌+◌, ◌≤◌, ◌<◌}
use native.Mathlib.Omega.{arith}
use lib.IntN.{ℤ, pos, ◌+ℤ◌}
use Rattle.rules.specs.Lists.{sum, All}
use Rattle.rules.specs.RoomAndSoundLedger.{M, Name, Account, Place as RulesPlace, Ledger, AddsUp}
use Rattle.rules.specs.SnapshotsMigrationCertificates.{Row, row_of, row_at, account_rows, exact_total}
use Rattle.rules.proofs.Lists.{all_map}
use Rattle.rules.proofs.Keys.{all-images}
use Rattle.numbers.specs.declared.Microcents.{Microcents}
use Rattle.totals.specs.declared.Total.{Total}
use Rattle.totals.specs.Totals.{value_of}
use Rattle.moves.specs.Moves.{kept, kept_seat}
use Rattle.records.specs.Layout.{place_size, place_start}
use Rattle.records.specs.Rows.{row}
use Rattle.records.specs.Records.{sizes_of, place_of}
use Rattle.records.specs.declared.Place.{Place}
use Rattle.records.specs.declared.Sizes.{Sizes}
use Rattle.room.specs.Contents.{contents_of, used_places}
use Rattle.room.specs.Room.{place_with, place_record, IsRoom}
use Rattle.rules.proofs.ByIndex.{all_read}
use Rattle.room.proofs.InRoom.{used-places, loaded-place}
use Rattle.room.proofs.SoundRoom.{places-are, sized}
use Rattle.reads.proofs.Sums.{sum_to, sum-none, sum-next, sum-all}
use Rattle.certificates.proofs.Adding.{Totalled, Plus, one_more}

-- one of an account's amounts, as a place's record and as a row hold it
pub record AmountKind : Type 0 where
  pub in_account : Account → ℕ
  pub in_place : Place → ℕ
  pub in_row : Row → ℤ
  pub without : (a : Name) (l : ℕ) → in_place (place_with (kept none l) a) ≡ 0
  pub with_account : (a : Name) (c : Account) (l : ℕ) → in_place (place_with (kept (some c) l) a) ≡ in_account c
  pub row : (a : Name) (c : Account) → in_row (row_of a c) ≡ pos (in_account c)

abbrev pub initials : AmountKind
initials = record { in_account = λ c. c.initial; in_place = λ p. p.initial; in_row = λ r. r.initial; without = λ a l. refl; with_account = λ a c l. refl; row = λ a c. refl }

abbrev pub commits : AmountKind
commits = record { in_account = λ c. c.committed; in_place = λ p. p.committed; in_row = λ r. r.committed; without = λ a l. refl; with_account = λ a c l. refl; row = λ a c. refl }

-- a place below as many as were loaded to be in use is in use
pub place-counted : (xs : List ℕ) → {s : Sizes} → s ≡ sizes_of xs → {i : ℕ} → i < s.used → i < (sizes_of xs).used
place-counted xs sizes h = omega (arith, ap (λ s. s.used) sizes)

module _ (f : AmountKind) where
  -- the total over the accounts' rows is that over the places: a name without an account has zero amounts
  rows-total : (ps : List RulesPlace) → pos (sum (λ p. f.in_place (place_record p)) ps) ≡ exact_total f.in_row (account_rows ps)
  unfolding account_rows sum exact_total place_record kept_seat
  rows-total [] = refl
  rows-total (p ∷ ps) = go p.seat.account (rows-total ps)
    where
      go : (c : Option Account) {n : ℕ} → pos n ≡ exact_total f.in_row (account_rows ps)
          → pos (f.in_place (place_with (kept c p.seat.limit) p.name) + n) ≡ exact_total f.in_row (row_at p.name c (account_rows ps))
      go none e = ap pos (omega (arith, f.without p.name p.seat.limit)) ∙ e
      go (some c) {n} e = ap (λ m. pos (m + n)) (f.with_account p.name c p.seat.limit) ∙ (λ i. sym (f.row p.name c) i +ℤ e i)

  -- the total after i places
  abbrev pub PlacesAdded : List ℕ → ℕ → Total → Type 0
  PlacesAdded xs i t = Totalled i (pos (sum_to f.in_place xs i)) t

  module _ (xs : List ℕ) (L : Ledger) (room : IsRoom xs L) where
    abbrev amount : ℕ → ℕ
    amount i = f.in_place (place_of (row place_size (place_start i) xs))

    pub places-none : (t : Total) → Totalled 0 (pos 0) t → PlacesAdded xs 0 t
    places-none t (e, moved) = (e ∙ ap pos (sym (sum-none f.in_place xs (sized xs L room))), moved)

    module _ (i : ℕ) (t : Total) (added : PlacesAdded xs i t) where
      pub places-next : i < (sizes_of xs).used → (a : Microcents) (u : Total) → a.0 ≡ pos (amount i) → Plus t a u → PlacesAdded xs (i + 1) u
      places-next h a u is plus =
          let next = one_more i (pos (sum_to f.in_place xs i)) t added a u plus in
          (next.0 ∙ ap (λ z. pos (sum_to f.in_place xs i) +ℤ z) is ∙ ap pos (sym (sum-next f.in_place xs (sized xs L room) i h)), next.1)

      pub places-all : (sizes_of xs).used ≤ i → value_of t ≡ exact_total f.in_row (account_rows L.places)
      places-all h = added.0 ∙ ap pos (sum-all f.in_place xs (sized xs L room) (λ p. f.in_place (place_record p)) (λ p. refl) L room i h) ∙ rows-total L.places

-- ── the amounts of a place in use ──────────────────────────────────────────────────────────────

pub record AmountsSmall (p : Place) : Type 0 where
  pub initial : p.initial ≤ M
  pub remaining : p.remaining ≤ M
  pub committed : p.committed ≤ M

record-small : (p : RulesPlace) → AddsUp p.seat.account → AmountsSmall (place_record p)
unfolding place_record kept_seat
record-small p h = go p.seat.account h
  where
    go : (c : Option Account) → AddsUp c → AmountsSmall (place_with (kept c p.seat.limit) p.name)
    go none h = record { initial = omega arith; remaining = omega arith; committed = omega arith }
    go (some c) (e, h) = record { initial = h; remaining = omega arith; committed = omega arith }

pub loaded-small : (xs : List ℕ) (L : Ledger) → IsRoom xs L → {i : ℕ} → i < (sizes_of xs).used → {p : Place} → p ≡ place_of (row place_size (place_start i) xs) → AmountsSmall p
loaded-small xs L room {i} h loaded =
    let s = sized xs L room in
    let all : All AmountsSmall (used_places (contents_of xs)) = rw (places-are xs L room) (all-images place_record AmountsSmall L.places (all_map (λ p. AddsUp p.seat.account) _ record-small L.places room.sound.accounts_add_up)) in
    subst AmountsSmall (sym (loaded ∙ loaded-place xs s i (place_of []) h)) (all_read AmountsSmall (place_of []) (used_places (contents_of xs)) i all (omega (arith, used-places xs s)))
