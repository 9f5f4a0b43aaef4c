-- The rows of the places in use of a sound room, place by place: how long they are, and that together they are the ledger's. A place's record spells the row
-- that the rules make of the place, so a pass over the records appends the rules' rows.
use mathlib.Core.Path.{◌≡◌, refl, sym, ◌∙◌, ap, subst}
use mathlib.Core.Bool.{cond}
use mathlib.Core.List.{List, [], ◌∷◌, ◌++◌, map, flat_map, append-nil}
use mathlib.Core.Option.{Option, none, some}
use Prim.Native.Nat.{ℕ, zero, suc, ◌+◌, ◌*◌, ◌≤◌, ◌<◌}
use native.Mathlib.Numerals.{add-one}
use native.Mathlib.Omega.{arith}
use lib.Dec.{eqb}
use lib.ListN.{length, take, drop, get_or, length-append, take-append-drop}
use lib.Seq.{take-suc, take_all}
use Rattle.rules.specs.Lists.{sum, All}
use Rattle.rules.specs.RoomAndSoundLedger.{IsName, Account, Place as RulesPlace, Ledger, longest_name}
use Rattle.rules.specs.SnapshotsMigrationCertificates.{Row, Snapshot, row_bytes, snapshot_bytes, row_of, row_at, account_rows, most_rows}
use Rattle.rules.proofs.Tests.{by_bool}
use Rattle.rules.proofs.Lists.{all_map, flat_map-append, flat_map-one}
use Rattle.rules.proofs.Keys.{all-images}
use Rattle.rules.proofs.Numbers.{bytes-length}
use Rattle.rules.proofs.SnapshotBytes.{snapshot-length}
use Rattle.names.specs.Names.{spelled}
use Rattle.names.proofs.Storing.{spelled-stored}
use Rattle.moves.specs.Moves.{kept, kept_seat}
use Rattle.records.specs.Layout.{place_size, place_start}
use Rattle.records.specs.Rows.{row}
use Rattle.records.specs.Records.{sizes_of, place_of}
use Rattle.records.specs.declared.Place.{Place}
use Rattle.records.specs.declared.Sizes.{Sizes}
use Rattle.room.specs.Contents.{contents_of, used_places}
use Rattle.room.specs.Room.{place_with, place_record, IsRoom}
use Rattle.rules.proofs.ByIndex.{all_read}
use Rattle.room.proofs.InRoom.{used-places, loaded-place, name-in-room}
use Rattle.room.proofs.SoundRoom.{places-are, sized, names_stored}
use Rattle.snapshot_writer.specs.Rows.{row_in_place, WritesRows, account_bytes}
use Rattle.big_endian.specs.Layout.{snapshot_header, shortest_row, longest_row}
use Rattle.snapshot_writer.specs.Output.{row_of_place, row_size}

-- ── how long rows are ──────────────────────────────────────────────────────────────────────────

pub snapshot-size : (s : Snapshot) → length (snapshot_bytes s) ≡ snapshot_header + length (flat_map row_bytes s.rows)
unfolding snapshot_bytes
snapshot-size s = simp (length-append, bytes-length) (omega arith)

rows-length : (rs : List Row) → length (flat_map row_bytes rs) ≡ sum (λ r. shortest_row + length r.name) rs
rows-length rs = let s : Snapshot = record { version = 0; active = 0; rows = rs } in omega (arith, snapshot-size s, snapshot-length s)

-- the name's bytes are as many as its length says
abbrev IsSpelled : Place → Type 0
IsSpelled p = length (spelled p.name) ≡ p.name.length

place-size : (p : Place) → IsSpelled p → length (flat_map row_bytes (row_of_place p)) ≡ row_size p
unfolding sum
place-size p e =
    rows-length (row_of_place p)
    ∙ by_bool (λ b. sum (λ r. shortest_row + length r.name) (cond b [] (row_in_place p ∷ [])) ≡ cond b 0 (shortest_row + p.name.length)) (eqb p.account 0) (λ _. refl) (λ _. omega (arith, e))

-- ── a place of the rules ───────────────────────────────────────────────────────────────────────

record-row : (p : RulesPlace) (rs : List Row) → row_of_place (place_record p) ++ rs ≡ row_at p.name p.seat.account rs
unfolding place_record kept_seat
record-row p rs = by-kept p.seat.account
  where
    by-kept : (c : Option Account) → row_of_place (place_with (kept c p.seat.limit) p.name) ++ rs ≡ row_at p.name c rs
    by-kept none = refl
    by-kept (some c) = ap (λ a. row_of a c ∷ rs) (spelled-stored p.name)

record-rows : (ps : List RulesPlace) → flat_map row_of_place (map place_record ps) ≡ account_rows ps
unfolding flat_map account_rows
record-rows [] = refl
record-rows (p ∷ ps) = ap (λ rs. row_of_place (place_record p) ++ rs) (record-rows ps) ∙ record-row p (account_rows ps)

-- ── the room of a ledger ───────────────────────────────────────────────────────────────────────

-- the rows of the first i places in use
abbrev pub rows_to : List ℕ → ℕ → List Row
rows_to xs i = flat_map row_of_place (take i (used_places (contents_of xs)))

-- and how many bytes they take
abbrev pub size_to : List ℕ → ℕ → ℕ
size_to xs i = length (flat_map row_bytes (rows_to xs i))

pub size_none : (xs : List ℕ) → size_to xs 0 ≡ 0
unfolding flat_map
size_none xs = refl

pub none_written : (xs output : List ℕ) → WritesRows (rows_to xs 0) output output (record { rows = 0; end = snapshot_header })
unfolding flat_map
none_written xs output =
    let front = take snapshot_header output in
    let past = drop snapshot_header output in
    record { rows = refl; end = refl; output = sym (ap (λ l. l ++ past) (append-nil front) ∙ take-append-drop snapshot_header output) }

-- no more rows than places
rows_few : (ps : List Place) (i : ℕ) → length (flat_map row_of_place (take i ps)) ≤ i
unfolding flat_map
rows_few ps zero = omega arith
rows_few [] (suc i) = omega arith
rows_few (p ∷ ps) (suc i) =
    let one = by_bool (λ b. length (cond b [] (row_in_place p ∷ [])) ≤ 1) (eqb p.account 0) (λ _. omega arith) (λ _. omega arith) in
    rw length-append (omega (arith, one, rows_few ps i))

pub count_most : (xs : List ℕ) (i : ℕ) → length (rows_to xs i) ≤ i
count_most xs i = rows_few (used_places (contents_of xs)) i

-- a place below as many as were loaded to be in use is in use
pub place-counted : (xs : List ℕ) → {s : Sizes} → s ≡ sizes_of xs → {i : ℕ} → i < s.used → i < (sizes_of xs).used
place-counted xs sizes h = omega (arith, ap (λ s. s.used) sizes)

module _ (xs : List ℕ) (L : Ledger) (room : IsRoom xs L) where
  abbrev in_use : List Place
  in_use = used_places (contents_of xs)

  abbrev loaded : ℕ → Place
  loaded i = place_of (row place_size (place_start i) xs)

  all-spelled : All IsSpelled in_use
  unfolding place_record
  all-spelled = rw (places-are xs L room)
      (all-images place_record IsSpelled L.places (all_map (λ p. IsName p.name) (λ p. length (spelled (place_record p).name) ≡ length p.name) (λ p _. ap length (spelled-stored p.name)) L.places room.sound.are_names))

  pub used-most : (sizes_of xs).used ≤ most_rows
  used-most = let s = sized xs L room in omega (arith, s.used, s.names)

  module _ (i : ℕ) (h : i < (sizes_of xs).used) where
    at : loaded i ≡ get_or in_use i (place_of [])
    at = loaded-place xs (sized xs L room) i (place_of []) h

    within : i < length in_use
    within = omega (arith, used-places xs (sized xs L room))

    -- what `load_place` asks, and what `append_account` asks of what it gives
    pub place-in-room : (place_start i + place_size ≤ length xs) × ((loaded i).name.length ≤ longest_name)
    place-in-room = name-in-room xs (sized xs L room) i (names_stored xs L room) h

    pub rows_next : rows_to xs (i + 1) ≡ rows_to xs i ++ row_of_place (loaded i)
    rows_next =
        ap (flat_map row_of_place) (rw add-one (take-suc in_use i (place_of []) within))
        ∙ flat_map-append row_of_place (take i in_use) (get_or in_use i (place_of []) ∷ [])
        ∙ ap (λ rs. rows_to xs i ++ rs) (flat_map-one row_of_place (get_or in_use i (place_of [])) ∙ ap row_of_place (sym at))

    pub size-next : size_to xs (i + 1) ≡ size_to xs i + row_size (loaded i)
    size-next =
        ap (λ rs. length (flat_map row_bytes rs)) rows_next
        ∙ rw (flat_map-append row_bytes, length-append)
        (ap (λ n. size_to xs i + n) (place-size (loaded i) (subst IsSpelled (sym at) (all_read IsSpelled (place_of []) in_use i all-spelled within))))

  whole : flat_map row_of_place in_use ≡ account_rows L.places
  whole = ap (flat_map row_of_place) (places-are xs L room) ∙ record-rows L.places

  pub rows_all : (i : ℕ) → (sizes_of xs).used ≤ i → rows_to xs i ≡ account_rows L.places
  rows_all i h = ap (flat_map row_of_place) (take_all i in_use (omega (arith, used-places xs (sized xs L room)))) ∙ whole

  -- the first i places take no more than all of them
  pub size-within : (i : ℕ) → size_to xs i ≤ length (account_bytes L)
  size-within i =
      let split : flat_map row_of_place (take i in_use ++ drop i in_use) ≡ account_rows L.places = rw take-append-drop whole in
      rw (← split, flat_map-append row_of_place, flat_map-append row_bytes, length-append) (omega arith)

  -- a row is at most 57 bytes long
  pub size-most : (i : ℕ) → i ≤ (sizes_of xs).used → size_to xs i ≤ longest_row * i
  unfolding flat_map
  size-most zero h = omega arith
  size-most (suc i) h =
      let next : size_to xs (suc i) ≡ size_to xs i + row_size (loaded i) = ap (size_to xs) (sym (add-one i)) ∙ size-next i h in
      omega (arith, next, size-most i (omega arith), by_bool (λ b. cond b 0 (shortest_row + (loaded i).name.length) ≤ longest_row) (eqb (loaded i).account 0) (λ _. omega arith) (λ _. omega (arith, (place-in-room i h).1)))

  pub rows-most : length (account_bytes L) ≤ longest_row * (sizes_of xs).used
  rows-most =
      let n = (sizes_of xs).used in
      let all : size_to xs n ≡ length (account_bytes L) = ap (λ rs. length (flat_map row_bytes rs)) (rows_all n (omega arith)) in
      omega (arith, all, size-most n (omega arith))
