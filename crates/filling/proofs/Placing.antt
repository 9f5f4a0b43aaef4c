-- Rows put one after another in the order in which they stand: the places are those of the rules, which put the last row first; each row of a snapshot
-- that passes is of a name not seen yet; and the ledger with the rows put so far is sound.
use mathlib.Core.Path.{◌≡◌, refl, sym, ◌∙◌, ap, subst}
use mathlib.Core.Bool.{false}
use mathlib.Core.List.{List, [], ◌∷◌, ◌++◌}
use mathlib.Core.Option.{none}
use Prim.Native.Nat.{ℕ, ◌+◌, ◌≤◌, ◌<◌, min}
use native.Mathlib.Omega.{arith}
use borrow.Author.Tests.{ltb-false}
use lib.ListN.{length, length-append}
use Rattle.rules.specs.Lists.{any, All, Pairwise}
use Rattle.rules.specs.RoomAndSoundLedger.{M, Name, same, Seat, Place, is_vacant, with_places, is_at, seat_of, holds_place, seat_in, committed_of, committed_total, InRange, Before, Sound, fresh, longest_name, most_names, most_reservations}
use Rattle.rules.specs.AccountRules.{natural, put, is_too_long}
use Rattle.rules.specs.SnapshotsMigrationCertificates.{Row, row_validation, rows_validation, restored_seat, restored_places}
use Rattle.rules.specs.Domain.{RowFits}
use Rattle.rules.proofs.Tests.{by_bool, or-false}
use Rattle.rules.proofs.Lists.{first_any, any_none, all-parts}
use Rattle.rules.proofs.Names.{same_true, same_false, other}
use Rattle.rules.proofs.Places.{seat_in-put, seat_in-put-other, all-put, ascend-put, total-put}
use Rattle.rules.proofs.SameTables.{same-places}
use Rattle.rules.proofs.SoundByName.{by_name, by_place}
use Rattle.rules.proofs.Checks.{both-pass, check-passes, Restorable}
use Rattle.rules.proofs.SnapshotSoundness.{restored-all, restored-ascend, restored-held, restored-length, restored-places-sound, restored-accounts-sound, fresh-sound}

-- ── the order in which two names are put does not matter ───────────────────────────────────────

abbrev IsHeld : Place → Type 0
IsHeld p = is_vacant p.seat ≡ false

turned : (a b : Name) → same a b ≡ false → same b a ≡ false
turned a b e = other b a (λ q. same_false a b e (sym q))

module _ (a b : Name) (s t : Seat) (ps : List Place) (apart : same a b ≡ false) where
  abbrev Same : Name → Type 0
  Same c = seat_in c (put a s (put b t ps)) ≡ seat_in c (put b t (put a s ps))

  same-seat : (c : Name) → Same c
  same-seat c = by_bool (λ x. same c a ≡ x → Same c) (same c a)
      (λ _ e. subst Same (sym (same_true c a e)) (seat_in-put a s (put b t ps) ∙ sym (seat_in-put-other a b t (put a s ps) apart ∙ seat_in-put a s ps)))
      (λ _ e. by_bool (λ y. same c b ≡ y → Same c) (same c b)
      (λ _ f. subst Same (sym (same_true c b f)) (seat_in-put-other b a s (put b t ps) (turned a b apart) ∙ seat_in-put b t ps ∙ sym (seat_in-put b t (put a s ps))))
      (λ _ f. seat_in-put-other c a s (put b t ps) e ∙ seat_in-put-other c b t ps f ∙ sym (seat_in-put-other c b t (put a s ps) f ∙ seat_in-put-other c a s ps e)) refl) refl

  put-put : is_vacant s ≡ false → is_vacant t ≡ false → Pairwise Before ps → All IsHeld ps → put a s (put b t ps) ≡ put b t (put a s ps)
  put-put s-held t-held ascend held =
      same-places (put a s (put b t ps)) (put b t (put a s ps))
      (ascend-put a s (put b t ps) (ascend-put b t ps ascend)) (ascend-put b t (put a s ps) (ascend-put a s ps ascend))
      (all-put IsHeld a s (put b t ps) s-held (all-put IsHeld b t ps t-held held)) (all-put IsHeld b t (put a s ps) t-held (all-put IsHeld a s ps s-held held))
      same-seat

-- ── one row more ───────────────────────────────────────────────────────────────────────────────

-- a name that none of the rows has
abbrev pub NotAmong : Name → List Row → Type 0
NotAmong a rs = All (λ r. same a r.name ≡ false) rs

-- the rules put a list's last row first: it may as well be put after the others
pub restored-more : (r : Row) (earlier : List Row) → NotAmong r.name earlier → restored_places (earlier ++ r ∷ []) ≡ put r.name (restored_seat r) (restored_places earlier)
unfolding restored_places
restored-more r [] h = refl
restored-more r (e ∷ es) (h, k) =
    ap (put e.name (restored_seat e)) (restored-more r es k)
    ∙ put-put e.name r.name (restored_seat e) (restored_seat r) (restored_places es) (turned r.name e.name h) refl refl (restored-ascend es) (restored-held es)

pub not-held : (a : Name) (rs : List Row) → NotAmong a rs → holds_place a (restored_places rs) ≡ false
unfolding holds_place
not-held a rs h = any_none (is_at a) (restored_places rs) (restored-all (λ p. is_at a p ≡ false) rs h)

-- ── the committed total, or M ──────────────────────────────────────────────────────────────────

capped-more : (a b : ℕ) → min (min a M + b) M ≡ min (a + b) M
capped-more a b = omega arith

total-more : (r : Row) (earlier : List Row) → NotAmong r.name earlier → committed_total (restored_places (earlier ++ r ∷ [])) ≡ committed_total (restored_places earlier) + natural r.committed
unfolding seat_in holds_place
total-more r earlier h =
    let ps = restored_places earlier in
    let nothing : committed_of (seat_in r.name ps).account ≡ 0 = ap (λ o. committed_of (seat_of o).account) (first_any (is_at r.name) ps (not-held r.name earlier h)) in
    let total = total-put r.name (restored_seat r) ps (restored-ascend earlier) in
    ap committed_total (restored-more r earlier h) ∙ omega arith

pub capped-total : (r : Row) (earlier : List Row) → NotAmong r.name earlier
    → min (min (committed_total (restored_places earlier)) M + natural r.committed) M ≡ min (committed_total (restored_places (earlier ++ r ∷ []))) M
capped-total r earlier h = capped-more (committed_total (restored_places earlier)) (natural r.committed) ∙ ap (λ n. min n M) (sym (total-more r earlier h))

-- ── the rows of a snapshot that passes ─────────────────────────────────────────────────────────

pub record Pass (t : ℕ) (rs : List Row) : Type 0 where
  pub fit : All RowFits rs
  pub short : All (λ r. is_too_long r.name ≡ false) rs
  pub restorable : All Restorable rs
  pub unseen : rows_validation [] rs ≡ none
  pub few : length rs ≤ t

-- with the first of them put, the ledger is sound
pub rows-sound : (t r : ℕ) → InRange 1 most_names t → InRange 1 most_reservations r → (earlier later : List Row) → Pass t (earlier ++ later) → Sound (with_places (fresh t r) (restored_places earlier))
unfolding fresh
rows-sound t r names reservations earlier later pass =
    let s = by_name (fresh t r) (fresh-sound t r names reservations) in
    let fit = (all-parts RowFits earlier later pass.fit).0 in
    let short = (all-parts (λ r. is_too_long r.name ≡ false) earlier later pass.short).0 in
    by_place (with_places (fresh t r) (restored_places earlier)) (record {
      names_in_range = names;
      reservations_in_range = reservations;
      places = restored-places-sound t earlier fit short (omega (arith, pass.few, length-append earlier later));
      bookings = s.bookings;
      accounts = restored-accounts-sound earlier fit (all-parts Restorable earlier later pass.restorable).0;
      next_id = s.next_id;
      last_version = s.last_version;
      baseline = (s.baseline.0, omega arith);
    })

unseen-row : (seen : List Name) (earlier : List Row) (r : Row) (later : List Row) → rows_validation seen (earlier ++ r ∷ later) ≡ none → (any (same r.name) seen ≡ false) × NotAmong r.name earlier
unfolding rows_validation row_validation any
unseen-row seen [] r later e = ((check-passes _ _ _ (both-pass _ _ e).0).0, tt)
unseen-row seen (x ∷ xs) r later e =
    let (first, rest) = unseen-row (x.name ∷ seen) xs r later (both-pass (row_validation seen x) _ e).1 in
    let (apart, unseen) = or-false (same r.name x.name) (any (same r.name) seen) first in
    (unseen, (apart, rest))

-- a row, behind those put so far
module _ (t : ℕ) (earlier : List Row) (r : Row) (later : List Row) (pass : Pass t (earlier ++ r ∷ later)) where
  pub row_fits : RowFits r
  row_fits = (all-parts RowFits earlier (r ∷ later) pass.fit).1.0

  pub row-short : length r.name ≤ longest_name
  row-short = ltb-false longest_name (length r.name) (all-parts (λ r. is_too_long r.name ≡ false) earlier (r ∷ later) pass.short).1.0

  pub row-restorable : Restorable r
  row-restorable = (all-parts Restorable earlier (r ∷ later) pass.restorable).1.0

  pub row-unseen : NotAmong r.name earlier
  row-unseen = (unseen-row [] earlier r later pass.unseen).1

  pub room_left : length (restored_places earlier) < t
  room_left = omega (arith, restored-length earlier, pass.few, length-append earlier (r ∷ later))
