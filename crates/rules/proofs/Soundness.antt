-- Every account operation keeps a sound ledger sound: a small lemma for each rule on its airline's own account, whatever stands for a reservation
-- (`rule-sound`), and one for each kind of move, name by name.
use mathlib.Core.Path.{◌≡◌, refl, sym, ◌∙◌, ap, subst}
use mathlib.Core.Logic.{◌⊎◌, inl, inr, ◌≢◌}
use mathlib.Core.Bool.{Bool, true, false, not, cond, ◌&&◌, ◌||◌}
use mathlib.Core.List.{List, [], ◌∷◌, ◌++◌}
use mathlib.Core.Option.{Option, none, some}
use Prim.Native.Nat.{ℕ, zero, suc, ◌+◌, ◌-◌, ◌≤◌, ◌<◌}
use native.Mathlib.Omega.{arith}
use borrow.Author.Tests.{ltb-true, ltb-false, leb-true, eqb-false}
use lib.Dec.{ltb, eqb}
use lib.IntN.{ℤ, pos, negsuc, ◌-ℤ◌}
use lib.Signed.{lt_z}
use lib.ListN.{length, length-append}
use Rattle.rules.specs.Lists.{first, All}
use Rattle.rules.specs.RoomAndSoundLedger.{M, longest_name, Name, IsName, same, Account, Seat, Place, is_vacant, Booking, Ledger, is_at, seat_of, holds_place, seat_in, has_account, share, reserved_for, committed_of, committed_total, Sound}
use Rattle.rules.specs.AnswerNumbers.{Outcome}
use Rattle.rules.specs.AccountRules.{Move, refuse, tell, write, lose, book, Settlement, leave, end, ensure_rule, top_up_rule, limit_rule, reserve_rule, commit_rule, release_rule, read_rule, read_reserved_rule, put, freed, seated, has_room, booked, ended, perform, settle, AccountOperation, ensure, top_up, limit, reserve, commit, release, read_remaining, read_initial, read_committed, read_reserved, is_too_long, named, on_name, on_booking, next_id_is_m, operate, Rule, rule_of, for_reservation, apply, for_name}
use Rattle.rules.specs.Domain.{IsAmount, IsBytes, AccountOperationFits}
use Rattle.rules.proofs.Tests.{by-test, by_bool, by-option}
use Rattle.rules.proofs.Lists.{first_passes, first-all, all_map, all_keep, all_more, pairwise-keep, pairwise-more, length-keep, sum_more}
use Rattle.rules.proofs.Names.{same_self, same_true, same_or_not}
use Rattle.rules.proofs.Places.{seat_in-seated, seat_in-seated-other, seat_in-all, all-put, ascend-put, more, length-put, total-put, total-freed, account-holds}
use Rattle.rules.proofs.Bookings.{Below, IdBelow, booked-id, sum-ended}
use Rattle.rules.proofs.Delta.{delta-exceeds, remaining-falls}
use Rattle.rules.proofs.SoundByName.{AccountSound, AccountsSound, PlacesSound, BookingsSound, SoundByName, by_name, by_place}

-- ── what a rule may decide ─────────────────────────────────────────────────────────────────────

-- `total` is the sum of the airline's live reservations, `c` its account, `last` says that next id is M
abbrev pub MoveSound : (last : Bool) → (total : ℕ) → Option Account → Move → Type 0
MoveSound last total c (refuse e) = Unit {0}
MoveSound last total c (tell zs) = Unit {0}
MoveSound last total c (write zs s) = AccountSound total s.account × (committed_of s.account ≡ committed_of c) × (s.limit ≤ M)
MoveSound last total c (lose e) = last ≡ false
MoveSound last total c (book remaining s cost) = (last ≡ false) × AccountSound (total + cost) s.account × (committed_of s.account ≡ committed_of c) × (s.limit ≤ M) × (0 < cost) × (has_account c ≡ true)

abbrev pub SettlementSound : (total : ℕ) → Option Account → (amount : ℕ) → Settlement → Type 0
SettlementSound total c amount (leave e) = Unit {0}
SettlementSound total c amount (end zs s) = AccountSound (total - amount) s.account × (committed_of c ≤ committed_of s.account) × (s.limit ≤ M) × (has_account c ≡ true)

module _ (last : Bool) (total : ℕ) (l : ℕ) (small : l ≤ M) where
  ensure-sound : (z : ℤ) (c : Option Account) → IsAmount z → AccountSound total c → MoveSound last total c (ensure_rule z c l)
  unfolding ensure_rule
  ensure-sound (negsuc n) c f h = tt
  ensure-sound (pos n) none f h = ((omega arith, leb-true n M f, sym h), refl, small)
  ensure-sound (pos n) (some c) f h = tt

  top-up-sound : (z : ℤ) (c : Option Account) → AccountSound total c → MoveSound last total c (top_up_rule z c l)
  unfolding top_up_rule
  top-up-sound (negsuc n) c h = tt
  top-up-sound (pos zero) c h = tt
  top-up-sound (pos (suc n)) none h = tt
  top-up-sound (pos (suc n)) (some c) (h, k, m) = by-test (MoveSound last total (some c)) (ltb M (c.initial + suc n)) (λ e. tt) (λ e. ((omega arith, ltb-false M (c.initial + suc n) e, m), refl, small))

  limit-sound : (z : ℤ) (c : Option Account) → IsAmount z → AccountSound total c → MoveSound last total c (limit_rule z c l)
  unfolding limit_rule
  limit-sound (negsuc n) c f h = tt
  limit-sound (pos n) c f h = (h, refl, leb-true n M f)

  reserve-sound : (z : ℤ) (c : Option Account) → AccountSound total c → MoveSound last total c (reserve_rule z last c l)
  unfolding reserve_rule
  reserve-sound (negsuc n) c h = tt
  reserve-sound (pos zero) c h = tt
  reserve-sound (pos (suc n)) none h = tt
  reserve-sound (pos (suc n)) (some c) (h, k, m) = by-test (MoveSound last total (some c)) (ltb M (c.reserved + suc n)) (λ _. tt)
      (λ _. by-test (MoveSound last total (some c)) (ltb 0 l && ltb l (c.reserved + suc n)) (λ _. tt)
      (λ _. by-test (MoveSound last total (some c)) last (λ _. tt)
      (λ t. by-test (MoveSound last total (some c)) (ltb c.remaining (suc n)) (λ _. t)
      (λ e. (t, (omega (arith, ltb-false c.remaining (suc n) e), k, omega arith), refl, small, omega arith, refl)))))

  read-sound : (of : Account → ℕ) (c : Option Account) → MoveSound last total c (read_rule of c l)
  unfolding read_rule
  read-sound of none = tt
  read-sound of (some c) = tt

  read-reserved-sound : (c : Option Account) → MoveSound last total c (read_reserved_rule c l)
  unfolding read_reserved_rule
  read-reserved-sound none = tt
  read-reserved-sound (some c) = tt

module _ (total amount : ℕ) (l : ℕ) (small : l ≤ M) (part : amount ≤ total) where
  commit-sound : (z : ℤ) (c : Option Account) → AccountSound total c → SettlementSound total c amount (commit_rule z (some amount) c l)
  unfolding commit_rule
  commit-sound (negsuc n) c h = tt
  commit-sound (pos actual) none h = tt
  commit-sound (pos actual) (some c) (h, k, m) = by-test (SettlementSound total (some c) amount) (ltb M (c.committed + actual)) (λ e. tt)
      (λ e. by-test (SettlementSound total (some c) amount) (lt_z (pos c.remaining) (pos actual -ℤ pos amount)) (λ f. tt)
      (λ f. let enough = ltb-false (c.remaining + amount) actual (sym (delta-exceeds c.remaining amount actual) ∙ f) in
      let falls = remaining-falls c.remaining amount actual enough in
      ((omega (arith, falls), k, omega arith), omega arith, small, refl)))

  release-sound : (c : Option Account) → AccountSound total c → SettlementSound total c amount (release_rule (some amount) c l)
  unfolding release_rule
  release-sound none h = tt
  release-sound (some c) (h, k, m) = ((omega arith, k, omega arith), omega arith, small, refl)

-- what any rule decides keeps a ledger sound, whatever stands for a reservation
abbrev pub RuleSound : {X : Type 0} → Rule X → Type 0
RuleSound (for_name a rule) = IsBytes a × ((last : Bool) (total l : ℕ) → l ≤ M → (c : Option Account) → AccountSound total c → MoveSound last total c (rule last c l))
RuleSound (for_reservation x rule) = (total amount l : ℕ) → l ≤ M → amount ≤ total → (c : Option Account) → AccountSound total c → SettlementSound total c amount (rule (some amount) c l)

pub rule-sound : {X : Type 0} (x : AccountOperation X) → AccountOperationFits x → RuleSound (rule_of x)
rule-sound (ensure a z) (bytes, f) = (bytes, λ last total l small c h. ensure-sound last total l small z c f h)
rule-sound (top_up a z) (bytes, f) = (bytes, λ last total l small c h. top-up-sound last total l small z c h)
rule-sound (limit a z) (bytes, f) = (bytes, λ last total l small c h. limit-sound last total l small z c f h)
rule-sound (reserve a z) (bytes, f) = (bytes, λ last total l small c h. reserve-sound last total l small z c h)
rule-sound (commit x z) f = λ total amount l small part c h. commit-sound total amount l small part z c h
rule-sound (release x) f = λ total amount l small part c h. release-sound total amount l small part c h
rule-sound (read_remaining a) bytes = (bytes, λ last total l small c h. read-sound last total l small _ c)
rule-sound (read_initial a) bytes = (bytes, λ last total l small c h. read-sound last total l small _ c)
rule-sound (read_committed a) bytes = (bytes, λ last total l small c h. read-sound last total l small _ c)
rule-sound (read_reserved a) bytes = (bytes, λ last total l small c h. read-reserved-sound last total l small c)

-- ── a seat written ─────────────────────────────────────────────────────────────────────────────

vacant-committed : (c : Option Account) (l : ℕ) → not (has_account c) && eqb l 0 ≡ true → committed_of c ≡ 0
vacant-committed none l e = refl
vacant-committed (some c) l e = absurd (let z : ◌≡◌ {A = ℕ} 0 1 = cc in omega arith)

pub record Written (t : ℕ) (a : Name) (s : Seat) (ps qs : List Place) : Type 0 where
  pub places : PlacesSound t qs
  pub total : committed_total qs + committed_of (seat_in a ps).account ≡ committed_total ps + committed_of s.account

module _ (t : ℕ) (a : Name) (s : Seat) (ps : List Place) (sound : PlacesSound t ps) (is_name : IsName a) (small : s.limit ≤ M) where
  put_written : is_vacant s ≡ false → more (holds_place a ps) + length ps ≤ t → Written t a s ps (put a s ps)
  put_written e room = record {
    places = record {
      fit = omega (arith, length-put a s ps sound.ascend);
      are_names = all-put (λ p. IsName p.name) a s ps is_name sound.are_names;
      ascend = ascend-put a s ps sound.ascend;
      limits = all-put (λ p. p.seat.limit ≤ M) a s ps small sound.limits;
      held = all-put (λ p. is_vacant p.seat ≡ false) a s ps e sound.held;
    };
    total = total-put a s ps sound.ascend;
  }

  freed-written : is_vacant s ≡ true → Written t a s ps (freed a ps)
  unfolding freed
  freed-written e = record {
    places = record {
      fit = let l : length (freed a ps) ≤ length ps = length-keep _ ps in omega (arith, sound.fit);
      are_names = all_keep (λ p. IsName p.name) _ ps sound.are_names;
      ascend = pairwise-keep _ _ ps sound.ascend;
      limits = all_keep (λ p. p.seat.limit ≤ M) _ ps sound.limits;
      held = all_keep (λ p. is_vacant p.seat ≡ false) _ ps sound.held;
    };
    total = omega (arith, total-freed a ps sound.ascend, vacant-committed s.account s.limit e);
  }

  room_left : holds_place a ps || ltb (length ps) t ≡ true → more (holds_place a ps) + length ps ≤ t
  room_left = by_bool (λ b. b || ltb (length ps) t ≡ true → more b + length ps ≤ t) (holds_place a ps) (λ _ e. omega (arith, sound.fit)) (λ _ e. omega (arith, ltb-true (length ps) t e))

  written : is_vacant s || holds_place a ps || ltb (length ps) t ≡ true → Written t a s ps (seated a s ps)
  unfolding seated
  written = by_bool (λ b. is_vacant s ≡ b → b || holds_place a ps || ltb (length ps) t ≡ true → Written t a s ps (cond b (freed a ps) (put a s ps))) (is_vacant s)
      (λ _ e r. freed-written e) (λ _ e r. put_written e (room_left r)) refl

-- ── a move on a sound ledger ───────────────────────────────────────────────────────────────────

or-middle : (a b c : Bool) → b ≡ true → a || b || c ≡ true
or-middle true b c e = refl
or-middle false true c e = refl
or-middle false false c e = absurd (let z : ◌≡◌ {A = ℕ} 0 1 = cc in omega arith)

pub not_last : (n m : ℕ) → eqb n m ≡ false → n ≤ m → suc n ≤ m
not_last n m e l = let h : n ≢ m = eqb-false n m e in omega arith

-- ids below next id stay so when one is drawn
pub ids-after-draw : (next : ℕ) (bs : List Booking) → All (IdBelow next) bs → All (IdBelow (suc next)) bs
ids-after-draw next bs h = all_map (IdBelow next) (IdBelow (suc next)) (λ b r. (r.0, omega arith)) bs h

pub bookings-after-draw : (r next : ℕ) (bs : List Booking) → BookingsSound r next bs → BookingsSound r (suc next) bs
bookings-after-draw r next bs s = record { fit = s.fit; ascend = s.ascend; in_range = ids-after-draw next bs s.in_range; positive = s.positive }

module _ (L : Ledger) (sound : SoundByName L) where
  accounts-after : (a : Name) (s : Seat) (bs : List Booking) → AccountSound (reserved_for a bs) s.account → ((b : Name) → same b a ≡ false → reserved_for b bs ≡ reserved_for b L.bookings)
      → AccountsSound (seated a s L.places) bs
  accounts-after a s bs h k b = go (same_or_not b a)
    where
      go : (b ≡ a) ⊎ (same b a ≡ false) → AccountSound (reserved_for b bs) (seat_in b (seated a s L.places)).account
      go (inl e) = rw (e, seat_in-seated a s L.places) h
      go (inr n) = rw (seat_in-seated-other b a s L.places n, k b n) (sound.accounts b)

  -- the limit of every name is at most M
  pub limit-small : (a : Name) → (seat_in a L.places).limit ≤ M
  limit-small = seat_in-all (λ s. s.limit ≤ M) L.places (omega arith) sound.places.limits

  -- a name with an account is one
  account-name : (a : Name) → has_account (seat_in a L.places).account ≡ true → IsName a
  unfolding seat_in
  account-name a = by-option (λ o. first (is_at a) L.places ≡ o → has_account (seat_of o).account ≡ true → IsName a) (first (is_at a) L.places) (λ _ _ h. absurd (let z : ◌≡◌ {A = ℕ} 0 1 = cc in omega arith))
      (λ p _ e h. subst IsName (sym (same_true a p.name (first_passes (is_at a) L.places p e))) (first-all (λ p. IsName p.name) (is_at a) L.places p sound.places.are_names e)) refl

  account-room : (a : Name) (s : Seat) → has_account (seat_in a L.places).account ≡ true → has_room a s L ≡ true
  account-room a s h = or-middle (is_vacant s) (holds_place a L.places) _ (account-holds a L.places h)

  seat-written : (a : Name) (s : Seat) → IsName a → s.limit ≤ M → has_room a s L ≡ true → Written L.T a s L.places (seated a s L.places)
  seat-written a s n m r = written L.T a s L.places sound.places n m r

  perform-sound : (a : Name) → IsName a → (m : Move) → MoveSound (next_id_is_m L) (reserved_for a L.bookings) (seat_in a L.places).account m → SoundByName (perform L a m).ledger
  unfolding perform
  perform-sound a is_name (refuse e) h = sound
  perform-sound a is_name (tell zs) h = sound
  perform-sound a is_name (write zs s) (h, e, m) = by-test (λ (o : Outcome). SoundByName o.ledger) (has_room a s L)
      (λ r. let w = seat-written a s is_name m r in record {
        names_in_range = sound.names_in_range;
        reservations_in_range = sound.reservations_in_range;
        places = w.places;
        bookings = sound.bookings;
        accounts = accounts-after a s L.bookings h (λ b n. refl);
        next_id = sound.next_id;
        last_version = sound.last_version;
        baseline = (sound.baseline.0, omega (arith, sound.baseline.1, w.total));
      })
      (λ r. sound)
  perform-sound a is_name (lose e) h = record {
    names_in_range = sound.names_in_range;
    reservations_in_range = sound.reservations_in_range;
    places = sound.places;
    bookings = bookings-after-draw L.R L.next_id L.bookings sound.bookings;
    accounts = sound.accounts;
    next_id = (omega arith, not_last L.next_id M h sound.next_id.1);
    last_version = sound.last_version;
    baseline = sound.baseline;
  }
  perform-sound a is_name (book remaining s cost) (last, h, e, m, p, q) = by-test (λ (o : Outcome). SoundByName o.ledger) (ltb (length L.bookings) L.R)
      (λ r. let w = seat-written a s is_name m (account-room a s q) in record {
        names_in_range = sound.names_in_range;
        reservations_in_range = sound.reservations_in_range;
        places = w.places;
        bookings = record {
          fit = rw (length-append L.bookings (x ∷ [])) (omega (arith, ltb-true (length L.bookings) L.R r));
          ascend = pairwise-more Below L.bookings x sound.bookings.ascend (all_map (IdBelow L.next_id) (λ b. Below b x) (λ b f. f.1) L.bookings sound.bookings.in_range);
          in_range = all_more (IdBelow (suc L.next_id)) L.bookings x (ids-after-draw L.next_id L.bookings sound.bookings.in_range) (sound.next_id.0, omega arith);
          positive = all_more (λ b. 0 < b.amount) L.bookings x sound.bookings.positive p;
        };
        accounts = accounts-after a s (L.bookings ++ x ∷ []) (unfold reserved_for in rw (sum_more (share a) L.bookings x, same_self a) h) (λ b n. unfold reserved_for in rw (sum_more (share b) L.bookings x, n) (omega arith));
        next_id = (omega arith, not_last L.next_id M last sound.next_id.1);
        last_version = sound.last_version;
        baseline = (sound.baseline.0, omega (arith, sound.baseline.1, w.total));
      })
      (λ r. sound)
    where
      x : Booking
      x = record { id = L.next_id; name = a; amount = cost }

  -- 19 before any rule
  named-sound : (a : Name) → IsBytes a → (m : Move) → MoveSound (next_id_is_m L) (reserved_for a L.bookings) (seat_in a L.places).account m → SoundByName (perform L a (named a m)).ledger
  named-sound a bytes m h = by-test (λ (m : Move). SoundByName (perform L a m).ledger) (is_too_long a) (λ _. unfold perform in sound)
      (λ e. perform-sound a (record { fits = ltb-false longest_name (length a) e; bytes = bytes }) m h)

  -- what an ended booking takes out of the sums
  taken_out : (a : Name) (b : Booking) → booked b.id L.bookings ≡ some b → reserved_for a (ended b.id L.bookings) + share a b ≡ reserved_for a L.bookings
  unfolding reserved_for
  taken_out a b f = rw f at (sum-ended (share a) b.id L.bookings sound.bookings.ascend)

  own-taken-out : (b : Booking) → booked b.id L.bookings ≡ some b → reserved_for b.name (ended b.id L.bookings) + b.amount ≡ reserved_for b.name L.bookings
  own-taken-out b f = rw (same_self b.name) at (taken_out b.name b f)

  settle-sound : (b : Booking) → booked b.id L.bookings ≡ some b → (x : Settlement) → SettlementSound (reserved_for b.name L.bookings) (seat_in b.name L.places).account b.amount x → SoundByName (settle L (some b) x).ledger
  unfolding settle
  settle-sound b f (leave e) h = sound
  settle-sound b f (end zs s) (h, e, m, q) =
      let w = seat-written b.name s (account-name b.name q) m (account-room b.name s q) in
      record {
        names_in_range = sound.names_in_range;
        reservations_in_range = sound.reservations_in_range;
        places = w.places;
        bookings = unfold ended in record {
          fit = let l : length (ended b.id L.bookings) ≤ length L.bookings = length-keep _ L.bookings in omega (arith, sound.bookings.fit);
          ascend = pairwise-keep Below _ L.bookings sound.bookings.ascend;
          in_range = all_keep (IdBelow L.next_id) _ L.bookings sound.bookings.in_range;
          positive = all_keep (λ b. 0 < b.amount) _ L.bookings sound.bookings.positive;
        };
        accounts = accounts-after b.name s (ended b.id L.bookings)
            (subst (λ k. AccountSound k s.account) (let k = own-taken-out b f in omega (arith, k)) h)
            (λ a n. let k = taken_out a b f in let j : reserved_for a (ended b.id L.bookings) + 0 ≡ reserved_for a L.bookings = rw n at k in omega arith);
        next_id = sound.next_id;
        last_version = sound.last_version;
        baseline = (sound.baseline.0, omega (arith, sound.baseline.1, w.total));
      }

  settle-none-sound : (x : Settlement) → SoundByName (settle L none x).ledger
  unfolding settle
  settle-none-sound (leave e) = sound
  settle-none-sound (end zs s) = sound

  on-booking-sound : (i : ℕ) (rule : Option ℕ → Option Account → ℕ → Settlement) → RuleSound (for_reservation i rule) → SoundByName (on_booking L (booked i L.bookings) rule).ledger
  unfolding on_booking
  on-booking-sound i rule well = by-option (λ o. SoundByName (on_booking L o rule).ledger) (booked i L.bookings) (λ _. settle-none-sound _)
      (λ b e. let q : booked b.id L.bookings ≡ some b = ap (λ j. booked j L.bookings) (booked-id i L.bookings b e) ∙ e in
      settle-sound b q _ (well _ b.amount _ (limit-small b.name) (omega (arith, own-taken-out b q)) _ (sound.accounts b.name)))

  apply-keeps : (r : Rule ℕ) → RuleSound r → SoundByName (apply L r).ledger
  unfolding on_name
  apply-keeps (for_name a rule) (bytes, well) = named-sound a bytes _ (well (next_id_is_m L) _ _ (limit-small a) _ (sound.accounts a))
  apply-keeps (for_reservation i rule) well = on-booking-sound i rule well

pub apply-sound : (L : Ledger) → Sound L → (r : Rule ℕ) → RuleSound r → Sound (apply L r).ledger
apply-sound L sound r well = by_place _ (apply-keeps L (by_name L sound) r well)

pub operate-sound : (L : Ledger) → Sound L → (x : AccountOperation ℕ) → AccountOperationFits x → Sound (operate L x).ledger
unfolding operate
operate-sound L sound x fits = apply-sound L sound (rule_of x) (rule-sound x fits)
