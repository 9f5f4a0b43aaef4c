-- Every answer of an account operation on a sound ledger is one that the table lists for it, with values that fit. Rule by rule for what may be decided
-- on a sound account, where no amount is above initial and so none above M; then move by move for the answer that comes of it.
use mathlib.Core.Path.{◌≡◌, refl, sym, ◌∙◌}
use mathlib.Core.Logic.{◌⊎◌, inl, inr, ⊎_elim}
use mathlib.Core.Bool.{Bool, true, ◌&&◌, ◌||◌}
use mathlib.Core.List.{[], ◌∷◌}
use mathlib.Core.Option.{Option, none, some}
use Prim.Native.Nat.{ℕ, zero, suc, ◌+◌, ◌-◌, ◌≤◌}
use native.Mathlib.Omega.{arith}
use borrow.Author.Tests.{ltb-false, le-leb}
use lib.Dec.{ltb}
use lib.IntN.{ℤ, pos, negsuc, ◌-ℤ◌}
use lib.Signed.{lt_z}
use lib.ListN.{length}
use Rattle.rules.specs.Lists.{first}
use Rattle.rules.specs.RoomAndSoundLedger.{M, Name, Account, is_vacant, Booking, Ledger, holds_place, seat_in, has_account, reserved_for, Sound}
use Rattle.rules.specs.AnswerNumbers.{Amount, Identifier, Reply, done, MissingReservation, NameTooLong, NamesFull, ReservationsFull, reply_of, Outcome}
use Rattle.rules.specs.AccountRules.{Move, refuse, tell, write, lose, book, Settlement, leave, end, natural, ensure_rule, top_up_rule, limit_rule, reserve_rule, commit_rule, release_rule, has_room, booked, done_with, perform, settle, AccountOperation, ensure, top_up, limit, reserve, commit, release, read_remaining, read_initial, read_committed, read_reserved, is_too_long, on_name, on_booking, next_id_is_m, operate}
use Rattle.rules.specs.Frames.{on_account, ensure_frame, top_up_frame, limit_frame, reserve_frame, commit_frame, release_frame}
use Rattle.rules.specs.Recorder.{code_of, amount, answer_table, form_of, Holds, CanAnswer}
use Rattle.rules.specs.Domain.{IsAmount, IsWord, AccountOperationFits}
use Rattle.rules.proofs.Tests.{by-test, by-option, true-false, or-false}
use Rattle.rules.proofs.Places.{account-holds}
use Rattle.rules.proofs.Bookings.{booked-all}
use Rattle.rules.proofs.Delta.{delta-exceeds, remaining-falls}
use Rattle.rules.proofs.SoundByName.{AccountSound, by_name, part-of-sum}
use Rattle.rules.proofs.Soundness.{limit-small}

-- an operation with a frame can get this answer; of a read nothing is asked
abbrev pub Listed : Option ℕ → Reply → Type 0
Listed none r = Unit {0}
Listed (some code) r = CanAnswer code r

-- an amount that is no more than M
pub amount-holds : (n : ℕ) → n ≤ M → Holds (Amount amount) (Amount (pos n))
amount-holds n h = (pos n, refl, le-leb n M h)

small_word : (n : ℕ) → n ≤ M → IsWord n
unfolding M
small_word n h = omega arith

-- ── what each rule decides ─────────────────────────────────────────────────────────────────────

-- whatever becomes of the move is listed; 20 need not be, where the name holds a place
abbrev MoveListed : (code next : ℕ) → (has_place : Bool) → Move → Type 0
MoveListed code next has_place (refuse e) = CanAnswer code (reply_of e)
MoveListed code next has_place (tell zs) = CanAnswer code (done_with zs)
MoveListed code next has_place (write zs s) = CanAnswer code (done_with zs) × ((has_place ≡ true) ⊎ CanAnswer code (reply_of NamesFull))
MoveListed code next has_place (lose e) = CanAnswer code (reply_of e)
MoveListed code next has_place (book remaining s cost) = CanAnswer code (done (Amount (pos remaining) ∷ Identifier next ∷ [])) × CanAnswer code (reply_of ReservationsFull)

abbrev SettlementListed : (code : ℕ) → Settlement → Type 0
SettlementListed code (leave e) = CanAnswer code (reply_of e)
SettlementListed code (end zs s) = CanAnswer code (done_with zs)

module _ (next : ℕ) (has_place : Bool) where
  ensure-listed : (z : ℤ) → IsAmount z → (c : Option Account) (l : ℕ) → MoveListed ensure_frame.code next has_place (ensure_rule z c l)
  unfolding ensure_rule form_of answer_table first
  ensure-listed (negsuc n) f c l = ((negsuc n, refl, f), tt)
  ensure-listed (pos n) f none l = (tt, inr tt)
  ensure-listed (pos n) f (some c) l = tt

  top-up-listed : (z : ℤ) → IsAmount z → (total : ℕ) (c : Option Account) (l : ℕ) → AccountSound total c → (has_account c ≡ true → has_place ≡ true)
      → MoveListed top_up_frame.code next has_place (top_up_rule z c l)
  unfolding top_up_rule form_of answer_table first
  top-up-listed (negsuc n) f total c l h o = tt
  top-up-listed (pos zero) f total c l h o = tt
  top-up-listed (pos (suc n)) f total none l h o = tt
  top-up-listed (pos (suc n)) f total (some c) l (h, k, m) o = by-test (MoveListed top_up_frame.code next has_place) (ltb M (c.initial + suc n)) (λ _. tt)
      (λ e. let fits = ltb-false M (c.initial + suc n) e in
      (((pos (suc n), refl, f), (amount-holds (c.initial + suc n) fits, (amount-holds (c.remaining + suc n) (omega arith), tt))), inl (o refl)))

  limit-listed : (z : ℤ) → IsAmount z → (c : Option Account) (l : ℕ) → MoveListed limit_frame.code next has_place (limit_rule z c l)
  unfolding limit_rule form_of answer_table first
  limit-listed (negsuc n) f c l = ((negsuc n, refl, f), tt)
  limit-listed (pos n) f c l = (tt, inr tt)

  reserve-listed : next ≤ M → (z : ℤ) → IsAmount z → (last : Bool) (total : ℕ) (c : Option Account) (l : ℕ) → AccountSound total c → l ≤ M
      → MoveListed reserve_frame.code next has_place (reserve_rule z last c l)
  unfolding reserve_rule form_of answer_table first
  reserve-listed drawn (negsuc n) f last total c l h small = (amount-holds 0 (omega arith), ((negsuc n, refl, f), tt))
  reserve-listed drawn (pos zero) f last total c l h small = (amount-holds 0 (omega arith), ((pos zero, refl, f), tt))
  reserve-listed drawn (pos (suc n)) f last total none l h small = tt
  reserve-listed drawn (pos (suc n)) f last total (some c) l (h, k, m) small =
      let reserved = amount-holds c.reserved (omega arith) in
      by-test (MoveListed reserve_frame.code next has_place) (ltb M (c.reserved + suc n)) (λ _. (reserved, tt))
      (λ _. by-test (MoveListed reserve_frame.code next has_place) (ltb 0 l && ltb l (c.reserved + suc n)) (λ _. (reserved, (amount-holds l small, tt)))
      (λ _. by-test (MoveListed reserve_frame.code next has_place) last (λ _. (reserved, tt))
      (λ _. by-test (MoveListed reserve_frame.code next has_place) (ltb c.remaining (suc n)) (λ _. (amount-holds c.remaining (omega arith), ((pos (suc n), refl, f), tt)))
      (λ _. ((amount-holds (c.remaining - suc n) (omega arith), ((next, refl, small_word next drawn), tt)), tt)))))

-- in a sound ledger the airline of a live reservation has an account, and no 3 is given
commit-listed : (z : ℤ) → IsAmount z → (total live : ℕ) → live ≤ total → (c : Option Account) (l : ℕ) → AccountSound total c → has_account c ≡ true
    → SettlementListed commit_frame.code (commit_rule z (some live) c l)
unfolding commit_rule form_of answer_table first
commit-listed (negsuc n) f total live part c l h o = tt
commit-listed (pos actual) f total live part none l h o = true-false o refl
commit-listed (pos actual) f total live part (some c) l (h, k, m) o =
    let remaining = amount-holds c.remaining (omega arith) in
    by-test (SettlementListed commit_frame.code) (ltb M (c.committed + actual)) (λ _. (remaining, tt))
    (λ _. by-test (SettlementListed commit_frame.code) (lt_z (pos c.remaining) (pos actual -ℤ pos live)) (λ _. (remaining, tt))
    (λ e. let enough = ltb-false (c.remaining + live) actual (sym (delta-exceeds c.remaining live actual) ∙ e) in
    let falls = remaining-falls c.remaining live actual enough in
    (amount-holds (natural (pos c.remaining -ℤ (pos actual -ℤ pos live))) (omega (arith, falls)), ((pos actual, refl, f), tt))))

release-listed : (total live : ℕ) → live ≤ total → (c : Option Account) (l : ℕ) → AccountSound total c → has_account c ≡ true
    → SettlementListed release_frame.code (release_rule (some live) c l)
unfolding release_rule form_of answer_table first
release-listed total live part none l h o = true-false o refl
release-listed total live part (some c) l (h, k, m) o = (amount-holds (c.remaining + live) (omega arith), (amount-holds live (omega arith), tt))

-- an id that is not live
commit-none : (z : ℤ) → SettlementListed commit_frame.code (commit_rule z none none 0)
unfolding commit_rule form_of answer_table first
commit-none (negsuc n) = tt
commit-none (pos actual) = tt

release-none : SettlementListed release_frame.code (release_rule none none 0)
unfolding release_rule form_of answer_table first
release-none = tt

-- ── what becomes of it on the ledger ───────────────────────────────────────────────────────────

-- on the name's own account, if it has one, and with its limit
abbrev RuleListed : (code : ℕ) → Ledger → Name → (Option Account → ℕ → Move) → Type 0
RuleListed code L a rule = (total : ℕ) (c : Option Account) (l : ℕ) → AccountSound total c → l ≤ M → (has_account c ≡ true → holds_place a L.places ≡ true)
    → MoveListed code L.next_id (holds_place a L.places) (rule c l)

module _ (L : Ledger) (code : ℕ) where
  perform-listed : (a : Name) (m : Move) → MoveListed code L.next_id (holds_place a L.places) m → CanAnswer code (perform L a m).reply
  unfolding perform
  perform-listed a (refuse e) h = h
  perform-listed a (tell zs) h = h
  perform-listed a (write zs s) (h, k) = by-test (λ (o : Outcome). CanAnswer code o.reply) (has_room a s L) (λ _. h)
      (λ e. ⊎_elim (λ held. true-false held (or-false (is_vacant s) (holds_place a L.places) (or-false (is_vacant s || holds_place a L.places) _ e).0).1) (λ full. full) k)
  perform-listed a (lose e) h = h
  perform-listed a (book remaining s cost) (h, k) = by-test (λ (o : Outcome). CanAnswer code o.reply) (ltb (length L.bookings) L.R) (λ _. h) (λ _. k)

  on-name-listed : Sound L → (a : Name) (rule : Option Account → ℕ → Move) → CanAnswer code (reply_of NameTooLong) → RuleListed code L a rule → CanAnswer code (on_name L a rule).reply
  unfolding on_name
  on-name-listed known a rule long h = by-test (λ (m : Move). CanAnswer code (perform L a m).reply) (is_too_long a) (λ _. perform-listed a _ long)
      (λ _. perform-listed a _ (h (reserved_for a L.bookings) _ _ ((by_name L known).accounts a) (limit-small L (by_name L known) a) (account-holds a L.places)))

  settle-listed : (o : Option Booking) (t : Settlement) → CanAnswer code (reply_of MissingReservation) → SettlementListed code t → CanAnswer code (settle L o t).reply
  unfolding settle
  settle-listed o (leave e) missing h = h
  settle-listed none (end zs s) missing h = missing
  settle-listed (some b) (end zs s) missing h = h

  on-booking-listed : Sound L → (i : ℕ) (rule : Option ℕ → Option Account → ℕ → Settlement) → CanAnswer code (reply_of MissingReservation) → SettlementListed code (rule none none 0)
      → ((total live : ℕ) → live ≤ total → (c : Option Account) (l : ℕ) → AccountSound total c → has_account c ≡ true → SettlementListed code (rule (some live) c l))
      → CanAnswer code (on_booking L (booked i L.bookings) rule).reply
  unfolding on_booking
  on-booking-listed known i rule missing h k = by-option (λ o. booked i L.bookings ≡ o → CanAnswer code (on_booking L o rule).reply) (booked i L.bookings)
      (λ _ _. settle-listed none _ missing h)
      (λ b _ e. settle-listed (some b) _ missing
      (k (reserved_for b.name L.bookings) b.amount (booked-all _ i L.bookings b (part-of-sum L.bookings) e) _ _ ((by_name L known).accounts b.name)
      (booked-all (λ b. has_account (seat_in b.name L.places).account ≡ true) i L.bookings b known.accounts_exist e))) refl

pub account-listed : (L : Ledger) → Sound L → (x : AccountOperation ℕ) → AccountOperationFits x → Listed (code_of (on_account x)) (operate L x).reply
unfolding operate form_of answer_table first
account-listed L known (ensure a z) (bytes, f) = on-name-listed L ensure_frame.code known a (ensure_rule z) tt (λ total c l h small o. ensure-listed L.next_id (holds_place a L.places) z f c l)
account-listed L known (top_up a z) (bytes, f) = on-name-listed L top_up_frame.code known a (top_up_rule z) tt (λ total c l h small o. top-up-listed L.next_id _ z f total c l h o)
account-listed L known (limit a z) (bytes, f) = on-name-listed L limit_frame.code known a (limit_rule z) tt (λ total c l h small o. limit-listed L.next_id (holds_place a L.places) z f c l)
account-listed L known (reserve a z) (bytes, f) = on-name-listed L reserve_frame.code known a (reserve_rule z (next_id_is_m L)) tt
    (λ total c l h small o. reserve-listed L.next_id (holds_place a L.places) known.next_id.1 z f _ total c l h small)
account-listed L known (commit i z) f = on-booking-listed L commit_frame.code known i (commit_rule z) tt (commit-none z) (commit-listed z f)
account-listed L known (release i) f = on-booking-listed L release_frame.code known i release_rule tt release-none release-listed
account-listed L known (read_remaining a) f = tt
account-listed L known (read_initial a) f = tt
account-listed L known (read_committed a) f = tt
account-listed L known (read_reserved a) f = tt
