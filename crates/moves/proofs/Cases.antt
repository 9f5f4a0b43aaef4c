-- What the rules answer where a caller of `moves` has tested the amount, the account or a sum before, from plain facts: the facts decide the rule's tests, and
-- it computes to the answer. And what the flag and the form of a seat say of it.
use mathlib.Core.Path.{◌≡◌, refl, sym, ◌∙◌, ap, subst}
use mathlib.Core.Bool.{Bool, true, false, ◌&&◌}
use mathlib.Core.Option.{Option, none, some}
use Prim.Native.Nat.{ℕ, zero, suc, ◌+◌, ◌^◌, ◌≤◌, ◌<◌}
use native.Mathlib.Omega.{arith}
use borrow.Author.Tests.{eq-eqb, ne_eqb, eqb-true, lt-ltb, le-ltb}
use lib.Dec.{ltb, eqb}
use lib.IntN.{ℤ, pos, negsuc}
use lib.Signed.{mag}
use Rattle.std.specs.Prelude.{None}
use Rattle.rules.specs.RoomAndSoundLedger.{M, Account, has_account, AddsUp}
use Rattle.rules.specs.AnswerNumbers.{NegativeAmount, InvalidAmount, MissingTenant, MissingReservation, OverflowOfReserve, OverflowOfCommit, ExposureLimitExceeded, Insufficient}
use Rattle.rules.specs.AccountRules.{refuse, leave, ensure_rule, top_up_rule, reserve_rule, commit_rule}
use Rattle.rules.proofs.Tests.{by-test, true-false}
use Rattle.numbers.specs.Amounts.{positive_of}
use Rattle.moves.specs.declared.Seat.{Seat}
use Rattle.moves.specs.Moves.{account_in, account_of, kept, kept_seat, SeatSound}

-- what a callee's answer says of the definition that its contract names
pub told : {A : Type 0} {r t b : A} → r ≡ t → r ≡ b → t ≡ b
told e p = sym e ∙ p

-- an amount is a signed 64-bit number, so one that is not negative is at most M
pub natural-small : (z : ℤ) (n : ℕ) → z ≡ pos n → mag z < 2 ^ 63 → n ≤ M
unfolding M
natural-small z n e h = let q : mag z ≡ n = ap mag e in omega arith

-- ── seats ──────────────────────────────────────────────────────────────────────────────────────

abbrev pub AmountsAddUp : Seat → Type 0
AmountsAddUp s = AddsUp (some (account_in s))

module _ (s : Seat) where
  pub without-account : s.account ≡ 0 → account_of s ≡ none
  without-account e = rw (eq-eqb s.account 0 e)

  pub with_account : (s.account ≡ 0 → ⊥) → account_of s ≡ some (account_in s)
  with_account h = rw (ne_eqb s.account 0 h)

  pub is-missing : has_account (account_of s) ≡ false → s.account ≡ 0
  is-missing = by-test (λ c. has_account c ≡ false → s.account ≡ 0) (eqb s.account 0) (λ t e. eqb-true s.account 0 t) (λ t e. cc)

  pub is-present : has_account (account_of s) ≡ true → s.account ≡ 0 → ⊥
  is-present e h = true-false e (ap has_account (without-account h))

  pub amounts-add-up : SeatSound s → (s.account ≡ 0 → ⊥) → AmountsAddUp s
  amounts-add-up sound h = subst AddsUp (with_account h) sound.adds_up

-- a seat with an account is sound where its amounts add up
pub account-sound : (initial remaining reserved committed limit : ℕ) → remaining + reserved + committed ≡ initial → initial ≤ M → limit ≤ M
    → SeatSound (record { initial = initial; remaining = remaining; reserved = reserved; committed = committed; limit = limit; account = 1 })
account-sound initial remaining reserved committed limit e h k = record { form = unfold kept_seat in refl; adds_up = (e, h); limit = k }

abbrev pub limited : ℕ → Seat → Seat
limited l s = record { initial = s.initial; remaining = s.remaining; reserved = s.reserved; committed = s.committed; limit = l; account = s.account }

-- the one form of a seat says of its limit only what it is
limited-kept : (c : Option Account) (l k : ℕ) → limited k (kept c l) ≡ kept c k
limited-kept none l k = refl
limited-kept (some c) l k = refl

pub limit-sound : (s : Seat) (l : ℕ) → SeatSound s → l ≤ M → SeatSound (limited l s)
limit-sound s l sound h = record {
  form = unfold kept_seat in sym (limited-kept (account_of s) s.limit l) ∙ ap (limited l) sound.form;
  adds_up = sound.adds_up;
  limit = h;
}

-- a positive amount, asked of a seat with an account: where a top-up and a reserve come to their sums
pub record Asked (s : Seat) (z : ℤ) (n : ℕ) : Type 0 where
  pub amount : z ≡ pos n
  pub positive : n ≡ 0 → ⊥
  pub present : s.account ≡ 0 → ⊥

-- ── ensure ─────────────────────────────────────────────────────────────────────────────────────

pub ensure-negative : (z : ℤ) (c : Option Account) (l : ℕ) → z ≡ negsuc (mag z) → refuse (NegativeAmount z) ≡ ensure_rule z c l
unfolding ensure_rule
ensure-negative z c l e = rw e

-- ── top-up ─────────────────────────────────────────────────────────────────────────────────────

pub top-up-of-none : (z : ℤ) (c : Option Account) (l : ℕ) → positive_of z ≡ None → refuse InvalidAmount ≡ top_up_rule z c l
unfolding top_up_rule
top-up-of-none (pos zero) c l e = refl
top-up-of-none (pos (suc n)) c l e = cc
top-up-of-none (negsuc n) c l e = refl

module _ (s : Seat) (z : ℤ) where
  pub top-up-missing : (n : ℕ) → z ≡ pos n → (n ≡ 0 → ⊥) → s.account ≡ 0 → refuse MissingTenant ≡ top_up_rule z (account_of s) s.limit
  unfolding top_up_rule
  top-up-missing zero amount positive h = absurd (positive refl)
  top-up-missing (suc n) amount positive h = rw (amount, without-account s h)

-- ── reserve ────────────────────────────────────────────────────────────────────────────────────

-- a reserve that passes the checks before the one of the next id, and what reserved would be
pub record Passes (s : Seat) (z : ℤ) (n reserved : ℕ) : Type 0 where
  pub asked : Asked s z n
  pub sum : reserved ≡ s.reserved + n
  pub fits : s.reserved + n ≤ M
  pub within : (ltb 0 s.limit && ltb s.limit reserved) ≡ false

module _ (last : Bool) where
  pub reserve-of-none : (z : ℤ) (c : Option Account) (l : ℕ) → positive_of z ≡ None → refuse (Insufficient (pos 0) z) ≡ reserve_rule z last c l
  unfolding reserve_rule
  reserve-of-none (pos zero) c l e = refl
  reserve-of-none (pos (suc n)) c l e = cc
  reserve-of-none (negsuc n) c l e = refl

  module _ (s : Seat) (z : ℤ) where
    pub reserve-missing : (n : ℕ) → z ≡ pos n → (n ≡ 0 → ⊥) → s.account ≡ 0 → refuse MissingTenant ≡ reserve_rule z last (account_of s) s.limit
    unfolding reserve_rule
    reserve-missing zero amount positive h = absurd (positive refl)
    reserve-missing (suc n) amount positive h = rw (amount, without-account s h)

    pub reserve-overflows : (n : ℕ) → Asked s z n → M < s.reserved + n → refuse (OverflowOfReserve (pos s.reserved)) ≡ reserve_rule z last (account_of s) s.limit
    unfolding reserve_rule
    reserve-overflows zero asked above = absurd (asked.positive refl)
    reserve-overflows (suc n) asked above = rw (asked.amount, with_account s asked.present, lt-ltb M (s.reserved + suc n) above)

    pub reserve-exposed : (n : ℕ) → Asked s z n → (reserved : ℕ) → reserved ≡ s.reserved + n → s.reserved + n ≤ M → (ltb 0 s.limit && ltb s.limit reserved) ≡ true
        → refuse (ExposureLimitExceeded (pos s.reserved) (pos s.limit)) ≡ reserve_rule z last (account_of s) s.limit
    unfolding reserve_rule
    reserve-exposed zero asked reserved e fits exceeds = absurd (asked.positive refl)
    reserve-exposed (suc n) asked reserved e fits exceeds = rw (asked.amount, with_account s asked.present, le-ltb M (s.reserved + suc n) fits, ← e, exceeds)

pub reserve-ids-used : (s : Seat) (z : ℤ) (n reserved : ℕ) → Passes s z n reserved → refuse (OverflowOfReserve (pos s.reserved)) ≡ reserve_rule z true (account_of s) s.limit
unfolding reserve_rule
reserve-ids-used s z zero reserved p = absurd (p.asked.positive refl)
reserve-ids-used s z (suc n) reserved p = rw (p.asked.amount, with_account s p.asked.present, le-ltb M (s.reserved + suc n) p.fits, ← p.sum, p.within)

-- ── commit ─────────────────────────────────────────────────────────────────────────────────────

pub commit-negative : (z : ℤ) (live : Option ℕ) (c : Option Account) (l : ℕ) → z ≡ negsuc (mag z) → commit_rule z live c l ≡ leave InvalidAmount
unfolding commit_rule
commit-negative z live c l e = rw e

pub commit-gone : (z : ℤ) (n : ℕ) → z ≡ pos n → commit_rule z none none 0 ≡ leave MissingReservation
unfolding commit_rule
commit-gone z n amount = rw amount

module _ (s : Seat) (booked : ℕ) (z : ℤ) (n : ℕ) (amount : z ≡ pos n) where
  pub commit-missing : s.account ≡ 0 → leave MissingTenant ≡ commit_rule z (some booked) (account_of s) s.limit
  unfolding commit_rule
  commit-missing h = rw (amount, without-account s h)

  pub commit-overflows : (s.account ≡ 0 → ⊥) → M < s.committed + n → leave (OverflowOfCommit (pos s.remaining)) ≡ commit_rule z (some booked) (account_of s) s.limit
  unfolding commit_rule
  commit-overflows present above = rw (amount, with_account s present, lt-ltb M (s.committed + n) above)
