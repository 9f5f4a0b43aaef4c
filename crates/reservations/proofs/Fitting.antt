-- A seat that a reserve, a commit or a release writes is not vacant. What a rule by value decides, of the amount that was asked for. And where it refuses, the
-- one refusal that the checks before it leave.
use mathlib.Core.Path.{◌≡◌, refl, sym}
use mathlib.Core.Bool.{Bool, true, false, ◌&&◌}
use mathlib.Core.List.{List}
use mathlib.Core.Option.{Option, none, some}
use Prim.Native.Nat.{ℕ, zero, suc, ◌+◌, ◌≤◌}
use borrow.Author.Tests.{le-ltb}
use lib.Dec.{ltb}
use lib.IntN.{ℤ, pos, negsuc, ◌-ℤ◌}
use lib.Signed.{lt_z}
use Rattle.std.specs.Prelude.{Some, Result}
use Rattle.rules.specs.RoomAndSoundLedger.{M, Account, Seat, is_vacant, has_account}
use Rattle.rules.specs.AnswerNumbers.{Refusal as RulesRefusal, MissingTenant, Insufficient, Overrun}
use Rattle.rules.specs.AccountRules.{Move, Settlement, lose, book, leave, end, reserve_rule, commit_rule, release_rule}
use Rattle.rules.proofs.Tests.{by-test, true-false}
use Rattle.numbers.specs.Amounts.{sum_of, natural_of, positive_of}
use Rattle.numbers.proofs.Amounts.{natural-some, positive-is, fits_sum}
use Rattle.refusals.specs.declared.Refusal.{Refusal}
use Rattle.moves.specs.declared.Seat.{Seat as RoomSeat}
use Rattle.moves.specs.Moves.{account_in, account_of, reserving_move, committing_settlement}
use Rattle.moves.proofs.Cases.{Asked, Passes, is-present, with_account}

pub reserve-keeps : (z : ℤ) (last : Bool) (c : Option Account) (l remaining cost : ℕ) (t : Seat) → book remaining t cost ≡ reserve_rule z last c l → is_vacant t ≡ false
unfolding reserve_rule
reserve-keeps (negsuc n) last c l remaining cost t e = cc
reserve-keeps (pos zero) last c l remaining cost t e = cc
reserve-keeps (pos (suc n)) last none l remaining cost t e = cc
reserve-keeps (pos (suc n)) last (some c) l remaining cost t e =
    by-test (λ m. book remaining t cost ≡ m → is_vacant t ≡ false) (ltb M (c.reserved + suc n)) (λ _ q. cc)
    (λ _. by-test (λ m. book remaining t cost ≡ m → is_vacant t ≡ false) (ltb 0 l && ltb l (c.reserved + suc n)) (λ _ q. cc)
    (λ _. by-test (λ m. book remaining t cost ≡ m → is_vacant t ≡ false) last (λ _ q. cc)
    (λ _. by-test (λ m. book remaining t cost ≡ m → is_vacant t ≡ false) (ltb c.remaining (suc n)) (λ _ q. cc) (λ _ q. cc)))) e

-- the same of a rule for a reservation
abbrev pub Keeps : (Option ℕ → Option Account → ℕ → Settlement) → Type 0
Keeps rule = (amount : ℕ) (c : Option Account) (l : ℕ) (zs : List ℤ) (t : Seat) → end zs t ≡ rule (some amount) c l → is_vacant t ≡ false

pub commit-keeps : (z : ℤ) → Keeps (commit_rule z)
unfolding commit_rule
commit-keeps (negsuc n) amount c l zs t e = cc
commit-keeps (pos actual) amount none l zs t e = cc
commit-keeps (pos actual) amount (some c) l zs t e =
    by-test (λ m. end zs t ≡ m → is_vacant t ≡ false) (ltb M (c.committed + actual)) (λ _ q. cc)
    (λ _. by-test (λ m. end zs t ≡ m → is_vacant t ≡ false) (lt_z (pos c.remaining) (pos actual -ℤ pos amount)) (λ _ q. cc) (λ _ q. cc)) e

pub release-keeps : Keeps release_rule
unfolding release_rule
release-keeps amount none l zs t e = cc
release-keeps amount (some c) l zs t e = cc

-- ── what was decided of a number is decided of the amount ──────────────────────────────────────

pub reserve-decides : (z : ℤ) (n : ℕ) (last : Bool) (c : Option Account) (l : ℕ) (r : Result RoomSeat Refusal) → Some n ≡ positive_of z → reserving_move n r ≡ reserve_rule (pos n) last c l → reserving_move n r ≡ reserve_rule z last c l
reserve-decides z n last c l r e q = rw (positive-is z n (sym e)).0 q

pub commit-decides : (z : ℤ) (n : ℕ) (live : Option ℕ) (c : Option Account) (l : ℕ) (r : Result RoomSeat Refusal) → Some n ≡ natural_of z → committing_settlement (pos n) r ≡ commit_rule (pos n) live c l → committing_settlement z r ≡ commit_rule z live c l
commit-decides z n live c l r e q = rw (natural-some z n (sym e)) q

-- ── what the checks of a reserve leave ─────────────────────────────────────────────────────────

-- an id is lost only where too little remains
lost-insufficient : (n : ℕ) (last : Bool) (c : Account) (l : ℕ) (e : RulesRefusal) → lose e ≡ reserve_rule (pos n) last (some c) l → lose (Insufficient (pos c.remaining) (pos n)) ≡ reserve_rule (pos n) last (some c) l
unfolding reserve_rule
lost-insufficient zero last c l e = λ q. cc
lost-insufficient (suc n) last c l e =
    let Only : Move → Type 0 = λ m. lose e ≡ m → lose (Insufficient (pos c.remaining) (pos (suc n))) ≡ m in
    by-test Only (ltb M (c.reserved + suc n)) (λ _ q. cc)
    (λ _. by-test Only (ltb 0 l && ltb l (c.reserved + suc n)) (λ _ q. cc)
    (λ _. by-test Only last (λ _ q. cc)
    (λ _. by-test Only (ltb c.remaining (suc n)) (λ _ q. refl) (λ _ q. cc))))

module _ (s : RoomSeat) (z : ℤ) (n : ℕ) (amount : Some n ≡ positive_of z) where
  pub asks : true ≡ has_account (account_of s) → Asked s z n
  asks has = let is = positive-is z n (sym amount) in record { amount = is.0; positive = is.1; present = is-present s (sym has) }

  pub passes : true ≡ has_account (account_of s) → (reserved : ℕ) → Some reserved ≡ sum_of s.reserved n → false ≡ (ltb 0 s.limit && ltb s.limit reserved) → Passes s z n reserved
  passes has reserved sum within = let is = fits_sum s.reserved n reserved (sym sum) in record { asked = asks has; sum = is.0; fits = is.1; within = sym within }

  pub reserve-insufficient : true ≡ has_account (account_of s) → (e : RulesRefusal) → lose e ≡ reserve_rule (pos n) false (account_of s) s.limit
      → lose (Insufficient (pos s.remaining) (pos n)) ≡ reserve_rule z false (account_of s) s.limit
  reserve-insufficient has e = let asked = asks has in rw (asked.amount, with_account s asked.present) (lost-insufficient n false (account_in s) s.limit e)

-- ── what the checks of a settlement leave ──────────────────────────────────────────────────────

-- once what is spent fits, the reservation stays only where delta is more than remains
left-overrun : (n booked : ℕ) (c : Account) (l : ℕ) (e : RulesRefusal) → c.committed + n ≤ M → leave e ≡ commit_rule (pos n) (some booked) (some c) l → leave (Overrun (pos c.remaining)) ≡ commit_rule (pos n) (some booked) (some c) l
unfolding commit_rule
left-overrun n booked c l e fits =
    let Only : Settlement → Type 0 = λ m. leave e ≡ m → leave (Overrun (pos c.remaining)) ≡ m in
    by-test Only (ltb M (c.committed + n)) (λ above. true-false above (le-ltb M (c.committed + n) fits))
    (λ _. by-test Only (lt_z (pos c.remaining) (pos n -ℤ pos booked)) (λ _ q. refl) (λ _ q. cc))

pub commit-overruns : (s : RoomSeat) (booked : ℕ) (z : ℤ) (n : ℕ) → Some n ≡ natural_of z → true ≡ has_account (account_of s) → (committed : ℕ) → Some committed ≡ sum_of s.committed n
    → (e : RulesRefusal) → leave e ≡ commit_rule (pos n) (some booked) (account_of s) s.limit → leave (Overrun (pos s.remaining)) ≡ commit_rule z (some booked) (account_of s) s.limit
commit-overruns s booked z n amount has committed sum e =
    rw (natural-some z n (sym amount), with_account s (is-present s (sym has))) (left-overrun n booked (account_in s) s.limit e (fits_sum s.committed n committed (sym sum)).1)

-- and at a release only where its airline has no account
pub release-missing : (booked : ℕ) (c : Option Account) (l : ℕ) (e : RulesRefusal) → leave e ≡ release_rule (some booked) c l → leave MissingTenant ≡ release_rule (some booked) c l
unfolding release_rule
release-missing booked none l e q = refl
release-missing booked (some c) l e q = cc
