-- When a rule writes a seat: what it then says of the account that its airline had. And what a rule by value decides, of the amount that was asked for, and
-- which refusal is left to it.
use mathlib.Core.Path.{◌≡◌, refl, sym, subst}
use mathlib.Core.Bool.{true}
use mathlib.Core.List.{List}
use mathlib.Core.Option.{Option, none, some}
use Prim.Native.Nat.{ℕ, zero, suc, ◌+◌}
use lib.Dec.{ltb}
use lib.IntN.{ℤ, pos, negsuc}
use Rattle.std.specs.Prelude.{Option as Answer, Some, Result}
use Rattle.rules.specs.RoomAndSoundLedger.{M, Account, Seat as RulesSeat, seat, is_vacant, has_account}
use Rattle.rules.specs.AnswerNumbers.{NegativeAmount, OverflowOfTopUp, Refusal as RulesRefusal}
use Rattle.rules.specs.AccountRules.{Move, refuse, write, ensure_rule, top_up_rule, limit_rule}
use Rattle.rules.proofs.Tests.{by-test}
use Rattle.refusals.specs.declared.Refusal.{Refusal}
use Rattle.numbers.specs.Amounts.{natural_of, positive_of}
use Rattle.numbers.proofs.Amounts.{natural-some, positive-is}
use Rattle.moves.specs.Moves.{ensuring_move, topping_up_move}
use Rattle.moves.specs.declared.Seat.{Seat}

-- a vacant seat is written only for a name without an account
abbrev pub Vacates : (Option Account → ℕ → Move) → Type 0
Vacates rule = (c : Option Account) (l : ℕ) (zs : List ℤ) (t : RulesSeat) → write zs t ≡ rule c l → is_vacant t ≡ true → c ≡ none

vacant-seat : (c : Option Account) (n : ℕ) → is_vacant (seat c n) ≡ true → c ≡ none
vacant-seat none n v = refl
vacant-seat (some c) n v = cc

pub ensure-vacates : (z : ℤ) → Vacates (ensure_rule z)
unfolding ensure_rule
ensure-vacates (negsuc n) c l zs t e v = cc
ensure-vacates (pos n) none l zs t e v = refl
ensure-vacates (pos n) (some c) l zs t e v = cc

pub top-up-vacates : (z : ℤ) → Vacates (top_up_rule z)
unfolding top_up_rule
top-up-vacates (negsuc n) c l zs t e v = cc
top-up-vacates (pos zero) c l zs t e v = cc
top-up-vacates (pos (suc n)) none l zs t e v = refl
top-up-vacates (pos (suc n)) (some c) l zs t e v = by-test (λ m. write zs t ≡ m → some c ≡ none) (ltb M (c.initial + suc n)) (λ _ q. cc) (λ _ q. cc) e

pub limit-vacates : (z : ℤ) → Vacates (limit_rule z)
unfolding limit_rule
limit-vacates (negsuc n) c l zs t e v = cc
limit-vacates (pos n) c l zs t e v = let q : t ≡ seat c n = cc in vacant-seat c n (subst (λ s. is_vacant s ≡ true) q v)

-- ── what was decided of a number is decided of the amount ──────────────────────────────────────

pub ensure-decides : (z : ℤ) (n : ℕ) (c : Option Account) (l : ℕ) (r : Answer Seat) → Some n ≡ natural_of z → ensuring_move r ≡ ensure_rule (pos n) c l → ensuring_move r ≡ ensure_rule z c l
ensure-decides z n c l r e q = rw (natural-some z n (sym e)) q

pub top-up-decides : (z : ℤ) (n : ℕ) (c : Option Account) (l : ℕ) (r : Result Seat Refusal) → Some n ≡ positive_of z → topping_up_move (pos n) r ≡ top_up_rule (pos n) c l → topping_up_move z r ≡ top_up_rule z c l
top-up-decides z n c l r e q = rw (positive-is z n (sym e)).0 q

-- ── where the rule refuses, by the one refusal that is left ────────────────────────────────────

-- a positive amount, of a name with an account
pub top-up-overflows : (z : ℤ) (n : ℕ) (c : Option Account) (l : ℕ) (e : RulesRefusal) → Some n ≡ positive_of z → has_account c ≡ true → refuse e ≡ top_up_rule z c l → refuse OverflowOfTopUp ≡ top_up_rule z c l
unfolding top_up_rule
top-up-overflows (negsuc m) n c l e p h q = cc
top-up-overflows (pos zero) n c l e p h q = cc
top-up-overflows (pos (suc m)) n none l e p h q = cc
top-up-overflows (pos (suc m)) n (some c) l e p h q = by-test (λ r. refuse e ≡ r → refuse OverflowOfTopUp ≡ r) (ltb M (c.initial + suc m)) (λ _ _. refl) (λ _ r. cc) q

pub limit-negative : (z : ℤ) (c : Option Account) (l : ℕ) (e : RulesRefusal) → refuse e ≡ limit_rule z c l → refuse (NegativeAmount z) ≡ limit_rule z c l
unfolding limit_rule
limit-negative (negsuc n) c l e q = refl
limit-negative (pos n) c l e q = cc
