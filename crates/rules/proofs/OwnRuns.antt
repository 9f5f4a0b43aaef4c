-- The road's end: over a whole run, what an airline is answered, what becomes of its own part and how many ids its operations draw depend on
-- its own operations alone. Two runs in which an airline has the same operations in the same order are therefore alike to it, and so is a run
-- from which every other airline's operations are taken out. By induction over the run: each operation enacts its plan (Plans), and the airline
-- is the plan's own or another (OwnParts).
use mathlib.Core.Path.{◌≡◌, refl, sym, ◌∙◌, ap, ap₂}
use mathlib.Core.Bool.{false, cond}
use mathlib.Core.List.{List, [], ◌∷◌}
use Prim.Native.Nat.{ℕ, ◌+◌}
use native.Mathlib.Omega.{arith}
use Rattle.rules.specs.Lists.{keep, sum, All}
use Rattle.rules.specs.RoomAndSoundLedger.{Name, same, Ledger, with_next_id, with_places, with_bookings, Sound}
use Rattle.rules.specs.AccountRules.{AccountOperation, Rule, for_name, for_reservation, rule_of}
use Rattle.rules.specs.Domain.{AccountOperationFits}
use Rattle.rules.specs.OrderBetweenAirlines.{Reference, Run, airline_of, Note, Stage, with_id_from, outcome_at, identifier_in, onward, after, without_ids, AirlineAnswer, answer_to, answers_of, own_operations, own_answers, meets, run_meets}
use Rattle.rules.proofs.Tests.{by_bool, or-false}
use Rattle.rules.proofs.Names.{same_true}
use Rattle.rules.proofs.Soundness.{RuleSound, rule-sound, apply-sound}
use Rattle.rules.proofs.Plans.{OwnPart, own_part, Plan, stays, writes, loses, books, ends, plan_of, enact, says, Enacts, meets-none, enacts-its-plan}
use Rattle.rules.proofs.Stages.{Orderly, of-its-airline, orderly-enact}
use Rattle.rules.proofs.OwnParts.{own_after, own-enact, own-other}

-- ── a run as its airline sees it ───────────────────────────────────────────────────────────────

unfoldable pub planned_part : OwnPart → Run → OwnPart
planned_part o [] = o
planned_part o (x ∷ xs) = planned_part (own_after o (plan_of x o)) xs

-- ids are hidden, so any will do
unfoldable pub planned_answers : OwnPart → Run → List AirlineAnswer
planned_answers o [] = []
planned_answers o (x ∷ xs) = answer_to (airline_of x) (without_ids (says 0 (plan_of x o))) ∷ planned_answers (own_after o (plan_of x o)) xs

-- the ids that an operation draws, and its airline
pub record Draw : Type 0 where
  pub airline : Name
  pub count : ℕ

abbrev pub draw : Name → ℕ → Draw
draw a n = record { airline = a; count = n }

abbrev pub count_of : Plan → ℕ
count_of (stays r) = 0
count_of (writes r s) = 0
count_of (loses r) = 1
count_of (books remaining s cost) = 1
count_of (ends r s w) = 0

unfoldable pub planned_draws : OwnPart → Run → List Draw
planned_draws o [] = []
planned_draws o (x ∷ xs) = draw (airline_of x) (count_of (plan_of x o)) ∷ planned_draws (own_after o (plan_of x o)) xs

-- the plan of an operation at a stage
abbrev pub plan_at : Stage → AccountOperation Reference → Plan
plan_at t x = plan_of x (own_part (airline_of x) t)

unfoldable pub draws_of : Stage → Run → List Draw
draws_of t [] = []
draws_of t (x ∷ xs) = draw (airline_of x) (count_of (plan_at t x)) ∷ draws_of (onward t x) xs

unfoldable pub draws_by : Name → List Draw → List Draw
draws_by a = keep (λ d. same a d.airline)

-- ── one operation ──────────────────────────────────────────────────────────────────────────────

says_hidden : (i : ℕ) (p : Plan) → without_ids (says i p) ≡ without_ids (says 0 p)
unfolding without_ids says identifier_in
says_hidden i (stays r) = refl
says_hidden i (writes r s) = refl
says_hidden i (loses r) = refl
says_hidden i (books remaining s cost) = refl
says_hidden i (ends r s w) = refl

next-enact : (t : Stage) (a : Name) (p : Plan) → (enact t a p).ledger.next_id ≡ count_of p + t.ledger.next_id
unfolding enact
next-enact t a (stays r) = omega arith
next-enact t a (writes r s) = omega arith
next-enact t a (loses r) = omega arith
next-enact t a (books remaining s cost) = omega arith
next-enact t a (ends r s w) = omega arith

-- what no account operation changes: T, R, last version, baseline
abbrev pub fixed_part : Ledger → Ledger
fixed_part L = with_next_id (with_places (with_bookings L []) []) 0

fixed-enact : (t : Stage) (a : Name) (p : Plan) → fixed_part (enact t a p).ledger ≡ fixed_part t.ledger
unfolding enact
fixed-enact t a (stays r) = refl
fixed-enact t a (writes r s) = refl
fixed-enact t a (loses r) = refl
fixed-enact t a (books remaining s cost) = refl
fixed-enact t a (ends r s w) = refl

sound-with-id : (ns : List Note) (r : Rule Reference) → RuleSound r → RuleSound (with_id_from ns r)
sound-with-id ns (for_name a rule) f = f
sound-with-id ns (for_reservation k rule) f = f

module _ (t : Stage) (orderly : Orderly t) (x : AccountOperation Reference) (fits : AccountOperationFits x) (clear : meets t x ≡ false) where
  enacts : Enacts t (airline_of x) (outcome_at t x) (plan_at t x)
  enacts = enacts-its-plan t (of-its-airline t orderly) x (meets-none t x clear)

  pub onward-is : onward t x ≡ enact t (airline_of x) (plan_at t x)
  unfolding onward
  onward-is = enacts.stage

  pub orderly-onward : Orderly (onward t x)
  orderly-onward = rw onward-is (orderly-enact t orderly (airline_of x) (plan_at t x) (rw onward-is at sound))
    where
      sound : Sound (onward t x).ledger
      sound = unfold onward outcome_at in apply-sound t.ledger orderly.sound (with_id_from t.notes (rule_of x)) (sound-with-id t.notes (rule_of x) (rule-sound x fits))

  next-onward : (onward t x).ledger.next_id ≡ count_of (plan_at t x) + t.ledger.next_id
  next-onward = rw onward-is (next-enact t (airline_of x) (plan_at t x))

  fixed-onward : fixed_part (onward t x).ledger ≡ fixed_part t.ledger
  fixed-onward = ap (λ u. fixed_part u.ledger) onward-is ∙ fixed-enact t (airline_of x) (plan_at t x)

  -- its own airline: answered, and changed, by its own part
  pub says-own : (a : Name) → airline_of x ≡ a → without_ids (outcome_at t x).reply ≡ without_ids (says 0 (plan_of x (own_part a t)))
  says-own a e = rw (← e) (ap without_ids enacts.reply ∙ says_hidden t.ledger.next_id (plan_at t x))

  pub part-own : (a : Name) → airline_of x ≡ a → own_part a (onward t x) ≡ own_after (own_part a t) (plan_of x (own_part a t))
  part-own a e = rw (← e) (ap (own_part (airline_of x)) onward-is ∙ own-enact t orderly (airline_of x) (plan_at t x))

  -- any other airline: nothing happened
  pub part-other : (a : Name) → same a (airline_of x) ≡ false → own_part a (onward t x) ≡ own_part a t
  part-other a n = ap (own_part a) onward-is ∙ own-other t orderly (airline_of x) a n (plan_at t x)

-- ── a whole run ────────────────────────────────────────────────────────────────────────────────

abbrev pub RunFits : Run → Type 0
RunFits = All AccountOperationFits

-- what a run is to an airline, by operations of its own
pub record ByOwn (a : Name) (t : Stage) (xs own : Run) : Type 0 where
  pub answers : own_answers a (answers_of t xs) ≡ planned_answers (own_part a t) own
  pub part : own_part a (after t xs) ≡ planned_part (own_part a t) own
  pub draws : draws_by a (draws_of t xs) ≡ planned_draws (own_part a t) own

pub by-own : (a : Name) (xs : Run) (t : Stage) → Orderly t → RunFits xs → run_meets t xs ≡ false → ByOwn a t xs (own_operations a xs)
unfolding own_answers answers_of draws_by draws_of own_operations keep after planned_answers planned_part planned_draws run_meets
by-own a [] t orderly fits clear = record { answers = refl; part = refl; draws = refl }
by-own a (x ∷ xs) t orderly (f, fs) clear =
    let (c, cs) = or-false (meets t x) (run_meets (onward t x) xs) clear in
    let later : ByOwn a (onward t x) xs (own_operations a xs) = by-own a xs (onward t x) (orderly-onward t orderly x f c) fs cs in
    by_bool (λ b. same a (airline_of x) ≡ b → ByOwn a t (x ∷ xs) (cond b (x ∷ own_operations a xs) (own_operations a xs))) (same a (airline_of x))
    (λ _ e. let mine : airline_of x ≡ a = sym (same_true a (airline_of x) e) in
    let q : own_part a (onward t x) ≡ own_after (own_part a t) (plan_of x (own_part a t)) = part-own t orderly x f c a mine in
    record {
      answers = rw e (ap₂ ◌∷◌ (ap (answer_to (airline_of x)) (says-own t orderly x f c a mine)) (later.answers ∙ ap (λ o. planned_answers o (own_operations a xs)) q));
      part = later.part ∙ ap (λ o. planned_part o (own_operations a xs)) q;
      draws = rw e (ap₂ ◌∷◌ (ap (λ n. draw (airline_of x) (count_of (plan_of x (own_part n t)))) mine) (later.draws ∙ ap (λ o. planned_draws o (own_operations a xs)) q));
    })
    (λ _ e. let q : own_part a (onward t x) ≡ own_part a t = part-other t orderly x f c a e in
    record {
      answers = rw e (later.answers ∙ ap (λ o. planned_answers o (own_operations a xs)) q);
      part = later.part ∙ ap (λ o. planned_part o (own_operations a xs)) q;
      draws = rw e (later.draws ∙ ap (λ o. planned_draws o (own_operations a xs)) q);
    }) refl

-- the stage that a run comes to
pub record Reaches (t u : Stage) (xs : Run) : Type 0 where
  pub orderly : Orderly u
  pub next : u.ledger.next_id ≡ sum (λ d. d.count) (draws_of t xs) + t.ledger.next_id
  pub fixed : fixed_part u.ledger ≡ fixed_part t.ledger

pub reaches : (xs : Run) (t : Stage) → Orderly t → RunFits xs → run_meets t xs ≡ false → Reaches t (after t xs) xs
unfolding after draws_of sum run_meets
reaches [] t orderly fits clear = record { orderly = orderly; next = omega arith; fixed = refl }
reaches (x ∷ xs) t orderly (f, fs) clear =
    let (c, cs) = or-false (meets t x) (run_meets (onward t x) xs) clear in
    let later : Reaches (onward t x) (after (onward t x) xs) xs = reaches xs (onward t x) (orderly-onward t orderly x f c) fs cs in
    record { orderly = later.orderly; next = omega (arith, later.next, next-onward t orderly x f c); fixed = later.fixed ∙ fixed-onward t orderly x f c }
