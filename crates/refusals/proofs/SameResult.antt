-- A result is fixed by its answer. A refusal can be read back from its number and from what it carries, so no two are told alike; and where what is handed over can be read back
-- too, two results of one answer are the same.
use mathlib.Core.Path.{◌≡◌, refl, sym, ap, ◌∙◌}
use mathlib.Core.HLevel.{is_prop→PathP}
use mathlib.Core.Bool.{Bool, false, cond}
use mathlib.Core.List.{List, [], ◌∷◌}
use Prim.Native.Nat.{ℕ}
use native.Mathlib.Omega.{arith}
use lib.Dec.{eqb}
use lib.ListN.{get_or, take, length-take}
use lib.Seq.{take_all, length-take-le}
use Rattle.std.specs.Prelude.{Result, Ok, Err}
use Rattle.std.proofs.Props.{props}
use Rattle.rules.specs.RoomAndSoundLedger.{longest_name}
use Rattle.rules.specs.AnswerNumbers.{Value, Count, Reply, Refusal as RulesRefusal, done, reply_of}
use Rattle.rules.proofs.Values.{Parts, parts_of, beside}
use Rattle.numbers.specs.declared.Microcents.{Microcents}
use Rattle.names.specs.declared.Name.{Name}
use Rattle.names.specs.Names.{spelled, stored, IsStored}
use Rattle.names.proofs.Storing.{stored-is-stored, stored-spelled}
use Rattle.refusals.specs.declared.tenant_name.TenantName.{TenantName, stored-type}
use Rattle.refusals.specs.declared.Refusal.{Refusal}
use Rattle.refusals.specs.declared.Refusal.TheVariants as refusal
use Rattle.refusals.specs.Answers.{refusal_of, answer_of, carries_nothing, carries_amount, carries_count, carries_version}

-- ── what an answer carries ─────────────────────────────────────────────────────────────────────

-- by the order of the values
abbrev value_at : Reply → ℕ → Parts
value_at r i = parts_of (get_or r.carried i (Count 0))

abbrev pub amount_at : Reply → ℕ → Microcents
amount_at r i = record { 0 = (value_at r i).amount }

abbrev pub number_at : Reply → ℕ → ℕ
number_at r i = (value_at r i).number

abbrev pub yes_at : Reply → ℕ → Bool
yes_at r i = (value_at r i).yes

abbrev pub bytes_at : Reply → ℕ → List ℕ
bytes_at r i = (value_at r i).bytes

-- what can be read back from its answer is fixed by it
pub record ReadBack {R : Type 0} (reply : R → Reply) : Type 0 where
  pub back : Reply → R
  pub is : (r : R) → back (reply r) ≡ r

module _ {R : Type 0} (reply : R → Reply) (read : ReadBack reply) where
  pub one-result : (r s : R) → reply r ≡ reply s → r ≡ s
  one-result r s e = sym (read.is r) ∙ ap read.back e ∙ read.is s

-- ── the name that a refusal carries ────────────────────────────────────────────────────────────

-- the name that bytes spell, of which no more count than a name has; what its type asks of it, and gives, is found by `search`: so an edit of that is refused
-- for what it says
tenant_of : List ℕ → TenantName
tenant_of a =
    let is : IsStored (stored (take longest_name a)) = stored-is-stored (take longest_name a) (rw length-take (omega arith)) in
    record { name = stored (take longest_name a); stored = (search) }

-- what its type says of it has one proof at most
stored-prop : (n : Name) → IsProp (stored-type n)
stored-prop n = hlevel props

tenant-back : (t : TenantName) → tenant_of (spelled t.name) ≡ t
unfolding tenant_of
tenant-back t =
    let known : IsStored t.name = search t.stored in
    let short : take longest_name (spelled t.name) ≡ spelled t.name =
    take_all longest_name (spelled t.name) (omega (arith, length-take-le t.name.length t.name.bytes (omega (arith, known.fits, known.width)), known.fits)) in
    let same : stored (take longest_name (spelled t.name)) ≡ t.name = ap stored short ∙ stored-spelled t.name known in
    λ i. record { name = same i; stored = is_prop→PathP (λ j. stored-type (same j)) (λ j. stored-prop (same j)) (tenant_of (spelled t.name)).stored t.stored i }

-- ── a refusal ──────────────────────────────────────────────────────────────────────────────────

abbrev tenant_at : Reply → TenantName
tenant_at r = tenant_of (bytes_at r 0)

-- 4 with an amount is of a reserve or a commit, 4 with nothing of a top-up
abbrev overflow_with : List Value → Microcents → Refusal
overflow_with [] value = refusal.OverflowOfTopUp
overflow_with (_ ∷ _) value = refusal.Overflow value

abbrev refusal_back : Reply → Refusal
refusal_back r =
    beside r.number
    ((1, refusal.NegativeAmount (amount_at r 0))
    ∷ (2, refusal.InvalidAmount)
    ∷ (3, refusal.MissingTenant)
    ∷ (4, overflow_with r.carried (amount_at r 0))
    ∷ (5, refusal.ExposureLimitExceeded (amount_at r 0) (amount_at r 1))
    ∷ (6, refusal.Insufficient (amount_at r 0) (amount_at r 1))
    ∷ (7, refusal.MissingReservation)
    ∷ (8, refusal.Overrun (amount_at r 0))
    ∷ (9, refusal.AllocatorExhausted)
    ∷ (10, refusal.ActiveReservations (number_at r 0))
    ∷ (11, refusal.DuplicateTenant (tenant_at r))
    ∷ (12, refusal.GhostReservation (tenant_at r) (amount_at r 1))
    ∷ (13, refusal.NegativeLedgerField (tenant_at r) (number_at r 1) (amount_at r 2))
    ∷ (14, refusal.ConservationViolation (tenant_at r) (amount_at r 1))
    ∷ (15, refusal.AggregateOverflow)
    ∷ (16, refusal.AlreadyRecoveryAware)
    ∷ (17, refusal.InvalidAllocatorFence (number_at r 0))
    ∷ (18, refusal.LegacySnapshotRequiresMigration)
    ∷ (19, refusal.NameTooLong)
    ∷ (20, refusal.NamesFull)
    ∷ (21, refusal.ReservationsFull)
    ∷ (22, refusal.OutputTooShort)
    ∷ (23, refusal.BadFrame)
    ∷ [])
    refusal.UnsoundLedger

-- that a 13 tells its name, and below that a refusal is told as its own reply, is found by `grind`: so an edit of that is refused for what it says
refusal-back : (e : Refusal) → refusal_back (reply_of (refusal_of e)) ≡ e
refusal-back (refusal.NegativeAmount value) = refl
refusal-back refusal.InvalidAmount = refl
refusal-back refusal.MissingTenant = refl
refusal-back (refusal.Overflow carried) = refl
refusal-back refusal.OverflowOfTopUp = refl
refusal-back (refusal.ExposureLimitExceeded reserved limit) = refl
refusal-back (refusal.Insufficient remaining required) = refl
refusal-back refusal.MissingReservation = refl
refusal-back (refusal.Overrun remaining) = refl
refusal-back refusal.AllocatorExhausted = refl
refusal-back (refusal.ActiveReservations count) = refl
refusal-back (refusal.DuplicateTenant tenant) = ap refusal.DuplicateTenant (tenant-back tenant)
refusal-back (refusal.GhostReservation tenant reserved) = ap (λ t. refusal.GhostReservation t reserved) (tenant-back tenant)
refusal-back (refusal.NegativeLedgerField tenant field value) =
    let told : bytes_at (reply_of (refusal_of (refusal.NegativeLedgerField tenant field value))) 0 ≡ spelled tenant.name = grind arith in
    ap (λ a. refusal.NegativeLedgerField (tenant_of a) field value) told ∙ ap (λ t. refusal.NegativeLedgerField t field value) (tenant-back tenant)
refusal-back (refusal.ConservationViolation tenant delta) = ap (λ t. refusal.ConservationViolation t delta) (tenant-back tenant)
refusal-back refusal.AggregateOverflow = refl
refusal-back refusal.AlreadyRecoveryAware = refl
refusal-back (refusal.InvalidAllocatorFence fence) = refl
refusal-back refusal.LegacySnapshotRequiresMigration = refl
refusal-back refusal.NameTooLong = refl
refusal-back refusal.NamesFull = refl
refusal-back refusal.ReservationsFull = refl
refusal-back refusal.OutputTooShort = refl
refusal-back refusal.BadFrame = refl
refusal-back refusal.UnsoundLedger = refl

pub refusal-read : ReadBack (λ (e : Refusal). reply_of (refusal_of e))
refusal-read = record { back = refusal_back; is = refusal-back }

pub same-refusal : (d e : Refusal) → reply_of (refusal_of d) ≡ reply_of (refusal_of e) → d ≡ e
same-refusal = one-result (λ (e : Refusal). reply_of (refusal_of e)) refusal-read

-- ── a result ───────────────────────────────────────────────────────────────────────────────────

-- no refusal has the number of done
refused-number : (e : RulesRefusal) → eqb (reply_of e).number 0 ≡ false
refused-number e = grind arith

-- what is done is read by what it carries, and the rest is a refusal
pub answer_back : {A : Type 0} → (Reply → A) → Reply → Result A Refusal
answer_back back r = cond (eqb r.number 0) (Ok (back r)) (Err (refusal_back r))

pub answer-back : {A : Type 0} (carried : A → List Value) (back : Reply → A) (r : Result A Refusal)
    → ((x : A) → r ≡ Ok x → back (done (carried x)) ≡ x) → answer_back back (answer_of carried r) ≡ r
unfolding answer_back
answer-back carried back (Ok x) done-back = ap Ok (done-back x refl)
answer-back carried back (Err e) done-back =
    let told : Reply = reply_of (refusal_of e) in
    let is : answer_of carried (Err e) ≡ told = grind arith in
    ap (answer_back back) is ∙ ap (λ b. cond b (Ok (back told)) (Err (refusal_back told))) (refused-number (refusal_of e)) ∙ ap Err (refusal-back e)

-- what is handed over can be read back from its answer
abbrev pub HandsOver : {A : Type 0} → (A → List Value) → Type 0
HandsOver carried = ReadBack (λ x. done (carried x))

module _ {A : Type 0} (carried : A → List Value) (read : HandsOver carried) where
  pub answer-read : ReadBack (answer_of {A = A} carried)
  answer-read = record { back = answer_back read.back; is = λ r. answer-back carried read.back r (λ x _. read.is x) }

  pub same-result : (r s : Result A Refusal) → answer_of carried r ≡ answer_of carried s → r ≡ s
  same-result = one-result (answer_of carried) answer-read

-- ── what is handed over by itself ──────────────────────────────────────────────────────────────

pub nothing-read : HandsOver {A = Unit {0}} carries_nothing
nothing-read = record { back = λ _. tt; is = λ _. refl }

pub amount-read : HandsOver carries_amount
amount-read = record { back = λ r. amount_at r 0; is = λ _. refl }

pub count-read : HandsOver carries_count
count-read = record { back = λ r. number_at r 0; is = λ _. refl }

pub version-read : HandsOver carries_version
version-read = record { back = λ r. number_at r 0; is = λ _. refl }
