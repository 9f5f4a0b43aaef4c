-- Laws of the bookings: what is found by an id, before and after one is added or ended. By induction along the list; an end takes out every match,
-- so only the law of the sums needs the ids in order.
use mathlib.Core.Path.{◌≡◌, refl, sym, ◌∙◌}
use mathlib.Core.Logic.{◌⊎◌, inl, inr, ◌≢◌}
use mathlib.Core.Bool.{true, false, not, cond}
use mathlib.Core.List.{List, [], ◌∷◌, ◌++◌}
use mathlib.Core.Option.{Option, none, some}
use Prim.Native.Nat.{ℕ, ◌+◌, ◌≤◌, ◌<◌}
use native.Mathlib.Omega.{arith}
use borrow.Author.Tests.{eqb-true, eq-eqb, ne_eqb}
use Rattle.rules.specs.Lists.{first, keep, sum, All, Pairwise}
use Rattle.rules.specs.RoomAndSoundLedger.{Booking}
use Rattle.rules.specs.AccountRules.{has_id, booked, ended}
use Rattle.rules.proofs.Tests.{by_bool}
use Rattle.rules.proofs.Lists.{first_passes, first-all, first-none, first-keep, first-keep-none, first_more, first-last, all_map, keep_all}

abbrev pub Below : Booking → Booking → Type 0
Below b c = b.id < c.id

abbrev pub IdBelow : ℕ → Booking → Type 0
IdBelow next b = (1 ≤ b.id) × (b.id < next)

-- ── found by its id ────────────────────────────────────────────────────────────────────────────

pub booked-id : (i : ℕ) (bs : List Booking) (b : Booking) → booked i bs ≡ some b → b.id ≡ i
unfolding booked
booked-id i bs b h = sym (eqb-true i b.id (first_passes (has_id i) bs b h))

pub booked-all : (P : Booking → Type 0) (i : ℕ) (bs : List Booking) (b : Booking) → All P bs → booked i bs ≡ some b → P b
unfolding booked
booked-all P i bs b h e = first-all P (has_id i) bs b h e

pub booked-none : (i : ℕ) (bs : List Booking) → All (λ b. i ≢ b.id) bs → booked i bs ≡ none
unfolding booked
booked-none i bs h = first-none (has_id i) bs (all_map (λ b. i ≢ b.id) (λ b. has_id i b ≡ false) (λ b n. ne_eqb i b.id n) bs h)

pub booked-out-of-range : (next i : ℕ) (bs : List Booking) → All (IdBelow next) bs → (i ≡ 0) ⊎ (next ≤ i) → booked i bs ≡ none
booked-out-of-range next i bs h o = booked-none i bs (all_map (IdBelow next) (λ b. i ≢ b.id) (λ b r. go o b r) bs h)
  where
    go : (i ≡ 0) ⊎ (next ≤ i) → (b : Booking) → IdBelow next b → i ≢ b.id
    go (inl z) b r = omega arith
    go (inr l) b r = omega arith

pub booked-head : (b : Booking) (bs : List Booking) → booked b.id (b ∷ bs) ≡ some b
unfolding booked first
booked-head b bs = rw (eq-eqb b.id b.id refl)

pub booked-tail : (i : ℕ) (b : Booking) (bs : List Booking) → i ≢ b.id → booked i (b ∷ bs) ≡ booked i bs
unfolding booked first
booked-tail i b bs n = rw (ne_eqb i b.id n)

-- ── one more ───────────────────────────────────────────────────────────────────────────────────

pub booked-more : (j : ℕ) (b : Booking) (bs : List Booking) → j ≢ b.id → booked j (bs ++ b ∷ []) ≡ booked j bs
unfolding booked
booked-more j b bs n = first_more (has_id j) bs b (ne_eqb j b.id n)

pub booked-last : (b : Booking) (bs : List Booking) → booked b.id bs ≡ none → booked b.id (bs ++ b ∷ []) ≡ some b
unfolding booked
booked-last b bs h = first-last (has_id b.id) bs b (eq-eqb b.id b.id refl) h

-- ── one ended ──────────────────────────────────────────────────────────────────────────────────

pub booked-ended : (i : ℕ) (bs : List Booking) → booked i (ended i bs) ≡ none
unfolding booked ended
booked-ended i bs = first-keep-none (has_id i) _ bs (λ b e. rw e)

pub booked-ended-other : (j i : ℕ) (bs : List Booking) → j ≢ i → booked j (ended i bs) ≡ booked j bs
unfolding booked ended
booked-ended-other j i bs n = first-keep (has_id j) _ bs (λ b e. rw (ne_eqb i b.id (λ q. n (eqb-true j b.id e ∙ sym q))))

abbrev pub weigh : (Booking → ℕ) → Option Booking → ℕ
weigh w none = 0
weigh w (some b) = w b

-- an end takes out the one booking of that id
pub sum-ended : (w : Booking → ℕ) (i : ℕ) (bs : List Booking) → Pairwise Below bs → sum w (ended i bs) + weigh w (booked i bs) ≡ sum w bs
unfolding sum booked ended keep first
sum-ended w i [] h = refl
sum-ended w i (x ∷ bs) (h, k) = by_bool (λ b. has_id i x ≡ b → sum w (cond (not b) (x ∷ ended i bs) (ended i bs)) + weigh w (cond b (some x) (booked i bs)) ≡ w x + sum w bs) (has_id i x)
    (λ _ e. let q : i ≡ x.id = eqb-true i x.id e in
    let n : ended i bs ≡ bs = keep_all _ bs (all_map (Below x) (λ b. not (has_id i b) ≡ true) (λ b l. rw (ne_eqb i b.id (omega arith))) bs h) in
    rw n (omega arith))
    (λ _ e. omega (arith, sum-ended w i bs k)) refl
