-- Laws of the places: what a seat written, or freed, means to every name's seat, to the order, the count and the committed total. By induction
-- along the places, and by the order of the written name and the first.
use mathlib.Core.Path.{◌≡◌, refl, sym, ◌∙◌, ap, subst}
use mathlib.Core.Bool.{Bool, true, false, not, cond, ◌&&◌, ◌||◌, false≢true}
use mathlib.Core.List.{List, [], ◌∷◌}
use mathlib.Core.Option.{Option, none, some}
use lib.Dec.{eqb}
use Prim.Native.Nat.{Ordering}
use Prim.Native.Nat.{ℕ, suc, ◌+◌}
use native.Mathlib.Omega.{arith}
use borrow.Author.Tests.{eqb-true}
use lib.ListN.{length}
use Rattle.rules.specs.Lists.{first, any, keep, sum, All, Pairwise}
use Rattle.rules.specs.RoomAndSoundLedger.{Name, order, same, Account, Seat, seat, Place, place, is_vacant, is_at, seat_of, holds_place, seat_in, has_account, committed_of, committed_at, committed_total, Before}
use Rattle.rules.specs.AccountRules.{inserted, put, freed, seated}
use Rattle.rules.proofs.Tests.{by-test, by_bool, by-option, by_order, true-false}
use Rattle.rules.proofs.Lists.{first-all, first-none, first_any, any_none, first-keep, first-keep-none, all_map}
use Rattle.rules.proofs.Names.{order-eq, order_flip, order_trans, same_self, same_true, same_false, other, lt-other, gt-other}

-- ── the two laws of a seat written ─────────────────────────────────────────────────────────────

pub seat_in-put : (a : Name) (s : Seat) (ps : List Place) → seat_in a (put a s ps) ≡ s
unfolding seat_in put first
seat_in-put a s [] = rw (same_self a)
seat_in-put a s (p ∷ ps) = by_order (λ o. order a p.name ≡ o → seat_in a (inserted o (place a s) p ps (put a s ps)) ≡ s) (order a p.name)
    (λ _ e. rw (same_self a)) (λ _ e. rw (same_self a)) (λ _ e. rw (gt-other a p.name e) (seat_in-put a s ps)) refl

pub seat_in-put-other : (b a : Name) (s : Seat) (ps : List Place) → same b a ≡ false → seat_in b (put a s ps) ≡ seat_in b ps
unfolding seat_in put first
seat_in-put-other b a s [] n = rw n
seat_in-put-other b a s (p ∷ ps) n = by_order (λ o. order a p.name ≡ o → seat_in b (inserted o (place a s) p ps (put a s ps)) ≡ seat_in b (p ∷ ps)) (order a p.name)
    (λ _ e. rw n) (λ _ e. rw (n, ← order-eq a p.name e, n))
    (λ _ e. by_bool (λ c. seat_of (cond c (some p) (first (is_at b) (put a s ps))) ≡ seat_of (cond c (some p) (first (is_at b) ps))) (is_at b p) (λ _. refl) (λ _. seat_in-put-other b a s ps n)) refl

not_at : (b a : Name) (p : Place) → same b a ≡ false → is_at b p ≡ true → not (is_at a p) ≡ true
not_at b a p n e = rw (other a p.name (λ q. same_false b a n (same_true b p.name e ∙ sym q)))

-- a vacant seat is the one of a name that holds no place
vacant-seat : (s : Seat) → is_vacant s ≡ true → s ≡ seat none 0
vacant-seat s e = go s.account s.limit refl refl e
  where
    go : (c : Option Account) (l : ℕ) → s.account ≡ c → s.limit ≡ l → not (has_account c) && eqb l 0 ≡ true → s ≡ seat none 0
    go none l p q t = let r : l ≡ 0 = eqb-true l 0 t in λ i. record { account = p i; limit = (q ∙ r) i }
    go (some c) l p q t = absurd (false≢true t)

-- the name's seat is the one written
pub seat_in-seated : (a : Name) (s : Seat) (ps : List Place) → seat_in a (seated a s ps) ≡ s
unfolding seated
seat_in-seated a s ps = by-test (λ l. seat_in a l ≡ s) (is_vacant s)
    (λ e. let q : seat_in a (freed a ps) ≡ seat none 0 = unfold seat_in freed in ap seat_of (first-keep-none (is_at a) _ ps (λ p t. rw t)) in q ∙ sym (vacant-seat s e)) (λ e. seat_in-put a s ps)

-- every other name's seat stays
pub seat_in-seated-other : (b a : Name) (s : Seat) (ps : List Place) → same b a ≡ false → seat_in b (seated a s ps) ≡ seat_in b ps
unfolding seated
seat_in-seated-other b a s ps n = by-test (λ l. seat_in b l ≡ seat_in b ps) (is_vacant s)
    (λ e. unfold seat_in freed in ap seat_of (first-keep (is_at b) _ ps (λ p t. not_at b a p n t))) (λ e. seat_in-put-other b a s ps n)

-- what holds of every place's seat, and of a name that has nothing, holds of every name's seat
pub seat_in-all : (P : Seat → Type 0) (ps : List Place) → P (seat none 0) → All (λ p. P p.seat) ps → (a : Name) → P (seat_in a ps)
unfolding seat_in
seat_in-all P ps n h a = by-option (λ o. first (is_at a) ps ≡ o → P (seat_of o)) (first (is_at a) ps) (λ _ _. n) (λ p _ e. first-all (λ p. P p.seat) (is_at a) ps p h e) refl

-- ── what comes after a name ────────────────────────────────────────────────────────────────────

abbrev pub Over : Name → Place → Type 0
Over a p = order a p.name ≡ Ordering.lt

-- where every place comes after a name, it holds none
pub over_first : (a : Name) (ps : List Place) → All (Over a) ps → first (is_at a) ps ≡ none
over_first a ps h = first-none (is_at a) ps (all_map (Over a) (λ p. is_at a p ≡ false) (λ p e. lt-other a p.name e) ps h)

pub over_any : (a : Name) (ps : List Place) → All (Over a) ps → any (is_at a) ps ≡ false
over_any a ps h = any_none (is_at a) ps (all_map (Over a) (λ p. is_at a p ≡ false) (λ p e. lt-other a p.name e) ps h)

pub over-trans : (a b : Name) (ps : List Place) → order a b ≡ Ordering.lt → All (Over b) ps → All (Over a) ps
over-trans a b ps e h = all_map (Over b) (Over a) (λ p f. order_trans a b p.name e f) ps h

-- every place is the one found by its name
pub all_found : (ps : List Place) → Pairwise Before ps → All (λ p. seat_in p.name ps ≡ p.seat) ps
unfolding seat_in first
all_found [] h = tt
all_found (x ∷ xs) (h, k) = (rw (same_self x.name), go xs h (all_found xs k))
  where
    go : (ys : List Place) → All (Over x.name) ys → All (λ p. seat_in p.name xs ≡ p.seat) ys → All (λ p. seat_in p.name (x ∷ xs) ≡ p.seat) ys
    go [] f g = tt
    go (y ∷ ys) (f, f') (g, g') = (rw (other y.name x.name (λ q. same_false x.name y.name (lt-other x.name y.name f) (sym q))) g, go ys f' g')

-- ── a place put: what holds of all, the order, the count, the committed total ──────────────────

-- what holds of the old places and of the new one holds of all
pub all-put : (P : Place → Type 0) (a : Name) (s : Seat) (ps : List Place) → P (place a s) → All P ps → All P (put a s ps)
unfolding put
all-put P a s [] n h = (n, tt)
all-put P a s (p ∷ ps) n (h, k) = by_order (λ o. All P (inserted o (place a s) p ps (put a s ps))) (order a p.name) (λ e. (n, (h, k))) (λ e. (n, k)) (λ e. (h, all-put P a s ps n k))

pub ascend-put : (a : Name) (s : Seat) (ps : List Place) → Pairwise Before ps → Pairwise Before (put a s ps)
unfolding put
ascend-put a s [] h = (tt, tt)
ascend-put a s (p ∷ ps) (h, k) = by_order (λ o. order a p.name ≡ o → Pairwise Before (inserted o (place a s) p ps (put a s ps))) (order a p.name)
    (λ _ e. ((e, over-trans a p.name ps e h), (h, k)))
    (λ _ e. (subst (λ n. All (Over n) ps) (sym (order-eq a p.name e)) h, k))
    (λ _ e. (all-put (Over p.name) a s ps (order_flip a p.name e) h, ascend-put a s ps k)) refl

-- a name that holds a place takes no other
abbrev pub more : Bool → ℕ
more true = 0
more false = 1

pub length-put : (a : Name) (s : Seat) (ps : List Place) → Pairwise Before ps → length (put a s ps) ≡ more (holds_place a ps) + length ps
unfolding put holds_place any
length-put a s [] h = refl
length-put a s (p ∷ ps) (h, k) = by_order (λ o. order a p.name ≡ o → length (inserted o (place a s) p ps (put a s ps)) ≡ more (is_at a p || any (is_at a) ps) + suc (length ps)) (order a p.name)
    (λ _ e. rw (lt-other a p.name e, over_any a ps (over-trans a p.name ps e h)) (omega arith))
    (λ _ e. rw (← order-eq a p.name e, same_self a) (omega arith))
    (λ _ e. rw (gt-other a p.name e) (omega (arith, length-put a s ps k))) refl

pub total-put : (a : Name) (s : Seat) (ps : List Place) → Pairwise Before ps → committed_total (put a s ps) + committed_of (seat_in a ps).account ≡ committed_total ps + committed_of s.account
unfolding put sum seat_in first committed_total
total-put a s [] h = omega arith
total-put a s (p ∷ ps) (h, k) = by_order (λ o. order a p.name ≡ o → sum committed_at (inserted o (place a s) p ps (put a s ps)) + committed_of (seat_of (first (is_at a) (p ∷ ps))).account ≡ (committed_at p + sum committed_at ps) + committed_of s.account) (order a p.name)
    (λ _ e. rw (lt-other a p.name e, over_first a ps (over-trans a p.name ps e h)) (omega arith))
    (λ _ e. rw (← order-eq a p.name e, same_self a) (omega arith))
    (λ _ e. rw (gt-other a p.name e) (omega (arith, total-put a s ps k))) refl

pub total-freed : (a : Name) (ps : List Place) → Pairwise Before ps → committed_total (freed a ps) + committed_of (seat_in a ps).account ≡ committed_total ps
unfolding freed keep sum seat_in first committed_total
total-freed a [] h = refl
total-freed a (p ∷ ps) (h, k) = by_bool (λ b. is_at a p ≡ b → sum committed_at (cond (not b) (p ∷ freed a ps) (freed a ps)) + committed_of (seat_of (cond b (some p) (first (is_at a) ps))).account ≡ committed_at p + sum committed_at ps) (is_at a p)
    (λ _ e. let q : first (is_at a) ps ≡ none = over_first a ps (subst (λ n. All (Over n) ps) (sym (same_true a p.name e)) h) in
    let r : sum committed_at (freed a ps) + 0 ≡ sum committed_at ps = rw q at (total-freed a ps k) in omega arith)
    (λ _ e. omega (arith, total-freed a ps k)) refl

-- ── a name with an account holds a place ───────────────────────────────────────────────────────

pub account-holds : (a : Name) (ps : List Place) → has_account (seat_in a ps).account ≡ true → holds_place a ps ≡ true
unfolding seat_in holds_place
account-holds a ps h = by_bool (λ b. any (is_at a) ps ≡ b → b ≡ true) (any (is_at a) ps) (λ _ e. refl)
    (λ _ e. let q : first (is_at a) ps ≡ none = first_any (is_at a) ps e in true-false h (ap (λ o. has_account (seat_of o).account) q)) refl
