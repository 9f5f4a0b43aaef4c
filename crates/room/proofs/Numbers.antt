-- The numbers of places: what a look-up finds is the number of the name's place, and how numbers change when a place is written, put in or taken out.
use mathlib.Core.Path.{◌≡◌, refl, sym, ap, subst}
use mathlib.Core.Bool.{true, false, not, cond, ◌||◌}
use mathlib.Core.List.{List, [], ◌∷◌, ◌++◌, map}
use Prim.Native.Nat.{Ordering}
use Prim.Native.Nat.{ℕ, suc, pred, ◌≤◌, ◌<◌}
use native.Mathlib.Omega.{arith}
use borrow.Author.Tests.{lt-ltb, le-ltb, ltb-true}
use lib.Dec.{leb, ltb, compare_is_eq, leb-zero, leb-suc-zero, leb-suc-suc}
use lib.ListN.{length, take, drop, set}
use Rattle.std.specs.Prelude.{Some, None, option_map}
use Rattle.rules.specs.Lists.{any, keep, All, Pairwise}
use Rattle.rules.specs.RoomAndSoundLedger.{Name, order, same, Seat, Place, place, is_at, holds_place, Before}
use Rattle.rules.specs.AccountRules.{inserted, put, freed}
use Rattle.rules.proofs.Tests.{by_bool, by_order, true-false, or-false}
use Rattle.rules.proofs.Lists.{all_map, keep_all}
use Rattle.rules.proofs.Names.{order-self, order-eq, order_flip, order_trans, same_self, same_true, other, lt-other, gt-other}
use Rattle.rules.proofs.Places.{Over, over_any, over-trans}
use Rattle.names.specs.Names.{spelled}
use Rattle.names.proofs.Storing.{spelled-stored}
use Rattle.room.specs.Contents.{place_of_name, goes_behind, place_for_name}
use Rattle.room.specs.Room.{place_record, place_number}

-- ── what is found ──────────────────────────────────────────────────────────────────────────────

-- the record of a place spells its name
pub record-name : (p : Place) → spelled (place_record p).name ≡ p.name
unfolding place_record
record-name p = spelled-stored p.name

pub found_number : (a : Name) (ps : List Place) → place_of_name a (map place_record ps) ≡ cond (holds_place a ps) (Some (place_number a ps)) None
unfolding place_of_name holds_place any place_number
found_number a [] = refl
found_number a (p ∷ ps) = rw (record-name p, found_number a ps)
    (by_bool (λ b. cond b (Some 0) (option_map suc (cond (any (is_at a) ps) (Some (place_number a ps)) None)) ≡ cond (b || any (is_at a) ps) (Some (cond b 0 (suc (place_number a ps)))) None) (is_at a p)
    (λ _. refl)
    (λ _. by_bool (λ c. option_map suc (cond c (Some (place_number a ps)) None) ≡ cond c (Some (suc (place_number a ps))) None) (any (is_at a) ps) (λ _. refl) (λ _. refl)))

pub number-below : (a : Name) (ps : List Place) → holds_place a ps ≡ true → place_number a ps < length ps
unfolding holds_place any place_number
number-below a [] h = true-false h refl
number-below a (p ∷ ps) h = by_bool (λ b. is_at a p ≡ b → b || any (is_at a) ps ≡ true → cond b 0 (suc (place_number a ps)) < suc (length ps)) (is_at a p)
    (λ _ e h. omega arith) (λ _ e h. omega (arith, number-below a ps h)) refl h

-- ── a place written where the name holds one ───────────────────────────────────────────────────

-- a name before the first of the places holds none of them
not-before : (a : Name) (p : Place) (ps : List Place) → order a p.name ≡ Ordering.lt → All (Over p.name) ps → is_at a p || any (is_at a) ps ≡ false
not-before a p ps e h = rw (lt-other a p.name e, over_any a ps (over-trans a p.name ps e h))

-- ── a number raised or lowered ─────────────────────────────────────────────────────────────────

abbrev raised_number : ℕ → ℕ → ℕ
raised_number i n = cond (leb i n) (suc n) n

raised-suc : (i n : ℕ) → raised_number (suc i) (suc n) ≡ suc (raised_number i n)
raised-suc i n = rw (leb-suc-suc i n) (by_bool (λ b. cond b (suc (suc n)) (suc n) ≡ suc (cond b (suc n) n)) (leb i n) (λ _. refl) (λ _. refl))

abbrev lowered_number : ℕ → ℕ → ℕ
lowered_number i n = cond (ltb i n) (pred n) n

lowered-suc : (i n : ℕ) → lowered_number (suc i) (suc n) ≡ suc (lowered_number i n)
lowered-suc i n = rw (leb-suc-suc (suc i) n) (by_bool (λ b. ltb i n ≡ b → cond b (pred (suc n)) (suc n) ≡ suc (cond b (pred n) n)) (ltb i n) (λ _ e. let l = ltb-true i n e in let g : pred (suc n) ≡ suc (pred n) = omega arith in g) (λ _ e. refl) refl)

-- the order the other way round
order-turn : (a b : Name) → order a b ≡ Ordering.lt → order b a ≡ Ordering.gt
order-turn a b e = by_order (λ o. order b a ≡ o → o ≡ Ordering.gt) (order b a)
    (λ _ f. let z : order a a ≡ Ordering.lt = order_trans a b a e f in let q : order a a ≡ Ordering.eq = order-self a in cc)
    (λ _ f. let z : order a b ≡ Ordering.eq = subst (λ c. order a c ≡ Ordering.eq) (sym (order-eq b a f)) (order-self a) in cc)
    (λ _ f. refl) refl

at-equal : (a : Name) (p : Place) → order a p.name ≡ Ordering.eq → is_at a p ≡ true
unfolding same
at-equal a p e = ap compare_is_eq e

-- a name that holds a place is not one that holds none
held-other : (b a : Name) (ps : List Place) → holds_place b ps ≡ true → holds_place a ps ≡ false → same b a ≡ false
held-other b a ps h k = other b a (λ q. true-false h (subst (λ c. holds_place c ps ≡ false) (sym q) k))

module _ (a : Name) (s : Seat) where
  pub put-replaces : (ps : List Place) → Pairwise Before ps → holds_place a ps ≡ true → put a s ps ≡ set ps (place_number a ps) (place a s)
  unfolding put holds_place any place_number
  put-replaces [] ascend h = true-false h refl
  put-replaces (p ∷ ps) (over, ascend) h = by_order (λ o. order a p.name ≡ o → inserted o (place a s) p ps (put a s ps) ≡ set (p ∷ ps) (cond (is_at a p) 0 (suc (place_number a ps))) (place a s)) (order a p.name)
      (λ _ e. true-false h (not-before a p ps e over))
      (λ _ e. rw (← order-eq a p.name e, same_self a))
      (λ _ e. rw (gt-other a p.name e) (ap (λ qs. p ∷ qs) (put-replaces ps ascend (rw (gt-other a p.name e) at h)))) refl

  -- every name keeps its number
  pub number-replaced : (b : Name) (ps : List Place) → Pairwise Before ps → holds_place a ps ≡ true → place_number b (put a s ps) ≡ place_number b ps
  unfolding put holds_place any place_number
  number-replaced b [] ascend h = true-false h refl
  number-replaced b (p ∷ ps) (over, ascend) h = by_order (λ o. order a p.name ≡ o → place_number b (inserted o (place a s) p ps (put a s ps)) ≡ place_number b (p ∷ ps)) (order a p.name)
      (λ _ e. true-false h (not-before a p ps e over))
      (λ _ e. rw (order-eq a p.name e))
      (λ _ e. rw (number-replaced b ps ascend (rw (gt-other a p.name e) at h))) refl

  -- ── a place put in ───────────────────────────────────────────────────────────────────────────

  abbrev place_for : List Place → ℕ
  place_for ps = place_for_name a (map place_record ps)

  pub place-for-at-most : (ps : List Place) → place_for ps ≤ length ps
  unfolding place_for_name
  place-for-at-most [] = omega arith
  place-for-at-most (p ∷ ps) = by_order (λ o. goes_behind o (place_for ps) ≤ suc (length ps)) (order (spelled (place_record p).name) a) (λ _. omega (arith, place-for-at-most ps)) (λ _. omega arith) (λ _. omega arith)

  -- where a comes before the first place, and where behind it
  first-place : (p : Place) (ps : List Place) → order a p.name ≡ Ordering.lt → place_for (p ∷ ps) ≡ 0
  unfolding place_for_name
  first-place p ps e = rw (record-name p, order-turn a p.name e)

  later-place : (p : Place) (ps : List Place) → order a p.name ≡ Ordering.gt → place_for (p ∷ ps) ≡ suc (place_for ps)
  unfolding place_for_name
  later-place p ps e = rw (record-name p, order_flip a p.name e)

  pub put-opens : (ps : List Place) → holds_place a ps ≡ false → put a s ps ≡ take (place_for ps) ps ++ place a s ∷ drop (place_for ps) ps
  unfolding put holds_place any
  put-opens [] h = unfold place_for_name in refl
  put-opens (p ∷ ps) h = by_order (λ o. order a p.name ≡ o → inserted o (place a s) p ps (put a s ps) ≡ take (place_for (p ∷ ps)) (p ∷ ps) ++ place a s ∷ drop (place_for (p ∷ ps)) (p ∷ ps)) (order a p.name)
      (λ _ e. rw (first-place p ps e))
      (λ _ e. true-false (at-equal a p e) (or-false (is_at a p) (any (is_at a) ps) h).0)
      (λ _ e. rw (later-place p ps e) (ap (λ qs. p ∷ qs) (put-opens ps (or-false (is_at a p) (any (is_at a) ps) h).1))) refl

  -- names behind the new place get the next number
  pub number-opened : (b : Name) (ps : List Place) → holds_place a ps ≡ false → holds_place b ps ≡ true
      → place_number b (put a s ps) ≡ cond (leb (place_for ps) (place_number b ps)) (suc (place_number b ps)) (place_number b ps)
  unfolding put holds_place any place_number
  number-opened b [] h k = true-false k refl
  number-opened b (p ∷ ps) h k =
      let (not-here, not_there) = or-false (is_at a p) (any (is_at a) ps) h in
      by_order (λ o. order a p.name ≡ o → place_number b (inserted o (place a s) p ps (put a s ps)) ≡ raised_number (place_for (p ∷ ps)) (place_number b (p ∷ ps))) (order a p.name)
      (λ _ e. rw (first-place p ps e, leb-zero (place_number b (p ∷ ps)), held-other b a (p ∷ ps) k h))
      (λ _ e. true-false (at-equal a p e) not-here)
      (λ _ e. rw (later-place p ps e)
      (by_bool (λ c. is_at b p ≡ c → c || any (is_at b) ps ≡ true → cond c 0 (suc (place_number b (put a s ps))) ≡ raised_number (suc (place_for ps)) (cond c 0 (suc (place_number b ps)))) (is_at b p)
      (λ _ f g. rw (leb-suc-zero (place_for ps)))
      (λ _ f g. rw (raised-suc (place_for ps) (place_number b ps)) (ap suc (number-opened b ps not_there g))) refl k)) refl

-- ── a place taken out ──────────────────────────────────────────────────────────────────────────

module _ (a : Name) where
  -- no other place has the name
  alone : (p : Place) (ps : List Place) → All (Over p.name) ps → is_at a p ≡ true → freed a ps ≡ ps
  unfolding freed
  alone p ps over e = keep_all _ ps (all_map (Over p.name) (λ q. not (is_at a q) ≡ true) (λ q f. rw (lt-other a q.name (subst (λ m. order m q.name ≡ Ordering.lt) (sym (same_true a p.name e)) f))) ps over)

  pub freed-closes : (ps : List Place) → Pairwise Before ps → holds_place a ps ≡ true → freed a ps ≡ take (place_number a ps) ps ++ drop (suc (place_number a ps)) ps
  unfolding freed keep holds_place any place_number
  freed-closes [] ascend h = true-false h refl
  freed-closes (p ∷ ps) (over, ascend) h = by_bool (λ b. is_at a p ≡ b → b || any (is_at a) ps ≡ true → cond (not b) (p ∷ freed a ps) (freed a ps) ≡ take (cond b 0 (suc (place_number a ps))) (p ∷ ps) ++ drop (cond b 0 (suc (place_number a ps))) ps) (is_at a p)
      (λ _ e _. alone p ps over e)
      (λ _ e k. ap (λ qs. p ∷ qs) (freed-closes ps ascend k)) refl h

  -- names behind it get the number before
  pub number-freed : (b : Name) (ps : List Place) → Pairwise Before ps → holds_place a ps ≡ true → holds_place b ps ≡ true → same b a ≡ false
      → place_number b (freed a ps) ≡ cond (ltb (place_number a ps) (place_number b ps)) (pred (place_number b ps)) (place_number b ps)
  unfolding freed keep holds_place any place_number
  number-freed b [] ascend h k n = true-false h refl
  number-freed b (p ∷ ps) (over, ascend) h k n = by_bool (λ c. is_at a p ≡ c → c || any (is_at a) ps ≡ true → place_number b (cond (not c) (p ∷ freed a ps) (freed a ps)) ≡ lowered_number (cond c 0 (suc (place_number a ps))) (place_number b (p ∷ ps))) (is_at a p)
      (λ _ e _. rw (alone p ps over e, behind e, lt-ltb 0 (suc (place_number b ps)) (omega arith)))
      (λ _ e j. by_bool (λ c. is_at b p ≡ c → c || any (is_at b) ps ≡ true → cond c 0 (suc (place_number b (freed a ps))) ≡ lowered_number (suc (place_number a ps)) (cond c 0 (suc (place_number b ps)))) (is_at b p)
      (λ _ f g. rw (le-ltb (suc (place_number a ps)) 0 (omega arith)))
      (λ _ f g. rw (lowered-suc (place_number a ps) (place_number b ps)) (ap suc (number-freed b ps ascend j g n))) refl k) refl h
    where
      -- b does not hold the place of a
      behind : is_at a p ≡ true → is_at b p ≡ false
      behind e = subst (λ m. same b m ≡ false) (same_true a p.name e) n
