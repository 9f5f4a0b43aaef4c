-- The places passed so far, and one more: all sound, in ascending order, with what they commit and what they have reserved.
use mathlib.Core.Path.{◌≡◌, sym, ap, ◌∙◌, subst}
use mathlib.Core.List.{List, [], ◌∷◌, ◌++◌, map, map-append}
use Prim.Native.Nat.{ℕ, zero, suc, ◌+◌, ◌-◌, ◌<◌}
use native.Mathlib.Numerals.{add-one}
use native.Mathlib.Omega.{arith}
use lib.ListN.{length, take, set}
use lib.Seq.{take-suc-set}
use Rattle.rules.specs.Lists.{sum, All, Pairwise}
use Rattle.rules.proofs.Lists.{all_map, all-parts, all_more, pairwise-more, sum_more}
use Rattle.rules.proofs.Names.{order_trans}
use Rattle.names.specs.Names.{spelled}
use Rattle.records.specs.Layout.{place_size, head_size}
use Rattle.records.specs.Records.{place_of, places}
use Rattle.records.specs.declared.Place.{Place}
use Rattle.room.specs.Contents.{NameBefore}
use Rattle.soundness.specs.Facts.{PlaceSound, PlacesSound}
use Rattle.soundness.specs.Steps.{place_at, NameFollows, Noted}
use Rattle.soundness.proofs.Tables.{table_more, table-all, table-pairs}

-- ── one more in an ascending list ──────────────────────────────────────────────────────────────

module _ {A : Type 0} (R : A → A → Type 0) where
  pairwise-last : (xs : List A) (y : A) → Pairwise R (xs ++ y ∷ []) → All (λ x. R x y) xs
  pairwise-last [] y h = tt
  pairwise-last (x ∷ xs) y (h, k) = ((all-parts (R x) xs (y ∷ []) h).1.0, pairwise-last xs y k)

  -- it is enough to compare with the last one
  pub pairwise-next : ((x y z : A) → R x y → R y z → R x z) → (xs : List A) (y z : A) → Pairwise R (xs ++ y ∷ []) → R y z → Pairwise R ((xs ++ y ∷ []) ++ z ∷ [])
  pairwise-next trans xs y z h r =
      pairwise-more R (xs ++ y ∷ []) z h (all_more (λ x. R x z) xs y (all_map (λ x. R x y) (λ x. R x z) (λ x k. trans x y z k r) xs (pairwise-last xs y h)) r)

-- ── the places ─────────────────────────────────────────────────────────────────────────────────

abbrev pub committed_by : (i : ℕ) → List ℕ → ℕ
committed_by i xs = sum (λ p. p.committed) (places i xs)

module _ (xs : List ℕ) where
  pub place-more : (i : ℕ) → places (i + 1) xs ≡ places i xs ++ place_at i xs ∷ []
  place-more i = table_more place_of place_size head_size xs i

  pub ascend-more : (i : ℕ) → Pairwise NameBefore (places i xs) → NameFollows i xs → Pairwise NameBefore (places (i + 1) xs)
  ascend-more zero h f = (tt, tt)
  ascend-more (suc i) h f =
      let e : places (suc i) xs ≡ places i xs ++ place_at i xs ∷ [] = ap (λ n. places n xs) (sym (add-one i)) ∙ place-more i in
      let before : suc i - 1 ≡ i = omega arith in
      subst (Pairwise NameBefore) (sym (place-more (suc i) ∙ ap (λ ps. ps ++ place_at (suc i) xs ∷ []) e))
      (pairwise-next NameBefore (λ p q r. order_trans (spelled p.name) (spelled q.name) (spelled r.name)) (places i xs) (place_at i xs) (place_at (suc i) xs)
      (subst (Pairwise NameBefore) e h) (subst (λ j. NameBefore (place_at j xs) (place_at (suc i) xs)) before (f (omega arith))))

  -- the place that was loaded
  module _ (i : ℕ) (p : Place) (loaded : p ≡ place_at i xs) where
    loaded-more : places (i + 1) xs ≡ places i xs ++ p ∷ []
    loaded-more = place-more i ∙ ap (λ q. places i xs ++ q ∷ []) (sym loaded)

    pub sound_more : All PlaceSound (places i xs) → PlaceSound p → All PlaceSound (places (i + 1) xs)
    sound_more h here = rw loaded-more (all_more PlaceSound (places i xs) p h here)

    pub left-more : (base left : ℕ) → left ≡ base - committed_by i xs → left - p.committed ≡ base - committed_by (i + 1) xs
    left-more base left e = omega (arith, ap (sum (λ p. p.committed)) loaded-more ∙ sum_more (λ p. p.committed) (places i xs) p)

    pub noted_more : (reserved : List ℕ) → i < length reserved → Noted i xs reserved → Noted (i + 1) xs (set reserved i p.reserved)
    noted_more reserved h e =
        ap (λ n. take n (set reserved i p.reserved)) (add-one i) ∙ take-suc-set reserved i p.reserved h ∙ ap (λ l. l ++ p.reserved ∷ []) e
        ∙ sym (ap (map (λ p. p.reserved)) loaded-more ∙ map-append (λ p. p.reserved) (places i xs) (p ∷ []))

    -- what sound places say of it, and of its name
    module _ (base used : ℕ) (sound : PlacesSound base (places used xs)) (h : i < used) where
      pub place-sound : PlaceSound p
      place-sound = rw loaded (table-all place_of place_size head_size xs PlaceSound used i sound.each h)

      pub name-follows : NameFollows i xs
      name-follows l = table-pairs place_of place_size head_size xs NameBefore used (i - 1) i sound.ascend (omega arith) h
