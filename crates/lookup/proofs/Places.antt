-- A name among the places, by FirstPlace; and where it would go: `GoesAt` says what reading shows, and of two such indices the nearer would not stop.
use mathlib.Core.Path.{◌≡◌, refl, sym, subst, ◌∙◌}
use mathlib.Core.Logic.{◌≢◌}
use mathlib.Core.Bool.{Bool}
use mathlib.Core.List.{List, [], ◌∷◌}
use Prim.Native.Nat.{Ordering}
use Prim.Native.Nat.{ℕ, zero, suc, ◌≤◌, ◌<◌}
use native.Mathlib.Nat.{not-suc-le-zero}
use native.Mathlib.Omega.{arith}
use lib.ListN.{length, get_or}
use Rattle.rules.specs.RoomAndSoundLedger.{Name, order, same}
use Rattle.rules.proofs.Tests.{by_order}
use Rattle.rules.proofs.Names.{same_true}
use Rattle.names.specs.Names.{spelled}
use Rattle.records.specs.declared.Place.{Place}
use Rattle.std.specs.Prelude.{Option, Some, None}
use Rattle.room.specs.Contents.{goes_behind, place_of_name, place_for_name, empty_place, contents_of, Sized, used_places}
use Rattle.room.specs.Room.{SoundRoom}
use Rattle.room.specs.Seats.{FoundIn}
use Rattle.room.proofs.SoundRoom.{searchable}
use Rattle.lookup.proofs.FirstPlace.{first_place, FirstIs, first-is, first-only}

pub eq_not_lt : Ordering.eq ≢ Ordering.lt
eq_not_lt e = let z : ◌≡◌ {A = ℕ} 0 1 = cc in omega arith

pub gt-not-lt : Ordering.gt ≢ Ordering.lt
gt-not-lt e = let z : ◌≡◌ {A = ℕ} 0 1 = cc in omega arith

-- what is read past the places; shut, or goals would spell out its bytes
pub no_place : Place
no_place = empty_place

abbrev pub spells : Name → Place → Bool
spells a p = same a (spelled p.name)

module _ (a : Name) where
  name-first : (ps : List Place) → place_of_name a ps ≡ first_place (spells a) ps
  unfolding place_of_name
  name-first [] = refl
  name-first (p ∷ ps) = rw (name-first ps)

  -- what the place of a name says of the list, and that nothing else does
  pub name-is : (d : Place) (ps : List Place) → FirstIs (spells a) d ps (place_of_name a ps)
  name-is d ps = rw name-first (first-is (spells a) d ps)

  pub name-only : (d : Place) (ps : List Place) (r : Option ℕ) → FirstIs (spells a) d ps r → r ≡ place_of_name a ps
  name-only d ps r h = rw name-first (first-only (spells a) d ps r h)

  pub name-found : (d : Place) (ps : List Place) (i : ℕ) → place_of_name a ps ≡ Some i → (i < length ps) × (spelled (get_or ps i d).name ≡ a)
  name-found d ps i e =
      let (h, t, k) = subst (FirstIs (spells a) d ps) e (name-is d ps) in
      (h, sym (same_true a (spelled (get_or ps i d).name) t))

-- ── where a new name goes ──────────────────────────────────────────────────────────────────────

-- behind the names that come before it
pub record GoesAt (a : Name) (d : Place) (ps : List Place) (i : ℕ) : Type 0 where
  pub within : i ≤ length ps
  pub behind : (k : ℕ) → k < i → order (spelled (get_or ps k d).name) a ≡ Ordering.lt
  pub stops : i < length ps → order (spelled (get_or ps i d).name) a ≢ Ordering.lt

module _ (a : Name) (d : Place) where
  goes-here : (p : Place) (ps : List Place) → order (spelled p.name) a ≢ Ordering.lt → GoesAt a d (p ∷ ps) 0
  goes-here p ps n = record { within = omega arith; behind = λ k l. absurd (not-suc-le-zero l); stops = λ l. n }

  goes_later : (p : Place) (ps : List Place) (i : ℕ) → order (spelled p.name) a ≡ Ordering.lt → GoesAt a d ps i → GoesAt a d (p ∷ ps) (suc i)
  goes_later p ps i e g = record { within = omega arith; behind = before; stops = λ l. g.stops (omega arith) }
    where
      before : (k : ℕ) → k < suc i → order (spelled (get_or (p ∷ ps) k d).name) a ≡ Ordering.lt
      before zero l = e
      before (suc k) l = g.behind k (omega arith)

  pub goes_at : (ps : List Place) → GoesAt a d ps (place_for_name a ps)
  unfolding place_for_name
  goes_at [] = record { within = omega arith; behind = λ k l. absurd (not-suc-le-zero l); stops = λ l. absurd (not-suc-le-zero l) }
  goes_at (p ∷ ps) =
      by_order (λ o. GoesAt a d (p ∷ ps) (goes_behind o (place_for_name a ps))) (order (spelled p.name) a)
      (λ e. goes_later p ps (place_for_name a ps) e (goes_at ps))
      (λ e. goes-here p ps (λ q. eq_not_lt (sym e ∙ q)))
      (λ e. goes-here p ps (λ q. gt-not-lt (sym e ∙ q)))

  -- and nowhere else: of two such places the nearer would not stop
  nearer : (ps : List Place) (i j : ℕ) → GoesAt a d ps i → GoesAt a d ps j → i < j → ⊥
  nearer ps i j g h l = g.stops (omega arith) (h.behind i l)

  pub goes-only : (ps : List Place) (i : ℕ) → GoesAt a d ps i → i ≡ place_for_name a ps
  goes-only ps i g =
      let h = goes_at ps in
      omega (arith, nearer ps i (place_for_name a ps) g h, nearer ps (place_for_name a ps) i h g)

-- a place that a look-up answers is one of those searched
found_in : (a : Name) (ps : List Place) (f : Option ℕ) → f ≡ place_of_name a ps → FoundIn f ps
found_in a ps (Some i) e = (name-found a no_place ps i (sym e)).0
found_in a ps None e = tt

-- so the seat there may be read (`seats::seat_at`)
pub seat-readable : (xs : List ℕ) → SoundRoom xs → (a : Name) (f : Option ℕ) → f ≡ place_of_name a (used_places (contents_of xs)) → Sized xs × FoundIn f (used_places (contents_of xs))
seat-readable xs sound a f e = ((searchable xs sound).sized, found_in a (used_places (contents_of xs)) f e)
