-- Sums over the places in use, taken place by place: one place further, the sum grows by what the place loaded there adds.
use mathlib.Core.Path.{◌≡◌, refl, sym, ◌∙◌, ap, ap₂}
use mathlib.Core.List.{List, [], ◌∷◌, map}
use Prim.Native.Nat.{ℕ, zero, suc, ◌+◌, ◌≤◌, ◌<◌}
use native.Mathlib.Omega.{arith}
use native.Mathlib.Numerals.{add-one}
use lib.ListN.{length, take, get_or}
use lib.Seq.{take-suc, take_all}
use Rattle.rules.specs.Lists.{sum}
use Rattle.rules.specs.RoomAndSoundLedger.{Place as RulesPlace, Ledger}
use Rattle.rules.proofs.Lists.{sum_more}
use Rattle.records.specs.Layout.{place_start, place_size}
use Rattle.records.specs.Rows.{row}
use Rattle.records.specs.Records.{sizes_of, place_of}
use Rattle.records.specs.declared.Place.{Place}
use Rattle.room.specs.Contents.{contents_of, Sized, used_places}
use Rattle.room.specs.Room.{place_record, IsRoom}
use Rattle.room.proofs.InRoom.{used-places, loaded-place}
use Rattle.room.proofs.SoundRoom.{places-are}

module _ {A : Type 0} (w : A → ℕ) where
  sum-turn : (xs : List A) (i : ℕ) (d : A) → i < length xs → sum w (take (i + 1) xs) ≡ sum w (take i xs) + w (get_or xs i d)
  sum-turn xs i d h = rw (add-one, take-suc xs i d h) (sum_more w (take i xs) (get_or xs i d))

  sum-part : (i : ℕ) (xs : List A) → sum w (take i xs) ≤ sum w xs
  unfolding sum
  sum-part zero xs = omega arith
  sum-part (suc i) [] = omega arith
  sum-part (suc i) (x ∷ xs) = omega (arith, sum-part i xs)

  sum-mapped : {B : Type 0} (f : B → A) (v : B → ℕ) → ((x : B) → w (f x) ≡ v x) → (xs : List B) → sum w (map f xs) ≡ sum v xs
  unfolding sum
  sum-mapped f v e [] = refl
  sum-mapped f v e (x ∷ xs) = ap₂ ◌+◌ (e x) (sum-mapped f v e xs)

-- ── over the room of a sound ledger ────────────────────────────────────────────────────────────

-- the sum over the first i places in use
abbrev pub sum_to : (Place → ℕ) → List ℕ → ℕ → ℕ
sum_to w xs i = sum w (take i (used_places (contents_of xs)))

module _ (w : Place → ℕ) (xs : List ℕ) (s : Sized xs) where
  pub sum-none : sum_to w xs 0 ≡ 0
  unfolding sum
  sum-none = refl

  pub sum-next : (i : ℕ) → i < (sizes_of xs).used → sum_to w xs (i + 1) ≡ sum_to w xs i + w (place_of (row place_size (place_start i) xs))
  sum-next i h =
      let d = place_of [] in
      sum-turn w (used_places (contents_of xs)) i d (omega (arith, used-places xs s)) ∙ ap (λ p. sum_to w xs i + w p) (sym (loaded-place xs s i d h))

  module _ (v : RulesPlace → ℕ) (e : (p : RulesPlace) → w (place_record p) ≡ v p) (L : Ledger) (room : IsRoom xs L) where
    -- the sum over the whole is the ledger's
    whole : sum w (used_places (contents_of xs)) ≡ sum v L.places
    whole = ap (sum w) (places-are xs L room) ∙ sum-mapped w place_record v e L.places

    pub sum-all : (i : ℕ) → (sizes_of xs).used ≤ i → sum_to w xs i ≡ sum v L.places
    sum-all i h = ap (sum w) (take_all i (used_places (contents_of xs)) (omega (arith, used-places xs s))) ∙ whole

    pub sum-within : (i : ℕ) → sum_to w xs i ≤ sum v L.places
    sum-within i = omega (arith, sum-part w i (used_places (contents_of xs)), whole)
