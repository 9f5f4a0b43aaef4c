-- `lookup::find` meets its contract: what is found among the numbers of the places in use is the first place that spells the name. That it is
-- answered is left to `search`, through whatever step follows it: an edit that puts one there is refused for its value alone.
use mathlib.Core.Path.{◌≡◌, sym, ap, ◌∙◌}
use mathlib.Core.Bool.{Bool, true, false}
use mathlib.Core.List.{List}
use Prim.Native.Nat.{ℕ, ◌≤◌, ◌<◌, zero-le}
use native.Mathlib.Omega.{arith}
use lib.ListN.{get_or}
use Rattle.std.proofs.Common.{Option, Some, None, MatchOption, rules}
use Rattle.std.proofs.lemmas.Iterator.{serves_from_Range, first_from_Range}
use Rattle.rules.specs.RoomAndSoundLedger.{Name, same}
use Rattle.names.specs.Names.{spelled}
use Rattle.records.specs.Layout.{place_start, place_size}
use Rattle.records.specs.Rows.{row}
use Rattle.records.specs.Records.{place_of, sizes_of}
use Rattle.room.specs.Contents.{contents_of, Sized, used_places, place_of_name}
use Rattle.rules.proofs.ByIndex.{all-of-reads}
use Rattle.room.proofs.InRoom.{used-places, loaded-name, name-in-room}
use Rattle.lookup.proofs.Places.{no_place, spells, name-only}
use Rattle.lookup.proofs.find.Goals as goal

-- what stands at a place in the room spells the name
abbrev spelled-at : List ℕ → Name → ℕ → Bool
spelled-at xs a i = same a (spelled (place_of (row place_size (place_start i) xs)).name)

module _ (xs : List ℕ) (s : Sized xs) (a : Name) (n : ℕ) (e : n ≡ (sizes_of xs).used) where
  at-place : (i : ℕ) (b : Bool) → i < n → spelled-at xs a i ≡ b → spells a (get_or (used_places (contents_of xs)) i no_place) ≡ b
  at-place i b h t = ap (same a) (sym (loaded-name xs s i no_place (omega arith))) ∙ t

  first-found : (r : Option ℕ) → MatchOption r ((k : ℕ) → 0 ≤ k → k < n → spelled-at xs a k ≡ false)
      (λ i. (0 ≤ i) × (i < n) × (spelled-at xs a i ≡ true) × ((k : ℕ) → 0 ≤ k → k < i → spelled-at xs a k ≡ false)) → r ≡ place_of_name a (used_places (contents_of xs))
  first-found None h = name-only a no_place _ None (all-of-reads _ no_place _ (λ k l. at-place k false (omega (arith, used-places xs s)) (h k zero-le (omega (arith, used-places xs s)))))
  first-found (Some i) (h, l, t, k) =
      name-only a no_place _ (Some i) (omega (arith, used-places xs s), at-place i true l t, λ j m. at-place j false (omega arith) (k j zero-le m))

pub find-requires-clause-callable : goal.find-requires-clause-callable
find-requires-clause-callable c =
    let used = ap (λ s. s.used) c.load_sizes-sizes.ensures in
    serves_from_Range (λ x q k. search rules) (λ x h l. let here = name-in-room c.args.room.now c.requires.sized x c.requires.names_stored (omega arith) in search rules)

pub returns : goal.returns
returns c =
    let xs = c.args.room.now in
    let a = c.args.part.now in
    let found =
    first-found xs c.requires.sized a c.load_sizes-sizes.result.used (ap (λ s. s.used) c.load_sizes-sizes.ensures) c.find.result
    (first_from_Range _ _ _ c.find.result (λ i. spelled-at xs a i ≡ true) (λ i. spelled-at xs a i ≡ false) c.find.ensures.ran (λ x q k. search rules) (λ x q k. search rules)) in
    search (rules, found)
