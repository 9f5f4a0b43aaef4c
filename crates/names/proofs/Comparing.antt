-- The code compares two lists of bytes as std does. That is the rules' order, by induction along the bytes, and the same byte at each index is the same name.
use mathlib.Core.Path.{◌≡◌, refl, sym, ap, ◌∙◌}
use mathlib.Core.Logic.{◌≢◌}
use mathlib.Core.Bool.{Bool, false}
use mathlib.Core.List.{List, [], ◌∷◌}
use Prim.Native.Nat.{Ordering}
use Prim.Native.Nat.{ℕ, ◌≤◌, ◌<◌, compare}
use native.Mathlib.Omega.{arith}
use lib.ListN.{length, get_or, drop, drop_of_length-le}
use lib.Seq.{drop-cons}
use Rattle.std.specs.Prelude.{IsTrue, EachIndex, ◌↔◌}
use Rattle.std.specs.Ordering.{nat_cmp, ordering_then}
use Rattle.std.specs.Cmp.Lexicographic.{slice_cmp}
use Rattle.std.specs.declared.cmp.Ordering.{Ordering as Compared}
use Rattle.std.specs.declared.cmp.Ordering.TheVariants.{Less, Equal, Greater}
use Rattle.std.proofs.lemmas.Cmp.{ranked, by_ranked}
use Rattle.std.proofs.lemmas.List.{same_lists, get_or_default}
use Rattle.rules.specs.RoomAndSoundLedger.{order, same, then_by}
use Rattle.rules.proofs.Tests.{by_bool, by_order, true-false}
use Rattle.rules.proofs.Names.{compare-lt, compare-eq, lt-compare, compare_self, same_self, other}
use Rattle.names.specs.Names.{ordering_of}

gt-compare : (x y : ℕ) → y < x → compare x y ≡ Ordering.gt
gt-compare x y h = by_order (λ o. o ≡ Ordering.gt) (compare x y) (λ e. absurd (omega (arith, compare-lt x y e))) (λ e. absurd (omega (arith, compare-eq x y e))) (λ e. refl)

-- ── the order ──────────────────────────────────────────────────────────────────────────────────

byte-order : (x y : ℕ) → ordering_of (nat_cmp x y) ≡ compare x y
byte-order x y =
    by_ranked (x < y) (x ≡ y) (y < x) (nat_cmp x y) (ranked x y (nat_cmp x y) refl)
    (λ e h. ap ordering_of e ∙ sym (lt-compare x y h))
    (λ e h. ap ordering_of e ∙ sym (ap (compare x) (sym h) ∙ compare_self x))
    (λ e h. ap ordering_of e ∙ sym (gt-compare x y h))

then-order : (o p : Compared) → ordering_of (ordering_then o p) ≡ then_by (ordering_of o) (ordering_of p)
then-order Less p = refl
then-order Equal p = refl
then-order Greater p = refl

pub slice-order : (a b : List ℕ) → ordering_of (slice_cmp nat_cmp a b) ≡ order a b
unfolding order
slice-order [] [] = refl
slice-order [] (y ∷ b) = refl
slice-order (x ∷ a) [] = refl
slice-order (x ∷ a) (y ∷ b) = then-order (nat_cmp x y) (slice_cmp nat_cmp a b) ∙ rw (byte-order x y, slice-order a b)

-- what `compare` needs of this
pub ruleset the_order = (slice-order)

-- from an index on, where the first has ended there
module _ (a b : List ℕ) (i : ℕ) where
  pub left_ended : length a ≤ i → i < length b → order (drop i a) (drop i b) ≡ Ordering.lt
  unfolding order
  left_ended ha hb = rw (drop_of_length-le a ha, drop-cons b i 0 hb)

-- ── the same name ──────────────────────────────────────────────────────────────────────────────

pub other-length : (a b : List ℕ) → length a ≢ length b → false ≡ same a b
other-length a b n = sym (other a b (λ e. n (ap length e)))

pub same-bytes : (a b : List ℕ) (r : Bool) → length a ≡ length b → (IsTrue r ↔ EachIndex a (λ k. get_or a k 0 ≡ get_or b k 0)) → r ≡ same a b
same-bytes a b r e told =
    by_bool (λ c. r ≡ c → c ≡ same a b) r
    (λ t _. sym (ap (same a) (sym (same_lists a b e (λ k d h. get_or_default a k d 0 h ∙ told.0 t k h ∙ get_or_default b k 0 d (omega arith)))) ∙ same_self a))
    (λ f _. sym (other a b (λ whole. true-false (told.1 (λ k h. ap (λ xs. get_or xs k 0) whole)) f)))
    refl
