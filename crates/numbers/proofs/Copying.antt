-- A copy, element by element, of one list over another: what is copied so far is a front of the one and the rest of the other.
use mathlib.Core.Path.{◌≡◌, sym, ◌∙◌}
use mathlib.Core.List.{List, ◌++◌, append-nil}
use Prim.Native.Nat.{ℕ, suc, ◌+◌, ◌≤◌, ◌<◌}
use native.Mathlib.Numerals.{add-one}
use native.Mathlib.Omega.{arith}
use lib.ListN.{length, get_or, take, drop, set, drop_of_length-le}
use lib.Seq.{drop-cons, take-suc, take_all, set_at, length-take-le, append_snoc}

module _ {A : Type 0} (target source : List A) where
  -- under way: the first i of the source, and what the target had after them
  abbrev pub copied : ℕ → List A
  copied i = take i source ++ drop i target

  pub copied-turn : (i : ℕ) (z : A) → i < length target → i < length source → set (copied i) i (get_or source i z) ≡ copied (i + 1)
  copied-turn i z ht hs =
      rw (drop-cons target i z ht, add-one, take-suc source i z hs)
      (set_at (take i source) (get_or target i z) (drop (suc i) target) (get_or source i z) i (length-take-le i source (omega arith))
      ∙ sym (append_snoc (take i source) (get_or source i z) (drop (suc i) target)))

  -- the whole source over a target that it covers
  pub copied_all : (i : ℕ) → length source ≤ i → length target ≤ i → copied i ≡ source
  copied_all i hs ht = rw (take_all i source hs, drop_of_length-le target ht) (append-nil source)
