-- Lists of bytes, and lists spelt out by their elements.
use mathlib.Core.Path.{◌≡◌, sym}
use mathlib.Core.List.{List, [], ◌∷◌}
use Prim.Native.Nat.{ℕ, zero, suc, ◌+◌, ◌<◌}
use native.Mathlib.Omega.{arith}
use native.Mathlib.Numerals.{add-one}
use lib.ListN.{length, get_or, take, drop, replicate, drop_of_length-le}
use lib.Seq.{drop-cons}
use mir.Syntax.{w8}
use mir.Val.{Fits}
use Rattle.rules.specs.Lists.{All}
use Rattle.rules.specs.RoomAndSoundLedger.{IsByte}

module _ {A : Type 0} (P : A → Type 0) where
  -- what is known of each element of a slice
  pub all-at : (z : A) (xs : List A) → ((i : ℕ) → P (get_or xs i z)) → All P xs
  all-at z [] h = tt
  all-at z (x ∷ xs) h = (h 0, all-at z xs (λ i. h (suc i)))

  pub all_take : (n : ℕ) (xs : List A) → All P xs → All P (take n xs)
  all_take zero xs h = tt
  all_take (suc n) [] h = tt
  all_take (suc n) (x ∷ xs) (h, k) = (h, all_take n xs k)

  pub all_drop : (n : ℕ) (xs : List A) → All P xs → All P (drop n xs)
  all_drop zero xs h = h
  all_drop (suc n) [] h = tt
  all_drop (suc n) (x ∷ xs) (h, k) = all_drop n xs k

  pub all-repeat : (x : A) → P x → (n : ℕ) → All P (replicate n x)
  all-repeat x h zero = tt
  all-repeat x h (suc n) = (h, all-repeat x h n)

-- what the check knows of a slice of bytes
pub all-bytes : (xs : List ℕ) → ((i : ℕ) → Fits w8 (get_or xs i 0)) → All IsByte xs
all-bytes xs h = all-at IsByte 0 xs (λ i. (h i).fits)

-- n elements from an index on, one by one: at numerals this computes to what code that reads each of them has
abbrev pub elements : (from n : ℕ) → List ℕ → List ℕ
elements from zero xs = []
elements from (suc n) xs = get_or xs from 0 ∷ elements (from + 1) n xs

pub elements-are : (from n : ℕ) (xs : List ℕ) → length xs ≡ from + n → elements from n xs ≡ drop from xs
elements-are from zero xs h = sym (drop_of_length-le xs {i = from} (omega arith))
elements-are from (suc n) xs h =
    let l : from < length xs = omega arith in
    rw (elements-are (from + 1) n xs (omega arith), drop-cons xs from 0 l, add-one)
