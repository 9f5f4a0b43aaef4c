-- Numbers joined by `|`: the result is zero exactly where each of them is.
use Rattle.std.proofs.Common.{◌≡◌, refl, sym, ap₂, ◌∙◌, List, [], ◌∷◌, ℕ, zero, suc, ◌≤◌, eqb, length, take, fold, arith}
use Rattle.std.proofs.Math.Seq.{length-take-le, get_or-take}
use Rattle.std.specs.Int.Bits.{bit_or, or_add_and, and_le_l, and_le_r}
use Rattle.soundness.specs.Facts.{Decides}
use Rattle.soundness.specs.Steps.{ZeroBelow}
use Rattle.soundness.proofs.Deciding.{by_equal, by_answer}

abbrev pub joined_from : ℕ → List ℕ → ℕ
joined_from a xs = fold bit_or a xs

-- where one of two numbers has a bit, so has what joins them
either-zero : (a b : ℕ) → bit_or a b ≡ 0 → (a ≡ 0) × (b ≡ 0)
either-zero a b e =
    let sums = or_add_and a b in
    let left = and_le_l a b in
    let right = and_le_r a b in (omega arith, omega arith)

joined-zero : (a : ℕ) (xs : List ℕ) → a ≡ 0 → ZeroBelow (length xs) xs → joined_from a xs ≡ 0
joined-zero a [] e z = e
joined-zero a (x ∷ xs) e z = joined-zero (bit_or a x) xs (ap₂ bit_or e (z 0 (omega arith))) (λ i l. z (suc i) (omega arith))

zero_more : (x : ℕ) (xs : List ℕ) → x ≡ 0 → ZeroBelow (length xs) xs → ZeroBelow (length (x ∷ xs)) (x ∷ xs)
zero_more x xs e z zero l = e
zero_more x xs e z (suc i) l = z i (omega arith)

zero-joined : (a : ℕ) (xs : List ℕ) → joined_from a xs ≡ 0 → (a ≡ 0) × ZeroBelow (length xs) xs
zero-joined a [] e = (e, λ i l. absurd (omega arith))
zero-joined a (x ∷ xs) e =
    let (here, below) = zero-joined (bit_or a x) xs e in
    let both = either-zero a x here in (both.0, zero_more x xs both.1 below)

pub joins-all : (xs : List ℕ) → Decides (ZeroBelow (length xs) xs) (eqb (joined_from 0 xs) 0)
joins-all xs = by_equal (joined_from 0 xs) 0 (λ e. (zero-joined 0 xs e).1) (λ z. joined-zero 0 xs refl z)

-- the first of them
pub joins-front : (n : ℕ) (xs : List ℕ) → n ≤ length xs → Decides (ZeroBelow n xs) (eqb (joined_from 0 (take n xs)) 0)
joins-front n xs h =
    let width : length (take n xs) ≡ n = length-take-le n xs h in
    by_answer (joins-all (take n xs)) (λ z i l. sym (get_or-take n xs i 0 l) ∙ z i (omega arith)) (λ z i l. get_or-take n xs i 0 (omega arith) ∙ z i (omega arith))
