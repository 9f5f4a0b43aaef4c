-- Names by their words: the order of two names is that of the big-endian numbers of their parts, the first that differ, and then of their lengths.
use mathlib.Core.Path.{◌≡◌, refl, sym, ap, ap₂, ◌∙◌, subst}
use mathlib.Core.Bool.{true, false}
use mathlib.Core.List.{List, [], ◌∷◌, ◌++◌}
use Prim.Native.Nat.{Ordering}
use Prim.Native.Nat.{ℕ, zero, suc, ◌+◌, ◌*◌, ◌≤◌, ◌<◌, zero-le, suc-le-suc, compare}
use native.Mathlib.Nat.{le_of_suc-le-suc, not-suc-le-zero}
use native.Mathlib.Omega.{arith}
use borrow.Author.Tests.{ltb-true, ltb-false}
use lib.Dec.{ltb}
use lib.ListN.{length, get_or, take, drop, length-drop}
use lib.Seq.{take-add, take_all, length-take-le}
use Rattle.rules.specs.Lists.{All}
use Rattle.rules.specs.RoomAndSoundLedger.{IsByte, order, then_by, longest_name}
use Rattle.rules.specs.SnapshotsMigrationCertificates.{bytes_of, number_from, number_of}
use Rattle.rules.proofs.Tests.{by_bool, by_order}
use Rattle.rules.proofs.Names.{compare-lt, compare-eq, compare-gt, compare_self, order-self, order_trans}
use Rattle.rules.proofs.Numbers.{bytes-of-number}
use Rattle.numbers.proofs.Bytes.{all_take, all_drop}
use Rattle.names.specs.declared.Name.{Name}
use Rattle.names.specs.Names.{is_before, spelled, IsStored}

-- zeros from a byte on
abbrev pub ClearFrom : (n : ℕ) → List ℕ → Type 0
ClearFrom n xs = (i : ℕ) → n ≤ i → get_or xs i 0 ≡ 0

-- ── numbers and order ──────────────────────────────────────────────────────────────────────────

from_less : (u v : List ℕ) (m n : ℕ) → length u ≡ length v → All IsByte u → All IsByte v → m < n → number_from m u < number_from n v
unfolding number_from
from_less [] [] m n e h k l = l
from_less [] (y ∷ v) m n e h k l = absurd (omega arith)
from_less (x ∷ u) [] m n e h k l = absurd (omega arith)
from_less (x ∷ u) (y ∷ v) m n e (hx, h) (hy, k) l = from_less u v (m * 256 + x) (n * 256 + y) (omega arith) h k (omega arith)

number-order : (u v : List ℕ) (m : ℕ) → length u ≡ length v → All IsByte u → All IsByte v → number_from m u < number_from m v → order u v ≡ Ordering.lt
unfolding number_from order
number-order [] [] m e h k l = absurd (omega arith)
number-order [] (y ∷ v) m e h k l = refl
number-order (x ∷ u) [] m e h k l = absurd (omega arith)
number-order (x ∷ u) (y ∷ v) m e (hx, h) (hy, k) l =
    by_order (λ o. compare x y ≡ o → then_by o (order u v) ≡ Ordering.lt) (compare x y)
    (λ _ c. refl)
    (λ _ c. number-order u v (m * 256 + x) (omega arith) h k (subst (λ z. number_from (m * 256 + x) u < number_from (m * 256 + z) v) (sym (compare-eq x y c)) l))
    (λ _ c. absurd (omega (arith, from_less v u (m * 256 + y) (m * 256 + x) (omega arith) k h (omega (arith, compare-gt x y c)))))
    refl

-- ── parts and order ────────────────────────────────────────────────────────────────────────────

-- lists that begin alike are in the order of their rests
order-rest : (j : ℕ) (xs ys : List ℕ) → take j xs ≡ take j ys → order (drop j xs) (drop j ys) ≡ Ordering.lt → order xs ys ≡ Ordering.lt
unfolding order
order-rest zero xs ys e h = h
order-rest (suc j) [] [] e h = h
order-rest (suc j) [] (y ∷ ys) e h = refl
order-rest (suc j) (x ∷ xs) [] e h = let z : ◌≡◌ {A = ℕ} (length (x ∷ take j xs)) 0 = ap length e in absurd (omega arith)
order-rest (suc j) (x ∷ xs) (y ∷ ys) e h =
    let same : x ≡ y = ap (λ l. get_or l 0 0) e in
    rw (same, compare_self y) (order-rest j xs ys (ap (drop 1) e) h)

-- lists of which the beginnings are in order, and go as far
order-front : (k : ℕ) (xs ys : List ℕ) → k ≤ length xs → order (take k xs) (take k ys) ≡ Ordering.lt → order xs ys ≡ Ordering.lt
unfolding order
order-front zero xs ys l h = cc
order-front (suc k) [] ys l h = absurd (omega arith)
order-front (suc k) (x ∷ xs) [] l h = cc
order-front (suc k) (x ∷ xs) (y ∷ ys) l h =
    by_order (λ o. then_by o (order (take k xs) (take k ys)) ≡ Ordering.lt → then_by o (order xs ys) ≡ Ordering.lt) (compare x y)
    (λ _ t. refl) (λ _ t. order-front k xs ys (omega arith) t) (λ _ t. cc) h

abbrev pub part : (k j : ℕ) → List ℕ → List ℕ
part k j xs = take k (drop j xs)

part_length : (k j : ℕ) (xs : List ℕ) → j + k ≤ length xs → length (part k j xs) ≡ k
part_length k j xs h = length-take-le k (drop j xs) (rw length-drop (omega arith))

part_bytes : (k j : ℕ) (xs : List ℕ) → All IsByte xs → All IsByte (part k j xs)
part_bytes k j xs h = all_take IsByte k (drop j xs) (all_drop IsByte j xs h)

-- two lists of bytes and a part of them
module _ (k j : ℕ) (xs ys : List ℕ) (bx : All IsByte xs) (by : All IsByte ys) (lx : j + k ≤ length xs) (ly : j + k ≤ length ys) (alike : take j xs ≡ take j ys) where
  same_width : length (part k j xs) ≡ length (part k j ys)
  same_width = part_length k j xs lx ∙ sym (part_length k j ys ly)

  pub part-order : number_of (part k j xs) < number_of (part k j ys) → order xs ys ≡ Ordering.lt
  part-order h =
      order-rest j xs ys alike (order-front k (drop j xs) (drop j ys) (rw length-drop (omega arith))
      (number-order (part k j xs) (part k j ys) 0 same_width (part_bytes k j xs bx) (part_bytes k j ys by) h))

  pub part_same : number_of (part k j xs) ≡ number_of (part k j ys) → take (j + k) xs ≡ take (j + k) ys
  part_same h =
      let e : part k j xs ≡ part k j ys =
      sym (bytes-of-number (part k j xs) (part_bytes k j xs bx)) ∙ ap₂ bytes_of same_width h ∙ bytes-of-number (part k j ys) (part_bytes k j ys by) in
      take-add j k xs ∙ ap₂ ◌++◌ alike e ∙ sym (take-add j k ys)

-- ── lengths and order ──────────────────────────────────────────────────────────────────────────

lt-only : {A : Type 0} → Ordering.eq ≡ Ordering.lt → A
lt-only e = absurd (let z : ◌≡◌ {A = ℕ} 0 1 = cc in omega arith)

-- nothing comes before zeros
zeros-first : (xs ys : List ℕ) → length xs ≡ length ys → ClearFrom 0 ys → order xs ys ≡ Ordering.lt → ⊥
unfolding order
zeros-first [] [] e cy h = lt-only h
zeros-first [] (y ∷ ys) e cy h = omega arith
zeros-first (x ∷ xs) [] e cy h = omega arith
zeros-first (x ∷ xs) (y ∷ ys) e cy h =
    let zy : y ≡ 0 = cy 0 zero-le in
    by_order (λ o. compare x y ≡ o → then_by o (order xs ys) ≡ Ordering.lt → ⊥) (compare x y)
    (λ _ c t. omega (arith, compare-lt x y c))
    (λ _ c t. zeros-first xs ys (omega arith) (λ i _. cy (suc i) zero-le) t)
    (λ _ c t. let z : ◌≡◌ {A = ℕ} 0 1 = cc in omega arith)
    refl h

-- lists that are zero past the names are in the names' order
names-order : (xs ys : List ℕ) (n m : ℕ) → length xs ≡ length ys → ClearFrom n xs → ClearFrom m ys → order xs ys ≡ Ordering.lt → order (take n xs) (take m ys) ≡ Ordering.lt
unfolding order
names-order [] [] n m e cx cy h = cc
names-order [] (y ∷ ys) n m e cx cy h = absurd (omega arith)
names-order (x ∷ xs) [] n m e cx cy h = absurd (omega arith)
names-order (x ∷ xs) (y ∷ ys) zero (suc m) e cx cy h = refl
names-order (x ∷ xs) (y ∷ ys) n zero e cx cy h = absurd (zeros-first (x ∷ xs) (y ∷ ys) e cy h)
names-order (x ∷ xs) (y ∷ ys) (suc n) (suc m) e cx cy h =
    by_order (λ o. then_by o (order xs ys) ≡ Ordering.lt → then_by o (order (take n xs) (take m ys)) ≡ Ordering.lt) (compare x y)
    (λ _ t. refl)
    (λ _ t. names-order xs ys n m (omega arith) (λ i from. cx (suc i) (suc-le-suc from)) (λ i from. cy (suc i) (suc-le-suc from)) t)
    (λ _ t. cc) h

-- a name that goes on comes after
longer-order : (xs : List ℕ) (n m : ℕ) → n < m → m ≤ length xs → order (take n xs) (take m xs) ≡ Ordering.lt
unfolding order
longer-order xs n zero l h = absurd (not-suc-le-zero l)
longer-order [] n (suc m) l h = absurd (omega arith)
longer-order (x ∷ xs) zero (suc m) l h = refl
longer-order (x ∷ xs) (suc n) (suc m) l h = rw (compare_self x) (longer-order xs n m (le_of_suc-le-suc l) (le_of_suc-le-suc h))

-- one of two is not before the other
not-both : (a b : List ℕ) → order a b ≡ Ordering.lt → order b a ≡ Ordering.lt → ⊥
not-both a b h k =
    lt-only (sym (order-self a) ∙ order_trans a b a h k)

-- what comes after is not before
not-before : (a b : List ℕ) → order b a ≡ Ordering.lt → false ≡ is_before (order a b)
not-before a b h = by_order (λ o. false ≡ is_before o) (order a b) (λ e. absurd (not-both a b e h)) (λ _. refl) (λ _. refl)

-- ── names ──────────────────────────────────────────────────────────────────────────────────────

-- what the words of two names say, where those before them are the same
pub record Compared (k before here : ℕ) (p q : Name) : Type 0 where
  pub less : before < here → true ≡ is_before (order (spelled p) (spelled q))
  pub more : here < before → false ≡ is_before (order (spelled p) (spelled q))
  pub same : before ≡ here → take (8 * (k + 1)) p.bytes ≡ take (8 * (k + 1)) q.bytes

names-before : (p q : Name) → IsStored p → IsStored q → order p.bytes q.bytes ≡ Ordering.lt → order (spelled p) (spelled q) ≡ Ordering.lt
names-before p q sp sq = names-order p.bytes q.bytes p.length q.length (sp.width ∙ sym sq.width) (λ i l. sp.clear i (omega arith)) (λ i l. sq.clear i (omega arith))

module _ (p q : Name) (s : IsStored p × IsStored q) where
  pub compared :
      (k before here : ℕ) → All IsByte p.bytes × All IsByte q.bytes → k < 3 → take (8 * k) p.bytes ≡ take (8 * k) q.bytes
      → before ≡ number_of (part 8 (8 * k) p.bytes) → here ≡ number_of (part 8 (8 * k) q.bytes) → Compared k before here p q
  compared k before here (bp, bq) third alike eb eh =
      let e : 8 * k + 8 ≡ 8 * (k + 1) = omega arith in
      let lp : 8 * k + 8 ≤ length p.bytes = omega (arith, s.0.width) in
      let lq : 8 * k + 8 ≤ length q.bytes = omega (arith, s.1.width) in
      record {
        less = λ h. sym (ap is_before (names-before p q s.0 s.1 (part-order 8 (8 * k) p.bytes q.bytes bp bq lp lq alike (omega arith))));
        more = λ h. not-before (spelled p) (spelled q) (names-before q p s.1 s.0 (part-order 8 (8 * k) q.bytes p.bytes bq bp lq lp (sym alike) (omega arith)));
        same = λ h. subst (λ m. take m p.bytes ≡ take m q.bytes) e (part_same 8 (8 * k) p.bytes q.bytes bp bq lp lq alike (sym eb ∙ h ∙ eh));
      }

  by-length : p.bytes ≡ q.bytes → ltb p.length q.length ≡ is_before (order (spelled p) (spelled q))
  by-length e =
      let xs = p.bytes in
      let n = p.length in
      let m = q.length in
      subst (λ ys. ltb n m ≡ is_before (order (take n xs) (take m ys))) e
      (by_bool (λ b. b ≡ is_before (order (take n xs) (take m xs))) (ltb n m)
      (λ t. sym (ap is_before (longer-order xs n m (ltb-true n m t) (omega (arith, s.0.width, s.1.fits)))))
      (λ t. by_bool (λ _. false ≡ is_before (order (take n xs) (take m xs))) (ltb m n)
      (λ u. not-before (take n xs) (take m xs) (longer-order xs m n (ltb-true m n u) (omega (arith, s.0.width, s.0.fits))))
      (λ u. let z : m ≡ n = omega (arith, ltb-false n m t, ltb-false m n u) in sym (ap (λ j. is_before (order (take n xs) (take j xs))) z ∙ ap is_before (order-self (take n xs))))))

  -- names of the same three words are in the order of their lengths
  pub by_lengths : take longest_name p.bytes ≡ take longest_name q.bytes → ltb p.length q.length ≡ is_before (order (spelled p) (spelled q))
  by_lengths e =
      by-length (sym (take_all longest_name p.bytes (omega (arith, s.0.width))) ∙ e ∙ take_all longest_name q.bytes (omega (arith, s.1.width)))
