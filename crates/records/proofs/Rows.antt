-- Laws of rows and puts, over any width: a row that is put is that row, and whatever lies apart from it is as it was.
use mathlib.Core.Path.{◌≡◌, refl, sym, ap, ap₂, ◌∙◌}
use mathlib.Core.Logic.{◌⊎◌, inl, inr}
use mathlib.Core.List.{List, [], ◌∷◌, ◌++◌, map, append_assoc, append-nil}
use Prim.Native.Nat.{ℕ, zero, suc, ◌+◌, ◌*◌, ◌-◌, ◌≤◌, ◌<◌}
use native.Mathlib.Nat.{mul-zero, mul-suc, mul-le-mul_left, add_assoc, add_comm, zero-add, suc-add, not-suc-le-zero, le_of_suc-le-suc}
use native.Mathlib.Omega.{arith}
use lib.ListN.{length, take, drop, get_or, set, replicate, length-append, length-drop, drop_of_length-le, length-map, replicate-append-replicate, get_or-map}
use lib.Seq.{take_at, drop_at, take-append-le, drop-drop, take-add, take-take, take-nil, length-take-le}
use Rattle.rules.specs.Lists.{All}
use Rattle.records.specs.Rows.{row, put, rows, table}

-- ── one row ────────────────────────────────────────────────────────────────────────────────────

-- the ends of a part, as code has them, make its width
pub span : (from width : ℕ) → (from + width) - from ≡ width
span from width = omega arith

pub row-length : (k b : ℕ) (xs : List ℕ) → b + k ≤ length xs → length (row k b xs) ≡ k
row-length k b xs h = length-take-le k (drop b xs) (rw length-drop (omega arith))

-- two rows, one after the other
pub row-join : (j k b : ℕ) (xs : List ℕ) → row (j + k) b xs ≡ row j b xs ++ row k (b + j) xs
row-join j k b xs = take-add j k (drop b xs) ∙ ap (λ r. row j b xs ++ take k r) (drop-drop j b xs)

-- a row is the end of what stands up to its own end
pub row-front : (k b : ℕ) (xs : List ℕ) → row k b xs ≡ drop b (take (b + k) xs)
row-front k zero xs = rw zero-add
row-front k (suc b) [] = rw (suc-add, take-nil)
row-front k (suc b) (x ∷ xs) = rw suc-add (row-front k b xs)

-- a row of a row, in the list that the row is of
pub row_within : (j m k b : ℕ) (xs : List ℕ) → m + j ≤ k → row j m (row k b xs) ≡ row j (b + m) xs
row_within j m k b xs h =
    row-front j m (row k b xs) ∙ ap (drop m) (take-take (m + j) k (drop b xs) h) ∙ sym (row-front j m (drop b xs)) ∙ ap (take j) (drop-drop m b xs)

-- what is put further on, seen from m on
pub put-later : (m b k : ℕ) (xs w : List ℕ) → m + b ≤ length xs → drop m (put (m + b) k xs w) ≡ put b k (drop m xs) w
put-later m b k xs w h =
    let e : length (take m xs) ≡ m = length-take-le m xs (omega arith) in
    rw (take-add, append_assoc, drop_at (take m xs) (take b (drop m xs) ++ (w ++ drop k (drop (m + b) xs))) m e) (simp (drop-drop, add_assoc))

module _ (b k : ℕ) (xs w : List ℕ) (fits : b + k ≤ length xs) (is_row : length w ≡ k) where
  pub put-length : length (put b k xs w) ≡ length xs
  put-length = let h : b ≤ length xs = omega arith in simp (length-append, length-take-le, length-drop) (omega arith)

  pub put_front : (m : ℕ) → m ≤ b → take m (put b k xs w) ≡ take m xs
  put_front m h =
      let e : length (take b xs) ≡ b = length-take-le b xs (omega arith) in
      let l : m ≤ length (take b xs) = omega arith in
      rw (take-append-le, take-take)

  -- what stands from the put on
  pub put-here : drop b (put b k xs w) ≡ w ++ drop k (drop b xs)
  put-here = drop_at (take b xs) (w ++ drop k (drop b xs)) b (length-take-le b xs (omega arith))

  pub put-after : (m : ℕ) → b + k ≤ m → drop m (put b k xs w) ≡ drop m xs
  put-after m h =
      let rest : ℕ = m - (b + k) in
      let e : m ≡ b + (k + rest) = omega arith in
      let last : drop rest (drop k (drop b xs)) ≡ drop (b + (k + rest)) xs = simp (drop-drop, add_assoc) in
      ap (λ n. drop n (put b k xs w)) e
      ∙ sym (drop-drop (k + rest) b (put b k xs w))
      ∙ ap (drop (k + rest)) put-here
      ∙ sym (drop-drop rest k (w ++ drop k (drop b xs)))
      ∙ ap (drop rest) (drop_at w (drop k (drop b xs)) k is_row)
      ∙ last
      ∙ ap (λ n. drop n xs) (sym e)

  pub row_put : row k b (put b k xs w) ≡ w
  row_put = ap (take k) put-here ∙ take_at w (drop k (drop b xs)) k is_row

  -- a row apart from the put
  pub row_apart : (j m : ℕ) → (m + j ≤ b) ⊎ (b + k ≤ m) → row j m (put b k xs w) ≡ row j m xs
  row_apart j m (inl h) = row-front j m (put b k xs w) ∙ ap (drop m) (put_front (m + j) h) ∙ sym (row-front j m xs)
  row_apart j m (inr h) = ap (take j) (put-after m h)

  -- a row put after it, side by side: both together
  pub put_next : (m : ℕ) (v : List ℕ) → put (b + k) m (put b k xs w) v ≡ put b (k + m) xs (w ++ v)
  put_next m v =
      let front : List ℕ = take b xs ++ w in
      let l : length front ≡ b + k = simp (length-append, length-take-le b xs (omega arith), is_row) in
      let t : take (b + k) (put b k xs w) ≡ front = rw (← append_assoc) (take_at front (drop k (drop b xs)) (b + k) l) in
      let d : drop m (drop (b + k) (put b k xs w)) ≡ drop (k + m) (drop b xs) = ap (drop m) (put-after (b + k) (omega arith)) ∙ simp (drop-drop, add_assoc) in
      ap (λ r. r ++ (v ++ drop m (drop (b + k) (put b k xs w)))) t ∙ ap (λ r. front ++ (v ++ r)) d ∙ simp append_assoc

-- a row that is all of the list
pub put_all : (k : ℕ) (xs w : List ℕ) → length xs ≡ k → put 0 k xs w ≡ w
put_all k xs w h = ap (λ r. w ++ r) (drop_of_length-le xs {i = k} (omega arith)) ∙ append-nil w

-- a part over the start of what follows the front
pub put-behind : (n k : ℕ) (xs front w : List ℕ) → length front ≡ n → put n k (front ++ drop n xs) w ≡ front ++ w ++ drop (n + k) xs
put-behind n k xs front w l = rw (take_at front (drop n xs) n l, drop_at front (drop n xs) n l, drop-drop, append_assoc)

-- a part over all that follows the front
pub two-halves : (n : ℕ) (xs front w : List ℕ) → length front ≡ n → put n (length (front ++ drop n xs) - n) (front ++ drop n xs) w ≡ front ++ w
two-halves n xs front w l =
    let k = length (front ++ drop n xs) - n in
    let all : length xs ≤ n + k = rw (length-append, length-drop) (omega arith) in
    put-behind n k xs front w l ∙ rw (drop_of_length-le xs all, append-nil)

-- ── rows ───────────────────────────────────────────────────────────────────────────────────────

pub rows-length : (k n : ℕ) (xs : List ℕ) → length (rows k n xs) ≡ n
rows-length k zero xs = refl
rows-length k (suc n) xs = ap suc (rows-length k n (drop k xs))

pub rows_at : (k n i : ℕ) (xs : List ℕ) → i < n → get_or (rows k n xs) i [] ≡ row k (k * i) xs
rows_at k zero i xs h = absurd (not-suc-le-zero h)
rows_at k (suc n) zero xs h = rw mul-zero
rows_at k (suc n) (suc i) xs h = rows_at k n i (drop k xs) (le_of_suc-le-suc h) ∙ rw (drop-drop, mul-suc, add_comm k (k * i))

-- rows see no further than their own bytes
pub rows-within : (k n : ℕ) (xs : List ℕ) → rows k n (take (k * n) xs) ≡ rows k n xs
rows-within k zero xs = refl
rows-within k (suc n) xs =
    let e : k * suc n ≡ k + k * n = mul-suc k n ∙ add_comm (k * n) k in
    rw (e, take-take k (k + k * n) xs (omega arith), ← row-front (k * n) k xs, rows-within k n (drop k xs))

-- a row put in its place is that row of the rows
pub rows-put : (k n i : ℕ) (xs w : List ℕ) → i < n → length w ≡ k → k * n ≤ length xs → rows k n (put (k * i) k xs w) ≡ set (rows k n xs) i w
rows-put k zero i xs w h e l = absurd (not-suc-le-zero h)
rows-put k (suc n) zero xs w h e l = rw (mul-zero, take_at w (drop k xs) k e, drop_at w (drop k xs) k e)
rows-put k (suc n) (suc i) xs w h e l =
    let j : i < n = le_of_suc-le-suc h in
    let end : k * i + k ≤ k * n = rw mul-suc at (mul-le-mul_left k j) in
    let all : k * n + k ≤ length xs = rw mul-suc at l in
    let m : k * suc i ≡ k + k * i = mul-suc k i ∙ add_comm (k * i) k in
    let rest : k * n ≤ length (drop k xs) = rw length-drop (omega arith) in
    rw (m, put_front (k + k * i) k xs w (omega arith) e k (omega arith), put-later k (k * i) k xs w (omega arith), rows-put k n i (drop k xs) w j e rest)

-- rows, one after the other
abbrev pub joined : List (List ℕ) → List ℕ
joined [] = []
joined (w ∷ ws) = w ++ joined ws

pub joined-rows : (k n : ℕ) (xs : List ℕ) → joined (rows k n xs) ≡ take (k * n) xs
joined-rows k zero xs = rw mul-zero
joined-rows k (suc n) xs =
    let e : k * suc n ≡ k + k * n = mul-suc k n ∙ add_comm (k * n) k in
    rw (e, joined-rows k n (drop k xs)) (sym (take-add k (k * n) xs))

-- ── tables ─────────────────────────────────────────────────────────────────────────────────────

pub map-set : {A B : Type 0} (f : A → B) (l : List A) (i : ℕ) (a : A) → map f (set l i a) ≡ set (map f l) i (f a)
map-set f [] i a = refl
map-set f (x ∷ l) zero a = refl
map-set f (x ∷ l) (suc i) a = ap (λ r. f x ∷ r) (map-set f l i a)

module _ {A : Type 0} (read : List ℕ → A) (k b n : ℕ) where
  pub table-length : (xs : List ℕ) → length (table read k b n xs) ≡ n
  table-length xs = length-map (rows k n (drop b xs)) read ∙ rows-length k n (drop b xs)

  pub table_at : (i : ℕ) (xs : List ℕ) → i < n → get_or (table read k b n xs) i (read []) ≡ read (row k (b + k * i) xs)
  table_at i xs h = get_or-map read (rows k n (drop b xs)) i [] ∙ ap read (rows_at k n i (drop b xs) h ∙ ap (take k) (drop-drop (k * i) b xs))

  -- a record put in its place is that record replaced
  pub table-put : (i : ℕ) (xs w : List ℕ) (a : A) → i < n → length w ≡ k → read w ≡ a → b + k * n ≤ length xs → table read k b n (put (b + k * i) k xs w) ≡ set (table read k b n xs) i a
  table-put i xs w a h e r l =
      let room : k * i + k ≤ k * n = rw mul-suc at (mul-le-mul_left k h) in
      ap (λ ys. map read (rows k n ys)) (put-later b (k * i) k xs w (omega arith))
      ∙ ap (map read) (rows-put k n i (drop b xs) w h e (rw length-drop (omega arith)))
      ∙ map-set read (rows k n (drop b xs)) i w
      ∙ ap (set (table read k b n xs) i) r

  -- the table is its own bytes'
  pub table-row : (xs ys : List ℕ) → row (k * n) b xs ≡ row (k * n) b ys → table read k b n xs ≡ table read k b n ys
  table-row xs ys e = ap (map read) (sym (rows-within k n (drop b xs)) ∙ ap (rows k n) e ∙ rows-within k n (drop b ys))

  -- what is put apart from the table leaves it
  pub table-apart : (m j : ℕ) (xs w : List ℕ) → m + j ≤ length xs → length w ≡ j → (b + k * n ≤ m) ⊎ (m + j ≤ b) → table read k b n (put m j xs w) ≡ table read k b n xs
  table-apart m j xs w l e h = table-row (put m j xs w) xs (row_apart m j xs w l e (k * n) b h)

-- a table read at fewer rows, and from a row on
module _ {A : Type 0} (read : List ℕ → A) (k : ℕ) where
  first_rows : (n m : ℕ) (ys : List ℕ) → n ≤ m → take n (map read (rows k m ys)) ≡ map read (rows k n ys)
  first_rows zero m ys h = refl
  first_rows (suc n) zero ys h = absurd (not-suc-le-zero h)
  first_rows (suc n) (suc m) ys h = ap (λ t. read (take k ys) ∷ t) (first_rows n m (drop k ys) (le_of_suc-le-suc h))

  last-rows : (n m : ℕ) (ys : List ℕ) → drop n (map read (rows k (n + m) ys)) ≡ map read (rows k m (drop (k * n) ys))
  last-rows zero m ys = rw (zero-add, mul-zero)
  last-rows (suc n) m ys = rw (suc-add, mul-suc, add_comm (k * n) k, ← drop-drop) (last-rows n m (drop k ys))

  module _ (b : ℕ) (xs : List ℕ) where
    pub table-take : (n m : ℕ) → n ≤ m → take n (table read k b m xs) ≡ table read k b n xs
    table-take n m h = first_rows n m (drop b xs) h

    pub table-drop : (n m : ℕ) → n ≤ m → drop n (table read k b m xs) ≡ table read k (b + k * n) (m - n) xs
    table-drop n m h =
        let e : m ≡ n + (m - n) = omega arith in
        ap (λ t. drop n (table read k b t xs)) e ∙ last-rows n (m - n) (drop b xs) ∙ ap (λ ys. map read (rows k (m - n) ys)) (drop-drop (k * n) b xs)

-- ── records one after the other ────────────────────────────────────────────────────────────────

pub joined-append : (ws vs : List (List ℕ)) → joined (ws ++ vs) ≡ joined ws ++ joined vs
joined-append [] vs = refl
joined-append (w ∷ ws) vs = rw (joined-append ws vs, append_assoc)

module _ {A : Type 0} (read : List ℕ → A) (write : A → List ℕ) (k : ℕ) where
  -- a record whose bytes are of the width and read as the record
  abbrev pub Readable : A → Type 0
  Readable q = (length (write q) ≡ k) × (read (write q) ≡ q)

  pub rows-joined : (qs : List A) (rest : List ℕ) → All Readable qs → map read (rows k (length qs) (joined (map write qs) ++ rest)) ≡ qs
  rows-joined [] rest h = refl
  rows-joined (q ∷ qs) rest ((l, e), h) =
      let later = joined (map write qs) ++ rest in
      ap (λ ys. map read (rows k (suc (length qs)) ys)) (append_assoc (write q) (joined (map write qs)) rest)
      ∙ ap₂ (λ w ws. read w ∷ map read (rows k (length qs) ws)) (take_at (write q) later k l) (drop_at (write q) later k l)
      ∙ ap₂ ◌∷◌ e (rows-joined qs rest h)

  pub table-joined : (front rest : List ℕ) (qs : List A) (b n : ℕ) → length front ≡ b → length qs ≡ n → All Readable qs → table read k b n (front ++ (joined (map write qs) ++ rest)) ≡ qs
  table-joined front rest qs b n l m h =
      ap (λ ys. map read (rows k n ys)) (drop_at front (joined (map write qs) ++ rest) b l)
      ∙ ap (λ t. map read (rows k t (joined (map write qs) ++ rest))) (sym m)
      ∙ rows-joined qs rest h

  pub joined_length : (qs : List A) → All Readable qs → length (joined (map write qs)) ≡ k * length qs
  joined_length [] h = rw mul-zero
  joined_length (q ∷ qs) ((l, e), h) = length-append (write q) (joined (map write qs)) ∙ ap₂ ◌+◌ l (joined_length qs h) ∙ add_comm k (k * length qs) ∙ sym (mul-suc k (length qs))

-- records of zeros
module _ {A : Type 0} (write : A → List ℕ) (k : ℕ) (empty : A) (zero_row : write empty ≡ replicate k 0) where
  pub zeros-joined : (n : ℕ) → joined (map write (replicate n empty)) ≡ replicate (k * n) 0
  zeros-joined zero = rw mul-zero
  zeros-joined (suc n) =
      ap₂ ◌++◌ zero_row (zeros-joined n) ∙ replicate-append-replicate k (k * n) 0 ∙ ap (λ m. replicate m 0) (sym (mul-suc k n ∙ add_comm (k * n) k))
