-- A list of bytes as rows of one width, and as numbers of given widths.
use Rattle.std.specs.Prelude.{List, [], ◌∷◌, ◌++◌, map, ℕ, zero, suc, take, drop}
use Rattle.numbers.specs.LittleEndian.{little_bytes}

-- the k bytes from b
abbrev pub row : (k b : ℕ) → List ℕ → List ℕ
row k b xs = take k (drop b xs)

-- the list with w in the place of the k bytes from b: what a part that was lent leaves
abbrev pub put : (b k : ℕ) → List ℕ → List ℕ → List ℕ
put b k xs w = take b xs ++ (w ++ drop k (drop b xs))

-- n rows of k bytes
abbrev pub rows : (k n : ℕ) → List ℕ → List (List ℕ)
rows k zero xs = []
rows k (suc n) xs = take k xs ∷ rows k n (drop k xs)

-- n records of k bytes from b on
abbrev pub table : {A : Type 0} → (List ℕ → A) → (k b n : ℕ) → List ℕ → List A
table f k b n xs = map f (rows k n (drop b xs))

-- numbers of these widths, one after the other, each in the bytes that the encoder gives it
abbrev pub encoded : (encode : (width value : ℕ) → List ℕ) → (widths values : List ℕ) → List ℕ
encoded encode [] vs = []
encoded encode (k ∷ ks) [] = []
encoded encode (k ∷ ks) (v ∷ vs) = encode k v ++ encoded encode ks vs

-- a record's numbers are little-endian
abbrev pub field_bytes : (widths values : List ℕ) → List ℕ
field_bytes = encoded little_bytes
