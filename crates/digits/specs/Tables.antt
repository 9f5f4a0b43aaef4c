-- A table of a function's values: the rule that holds at each of its entries.
use Rattle.std.specs.Prelude.{◌≡◌, List, ℕ, ◌<◌, get_or}

abbrev pub Gives : (ℕ → ℕ) → ℕ → List ℕ → Type 0
Gives f n table = (k : ℕ) → k < n → get_or table k 0 ≡ f k
