-- What is held leaves room to read into.
use Rattle.std.specs.Prelude.{ℕ, ◌≤◌, ◌<◌}
use Rattle.turns.specs.declared.Held.{Held}

abbrev pub ReadyToRead : (capacity : ℕ) → Held → Type 0
ReadyToRead capacity h = (h.from ≤ h.end) × (h.end < capacity)
