-- `soundness::name_sound` meets its contract: the invariant is that the bytes past the length are zero in the parts passed. A part is zero from a byte on
-- just where its little-endian number is that small (ClearBytes).
use Rattle.std.proofs.Common.{◌≡◌, ℕ, ◌*◌, ◌≤◌, ◌<◌, get_or}
use Rattle.soundness.specs.Steps.{place_at}
use Rattle.soundness.proofs.name_sound.Given as goal

abbrev pub invariant-loop-part : goal.invariant-loop-part
invariant-loop-part l = (k : ℕ) → k < 8 * l.part → l.length ≤ k → get_or (place_at l.i l.room).name.bytes k 0 ≡ 0
