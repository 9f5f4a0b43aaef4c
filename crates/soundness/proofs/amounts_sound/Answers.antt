-- `soundness::amounts_sound` meets its contract: each test is one clause of a sound seat, by the laws of Seats, and each flag has its own form.
use Rattle.std.proofs.Common.{refl, arith}
use Rattle.rules.specs.RoomAndSoundLedger.{M}
use Rattle.soundness.proofs.Deciding.{accept, refuse, by_equal, by-unequal}
use Rattle.soundness.proofs.Seats.{flag-is-one, no-amounts, a-limit, sound-adds-up, held-with-account, held-without-account}
use Rattle.soundness.proofs.amounts_sound.Goals as goal
use Rattle.soundness.proofs.amounts_sound.Goals.{then-place-gt-M-via-then-place-gt-M as limit, then-place-gt-M-via-else-place-gt-M+then-not-adds_up as sum}

pub returns-then-place-gt-M : goal.returns-then-place-gt-M
unfolding M
returns-then-place-gt-M c = refuse (λ h. elim c.then-place-gt-M.branch [
  | limit w ↦ omega (arith, h.0.limit)
  | sum w ↦ w.if-not-adds_up.ensures.fails refl (sound-adds-up _ h.0)
])

pub returns-then-place-eq0 : goal.returns-then-place-eq0
unfolding M
returns-then-place-eq0 c =
    by-unequal _ _ (λ n. held-without-account _ c.in-0.is c.if-place-eq0.true (c.if-not-adds_up.ensures.holds refl) (omega arith) n) (λ h. a-limit _ h c.in-0.is)

pub returns-else-place-eq0 : goal.returns-else-place-eq0
returns-else-place-eq0 c = by_equal _ _ (λ e. absurd (c.if-place-eq0.false e)) (λ h. no-amounts _ h.0 c.in-0.is)

pub returns-in-1 : goal.returns-in-1
unfolding M
returns-in-1 c = accept (held-with-account _ c.in-1.is (c.if-not-adds_up.ensures.holds refl) (omega arith))

pub returns-in_default : goal.returns-in_default
returns-in_default c = refuse (λ h. let one = flag-is-one _ h.0 (omega arith) in omega arith)
