-- `certificates::prove` meets its contract: the summary is that of the ledger's own snapshot, and the stamped head is put before the totals decide (Taking).
use mathlib.Core.Path.{refl, sym, ap, ◌∙◌}
use Rattle.rules.specs.SnapshotsMigrationCertificates.{account_rows, conservation_proof}
use Rattle.room.proofs.SoundRoom.{sized}
use Rattle.certificates.specs.Certified.{summary_of}
use Rattle.certificates.proofs.BothTotals.{fit_is, outside-is}
use Rattle.certificates.proofs.Summarizing.{told-exhausted, told-taken}
use Rattle.certificates.proofs.Taking.{proof-sound, proof-overflows, proved, proof-is, stays, becomes}
use Rattle.certificates.proofs.prove.Goals as goal

-- no id is left to draw
pub returns-in_default : goal.returns-in_default
unfolding conservation_proof
returns-in_default c L r = stays c.args.room.now L r conservation_proof _ refl (told-exhausted L (c.in_default.ensures L r))

pub put_head-requires : goal.put_head-requires
put_head-requires c = sized c.args.room.now c.requires.ledger c.requires.is_room

-- the totals do not fit, and the head is stamped
pub returns-in_default-totals : goal.returns-in_default-totals
returns-in_default-totals c L r =
    let summary = c.in-Ok.summary in
    let t = told-taken L summary (c.in-Ok.ensures L r) in
    let outside = outside-is (account_rows L.places) (sym c.in_default-totals.is ∙ ap (λ s. s.totals) t.summary) in
    becomes c.args.room.now L r conservation_proof (proof-sound L r.sound) _ _ summary.head (summary_of L).head (proof-overflows L t.not_last outside) refl
    (ap (λ s. s.head) t.summary) c.put_head.new.room c.put_head.ensures

pub returns : goal.returns
returns c L r =
    let summary = c.in-Ok.summary in
    let totals = c.in-Some.fitted in
    let t = told-taken L summary (c.in-Ok.ensures L r) in
    let fitting = fit_is (account_rows L.places) totals (sym c.in-Some.is ∙ ap (λ s. s.totals) t.summary) in
    becomes c.args.room.now L r conservation_proof (proof-sound L r.sound) _ _ summary.head (summary_of L).head (proof-is L t.not_last totals fitting)
    (ap (λ s. proved s totals) t.summary) (ap (λ s. s.head) t.summary) c.put_head.new.room c.put_head.ensures
