-- `certificates::of_ledger` meets its contract: the summary is that of the ledger's own snapshot, which balances; the head is rotated where the totals fit,
-- and the rest of the room stays (Taking).
use mathlib.Core.Path.{refl, ◌∙◌, ap}
use native.Mathlib.Omega.{arith}
use lib.IntN.{pos}
use Rattle.rules.specs.RoomAndSoundLedger.{committed_total}
use Rattle.rules.specs.SnapshotsMigrationCertificates.{account_rows, snapshot_of, certificate, certificate_of_ledger}
use Rattle.rules.proofs.SnapshotSoundness.{committed-rows-total}
use Rattle.room.proofs.SoundRoom.{sized}
use Rattle.certificates.specs.Certified.{summary_of}
use Rattle.certificates.proofs.Certifying.{since-small}
use Rattle.certificates.proofs.Summarizing.{told-exhausted, told-taken}
use Rattle.certificates.proofs.Taking.{rotated_in, turned, certificate-sound, own-balanced, certificate-is, stays, becomes}
use Rattle.certificates.proofs.of_ledger.Goals as goal

-- no id is left to draw
pub returns-in_default : goal.returns-in_default
unfolding certificate_of_ledger
returns-in_default c L r = stays c.args.room.now L r certificate_of_ledger _ refl (told-exhausted L (c.in_default.ensures L r))

pub put_head-requires : goal.put_head-requires
put_head-requires c = sized c.args.room.now c.requires.ledger c.requires.is_room

pub amount-since-requires : goal.amount-since-requires
amount-since-requires c =
    let L = c.requires.ledger in
    let t = told-taken L c.in-Ok.summary (c.in-Ok.ensures L c.requires.is_room) in
    let rotated = turned L c.in-Ok.summary t.summary c.rotation-rotated.result c.rotation-rotated.ensures in
    omega (arith, ap (λ r. r.since) rotated, since-small (account_rows L.places) (summary_of L).head (committed_total L.places) (committed-rows-total L.places))

pub returns : goal.returns
returns c L r =
    let t = told-taken L c.in-Ok.summary (c.in-Ok.ensures L r) in
    let e = t.summary in
    let rotated = turned L c.in-Ok.summary e c.rotation-rotated.result c.rotation-rotated.ensures in
    let reply =
    c.certify.ensures (snapshot_of L) (ap (λ s. s.head.last_version) e) (ap (λ s. s.rows) e) (ap (λ s. s.active) e) (own-balanced L r.sound) (ap (λ s. s.totals) e)
    ∙ ap (certificate (snapshot_of L)) (c.amount-since.ensures ∙ ap (λ o. pos o.since) rotated) in
    becomes c.args.room.now L r certificate_of_ledger (certificate-sound L r.sound) _ _ c.rotation-rotated.result.head (rotated_in L).head (certificate-is L t.not_last) reply
    (ap (λ o. o.head) rotated) c.put_head.new.room c.put_head.ensures
