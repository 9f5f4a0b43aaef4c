-- A room made anew at its own sizes, and the head that a restore writes last: made so, it is the room of a fresh ledger, and rows and head together are the
-- rules' restored ledger, field by field.
use mathlib.Core.Path.{◌≡◌, refl, sym, ◌∙◌, ap, subst}
use mathlib.Core.List.{List}
use mathlib.Core.Option.{some}
use Prim.Native.Nat.{ℕ}
use lib.ListN.{length}
use Rattle.rules.specs.RoomAndSoundLedger.{Ledger, fence_of, fresh, made}
use Rattle.rules.specs.AnswerNumbers.{Reply}
use Rattle.rules.specs.SnapshotsMigrationCertificates.{Snapshot, restored}
use Rattle.records.specs.Records.{sizes_of}
use Rattle.records.specs.declared.Head.{Head}
use Rattle.records.specs.declared.Sizes.{Sizes}
use Rattle.room.specs.Contents.{contents_of, with_head}
use Rattle.room.specs.Room.{contents_in, IsRoom, OfRoom}
use Rattle.room.proofs.Decoding.{one-ledger}
use Rattle.room.proofs.SoundRoom.{sizes-are}
use Rattle.soundness.specs.Making.{made_in, Makes}
use Rattle.soundness.proofs.Fresh.{made-here}
use Rattle.filling.specs.Filling.{Takes, Holds, PutsRows}

-- made at the sizes that it has, the room is that of a fresh ledger
pub made-anew : (xs ys : List ℕ) (L : Ledger) → IsRoom xs L → (s : Sizes) → s ≡ sizes_of xs → (r : Reply) → Makes (made_in xs (made s.names s.reservations)) xs r ys → IsRoom ys (fresh L.T L.R)
made-anew xs ys L room s e r makes =
    let known = room.sound in
    let sizes = e ∙ sizes-are xs L room in
    let makes : Makes (made_in xs (made L.T L.R)) xs r ys = subst (λ (s : Sizes). Makes (made_in xs (made s.names s.reservations)) xs r ys) sizes makes in
    let made : Makes (some (fresh L.T L.R)) xs r ys =
    subst (λ o. Makes o xs r ys) (made-here L.T L.R xs known.names_in_range known.reservations_in_range room.size) makes in
    made.1

-- a fresh ledger is the one ledger of its room
pub empty-takes : (ys bs : List ℕ) (t r : ℕ) → IsRoom ys (fresh t r) → Takes t bs → OfRoom ys (λ L. (L ≡ fresh L.T L.R) × Takes L.T bs)
unfolding fresh
empty-takes ys bs t r room takes L is_room = subst (λ (L : Ledger). (L ≡ fresh L.T L.R) × Takes L.T bs) (one-ledger ys (fresh t r) L room is_room) (refl, takes)

-- the rows and the head together are the ledger restored
pub head-written : (xs ys zs : List ℕ) (L : Ledger) → IsRoom xs L → (s : Snapshot) (h : Head)
    → PutsRows L.T L.R s.rows ys h.baseline → h.next_id ≡ fence_of s.version → h.last_version ≡ s.version
    → (length zs ≡ length ys) × (contents_of zs ≡ with_head h (contents_of ys)) → Holds (restored L s) xs zs
unfolding contents_in fresh
head-written xs ys zs L room s h puts next last (size, e) = record {
  size = size ∙ puts.is_room.size ∙ sym room.size;
  contents = e ∙ ap (with_head h) puts.is_room.holds
      ∙ λ i. with_head (record { next_id = next i; last_version = last i; baseline = puts.total i }) (contents_in (restored L s));
}
