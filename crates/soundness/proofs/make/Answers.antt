-- `soundness::make` meets its contract: a refusal is one of `sizes_sound`; else the room is zeros with the sizes and the head stored over them, which
-- Fresh shows to be a fresh ledger's.
use Rattle.std.proofs.Common.{◌≡◌, refl, ap, ◌∙◌, length, arith, rules}
use Rattle.records.specs.Layout.{ledger_head_offset, ledger_head_size}
use Rattle.records.specs.Rows.{put}
use Rattle.records.specs.Records.{head_bytes}
use Rattle.room.specs.Contents.{contents_of}
use Rattle.soundness.proofs.Fresh.{made-here, none_here, made-room, fresh_sizes, fresh_head, sizes_put, fresh-room}
use Rattle.soundness.proofs.Zeros.{zeros}
use Rattle.soundness.proofs.make.Goals as goal

pub returns-then-not-sizes_sound : goal.returns-then-not-sizes_sound
returns-then-not-sizes_sound c =
    rw (none_here c.args.names c.args.reservations c.args.room.now
    (λ names reservations size. c.if-not-sizes_sound.ensures.fails refl (record { names = names; reservations = reservations; used = omega arith; live = omega arith; size = size })))
    (refl, refl)

pub returns : goal.returns
returns c =
    let a = c.args in
    let fits = c.if-not-sizes_sound.ensures.holds refl in
    let cleared : c.fill.new.self ≡ zeros (length a.room.now) = search rules in
    let written : c.store_head.new.room ≡ put ledger_head_offset ledger_head_size (sizes_put (fresh_sizes a.names a.reservations) (zeros (length a.room.now))) (head_bytes fresh_head) =
    c.store_head.ensures.stored ∙ ap (λ xs. put ledger_head_offset ledger_head_size xs (head_bytes fresh_head)) (c.store_sizes.ensures.stored ∙ ap (sizes_put (fresh_sizes a.names a.reservations)) cleared) in
    rw (made-here a.names a.reservations a.room.now fits.names fits.reservations fits.size) (
      refl,
      made-room a.names a.reservations fits.names fits.reservations c.store_head.new.room (cc)
          (ap contents_of written ∙ fresh-room _ _ _ fits.size c.store_sizes.ensures.fits c.store_head.ensures.fits),
    )
