-- `lookup::place_for` meets its contract. The invariant: every name passed comes before the new one.
use mathlib.Core.Path.{◌≡◌, refl, sym, ap, ◌∙◌}
use mathlib.Core.Bool.{true, false}
use mathlib.Core.Logic.{◌≢◌}
use Prim.Native.Nat.{Ordering}
use native.Mathlib.Omega.{arith}
use borrow.Author.Count.{below_more}
use lib.ListN.{get_or}
use Rattle.std.specs.Ordering.{is_ge}
use Rattle.std.specs.declared.cmp.Ordering.{Ordering as Compared}
use Rattle.std.proofs.Common.{Less, Equal, Greater}
use Rattle.rules.specs.RoomAndSoundLedger.{order}
use Rattle.names.specs.Names.{ordering_of, spelled}
use Rattle.room.specs.Contents.{contents_of, used_places}
use Rattle.room.proofs.InRoom.{used-places, loaded-name, name-in-room}
use Rattle.lookup.proofs.Places.{no_place, eq_not_lt, gt-not-lt, goes-only}
use Rattle.lookup.proofs.place_for.Goals as goal
use Rattle.lookup.proofs.place_for.Goals.{After-compare}

not_before : (o : Compared) → is_ge o ≡ true → ordering_of o ≢ Ordering.lt
not_before Less h = absurd cc
not_before Equal h = eq_not_lt
not_before Greater h = gt-not-lt

before : (o : Compared) → is_ge o ≡ false → ordering_of o ≡ Ordering.lt
before Less h = refl
before Equal h = absurd cc
before Greater h = absurd cc

compared : (c : After-compare) →
    ordering_of c.compare.result ≡ order (spelled (get_or (used_places (contents_of c.args.room.now)) c.loop-i.i no_place).name) c.args.part.now
compared c =
    let used = ap (λ s. s.used) c.load_sizes-sizes.ensures in
    c.compare.ensures ∙ ap (λ n. order n c.args.part.now) (c.name_at.ensures ∙ loaded-name c.args.room.now c.requires.sized c.loop-i.i no_place (omega arith))

pub name_at-requires : goal.name_at-requires
name_at-requires c =
    let used = ap (λ s. s.used) c.load_sizes-sizes.ensures in
    name-in-room c.args.room.now c.requires.sized c.loop-i.i c.requires.names_stored (omega arith)

pub returns-then-is_ge : goal.returns-then-is_ge
returns-then-is_ge c =
    let used = ap (λ s. s.used) c.load_sizes-sizes.ensures in
    let n = used-places c.args.room.now c.requires.sized in
    goes-only c.args.part.now no_place (used_places (contents_of c.args.room.now)) c.loop-i.i
    (record {
      within = omega arith;
      behind = c.loop-i.invariant;
      stops = λ h e. not_before c.compare.result (sym c.is_ge.ensures ∙ c.if-is_ge.true) (compared (goal.at.returns-then-is_ge c).After-compare ∙ e);
    })

pub loop-i-preserved : goal.loop-i-preserved
loop-i-preserved c =
    below_more _ c.loop-i.i c.loop-i.invariant (sym (compared (goal.at.loop-i-preserved c).After-compare) ∙ before c.compare.result (sym c.is_ge.ensures ∙ c.if-is_ge.false))

pub returns : goal.returns
returns c =
    let used = ap (λ s. s.used) c.load_sizes-sizes.ensures in
    let n = used-places c.args.room.now c.requires.sized in
    let e : c.loop-i.i ≡ c.load_sizes-sizes.result.used = omega arith in
    rw (← e) (goes-only c.args.part.now no_place (used_places (contents_of c.args.room.now)) c.loop-i.i (record { within = omega arith; behind = c.loop-i.invariant; stops = λ h q. omega arith }))
