-- A restore by what is said of the version: a refusal leaves the room as it was, and else it holds the ledger restored. And the two forms as such.
use mathlib.Core.Path.{◌≡◌, sym, ap, subst, ◌∙◌}
use mathlib.Core.List.{List, []}
use mathlib.Core.Option.{Option, none, some}
use Prim.Native.Nat.{ℕ}
use borrow.Author.Tests.{ltb-false}
use lib.ListN.{length, get_or}
use mir.Syntax.{w8}
use mir.Val.{Fits}
use Rattle.std.specs.Prelude.{Result, Ok, Err}
use Rattle.rules.specs.RoomAndSoundLedger.{Ledger, Sound}
use Rattle.rules.specs.AnswerNumbers.{Refusal, Reply, reply_of, outcome, refused as refuse, sound, done, on_lent}
use Rattle.rules.specs.SnapshotsMigrationCertificates.{Snapshot, validation, restored, or_else, restore_version, recovery_version, restore_refusal, restore, recovery_restore}
use Rattle.rules.specs.Frames.{restore_from, recover_from, answer}
use Rattle.rules.specs.Domain.{SnapshotFits}
use Rattle.rules.proofs.Checks.{both-pass, check-passes}
use Rattle.rules.proofs.SnapshotBytes.{snapshot-only}
use Rattle.rules.proofs.SnapshotSoundness.{answer-sound}
use Rattle.numbers.proofs.Bytes.{all-bytes}
use Rattle.snapshot_reader.specs.Standing.{IsSnapshot, OfSnapshot}
use Rattle.refusals.specs.declared.Refusal.{Refusal as Told}
use Rattle.refusals.specs.Answers.{refusal_of, refusal_in}
use Rattle.records.specs.Records.{sizes_of}
use Rattle.records.specs.declared.Sizes.{Sizes}
use Rattle.room.specs.Room.{IsRoom, OfRoom, Performed}
use Rattle.room.proofs.SoundRoom.{sizes-are}
use Rattle.filling.specs.Filling.{Takes, Holds}
use Rattle.restoring.specs.Forms.{restore_by, Restores, Keeps}

-- ── what was checked decides the answer and the ledger ─────────────────────────────────────────

module _ (L after : Ledger) {o : Option Refusal} where
  refused-outcome : {e : Refusal} → some e ≡ o → refuse e L ≡ or_else o L after
  unfolding or_else
  refused-outcome is = ap (λ o. or_else o L after) is

  passed-outcome : none ≡ o → outcome (done []) after ≡ or_else o L after
  unfolding or_else
  passed-outcome is = ap (λ o. or_else o L after) is

-- a snapshot that no check refuses is one that the ledger takes
takes : {names : ℕ} {bytes : List ℕ} (of-version : Option Refusal) → OfSnapshot bytes (λ s. restore_refusal of-version names s ≡ none → Takes names bytes)
unfolding restore_refusal
takes {names} of-version s is_read e =
    let (short, e) = check-passes _ _ _ e in
    let (_, e) = both-pass of-version _ e in
    let (valid, e) = both-pass (validation s) _ e in
    let (few, _) = check-passes _ _ _ e in
    record { snapshot = s; is_read = is_read; short = short; valid = valid; few = ltb-false names (length s.rows) few }

-- ── both forms, by what is said of the version ─────────────────────────────────────────────────

-- what was checked is the refusal of the rules
pub record Checked (of-version : Option Refusal) (room bytes : List ℕ) (r : Result (Unit {0}) Told) : Type 0 where
  pub is : OfSnapshot bytes (λ s. OfRoom room (λ L. refusal_in r ≡ restore_refusal of-version L.T s))

pub checked : {of-version : Option Refusal} {room bytes : List ℕ} {r : Result (Unit {0}) Told} {sizes : Sizes} → sizes ≡ sizes_of room
    → OfSnapshot bytes (λ s. refusal_in r ≡ restore_refusal of-version sizes.names s) → Checked of-version room bytes r
checked {of-version} {room} are judged =
    record { is = λ s e L is_room. judged s e ∙ ap (λ sizes. restore_refusal of-version sizes.names s) (are ∙ sizes-are room L is_room) }

module _ {of-version : Option Refusal} {room bytes : List ℕ} {r : Result (Unit {0}) Told} (told : Checked of-version room bytes r) where
  pub refused : {e : Told} → r ≡ Err e → Restores (restore_by of-version) bytes room (reply_of (refusal_of e)) room
  refused {e} given s is_read L is_room =
      let is : some (refusal_of e) ≡ restore_refusal of-version L.T s = ap refusal_in (sym given) ∙ told.is s is_read L is_room in
      let same = refused-outcome L (restored L s) is in
      record { answer = ap (λ x. x.reply) same; room = subst (IsRoom room) (ap (λ x. x.ledger) same) is_room }

  module _ {x : Unit {0}} (passed : r ≡ Ok x) where
    none-refused : OfSnapshot bytes (λ s. OfRoom room (λ L. none ≡ restore_refusal of-version L.T s))
    none-refused s e L is_room = ap refusal_in (sym passed) ∙ told.is s e L is_room

    pub taken : IsSnapshot bytes → OfRoom room (λ L. Takes L.T bytes)
    taken known L is_room = takes of-version known.snapshot known.is_read (sym (none-refused known.snapshot known.is_read L is_room))

    pub replaced : {after : List ℕ} → OfRoom room (λ L. OfSnapshot bytes (λ s. Holds (restored L s) room after)) → ((i : ℕ) → Fits w8 (get_or bytes i 0))
        → Keeps bytes of-version → Restores (restore_by of-version) bytes room (done []) after
    replaced {after} filled are-bytes keeps s e L is_room =
        let same = passed-outcome L (restored L s) (none-refused s e L is_room) in
        let ledger : restored L s ≡ (restore_by of-version L s).ledger = ap (λ x. x.ledger) same in
        let holds = filled L is_room s e in
        let sound = keeps.sound s e (snapshot-only bytes (all-bytes bytes are-bytes) s e).1 L is_room.sound in
        record {
          answer = ap (λ x. x.reply) same;
          room = subst (IsRoom after) ledger (record { size = holds.size ∙ is_room.size; holds = holds.contents; sound = subst Sound (sym ledger) sound });
        }

-- ── a form of its own ──────────────────────────────────────────────────────────────────────────

-- the form's own checks keep a sound ledger sound
abbrev pub FormKeeps : (form : ℕ → Option Refusal) → Type 0
FormKeeps form = (L : Ledger) → Sound L → (s : Snapshot) → SnapshotFits s → Sound (restore_by (form s.version) L s).ledger

pub restore-keeps : FormKeeps restore_version
unfolding answer on_lent restore
restore-keeps L known s fits = answer-sound (sound L) known (restore_from s) fits

pub recovery-keeps : FormKeeps recovery_version
unfolding answer on_lent recovery_restore
recovery-keeps L known s fits = answer-sound (sound L) known (recover_from s) fits

abbrev IsVersion : List ℕ → ℕ → Type 0
IsVersion bytes version = OfSnapshot bytes (λ s. version ≡ s.version)

module _ (form : ℕ → Option Refusal) (bytes : List ℕ) {version : ℕ} (is-version : IsVersion bytes version) {of-version : Option Refusal} (by_form : of-version ≡ form version) where
  of-form : OfSnapshot bytes (λ s. of-version ≡ form s.version)
  of-form s e = by_form ∙ ap form (is-version s e)

  pub form-keeps : FormKeeps form → Keeps bytes of-version
  form-keeps keeps = record { sound = λ s e fits L known. subst (λ o. Sound (restore_by o L s).ledger) (sym (of-form s e)) (keeps L known s fits) }

  pub by-its-form : {room after : List ℕ} {r : Reply} → Restores (restore_by of-version) bytes room r after → Restores (λ L s. restore_by (form s.version) L s) bytes room r after
  by-its-form {after} {r} performs s e L is_room = subst (λ o. Performed (λ K. restore_by o K s) L r after) (of-form s e) (performs s e L is_room)
