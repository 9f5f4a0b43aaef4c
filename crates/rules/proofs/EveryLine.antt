-- A line of any characters keeps a sound ledger sound, so every ledger that the house program comes to is sound; each line has one answer
-- line; and a frame's answer has room for any snapshot of a sound ledger, so that no frame meets 22. A line holds no operation, or one that fits
-- (FrameBytes), and those are covered by SnapshotSoundness; the rest is induction over lines, and digits that are no line feed.
use mathlib.Core.Path.{◌≡◌, refl, sym, ◌∙◌, ap}
use mathlib.Core.Logic.{◌≢◌}
use mathlib.Core.Bool.{false}
use mathlib.Core.List.{List, [], ◌∷◌, ◌++◌, append_assoc}
use Prim.Native.Nat.{ℕ, ◌/◌, ◌%◌, ◌<◌}
use native.Mathlib.Omega.{arith}
use borrow.Author.Tests.{lt-ltb, ne_eqb}
use lib.Dec.{ltb, eqb}
use lib.ListN.{length}
use Rattle.rules.specs.Lists.{All}
use Rattle.rules.specs.RoomAndSoundLedger.{most_names, most_reservations, Ledger, Sound, fresh}
use Rattle.rules.specs.AnswerNumbers.{BadFrame, reply_of, Lent, sound, LentSound, answered}
use Rattle.rules.specs.SnapshotsMigrationCertificates.{snapshot_of, too_short_for}
use Rattle.rules.specs.Frames.{longest_snapshot, reply_bytes, character_of, line_of_bytes, answer_line, longest_line, operation_of_line, answer_or23, answer_to_line, lent_after, line_feed, pieces, counted, lines_of, answers_to_lines}
use Rattle.rules.proofs.Tests.{by-test, by-option}
use Rattle.rules.proofs.SnapshotSoundness.{answer-sound, fresh-sound}
use Rattle.rules.proofs.Refusals.{bad_frame}
use Rattle.rules.proofs.OwnSnapshot.{rows-length, own-names-short}
use Rattle.rules.proofs.SnapshotBytes.{never-too-short}
use Rattle.rules.proofs.FrameBytes.{line-fits}

pub line-sound : (l : Lent) → LentSound l → (line : List ℕ) → LentSound (answer_to_line l line).lent
unfolding answer_to_line
line-sound l known line = by-option (λ o. LentSound (answer_or23 l o).lent) (operation_of_line line) (λ _. known) (λ x e. answer-sound l known x (line-fits line x e))

pub lines-sound : (l : Lent) → LentSound l → (lines : List (List ℕ)) → LentSound (lent_after l lines)
unfolding lent_after
lines-sound l known [] = known
lines-sound l known (line ∷ lines) = lines-sound (answer_to_line l line).lent (line-sound l known line) lines

pub house-sound : (lines : List (List ℕ)) → LentSound (lent_after (sound (fresh most_names most_reservations)) lines)
house-sound lines = lines-sound (sound (fresh most_names most_reservations)) (fresh-sound most_names most_reservations (omega arith, omega arith) (omega arith, omega arith)) lines

-- the output goes line by line: after some lines comes what the ledger after them answers
pub answers-append : (l : Lent) (before later : List (List ℕ)) → answers_to_lines l (before ++ later) ≡ answers_to_lines l before ++ answers_to_lines (lent_after l before) later
unfolding answers_to_lines lent_after
answers-append l [] later = refl
answers-append l (line ∷ before) later = rw (answers-append (answer_to_line l line).lent before later) (sym (append_assoc (answer_line (answer_to_line l line).reply) (line_feed ∷ answers_to_lines (answer_to_line l line).lent before) (answers_to_lines (lent_after (answer_to_line l line).lent before) later)))

pub lent-append : (l : Lent) (before later : List (List ℕ)) → lent_after l (before ++ later) ≡ lent_after (lent_after l before) later
unfolding lent_after
lent-append l [] later = refl
lent-append l (line ∷ before) later = lent-append (answer_to_line l line).lent before later

pub own-snapshot-has-room : (L : Ledger) → Sound L → too_short_for longest_snapshot (snapshot_of L) ≡ false
own-snapshot-has-room L s = never-too-short (snapshot_of L) (omega (arith, rows-length L.places, s.names_fit, s.names_in_range.1)) (own-names-short L.places s.are_names)

-- 23 whatever it holds
pub too-long-line : (l : Lent) (line : List ℕ) → longest_line < length line → answer_to_line l line ≡ answered (reply_of BadFrame) l
unfolding operation_of_line
too-long-line l line h = bad_frame l line (rw (lt-ltb longest_line (length line) h))

-- ── one answer line each ───────────────────────────────────────────────────────────────────────

abbrev NotLineFeed : ℕ → Type 0
NotLineFeed c = c ≢ line_feed

character-after-feed : (d : ℕ) → NotLineFeed (character_of d)
character-after-feed d = by-test NotLineFeed (ltb d 10) (λ _ e. omega arith) (λ _ e. omega arith)

line-has-no-feed : (bs : List ℕ) → All NotLineFeed (line_of_bytes bs)
unfolding line_of_bytes
line-has-no-feed [] = tt
line-has-no-feed (b ∷ bs) = (character-after-feed (b / 16), (character-after-feed (b % 16), line-has-no-feed bs))

-- a line with its line feed in front of other text is the first of the lines
pub first_piece : (line rest : List ℕ) → All NotLineFeed line → pieces (line ++ line_feed ∷ rest) ≡ line ∷ pieces rest
unfolding pieces
first_piece [] rest h = refl
first_piece (c ∷ line) rest (h, k) = rw (ne_eqb c line_feed h, first_piece line rest k)

-- there is always a piece, so a line before it counts
record SomePiece (lines : List (List ℕ)) : Type 0 where
  head : List ℕ
  others : List (List ℕ)
  are : lines ≡ head ∷ others

some-piece : (text : List ℕ) → SomePiece (pieces text)
unfolding pieces
some-piece [] = record { head = []; others = []; are = refl }
some-piece (c ∷ text) =
    let p = some-piece text in
    by-test SomePiece (eqb c line_feed) (λ _. record { head = []; others = pieces text; are = refl }) (λ _. record { head = c ∷ p.head; others = p.others; are = rw p.are })

pub counted-more : (line text : List ℕ) → counted (line ∷ pieces text) ≡ line ∷ counted (pieces text)
unfolding counted
counted-more line text = let p = some-piece text in rw p.are (go line p.head p.others)
  where
    go : (line next : List ℕ) (lines : List (List ℕ)) → counted (line ∷ next ∷ lines) ≡ line ∷ counted (next ∷ lines)
    go [] next lines = refl
    go (c ∷ line) next lines = refl

abbrev answer_lines : Lent → List (List ℕ) → List (List ℕ)
answer_lines l [] = []
answer_lines l (line ∷ lines) = answer_line (answer_to_line l line).reply ∷ answer_lines (answer_to_line l line).lent lines

pub one-answer-line-each : (l : Lent) (lines : List (List ℕ)) → lines_of (answers_to_lines l lines) ≡ answer_lines l lines
unfolding lines_of answers_to_lines
one-answer-line-each l [] = unfold counted pieces in refl
one-answer-line-each l (line ∷ lines) =
    let answer = answer_line (answer_to_line l line).reply in
    let rest = answers_to_lines (answer_to_line l line).lent lines in
    let free : All NotLineFeed answer = unfold answer_line in line-has-no-feed (reply_bytes (answer_to_line l line).reply) in
    ap counted (first_piece answer rest free) ∙ counted-more answer rest ∙ ap (λ further. answer ∷ further) (one-answer-line-each (answer_to_line l line).lent lines)
