-- What is held, as a part of the lent input: a part in front of the next one (`row-join`), and cut at a line feed.
use mathlib.Core.Path.{◌≡◌, sym, ap, ◌∙◌}
use mathlib.Core.List.{List, ◌∷◌, ◌++◌}
use Prim.Native.Nat.{ℕ, suc, ◌+◌, ◌-◌, ◌≤◌}
use native.Mathlib.Omega.{arith}
use lib.ListN.{length, get_or, take, drop, length-drop}
use lib.Seq.{split_at, get_or-drop, drop-drop, drop_at, length-take-le}
use Rattle.std.specs.Prelude.{Some}
use Rattle.rules.specs.Frames.{line_feed}
use Rattle.records.specs.Rows.{row}
use Rattle.records.proofs.Rows.{row-join, row-front, row-length}
use Rattle.lines.specs.Batching.{FirstFeed}

pub part_length : (from end : ℕ) (input : List ℕ) → from ≤ end → end ≤ length input → length (row (end - from) from input) ≡ end - from
part_length from end input order within = row-length (end - from) from input (omega arith)

-- bytes read behind a part make it longer
pub part-longer : (from end count : ℕ) (input : List ℕ) → from ≤ end → row (end + count - from) from input ≡ row (end - from) from input ++ row count end input
part-longer from end count input order =
    let sum : end + count - from ≡ (end - from) + count = omega arith in
    let there : from + (end - from) ≡ end = omega arith in
    ap (λ n. row n from input) sum ∙ row-join (end - from) count from input ∙ ap (λ n. row (end - from) from input ++ row count n input) there

-- bytes used at its front make it shorter
pub part-shorter : (from end used : ℕ) (input : List ℕ) → from ≤ end → end ≤ length input → used ≤ end - from
    → drop used (row (end - from) from input) ≡ row (end - (from + used)) (from + used) input
part-shorter from end used input order within short =
    let sum : end - from ≡ used + (end - (from + used)) = omega arith in
    ap (λ n. drop used (row n from input)) sum ∙ ap (drop used) (row-join used (end - (from + used)) from input)
    ∙ drop_at (row used from input) (row (end - (from + used)) (from + used) input) used (row-length used from input (omega arith))

-- ── a line feed in it ──────────────────────────────────────────────────────────────────────────

module _ (input : List ℕ) (from end : ℕ) (order : from ≤ end) where
  pub part-is : row (end - from) from input ≡ drop from (take end input)
  part-is = let there : from + (end - from) ≡ end = omega arith in row-front (end - from) from input ∙ ap (λ n. drop from (take n input)) there

pub behind-feed : (input : List ℕ) (from end feed : ℕ) → from ≤ end → end ≤ length input → FirstFeed (take end input) from (Some feed)
    → row (end - from) from input ≡ take (feed - from) (drop from (take end input)) ++ (line_feed ∷ row (end - (feed + 1)) (feed + 1) input)
behind-feed input from end feed order within (behind, inside, feed-there, _) =
    let whole = take end input in
    let part = drop from whole in
    let long : length whole ≡ end = length-take-le end input within in
    let here : from + (feed - from) ≡ feed = omega arith in
    let next : from + suc (feed - from) ≡ feed + 1 = omega arith in
    let is-feed : get_or part (feed - from) 0 ≡ line_feed = get_or-drop from whole (feed - from) 0 ∙ ap (λ n. get_or whole n 0) here ∙ feed-there in
    let later : drop (suc (feed - from)) part ≡ row (end - (feed + 1)) (feed + 1) input =
    drop-drop (suc (feed - from)) from whole ∙ ap (λ n. drop n whole) next ∙ sym (part-is input (feed + 1) end (omega (arith, long))) in
    part-is input from end order ∙ split_at part (feed - from) 0 (omega (arith, length-drop from whole, long))
    ∙ (λ i. take (feed - from) part ++ (is-feed i ∷ later i))
