-- A line in the input: the line feed that ends it splits the input there.
use mathlib.Core.Path.{◌≡◌, sym, ap, ◌∙◌}
use mathlib.Core.List.{List, [], ◌∷◌, ◌++◌}
use Prim.Native.Nat.{ℕ, suc, ◌+◌}
use native.Mathlib.Omega.{arith}
use lib.ListN.{take, drop, take-append-drop}
use lib.Seq.{take-suc, drop-cons}
use Rattle.rules.specs.Frames.{line_feed}
use Rattle.lines.specs.Batching.{FirstLine}

module _ (input : List ℕ) {end : ℕ} (f : FirstLine input end) where
  pub feed-behind : take (end + 1) input ≡ take end input ++ (line_feed ∷ [])
  feed-behind =
      let next : end + 1 ≡ suc end = omega arith in
      ap (λ n. take n input) next ∙ take-suc input end 0 f.inside ∙ ap (λ c. take end input ++ (c ∷ [])) f.feed

  pub line-stands : input ≡ take end input ++ (line_feed ∷ drop (suc end) input)
  line-stands = sym (take-append-drop end input) ∙ ap (λ later. take end input ++ later) (drop-cons input end 0 f.inside ∙ ap (λ c. c ∷ drop (suc end) input) f.feed)
