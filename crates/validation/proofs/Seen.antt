-- The names seen by a pass over the rows: whether one is among them does not depend on their order, so the rules' list and the code's pass agree. And a pass
-- that looks for a row's name in the rows before it.
use mathlib.Core.Path.{◌≡◌, refl, sym, ap, ◌∙◌}
use mathlib.Core.Bool.{Bool, true, false, ◌||◌}
use mathlib.Core.List.{List, [], ◌∷◌, ◌++◌}
use Prim.Native.Nat.{ℕ, ◌+◌, ◌≤◌, ◌<◌}
use native.Mathlib.Omega.{arith}
use Rattle.rules.specs.Lists.{any}
use Rattle.rules.specs.RoomAndSoundLedger.{Name, same}
use Rattle.rules.specs.SnapshotsMigrationCertificates.{Row}
use Rattle.rules.proofs.Tests.{or-false}
use Rattle.big_endian.specs.Layout.{snapshot_header, row_amounts}
use Rattle.snapshot_reader.specs.Standing.{RowStands, OfRow, RowOf, Passed}
use Rattle.snapshot_reader.proofs.Header.{header}
use Rattle.snapshot_reader.proofs.Rows.{Ends, AtRow, start, at_row, advance}
use Rattle.snapshot_reader.proofs.Towards.{Towards, towards-start, towards-turn, towards_end}
use Rattle.validation.specs.Judgement.{seen_in}

nothing-more : (b : Bool) → b ≡ b || false
nothing-more true = refl
nothing-more false = refl

one_earlier : (b c d : Bool) → (b || c) || d ≡ c || (b || d)
one_earlier true true d = refl
one_earlier true false d = refl
one_earlier false c d = refl

module _ {A : Type 0} (f : A → Bool) where
  any-before : (xs : List A) (x : A) → any f xs ≡ false → f x ≡ false → any f (xs ++ x ∷ []) ≡ false
  unfolding any
  any-before [] x h e = rw e
  any-before (y ∷ xs) x h e = let (first, others) = or-false (f y) (any f xs) h in rw first (any-before xs x others e)

  any-there : (xs : List A) (x : A) (ys : List A) → f x ≡ true → any f ((xs ++ x ∷ []) ++ ys) ≡ true
  unfolding any
  any-there [] x ys e = rw e
  any-there (y ∷ xs) x ys e = rw (any-there xs x ys e) (always (f y))
    where
      always : (b : Bool) → b || true ≡ true
      always true = refl
      always false = refl

-- ── names seen ─────────────────────────────────────────────────────────────────────────────────

module _ (a : Name) where
  abbrev is_named : Row → Bool
  is_named q = same a q.name

  -- the order in which names were seen does not matter
  seen-among : (seen : List Name) (rs : List Row) → any (same a) (seen_in seen rs) ≡ any (same a) seen || any is_named rs
  unfolding seen_in any
  seen-among seen [] = nothing-more (any (same a) seen)
  seen-among seen (r ∷ rs) = seen-among (r.name ∷ seen) rs ∙ one_earlier (same a r.name) (any (same a) seen) (any is_named rs)

  seen-earlier : (earlier : List Row) → any (same a) (seen_in [] earlier) ≡ any is_named earlier
  unfolding any
  seen-earlier earlier = seen-among [] earlier

pub seen_more : (seen : List Name) (earlier : List Row) (r : Row) → seen_in seen (earlier ++ r ∷ []) ≡ r.name ∷ seen_in seen earlier
unfolding seen_in
seen_more seen [] r = refl
seen_more seen (q ∷ earlier) r = seen_more (q.name ∷ seen) earlier r

-- ── a pass towards a row ───────────────────────────────────────────────────────────────────────

-- no row passed has its name
abbrev Unseen : {bs : List ℕ} {at : ℕ} → RowOf bs at → (earlier later : List Row) → Type 0
Unseen here earlier later = Towards here.earlier (here.row ∷ here.later) earlier later × (any (is_named here.row.name) earlier ≡ false)

-- so far as the row at `earlier`
abbrev pub Looking : List ℕ → (at earlier : ℕ) → Type 0
Looking bs at earlier = (here : RowOf bs at) → Passed bs here.snapshot.rows earlier (Unseen here)

pub looks : {bs : List ℕ} {at : ℕ} → Looking bs at snapshot_header
unfolding any
looks here = start (header _ here.snapshot here.is_read).from (towards-start here.rows, refl)

-- what the function that finds a row's name answers
abbrev Names : List ℕ → ℕ → List ℕ → Type 0
Names bs at name = OfRow bs at (λ row later. name ≡ row.name)

module _ {bs : List ℕ} {at earlier : ℕ} (looking : Looking bs at earlier) where
  module _ (before : earlier < at) where
    there : (here : RowOf bs at) → AtRow bs here.snapshot.rows earlier (Unseen here)
    there here = at_row (looking here) (omega (arith, before, here.from.within))

    pub stands-before : RowOf bs at → RowStands bs earlier
    stands-before here = let a = there here in record { row = a.row; later = a.later; from = a.from }

    module _ {name other : List ℕ} (named : Names bs at name) (other-named : Names bs earlier other) {b : Bool} (compared : b ≡ same name other) where
      is-named : (here : RowOf bs at) → OfRow bs earlier (λ row later. is_named here.row.name row ≡ b)
      is-named here row later from = (λ i. same (sym (named here.row here.later here.from) i) (sym (other-named row later from) i)) ∙ sym compared

      pub seen : b ≡ true → (here : RowOf bs at) → true ≡ any (same here.row.name) (seen_in [] here.earlier)
      seen e here =
          let a = there here in
          let t = towards-turn here.from a.from before a.so_far.0 in
          sym (seen-earlier here.row.name here.earlier ∙ ap (any (is_named here.row.name)) t.passed
          ∙ any-there (is_named here.row.name) a.earlier a.row t.between (is-named here a.row a.later a.from ∙ e))

      pub unseen : b ≡ false → {end : ℕ} → Ends bs earlier end → Looking bs at (end + row_amounts)
      unseen e ends here =
          advance (looking here) (omega (arith, before, here.from.within)) ends
          (λ a. (towards-turn here.from a.from before a.so_far.0, any-before (is_named here.row.name) a.earlier a.row a.so_far.1 (is-named here a.row a.later a.from ∙ e)))

  pub none-seen : at ≤ earlier → (here : RowOf bs at) → false ≡ any (same here.row.name) (seen_in [] here.earlier)
  none-seen h here =
      let p = looking here in
      let all : p.earlier ≡ here.earlier = towards_end here.from p.from h p.so_far.0 in
      sym (seen-earlier here.row.name here.earlier ∙ ap (any (is_named here.row.name)) (sym all) ∙ p.so_far.1)
