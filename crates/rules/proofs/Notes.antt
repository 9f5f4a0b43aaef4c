-- Laws of a run's notes: which id stands for which reference, with one more grant noted, and back from the id to the reference. No two notes share
-- an id or a reference, so a note found by the one is the note found by the other: the pairing of two runs' ids pairs their reservations.
use mathlib.Core.Path.{◌≡◌, refl, sym, ◌∙◌, ap, subst}
use mathlib.Core.Logic.{◌⊎◌, inl, inr, ◌≢◌}
use mathlib.Core.Bool.{true, false, cond, ◌&&◌}
use mathlib.Core.List.{List, ◌∷◌}
use mathlib.Core.Option.{Option, some, get_or, map}
use Prim.Native.Nat.{ℕ}
use borrow.Author.Tests.{eqb-true, eq-eqb, ne_eqb}
use lib.Dec.{eqb}
use Rattle.rules.specs.Lists.{first, All, Pairwise}
use Rattle.rules.specs.RoomAndSoundLedger.{same}
use Rattle.rules.specs.OrderBetweenAirlines.{Which, live_at_start, grant, Reference, reference, Note, same_which, same_reference, is_note_of, is_note_for, id_of, reference_of}
use Rattle.rules.proofs.Tests.{by_bool, by-option, true-false, none-some}
use Rattle.rules.proofs.Lists.{first_passes, first-all}
use Rattle.rules.proofs.Names.{same_self, same_true}
use Rattle.rules.proofs.Keys.{pairwise_map, all_found}

-- ── what a look-up among the notes comes to ────────────────────────────────────────────────────

abbrev pub id_noted : Option Note → ℕ
id_noted o = get_or (map (λ n. n.id) o) 0

abbrev pub reference_noted : Option Note → Option Reference
reference_noted o = map (λ n. n.reference) o

-- ── the same reference ─────────────────────────────────────────────────────────────────────────

pub same-which-self : (w : Which) → same_which w w ≡ true
unfolding same_which
same-which-self (live_at_start i) = eq-eqb i i refl
same-which-self (grant n) = eq-eqb n n refl

pub same-which-true : (v w : Which) → same_which v w ≡ true → v ≡ w
unfolding same_which
same-which-true (live_at_start m) (live_at_start n) e = ap live_at_start (eqb-true m n e)
same-which-true (live_at_start m) (grant n) e = cc
same-which-true (grant m) (live_at_start n) e = cc
same-which-true (grant m) (grant n) e = ap grant (eqb-true m n e)

same-reference-self : (k : Reference) → same_reference k k ≡ true
same-reference-self k = rw (same_self k.airline) (same-which-self k.which)

same-reference-true : (j k : Reference) → same_reference j k ≡ true → j ≡ k
same-reference-true j k e = by_bool (λ b. same j.airline k.airline ≡ b → b && same_which j.which k.which ≡ true → j ≡ k) (same j.airline k.airline)
    (λ _ h t i. reference (same_true j.airline k.airline h i) (same-which-true j.which k.which t i)) (λ _ h t. true-false t refl) refl e

pub other-reference : (j k : Reference) → j ≢ k → same_reference j k ≡ false
other-reference j k n = by_bool (λ b. same_reference j k ≡ b → b ≡ false) (same_reference j k) (λ _ e. absurd (n (same-reference-true j k e))) (λ _ e. refl) refl

-- ── one more note ──────────────────────────────────────────────────────────────────────────────

pub id-of-more : (k : Reference) (n : Note) (ns : List Note) → id_of k (n ∷ ns) ≡ cond (same_reference k n.reference) n.id (id_of k ns)
unfolding id_of first
id-of-more k n ns = by_bool (λ b. id_noted (cond b (some n) (first (is_note_of k) ns)) ≡ cond b n.id (id_noted (first (is_note_of k) ns))) (is_note_of k n) (λ _. refl) (λ _. refl)

pub reference-of-more : (i : ℕ) (n : Note) (ns : List Note) → reference_of i (n ∷ ns) ≡ cond (eqb i n.id) (some n.reference) (reference_of i ns)
unfolding reference_of first
reference-of-more i n ns = by_bool (λ b. reference_noted (cond b (some n) (first (is_note_for i) ns)) ≡ cond b (some n.reference) (reference_noted (first (is_note_for i) ns))) (is_note_for i n) (λ _. refl) (λ _. refl)

-- ── from the reference to the id and back ──────────────────────────────────────────────────────

-- no two notes have one id, or one reference
abbrev pub NotesApart : Note → Note → Type 0
NotesApart m n = (m.id ≢ n.id) × (m.reference ≢ n.reference)

module _ (ns : List Note) (apart : Pairwise NotesApart ns) where
  pub found-by-id : All (λ n. first (is_note_for n.id) ns ≡ some n) ns
  found-by-id = all_found (λ n. is_note_for n.id) (λ n. eq-eqb n.id n.id refl) ns (pairwise_map NotesApart (λ m n. is_note_for n.id m ≡ false) (λ m n p. ne_eqb n.id m.id (λ e. p.0 (sym e))) ns apart)

  found-by-reference : All (λ n. first (is_note_of n.reference) ns ≡ some n) ns
  found-by-reference = all_found (λ n. is_note_of n.reference) (λ n. same-reference-self n.reference) ns
      (pairwise_map NotesApart (λ m n. is_note_of n.reference m ≡ false) (λ m n p. other-reference n.reference m.reference (λ e. p.1 (sym e))) ns apart)

  pub reference-of-found : (k : Reference) → (id_of k ns ≡ 0) ⊎ (reference_of (id_of k ns) ns ≡ some k)
  unfolding id_of reference_of
  reference-of-found k = by-option (λ o. first (is_note_of k) ns ≡ o → (id_noted o ≡ 0) ⊎ (reference_noted (first (is_note_for (id_noted o)) ns) ≡ some k)) (first (is_note_of k) ns) (λ _ e. inl refl)
      (λ n _ e. inr (ap reference_noted (first-all (λ n. first (is_note_for n.id) ns ≡ some n) (is_note_of k) ns n found-by-id e) ∙ ap some (sym (same-reference-true k n.reference (first_passes (is_note_of k) ns n e))))) refl

  pub id-of-found : (i : ℕ) (k : Reference) → reference_of i ns ≡ some k → id_of k ns ≡ i
  unfolding id_of reference_of
  id-of-found i k e = by-option (λ o. first (is_note_for i) ns ≡ o → reference_noted o ≡ some k → id_noted (first (is_note_of k) ns) ≡ i) (first (is_note_for i) ns)
      (λ _ f h. none-some h)
      (λ n _ f h. let q : n.reference ≡ k = cc in
      subst (λ j. id_noted (first (is_note_of j) ns) ≡ i) q (ap id_noted (first-all (λ n. first (is_note_of n.reference) ns ≡ some n) (is_note_for i) ns n found-by-reference f) ∙ sym (eqb-true i n.id (first_passes (is_note_for i) ns n f)))) refl e

  -- two references of one id are one
  pub same_id : (j k : Reference) → id_of j ns ≡ id_of k ns → (id_of j ns ≡ 0) ⊎ (j ≡ k)
  same_id j k e = go (reference-of-found j) (reference-of-found k)
    where
      go : (id_of j ns ≡ 0) ⊎ (reference_of (id_of j ns) ns ≡ some j) → (id_of k ns ≡ 0) ⊎ (reference_of (id_of k ns) ns ≡ some k) → (id_of j ns ≡ 0) ⊎ (j ≡ k)
      go (inl z) q = inl z
      go (inr p) (inl z) = inl (e ∙ z)
      go (inr p) (inr q) = let s : some j ≡ some k = sym p ∙ ap (λ i. reference_of i ns) e ∙ q in inr (cc)
