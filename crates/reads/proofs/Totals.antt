-- What is read of the whole room of a sound ledger is what the rules read of the ledger: the places in use are the ledger's, seen through their records.
use mathlib.Core.Path.{◌≡◌, refl, sym, ◌∙◌, ap}
use mathlib.Core.Bool.{cond}
use mathlib.Core.List.{List, [], ◌∷◌}
use mathlib.Core.Option.{Option, none, some}
use Prim.Native.Nat.{ℕ, ◌+◌, ◌-◌, ◌≤◌, ◌<◌, min}
use native.Mathlib.Omega.{arith}
use native.Mathlib.Nat.{min-eq_left, min-eq_right}
use borrow.Author.Tests.{eq-eqb, ne_eqb, lt-ltb, le-ltb, ltb-true, ltb-false}
use lib.Dec.{ltb, eqb}
use lib.IntN.{pos}
use lib.ListN.{length}
use Rattle.std.specs.Prelude.{Option as Total, Some, None, ok_or, unwrap_or}
use Rattle.rules.specs.Lists.{sum, keep}
use Rattle.rules.specs.RoomAndSoundLedger.{M, Account, Place as RulesPlace, Ledger, has_account, committed_of, committed_at, committed_total}
use Rattle.rules.specs.AnswerNumbers.{Amount, Count, Version, done, reply_of}
use Rattle.rules.specs.AnswerNumbers as rules
use Rattle.rules.specs.AccountRules.{is_account, read_committed_total, read_accounts, read_live, read_last_version, read_committed_since, read_ledger}
use Rattle.rules.proofs.Tests.{by-test, by_bool}
use Rattle.moves.specs.Moves.{kept, kept_seat}
use Rattle.records.specs.Layout.{place_start, place_size}
use Rattle.records.specs.Rows.{row}
use Rattle.records.specs.Records.{sizes_of, head_of, place_of}
use Rattle.records.specs.declared.Place.{Place}
use Rattle.records.specs.declared.Head.{Head}
use Rattle.records.specs.declared.Sizes.{Sizes}
use Rattle.refusals.specs.Answers.{answer_of}
use Rattle.refusals.specs.declared.Refusal.TheVariants.{AggregateOverflow}
use Rattle.room.specs.Room.{place_record, IsRoom, SoundRoom, OfRoom}
use Rattle.room.specs.Contents.{Sized}
use Rattle.room.proofs.SoundRoom.{sizes-are, head-is, sized}
use Rattle.reads.specs.Answers.{summed}
use Rattle.reads.proofs.Sums.{sum_to, sum-next, sum-all, sum-within}

-- ── the record of a place ──────────────────────────────────────────────────────────────────────

abbrev pub committed_in : Place → ℕ
committed_in p = p.committed

-- 1 for an account
abbrev pub counted : Place → ℕ
counted p = cond (eqb p.account 0) 0 1

module _ (p : Place) where
  pub counted-one : (p.account ≡ 0 → ⊥) → counted p ≡ 1
  counted-one h = rw (ne_eqb p.account 0 h)

  pub counted_none : p.account ≡ 0 → counted p ≡ 0
  counted_none h = rw (eq-eqb p.account 0 h)

record-committed : (p : RulesPlace) → committed_in (place_record p) ≡ committed_at p
unfolding place_record kept_seat
record-committed p = by-kept p.seat.account
  where
    by-kept : (c : Option Account) → (kept c p.seat.limit).committed ≡ committed_of c
    by-kept none = refl
    by-kept (some c) = refl

record-counted : (p : RulesPlace) → counted (place_record p) ≡ cond (is_account p) 1 0
unfolding place_record kept_seat
record-counted p = by-kept p.seat.account
  where
    by-kept : (c : Option Account) → ◌≡◌ {A = ℕ} (cond (eqb (kept c p.seat.limit).account 0) 0 1) (cond (has_account c) 1 0)
    by-kept none = refl
    by-kept (some c) = refl

-- how many are kept, as a sum
keep-counts : (ps : List RulesPlace) → sum (λ p. cond (is_account p) 1 0) ps ≡ length (keep is_account ps)
unfolding sum keep
keep-counts [] = refl
keep-counts (p ∷ ps) = by_bool (λ b. cond b 1 0 + sum (λ q. cond (is_account q) 1 0) ps ≡ length (cond b (p ∷ keep is_account ps) (keep is_account ps))) (is_account p)
    (λ _. omega (arith, keep-counts ps)) (λ _. omega (arith, keep-counts ps))

-- ── a total that may be above M ────────────────────────────────────────────────────────────────

module _ (t : ℕ) where
  pub summed-above : (o : Total ℕ) → o ≡ None → M < t → o ≡ summed t
  summed-above o e h = rw (lt-ltb M t h) e

  pub summed-of : (n : ℕ) → n ≡ t → n ≤ M → Some n ≡ summed t
  summed-of n e h = rw (le-ltb M t (omega arith)) (ap Some e)

  pub above-summed : None ≡ summed t → M < t
  above-summed = by-test (λ s. None ≡ s → M < t) (ltb M t) (λ h e. ltb-true M t h) (λ _ e. absurd (let z : ◌≡◌ {A = ℕ} 0 1 = cc in omega arith))

  pub within-summed : (n : ℕ) → Some n ≡ summed t → (n ≡ t) × (n ≤ M)
  within-summed n = by-test (λ s. Some n ≡ s → (n ≡ t) × (n ≤ M)) (ltb M t) (λ _ e. absurd (let z : ◌≡◌ {A = ℕ} 0 1 = cc in omega arith)) (λ h e. let q : n ≡ t = cc in (q, omega (arith, ltb-false M t h)))

  -- "or M if larger"
  capped : unwrap_or (summed t) M ≡ min t M
  capped = by-test (λ s. unwrap_or s M ≡ min t M) (ltb M t) (λ h. sym (min-eq_right (omega (arith, ltb-true M t h)))) (λ h. sym (min-eq_left (omega (arith, ltb-false M t h))))

-- ── the total ──────────────────────────────────────────────────────────────────────────────────

module _ (L : Ledger) (o : Total ℕ) (is : o ≡ summed (committed_total L.places)) where
  abbrev total : ℕ
  total = committed_total L.places

  pub total-reads : answer_of (λ n. Amount (pos n) ∷ []) (ok_or o AggregateOverflow) ≡ read_ledger L read_committed_total
  unfolding read_ledger
  total-reads =
      ap (λ o. answer_of (λ n. Amount (pos n) ∷ []) (ok_or o AggregateOverflow)) is
      ∙ by_bool (λ b. answer_of (λ n. Amount (pos n) ∷ []) (ok_or (cond b None (Some total)) AggregateOverflow) ≡ cond b (reply_of rules.AggregateOverflow) (done (Amount (pos total) ∷ []))) (ltb M total)
      (λ _. refl) (λ _. refl)

-- ── the room of a ledger ───────────────────────────────────────────────────────────────────────

-- a place in use is loaded from within the room, and adds to a sum what is loaded
module _ (xs : List ℕ) (sound : SoundRoom xs) (s : Sizes) (is : s ≡ sizes_of xs) (i : ℕ) (h : i < s.used) where
  room_sized : Sized xs
  room_sized = sized xs sound.ledger sound.is_room

  in_use : i < (sizes_of xs).used
  in_use = omega (arith, ap (λ t. t.used) is)

  pub place-within : place_start i + place_size ≤ length xs
  place-within = omega (arith, room_sized, in_use)

  pub place-adds : (w : Place → ℕ) (p : Place) → p ≡ place_of (row place_size (place_start i) xs) → sum_to w xs (i + 1) ≡ sum_to w xs i + w p
  place-adds w p e = sum-next w xs room_sized i in_use ∙ ap (λ q. sum_to w xs i + w q) (sym e)

module _ (xs : List ℕ) (L : Ledger) (room : IsRoom xs L) where
  pub committed-part : (i : ℕ) → sum_to committed_in xs i ≤ committed_total L.places
  unfolding committed_total
  committed-part = sum-within committed_in xs (sized xs L room) committed_at record-committed L room

  module _ (s : Sizes) (sizes_is : s ≡ sizes_of xs) where
    pub committed-all : (i : ℕ) → s.used ≤ i → sum_to committed_in xs i ≡ committed_total L.places
    unfolding committed_total
    committed-all i h = sum-all committed_in xs (sized xs L room) committed_at record-committed L room i (omega (arith, ap (λ t. t.used) sizes_is))

    pub count-is : (i n : ℕ) → s.used ≤ i → n ≡ sum_to counted xs i → done (Count n ∷ []) ≡ read_ledger L read_accounts
    unfolding read_ledger
    count-is i n h e =
        ap (λ m. done (Count m ∷ []))
        (e ∙ sum-all counted xs (sized xs L room) (λ p. cond (is_account p) 1 0) record-counted L room i (omega (arith, ap (λ t. t.used) sizes_is)) ∙ keep-counts L.places)

    pub live-is : done (Count s.live ∷ []) ≡ read_ledger L read_live
    unfolding read_ledger
    live-is = ap (λ t. done (Count t.live ∷ [])) (sizes_is ∙ sizes-are xs L room)

  pub version-is : (h : Head) → h ≡ head_of xs → done (Version h.last_version ∷ []) ≡ read_ledger L read_last_version
  unfolding read_ledger
  version-is h e = ap (λ g. done (Version g.last_version ∷ [])) (e ∙ head-is xs L room)

  module _ (o : Total ℕ) (is : o ≡ summed (committed_total L.places)) (h : Head) (head_is : h ≡ head_of xs) (n : ℕ) (capped_is : n ≡ unwrap_or o M) where
    baseline-is : h.baseline ≡ L.baseline
    baseline-is = ap (λ g. g.baseline) (head_is ∙ head-is xs L room)

    total-is : n ≡ min (committed_total L.places) M
    total-is = capped_is ∙ ap (λ o. unwrap_or o M) is ∙ capped (committed_total L.places)

    within : (h.baseline ≤ n) × (n ≤ M)
    within = (omega (arith, baseline-is, total-is, room.sound.baseline_in_range), omega (arith, total-is))

    pub since-reads : done (Amount (pos (n - h.baseline)) ∷ []) ≡ read_ledger L read_committed_since
    unfolding read_ledger
    since-reads = λ i. done (Amount (pos (total-is i - baseline-is i)) ∷ [])

-- what the subtraction asks of the total
module _ (xs : List ℕ) (sound : SoundRoom xs) (o : Total ℕ) (is : OfRoom xs (λ L. o ≡ summed (committed_total L.places))) where
  pub since-within : (h : Head) → h ≡ head_of xs → (n : ℕ) → n ≡ unwrap_or o M → (h.baseline ≤ n) × (n ≤ M)
  since-within = within xs sound.ledger sound.is_room o (is sound.ledger sound.is_room)
