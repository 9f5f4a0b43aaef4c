-- The summary of a sound room is that of its ledger's own snapshot, and what it tells: each part read from the room is the ledger's, and the stamp decides
-- whether there is one.
use mathlib.Core.Path.{◌≡◌, refl, sym, ◌∙◌, ap}
use mathlib.Core.Bool.{Bool, true, false, cond}
use mathlib.Core.List.{List, [], ◌∷◌}
use mathlib.Core.Option.{Option, none, some}
use Rattle.std.specs.Prelude.{Result, Ok, Err}
use Prim.Native.Nat.{ℕ, ◌≤◌}
use native.Mathlib.Omega.{arith}
use lib.ListN.{length}
use Rattle.rules.specs.Lists.{keep}
use Rattle.rules.specs.RoomAndSoundLedger.{M, Account, Place as RulesPlace, Ledger, has_account}
use Rattle.rules.specs.AnswerNumbers.{Count, done}
use Rattle.rules.specs.AccountRules.{next_id_is_m, is_account, read_accounts, read_ledger}
use Rattle.rules.specs.SnapshotsMigrationCertificates.{row_at, account_rows, after_snapshot}
use Rattle.rules.proofs.Tests.{by-test}
use Rattle.records.specs.Records.{sizes_of, head_of}
use Rattle.records.specs.declared.Head.{Head}
use Rattle.records.specs.declared.Sizes.{Sizes}
use Rattle.heads.specs.Heads.{stamped_head}
use Rattle.refusals.specs.declared.Refusal.{Refusal}
use Rattle.refusals.specs.declared.Refusal.TheVariants.{AllocatorExhausted}
use Rattle.refusals.specs.Answers.{carries_count}
use Rattle.room.specs.Room.{head_in, IsRoom}
use Rattle.room.proofs.SoundRoom.{sizes-are, head-is}
use Rattle.certificates.specs.Certified.{summary_of, summarized_of}
use Rattle.certificates.specs.declared.Summary.{Summary}

-- ── its parts, as they are read from the room ──────────────────────────────────────────────────

accounts-are-rows : (ps : List RulesPlace) → length (keep is_account ps) ≡ length (account_rows ps)
unfolding keep account_rows
accounts-are-rows [] = refl
accounts-are-rows (p ∷ ps) = go p.seat.account (accounts-are-rows ps)
  where
    go : (c : Option Account) → length (keep is_account ps) ≡ length (account_rows ps) → length (cond (has_account c) (p ∷ keep is_account ps) (keep is_account ps)) ≡ length (row_at p.name c (account_rows ps))
    go none e = e
    go (some c) e = omega arith

pub rows-counted : (L : Ledger) (n : ℕ) → done (carries_count n) ≡ read_ledger L read_accounts → n ≡ length (account_rows L.places)
unfolding read_ledger
rows-counted L n e =
    let carried : Count n ∷ [] ≡ Count (length (keep is_account L.places)) ∷ [] = ap (λ r. r.carried) e in
    let counted : n ≡ length (keep is_account L.places) = cc in
    counted ∙ accounts-are-rows L.places

summarized-is : (L : Ledger) (last : Bool) → next_id_is_m L ≡ last → cond {A = Result Summary Refusal} last (Err AllocatorExhausted) (Ok (summary_of L)) ≡ summarized_of L
summarized-is L last e = sym (ap (λ b. cond {A = Result Summary Refusal} b (Err AllocatorExhausted) (Ok (summary_of L))) e)

module _ (xs : List ℕ) (L : Ledger) (room : IsRoom xs L) where
  pub live-counted : (s : Sizes) → s ≡ sizes_of xs → s.live ≡ length L.bookings
  live-counted s e = ap (λ t. t.live) (e ∙ sizes-are xs L room)

  module _ (h : Head) (loaded : h ≡ head_of xs) where
    is-head : h ≡ head_in L
    is-head = loaded ∙ head-is xs L room

    -- what `stamp` asks
    pub next-id-small : h.next_id ≤ M
    next-id-small = omega (arith, ap (λ g. g.next_id) is-head, room.sound.next_id)

    stamped-here : {r : Result Head Refusal} → r ≡ stamped_head h → stamped_head (head_in L) ≡ r
    stamped-here is = sym (is ∙ ap stamped_head is-head)

    pub exhausted : {e : Refusal} → Err e ≡ stamped_head h → Err AllocatorExhausted ≡ summarized_of L
    exhausted {e} is = by-test (λ t. t ≡ Err e → Err AllocatorExhausted ≡ summarized_of L) (next_id_is_m L) (λ last _. summarized-is L true last) (λ _ q. cc) (stamped-here is)

    pub taken : (g : Head) → Ok g ≡ stamped_head h → (s : Summary) → ((g ≡ head_in (after_snapshot L)) → s ≡ summary_of L) → Ok s ≡ summarized_of L
    taken g is s same = by-test (λ t. t ≡ Ok g → Ok s ≡ summarized_of L) (next_id_is_m L) (λ _ e. cc) (λ not_last e. ap Ok (same cc) ∙ summarized-is L false not_last) (stamped-here is)

-- ── what it tells ──────────────────────────────────────────────────────────────────────────────

-- a snapshot can be taken, and this is what it says
pub record Taking (L : Ledger) (s : Summary) : Type 0 where
  pub not_last : next_id_is_m L ≡ false
  pub summary : s ≡ summary_of L

module _ (L : Ledger) where
  pub told-exhausted : {e : Refusal} → Err e ≡ summarized_of L → next_id_is_m L ≡ true
  told-exhausted {e} is = by-test (λ t. t ≡ Err e → next_id_is_m L ≡ true) (next_id_is_m L) (λ last _. last) (λ _ e. cc) (sym is)

  pub told-taken : (s : Summary) → Ok s ≡ summarized_of L → Taking L s
  told-taken s is = by-test (λ t. t ≡ Ok s → Taking L s) (next_id_is_m L) (λ _ e. cc) (λ not_last e. record { not_last = not_last; summary = cc }) (sym is)
