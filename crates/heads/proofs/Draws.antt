-- What drawing an id answers says where next id stands, and below M the head drawn has the next id that follows.
use mathlib.Core.Path.{◌≡◌, sym, ap}
use Prim.Native.Nat.{ℕ, ◌≤◌, ◌<◌}
use borrow.Author.Tests.{lt-ltb, ltb-true, ltb-false}
use lib.Dec.{ltb}
use Rattle.std.specs.Prelude.{Some, None}
use Rattle.rules.specs.RoomAndSoundLedger.{M}
use Rattle.rules.proofs.Tests.{by-test}
use Rattle.numbers.specs.declared.Identifier.{Identifier}
use Rattle.records.specs.declared.Head.{Head}
use Rattle.heads.specs.Heads.{identifier_at, after_draw, drawn_head}

pub none_left : (n : ℕ) → identifier_at n ≡ None → M ≤ n
none_left n = by-test (λ r. r ≡ None → M ≤ n) (ltb n M) (λ _ e. cc) (λ t _. ltb-false n M t)

pub one_left : (n : ℕ) (i : Identifier) → identifier_at n ≡ Some i → n < M
one_left n i = by-test (λ r. r ≡ Some i → n < M) (ltb n M) (λ t _. ltb-true n M t) (λ _ e. cc)

-- "the id drawn is the old next id"
pub old-next-id : (n : ℕ) (i : Identifier) → identifier_at n ≡ Some i → i.0 ≡ n
old-next-id n i = by-test (λ r. r ≡ Some i → i.0 ≡ n) (ltb n M) (λ _ e. let q : record { 0 = n } ≡ i = cc in ap (λ (j : Identifier). j.0) (sym q)) (λ _ e. cc)

pub head-drawn : (h : Head) → h.next_id < M → (drawn_head h).head ≡ after_draw h
head-drawn h small = rw (lt-ltb h.next_id M small)
