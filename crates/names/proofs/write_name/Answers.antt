-- `names::write_name` meets its contract: the length, and the name's bytes over all that is behind it.
use mathlib.Core.Path.{◌≡◌, ap, ◌∙◌}
use mathlib.Core.List.{List, [], ◌∷◌, append-nil}
use Prim.Native.Nat.{ℕ, ◌+◌, ◌-◌, ◌≤◌}
use native.Mathlib.Omega.{arith}
use borrow.Author.Rules.{rules}
use borrow.Rule.Slice.PartMut.{put_mid}
use lib.ListN.{length, take, set, length-set, drop_of_length-le}
use lib.Seq.{length-take-le}
use Rattle.rules.specs.SnapshotsMigrationCertificates.{name_bytes}
use Rattle.names.specs.Names.{spelled}
use Rattle.names.proofs.write_name.Goals as goal

written : (part bytes : List ℕ) (n k : ℕ) → length part ≡ 1 + n → length part ≤ 1 + k → n ≤ length bytes → put_mid 1 k (set part 0 n) (take n bytes) ≡ name_bytes (take n bytes)
written [] bytes n k fits short held = absurd (omega arith)
written (x ∷ part) bytes n k fits short held =
    rw (length-take-le n bytes held, drop_of_length-le part {i = k} (omega arith)) (ap (λ rest. n ∷ rest) (append-nil (take n bytes)))

pub returns : goal.returns
returns c =
    let part = c.args.part.now in
    let n = c.args.name.length in
    let k = length (set part 0 n) - 1 in
    let copied : c.copy_from_slice.new.self ≡ spelled c.args.name = c.copy_from_slice.ensures.after in
    ap (put_mid 1 k (set part 0 n)) copied ∙ written part c.args.name.bytes n k c.requires.0 (simp length-set (omega arith)) (search rules)
