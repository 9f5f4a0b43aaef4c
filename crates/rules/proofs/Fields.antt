-- What stands behind an operation's code, both ways: written it is read back, and nothing else is read so. Each kind of field keeps four laws by the laws of readers
-- (Reading, SnapshotBytes), one field before another keeps them where each does, and so the rows of the list of operations need no proof of their own.
use mathlib.Core.Path.{◌≡◌, refl, sym, ap, subst}
use mathlib.Core.Bool.{false}
use mathlib.Core.List.{List, [], ◌++◌, append_assoc, append-nil}
use mathlib.Core.Option.{Option, none, some, map}
use Prim.Native.Nat.{ℕ, ◌+◌, ◌≤◌, ◌<◌}
use native.Mathlib.Omega.{arith}
use borrow.Author.Tests.{ltb-false, eqb-true, ne_eqb}
use lib.Dec.{eqb}
use lib.IntN.{ℤ}
use lib.ListN.{length, length-append}
use Rattle.rules.specs.Lists.{first, All}
use Rattle.rules.specs.RoomAndSoundLedger.{longest_name, Name, IsByte}
use Rattle.rules.specs.SnapshotsMigrationCertificates.{bytes_of, Reader, reads, twos_complement, read_number, read_amount, read_name, read_snapshot, amount_bytes, name_bytes, snapshot_bytes}
use Rattle.rules.specs.Frames.{Operation, Parts, Fields, nothing, a_number, an_amount, a_name, a_snapshot, pair_of, ◌followed-by◌, Frame, Code, code, codes, body_of, read_operation, operation_of, longest_snapshot, longest_frame, ensure_frame, top_up_frame, limit_frame, reserve_frame, commit_frame, release_frame, snapshot_frame, restore_frame, recovery_frame, migration_frame, certificate_frame, snapshot_certificate_frame, proof_frame, status_frame}
use Rattle.rules.specs.Domain.{IsAmount, IsWord, IsBytes, SnapshotFits, OperationFits}
use Rattle.rules.specs.Recorder.{Written, bytes_in, written, frame_of, with_parts, operation_of_parts, PartsFit}
use Rattle.rules.proofs.Tests.{by-option, or-false, none-some}
use Rattle.rules.proofs.Lists.{first-all, first_passes, first-none, all_map, all_join}
use Rattle.rules.proofs.Numbers.{bytes-length, bytes_fit}
use Rattle.rules.proofs.Reading.{ReadsBack, back-then, whole_back, Read, ReadsAfter, only-reads, only_then, NameFits, number-back, number-only, amount-back, amount-only, name_back, name-only}
use Rattle.rules.proofs.SnapshotBytes.{read_snapshot-back, read_snapshot-only, snapshot-only, snapshot-is-bytes, longest}

-- bytes that an operation is written as, and that it fits
abbrev pub IsFrame : List ℕ → Operation → Type 0
IsFrame part x = (map bytes_in (frame_of x) ≡ some part) × OperationFits x

-- ── the laws of fields ─────────────────────────────────────────────────────────────────────────

pub record Lawful {A : Type 0} (f : Fields A) (Fits : A → Type 0) (most : ℕ) : Type 0 where
  pub back : (x : A) → Fits x → (go : A → Reader Operation) (more : List ℕ) (y : Operation) → ReadsBack (go x) more y → ReadsBack (f.read go) (f.write x ++ more) y
  pub only : (before : List ℕ) (go : A → Reader Operation) → ((x : A) → Fits x → ReadsAfter (before ++ f.write x) (go x) IsFrame) → ReadsAfter before (f.read go) IsFrame
  pub taken : (p : Parts) → PartsFit p → (x : A) → f.take p ≡ some x → f.is_long x ≡ false → Fits x
  pub short : (x : A) → Fits x → f.is_long x ≡ false → length (f.write x) ≤ most
  pub bytes : (x : A) → Fits x → All IsByte (f.write x)

given : {A : Type 0} (P : A → Type 0) {x y : A} → some x ≡ some y → P x → P y
given P {x} {y} e h = let q : x ≡ y = cc in subst P q h

nothing-law : Lawful nothing (λ _. Unit {0}) 0
nothing-law = record {
  back = λ x h go more y k. k;
  only = λ before go k. subst (λ l. ReadsAfter l (go tt) IsFrame) (append-nil before) (k tt tt);
  taken = λ p fits x e s. tt;
  short = λ x h s. omega arith;
  bytes = λ x h. tt;
}

number-law : Lawful a_number IsWord 8
number-law = record {
  back = λ n h go more y k. back-then (read_number 8) go (bytes_of 8 n) more n y (number-back 8 n h) k;
  only = λ before go k. only_then (number-only 8) k;
  taken = λ p fits n e s. given IsWord e fits.number;
  short = λ n h s. omega (arith, bytes-length 8 n);
  bytes = λ n h. bytes_fit 8 n;
}

amount-law : Lawful an_amount IsAmount 8
amount-law = record {
  back = λ z h go more y k. back-then read_amount go (amount_bytes z) more z y (amount-back z h) k;
  only = λ before go k. only_then amount-only k;
  taken = λ p fits z e s. given IsAmount e fits.amount;
  short = λ z h s. omega (arith, bytes-length 8 (twos_complement z));
  bytes = λ z h. bytes_fit 8 (twos_complement z);
}

name-law : Lawful a_name NameFits (1 + longest_name)
name-law = record {
  back = λ a h go more y k. back-then read_name go (name_bytes a) more a y (name_back a h) k;
  only = λ before go k. only_then name-only k;
  taken = λ p fits a e s. (given IsBytes e fits.bytes, omega (arith, ltb-false longest_name (length a) s));
  short = λ a h s. omega (arith, ltb-false longest_name (length a) s);
  bytes = λ a (b, size). (size, b);
}

snapshot-law : Lawful a_snapshot SnapshotFits longest_snapshot
snapshot-law = record {
  back = λ t h go more y k. back-then read_snapshot go (snapshot_bytes t) more t y (read_snapshot-back t h) k;
  only = λ before go k. only_then read_snapshot-only k;
  taken = λ p fits t e s. (snapshot-only p.part fits.bytes t e).1;
  short = λ t h s. longest t h.count s;
  bytes = snapshot-is-bytes;
}

-- both parts are there
pair-some : {A B : Type 0} (o : Option A) (q : Option B) (z : A × B) → pair_of o q ≡ some z → (o ≡ some z.0) × (q ≡ some z.1)
pair-some none q z e = none-some e
pair-some (some x) none z e = none-some e
pair-some (some x) (some y) z e = given (λ w. (some x ≡ some w.0) × (some y ≡ some w.1)) e (refl, refl)

infixr 6 ◌and-then◌
◌and-then◌ : {A B : Type 0} {f : Fields A} {g : Fields B} {F : A → Type 0} {G : B → Type 0} {m n : ℕ} → Lawful f F m → Lawful g G n → Lawful (f followed-by g) (λ z. F z.0 × G z.1) (m + n)
◌and-then◌ {f} {g} first-law later = record {
  back = λ z (h, i) go more y k. rw (append_assoc (f.write z.0) (g.write z.1) more)
      (first-law.back z.0 h (λ x. g.read (λ w. go (x, w))) (g.write z.1 ++ more) y (later.back z.1 i (λ w. go (z.0, w)) more y k));
  only = λ before go k. first-law.only before (λ x. g.read (λ w. go (x, w))) (λ x h. later.only (before ++ f.write x) (λ w. go (x, w))
      (λ w i. subst (λ l. ReadsAfter l (go (x, w)) IsFrame) (sym (append_assoc before (f.write x) (g.write w))) (k (x, w) (h, i))));
  taken = λ p fits z e s. let (a, b) = pair-some (f.take p) (g.take p) z e in let (s, t) = or-false (f.is_long z.0) (g.is_long z.1) s in
      (first-law.taken p fits z.0 a s, later.taken p fits z.1 b t);
  short = λ z (h, i) s. let (s, t) = or-false (f.is_long z.0) (g.is_long z.1) s in
      omega (arith, length-append (f.write z.0) (g.write z.1), first-law.short z.0 h s, later.short z.1 i t);
  bytes = λ z (h, i). all_join IsByte (f.write z.0) (g.write z.1) (first-law.bytes z.0 h) (later.bytes z.1 i);
}

-- ── a row of the list ──────────────────────────────────────────────────────────────────────────

-- the reader of what follows the number of a code
abbrev pub body_with : ℕ → Reader Operation
body_with number = body_of (first (λ c. eqb number c.number) codes)

-- 01 to 0e are all the codes
pub no_code : (number : ℕ) → (1 ≤ number → 14 < number) → first (λ c. eqb number c.number) codes ≡ none
unfolding codes
no_code number h = first-none (λ c. eqb number c.number) codes
    (all_map (λ c. (1 ≤ c.number) × (c.number ≤ 14)) (λ c. eqb number c.number ≡ false)
    (λ c (low, high). ne_eqb number c.number (λ e. let above : 14 < number = h (omega arith) in omega arith)) codes (omega arith))

-- what is written of parts is read back, and is no longer than the longest frame
pub record Recorded (x : Operation) : Type 0 where
  pub frame : Written
  pub is : frame_of x ≡ some frame
  pub reads_back : frame.is_long ≡ false → operation_of (bytes_in frame) ≡ some x
  pub size : frame.is_long ≡ false → length (bytes_in frame) ≤ longest_frame
  pub bytes : frame.is_long ≡ false → All IsByte (bytes_in frame)

pub record RowLaw (c : Code) : Type 0 where
  pub read : ReadsAfter (bytes_of 1 c.number) c.body IsFrame
  pub recorded : (p : Parts) → PartsFit p → (x : Operation) → c.of_parts p ≡ some x → Recorded x

module _ {A : Type 0} (r : Frame A) {Fits : A → Type 0} {most : ℕ} (law : Lawful r.fields Fits most) (is : (x : A) → frame_of (r.operation x) ≡ written r x)
    (fits : (x : A) → Fits x → OperationFits (r.operation x)) (body : body_with r.code ≡ (code r).body) (small : IsByte r.code) (most-fits : 1 + most ≤ longest_frame) where
  row_back : (x : A) → Fits x → operation_of (bytes_of 1 r.code ++ r.fields.write x) ≡ some (r.operation x)
  unfolding operation_of read_operation
  row_back x h = whole_back read_operation (bytes_of 1 r.code ++ r.fields.write x) (r.operation x)
      (back-then (read_number 1) body_with (bytes_of 1 r.code) (r.fields.write x) r.code (r.operation x) (number-back 1 r.code small)
      (rw (body, ← append-nil (r.fields.write x)) (law.back x h (λ y. reads (r.operation y)) [] (r.operation x) (λ rest. refl))))

  row-law : RowLaw (code r)
  unfolding bytes_in
  row-law = record {
    read = law.only (bytes_of 1 r.code) (λ x. reads (r.operation x)) (λ x h. only-reads (ap (map bytes_in) (is x), fits x h));
    recorded = λ p parts-fit x. by-option (λ o. r.fields.take p ≡ o → map r.operation o ≡ some x → Recorded x) (r.fields.take p)
        (λ _ _ e. none-some e)
        (λ y _ taken e. given Recorded e (record {
          frame = record { number = r.code; fields = r.fields.write y; is_long = r.fields.is_long y };
          is = is y;
          reads_back = λ s. row_back y (law.taken p parts-fit y taken s);
          size = λ s. omega (arith, length-append (bytes_of 1 r.code) (r.fields.write y), bytes-length 1 r.code, law.short y (law.taken p parts-fit y taken s) s);
          bytes = λ s. all_join IsByte (bytes_of 1 r.code) (r.fields.write y) (bytes_fit 1 r.code) (law.bytes y (law.taken p parts-fit y taken s));
        }))
        refl;
  }

infixr 5 ◌and◌
abbrev ◌and◌ : {A B : Type 0} → A → B → A × B
a and b = (a, b)

named-law : Lawful (a_name followed-by an_amount) (λ (z : Name × ℤ). NameFits z.0 × IsAmount z.1) (1 + longest_name + 8)
named-law = name-law and-then amount-law

-- row by row
rows-law : All RowLaw codes
unfolding codes first
rows-law =
    row-law ensure_frame named-law (λ x. refl) (λ x ((b, _), z). (b, z)) refl (omega arith) (omega arith)
    and row-law top_up_frame named-law (λ x. refl) (λ x ((b, _), z). (b, z)) refl (omega arith) (omega arith)
    and row-law limit_frame named-law (λ x. refl) (λ x ((b, _), z). (b, z)) refl (omega arith) (omega arith)
    and row-law reserve_frame named-law (λ x. refl) (λ x ((b, _), z). (b, z)) refl (omega arith) (omega arith)
    and row-law commit_frame (number-law and-then amount-law) (λ x. refl) (λ x (_, z). z) refl (omega arith) (omega arith)
    and row-law release_frame number-law (λ x. refl) (λ x _. tt) refl (omega arith) (omega arith)
    and row-law snapshot_frame nothing-law (λ x. refl) (λ x _. tt) refl (omega arith) (omega arith)
    and row-law restore_frame snapshot-law (λ x. refl) (λ x h. h) refl (omega arith) (omega arith)
    and row-law recovery_frame snapshot-law (λ x. refl) (λ x h. h) refl (omega arith) (omega arith)
    and row-law migration_frame (number-law and-then snapshot-law) (λ x. refl) (λ x h. h) refl (omega arith) (omega arith)
    and row-law certificate_frame nothing-law (λ x. refl) (λ x _. tt) refl (omega arith) (omega arith)
    and row-law snapshot_certificate_frame (amount-law and-then snapshot-law) (λ x. refl) (λ x h. h) refl (omega arith) (omega arith)
    and row-law proof_frame nothing-law (λ x. refl) (λ x _. tt) refl (omega arith) (omega arith)
    and row-law status_frame snapshot-law (λ x. refl) (λ x h. h) refl (omega arith) (omega arith)
    and tt

-- ── the operations ─────────────────────────────────────────────────────────────────────────────

pub operation-read : ReadsAfter [] read_operation IsFrame
unfolding read_operation
operation-read = only_then (number-only 1) λ n h. record {
  read = λ bs bytes r. by-option (λ o. first (λ c. eqb n c.number) codes ≡ o → body_of o bs ≡ some r → Read IsFrame (bytes_of 1 n ++ bs) r) (first (λ c. eqb n c.number) codes)
      (λ _ _ q. none-some q)
      (λ c _ found q. let same : n ≡ c.number = eqb-true n c.number (first_passes _ codes c found) in
      rw same ((first-all RowLaw _ codes c rows-law found).read.read bs bytes r q))
      refl;
}

-- whatever is handed in as parts
pub parts-recorded : (number : ℕ) (p : Parts) → PartsFit p → (x : Operation) → operation_of_parts number p ≡ some x → Recorded x
unfolding operation_of_parts
parts-recorded number p fits x = by-option (λ o. first (λ c. eqb number c.number) codes ≡ o → with_parts o p ≡ some x → Recorded x) (first (λ c. eqb number c.number) codes)
    (λ _ _ e. none-some e)
    (λ c _ found e. (first-all RowLaw _ codes c rows-law found).recorded p fits x e)
    refl
