-- Steps for a walk by hand of code that changes a head in place. The check proves `draw`, `rotate`, `after_draw` and `after_rotation` itself: nothing cites
-- these steps now.
--     machine, Fits, fits, made      a head's machine value, and what is known of its numbers
--     opens-head, closes-head        the head behind a `&mut`: its cell is taken out of the borrow, and put back with another head in it
--     asks, leaves                   what a function of plain parameters asks and leaves
--     asks-lent, leaves-lent         the same where its first parameter is a head that is lent
--     calls-covered                  a call of a function without a lifetime: its result, and the fact of its `ensures`
--     calls-lending                  a call to which a local head is lent for a lifetime that is made for the call: the local comes back with its last value
-- Assumes `Logic`.
use mathlib.Core.Path.{refl}
use Prim.Native.Nat.{ℕ, ◌<◌, ◌^◌}
use mathlib.Core.List.{List, [], ◌∷◌}
use seplogic.Ra.Ura.{Ura}
use base.Fraction.{full_share}
use mir.Syntax.{Callee, Place, Opd as Operand, Body as Code, seq, call, named, w64}
use lib.Dec.{T as Holds}
use mir.Val.{Val, WT, has_ty, vint, vptr, vstruct, vnil, vcons}
use base.Logic.{ent, sep, emp}
use base.Stored.{Gv}
use base.Fml.{GName, Lft, Share, Fml, ftrue, fsep, fat, flft, fobs, fauth, fres, fbor, fobor, flent}
use prog.Wp.{Env, Calls, Loops}
use types.Logic.{Logic, sem}
use contract.Lifetimes.{Lfts}
use contract.Monad.{fact}
use types.Kit.{Goal, Post, Soaks, Item, ‵, raw, ◌⊛◌, ⋆, some, later, mean, runs, lands, Seq, Step, step, ◌$◌, ◌∵◌, !, qed, move, use0, use1, use2, use3}
use types.Kit.{drop, split, join, pick, fsplit, fjoin, fjoin3, feq_i, fpick, fpack, frame, await, done}
use types.Run.{Opds}
use types.SemTy.{Body}
use types.Tokens.{lft_new, lft_end}
use sound.WpLaws.{FmC}
use denote.RattleType.{RattleType, Denots, Valss, owns}
use denote.Laws.{Is, shows}
use denote.Memory.{mem, cell_at, part_at, part_of}
use denote.Plain.{uint_Makes}
use denote.Builtin.{u64}
use denote.Ref.{MutBor, MutRef}
use denote.Lend.{lends_ref, ref_back}
use denote.Steps.{opens, closes, owned, facts, heard, nothing}
use denote.Struct.Steps.{spelt}
use denote.Struct.Laws as LL
use denote.Triple.Statement.{Contract, Triple}
use denote.Triple.Entry.{Args}
use denote.Triple.Clauses.{Ended, Lasts, lasts}
use denote.Triple.Call.{calls_at}
use Rattle.records.specs.declared.Head.{Head}
use Rattle.records.specs.contracts.Head as T
use Rattle.records.proofs.Head.TheLaws as T'

-- ── a head ─────────────────────────────────────────────────────────────────────────────────────

abbrev pub machine : Head → Val
machine h = vstruct (vcons (vint w64 h.next_id) (vcons (vint w64 h.last_version) (vcons (vint w64 h.baseline) vnil)))

abbrev pub IsHead : Head → Type 0
IsHead h = Is T.the_row h (machine h ∷ [])

-- what its types say of its numbers
pub record Fits (h : Head) : Type 0 where
  pub next_id : h.next_id < 2 ^ 64
  pub last_version : h.last_version < 2 ^ 64
  pub baseline : h.baseline < 2 ^ 64

pub fits : (h : Head) → IsHead h → Fits h
fits h is = let f = LL.owed T.the_type T'.the_laws h _ is in record { next_id = f.0.1; last_version = f.1.0.1; baseline = f.1.1.0.1 }

pub made : (h : Head) → Fits h → IsHead h
made h f = LL.owes T.the_type T'.the_laws h ((refl, f.next_id), ((refl, f.last_version), ((refl, f.baseline), tt)))

abbrev pub coded : Head → Gv
coded h = (T.the_row).coded.code h

-- what a borrow of a head holds
abbrev pub Behind : (b o : ℕ) → GName → Fml
Behind b o γ = Body (mem T.the_row) b o γ

-- what a `&mut` to a head owns
abbrev pub Lent : Lft → MutBor Head → Fml
Lent κ x = (MutRef (named 0) κ T.the_row).own_val x (vptr x.ref_ptr.0 x.ref_ptr.1 ∷ [])

-- the reference to a head in a local
abbrev pub to-local : ℕ → GName → Head → MutBor Head
to-local l γ h = record { ref_ptr = (l, 0); ghost_name = γ; now = h }

module _ {M : Type 1} {𝓤 : Ura M} (𝓛 : Logic 𝓤) where
  -- ── what is owned ────────────────────────────────────────────────────────────────────────────

  open 𝓛 use {A}

  abbrev lent : Lft → (b o : ℕ) → GName → Head → (rs : List RattleType) → Denots rs → Valss rs → Fml
  lent κ b o γ h rs xs vss = owns (MutRef (named 0) κ T.the_row ∷ rs) (record { ref_ptr = (b, o); ghost_name = γ; now = h }, xs) (vptr b o ∷ [], vss)

  pub one_number : (n : ℕ) → n < 2 ^ 64 → ent 𝓤 (emp 𝓤) (sem 𝓛 (owns (u64 ∷ []) (n, tt) (vint w64 n ∷ [], tt)))
  one_number n f = qed 𝓛 [] ∵ nothing ! $ owned ! u64 (Is u64) (uint_Makes 𝓛 w64) n _ (refl, f) $ fjoin ! $ done !

  pub two-numbers : (m n : ℕ) → m < 2 ^ 64 → n < 2 ^ 64
      → ent 𝓤 (emp 𝓤) (sem 𝓛 (owns (u64 ∷ u64 ∷ []) (m, (n, tt)) (vint w64 m ∷ [], (vint w64 n ∷ [], tt))))
  two-numbers m n e f =
      qed 𝓛 [] ∵ use0 𝓛 (‵ (owns (u64 ∷ []) (n, tt) (vint w64 n ∷ [], tt))) (one_number n f) $
      owned ! u64 (Is u64) (uint_Makes 𝓛 w64) m _ (refl, e) $ fjoin ! $ done !

  pub head-and : (h : Head) → IsHead h → (rs : List RattleType) (xs : Denots rs) (vss : Valss rs) → ent 𝓤 (emp 𝓤) (sem 𝓛 (owns rs xs vss))
      → ent 𝓤 (emp 𝓤) (sem 𝓛 (owns (T.the_row ∷ rs) (h, xs) (machine h ∷ [], vss)))
  head-and h is rs xs vss had =
      qed 𝓛 [] ∵ use0 𝓛 (‵ (owns rs xs vss)) had $ owned ! T.the_row (Is T.the_row) (LL.makes T.the_type T'.the_plain 𝓛) h _ is $ fjoin ! $ done !

  -- what a function asks whose other parameters rs own only facts: without a lifetime, and with a head that is lent
  module _ (rs : List RattleType) (xs : Denots rs) (vss : Valss rs) (had : ent 𝓤 (emp 𝓤) (sem 𝓛 (owns rs xs vss))) where
    pub asks : ent 𝓤 (emp 𝓤) (sep 𝓤 (sep 𝓤 (emp 𝓤) (sem 𝓛 (owns rs xs vss))) (emp 𝓤))
    asks = qed 𝓛 [] ∵ use0 𝓛 (‵ (owns rs xs vss)) had $ nothing ! $ join ! $ frame ! $ done !

    pub asks-lent : (κ : Lft) (q : Share) (b o : ℕ) (γ : GName) (h : Head)
        → ent 𝓤 (sep 𝓤 (A.lft κ q) (sem 𝓛 (Lent κ (record { ref_ptr = (b, o); ghost_name = γ; now = h }))))
        (sep 𝓤 (sep 𝓤 (sep 𝓤 (A.lft κ q) (emp 𝓤)) (sem 𝓛 (lent κ b o γ h rs xs vss))) (emp 𝓤))
    asks-lent κ q b o γ h =
        qed 𝓛 (‵ (flft κ q) ∷ ‵ (Lent κ (record { ref_ptr = (b, o); ghost_name = γ; now = h })) ∷ []) ∵
        use0 𝓛 (‵ (owns rs xs vss)) had $ move ! (2 ∷ 0 ∷ []) $ fjoin ! $ nothing ! $ move ! (2 ∷ 0 ∷ []) $ join ! $ join ! $ frame ! $ done !

    -- and what it leaves, with the result r
    module _ (R : RattleType) (r : R.Denot) (vs : List Val) (result : ent 𝓤 (emp 𝓤) (sem 𝓛 (R.own_val r vs))) where
      pub leaves : ent 𝓤 (emp 𝓤) (sep 𝓤 (emp 𝓤) (sep 𝓤 (sem 𝓛 (owns rs xs vss)) (sem 𝓛 (R.own_val r vs))))
      leaves = qed 𝓛 [] ∵ use0 𝓛 (‵ (R.own_val r vs)) result $ use0 𝓛 (‵ (owns rs xs vss)) had $ nothing ! $ done !

      pub leaves-lent : (κ : Lft) (q : Share) (b o : ℕ) (γ : GName) (h : Head)
          → ent 𝓤 (⋆ 𝓛 (‵ (fobs γ (coded h)) ∷ ‵ (fbor κ (Behind b o γ)) ∷ ‵ (flft κ q) ∷ []))
          (sep 𝓤 (sep 𝓤 (A.lft κ q) (emp 𝓤)) (sep 𝓤 (sem 𝓛 (lent κ b o γ h rs xs vss)) (sem 𝓛 (R.own_val r vs))))
      leaves-lent κ q b o γ h =
          qed 𝓛 (‵ (fobs γ (coded h)) ∷ ‵ (fbor κ (Behind b o γ)) ∷ ‵ (flft κ q) ∷ []) ∵ nothing ! $ move ! (3 ∷ 0 ∷ []) $ join ! $ frame ! $
          feq_i ! (List Val) (vptr b o ∷ []) (vptr b o ∷ []) refl $ fjoin3 ! $ use0 𝓛 (‵ (owns rs xs vss)) had $ move ! (1 ∷ 0 ∷ []) $ fjoin ! $ frame ! $
          use0 𝓛 (‵ (R.own_val r vs)) result $ done !

  -- ── a head in a local ────────────────────────────────────────────────────────────────────────

  -- a head's machine value has the MIR type of a local that holds a head
  pub typed : (h : Head) → IsHead h → Holds (has_ty T'.mir (machine h)) × WT (machine h)
  typed h is = ((LL.lawful T.the_type T'.the_laws 𝓛).typed h _ is).0

  -- a local's cell, with what a head owns, is a head that lies there
  lies : (h : Head) (l : ℕ) → IsHead h → ent 𝓤 (sem 𝓛 (fat full_share T'.mir l 0 (machine h))) (sem 𝓛 (part_at T.the_row full_share h l 0))
  unfolding part_of
  lies h l is =
      qed 𝓛 (‵ (fat full_share T'.mir l 0 (machine h)) ∷ []) ∵
      use1 𝓛 (‵ (cell_at full_share (T.the_row).mir (machine h ∷ []) l 0)) (𝓛.laws.at_raw full_share T'.mir l 0 (machine h)) $
      owned ! T.the_row (Is T.the_row) (LL.makes T.the_type T'.the_plain 𝓛) h _ is $ move ! (1 ∷ 0 ∷ []) $ fjoin ! $
      fpack ! (List Val) (λ vs. fsep (cell_at full_share (T.the_row).mir vs l 0) ((T.the_row).own_val h vs)) (machine h ∷ []) $ done !

-- ── what is had of a callee once it has returned the machine value v ───────────────────────────

-- without a lifetime, D at the arguments a
abbrev Answer : {M : Type 1} (𝓤 : Ura M) (R : RattleType) (φ : R.Denot → Type 0) (D : Ended) (κs : Lfts D.signature.lifetimes)
    → Args D.signature κs → Val → Item 𝓤
Answer 𝓤 R φ D κs a v =
    later (some (λ (r : R.Denot). (‵ ftrue ⊛ ‵ (R.own_val r (v ∷ []))) ⊛ some (λ (ws : Lasts D κs a). ‵ (lasts D κs a ws) ⊛ raw (fact 𝓤 (φ r)))))

-- where a head was lent to it for the lifetime ν under the name γ: X is what its contract binds for its other parameters, and others what it says of that
abbrev AnswerLent : {M : Type 1} (𝓤 : Ura M) (R : RattleType) (φ : R.Denot → Head → Type 0) (X : Type 0) (others : Fml) → ℕ → GName → Val → Item 𝓤
AnswerLent 𝓤 R φ X others ν γ v =
    later (some (λ (r : R.Denot). ((‵ (flft (ν ∷ []) full_share) ⊛ ‵ ftrue) ⊛ ‵ (R.own_val r (v ∷ [])))
    ⊛ some (λ (ws : Head × X). ‵ (fsep (fres γ (coded ws.0)) others) ⊛ raw (fact 𝓤 (φ r ws.0)))))

module _ {M : Type 1} {𝓤 : Ura M} {𝓛 : Logic 𝓤} {K : Type 0} {Γ : List (Item 𝓤)} where
  open 𝓛 use {H, A}

  module _ {G : Goal 𝓤 H} where
    -- ── the head behind a reference ────────────────────────────────────────────────────────────

    pub opens-head : K → Soaks G → {κ : Lft} {q : Share} {γ : GName} (h : Head) (b o : ℕ)
        → (Fits h → Seq K 𝓛 (‵ (cell_at full_share (T.the_row).mir
        (machine h ∷ []) b o) ∷ ‵ (fobor κ q (Behind b o γ)) ∷ ‵ (fobs γ (coded h)) ∷ ‵ (fauth γ (coded h)) ∷ Γ) G)
        → Seq K 𝓛 (‵ (fobs γ (coded h)) ∷ ‵ (fbor κ (Behind b o γ)) ∷ ‵ (flft κ q) ∷ Γ) G
    opens-head t z h b o k =
        opens t z T.the_row {h = h} b o (λ vs. spelt t T.the_row (Is T.the_row) (shows 𝓛 T.the_row) (LL.vals T.the_type T'.the_laws)
        (LL.tells T.the_type T'.the_laws) full_share h vs b o $
        move t (1 ∷ []) $ facts t T.the_row (Is T.the_row) (shows 𝓛 T.the_row) h (machine h ∷ []) (λ is. k (fits h is)))

    pub closes-head : K → Soaks G → {κ : Lft} {q : Share} {γ : GName} {u v : Gv} (h : Head) (b o : ℕ) → Fits h
        → Step K 𝓛 (‵ (fobs γ (coded h)) ∷ ‵ (fbor κ (Behind b o γ)) ∷ ‵ (flft κ q) ∷ Γ) G (‵ (cell_at full_share (T.the_row).mir
        (machine h ∷ []) b o) ∷ ‵ (fobor κ q (Behind b o γ)) ∷ ‵ (fobs γ u) ∷ ‵ (fauth γ v) ∷ Γ) G
    closes-head t z h b o f =
        step (λ s. owned t T.the_row (Is T.the_row) (LL.makes T.the_type T'.the_plain 𝓛) h _ (made h f) $ move t (1 ∷ 0 ∷ []) $
        closes t z T.the_row h (machine h ∷ []) b o $ s)

    -- a head that lies in a local is that local's cell
    stands : K → (h : Head) (l : ℕ) → (IsHead h → Seq K 𝓛 (‵ (fat full_share T'.mir l 0 (machine h)) ∷ Γ) G)
        → Seq K 𝓛 (‵ (part_at T.the_row full_share h l 0) ∷ Γ) G
    unfolding part_of
    stands t h l k =
        fpick t (λ vs. fsplit t $
        spelt t T.the_row (Is T.the_row) (shows 𝓛 T.the_row) (LL.vals T.the_type T'.the_laws) (LL.tells T.the_type T'.the_laws) full_share h vs l 0 $
        move t (1 ∷ []) $ facts t T.the_row (Is T.the_row) (shows 𝓛 T.the_row) h (machine h ∷ []) (λ is.
        use1 𝓛 (‵ (fat full_share T'.mir l 0 (machine h))) (𝓛.laws.raw_at full_share T'.mir l 0 (machine h)) $ k is))

  module _ {E : Env 𝓤 H} {C : Calls 𝓤 H} {Λ : Loops 𝓤 H} {f : Callee} {xs : List Operand} {d : Place} {rest : Code} {q : Post 𝓤 H} where
    -- ── a call on numbers ──────────────────────────────────────────────────────────────────────

    pub calls-covered : K → FmC 𝓤 H 𝓛.laws C → (c : Contract 𝓤) → Triple 𝓤 (C f) c → (x : c.Ghost) → ent 𝓤 (emp 𝓤) (c.pre x)
        → (R : RattleType) (φ : R.Denot → Type 0) (D : Ended) (κs : Lfts D.signature.lifetimes) (a : Args D.signature κs)
        → ((v : Val) → ent 𝓤 (c.post x v) (mean 𝓛 (Answer 𝓤 R φ D κs a v)))
        → Opds K 𝓛 (raw (c.pre x) ∷ Γ) E xs (c.args x)
        → ((v : Val) (r : R.Denot) → φ r → Is R r (v ∷ []) → Seq K 𝓛 Γ (lands C Λ E d v rest q))
        → Seq K 𝓛 Γ (runs C Λ E (seq (call f xs d) rest) q)
    calls-covered t fm c met x asks R φ D κs a answers os k =
        use0 𝓛 (raw (c.pre x)) asks $ calls_at t fm c met x os (λ v. use1 𝓛 (Answer 𝓤 R φ D κs a v) (answers v) $ await t tt $
        pick t (λ r. split t $ move t (1 ∷ []) $ pick t (λ ws. split t $ drop t $ heard t (φ r) (λ e. split t $ drop t $
        facts t R (Is R) (shows 𝓛 R) r (v ∷ []) (k v r e)))))

    -- ── a call to which a local head is lent ───────────────────────────────────────────────────

    pub calls-lending : K → FmC 𝓤 H 𝓛.laws C → (l : ℕ) (h : Head) → IsHead h → (c : Contract 𝓤) → Triple 𝓤 (C f) c → (x : ℕ → GName → c.Ghost)
        → ((ν : ℕ) (γ : GName) → ent 𝓤 (sep 𝓤 (A.lft (ν ∷ []) full_share) (sem 𝓛 (Lent (ν ∷ []) (to-local l γ h)))) (c.pre (x ν γ)))
        → (R : RattleType) (φ : R.Denot → Head → Type 0) (X : Type 0) (others : Fml)
        → ((ν : ℕ) (γ : GName) (v : Val) → ent 𝓤 (c.post (x ν γ) v) (mean 𝓛 (AnswerLent 𝓤 R φ X others ν γ v)))
        → ((ν : ℕ) (γ : GName) → Opds K 𝓛 (raw (c.pre (x ν γ)) ∷ ‵ (flent (ν ∷ []) (Behind l 0 γ)) ∷ Γ) E xs (c.args (x ν γ)))
        → ((v : Val) (r : R.Denot) (h' : Head) → φ r h' → Is R r (v ∷ []) → IsHead h'
        → Seq K 𝓛 (‵ (fat full_share T'.mir l 0 (machine h')) ∷ Γ) (lands C Λ E d v rest q))
        → Seq K 𝓛 (‵ (fat full_share T'.mir l 0 (machine h)) ∷ Γ) (runs C Λ E (seq (call f xs d) rest) q)
    calls-lending t fm l h is c met x asks R φ X others answers os k =
        use1 𝓛 (‵ (part_at T.the_row full_share h l 0)) (lies 𝓛 h l is) $ lft_new t tt (λ ν. move t (1 ∷ []) $
        use1 𝓛 (later (some (λ (γ : GName). ‵ (Lent (ν ∷ []) (to-local l γ h)) ⊛ ‵ (flent (ν ∷ []) (Behind l 0 γ)))))
        (lends_ref 𝓛 T.the_row (named 0) (ν ∷ []) h l 0) $
        await t tt $ pick t (λ γ. split t $ move t (2 ∷ 0 ∷ []) $ use2 𝓛 (raw (c.pre (x ν γ))) (asks ν γ) $ calls_at t fm c met (x ν γ) (os ν γ) (λ v.
        use1 𝓛 (AnswerLent 𝓤 R φ X others ν γ v) (answers ν γ v) $ await t tt $ pick t (λ r. split t $ move t (1 ∷ []) $ pick t (λ ws. split t $
        move t (1 ∷ []) $ heard t (φ r ws.0) (λ e. fsplit t $ move t (1 ∷ []) $ drop t $ move t (1 ∷ []) $ split t $ move t (1 ∷ []) $
        facts t R (Is R) (shows 𝓛 R) r (v ∷ []) (λ is'.
        -- [the token; its last value; the lender's part]: the lifetime is ended, and the local is taken back
        split t $ lft_end t tt $ move t (0 ∷ 3 ∷ 2 ∷ []) $
        use3 𝓛 (later (‵ (part_at T.the_row full_share ws.0 l 0))) (ref_back 𝓛 T.the_row (ν ∷ []) γ ws.0 l 0) $ await t tt $
        move t (1 ∷ []) $ drop t $
        stands t ws.0 l (λ was. k v r ws.0 e is' was))))))))
