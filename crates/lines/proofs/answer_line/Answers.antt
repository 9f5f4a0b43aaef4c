-- `lines::answer_line`: Decoded.antt says which operation the line is: none where it is too long or does not decode, and else that of its bytes. Each return is
-- the callee's promise carried along that equation.
use mathlib.Core.Path.{◌≡◌, sym, subst}
use mathlib.Core.List.{List}
use Prim.Native.Nat.{ℕ}
use lib.Seq.{length-take-le}
use Rattle.rules.specs.Frames.{bytes_of_line}
use Rattle.rules.proofs.FrameBytes.{line-as-frame, no-bytes-no-frame}
use Rattle.std.specs.Prelude.{Some}
use Rattle.lines.specs.Batching.{LineAnswered}
use Rattle.lines.proofs.Decoded.{FrontHas, front-has, has-none, too_long}
use Rattle.lines.proofs.answer_line.Lts as place
use Rattle.lines.proofs.answer_line.Tie as tie
use Rattle.lines.proofs.answer_line.Goals as goal

abbrev Start : Type 0
Start = place.Start tie.the-claims tie.handed_pre tie.handed_post

abbrev After-bytes_of_line : Type 0
After-bytes_of_line = place.After-bytes_of_line tie.the-claims tie.handed_pre tie.handed_post

module _ (c : After-bytes_of_line) where
  abbrev start : Start
  start = c.before.before.before.before.before.before.before

  abbrev line : List ℕ
  line = start.args.line.now

  abbrev work : List ℕ
  work = c.bytes_of_line.new.bytes

  front : {size : ℕ} → c.bytes_of_line.result ≡ Some size → FrontHas (bytes_of_line line) work size
  front is = front-has start.args.work.now work (bytes_of_line line) c.bytes_of_line.ensures is

pub returns-then-line-gt-LONGEST_LINE : goal.returns-then-line-gt-LONGEST_LINE
returns-then-line-gt-LONGEST_LINE c l is_lent =
    subst (λ o. LineAnswered o l c.args.room.now c.args.room.now c.args.output.now c.answer_no_frame.new.output c.answer_no_frame.result) (sym (too_long c.args.line.now c.if-line-gt-LONGEST_LINE.true))
    (c.answer_no_frame.ensures c.args.room.now l is_lent)

pub returns-in_default : goal.returns-in_default
returns-in_default c l is_lent =
    let s = start c.before.before.before.before.before.before.before.before in
    let no_bytes = has-none s.args.work.now (work c.before.before.before.before.before.before.before.before) (bytes_of_line (line c.before.before.before.before.before.before.before.before)) c.bytes_of_line.ensures c.in_default.is in
    subst (λ o. LineAnswered o l s.args.room.now s.args.room.now s.args.output.now c.answer_no_frame-in_default.new.output c.answer_no_frame-in_default.result) (sym (no-bytes-no-frame (line c.before.before.before.before.before.before.before.before) no_bytes))
    (c.answer_no_frame-in_default.ensures s.args.room.now l is_lent)

pub slice_bounds-answer_frame-end : goal.slice_bounds-answer_frame-end
slice_bounds-answer_frame-end c = (front c.before.before.before.before.before c.in-Some.is).within

pub slice_bounds-answer_frame-end-2 : goal.slice_bounds-answer_frame-end-2
slice_bounds-answer_frame-end-2 c = sym (length-take-le c.in-Some.size (work c.before.before.before.before.before) (front c.before.before.before.before.before c.in-Some.is).within)

pub returns : goal.returns
returns c l is_lent =
    let s = start c.before.before.before.before.before.before.before.before.before.before.before in
    subst (λ o. LineAnswered o l s.args.room.now c.answer_frame.new.room s.args.output.now c.answer_frame.new.output c.answer_frame.result)
    (sym (line-as-frame (line c.before.before.before.before.before.before.before.before.before.before.before) _ (front c.before.before.before.before.before.before.before.before.before.before.before c.in-Some.is).are))
    (c.answer_frame.ensures l is_lent)
