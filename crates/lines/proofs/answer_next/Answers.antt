-- `lines::answer_next`: the digits at the front hold no line feed, so the one found behind them ends the first line (`first-line`). Where it stands right behind
-- them the line is their frame, and further on none; FirstLine.antt has each fact, and makes the answer to the line the answer to the input.
use mathlib.Core.Path.{◌≡◌, refl, sym, subst, ap, ◌∙◌}
use mathlib.Core.Logic.{inl}
use mathlib.Core.Option.{none}
use mathlib.Core.List.{List}
use Prim.Native.Nat.{ℕ, ◌+◌, ◌≤◌, ◌<◌}
use native.Mathlib.Omega.{arith}
use lib.ListN.{length, take, drop}
use lib.Seq.{length-take-le}
use Rattle.std.specs.Prelude.{Some}
use Rattle.rules.specs.Frames.{longest_line, operation_of_frame, operation_of_line}
use Rattle.digits.specs.Decoding.{FrontDecoded}
use Rattle.lines.specs.Batching.{IsLine, FirstFeed, FirstLine, PromisesNext}
use Rattle.lines.proofs.FirstLine.{first-line, no_line, front-line, is-frame, no_frame, told-answered, told-stopped}
use Rattle.lines.proofs.answer_next.Goals as goal

pub slice_bounds-front_bytes-end : goal.slice_bounds-front_bytes-end
slice_bounds-front_bytes-end c = sym (length-take-le c.front_limit-limit.result c.args.input.now c.front_limit-limit.ensures.0)

pub front_bytes-size-requires : goal.front_bytes-size-requires
front_bytes-size-requires c =
    omega (arith, length-take-le c.front_limit-limit.result c.args.input.now c.front_limit-limit.ensures.0, c.front_limit-limit.ensures.1, c.requires.1)

pub line_end-requires : goal.line_end-requires
line_end-requires c =
    omega (arith, c.front_bytes-size.ensures.within, length-take-le c.front_limit-limit.result c.args.input.now c.front_limit-limit.ensures.0, c.front_limit-limit.ensures.0)

-- the line feed found ends the first line; what stands in front of it is a frame, or none
module _ (input : List ℕ) {limit : ℕ} (limited : (limit ≤ length input) × (limit ≤ longest_line) × ((end : ℕ) → end ≤ length input → end ≤ longest_line → end ≤ limit))
    {before bytes : List ℕ} {size : ℕ} (front : FrontDecoded (take limit input) before bytes size) where
  none-found : IsLine (drop (size + size) input) → IsLine input
  none-found = no_line input (size + size) (front-line input limit limited.0 front)

  module _ {end : ℕ} (found : FirstFeed input (size + size) (Some end)) where
    first : FirstLine input end
    first = first-line input (size + size) (front-line input limit limited.0 front) end found

    longer : size + size < end → operation_of_line (take end input) ≡ none
    longer behind = no_frame input limit limited.0 front limited.2 end behind (omega (arith, first.inside))

    frame : end ≤ size + size → operation_of_line (take end input) ≡ operation_of_frame (take size bytes)
    frame here = let same : end ≡ size + size = omega (arith, found.0) in ap (λ n. operation_of_line (take n input)) same ∙ is-frame input limit limited.0 front

pub returns-in_err-end-clause-answered : goal.returns-in_err-end-clause-answered
returns-in_err-end-clause-answered c =
    subst (PromisesNext c.args.input.now c.args.room.now c.args.room.now c.args.output.now c.args.output.now) (sym c.from_residual.ensures)
    (λ l is. (refl, refl, inl (none-found c.args.input.now c.front_limit-limit.ensures c.front_bytes-size.ensures c.in_err-end.ensures)))

pub returns-in_err-size-clause-answered : goal.returns-in_err-size-clause-answered
returns-in_err-size-clause-answered c =
    let found = c.in_ok-end.ensures in
    told-stopped c.args.input.now c.args.room.now c.args.room.now c.args.output.now c.answer_no_frame.new.output
    (first c.args.input.now c.front_limit-limit.ensures c.front_bytes-size.ensures found)
    (longer c.args.input.now c.front_limit-limit.ensures c.front_bytes-size.ensures found c.if-from-end.true)
    c.from_residual-in_err-size.ensures (c.in_err-size.ensures c.args.room.now)

pub returns-in_err-size-2-clause-answered : goal.returns-in_err-size-2-clause-answered
returns-in_err-size-2-clause-answered c =
    let found = c.in_ok-end.ensures in
    told-stopped c.args.input.now c.args.room.now c.answer_frame.new.room c.args.output.now c.answer_frame.new.output
    (first c.args.input.now c.front_limit-limit.ensures c.front_bytes-size.ensures found)
    (frame c.args.input.now c.front_limit-limit.ensures c.front_bytes-size.ensures found c.if-from-end.false)
    c.from_residual-in_err-size-2.ensures c.in_err-size-2.ensures

pub returns-in_ok-size : goal.returns-in_ok-size
returns-in_ok-size c =
    let found = c.in_ok-end.ensures in
    let first-found = first c.args.input.now c.front_limit-limit.ensures c.front_bytes-size.ensures found in record {
      found = first-found;
      answered =
          told-answered c.args.input.now c.args.room.now c.args.room.now c.args.output.now c.answer_no_frame.new.output first-found
          (longer c.args.input.now c.front_limit-limit.ensures c.front_bytes-size.ensures found c.if-from-end.true)
          (c.in_ok-size.ensures c.args.room.now);
    }

pub returns-in_ok-size-2 : goal.returns-in_ok-size-2
returns-in_ok-size-2 c =
    let found = c.in_ok-end.ensures in
    let first-found = first c.args.input.now c.front_limit-limit.ensures c.front_bytes-size.ensures found in record {
      found = first-found;
      answered =
          told-answered c.args.input.now c.args.room.now c.answer_frame.new.room c.args.output.now c.answer_frame.new.output first-found
          (frame c.args.input.now c.front_limit-limit.ensures c.front_bytes-size.ensures found c.if-from-end.false)
          c.in_ok-size-2.ensures;
    }
