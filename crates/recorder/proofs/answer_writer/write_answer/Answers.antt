-- `answer_writer::write_answer`: what writing comes to is the outcome of the answer as it was judged (`rule-is` of AnswerWords.antt), so each way out is its case; a number above
-- 24 has no form (`beyond` of AnswerTable.antt).
use mathlib.Core.Path.{◌≡◌, sym, ◌∙◌}
use native.Mathlib.Omega.{arith}
use borrow.Author.Rules.{rules}
use Rattle.std.specs.Prelude.{Err}
use Rattle.numbers.proofs.Bytes.{all-bytes}
use Rattle.recorder.specs.Shapes.{kinds_of}
use Rattle.recorder.proofs.AnswerTable.{beyond, many-is-done}
use Rattle.recorder.proofs.AnswerWords.{refused, written, none_is, formless}
use Rattle.recorder.proofs.answer_writer.write_answer.Goals as goal

pub returns-then-number-gt-LAST_NUMBER : goal.returns-then-number-gt-LAST_NUMBER
returns-then-number-gt-LAST_NUMBER c =
    let args = c.args in
    none_is args.code args.words.now args.part.now args.output.now (omega arith) (beyond args.code _ c.if-number-gt-LAST_NUMBER.true)

pub returns-in_default : goal.returns-in_default
returns-in_default c =
    let args = c.args in
    none_is args.code args.words.now args.part.now args.output.now (omega arith) (formless _ c.in_default.ensures)

pub returns-in_err-judge : goal.returns-in_err-judge
returns-in_err-judge c =
    let args = c.args in
    let part = args.part.now in
    let returned : c.from_residual.result ≡ Err c.in_err-judge.field-0.0 = search rules in
    refused args.code args.words.now part args.output.now c.fits-words (all-bytes part c.type_inv.part) c.told-words c.in-Some.shape c.in-Some.ensures
    c.judge.ensures c.in_err-judge.was returned

pub write_judged-requires : goal.write_judged-requires
write_judged-requires c = record {
  passes = sym c.judge.ensures ∙ c.in_ok-judge.was;
  done = many-is-done c.args.code _ (kinds_of c.in-Some.shape) c.in-Some.ensures;
}

pub returns : goal.returns
returns c =
    let args = c.args in
    let part = args.part.now in
    written args.code args.words.now part args.output.now c.fits-words (all-bytes part c.type_inv.part) c.told-words c.in-Some.shape c.in-Some.ensures
    c.judge.ensures c.in_ok-judge.was c.write_judged.ensures
