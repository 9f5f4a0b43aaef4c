-- `frames::status`: the judgement is the rules' answer, by the call's contract, and `matched` takes over what the writing promises.
use mathlib.Core.Path.{sym}
use Rattle.answer_bytes.proofs.Arms.{matched}
use Rattle.frames.proofs.status.Goals as goal

pub returns : goal.returns
returns c s e = matched (sym (c.status.ensures s e)) c.write_answer.ensures
