-- `frames::certificate_of_snapshot`: the call's answer is the rules', by its contract, and `matched` takes over what the writing promises.
use mathlib.Core.Path.{sym}
use Rattle.answer_bytes.proofs.Arms.{matched}
use Rattle.frames.proofs.certificate_of_snapshot.Goals as goal

pub returns : goal.returns
returns c s e = matched (sym (c.of_supplied.ensures s e)) c.write_answer.ensures
