-- `answer_bytes::write_number`: `number-written` of Parts.antt at the part that holds the number.
use Rattle.answer_bytes.proofs.Parts.{number-written}
use Rattle.answer_bytes.proofs.write_number.Goals as goal

pub returns : goal.returns
returns c = number-written c.write1.ensures
