-- `answer_bytes::write_word`: `number-written`, and `value-behind` it (Parts.antt).
use Rattle.answer_bytes.proofs.Parts.{number-written, value-behind}
use Rattle.answer_bytes.proofs.write_word.Goals as goal

pub returns : goal.returns
returns c v first =
    value-behind (number-written c.write1.ensures) 8 _ v first c.write8.ensures
