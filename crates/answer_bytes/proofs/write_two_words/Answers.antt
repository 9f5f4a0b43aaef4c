-- `answer_bytes::write_two_words`: `number-written`, and `value-behind` twice (Parts.antt).
use Rattle.answer_bytes.proofs.Parts.{number-written, value-behind}
use Rattle.answer_bytes.proofs.write_two_words.Goals as goal

pub returns : goal.returns
returns c v w first second =
    let one = value-behind (number-written c.write1.ensures) 8 _ v first c.write8.ensures in
    value-behind one 8 _ w second c.write8-2.ensures
