-- `answer_bytes::write_three_words`: `number-written`, and `value-behind` three times (Parts.antt). With so many parts search does not find their lengths: the
-- making of a part gives each.
use Rattle.answer_bytes.proofs.Parts.{number-written, value-behind}
use Rattle.answer_bytes.proofs.write_three_words.Goals as goal

pub returns : goal.returns
returns c v w x first second third =
    let one = value-behind (number-written c.write1.ensures) 8 _ v first c.write8.ensures in
    let two = value-behind one 8 _ w second c.write8-2.ensures in
    value-behind two 8 _ x third c.write8-3.ensures

pub write1-requires : goal.write1-requires
write1-requires c = c.write1-arg-1.given.2

pub write8-requires : goal.write8-requires
write8-requires c = c.write8-arg-1.given.2

pub write8-requires-2 : goal.write8-requires-2
write8-requires-2 c = c.write8-arg-2-1.given.2

pub write8-requires-3 : goal.write8-requires-3
write8-requires-3 c = c.write8-arg-3-1.given.2
