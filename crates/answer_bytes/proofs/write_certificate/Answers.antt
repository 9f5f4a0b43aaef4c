-- `answer_bytes::write_certificate`: `opening`, and `value-behind` of Parts.antt for each further part in turn. With so many parts search does not find their
-- lengths: the making of a part gives each.
use mathlib.Core.Path.{◌∙◌}
use Rattle.answer_bytes.proofs.Parts.{byte-is, value-behind}
use Rattle.answer_bytes.proofs.Opening.{opening}
use Rattle.answer_bytes.proofs.write_certificate.Goals as goal

pub returns : goal.returns
returns c v w x y z s t u is-version is-rows is-active is-balanced is-initial is-committed is-representable is-since =
    let a = c.args in
    let words = opening a.version a.rows a.active is-version is-rows is-active (c.write_three_words.ensures v w x is-version is-rows is-active) in
    let balanced = value-behind words 1 _ y is-balanced (c.write1.ensures ∙ byte-is a.balanced) in
    let initial = value-behind balanced 8 _ z is-initial c.write8.ensures in
    let committed = value-behind initial 8 _ s is-committed c.write8-2.ensures in
    let representable = value-behind committed 1 _ t is-representable (c.write1-2.ensures ∙ byte-is a.representable) in
    value-behind representable 8 _ u is-since c.write8-3.ensures

-- each write leaves the output as long as it was
pub shape_of-output : goal.shape_of-output
shape_of-output c =
    c.output-6-1.given.1 ∙ c.output-5-1.given.1 ∙ c.output-4-1.given.1 ∙ c.output-3-1.given.1 ∙ c.output-2-1.given.1 ∙ c.output-1.given

pub write1-requires : goal.write1-requires
write1-requires c = c.write1-arg-1.given.2

pub write8-requires : goal.write8-requires
write8-requires c = c.write8-arg-1.given.2

pub write8-requires-2 : goal.write8-requires-2
write8-requires-2 c = c.write8-arg-2-1.given.2

pub write1-requires-2 : goal.write1-requires-2
write1-requires-2 c = c.write1-arg-2-1.given.2

pub write8-requires-3 : goal.write8-requires-3
write8-requires-3 c = c.write8-arg-3-1.given.2
