-- `answer_bytes::write_proof`: `opening`, and `value-behind` of Parts.antt for both totals and the last byte.
use mathlib.Core.Path.{◌∙◌}
use Rattle.answer_bytes.proofs.Parts.{byte-is, value-behind}
use Rattle.answer_bytes.proofs.Opening.{opening}
use Rattle.answer_bytes.proofs.write_proof.Goals as goal

pub returns : goal.returns
returns c v w x y z s is-version is-accounts is-active is-initial is-committed is-proved =
    let a = c.args in
    let words = opening a.version a.accounts a.active is-version is-accounts is-active (c.write_three_words.ensures v w x is-version is-accounts is-active) in
    let initial = value-behind words 8 _ y is-initial c.write8.ensures in
    let committed = value-behind initial 8 _ z is-committed c.write8-2.ensures in
    value-behind committed 1 _ s is-proved (c.write1.ensures ∙ byte-is a.proved)

pub write8-requires : goal.write8-requires
write8-requires c = c.write8-arg-1.given.2

pub write8-requires-2 : goal.write8-requires-2
write8-requires-2 c = c.write8-arg-2-1.given.2

pub write1-requires : goal.write1-requires
write1-requires c = c.write1-arg-1.given.2
