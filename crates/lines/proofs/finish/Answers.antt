-- `lines::finish`: `spell` leaves the line in front of what was behind it, and storing the line feed replaces the next character (`fed` of AnswerLines.antt).
use mathlib.Core.Path.{refl}
use Rattle.lines.proofs.AnswerLines.{fed}
use Rattle.lines.proofs.finish.Goals as goal

pub returns : goal.returns
returns c = record { end = refl; line = fed c.args.output.now c.args.size c.requires c.spell.ensures }
