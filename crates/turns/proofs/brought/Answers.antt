-- `turns::brought`: while a line is passed over nothing is held, and `pass_over` takes in what was read; else it is more of what is held (`read-on` of
-- Reading.antt), as a longer part of the input (`part-longer` of Parts.antt).
use mathlib.Core.Path.{sym, subst}
use mathlib.Core.Bool.{true, false}
use mathlib.Core.List.{◌++◌}
use native.Mathlib.Omega.{arith}
use lib.ListN.{length}
use Rattle.records.specs.Rows.{row}
use Rattle.records.proofs.Rows.{span}
use Rattle.turns.specs.Turns.{held_in, Reads}
use Rattle.turns.proofs.Parts.{part-longer}
use Rattle.turns.proofs.Reading.{read-on, none-held}
use Rattle.turns.proofs.brought.Goals as goal

pub returns-then-held : goal.returns-then-held
returns-then-held c =
    let a = c.args in
    let input = a.input.now in
    let r = c.pass_over.result in record {
      within = c.pass_over.ensures.within;
      reads = λ read handed_on reads.
          let passing : Reads (length input) read handed_on true (held_in input a.held) = subst (λ p. Reads (length input) read handed_on p (held_in input a.held)) c.if-held.true reads in
          subst (λ n. Reads (length input) (read ++ row n a.held.end input) handed_on r.passing (held_in input r)) (span a.held.end a.count)
          (c.pass_over.ensures.reads read handed_on (subst (Reads (length input) read handed_on true) (none-held passing) passing));
    }

pub returns : goal.returns
returns c =
    let a = c.args in
    let input = a.input.now in
    let more = row a.count a.held.end input in record {
      within = (omega arith, c.requires.1);
      reads = λ read handed_on reads. subst (Reads (length input) (read ++ more) handed_on false) (sym (part-longer a.held.from a.held.end a.count input c.requires.0))
          (read-on more (subst (λ p. Reads (length input) read handed_on p (held_in input a.held)) c.if-held.false reads));
    }
