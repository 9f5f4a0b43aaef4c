-- What a top-up carries in document 01's numbers.
use Rattle.std.specs.Prelude.{List, [], ◌∷◌}
use Rattle.rules.specs.AnswerNumbers.{Value, Amount}
use Rattle.accounts.specs.declared.ToppedUp.{ToppedUp}

-- the amount, and initial and remaining after it
abbrev pub carries_top_up : ToppedUp → List Value
carries_top_up t = Amount t.amount.0 ∷ Amount t.initial.0 ∷ Amount t.remaining.0 ∷ []
