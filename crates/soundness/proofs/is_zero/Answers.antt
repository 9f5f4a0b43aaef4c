-- `soundness::is_zero` meets its contract: what the fold joins is zero just where every byte is (Joined).
use Rattle.std.proofs.Common.{◌≡◌}
use borrow.Author.Rules.{rules}
use Rattle.soundness.proofs.Joined.{joined_from, joins-all}
use Rattle.soundness.proofs.is_zero.Goals as goal

pub returns : goal.returns
returns c = let joined : c.fold.result ≡ joined_from 0 c.args.part.now = search rules in rw joined (joins-all c.args.part.now)
