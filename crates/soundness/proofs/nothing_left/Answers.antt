-- `soundness::nothing_left` meets its contract: what the fold joins is zero just where every number is (Joined).
use Rattle.std.proofs.Common.{◌≡◌, take}
use borrow.Author.Rules.{rules}
use Rattle.soundness.proofs.Joined.{joined_from, joins-front}
use Rattle.soundness.proofs.nothing_left.Goals as goal

pub returns : goal.returns
returns c = let joined : c.fold.result ≡ joined_from 0 (take c.args.used c.args.reserved.now) = search rules in rw joined (joins-front c.args.used c.args.reserved.now c.requires)
