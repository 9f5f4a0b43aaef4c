-- `tables::put_head` meets its contract: one store, which `head-put` reads as a change of the contents.
use Rattle.tables.proofs.Stores.{head-put}
use Rattle.tables.proofs.put_head.Goals as goal

pub returns : goal.returns
returns c =
    let stored = c.store_head in
    head-put c.args.room.now stored.new.room c.requires c.args.head stored.ensures.fits stored.ensures.stored
