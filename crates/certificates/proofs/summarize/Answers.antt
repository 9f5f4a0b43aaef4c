-- `certificates::summarize` meets its contract: the stamp tells whether a snapshot can be taken, and the parts are equal one by one (Summarizing).
use Rattle.certificates.proofs.Summarizing.{rows-counted, live-counted, next-id-small, exhausted, taken}
use Rattle.certificates.proofs.summarize.Goals as goal

pub stamp-requires : goal.stamp-requires
stamp-requires c = next-id-small c.args.room.now c.requires.ledger c.requires.is_room c.load_head.result c.load_head.ensures

pub returns-in_default : goal.returns-in_default
returns-in_default c L r = exhausted c.args.room.now L r c.load_head.result c.load_head.ensures c.in_default.ensures

pub returns : goal.returns
returns c L r =
    let room = c.args.room.now in
    let rows = rows-counted L c.accounts-rows.result (c.accounts-rows.ensures L r) in
    let active = live-counted room L r c.load_sizes-sizes.result c.load_sizes-sizes.ensures in
    let totals = c.totals_of_places-totals.ensures L r in
    taken room L r c.load_head.result c.load_head.ensures c.in-Ok.head c.in-Ok.ensures _ (λ head i. record { head = head i; rows = rows i; active = active i; totals = totals i })
