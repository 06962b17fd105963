use Rattle.std.proofs.Common.{◌≡◌, true, false, rules}
use Rattle.rdb_store.specs.FirstGarbage.{is_earlier}
use Rattle.rdb_store.proofs.UnseenChains.{sooner_kept, sooner_now}
use Rattle.rdb_store.proofs.garbage.sooner.Goals as goal

pub returns-then-is_earlier : goal.returns-then-is_earlier
returns-then-is_earlier g c chain begins =
    let is : is_earlier c.args.before c.args.object.id ≡ true = search rules in
    sooner_kept c.args.floor chain c.args.object.id c.args.before is

pub returns : goal.returns
returns g c chain begins =
    let is : is_earlier c.args.before c.args.object.id ≡ false = search rules in
    rw c.or.ensures (sooner_now c.args.floor chain c.args.object.id c.args.before c.first_in_chain.result is (c.first_in_chain.ensures chain begins))
