-- The objects without one are in order.
use Rattle.std.proofs.Common.{◌<◌, [], length, ap, arith}
use Rattle.std.proofs.lemmas.List.{get_or_read}
use Rattle.rdb_model.proofs.OrderedLemmas.{object_gone_in_order}
use Rattle.rdb_model.proofs.db.Db.delete.Goals as goal

pub invariant_of-self-2 : goal.invariant_of-self-2
invariant_of-self-2 c =
    let db = c.self.inside.classes.items in
    let within : c.args.class < length db = omega (arith, c.requires.class, ap length c.self.view_is) in
    object_gone_in_order db c.args.class c.args.id c.index_mut-objects.result.now c.remove.new.self c.self.invariant (get_or_read db c.args.class c.index_mut-objects.result.now within c.index_mut-objects.ensures.value []) c.remove.ensures
