-- Nobody is connected.
use Rattle.std.proofs.Common.{map, arith}
use Rattle.rdb_registry.proofs.KeptLemmas.{kept_none}
use Rattle.rdb_registry.proofs.registry.Registry.new.Goals as goal

pub invariant_of-result : goal.invariant_of-result
invariant_of-result c =
    rw c.new.ensures
    (kept_none c.in_ok-free_slots.field-0.items c.in_ok-vec.field-0.items (map (λ row. row.items) c.in_ok-unspent.field-0.items) c.args.classes c.in_ok-free_slots.ensures.0 c.in_ok-free_slots.ensures.1
    (let len = c.in_ok-vec.ensures.len in let ok = c.in_ok-vec.field-0.ok.0 in omega arith) c.requires c.in_ok-unspent.ensures)
