use Rattle.std.proofs.Common.{◌≡◌, ◌++◌, drop, true}
use Rattle.rdb_schema.specs.Values.{leaf_holds}
use Rattle.rdb_schema.specs.Types.{all_pairs}
use Rattle.rdb_schema.specs.Proper.{EachIs, IsProperLeaf}
use Rattle.rdb_schema.specs.Encoding.{leaves_bytes}
use Rattle.rdb_access.proofs.encode.append_leaves.Given as goal

-- what is written and the bytes of the leaves that are left are those of all
abbrev pub invariant-loop-at : goal.invariant-loop-at
invariant-loop-at l = record {
  written : l.out ++ leaves_bytes (drop l.at l.types) (drop l.at l.leaves) ≡ l.initial.out ++ leaves_bytes l.types l.leaves;
  left : all_pairs leaf_holds (drop l.at l.types) (drop l.at l.leaves) ≡ true;
  proper : EachIs IsProperLeaf (drop l.at l.leaves) → EachIs IsProperLeaf l.leaves;
}
