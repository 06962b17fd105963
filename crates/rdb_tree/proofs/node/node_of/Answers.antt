use Rattle.std.proofs.Common.{◌++◌, length, refl, ◌∙◌}
use Rattle.rdb_tree.proofs.RowLemmas.{rest_blank, empty_or}
use Rattle.rdb_tree.proofs.node.node_of.Goals as goal

pub returns-clause-node : goal.returns-clause-node
returns-clause-node c =
    let versions = rest_blank 7 c.args.keys.now _ refl in
    let below = rest_blank 8 c.args.children.now _ refl in
    let leaf = c.is_empty.ensures ∙ empty_or c.args.children.now in
    λ i. record {
      count = length c.args.keys.now;
      leaf = leaf i;
      versions = c.copy_from_slice.ensures.after i ++ versions i;
      children = c.copy_from_slice-2.ensures.after i ++ below i;
    }
