use Rattle.rdb_tree.proofs.remove.+take_out.Given as goal

abbrev pub decreases-take_out : goal.decreases-take_out
decreases-take_out g l = l.levels
