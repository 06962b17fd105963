use Rattle.rdb_rtree.proofs.insert.+with_entry.Given as goal

abbrev pub decreases-with_entry : goal.decreases-with_entry
decreases-with_entry g l = l.level
