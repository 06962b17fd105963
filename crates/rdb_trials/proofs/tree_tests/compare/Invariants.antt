-- The ledger is that of the blank.
use Rattle.rdb_trials.proofs.tree_tests.compare.Given as goal

abbrev pub ghosts-lookups : goal.ghosts-lookups
ghosts-lookups g a = record { name = a.blank.name; parts = a.blank.parts }
