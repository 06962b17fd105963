use Rattle.rdb_cursor.proofs.refusals.refusal.Given as goal

-- the ledger is that of the blank
abbrev pub ghosts-clash : goal.ghosts-clash
ghosts-clash g a = record { name = a.blank.name; parts = a.blank.parts }
