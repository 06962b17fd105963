use Rattle.rdb_cursor.proofs.replies.lookup.Given as goal

-- the ledger is that of the blank
abbrev pub ghosts-find : goal.ghosts-find
ghosts-find g a = record { name = a.blank.name; parts = a.blank.parts }

abbrev pub ghosts-next : goal.ghosts-next
ghosts-next g a = record { name = a.blank.name; parts = a.blank.parts }
