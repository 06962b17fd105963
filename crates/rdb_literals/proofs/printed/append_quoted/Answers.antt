use Rattle.rdb_literals.proofs.Appends.{appended}
use Rattle.rdb_literals.proofs.Escapes.{escaped_more}
use Rattle.rdb_literals.proofs.printed.append_quoted.Goals as goal

pub loop-character-preserved : goal.loop-character-preserved
loop-character-preserved c =
    rw (escaped_more c.loop-character.yielded c.in-Some.character) (appended _ _ _ _ _ c.loop-character.invariant c.in_ok-text.ensures)
