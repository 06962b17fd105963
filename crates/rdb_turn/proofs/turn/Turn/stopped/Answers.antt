use Rattle.rdb_turn.proofs.Passing.{saw_stopped, stopped_in_all, saw_running}
use Rattle.rdb_turn.proofs.turn.Turn.stopped.Goals as goal

pub returns-clause-true_of_owner : goal.returns-clause-true_of_owner
returns-clause-true_of_owner g c = saw_stopped g.T.Chronicle c.args.self.now _ _ c.args.client c.see.result _ c.requires.client c.see.ensures.same.1 c.see.ensures.saw

pub returns-clause-true_in_all : goal.returns-clause-true_in_all
returns-clause-true_in_all g c = stopped_in_all g.T.Chronicle c.args.self.now _ _ c.args.client c.see.result _ c.see.ensures.saw

pub returns-clause-false_of_word : goal.returns-clause-false_of_word
returns-clause-false_of_word g c = saw_running g.T.Chronicle c.args.self.now _ _ c.args.client c.see.result _ c.requires.client c.see.ensures.same.1 c.see.ensures.saw
