use Rattle.std.proofs.Common.{string_bytes, ◌++◌, ap, ◌∙◌, ◌+◌}
use Rattle.rdb_script.specs.Stream.{next_state, draw}
use Rattle.rdb_script.specs.Job.{turns}
use Rattle.rdb_script.proofs.JobLemmas.{turn_more, turns_all}
use Rattle.rdb_script.proofs.job.append_turns.Goals as goal

pub loop-turn-preserved : goal.loop-turn-preserved
loop-turn-preserved c =
    let client = c.draw-client.ensures in
    let number = c.draw-number.ensures in
    turn_more (string_bytes c.in_ok-text.text) (string_bytes c.loop-turn.text) c.loop-turn._turn c.loop-turn.stream.state c.draw-number.new.self.state (1 + c.draw-client.result) c.draw-number.result (string_bytes c.args.text ++ turns 4000 c.args.stream.state) c.loop-turn-test.true
    (ap (λ n. 1 + n) client.value) (number.value ∙ ap (draw 4) client.next) (number.next ∙ ap next_state client.next) c.in_ok-text.ensures c.loop-turn.invariant

pub returns : goal.returns
returns c = turns_all (string_bytes c.loop-turn.text) c.loop-turn._turn c.loop-turn.stream.state (string_bytes c.args.text ++ turns 4000 c.args.stream.state) c.loop-turn-test.false c.loop-turn.invariant
