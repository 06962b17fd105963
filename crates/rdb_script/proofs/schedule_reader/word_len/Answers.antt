use Rattle.std.proofs.Common.{arith, ap, sym, ◌∙◌, length, drop}
use Rattle.rdb_script.specs.Schedule.{separates}
use Rattle.rdb_script.proofs.ScheduleLemmas.{word_front, separated, at_end, has_bytes}
use Rattle.rdb_script.proofs.schedule_reader.word_len.Goals as goal

pub returns-then-separates-clause-word : goal.returns-then-separates-clause-word
returns-then-separates-clause-word c =
    word_front c.args.text.now c.loop-at.at (omega arith) (omega arith) c.loop-at.invariant
    (separated (drop c.loop-at.at c.args.text.now) (ap separates (sym c.split_at.ensures.back) ∙ sym c.separates.ensures ∙ c.if-separates.true))

pub returns-clause-word : goal.returns-clause-word
returns-clause-word c =
    word_front c.args.text.now (length c.args.text.now) (has_bytes c.args.text.now c.requires) (omega arith) (λ k lt. c.loop-at.invariant k (omega arith)) (at_end c.args.text.now)
