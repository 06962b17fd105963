use Rattle.std.proofs.Common.{◌∙◌}
use Rattle.rdb_script.proofs.ScheduleLemmas.{stuck, one_more, goes_on, ends_on}
use Rattle.rdb_script.proofs.schedule_reader.schedule.Goals as goal

pub returns-in_default-item_of-clause-only : goal.returns-in_default-item_of-clause-only
returns-in_default-item_of-clause-only c = λ items h.
    stuck c.args.clients c.loop-word.items c.loop-word.rest.now c.in-Some.word.now c.in-Some.behind.now items c.in-Some.ensures.some
    (λ i is e. let none = c.in_default-item_of.ensures.exact i is e in cc) (c.loop-word.invariant.on items h)

pub loop-word-preserved : goal.loop-word-preserved
loop-word-preserved c =
    let found = c.in-Some-item_of.ensures in
    rw c.in_ok-push.ensures.ok (record {
      read = one_more c.args.clients c.args.text.now c.loop-word.items c.loop-word.rest.now c.in-Some.word.now c.in-Some.behind.now c.in-Some-item_of.item c.loop-word.invariant.read c.in-Some.ensures.some found.found.0 found.found.1 (λ full. c.if-len-eq-MAX_ITEMS.false (c.len-in-Some.ensures ∙ full));
      on = λ others h. goes_on c.args.clients c.loop-word.items c.loop-word.rest.now c.in-Some.word.now c.in-Some.behind.now others c.in-Some-item_of.item c.in-Some.ensures.some found.exact (c.loop-word.invariant.on others h);
    })

pub returns-clause-only : goal.returns-clause-only
returns-clause-only c = λ items h. ends_on c.args.clients c.loop-word.items c.loop-word.rest.now items c.in_default.ensures.none (c.loop-word.invariant.on items h)
