use Rattle.rdb_literals.proofs.SpellingLemmas.{one_more, goes_on, ends_on}
use Rattle.rdb_literals.proofs.spelled.pieces_at.Goals as goal

pub loop-byte-preserved : goal.loop-byte-preserved
loop-byte-preserved c =
    let found = c.in-Some.ensures.found in
    rw c.in_ok-push.ensures.ok (record {
      read = one_more c.args.text.now c.loop-byte.bytes c.loop-byte.rest.now found.0 c.in-Some.behind.now c.in-Some.byte c.loop-byte.invariant.read found.1 found.2;
      on = λ spelled others after is e. goes_on c.loop-byte.bytes c.loop-byte.rest.now found.0 c.in-Some.behind.now others after c.in-Some.byte found.1 found.2 (λ other more b h e'. c.in-Some.ensures.exact other more b h e') (c.loop-byte.invariant.on spelled others after is e);
    })

pub returns-clause-exact : goal.returns-clause-exact
returns-clause-exact c = λ spelled bytes rest is e.
    ends_on c.loop-byte.bytes c.loop-byte.rest.now bytes rest (λ other more b h e'. c.in_default.ensures.exact other more b h e') (c.loop-byte.invariant.on spelled bytes rest is e)
