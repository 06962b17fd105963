use Rattle.std.proofs.Common.{◌∷◌, ◌++◌}
use Rattle.rdb_literals.proofs.SpellingLemmas.{quoted_read, quoted_split, read_words}
use Rattle.rdb_literals.proofs.spelled.quoted_at.Goals as goal

pub returns-in-Some-2-clause-found : goal.returns-in-Some-2-clause-found
returns-in-Some-2-clause-found c =
    let pieces = c.in_ok-bytes.ensures.found in
    quoted_read c.args.text.now c.in-Some.inner.now c.in_ok-bytes.behind.now c.in-Some-after.rest.now pieces.0 c.in_ok-bytes.bytes c.in-Some-2.words c.as_slice.result.now c.in_ok-words.field-0
    c.in-Some.ensures.found pieces.2 c.in-Some-after.ensures.found pieces.1 c.as_slice.ensures c.in_ok-words.ensures.some c.in-Some-2.is

pub returns-in-Some-2-clause-exact : goal.returns-in-Some-2-clause-exact
returns-in-Some-2-clause-exact c = λ spelled words rest is e.
    let inner = c.in-Some.ensures.exact (is.0 ++ (34 ∷ rest)) (quoted_split c.args.text.now spelled is.0 rest is.1 e) in
    let pieces = c.in_ok-bytes.ensures.exact is.0 words rest is.2 inner in
    (read_words c.in-Some-2.words c.as_slice.result.now c.in_ok-bytes.bytes words c.in_ok-words.field-0 c.in_ok-words.ensures.some c.in-Some-2.is c.as_slice.ensures pieces.0, c.in-Some-after.ensures.exact rest pieces.1)
