use Rattle.std.proofs.Common.{◌≢◌, sym, ◌∙◌, rules}
use Rattle.std.proofs.lemmas.Bool.{ne_eqb}
use Rattle.rdb_hash.proofs.KeyTests.{same_key, other_hash}
use Rattle.rdb_hash.proofs.chain.has_the_key.Goals as goal

pub returns-then-entry-hash : goal.returns-then-entry-hash
returns-then-entry-hash g c =
    let entry = c.requires.entry in
    same_key (g.K.Keys.meaning c.args.keys.now) (g.C.Cells.image c.args.cells.now) c.args.key.now c.args.entry.now.version entry.0 entry.1 c.same.result (c.same.ensures entry.0 entry.1)

pub returns-else-entry-hash : goal.returns-else-entry-hash
returns-else-entry-hash g c =
    let entry = c.requires.entry in
    let apart : c.args.entry.now.hash ≢ c.args.hash = search rules in
    ne_eqb c.args.entry.now.hash c.args.hash apart
    ∙ sym (other_hash (g.K.Keys.meaning c.args.keys.now) (g.C.Cells.image c.args.cells.now) c.args.key.now c.args.entry.now.version entry.0 entry.1 (λ same. apart (entry.2 ∙ same ∙ sym c.requires.hash)))
