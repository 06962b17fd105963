use Rattle.rdb_cells.specs.Keys.{says}
use Rattle.rdb_patricia.specs.Bits.{text_at}
use Rattle.rdb_patricia.proofs.ExactLemmas.{leaf_keyed, exact_found, exact_none}
use Rattle.rdb_patricia.proofs.PartingLemmas.{parting_none, parting_some}
use Rattle.rdb_patricia.proofs.lookup.exact.Goals as goal

pub leaf_by_text-leaf-requires : goal.leaf_by_text-leaf-requires
leaf_by_text-leaf-requires g c = (says (g.K.Keys.meaning c.args.keys.now) (g.C.Cells.image c.args.cells.now), c.requires.0, c.requires.1, c.requires.2)

pub parting_of_text-requires : goal.parting_of_text-requires
parting_of_text-requires g c =
    let said = says (g.K.Keys.meaning c.args.keys.now) (g.C.Cells.image c.args.cells.now) in
    leaf_keyed said (g.C.Cells.image c.args.cells.now) c.args.root.number c.requires.0 c.requires.1 c.requires.2 c.args.text.now c.leaf_by_text-leaf.result
    (c.leaf_by_text-leaf.ensures said c.requires.0 c.requires.1 c.requires.2)

pub returns-in-None : goal.returns-in-None
returns-in-None g c = λ trie part keyed.
    let said = says (g.K.Keys.meaning c.args.keys.now) (g.C.Cells.image c.args.cells.now) in
    exact_found said (g.C.Cells.image c.args.cells.now) c.args.root.number trie part keyed c.args.text.now c.leaf_by_text-leaf.result (c.leaf_by_text-leaf.ensures said trie part keyed)
    (parting_none (text_at said c.leaf_by_text-leaf.result.version) c.args.text.now c.parting_of_text.result c.parting_of_text.ensures.parting c.in-None.is)

pub returns-in-Some : goal.returns-in-Some
returns-in-Some g c = λ trie part keyed.
    let said = says (g.K.Keys.meaning c.args.keys.now) (g.C.Cells.image c.args.cells.now) in
    exact_none said (g.C.Cells.image c.args.cells.now) c.args.root.number trie part keyed c.args.text.now c.leaf_by_text-leaf.result (c.leaf_by_text-leaf.ensures said trie part keyed)
    (parting_some (text_at said c.leaf_by_text-leaf.result.version) c.args.text.now c.parting_of_text.result c.parting_of_text.ensures.parting _ c.in-Some.is)
