use Rattle.std.proofs.Common.{sym, ◌∙◌}
use borrow.Author.Tests.{eqb-true, eqb-false}
use Rattle.rdb_cells.specs.Keys.{says}
use Rattle.rdb_cells.specs.Work.{work, reading}
use Rattle.rdb_tree.specs.Order.{is_before}
use Rattle.rdb_tree.specs.Trees.{root_of}
use Rattle.rdb_tree.proofs.HeadLemmas.{root_read}
use Rattle.rdb_tree.proofs.LevelLemmas.{tree_rooted}
use Rattle.rdb_tree.proofs.PutLemmas.{root_free, root_places, tree_levels, way_down, ends_in_place, ends_alone, ends_above}
use Rattle.rdb_tree.proofs.insert.put.Goals as goal

pub descend-requires-clause-rooted : goal.descend-requires-clause-rooted
descend-requires-clause-rooted g c =
    (c.requires.standing.2.tree, tree_rooted c.args.tree.now.head.number (says (g.K.Keys.meaning c.args.keys.now) (reading (work g.C.Cells c.args.cells.now))) (reading (work g.C.Cells c.args.cells.now)) c.requires.standing.0 c.requires.standing.1 c.requires.standing.2 c.root_in-root.result (root_read (reading (work g.C.Cells c.args.cells.now)) c.args.tree.now.head.number (root_of c.requires.standing.2.tree) c.root_in-root.result c.planned.result.now c.requires.standing.2.leads c.planned.ensures.planned c.root_in-root.ensures))

pub climb-requires-clause-way : goal.climb-requires-clause-way
climb-requires-clause-way g c =
    ((is_before (says (g.K.Keys.meaning c.args.keys.now) (reading (work g.C.Cells c.args.cells.now))) c.args.version), c.requires.standing.2.tree, (way_down (work g.C.Cells c.args.cells.now) c.args.tree.now.head (says (g.K.Keys.meaning c.args.keys.now) (reading (work g.C.Cells c.args.cells.now))) c.args.version c.requires.standing.0 c.requires.standing.1 c.requires.standing.2 c.root_in-root.result (root_read (reading (work g.C.Cells c.args.cells.now)) c.args.tree.now.head.number (root_of c.requires.standing.2.tree) c.root_in-root.result c.planned.result.now c.requires.standing.2.leads c.planned.ensures.planned c.root_in-root.ensures) c.requires.version c.new-path.result.items c.descend.new.path.items c.new-path.ensures.items (c.descend.ensures.way c.requires.standing.2.tree (tree_rooted c.args.tree.now.head.number (says (g.K.Keys.meaning c.args.keys.now) (reading (work g.C.Cells c.args.cells.now))) (reading (work g.C.Cells c.args.cells.now)) c.requires.standing.0 c.requires.standing.1 c.requires.standing.2 c.root_in-root.result (root_read (reading (work g.C.Cells c.args.cells.now)) c.args.tree.now.head.number (root_of c.requires.standing.2.tree) c.root_in-root.result c.planned.result.now c.requires.standing.2.leads c.planned.ensures.planned c.root_in-root.ensures)))))

pub returns-in_default-clause-put : goal.returns-in_default-clause-put
returns-in_default-clause-put g c =
    λ listed nodes is. ends_in_place (work g.C.Cells c.args.cells.now) c.args.tree.now.head (says (g.K.Keys.meaning c.args.keys.now) (reading (work g.C.Cells c.args.cells.now))) c.args.version listed nodes is c.root_in-root.result (root_read (reading (work g.C.Cells c.args.cells.now)) c.args.tree.now.head.number (root_of is.tree) c.root_in-root.result c.planned.result.now is.leads c.planned.ensures.planned c.root_in-root.ensures) (work g.C.Cells c.climb.new.cells) (c.in_default.ensures.climbs (is_before (says (g.K.Keys.meaning c.args.keys.now) (reading (work g.C.Cells c.args.cells.now))) c.args.version) is.tree (way_down (work g.C.Cells c.args.cells.now) c.args.tree.now.head (says (g.K.Keys.meaning c.args.keys.now) (reading (work g.C.Cells c.args.cells.now))) c.args.version listed nodes is c.root_in-root.result (root_read (reading (work g.C.Cells c.args.cells.now)) c.args.tree.now.head.number (root_of is.tree) c.root_in-root.result c.planned.result.now is.leads c.planned.ensures.planned c.root_in-root.ensures) c.requires.version c.new-path.result.items c.descend.new.path.items c.new-path.ensures.items (c.descend.ensures.way is.tree (tree_rooted c.args.tree.now.head.number (says (g.K.Keys.meaning c.args.keys.now) (reading (work g.C.Cells c.args.cells.now))) (reading (work g.C.Cells c.args.cells.now)) listed nodes is c.root_in-root.result (root_read (reading (work g.C.Cells c.args.cells.now)) c.args.tree.now.head.number (root_of is.tree) c.root_in-root.result c.planned.result.now is.leads c.planned.ensures.planned c.root_in-root.ensures)))))

pub grow-requires-clause-free : goal.grow-requires-clause-free
grow-requires-clause-free g c =
    root_free (work g.C.Cells c.args.cells.now) (work g.C.Cells c.climb.new.cells) (is_before (says (g.K.Keys.meaning c.args.keys.now) (reading (work g.C.Cells c.args.cells.now))) c.args.version) c.args.version c.requires.standing.2.tree c.in-Some.raised (tree_levels (work g.C.Cells c.args.cells.now) c.args.tree.now.head (says (g.K.Keys.meaning c.args.keys.now) (reading (work g.C.Cells c.args.cells.now))) c.args.version c.requires.standing.0 c.requires.standing.1 c.requires.standing.2 c.root_in-root.result (root_read (reading (work g.C.Cells c.args.cells.now)) c.args.tree.now.head.number (root_of c.requires.standing.2.tree) c.root_in-root.result c.planned.result.now c.requires.standing.2.leads c.planned.ensures.planned c.root_in-root.ensures)) (c.in-Some.ensures.climbs (is_before (says (g.K.Keys.meaning c.args.keys.now) (reading (work g.C.Cells c.args.cells.now))) c.args.version) c.requires.standing.2.tree (way_down (work g.C.Cells c.args.cells.now) c.args.tree.now.head (says (g.K.Keys.meaning c.args.keys.now) (reading (work g.C.Cells c.args.cells.now))) c.args.version c.requires.standing.0 c.requires.standing.1 c.requires.standing.2 c.root_in-root.result (root_read (reading (work g.C.Cells c.args.cells.now)) c.args.tree.now.head.number (root_of c.requires.standing.2.tree) c.root_in-root.result c.planned.result.now c.requires.standing.2.leads c.planned.ensures.planned c.root_in-root.ensures) c.requires.version c.new-path.result.items c.descend.new.path.items c.new-path.ensures.items (c.descend.ensures.way c.requires.standing.2.tree (tree_rooted c.args.tree.now.head.number (says (g.K.Keys.meaning c.args.keys.now) (reading (work g.C.Cells c.args.cells.now))) (reading (work g.C.Cells c.args.cells.now)) c.requires.standing.0 c.requires.standing.1 c.requires.standing.2 c.root_in-root.result (root_read (reading (work g.C.Cells c.args.cells.now)) c.args.tree.now.head.number (root_of c.requires.standing.2.tree) c.root_in-root.result c.planned.result.now c.requires.standing.2.leads c.planned.ensures.planned c.root_in-root.ensures))))) c.requires.free

pub grow-requires-clause-places : goal.grow-requires-clause-places
grow-requires-clause-places g c =
    root_places (work g.C.Cells c.args.cells.now) (work g.C.Cells c.climb.new.cells) (is_before (says (g.K.Keys.meaning c.args.keys.now) (reading (work g.C.Cells c.args.cells.now))) c.args.version) c.args.version c.requires.standing.2.tree c.in-Some.raised (tree_levels (work g.C.Cells c.args.cells.now) c.args.tree.now.head (says (g.K.Keys.meaning c.args.keys.now) (reading (work g.C.Cells c.args.cells.now))) c.args.version c.requires.standing.0 c.requires.standing.1 c.requires.standing.2 c.root_in-root.result (root_read (reading (work g.C.Cells c.args.cells.now)) c.args.tree.now.head.number (root_of c.requires.standing.2.tree) c.root_in-root.result c.planned.result.now c.requires.standing.2.leads c.planned.ensures.planned c.root_in-root.ensures)) (c.in-Some.ensures.climbs (is_before (says (g.K.Keys.meaning c.args.keys.now) (reading (work g.C.Cells c.args.cells.now))) c.args.version) c.requires.standing.2.tree (way_down (work g.C.Cells c.args.cells.now) c.args.tree.now.head (says (g.K.Keys.meaning c.args.keys.now) (reading (work g.C.Cells c.args.cells.now))) c.args.version c.requires.standing.0 c.requires.standing.1 c.requires.standing.2 c.root_in-root.result (root_read (reading (work g.C.Cells c.args.cells.now)) c.args.tree.now.head.number (root_of c.requires.standing.2.tree) c.root_in-root.result c.planned.result.now c.requires.standing.2.leads c.planned.ensures.planned c.root_in-root.ensures) c.requires.version c.new-path.result.items c.descend.new.path.items c.new-path.ensures.items (c.descend.ensures.way c.requires.standing.2.tree (tree_rooted c.args.tree.now.head.number (says (g.K.Keys.meaning c.args.keys.now) (reading (work g.C.Cells c.args.cells.now))) (reading (work g.C.Cells c.args.cells.now)) c.requires.standing.0 c.requires.standing.1 c.requires.standing.2 c.root_in-root.result (root_read (reading (work g.C.Cells c.args.cells.now)) c.args.tree.now.head.number (root_of c.requires.standing.2.tree) c.root_in-root.result c.planned.result.now c.requires.standing.2.leads c.planned.ensures.planned c.root_in-root.ensures))))) c.requires.places

pub grow-requires-2-clause-free : goal.grow-requires-2-clause-free
grow-requires-2-clause-free g c =
    root_free (work g.C.Cells c.args.cells.now) (work g.C.Cells c.climb.new.cells) (is_before (says (g.K.Keys.meaning c.args.keys.now) (reading (work g.C.Cells c.args.cells.now))) c.args.version) c.args.version c.requires.standing.2.tree c.in-Some.raised (tree_levels (work g.C.Cells c.args.cells.now) c.args.tree.now.head (says (g.K.Keys.meaning c.args.keys.now) (reading (work g.C.Cells c.args.cells.now))) c.args.version c.requires.standing.0 c.requires.standing.1 c.requires.standing.2 c.root_in-root.result (root_read (reading (work g.C.Cells c.args.cells.now)) c.args.tree.now.head.number (root_of c.requires.standing.2.tree) c.root_in-root.result c.planned.result.now c.requires.standing.2.leads c.planned.ensures.planned c.root_in-root.ensures)) (c.in-Some.ensures.climbs (is_before (says (g.K.Keys.meaning c.args.keys.now) (reading (work g.C.Cells c.args.cells.now))) c.args.version) c.requires.standing.2.tree (way_down (work g.C.Cells c.args.cells.now) c.args.tree.now.head (says (g.K.Keys.meaning c.args.keys.now) (reading (work g.C.Cells c.args.cells.now))) c.args.version c.requires.standing.0 c.requires.standing.1 c.requires.standing.2 c.root_in-root.result (root_read (reading (work g.C.Cells c.args.cells.now)) c.args.tree.now.head.number (root_of c.requires.standing.2.tree) c.root_in-root.result c.planned.result.now c.requires.standing.2.leads c.planned.ensures.planned c.root_in-root.ensures) c.requires.version c.new-path.result.items c.descend.new.path.items c.new-path.ensures.items (c.descend.ensures.way c.requires.standing.2.tree (tree_rooted c.args.tree.now.head.number (says (g.K.Keys.meaning c.args.keys.now) (reading (work g.C.Cells c.args.cells.now))) (reading (work g.C.Cells c.args.cells.now)) c.requires.standing.0 c.requires.standing.1 c.requires.standing.2 c.root_in-root.result (root_read (reading (work g.C.Cells c.args.cells.now)) c.args.tree.now.head.number (root_of c.requires.standing.2.tree) c.root_in-root.result c.planned.result.now c.requires.standing.2.leads c.planned.ensures.planned c.root_in-root.ensures))))) c.requires.free

pub grow-requires-2-clause-places : goal.grow-requires-2-clause-places
grow-requires-2-clause-places g c =
    root_places (work g.C.Cells c.args.cells.now) (work g.C.Cells c.climb.new.cells) (is_before (says (g.K.Keys.meaning c.args.keys.now) (reading (work g.C.Cells c.args.cells.now))) c.args.version) c.args.version c.requires.standing.2.tree c.in-Some.raised (tree_levels (work g.C.Cells c.args.cells.now) c.args.tree.now.head (says (g.K.Keys.meaning c.args.keys.now) (reading (work g.C.Cells c.args.cells.now))) c.args.version c.requires.standing.0 c.requires.standing.1 c.requires.standing.2 c.root_in-root.result (root_read (reading (work g.C.Cells c.args.cells.now)) c.args.tree.now.head.number (root_of c.requires.standing.2.tree) c.root_in-root.result c.planned.result.now c.requires.standing.2.leads c.planned.ensures.planned c.root_in-root.ensures)) (c.in-Some.ensures.climbs (is_before (says (g.K.Keys.meaning c.args.keys.now) (reading (work g.C.Cells c.args.cells.now))) c.args.version) c.requires.standing.2.tree (way_down (work g.C.Cells c.args.cells.now) c.args.tree.now.head (says (g.K.Keys.meaning c.args.keys.now) (reading (work g.C.Cells c.args.cells.now))) c.args.version c.requires.standing.0 c.requires.standing.1 c.requires.standing.2 c.root_in-root.result (root_read (reading (work g.C.Cells c.args.cells.now)) c.args.tree.now.head.number (root_of c.requires.standing.2.tree) c.root_in-root.result c.planned.result.now c.requires.standing.2.leads c.planned.ensures.planned c.root_in-root.ensures) c.requires.version c.new-path.result.items c.descend.new.path.items c.new-path.ensures.items (c.descend.ensures.way c.requires.standing.2.tree (tree_rooted c.args.tree.now.head.number (says (g.K.Keys.meaning c.args.keys.now) (reading (work g.C.Cells c.args.cells.now))) (reading (work g.C.Cells c.args.cells.now)) c.requires.standing.0 c.requires.standing.1 c.requires.standing.2 c.root_in-root.result (root_read (reading (work g.C.Cells c.args.cells.now)) c.args.tree.now.head.number (root_of c.requires.standing.2.tree) c.root_in-root.result c.planned.result.now c.requires.standing.2.leads c.planned.ensures.planned c.root_in-root.ensures))))) c.requires.places

pub returns-then-eq-clause-put : goal.returns-then-eq-clause-put
returns-then-eq-clause-put g c =
    λ listed nodes is. ends_alone (work g.C.Cells c.args.cells.now) c.args.tree.now.head (says (g.K.Keys.meaning c.args.keys.now) (reading (work g.C.Cells c.args.cells.now))) c.args.version listed nodes is c.root_in-root.result (root_read (reading (work g.C.Cells c.args.cells.now)) c.args.tree.now.head.number (root_of is.tree) c.root_in-root.result c.planned.result.now is.leads c.planned.ensures.planned c.root_in-root.ensures) (work g.C.Cells c.climb.new.cells) (work g.C.Cells c.grow.new.cells) c.in-Some.raised (eqb-true c.root_in-root.result.number 0 (sym c.eq.ensures ∙ c.if-eq.true)) (c.in-Some.ensures.climbs (is_before (says (g.K.Keys.meaning c.args.keys.now) (reading (work g.C.Cells c.args.cells.now))) c.args.version) is.tree (way_down (work g.C.Cells c.args.cells.now) c.args.tree.now.head (says (g.K.Keys.meaning c.args.keys.now) (reading (work g.C.Cells c.args.cells.now))) c.args.version listed nodes is c.root_in-root.result (root_read (reading (work g.C.Cells c.args.cells.now)) c.args.tree.now.head.number (root_of is.tree) c.root_in-root.result c.planned.result.now is.leads c.planned.ensures.planned c.root_in-root.ensures) c.requires.version c.new-path.result.items c.descend.new.path.items c.new-path.ensures.items (c.descend.ensures.way is.tree (tree_rooted c.args.tree.now.head.number (says (g.K.Keys.meaning c.args.keys.now) (reading (work g.C.Cells c.args.cells.now))) (reading (work g.C.Cells c.args.cells.now)) listed nodes is c.root_in-root.result (root_read (reading (work g.C.Cells c.args.cells.now)) c.args.tree.now.head.number (root_of is.tree) c.root_in-root.result c.planned.result.now is.leads c.planned.ensures.planned c.root_in-root.ensures))))) c.grow.ensures.root

pub returns-clause-put : goal.returns-clause-put
returns-clause-put g c =
    λ listed nodes is. ends_above (work g.C.Cells c.args.cells.now) c.args.tree.now.head (says (g.K.Keys.meaning c.args.keys.now) (reading (work g.C.Cells c.args.cells.now))) c.args.version listed nodes is c.root_in-root.result (root_read (reading (work g.C.Cells c.args.cells.now)) c.args.tree.now.head.number (root_of is.tree) c.root_in-root.result c.planned.result.now is.leads c.planned.ensures.planned c.root_in-root.ensures) (work g.C.Cells c.climb.new.cells) (work g.C.Cells c.grow-2.new.cells) c.in-Some.raised (eqb-false c.root_in-root.result.number 0 (sym c.eq.ensures ∙ c.if-eq.false)) (c.in-Some.ensures.climbs (is_before (says (g.K.Keys.meaning c.args.keys.now) (reading (work g.C.Cells c.args.cells.now))) c.args.version) is.tree (way_down (work g.C.Cells c.args.cells.now) c.args.tree.now.head (says (g.K.Keys.meaning c.args.keys.now) (reading (work g.C.Cells c.args.cells.now))) c.args.version listed nodes is c.root_in-root.result (root_read (reading (work g.C.Cells c.args.cells.now)) c.args.tree.now.head.number (root_of is.tree) c.root_in-root.result c.planned.result.now is.leads c.planned.ensures.planned c.root_in-root.ensures) c.requires.version c.new-path.result.items c.descend.new.path.items c.new-path.ensures.items (c.descend.ensures.way is.tree (tree_rooted c.args.tree.now.head.number (says (g.K.Keys.meaning c.args.keys.now) (reading (work g.C.Cells c.args.cells.now))) (reading (work g.C.Cells c.args.cells.now)) listed nodes is c.root_in-root.result (root_read (reading (work g.C.Cells c.args.cells.now)) c.args.tree.now.head.number (root_of is.tree) c.root_in-root.result c.planned.result.now is.leads c.planned.ensures.planned c.root_in-root.ensures))))) c.grow-2.ensures.root
