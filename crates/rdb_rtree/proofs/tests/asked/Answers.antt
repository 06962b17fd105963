use Rattle.std.proofs.Common.{Bor, subst}
use Rattle.rdb_cells.specs.Index.{LacksVersion}
use Rattle.rdb_cells.specs.Memory.{Memory, memory_image, memory_class}
use Rattle.rdb_cells.specs.OneKey.{one_meaning}
use Rattle.rdb_cells.specs.Overlays.{Laid}
use Rattle.rdb_cells.specs.Work.{Work, reading, HasLeft}
use Rattle.rdb_cells.proofs.EmptyLists.{is_fresh}
use Rattle.rdb_rtree.specs.Nature.{rtree_nature}
use Rattle.rdb_rtree.proofs.EmptyRtree.{lacks_it}
use Rattle.rdb_rtree.proofs.tests.asked.Goals as goal

-- the work of an overlay over cells in memory
abbrev over_memory : Laid (Bor Memory) → Work
over_memory o = record {
  below = memory_image o.cells.now;
  class_of = memory_class o.cells.now;
  pairs = o.plan.pairs;
  room = o.plan.room;
  class = o.class;
  taken = o.taken.number;
}

pub put_and_ask-answers-requires-clause-lacks : goal.put_and_ask-answers-requires-clause-lacks
put_and_ask-answers-requires-clause-lacks g c =
    subst (λ (o : Laid (Bor Memory)). LacksVersion (rtree_nature c.args.tree.now.class c.args.tree.now.head.number) (one_meaning c.args.keys.now.key) (reading (over_memory o)) c.args.version)
    (is_fresh c.args.cells c.args.tree.now.class c.over-overlay.result c.in_ok-plan.plan c.over-overlay.ensures c.in_ok-plan.ensures)
    (lacks_it c.args.keys.now.key (memory_image c.args.cells.now) c.args.tree.now.class c.args.tree.now.head.number c.args.version c.header_at-header.result.now c.empty_head_at.ensures c.header_at-header.ensures.held c.header_at-header.ensures.kind c.box_key.ensures)

pub put_and_ask-answers-requires-clause-free : goal.put_and_ask-answers-requires-clause-free
put_and_ask-answers-requires-clause-free g c =
    subst (λ (o : Laid (Bor Memory)). HasLeft (over_memory o) 12)
    (is_fresh c.args.cells c.args.tree.now.class c.over-overlay.result c.in_ok-plan.plan c.over-overlay.ensures c.in_ok-plan.ensures)
    c.has_room.ensures
