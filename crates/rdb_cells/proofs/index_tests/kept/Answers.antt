use Rattle.std.proofs.Common.{◌≢◌, Bor, rules, subst}
use Rattle.rdb_cells.specs.IndexCaller.{keyed, NeitherLists}
use Rattle.rdb_cells.specs.Memory.{Memory, memory_image, memory_class}
use Rattle.rdb_cells.specs.OneKey.{one_meaning}
use Rattle.rdb_cells.specs.Overlays.{Laid}
use Rattle.rdb_cells.specs.PlainList.{plain_nature}
use Rattle.rdb_cells.specs.Work.{Work, reading, HasLeft}
use Rattle.rdb_cells.proofs.EmptyLists.{nothing_listed, neither_lists, two_left, is_fresh}
use Rattle.rdb_cells.proofs.index_tests.kept.Goals as goal

-- the work of an overlay over cells in memory
abbrev over_memory : Laid (Bor Memory) → Work
over_memory o = record {
  below = memory_image o.cells.now;
  class_of = memory_class o.cells.now;
  pairs = o.plan.pairs;
  room = o.plan.room;
  class = o.class;
  taken = o.taken.number;
}

pub keep_in_second-refs-requires-clause-neither : goal.keep_in_second-refs-requires-clause-neither
keep_in_second-refs-requires-clause-neither g c =
    let apart : c.args.first.now.head.number ≢ c.args.second.now.head.number = search rules in (
      nothing_listed,
      subst (λ (o : Laid (Bor Memory)). NeitherLists (keyed (plain_nature c.args.first.now.class c.args.first.now.head.number) (one_meaning c.args.keys.now.key)) (keyed (plain_nature c.args.second.now.class c.args.second.now.head.number) (one_meaning c.args.keys.now.key)) (reading (over_memory o)) c.args.version nothing_listed)
          (is_fresh c.args.cells c.args.first.now.class c.over-overlay.result c.in_ok-plan.plan c.over-overlay.ensures c.in_ok-plan.ensures)
          (neither_lists c.args.keys.now.key (memory_image c.args.cells.now) c.args.first.now.class c.args.second.now.class c.args.first.now.head.number c.args.second.now.head.number c.args.version c.header_at-header.result.now c.empty_head_at.ensures c.empty_head_at-2.ensures apart c.header_at-header.ensures.held c.header_at-header.ensures.kind),
    )

pub keep_in_second-refs-requires-clause-free : goal.keep_in_second-refs-requires-clause-free
keep_in_second-refs-requires-clause-free g c =
    subst (λ (o : Laid (Bor Memory)). HasLeft (over_memory o) 2) (is_fresh c.args.cells c.args.first.now.class c.over-overlay.result c.in_ok-plan.plan c.over-overlay.ensures c.in_ok-plan.ensures)
    (two_left (memory_image c.args.cells.now) (memory_class c.args.cells.now) c.args.first.now.class c.free_above-lower.result.number c.free_above-upper.result.number c.free_above-lower.ensures.above c.free_above-lower.ensures.free c.free_above-upper.ensures.above c.free_above-upper.ensures.free)
