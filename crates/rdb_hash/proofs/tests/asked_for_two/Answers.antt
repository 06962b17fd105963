use Rattle.std.proofs.Common.{◌≢◌, [], ◌∷◌, Bor, subst, rules}
use Rattle.rdb_cells.specs.Keys.{says, ListsVersions}
use Rattle.rdb_cells.specs.Memory.{Memory, memory_image, memory_class}
use Rattle.rdb_cells.specs.OneKey.{one_meaning}
use Rattle.rdb_cells.specs.Overlays.{Laid}
use Rattle.rdb_cells.specs.Work.{Work, reading, HasLeft}
use Rattle.rdb_cells.proofs.EmptyLists.{is_fresh}
use Rattle.rdb_cells.specs.VersionFormat.{header_in}
use Rattle.rdb_hash.specs.HashLaws.{hash_starts_empty}
use Rattle.rdb_hash.specs.Shape.{IsHash}
use Rattle.rdb_hash.proofs.EmptyHash.{two_versions, four_left}
use Rattle.rdb_hash.proofs.tests.asked_for_two.Goals as goal

-- the work of an overlay over cells in memory
abbrev over_memory : Laid (Bor Memory) → Work
over_memory o = record {
  below = memory_image o.cells.now;
  class_of = memory_class o.cells.now;
  pairs = o.plan.pairs;
  room = o.plan.room;
  class = o.class;
  taken = o.taken.number;
}

pub put_two-two-requires-clause-empty : goal.put_two-two-requires-clause-empty
put_two-two-requires-clause-empty g c =
    subst (λ (o : Laid (Bor Memory)). IsHash c.args.hash.now.head.number (says (one_meaning c.args.keys.now.key) (reading (over_memory o))) (reading (over_memory o)) [] [])
    (is_fresh c.args.cells c.args.hash.now.class c.over-overlay.result c.in_ok-plan.plan c.over-overlay.ensures c.in_ok-plan.ensures)
    (hash_starts_empty c.args.hash.now.class c.args.hash.now.head.number (says (one_meaning c.args.keys.now.key) (memory_image c.args.cells.now)) (memory_image c.args.cells.now) c.empty_head_at.ensures)

pub put_two-two-requires-clause-versions : goal.put_two-two-requires-clause-versions
put_two-two-requires-clause-versions g c =
    let apart : c.args.first.number ≢ c.args.second.number = search rules in
    let ids : (header_in c.header_at-one.result.now).id ≢ (header_in c.header_at-other.result.now).id = search rules in
    subst (λ (o : Laid (Bor Memory)). ListsVersions (says (one_meaning c.args.keys.now.key) (reading (over_memory o))) (c.args.second ∷ c.args.first ∷ []))
    (is_fresh c.args.cells c.args.hash.now.class c.over-overlay.result c.in_ok-plan.plan c.over-overlay.ensures c.in_ok-plan.ensures)
    (two_versions c.args.keys.now.key (memory_image c.args.cells.now) c.args.first c.args.second c.header_at-one.result.now c.header_at-other.result.now c.header_at-one.ensures.held c.header_at-one.ensures.kind c.header_at-other.ensures.held c.header_at-other.ensures.kind apart ids)

pub put_two-two-requires-clause-free : goal.put_two-two-requires-clause-free
put_two-two-requires-clause-free g c =
    subst (λ (o : Laid (Bor Memory)). HasLeft (over_memory o) 4)
    (is_fresh c.args.cells c.args.hash.now.class c.over-overlay.result c.in_ok-plan.plan c.over-overlay.ensures c.in_ok-plan.ensures)
    (four_left (memory_image c.args.cells.now) (memory_class c.args.cells.now) c.args.hash.now.class c.free_above-lowest.result.number c.free_above-lower.result.number c.free_above-upper.result.number c.free_above-highest.result.number c.free_above-lowest.ensures.above c.free_above-lowest.ensures.free c.free_above-lower.ensures.above c.free_above-lower.ensures.free c.free_above-upper.ensures.above c.free_above-upper.ensures.free c.free_above-highest.ensures.above c.free_above-highest.ensures.free)
