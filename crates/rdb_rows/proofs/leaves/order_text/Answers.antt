use Rattle.std.proofs.Common.{◌<◌, ◌≤◌, ◌+◌, ◌++◌, length, drop, get_or, refl, ◌∙◌, arith, nat_cmp}
use Rattle.std.specs.Cmp.Lexicographic.{slice_cmp}
use Rattle.rdb_rows.proofs.LeafSpots.{text_there, word_there, next_word, step_equal, step_unequal, all_compared}
use Rattle.rdb_rows.proofs.leaves.order_text.Goals as goal

pub next_byte-requires : goal.next_byte-requires
next_byte-requires g c = text_there (g.C.Cells.image c.args.cells.now) c.args.spot c.requires

pub loop-at-init : goal.loop-at-init
loop-at-init g c words rest stand =
    let next = c.next_byte.ensures (length words) (words ++ rest) stand in
    (c.from-many.ensures ∙ next.0, next.1, refl)

pub next_byte-requires-in-loop-at : goal.next_byte-requires-in-loop-at
next_byte-requires-in-loop-at g c =
    let has = c.requires in
    let so_far = c.loop-at.invariant has.words has.rest has.stand in
    let many = so_far.0 in
    let before : c.loop-at.at < c.min-at-end.result = c.loop-at-test.true in
    let least = c.min-at-end.ensures in
    word_there (g.C.Cells.image c.args.cells.now) c.loop-at.left has.words has.rest c.loop-at.at (omega arith) so_far.1

pub returns-in_default : goal.returns-in_default
returns-in_default g c words rest stand =
    let image = g.C.Cells.image c.args.cells.now in
    let so_far = c.loop-at.invariant words rest stand in
    let many = so_far.0 in
    let before : c.loop-at.at < c.min-at-end.result = c.loop-at-test.true in
    let least = c.min-at-end.ensures in
    let next = c.next_byte-in-loop-at.ensures (get_or words c.loop-at.at 0) (drop (c.loop-at.at + 1) words ++ rest) (next_word image c.loop-at.left words rest c.loop-at.at (omega arith) so_far.1) in
    step_unequal words c.args.other.now c.loop-at.at c.next_byte-in-loop-at.result (get_or c.args.other.now c.loop-at.at 0) c.cmp.result (slice_cmp nat_cmp words c.args.other.now) (omega arith) (omega arith) c.cmp.ensures next.0 refl so_far.2 c.in_default.not-Equal

pub loop-at-preserved : goal.loop-at-preserved
loop-at-preserved g c words rest stand =
    let image = g.C.Cells.image c.args.cells.now in
    let so_far = c.loop-at.invariant words rest stand in
    let many = so_far.0 in
    let before : c.loop-at.at < c.min-at-end.result = c.loop-at-test.true in
    let least = c.min-at-end.ensures in
    let next = c.next_byte-in-loop-at.ensures (get_or words c.loop-at.at 0) (drop (c.loop-at.at + 1) words ++ rest) (next_word image c.loop-at.left words rest c.loop-at.at (omega arith) so_far.1) in (
      so_far.0,
      next.1,
      step_equal words c.args.other.now c.loop-at.at c.next_byte-in-loop-at.result (get_or c.args.other.now c.loop-at.at 0) c.cmp.result (slice_cmp nat_cmp words c.args.other.now) (omega arith) (omega arith) c.cmp.ensures next.0 refl so_far.2 c.in-Equal.is,
    )

pub returns : goal.returns
returns g c words rest stand =
    let so_far = c.loop-at.invariant words rest stand in
    let most = c.loop-at.auto.at-end in
    let least : c.min-at-end.result ≤ c.loop-at.at = c.loop-at-test.false in
    let is = c.min-at-end.ensures in
    all_compared words c.args.other.now c.loop-at.at c.from-many.result (length c.args.other.now) c.cmp-2.result (slice_cmp nat_cmp words c.args.other.now) c.cmp-2.ensures so_far.0 refl (omega arith) so_far.2
