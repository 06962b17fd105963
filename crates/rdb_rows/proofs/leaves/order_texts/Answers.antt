use Rattle.std.proofs.Common.{◌<◌, ◌≤◌, ◌+◌, ◌++◌, length, drop, get_or, refl, ◌∙◌, arith, nat_cmp}
use Rattle.std.specs.Cmp.Lexicographic.{slice_cmp}
use Rattle.rdb_rows.proofs.LeafSpots.{text_there, word_there, next_word, step_equal, step_unequal, all_compared}
use Rattle.rdb_rows.proofs.leaves.order_texts.Goals as goal

pub next_byte-requires : goal.next_byte-requires
next_byte-requires g c = text_there (g.C.Cells.image c.args.cells.now) c.args.a c.requires.a

pub next_byte-requires-2 : goal.next_byte-requires-2
next_byte-requires-2 g c = text_there (g.C.Cells.image c.args.cells.now) c.args.b c.requires.b

pub loop-init : goal.loop-init
loop-init g c words rest stand others last also =
    let next = c.next_byte.ensures (length words) (words ++ rest) stand in
    let second = c.next_byte-2.ensures (length others) (others ++ last) also in
    (c.from-many.ensures ∙ next.0, c.from-others.ensures ∙ second.0, next.1, second.1, refl)

pub next_byte-requires-in-loop : goal.next_byte-requires-in-loop
next_byte-requires-in-loop g c =
    let a = c.requires.a in
    let b = c.requires.b in
    let so_far = c.loop.invariant a.words a.rest a.stand b.words b.rest b.stand in
    let many = so_far.0 in
    let before : c.loop.counter < c.min-end.result = c.loop-test.true in
    let least = c.min-end.ensures in
    word_there (g.C.Cells.image c.args.cells.now) c.loop.left a.words a.rest c.loop.counter (omega arith) so_far.2

pub next_byte-requires-in-loop-2 : goal.next_byte-requires-in-loop-2
next_byte-requires-in-loop-2 g c =
    let a = c.requires.a in
    let b = c.requires.b in
    let so_far = c.loop.invariant a.words a.rest a.stand b.words b.rest b.stand in
    let many = so_far.1 in
    let before : c.loop.counter < c.min-end.result = c.loop-test.true in
    let least = c.min-end.ensures in
    word_there (g.C.Cells.image c.args.cells.now) c.loop.right b.words b.rest c.loop.counter (omega arith) so_far.3

pub returns-in_default : goal.returns-in_default
returns-in_default g c words rest stand others last also =
    let image = g.C.Cells.image c.args.cells.now in
    let so_far = c.loop.invariant words rest stand others last also in
    let many = so_far.0 in
    let many_others = so_far.1 in
    let before : c.loop.counter < c.min-end.result = c.loop-test.true in
    let least = c.min-end.ensures in
    let i = c.loop.counter in
    let next = c.next_byte-in-loop.ensures (get_or words i 0) (drop (i + 1) words ++ rest) (next_word image c.loop.left words rest i (omega arith) so_far.2) in
    let second = c.next_byte-in-loop-2.ensures (get_or others i 0) (drop (i + 1) others ++ last) (next_word image c.loop.right others last i (omega arith) so_far.3) in
    step_unequal words others i c.next_byte-in-loop.result c.next_byte-in-loop-2.result c.cmp.result (slice_cmp nat_cmp words others) (omega arith) (omega arith) c.cmp.ensures next.0 second.0 so_far.4 c.in_default.not-Equal

pub loop-preserved : goal.loop-preserved
loop-preserved g c words rest stand others last also =
    let image = g.C.Cells.image c.args.cells.now in
    let so_far = c.loop.invariant words rest stand others last also in
    let many = so_far.0 in
    let many_others = so_far.1 in
    let before : c.loop.counter < c.min-end.result = c.loop-test.true in
    let least = c.min-end.ensures in
    let i = c.loop.counter in
    let next = c.next_byte-in-loop.ensures (get_or words i 0) (drop (i + 1) words ++ rest) (next_word image c.loop.left words rest i (omega arith) so_far.2) in
    let second = c.next_byte-in-loop-2.ensures (get_or others i 0) (drop (i + 1) others ++ last) (next_word image c.loop.right others last i (omega arith) so_far.3) in (
      so_far.0,
      so_far.1,
      next.1,
      second.1,
      step_equal words others i c.next_byte-in-loop.result c.next_byte-in-loop-2.result c.cmp.result (slice_cmp nat_cmp words others) (omega arith) (omega arith) c.cmp.ensures next.0 second.0 so_far.4 c.in-Equal.is,
    )

pub returns : goal.returns
returns g c words rest stand others last also =
    let so_far = c.loop.invariant words rest stand others last also in
    let most = c.loop.auto.counter-end in
    let least : c.min-end.result ≤ c.loop.counter = c.loop-test.false in
    let is = c.min-end.ensures in
    all_compared words others c.loop.counter c.from-many.result c.from-others.result c.cmp-2.result (slice_cmp nat_cmp words others) c.cmp-2.ensures so_far.0 so_far.1 (omega arith) so_far.4
