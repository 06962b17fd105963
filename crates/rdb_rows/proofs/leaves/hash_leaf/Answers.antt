use Rattle.std.proofs.Common.{◌<◌, ◌≤◌, ◌+◌, ◌++◌, ℕ, drop, get_or, fold, refl, sym, ap, subst, ◌∙◌, arith}
use Rattle.std.proofs.lemmas.List.{drop_more, drop_all}
use Rattle.rdb_schema.specs.Encoding.{leaf_bytes}
use Rattle.rdb_cells.specs.Keys.{fnv_step}
use Rattle.rdb_rows.specs.Spots.{Stand}
use Rattle.rdb_rows.proofs.LeafSpots.{word_there, next_word}
use Rattle.rdb_rows.proofs.leaves.hash_leaf.Goals as goal

pub loop-init : goal.loop-init
loop-init g c m begins = (subst (Stand (g.C.Cells.image c.args.cells.now) c.args.spot) begins.is begins.stand, refl)

pub next_byte-requires : goal.next_byte-requires
next_byte-requires g c =
    let l = c.requires.0 in
    let begins = c.requires.1 in
    let so_far = c.loop.invariant l begins in
    let many = c.leaf_length-end.ensures l begins in
    let before : c.loop.counter < c.leaf_length-end.result = c.loop-test.true in
    word_there (g.C.Cells.image c.args.cells.now) c.loop.next (leaf_bytes c.args.ty l) begins.rest c.loop.counter (omega arith) so_far.0

pub loop-preserved : goal.loop-preserved
loop-preserved g c l begins =
    let image = g.C.Cells.image c.args.cells.now in
    let so_far = c.loop.invariant l begins in
    let many = c.leaf_length-end.ensures l begins in
    let before : c.loop.counter < c.leaf_length-end.result = c.loop-test.true in
    let bytes = leaf_bytes c.args.ty l in
    let i = c.loop.counter in
    let next = c.next_byte.ensures (get_or bytes i 0) (drop (i + 1) bytes ++ begins.rest) (next_word image c.loop.next bytes begins.rest i (omega arith) so_far.0) in
    let more = drop_more bytes i 0 (omega arith) in (
      next.1,
      ap (λ (h : ℕ). fold fnv_step h (drop (i + 1) bytes)) (c.hash_byte-hash.ensures ∙ ap (fnv_step c.loop.hash) next.0)
          ∙ sym (ap (fold fnv_step c.loop.hash) more) ∙ so_far.1,
    )

pub returns : goal.returns
returns g c l begins =
    let so_far = c.loop.invariant l begins in
    let many = c.leaf_length-end.ensures l begins in
    let least : c.leaf_length-end.result ≤ c.loop.counter = c.loop-test.false in
    let bytes = leaf_bytes c.args.ty l in
    sym (ap (fold fnv_step c.loop.hash) (drop_all c.loop.counter bytes (omega arith))) ∙ so_far.1
