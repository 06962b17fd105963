use Rattle.std.proofs.Common.{◌≡◌, List, length, slice_get, sym, ap, ◌∙◌, arith}
use Rattle.rdb_schema.specs.declared.schema.IndexDecl.{IndexDecl}
use Rattle.rdb_schema.specs.Indexes.{indexes_of}
use Rattle.rdb_schema.specs.Types.{types_of}
use Rattle.rdb_store.proofs.DeclaredIndexes.{indexes_there, one_more_made, all_made}
use Rattle.rdb_store.proofs.class_store.keyed_indexes.Goals as goal

pub loop-place-preserved : goal.loop-place-preserved
loop-place-preserved c =
    let schema = c.args.schema.now in
    let declared = ap (λ (l : List IndexDecl). slice_get l c.loop-place.place) (indexes_there schema c.args.class c.at.result.now c.at.ensures) in
    rw c.in_ok-push.ensures.ok
    (one_more_made c.args.class (types_of schema c.args.class) (indexes_of schema c.args.class) c.loop-place.place c.loop-place.indexes
    c.at-in-loop-place.result.now c.in_ok-keyed.keyed (declared ∙ c.at-in-loop-place.ensures) c.in_ok-keyed.ensures.shape c.in_ok-keyed.ensures.at c.loop-place.invariant)

pub returns-clause-each : goal.returns-clause-each
returns-clause-each c =
    let schema = c.args.schema.now in
    let end : c.loop-place.place ≡ c.len-place-end.result = omega arith in
    let all = end ∙ c.len-place-end.ensures ∙ ap (λ (l : List IndexDecl). length l) (sym (indexes_there schema c.args.class c.at.result.now c.at.ensures)) in
    (all_made schema c.requires.schema c.args.class (types_of schema c.args.class) c.loop-place.place c.loop-place.indexes all c.loop-place.invariant).1
