use Rattle.rdb_store.proofs.DeclaredIndexes.{few_before, key_leaves, made_shape, made_at}
use Rattle.rdb_store.proofs.class_store.keyed_index.Goals as goal

pub of-requires : goal.of-requires
of-requires c = key_leaves c.args.schema.now c.requires.schema c.args.class c.args.place c.args.declared.now c.requires.declared c.requires.served

pub of-index-requires-clause-class : goal.of-index-requires-clause-class
of-index-requires-clause-class c = (few_before c.args.schema.now c.requires.schema c.args.class c.args.place c.args.declared.now c.requires.declared c.requires.class).0

pub of-index-requires-clause-place : goal.of-index-requires-clause-place
of-index-requires-clause-place c = (few_before c.args.schema.now c.requires.schema c.args.class c.args.place c.args.declared.now c.requires.declared c.requires.class).1

pub returns-clause-shape : goal.returns-clause-shape
returns-clause-shape c =
    made_shape c.args.schema.now c.requires.schema c.args.class c.args.place c.args.declared.now c.requires.declared
    c.of-index.result c.in_ok-keys.keys c.of-index.ensures.kind c.of-index.ensures.at c.in_ok-keys.ensures

pub returns-clause-at : goal.returns-clause-at
returns-clause-at c =
    made_at c.args.schema.now c.requires.schema c.args.class c.args.place c.args.declared.now c.requires.declared
    c.of-index.result c.in_ok-keys.keys c.of-index.ensures.kind c.of-index.ensures.at c.in_ok-keys.ensures
