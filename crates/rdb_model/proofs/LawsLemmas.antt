-- The laws of runs, by recursion on what is run.
use Rattle.std.proofs.Common.{◌≡◌, Bool, true, false, cond, List, [], ◌∷◌, Some, None}
use Rattle.rdb_base.specs.declared.operation.Op.{Op}
use Rattle.rdb_base.specs.declared.operation.Reply.{Reply}
use Rattle.rdb_schema.specs.declared.schema.Schema.{Schema}
use Rattle.rdb_model.specs.Database.{Database}
use Rattle.rdb_model.specs.Answer.{answer}
use Rattle.rdb_model.specs.Story.{same_reply, run, after}

-- a run that succeeds is what the operations make
pub run_after : (schema : Schema) (db next : Database) (done : List (Op × Reply)) → run schema db done ≡ Some next → after schema db done ≡ next
run_after schema db next [] e = (cc)
run_after schema db next (d ∷ ds) e = go (same_reply (answer schema db d.0).0 d.1) (run_after schema (answer schema db d.0).1 next ds) e
  where
    go : (b : Bool) → (run schema (answer schema db d.0).1 ds ≡ Some next → after schema (answer schema db d.0).1 ds ≡ next) → cond b (run schema (answer schema db d.0).1 ds) None ≡ Some next → after schema (answer schema db d.0).1 ds ≡ next
    go true rest e = rest e
    go false rest e = (cc)
