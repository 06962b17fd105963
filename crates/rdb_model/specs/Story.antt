-- The story run: operations in order, each of which gets the reply that stands beside it.
use Rattle.std.specs.Prelude.{◌≡◌, ℕ, ◌<◌, Bool, true, false, ◌&&◌, ◌==◌, nat_eq, List, [], ◌∷◌, length, take, Option, Some, None, if◌then◌else◌}
use Rattle.std.specs.Cmp.Lexicographic.{pointwise}
use Rattle.std.specs.Ordering.{is_eq}
use Rattle.rdb_base.specs.Order.{row_order}
use Rattle.rdb_base.specs.declared.operation.Op.{Op}
use Rattle.rdb_base.specs.declared.operation.Reply.{Reply}
use Rattle.rdb_base.specs.declared.operation.Reply.TheVariants as reply
use Rattle.rdb_schema.specs.declared.schema.Schema.{Schema}
use Rattle.rdb_model.specs.Database.{Database}
use Rattle.rdb_model.specs.Answer.{answer}

-- whether two replies are one
abbrev pub same_reply : Reply → Reply → Bool
same_reply (reply.Made a) (reply.Made b) = a == b
same_reply (reply.Row a) (reply.Row b) = is_eq (row_order a b)
same_reply reply.Done reply.Done = true
same_reply reply.NotFound reply.NotFound = true
same_reply (reply.Duplicate i a) (reply.Duplicate j b) = (i == j) && (a == b)
same_reply (reply.Ids as_) (reply.Ids bs) = pointwise nat_eq as_ bs
same_reply (reply.At k a) (reply.At l b) = is_eq (row_order k l) && (a == b)
same_reply reply.End reply.End = true
same_reply (reply.Count a) (reply.Count b) = a == b
same_reply _ _ = false

-- the database after the operations, if each gets its reply
abbrev pub run : Schema → Database → List (Op × Reply) → Option Database
run schema db [] = Some db
run schema db (d ∷ ds) =
    let told = answer schema db d.0 in
    if same_reply told.0 d.1 then run schema told.1 ds else None

-- the database after the operations, whatever they are told
abbrev pub after : Schema → Database → List (Op × Reply) → Database
after schema db [] = db
after schema db (d ∷ ds) = after schema (answer schema db d.0).1 ds

-- that a database is the one after the first few of the operations, not after all of them
abbrev pub IsAfterSome : Schema → Database → List (Op × Reply) → Database → Type 0
IsAfterSome schema db done next = (n : ℕ) × (n < length done) × (next ≡ after schema db (take n done))
