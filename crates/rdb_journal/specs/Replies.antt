-- The text of the reply to an operation.
use Rattle.std.specs.Prelude.{ℕ, List, [], ◌∷◌, ◌++◌, codes, decimal, ⊤}
use Rattle.std.specs.List.{join_by}
use Rattle.rdb_literals.specs.Printed.{row_text}
use Rattle.rdb_schema.specs.declared.schema.Schema.{Schema}
use Rattle.rdb_base.specs.declared.operation.Op.{Op}
use Rattle.rdb_base.specs.declared.operation.Reply.{Reply}
use Rattle.rdb_base.specs.declared.operation.Reply.TheVariants as reply
use Rattle.rdb_journal.specs.Names.{index_name, HasIndex}
use Rattle.rdb_journal.specs.Operations.{class_of}

-- ids with a space between them, or `none`
abbrev pub ids_text : List ℕ → List ℕ
ids_text [] = codes "none"
ids_text (id ∷ ids) = join_by decimal (codes " ") (id ∷ ids)

-- a reply; the index of a duplicate is one of the operation's class
abbrev pub reply_text : Schema → Op → Reply → List ℕ
reply_text schema operation (reply.Made id) = codes "made " ++ decimal id
reply_text schema operation (reply.Row row) = row_text row
reply_text schema operation reply.Done = codes "done"
reply_text schema operation reply.NotFound = codes "none"
reply_text schema operation (reply.Duplicate index id) =
    codes "duplicate " ++ index_name schema (class_of operation) index ++ codes " " ++ decimal id
reply_text schema operation (reply.Ids ids) = ids_text ids
reply_text schema operation (reply.At key id) = row_text key ++ codes " " ++ decimal id
reply_text schema operation reply.End = codes "end"
reply_text schema operation (reply.Count count) = decimal count

-- the index that a reply names is one of the operation's class
abbrev pub ReplyNamesExist : Schema → Op → Reply → Type 0
ReplyNamesExist schema operation (reply.Made id) = ⊤
ReplyNamesExist schema operation (reply.Row row) = ⊤
ReplyNamesExist schema operation reply.Done = ⊤
ReplyNamesExist schema operation reply.NotFound = ⊤
ReplyNamesExist schema operation (reply.Duplicate index id) = HasIndex schema (class_of operation) index
ReplyNamesExist schema operation (reply.Ids ids) = ⊤
ReplyNamesExist schema operation (reply.At key id) = ⊤
ReplyNamesExist schema operation reply.End = ⊤
ReplyNamesExist schema operation (reply.Count count) = ⊤
