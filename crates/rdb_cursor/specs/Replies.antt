-- What a reader is told: the plain answer on the rows that the versions of the class show it.
use Rattle.std.specs.Prelude.{◌≡◌, ℕ, Bool, true, false, Option, Some, None, if◌then◌else◌}
use Rattle.rdb_base.specs.declared.operation.Op.{Op}
use Rattle.rdb_base.specs.declared.operation.Reply.{Reply}
use Rattle.rdb_base.specs.declared.operation.Reply.TheVariants as reply
use Rattle.rdb_base.specs.Operations.{class_of as class_named}
use Rattle.rdb_schema.specs.declared.schema.Schema.{Schema}
use Rattle.rdb_cells.specs.Images.{Image}
use Rattle.rdb_sight.specs.Versions.{Marks, Versions, objects_in, shown}
use Rattle.rdb_model.specs.Answer.{answer}
use Rattle.rdb_store.specs.Holds.{Holds, HoldsSome}
use Rattle.rdb_store.specs.Shapes.{schema_class}
use Rattle.rdb_cursor.specs.declared.marks.Reader.{Reader}

-- the cells of the operation's class hold some objects
abbrev pub HoldsFor : Schema → Image → (ℕ → Option ℕ) → Op → Type 0
HoldsFor schema image class_of op = HoldsSome (schema_class schema (class_named op)) image class_of

-- the cells of the operation's class hold what these versions are of that class
abbrev pub HoldsVersions : Schema → Image → (ℕ → Option ℕ) → Op → Versions → Type 0
HoldsVersions schema image class_of op versions =
    Holds (schema_class schema (class_named op)) image class_of (objects_in versions (class_named op))

-- the plain reply on the rows that the versions show a reader
abbrev pub plain_reply : Schema → Marks → Reader → Versions → Op → Reply
plain_reply schema marks reader versions op = (answer schema (shown marks reader.snapshot (Some reader.tx) versions) op).0

-- a reply is the plain one, whatever versions the cells hold
abbrev pub IsPlainReply : Schema → Image → (ℕ → Option ℕ) → Marks → Reader → Op → Reply → Type 0
IsPlainReply schema image class_of marks reader op told = (versions : Versions) → HoldsVersions schema image class_of op versions →
    told ≡ plain_reply schema marks reader versions op

-- whether a reply refuses a write
abbrev pub is_refusal : Reply → Bool
is_refusal reply.NotFound = true
is_refusal (reply.Duplicate index id) = true
is_refusal _ = false

-- a reply, if it refuses a write
abbrev pub refusal_in : Reply → Option Reply
refusal_in told = if is_refusal told then Some told else None

-- what refuses a write is the plain reply, if that does, whatever versions the cells hold
abbrev pub IsPlainRefusal : Schema → Image → (ℕ → Option ℕ) → Marks → Reader → Op → Option Reply → Type 0
IsPlainRefusal schema image class_of marks reader op refused = (versions : Versions) → HoldsVersions schema image class_of op versions →
    refused ≡ refusal_in (plain_reply schema marks reader versions op)
