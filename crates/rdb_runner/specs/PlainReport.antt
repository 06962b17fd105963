-- The report of a job of the simplest form.
use Rattle.std.specs.Prelude.{◌≡◌, ℕ, ◌+◌, List, [], ◌∷◌, map, IsSome}
use Rattle.rdb_base.specs.declared.operation.Op.{Op}
use Rattle.rdb_base.specs.declared.operation.Op.TheVariants as op
use Rattle.rdb_base.specs.declared.operation.Reply.{Reply}
use Rattle.rdb_base.specs.declared.journal.Entry.{Entry}
use Rattle.rdb_base.specs.declared.journal.Entry.TheVariants.{Commit, Closed}
use Rattle.rdb_schema.specs.declared.schema.Schema.{Schema}
use Rattle.rdb_model.specs.Database.{empty}
use Rattle.rdb_model.specs.Story.{run}
use Rattle.rdb_model.specs.Journal.{IsLegal}
use Rattle.rdb_journal.specs.declared.endings.End.TheVariants as ends
use Rattle.rdb_journal.specs.Report.{report}
use Rattle.rdb_script.specs.declared.item.Item.{Item}
use Rattle.rdb_script.specs.declared.unit.Script.{Script}
use Rattle.rdb_script.specs.declared.unit.ScriptLine.{ScriptLine}
use Rattle.rdb_runner.specs.Parts.{AreParts}
use Rattle.rdb_runner.specs.PlainJob.{IsPlainJob}

-- the operation that is done for a script's; a row that is made has this id
abbrev pub operation_of : ℕ → Op → Op
operation_of made (op.New class row id) = op.New class row made
operation_of made asked = asked

-- how many rows an operation makes
abbrev pub makes : Op → ℕ
makes (op.New class row id) = 1
makes _ = 0

-- the operations that are done for the script's in order, where the rows are made with the ids from `next` on
abbrev pub numbered : ℕ → List Op → List Op
numbered next [] = []
numbered next (asked ∷ others) = operation_of next asked ∷ numbered (next + makes asked) others

-- the operations of a script's lines
abbrev pub asked_by : List ScriptLine → List Op
asked_by lines = map (λ l. l.op) lines

-- the journal of the one client: its first transaction commits first, and then the client is closed
abbrev pub journal_of : List (Op × Reply) → List Entry
journal_of done = Commit (record { client = 1; number = 1; begun = 0; snapshot = 0; done = done }) 1 ∷ Closed 1 ∷ []

-- the lines' operations, with the replies of a plain database that was empty
pub record AreAnswered (schema : Schema) (lines : List ScriptLine) (done : List (Op × Reply)) : Type 0 where
  pub operations : map (λ d. d.0) done ≡ numbered 1 (asked_by lines)
  pub runs : IsSome (run schema (empty 1) done)

-- a journal of the one client with these lines, and that it is legal
pub record IsJournalOf (schema : Schema) (lines : List ScriptLine) (journal : List Entry) : Type 0 where
  pub done : List (Op × Reply)
  pub answered : AreAnswered schema lines done
  pub entries : journal ≡ journal_of done
  pub legal : IsLegal schema journal

-- the text is the report of the client that did these lines and ended
pub record IsPrinted (schema : Schema) (lines : List ScriptLine) (text : List ℕ) : Type 0 where
  pub journal : List Entry
  pub made : IsJournalOf schema lines journal
  pub printed : text ≡ report schema journal (ends.Done ∷ []) ([] ∷ [])

-- the text is the report of these three texts: of a legal journal whose one commit has the operations of the client's lines, in order,
-- answered by a plain database that was empty; the k-th `new` made the id k
pub record IsReportOf (schema_text schedule_text client_text text : List ℕ) : Type 0 where
  pub schema : Schema
  pub items : List Item
  pub script : Script
  pub lines : List ScriptLine
  pub parts : AreParts schema_text schedule_text client_text schema items script
  pub plain : IsPlainJob schema items script lines
  pub printed : IsPrinted schema lines text
