-- What the work on three texts gives, part by part.
use Rattle.std.proofs.Common.{◌≡◌, ℕ, List}
use Rattle.std.specs.Prelude.{Ok, Err}
use Rattle.std.specs.List.{concat}
use Rattle.rdb_schema.specs.declared.schema.Schema.{Schema}
use Rattle.rdb_ddl.specs.Read.{IsRead}
use Rattle.rdb_script.specs.declared.item.Item.{Item}
use Rattle.rdb_script.specs.declared.unit.Script.{Script}
use Rattle.rdb_script.specs.declared.unit.ScriptLine.{ScriptLine}
use Rattle.rdb_script.specs.Schedule.{IsSchedule}
use Rattle.rdb_script.specs.Scripts.{IsScript}
use Rattle.rdb_runner.specs.declared.halt.Halt.{Halt}
use Rattle.rdb_runner.specs.declared.halt.Halt.TheVariants as halt
use Rattle.rdb_runner.specs.PlainJob.{IsPlainJob, IsOther}
use Rattle.rdb_runner.specs.PlainReport.{IsPrinted}
use Rattle.rdb_runner.specs.Work.{IsNoScript, IsNoSchedule, IsWork}

-- the client is refused
pub work_no_script : (text schedule client : List ℕ) (schema : Schema) (h : Halt) → IsRead text schema → IsNoScript schema client h → IsWork text schedule client (Err h)
work_no_script text schedule client schema (halt.Unreadable place) read refused = absurd refused
work_no_script text schedule client schema (halt.BadSchema fault) read refused = absurd refused
work_no_script text schedule client schema (halt.BadScript line) read refused = record { schema = schema; schema_read = read; refused = refused }
work_no_script text schedule client schema (halt.BadSchedule number) read refused = absurd refused
work_no_script text schedule client schema (halt.NotBuilt place) read refused = absurd refused
work_no_script text schedule client schema halt.NoMemory read refused = tt

-- the schedule is refused
pub work_no_schedule : (text schedule client : List ℕ) (schema : Schema) (script : Script) (h : Halt) → IsRead text schema → IsScript schema client script → IsNoSchedule schedule h → IsWork text schedule client (Err h)
work_no_schedule text schedule client schema script (halt.Unreadable place) read has refused = absurd refused
work_no_schedule text schedule client schema script (halt.BadSchema fault) read has refused = absurd refused
work_no_schedule text schedule client schema script (halt.BadScript line) read has refused = absurd refused
work_no_schedule text schedule client schema script (halt.BadSchedule number) read has refused = record { schema = schema; script = script; schema_read = read; client_read = has; refused = refused }
work_no_schedule text schedule client schema script (halt.NotBuilt place) read has refused = absurd refused
work_no_schedule text schedule client schema script halt.NoMemory read has refused = tt

module _ (text schedule client : List ℕ) (schema : Schema) (items : List Item) (script : Script) (read : IsRead text schema) (has : IsScript schema client script) (timed : IsSchedule 1 schedule items) where
  -- a part isn't of the simplest form
  pub work_other : (place : ℕ) → ((s : Script) → IsScript schema client s → script ≡ s) → ((i : List Item) → IsSchedule 1 schedule i → items ≡ i) → IsOther schema items script place → IsWork text schedule client (Err (halt.NotBuilt place))
  work_other place script_only items_only other = record {
    schema = schema;
    items = items;
    script = script;
    parts = record { schema_read = read; client_read = has; schedule_read = timed };
    script_only = script_only;
    items_only = items_only;
    other = other;
  }

  -- the report is made
  pub work_done : (lines : List ScriptLine) (report : List (List ℕ)) → IsPlainJob schema items script lines → IsPrinted schema lines (concat report) → IsWork text schedule client (Ok report)
  work_done lines report plain printed = record {
    schema = schema;
    items = items;
    script = script;
    lines = lines;
    parts = record { schema_read = read; client_read = has; schedule_read = timed };
    plain = plain;
    printed = printed;
  }
