-- What the work of a job gives is what is told.
use Rattle.std.proofs.Common.{◌≡◌, ℕ, get_or, List, [], ◌∷◌, ◌++◌, length, Some, refl, sym, ap, ◌∙◌, subst, arith}
use Rattle.std.specs.Prelude.{slice_get, codes, Result, Ok, Err}
use Rattle.rdb_ddl.specs.declared.fault.DdlFault.{DdlFault}
use Rattle.rdb_runner.specs.declared.halt.Halt.{Halt}
use Rattle.rdb_runner.specs.declared.halt.Halt.TheVariants as halt
use Rattle.rdb_runner.specs.declared.status.Status.{Status}
use Rattle.rdb_runner.specs.declared.status.Status.TheVariants.{Done, Unreadable, BadSchema, BadScript, BadSchedule, NotBuilt}
use Rattle.rdb_runner.specs.Ending.{Told}
use Rattle.rdb_runner.specs.Parts.{names_of, script_line, schedule_line}
use Rattle.rdb_runner.specs.Promise.{IsDone, ReplayOwes}
use Rattle.rdb_runner.specs.Reading.{Sight, CannotRead, AllRead}
use Rattle.rdb_runner.specs.SchemaFile.{fault_line}
use Rattle.rdb_runner.specs.Telling.{Ink, Tells, MayTell}
use Rattle.rdb_runner.specs.Work.{IsWork, IsJobWork}
use Rattle.rdb_runner.proofs.EndingLemmas.{told_by, may_be_told_by}

-- a list of one
pub single : (xs : List (List ℕ)) (x : List ℕ) → length xs ≡ 1 → slice_get xs 0 ≡ Some x → xs ≡ x ∷ []
single [] x one at = absurd (omega arith)
single (y ∷ []) x one at = let same : y ≡ x = cc in ap (λ (z : List ℕ). z ∷ []) same
single (y ∷ z ∷ xs) x one at = absurd (omega arith)

module _ (names : List (List ℕ)) (sight : Sight) (ink : Ink) (status : Status) where
  -- the report is told
  pub report_told : (text : List ℕ) → IsDone names sight text → Tells ink Done text status → Told (ReplayOwes names sight) ink status
  report_told text done tells = told_by (ReplayOwes names sight) ink Done text status done (λ h. h) tells

  -- a file that can't be read is told
  pub unread_told : (place : ℕ) (name : List ℕ) → IsJobWork names sight (Err (halt.Unreadable place)) → slice_get names place ≡ Some name
      → MayTell ink Unreadable (codes "regiondb: cannot read " ++ name ++ codes "\n") status → Told (ReplayOwes names sight) ink status
  unread_told place name (own, texts, at, all, cannot, asks) there tells =
      let same : own ≡ name = cc in
      may_be_told_by (ReplayOwes names sight) ink Unreadable _ status (place, name, texts, there, all, subst (CannotRead sight) same cannot, asks, refl) (λ h. h) tells

  -- a text that isn't of the simplest form is told
  pub other_told : (place : ℕ) (name : List ℕ) → IsJobWork names sight (Err (halt.NotBuilt place)) → slice_get names place ≡ Some name
      → MayTell ink NotBuilt (codes "regiondb: not built " ++ name ++ codes "\n") status → Told (ReplayOwes names sight) ink status
  other_told place name (schema, schedule, client, read, first) at tells =
      may_be_told_by (ReplayOwes names sight) ink NotBuilt _ status (schema, schedule, client, place, name, read, first, at, refl) (λ h. h) tells

  -- a schema's fault is told
  pub schema_fault_told : (fault : DdlFault) → IsJobWork names sight (Err (halt.BadSchema fault))
      → MayTell ink BadSchema (fault_line fault) status → Told (ReplayOwes names sight) ink status
  schema_fault_told fault (schema, schedule, client, read, first) tells =
      may_be_told_by (ReplayOwes names sight) ink BadSchema _ status (schema, schedule ∷ client ∷ [], fault, read, first, refl) (λ h. h) tells

  -- a client's fault is told
  pub script_fault_told : (line : ℕ) → IsJobWork names sight (Err (halt.BadScript line))
      → MayTell ink BadScript (script_line 1 line) status → Told (ReplayOwes names sight) ink status
  script_fault_told line (schema, schedule, client, read, refused) tells =
      may_be_told_by (ReplayOwes names sight) ink BadScript _ status (schema, schedule, client, line, read, refused, refl) (λ h. h) tells

  -- a schedule's fault is told
  pub schedule_fault_told : (number : ℕ) → IsJobWork names sight (Err (halt.BadSchedule number))
      → MayTell ink BadSchedule (schedule_line number) status → Told (ReplayOwes names sight) ink status
  schedule_fault_told number (schema, schedule, client, read, refused) tells =
      may_be_told_by (ReplayOwes names sight) ink BadSchedule _ status (schema, schedule, client, number, read, refused, refl) (λ h. h) tells

-- the work on the texts of files that were read
pub work_of : (names : List (List ℕ)) (sight : Sight) (schema schedule client : List ℕ) (result : Result (List (List ℕ)) Halt) → AllRead sight names (names_of schema schedule client) → IsWork schema schedule client result → IsJobWork names sight result
work_of names sight schema schedule client (Ok lines) read w = (schema, schedule, client, read, w)
work_of names sight schema schedule client (Err (halt.Unreadable place)) read w = absurd w
work_of names sight schema schedule client (Err (halt.BadSchema fault)) read w = (schema, schedule, client, read, w)
work_of names sight schema schedule client (Err (halt.BadScript line)) read w = (schema, schedule, client, read, w)
work_of names sight schema schedule client (Err (halt.BadSchedule number)) read w = (schema, schedule, client, read, w)
work_of names sight schema schedule client (Err (halt.NotBuilt place)) read w = (schema, schedule, client, read, w)
work_of names sight schema schedule client (Err halt.NoMemory) read w = read.2

-- a list of three
three_of : (texts : List (List ℕ)) (a b d : List ℕ) → length texts ≡ 3 → a ≡ get_or texts 0 a → b ≡ get_or texts 1 b → d ≡ get_or texts 2 d → texts ≡ a ∷ b ∷ d ∷ []
three_of [] a b d three first second third = absurd (omega arith)
three_of (x ∷ []) a b d three first second third = absurd (omega arith)
three_of (x ∷ y ∷ []) a b d three first second third = absurd (omega arith)
three_of (x ∷ y ∷ z ∷ []) a b d three first second third = λ i. sym first i ∷ sym second i ∷ sym third i ∷ []
three_of (x ∷ y ∷ z ∷ w ∷ texts) a b d three first second third = absurd (omega arith)

-- the three texts that were read, lent
pub three_lent : (names : List (List ℕ)) (sight : Sight) (texts there : List (List ℕ)) (a b d schema schedule client : List ℕ) → AllRead sight names texts → there ≡ texts → length there ≡ 3
    → a ≡ get_or there 0 a → b ≡ get_or there 1 b → d ≡ get_or there 2 d → schema ≡ a → schedule ≡ b → client ≡ d → AllRead sight names (names_of schema schedule client)
three_lent names sight texts there a b d schema schedule client read is three first second third one two last =
    let lent : a ∷ b ∷ d ∷ [] ≡ names_of schema schedule client = λ i. sym one i ∷ sym two i ∷ sym last i ∷ [] in
    subst (AllRead sight names) (sym is ∙ three_of there a b d three first second third ∙ lent) read
