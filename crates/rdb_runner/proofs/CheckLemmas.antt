-- What the work of a check gives is what is told.
use Rattle.std.proofs.Common.{ℕ, lit≤, List, [], ◌∷◌, ◌++◌, refl}
use Rattle.std.specs.Prelude.{codes, Result, Ok, Err}
use Rattle.rdb_ddl.specs.declared.fault.DdlFault.{DdlFault}
use Rattle.rdb_runner.specs.declared.check.Unchecked.TheVariants as no
use Rattle.rdb_runner.specs.declared.reading.Unread.{Unread}
use Rattle.rdb_runner.specs.declared.reading.Unread.TheVariants.{At, NoMemory}
use Rattle.rdb_runner.specs.declared.schema_reading.NoSchema.TheVariants as why
use Rattle.rdb_runner.specs.declared.status.Status.{Status}
use Rattle.rdb_runner.specs.declared.status.Status.TheVariants.{Done, Unreadable, BadSchema}
use Rattle.rdb_runner.specs.Ending.{Told}
use Rattle.rdb_runner.specs.Promise.{CheckOwes}
use Rattle.rdb_runner.specs.Reading.{Sight, IsReadOf, AsksFirst}
use Rattle.rdb_runner.specs.SchemaFile.{fault_line}
use Rattle.rdb_runner.specs.Telling.{Ink, Tells, MayTell}
use Rattle.rdb_runner.specs.Work.{IsRewritten, IsCheckWork}
use Rattle.rdb_runner.proofs.EndingLemmas.{told_by, may_be_told_by, asks_none}

module _ (name : List ℕ) (sight : Sight) (ink : Ink) (status : Status) where
  -- the canonical text is told
  pub checked_told : (text : List ℕ) → IsCheckWork name sight (Ok text) → Tells ink Done text status → Told (CheckOwes name sight) ink status
  checked_told text work tells = told_by (CheckOwes name sight) ink Done text status work (λ h. h) tells

  -- a file that can't be read is told
  pub unreadable_told : IsCheckWork name sight (Err no.Unreadable)
      → MayTell ink Unreadable (codes "regiondb: cannot read " ++ name ++ codes "\n") status → Told (CheckOwes name sight) ink status
  unreadable_told work tells =
      may_be_told_by (CheckOwes name sight) ink Unreadable _ status (0, name, [], refl, tt, work.0, work.1, refl) (λ h. h) tells

  -- a schema's fault is told
  pub fault_told : (fault : DdlFault) → IsCheckWork name sight (Err (no.Refused fault))
      → MayTell ink BadSchema (fault_line fault) status → Told (CheckOwes name sight) ink status
  fault_told fault work tells =
      may_be_told_by (CheckOwes name sight) ink BadSchema _ status (work.0, [], fault, work.1, work.2, refl) (λ h. h) tells

-- the read of a file asks for it, but where memory is wanting
pub one_asked : (sight : Sight) (name : List ℕ) (place : ℕ) (answer : Result (List ℕ) Unread) → IsReadOf sight name place answer → AsksFirst sight (name ∷ [])
one_asked sight name place (Ok bytes) h = (1, lit≤ tt, h.1)
one_asked sight name place (Err (At there)) h = (1, lit≤ tt, h.2)
one_asked sight name place (Err NoMemory) h = asks_none (name ∷ []) sight h.0

-- the work on a file that was read
pub work_done : (sight : Sight) (name bytes text : List ℕ) → IsReadOf sight name 0 (Ok bytes) → IsRewritten bytes (Ok text) → IsCheckWork name sight (Ok text)
work_done sight name bytes text read h = (bytes, h.0, ((read.0, tt), read.1, read.2), h.1, h.2)

pub work_refused : (sight : Sight) (name bytes : List ℕ) (fault : DdlFault) → IsReadOf sight name 0 (Ok bytes) → IsRewritten bytes (Err (why.Refused fault)) → IsCheckWork name sight (Err (no.Refused fault))
work_refused sight name bytes fault read h = (bytes, ((read.0, tt), read.1, read.2), h)
