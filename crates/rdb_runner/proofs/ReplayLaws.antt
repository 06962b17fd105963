-- What follows from how a replay ends, status by status.
use Rattle.std.proofs.Common.{◌≡◌, ℕ, zero, suc, lit<, ◌<◌, ◌≤◌, List, [], ◌∷◌, length, Option, Some, None, sym, ap, ◌∙◌, subst, arith}
use Rattle.std.specs.Prelude.{IfSome, slice_get}
use Rattle.rdb_runner.specs.declared.reading.TheConstants.{FILE_LIMIT}
use Rattle.rdb_runner.specs.declared.status.Status.{Status}
use Rattle.rdb_runner.specs.declared.status.Status.TheVariants.{Done, Usage, Unreadable, BadSchema, BadScript, BadSchedule, CutOff, NoMemory, BadReport, NotBuilt}
use Rattle.rdb_runner.specs.Ending.{Told}
use Rattle.rdb_runner.specs.Parts.{IsBadScript, IsBadSchedule, HasBadScript, HasBadSchedule}
use Rattle.rdb_runner.specs.PlainPromise.{IsNotBuilt, ArePlain}
use Rattle.rdb_runner.specs.Promise.{IsDone, ReplayOwes, ReplayEnds, IsInterrupted}
use Rattle.rdb_runner.specs.Reading.{Sight, AreBytesOf, IsUnreadable, HasTooLong}
use Rattle.rdb_runner.specs.SchemaFile.{IsBadSchema, HasBadSchema}
use Rattle.rdb_runner.specs.Statuses.{number_of, IsOneOf}
use Rattle.rdb_runner.specs.Telling.{Ink, IsSilent, Shows}
use Rattle.rdb_runner.proofs.BadSchema.{bad_is_not_read}
use Rattle.rdb_runner.proofs.EndingLemmas.{told_as}
use Rattle.rdb_runner.proofs.JobParts.{script_told, schedule_told, schema_told, script_not_refused, plain_told}

-- bytes that are told are within the limit where they were read
pub told_within : (told : List ℕ → Option (List ℕ)) (names texts : List (List ℕ)) (place : ℕ) (name there : List ℕ) → AreBytesOf told names texts → slice_get names place ≡ Some name → told name ≡ Some there → length there ≤ FILE_LIMIT
told_within told [] texts place name there all at is = let never : None ≡ Some name = at in cc
told_within told (n ∷ names) [] place name there all at is = absurd all
told_within told (n ∷ names) (t ∷ texts) zero name there all at is =
    let same : n ≡ name = cc in
    let bytes : t ≡ there = subst (λ (o : Option (List ℕ)). IfSome o (λ x. t ≡ x)) (ap told same ∙ is) all.0.0 in
    subst (λ (b : List ℕ). length b ≤ FILE_LIMIT) bytes all.0.1
told_within told (n ∷ names) (t ∷ texts) (suc place) name there all at is = told_within told names texts place name there all.1 at is

-- a job that is done, or of which a later part is refused or not built, has a schema that is read
done_is_read : (names : List (List ℕ)) (sight : Sight) (text : List ℕ) → IsDone names sight text → HasBadSchema names sight → ⊥
done_is_read names sight text (schema, schedule, client, read, report) bad =
    bad_is_not_read names (schedule ∷ client ∷ []) sight schema report.schema read.0 report.parts.schema_read bad

not_built_is_read : (names : List (List ℕ)) (sight : Sight) (text : List ℕ) → IsNotBuilt names sight text → HasBadSchema names sight → ⊥
not_built_is_read names sight text (schema, schedule, client, place, name, read, first, at, line) bad =
    bad_is_not_read names (schedule ∷ client ∷ []) sight schema first.schema read.0 first.parts.schema_read bad

script_is_read : (names : List (List ℕ)) (sight : Sight) (text : List ℕ) → IsBadScript names sight text → HasBadSchema names sight → ⊥
script_is_read names sight text (schema, schedule, client, line, read, refused, is) bad =
    bad_is_not_read names (schedule ∷ client ∷ []) sight schema refused.schema read.0 refused.schema_read bad

schedule_is_read : (names : List (List ℕ)) (sight : Sight) (text : List ℕ) → IsBadSchedule names sight text → HasBadSchema names sight → ⊥
schedule_is_read names sight text (schema, schedule, client, number, read, refused, is) bad =
    bad_is_not_read names (schedule ∷ client ∷ []) sight schema refused.schema read.0 refused.schema_read bad

-- files of the simplest form are not refused
pub plain_built : (names : List (List ℕ)) (sight : Sight) (text : List ℕ) → ArePlain names sight → IsNotBuilt names sight text → ⊥
plain_built names sight text p (schema, schedule, client, place, name, read, first, at, line) = plain_told names sight schema schedule client place p read first

module _ (names : List (List ℕ)) (sight : Sight) (ink : Ink) (answer : ℕ) (end : ReplayEnds names sight ink answer) where
  -- the eight ways in which a replay ends
  pub by_replay : {P : Type 0}
      → (answer ≡ 0 → Shows ink (IsDone names sight) → P)
      → (answer ≡ 3 → Shows ink (IsUnreadable names sight) → P)
      → (answer ≡ 4 → Shows ink (IsBadSchema names sight) → P)
      → (answer ≡ 5 → Shows ink (IsBadScript names sight) → P)
      → (answer ≡ 6 → Shows ink (IsBadSchedule names sight) → P)
      → (answer ≡ 10 → Shows ink (IsNotBuilt names sight) → P)
      → (answer ≡ 7 → P)
      → (answer ≡ 8 → P)
      → P
  by_replay {P} done unreadable bad_schema bad_script bad_schedule other cut silent = by_status end.status end.number end.told
    where
      by_status : (s : Status) → answer ≡ number_of s → Told (ReplayOwes names sight) ink s → P
      by_status Done is told = done is told
      by_status Usage is told = absurd told.1
      by_status Unreadable is told = unreadable is told
      by_status BadSchema is told = bad_schema is told
      by_status BadScript is told = bad_script is told
      by_status BadSchedule is told = bad_schedule is told
      by_status CutOff is told = cut is
      by_status NoMemory is told = silent is
      by_status BadReport is told = absurd told.1
      by_status NotBuilt is told = other is told

  pub replay_statuses : IsOneOf (Done ∷ Unreadable ∷ BadSchema ∷ BadScript ∷ BadSchedule ∷ CutOff ∷ NoMemory ∷ NotBuilt ∷ []) answer
  replay_statuses = by_replay (λ r h. (0, lit< tt, sym r)) (λ r h. (1, lit< tt, sym r)) (λ r h. (2, lit< tt, sym r)) (λ r h. (3, lit< tt, sym r))
      (λ r h. (4, lit< tt, sym r)) (λ r h. (7, lit< tt, sym r)) (λ r. (5, lit< tt, sym r)) (λ r. (6, lit< tt, sym r))

  pub replay_done : answer ≡ number_of Done → Shows ink (IsDone names sight)
  replay_done is = told_as names (ReplayOwes names sight) sight ink answer end Done is

  pub replay_unreadable : answer ≡ number_of Unreadable → Shows ink (IsUnreadable names sight)
  replay_unreadable is = told_as names (ReplayOwes names sight) sight ink answer end Unreadable is

  pub replay_bad_schema : answer ≡ number_of BadSchema → Shows ink (IsBadSchema names sight)
  replay_bad_schema is = told_as names (ReplayOwes names sight) sight ink answer end BadSchema is

  pub replay_bad_script : answer ≡ number_of BadScript → Shows ink (IsBadScript names sight)
  replay_bad_script is = told_as names (ReplayOwes names sight) sight ink answer end BadScript is

  pub replay_bad_schedule : answer ≡ number_of BadSchedule → Shows ink (IsBadSchedule names sight)
  replay_bad_schedule is = told_as names (ReplayOwes names sight) sight ink answer end BadSchedule is

  pub replay_not_built : answer ≡ number_of NotBuilt → Shows ink (IsNotBuilt names sight)
  replay_not_built is = told_as names (ReplayOwes names sight) sight ink answer end NotBuilt is

  pub replay_interrupted : answer ≡ number_of CutOff → IsInterrupted names sight ink
  replay_interrupted is = told_as names (ReplayOwes names sight) sight ink answer end CutOff is

  pub replay_memory : answer ≡ number_of NoMemory → IsSilent ink
  replay_memory is = told_as names (ReplayOwes names sight) sight ink answer end NoMemory is

  -- no replay ends with the usage
  pub replay_not_usage : answer ≡ number_of Usage → ⊥
  replay_not_usage is = (told_as names (ReplayOwes names sight) sight ink answer end Usage is).1

  -- nor with a bad report
  pub replay_not_bad_report : answer ≡ number_of BadReport → ⊥
  replay_not_bad_report is = (told_as names (ReplayOwes names sight) sight ink answer end BadReport is).1

  pub replay_failed_read : sight.faults < sight.faults_then → IsOneOf (Unreadable ∷ CutOff ∷ NoMemory ∷ []) answer
  replay_failed_read rose = by_replay
      (λ r h. let same = h.1.3.2 in absurd (omega arith))
      (λ r h. (0, lit< tt, sym r))
      (λ r h. let same = h.1.3.2 in absurd (omega arith))
      (λ r h. let same = h.1.4.2 in absurd (omega arith))
      (λ r h. let same = h.1.4.2 in absurd (omega arith))
      (λ r h. let same = h.1.5.2 in absurd (omega arith))
      (λ r. (1, lit< tt, sym r)) (λ r. (2, lit< tt, sym r))

  pub replay_too_long : HasTooLong names sight → IsOneOf (Unreadable ∷ CutOff ∷ NoMemory ∷ []) answer
  replay_too_long (place, name, there, at, is, long) = by_replay
      (λ r h. let short = told_within sight.told names _ place name there h.1.3.0 at is in absurd (omega arith))
      (λ r h. (0, lit< tt, sym r))
      (λ r h. let short = told_within sight.told names _ place name there h.1.3.0 at is in absurd (omega arith))
      (λ r h. let short = told_within sight.told names _ place name there h.1.4.0 at is in absurd (omega arith))
      (λ r h. let short = told_within sight.told names _ place name there h.1.4.0 at is in absurd (omega arith))
      (λ r h. let short = told_within sight.told names _ place name there h.1.5.0 at is in absurd (omega arith))
      (λ r. (1, lit< tt, sym r)) (λ r. (2, lit< tt, sym r))

  pub replay_refused : HasBadSchema names sight → IsOneOf (Unreadable ∷ BadSchema ∷ CutOff ∷ NoMemory ∷ []) answer
  replay_refused bad = by_replay
      (λ r h. absurd (done_is_read names sight h.0 h.1 bad))
      (λ r h. (0, lit< tt, sym r))
      (λ r h. (1, lit< tt, sym r))
      (λ r h. absurd (script_is_read names sight h.0 h.1 bad))
      (λ r h. absurd (schedule_is_read names sight h.0 h.1 bad))
      (λ r h. absurd (not_built_is_read names sight h.0 h.1 bad))
      (λ r. (2, lit< tt, sym r)) (λ r. (3, lit< tt, sym r))

  pub replay_no_script : HasBadScript names sight → IsOneOf (Unreadable ∷ BadScript ∷ CutOff ∷ NoMemory ∷ []) answer
  replay_no_script bad = by_replay
      (λ r s. let h = s.1 in let p = h.4.parts in absurd (script_told names sight h.0 h.1 h.2 h.3 bad h.4.schema h.4.script p.schema_read p.client_read))
      (λ r s. (0, lit< tt, sym r))
      (λ r s. absurd (schema_told names sight s.0 _ _ _ _ _ bad.named bad.schema_told bad.schema_read s.1))
      (λ r s. (1, lit< tt, sym r))
      (λ r s. let h = s.1 in let p = h.5 in absurd (script_told names sight h.0 h.1 h.2 h.4 bad p.schema p.script p.schema_read p.client_read))
      (λ r s. let h = s.1 in let p = h.6.parts in absurd (script_told names sight h.0 h.1 h.2 h.5 bad h.6.schema h.6.script p.schema_read p.client_read))
      (λ r. (2, lit< tt, sym r)) (λ r. (3, lit< tt, sym r))

  pub replay_no_schedule : HasBadSchedule names sight → IsOneOf (Unreadable ∷ BadSchedule ∷ CutOff ∷ NoMemory ∷ []) answer
  replay_no_schedule bad = by_replay
      (λ r s. let h = s.1 in absurd (schedule_told names sight h.0 h.1 h.2 h.3 bad h.4.items h.4.parts.schedule_read))
      (λ r s. (0, lit< tt, sym r))
      (λ r s. absurd (schema_told names sight s.0 _ _ _ _ _ bad.named bad.schema_told bad.schema_read s.1))
      (λ r s. let h = s.1 in absurd (script_not_refused names sight h.0 h.1 h.2 h.3 h.4 bad h.5))
      (λ r s. (1, lit< tt, sym r))
      (λ r s. let h = s.1 in absurd (schedule_told names sight h.0 h.1 h.2 h.5 bad h.6.items h.6.parts.schedule_read))
      (λ r. (2, lit< tt, sym r)) (λ r. (3, lit< tt, sym r))

  pub replay_plain : ArePlain names sight → answer ≡ number_of NotBuilt → ⊥
  replay_plain plain is = let shown = replay_not_built is in plain_built names sight shown.0 plain shown.1
