-- What follows from how a check ends, status by status.
use Rattle.std.proofs.Common.{◌≡◌, ℕ, lit<, ◌<◌, List, [], ◌∷◌, sym, arith}
use Rattle.rdb_runner.specs.declared.status.Status.{Status}
use Rattle.rdb_runner.specs.declared.status.Status.TheVariants.{Done, Usage, Unreadable, BadSchema, BadScript, BadSchedule, CutOff, NoMemory, BadReport, NotBuilt}
use Rattle.rdb_runner.specs.Ending.{Told}
use Rattle.rdb_runner.specs.Promise.{CheckOwes, CheckEnds, IsCheckCutOff}
use Rattle.rdb_runner.specs.Reading.{Sight, IsUnreadable, HasTooLong}
use Rattle.rdb_runner.specs.SchemaFile.{IsChecked, IsBadSchema, HasBadSchema}
use Rattle.rdb_runner.specs.Statuses.{number_of, IsOneOf}
use Rattle.rdb_runner.specs.Telling.{Ink, IsSilent, Shows}
use Rattle.rdb_runner.proofs.BadSchema.{bad_is_not_read}
use Rattle.rdb_runner.proofs.EndingLemmas.{told_as}
use Rattle.rdb_runner.proofs.ReplayLaws.{told_within}

module _ (name : List ℕ) (sight : Sight) (ink : Ink) (answer : ℕ) (end : CheckEnds name sight ink answer) where
  -- the five ways in which a check ends
  pub by_check : {P : Type 0}
      → (answer ≡ 0 → Shows ink (IsChecked name sight) → P)
      → (answer ≡ 3 → Shows ink (IsUnreadable (name ∷ []) sight) → P)
      → (answer ≡ 4 → Shows ink (IsBadSchema (name ∷ []) sight) → P)
      → (answer ≡ 7 → P)
      → (answer ≡ 8 → P)
      → P
  by_check {P} checked unreadable bad_schema cut silent = by_status end.status end.number end.told
    where
      by_status : (s : Status) → answer ≡ number_of s → Told (CheckOwes name sight) ink s → P
      by_status Done is told = checked is told
      by_status Usage is told = absurd told.1
      by_status Unreadable is told = unreadable is told
      by_status BadSchema is told = bad_schema is told
      by_status BadScript is told = absurd told.1
      by_status BadSchedule is told = absurd told.1
      by_status CutOff is told = cut is
      by_status NoMemory is told = silent is
      by_status BadReport is told = absurd told.1
      by_status NotBuilt is told = absurd told.1

  pub check_statuses : IsOneOf (Done ∷ Unreadable ∷ BadSchema ∷ CutOff ∷ NoMemory ∷ []) answer
  check_statuses = by_check (λ r h. (0, lit< tt, sym r)) (λ r h. (1, lit< tt, sym r)) (λ r h. (2, lit< tt, sym r)) (λ r. (3, lit< tt, sym r)) (λ r. (4, lit< tt, sym r))

  pub check_checked : answer ≡ number_of Done → Shows ink (IsChecked name sight)
  check_checked is = told_as (name ∷ []) (CheckOwes name sight) sight ink answer end Done is

  pub check_unreadable : answer ≡ number_of Unreadable → Shows ink (IsUnreadable (name ∷ []) sight)
  check_unreadable is = told_as (name ∷ []) (CheckOwes name sight) sight ink answer end Unreadable is

  pub check_bad_schema : answer ≡ number_of BadSchema → Shows ink (IsBadSchema (name ∷ []) sight)
  check_bad_schema is = told_as (name ∷ []) (CheckOwes name sight) sight ink answer end BadSchema is

  pub check_interrupted : answer ≡ number_of CutOff → IsCheckCutOff name sight ink
  check_interrupted is = told_as (name ∷ []) (CheckOwes name sight) sight ink answer end CutOff is

  pub check_memory : answer ≡ number_of NoMemory → IsSilent ink
  check_memory is = told_as (name ∷ []) (CheckOwes name sight) sight ink answer end NoMemory is

  -- a check ends with no other status
  pub check_never : (s : Status) → (Told (CheckOwes name sight) ink s → ⊥) → answer ≡ number_of s → ⊥
  check_never s never is = never (told_as (name ∷ []) (CheckOwes name sight) sight ink answer end s is)

  pub check_failed_read : sight.faults < sight.faults_then → IsOneOf (Unreadable ∷ CutOff ∷ NoMemory ∷ []) answer
  check_failed_read rose = by_check
      (λ r h. let same = h.1.2.2 in absurd (omega arith)) (λ r h. (0, lit< tt, sym r)) (λ r h. let same = h.1.3.2 in absurd (omega arith))
      (λ r. (1, lit< tt, sym r)) (λ r. (2, lit< tt, sym r))

  pub check_too_long : HasTooLong (name ∷ []) sight → IsOneOf (Unreadable ∷ CutOff ∷ NoMemory ∷ []) answer
  check_too_long (place, n, there, at, is, long) = by_check
      (λ r s. let h = s.1 in let short = told_within sight.told (name ∷ []) (h.0 ∷ []) place n there h.2.0 at is in absurd (omega arith))
      (λ r s. (0, lit< tt, sym r))
      (λ r s. let h = s.1 in let short = told_within sight.told (name ∷ []) (h.0 ∷ h.1) place n there h.3.0 at is in absurd (omega arith))
      (λ r. (1, lit< tt, sym r)) (λ r. (2, lit< tt, sym r))

  pub check_refused : HasBadSchema (name ∷ []) sight → IsOneOf (Unreadable ∷ BadSchema ∷ CutOff ∷ NoMemory ∷ []) answer
  check_refused bad = by_check
      (λ r s. let h = s.1 in absurd (bad_is_not_read (name ∷ []) [] sight h.0 h.1 h.2.0 h.3 bad)) (λ r s. (0, lit< tt, sym r)) (λ r s. (1, lit< tt, sym r))
      (λ r. (2, lit< tt, sym r)) (λ r. (3, lit< tt, sym r))
