-- What follows from how words end, status by status.
use Rattle.std.proofs.Common.{◌≡◌, ℕ, lit<, ◌<◌, ◌⊎◌, inl, inr, List, [], ◌∷◌, refl, sym, subst, arith}
use Rattle.rdb_runner.specs.declared.status.Status.{Status}
use Rattle.rdb_runner.specs.declared.status.Status.TheVariants.{Done, Usage, Unreadable, BadSchema, BadScript, BadSchedule, CutOff, NoMemory, BadReport, NotBuilt}
use Rattle.rdb_runner.specs.Command.{IsNoCommandLine, usage_line, Task, replays, audits, checks, unbuilt, task_of, SeesNothing, UsageOwes, UnbuiltOwes, CommandOwes, TaskEnds, WordsEnd, IsCutShort, AsksFor, AsksToAudit, AsksToCheck, AsksForFiles, AsksForOther, AsksInOrder}
use Rattle.rdb_runner.specs.AuditFile.{audit_names, IsAudited, IsBadReport, HasLegalReport, HasBadReport}
use Rattle.rdb_words.specs.Grammar.{Word}
use Rattle.rdb_runner.specs.CommandLine.{Command, IsCommandLine}
use Rattle.rdb_runner.specs.Ending.{Told, Ends}
use Rattle.rdb_runner.specs.Parts.{IsBadScript, IsBadSchedule, HasBadScript, HasBadSchedule}
use Rattle.rdb_runner.specs.PlainPromise.{IsNotBuilt, ArePlain}
use Rattle.rdb_runner.specs.Promise.{IsDone, ReplayEnds, AuditEnds, CheckEnds}
use Rattle.rdb_runner.specs.Reading.{Sight, IsUnreadable, HasTooLong}
use Rattle.rdb_runner.specs.SchemaFile.{IsChecked, IsBadSchema, HasBadSchema}
use Rattle.rdb_runner.specs.Statuses.{number_of, IsOneOf}
use Rattle.rdb_runner.specs.Telling.{Ink, Writes, IsSilent, Shows}
use Rattle.rdb_runner.proofs.AskedFor.{one_job, one_audit, not_both, not_audited, not_checked, job_or_audit, job_or_check, audit_or_check, files_of_job, files_of_audit, files_of_check, no_files, asks_command}
use Rattle.rdb_runner.proofs.AuditLaws.{by_audit, audit_audited, audit_unreadable, audit_bad_schema, audit_bad_report, audit_interrupted, audit_memory, audit_never, audit_failed_read, audit_too_long, audit_refused, audit_no_report, audit_legal}
use Rattle.rdb_runner.proofs.CheckLaws.{by_check, check_checked, check_unreadable, check_bad_schema, check_interrupted, check_memory, check_never, check_failed_read, check_too_long, check_refused}
use Rattle.rdb_runner.proofs.EndingLemmas.{told_as, none_asked}
use Rattle.rdb_runner.proofs.ReplayLaws.{by_replay, replay_done, replay_unreadable, replay_bad_schema, replay_bad_script, replay_bad_schedule, replay_not_built, replay_interrupted, replay_memory, replay_not_usage, replay_not_bad_report, replay_failed_read, replay_too_long, replay_refused, replay_no_script, replay_no_schedule, replay_plain}

module _ (words : List Word) (sight : Sight) (ink : Ink) (answer : ℕ) (end : WordsEnd words sight ink answer) where
  -- the ways in which words end
  by_words : {P : Type 0}
      → (IsNoCommandLine words → Ends [] (UsageOwes sight) sight ink answer → P)
      → ((command : Command) → IsCommandLine words command → task_of command ≡ unbuilt → TaskEnds command unbuilt sight ink answer → P)
      → ((names : List Word) → AsksFor words names → ReplayEnds names sight ink answer → P)
      → ((schema report : Word) → AsksToAudit words schema report → AuditEnds schema report sight ink answer → P)
      → ((name : Word) → AsksToCheck words name → CheckEnds name sight ink answer → P)
      → P
  by_words {P} usage other job audited checked = by_either end.either
    where
      by_task : (command : Command) → IsCommandLine words command → (task : Task) → task_of command ≡ task → TaskEnds command task sight ink answer → P
      by_task command is unbuilt e h = other command is e h
      by_task command is (replays names) e h = job names (command, is, e) h
      by_task command is (audits schema report) e h = audited schema report (command, is, e) h
      by_task command is (checks name) e h = checked name (command, is, e) h

      by_either : IsNoCommandLine words ⊎ ((command : Command) × IsCommandLine words command) → P
      by_either (inl bad) = usage bad (end.usage bad)
      by_either (inr (command, is)) = by_task command is (task_of command) refl (end.command command is)

  usage_as : Ends [] (UsageOwes sight) sight ink answer → (s : Status) → answer ≡ number_of s → Told (UsageOwes sight) ink s
  usage_as h s is = told_as [] (UsageOwes sight) sight ink answer h s is

  other_as : (command : Command) → TaskEnds command unbuilt sight ink answer → (s : Status) → answer ≡ number_of s → Told (UnbuiltOwes command sight) ink s
  other_as command h s is = told_as [] (UnbuiltOwes command sight) sight ink answer h s is

  -- the usage is told, or cut off, or memory is wanting
  by_usage : {P : Type 0} → Ends [] (UsageOwes sight) sight ink answer
      → (answer ≡ 2 → Shows ink (UsageOwes sight Usage) → P) → (answer ≡ 7 → P) → (answer ≡ 8 → P) → P
  by_usage {P} h usage cut silent = by_status h.status h.number h.told
    where
      by_status : (s : Status) → answer ≡ number_of s → Told (UsageOwes sight) ink s → P
      by_status Done is told = absurd told.1
      by_status Usage is told = usage is told
      by_status Unreadable is told = absurd told.1
      by_status BadSchema is told = absurd told.1
      by_status BadScript is told = absurd told.1
      by_status BadSchedule is told = absurd told.1
      by_status CutOff is told = cut is
      by_status NoMemory is told = silent is
      by_status BadReport is told = absurd told.1
      by_status NotBuilt is told = absurd told.1

  -- it is told that the command isn't built, or cut off, or memory is wanting
  by_other : {P : Type 0} → (command : Command) → TaskEnds command unbuilt sight ink answer
      → (answer ≡ 10 → Shows ink (UnbuiltOwes command sight NotBuilt) → P) → (answer ≡ 7 → P) → (answer ≡ 8 → P) → P
  by_other {P} command h other cut silent = by_status h.status h.number h.told
    where
      by_status : (s : Status) → answer ≡ number_of s → Told (UnbuiltOwes command sight) ink s → P
      by_status Done is told = absurd told.1
      by_status Usage is told = absurd told.1
      by_status Unreadable is told = absurd told.1
      by_status BadSchema is told = absurd told.1
      by_status BadScript is told = absurd told.1
      by_status BadSchedule is told = absurd told.1
      by_status CutOff is told = cut is
      by_status NoMemory is told = silent is
      by_status BadReport is told = absurd told.1
      by_status NotBuilt is told = other is told

  -- an audit that words ask for is the one that ends
  as_asked : (schema report s r : Word) → AsksToAudit words schema report → AsksToAudit words s r → AuditEnds s r sight ink answer → AuditEnds schema report sight ink answer
  as_asked schema report s r asks own h =
      let same = one_audit words s r schema report own asks in
      subst (λ (name : Word). AuditEnds name report sight ink answer) same.0 (subst (λ (name : Word). AuditEnds s name sight ink answer) same.1 h)

  pub words_statuses : IsOneOf (Done ∷ Usage ∷ Unreadable ∷ BadSchema ∷ BadScript ∷ BadSchedule ∷ CutOff ∷ NoMemory ∷ BadReport ∷ NotBuilt ∷ []) answer
  words_statuses = by_words
      (λ bad h. by_usage h (λ r s. (1, lit< tt, sym r)) (λ r. (6, lit< tt, sym r)) (λ r. (7, lit< tt, sym r)))
      (λ command is none h. by_other command h (λ r s. (9, lit< tt, sym r)) (λ r. (6, lit< tt, sym r)) (λ r. (7, lit< tt, sym r)))
      (λ names asks h. by_replay names sight ink answer h
      (λ r s. (0, lit< tt, sym r)) (λ r s. (2, lit< tt, sym r)) (λ r s. (3, lit< tt, sym r)) (λ r s. (4, lit< tt, sym r))
      (λ r s. (5, lit< tt, sym r)) (λ r s. (9, lit< tt, sym r)) (λ r. (6, lit< tt, sym r)) (λ r. (7, lit< tt, sym r)))
      (λ schema report asks h. by_audit schema report sight ink answer h
      (λ r s. (0, lit< tt, sym r)) (λ r s. (2, lit< tt, sym r)) (λ r s. (3, lit< tt, sym r)) (λ r s. (8, lit< tt, sym r)) (λ r. (6, lit< tt, sym r)) (λ r. (7, lit< tt, sym r)))
      (λ name asks h. by_check name sight ink answer h
      (λ r s. (0, lit< tt, sym r)) (λ r s. (2, lit< tt, sym r)) (λ r s. (3, lit< tt, sym r)) (λ r. (6, lit< tt, sym r)) (λ r. (7, lit< tt, sym r)))

  pub words_done : answer ≡ number_of Done
      → ((names : List Word) × AsksFor words names × Shows ink (IsDone names sight))
      ⊎ ((schema report : Word) × AsksToAudit words schema report × Shows ink (IsAudited schema report sight))
      ⊎ ((name : Word) × AsksToCheck words name × Shows ink (IsChecked name sight))
  words_done is = by_words
      (λ bad h. let t = usage_as h Done is in absurd t.1)
      (λ command asked none h. let t = other_as command h Done is in absurd t.1)
      (λ names asks h. inl (names, asks, replay_done names sight ink answer h is))
      (λ schema report asks h. inr (inl (schema, report, asks, audit_audited schema report sight ink answer h is)))
      (λ name asks h. inr (inr (name, asks, check_checked name sight ink answer h is)))

  pub words_usage : answer ≡ number_of Usage → IsNoCommandLine words × Writes ink usage_line × SeesNothing sight
  words_usage is = by_words
      (λ bad h. let t = usage_as h Usage is in (bad, subst (Writes ink) t.1.0 t.2, t.1.1))
      (λ command asked none h. let t = other_as command h Usage is in absurd t.1)
      (λ names asks h. absurd (replay_not_usage names sight ink answer h is))
      (λ schema report asks h. absurd (audit_never schema report sight ink answer h Usage (λ t. t.1) is))
      (λ name asks h. absurd (check_never name sight ink answer h Usage (λ t. t.1) is))

  pub words_unreadable : answer ≡ number_of Unreadable → (names : List Word) × AsksForFiles words names × Shows ink (IsUnreadable names sight)
  words_unreadable is = by_words
      (λ bad h. let t = usage_as h Unreadable is in absurd t.1)
      (λ command asked none h. let t = other_as command h Unreadable is in absurd t.1)
      (λ names asks h. (names, inl asks, replay_unreadable names sight ink answer h is))
      (λ schema report asks h. (audit_names schema report, inr (inl (schema, report, asks, refl)), audit_unreadable schema report sight ink answer h is))
      (λ name asks h. (name ∷ [], inr (inr (name, asks, refl)), check_unreadable name sight ink answer h is))

  pub words_bad_schema : answer ≡ number_of BadSchema → (names : List Word) × AsksForFiles words names × Shows ink (IsBadSchema names sight)
  words_bad_schema is = by_words
      (λ bad h. let t = usage_as h BadSchema is in absurd t.1)
      (λ command asked none h. let t = other_as command h BadSchema is in absurd t.1)
      (λ names asks h. (names, inl asks, replay_bad_schema names sight ink answer h is))
      (λ schema report asks h. (audit_names schema report, inr (inl (schema, report, asks, refl)), audit_bad_schema schema report sight ink answer h is))
      (λ name asks h. (name ∷ [], inr (inr (name, asks, refl)), check_bad_schema name sight ink answer h is))

  pub words_bad_script : answer ≡ number_of BadScript → (names : List Word) × AsksFor words names × Shows ink (IsBadScript names sight)
  words_bad_script is = by_words
      (λ bad h. let t = usage_as h BadScript is in absurd t.1)
      (λ command asked none h. let t = other_as command h BadScript is in absurd t.1)
      (λ names asks h. (names, asks, replay_bad_script names sight ink answer h is))
      (λ schema report asks h. absurd (audit_never schema report sight ink answer h BadScript (λ t. t.1) is))
      (λ name asks h. absurd (check_never name sight ink answer h BadScript (λ t. t.1) is))

  pub words_bad_schedule : answer ≡ number_of BadSchedule → (names : List Word) × AsksFor words names × Shows ink (IsBadSchedule names sight)
  words_bad_schedule is = by_words
      (λ bad h. let t = usage_as h BadSchedule is in absurd t.1)
      (λ command asked none h. let t = other_as command h BadSchedule is in absurd t.1)
      (λ names asks h. (names, asks, replay_bad_schedule names sight ink answer h is))
      (λ schema report asks h. absurd (audit_never schema report sight ink answer h BadSchedule (λ t. t.1) is))
      (λ name asks h. absurd (check_never name sight ink answer h BadSchedule (λ t. t.1) is))

  pub words_bad_report : answer ≡ number_of BadReport → (schema report : Word) × AsksToAudit words schema report × Shows ink (IsBadReport schema report sight)
  words_bad_report is = by_words
      (λ bad h. let t = usage_as h BadReport is in absurd t.1)
      (λ command asked none h. let t = other_as command h BadReport is in absurd t.1)
      (λ names asks h. absurd (replay_not_bad_report names sight ink answer h is))
      (λ schema report asks h. (schema, report, asks, audit_bad_report schema report sight ink answer h is))
      (λ name asks h. absurd (check_never name sight ink answer h BadReport (λ t. t.1) is))

  pub words_not_built : answer ≡ number_of NotBuilt
      → Shows ink (AsksForOther words) ⊎ ((names : List Word) × AsksFor words names × Shows ink (IsNotBuilt names sight))
  words_not_built is = by_words
      (λ bad h. let t = usage_as h NotBuilt is in absurd t.1)
      (λ command asked none h. let t = other_as command h NotBuilt is in inl (t.0, (command, asked, none, t.1.0), t.2))
      (λ names asks h. inr (names, asks, replay_not_built names sight ink answer h is))
      (λ schema report asks h. absurd (audit_never schema report sight ink answer h NotBuilt (λ t. t.1) is))
      (λ name asks h. absurd (check_never name sight ink answer h NotBuilt (λ t. t.1) is))

  pub words_interrupted : answer ≡ number_of CutOff → IsCutShort words sight ink
  words_interrupted is = by_words
      (λ bad h. let t = usage_as h CutOff is in (t.0, t.1, inl (bad, t.2), t.3))
      (λ command asked none h. let t = other_as command h CutOff is in
      (t.0, t.1, inr (command, asked, subst (λ (task : Task). CommandOwes command task sight t.0 t.1) (sym none) t.2), t.3))
      (λ names asks h. let t = replay_interrupted names sight ink answer h is in
      (t.0, t.1, inr (asks.0, asks.1, subst (λ (task : Task). CommandOwes asks.0 task sight t.0 t.1) (sym asks.2) t.2), t.3))
      (λ schema report asks h. let t = audit_interrupted schema report sight ink answer h is in
      (t.0, t.1, inr (asks.0, asks.1, subst (λ (task : Task). CommandOwes asks.0 task sight t.0 t.1) (sym asks.2) t.2), t.3))
      (λ name asks h. let t = check_interrupted name sight ink answer h is in
      (t.0, t.1, inr (asks.0, asks.1, subst (λ (task : Task). CommandOwes asks.0 task sight t.0 t.1) (sym asks.2) t.2), t.3))

  pub words_memory : answer ≡ number_of NoMemory → IsSilent ink
  words_memory is = by_words
      (λ bad h. usage_as h NoMemory is)
      (λ command asked none h. other_as command h NoMemory is)
      (λ names asks h. replay_memory names sight ink answer h is)
      (λ schema report asks h. audit_memory schema report sight ink answer h is)
      (λ name asks h. check_memory name sight ink answer h is)

  pub words_asked : AsksInOrder words sight
  words_asked = by_words
      (λ bad h. inr (none_asked sight h.asked))
      (λ command asked none h. inr (none_asked sight h.asked))
      (λ names asks h. inl (names, inl asks, h.asked))
      (λ schema report asks h. inl (audit_names schema report, inr (inl (schema, report, asks, refl)), h.asked))
      (λ name asks h. inl (name ∷ [], inr (inr (name, asks, refl)), h.asked))

  -- words that are no command line take no memory
  pub words_none : IsNoCommandLine words → IsOneOf (Usage ∷ CutOff ∷ []) answer
  words_none bad = by_usage (end.usage bad) (λ r s. (0, lit< tt, sym r)) (λ r. (1, lit< tt, sym r))
      (λ r. let built = end.memory r in absurd (bad built.0 built.1))

  pub words_failed_read : sight.faults < sight.faults_then → IsOneOf (Unreadable ∷ CutOff ∷ NoMemory ∷ []) answer
  words_failed_read rose = by_words
      (λ bad h. by_usage h (λ r s. let same = s.1.1.1 in absurd (omega arith)) (λ r. (1, lit< tt, sym r)) (λ r. (2, lit< tt, sym r)))
      (λ command is none h. by_other command h (λ r s. let same = s.1.1.1 in absurd (omega arith)) (λ r. (1, lit< tt, sym r)) (λ r. (2, lit< tt, sym r)))
      (λ names asks h. replay_failed_read names sight ink answer h rose)
      (λ schema report asks h. audit_failed_read schema report sight ink answer h rose)
      (λ name asks h. check_failed_read name sight ink answer h rose)

  pub words_too_long : (files : List Word) → AsksForFiles words files → HasTooLong files sight → IsOneOf (Unreadable ∷ CutOff ∷ NoMemory ∷ []) answer
  words_too_long files asks bad = by_words
      (λ bad h. absurd (asks_command words files asks bad))
      (λ command is none h. absurd (no_files words command files is none asks))
      (λ names own h. replay_too_long names sight ink answer h (subst (λ (ns : List Word). HasTooLong ns sight) (files_of_job words names files own asks) bad))
      (λ schema report own h. audit_too_long schema report sight ink answer h (subst (λ (ns : List Word). HasTooLong ns sight) (files_of_audit words schema report files own asks) bad))
      (λ name own h. check_too_long name sight ink answer h (subst (λ (ns : List Word). HasTooLong ns sight) (files_of_check words name files own asks) bad))

  pub words_refused : (files : List Word) → AsksForFiles words files → HasBadSchema files sight → IsOneOf (Unreadable ∷ BadSchema ∷ CutOff ∷ NoMemory ∷ []) answer
  words_refused files asks bad = by_words
      (λ bad h. absurd (asks_command words files asks bad))
      (λ command is none h. absurd (no_files words command files is none asks))
      (λ names own h. replay_refused names sight ink answer h (subst (λ (ns : List Word). HasBadSchema ns sight) (files_of_job words names files own asks) bad))
      (λ schema report own h. audit_refused schema report sight ink answer h (subst (λ (ns : List Word). HasBadSchema ns sight) (files_of_audit words schema report files own asks) bad))
      (λ name own h. check_refused name sight ink answer h (subst (λ (ns : List Word). HasBadSchema ns sight) (files_of_check words name files own asks) bad))

  pub words_no_script : (files : List Word) → AsksFor words files → HasBadScript files sight → IsOneOf (Unreadable ∷ BadScript ∷ CutOff ∷ NoMemory ∷ []) answer
  words_no_script files asks bad = by_words
      (λ bad h. absurd (bad asks.0 asks.1))
      (λ command is none h. absurd (not_both words command files is none asks))
      (λ names own h. replay_no_script names sight ink answer h (subst (λ (ns : List Word). HasBadScript ns sight) (one_job words files names asks own) bad))
      (λ schema report own h. absurd (job_or_audit words files schema report asks own))
      (λ name own h. absurd (job_or_check words files name asks own))

  pub words_no_schedule : (files : List Word) → AsksFor words files → HasBadSchedule files sight → IsOneOf (Unreadable ∷ BadSchedule ∷ CutOff ∷ NoMemory ∷ []) answer
  words_no_schedule files asks bad = by_words
      (λ bad h. absurd (bad asks.0 asks.1))
      (λ command is none h. absurd (not_both words command files is none asks))
      (λ names own h. replay_no_schedule names sight ink answer h (subst (λ (ns : List Word). HasBadSchedule ns sight) (one_job words files names asks own) bad))
      (λ schema report own h. absurd (job_or_audit words files schema report asks own))
      (λ name own h. absurd (job_or_check words files name asks own))

  pub words_no_report : (schema report : Word) → AsksToAudit words schema report → HasBadReport schema report sight → IsOneOf (Unreadable ∷ BadReport ∷ CutOff ∷ NoMemory ∷ []) answer
  words_no_report schema report asks bad = by_words
      (λ none h. absurd (none asks.0 asks.1))
      (λ command is none h. absurd (not_audited words command schema report is none asks))
      (λ names own h. absurd (job_or_audit words names schema report own asks))
      (λ s r own h. audit_no_report schema report sight ink answer (as_asked schema report s r asks own h) bad)
      (λ name own h. absurd (audit_or_check words schema report name asks own))

  pub words_legal : (schema report : Word) → AsksToAudit words schema report → HasLegalReport schema report sight → IsOneOf (Done ∷ Unreadable ∷ CutOff ∷ NoMemory ∷ []) answer
  words_legal schema report asks legal = by_words
      (λ none h. absurd (none asks.0 asks.1))
      (λ command is none h. absurd (not_audited words command schema report is none asks))
      (λ names own h. absurd (job_or_audit words names schema report own asks))
      (λ s r own h. audit_legal schema report sight ink answer (as_asked schema report s r asks own h) legal)
      (λ name own h. absurd (audit_or_check words schema report name asks own))

  pub words_plain : (names : List Word) → AsksFor words names → ArePlain names sight → answer ≡ number_of NotBuilt → ⊥
  words_plain names asks plain is = by_words
      (λ bad h. bad asks.0 asks.1)
      (λ command asked none h. not_both words command names asked none asks)
      (λ own has h. replay_plain own sight ink answer h (subst (λ (ns : List Word). ArePlain ns sight) (one_job words names own asks has) plain) is)
      (λ schema report own h. job_or_audit words names schema report asks own)
      (λ name own h. job_or_check words names name asks own)

  pub words_check_built : (name : Word) → AsksToCheck words name → answer ≡ number_of NotBuilt → ⊥
  words_check_built name asks is = by_words
      (λ bad h. bad asks.0 asks.1)
      (λ command asked none h. not_checked words command name asked none asks)
      (λ own has h. job_or_check words own name has asks)
      (λ schema report own h. audit_or_check words schema report name own asks)
      (λ other own h. check_never other sight ink answer h NotBuilt (λ t. t.1) is)

  pub words_audit_built : (schema report : Word) → AsksToAudit words schema report → answer ≡ number_of NotBuilt → ⊥
  words_audit_built schema report asks is = by_words
      (λ bad h. bad asks.0 asks.1)
      (λ command asked none h. not_audited words command schema report asked none asks)
      (λ own has h. job_or_audit words own schema report has asks)
      (λ s r own h. audit_never s r sight ink answer h NotBuilt (λ t. t.1) is)
      (λ name own h. audit_or_check words schema report name asks own)
