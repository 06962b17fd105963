-- Words ask for one command, and so for one task and one list of files.
use Rattle.std.proofs.Common.{◌≡◌, inl, inr, List, [], ◌∷◌, sym, ap, ◌∙◌}
use Rattle.rdb_runner.specs.AuditFile.{audit_names}
use Rattle.rdb_runner.specs.Command.{IsNoCommandLine, replays, audits, checks, unbuilt, task_of, AsksFor, AsksToAudit, AsksToCheck, AsksForFiles}
use Rattle.rdb_words.specs.Grammar.{Word}
use Rattle.rdb_runner.specs.CommandLine.{Command, IsCommandLine}
use Rattle.rdb_runner.proofs.CommandLineMeaning.{one_line}

-- words ask for one task
one_task : (words : List Word) (one other : Command) → IsCommandLine words one → IsCommandLine words other → task_of one ≡ task_of other
one_task words one other a b = ap task_of (one_line words one other a b)

-- words ask for one job
pub one_job : (words one other : List Word) → AsksFor words one → AsksFor words other → one ≡ other
one_job words one other a b =
    let both : replays one ≡ replays other = sym a.2 ∙ one_task words a.0 b.0 a.1 b.1 ∙ b.2 in
    cc

-- words ask for one check
pub one_check : (words : List Word) (one other : Word) → AsksToCheck words one → AsksToCheck words other → one ≡ other
one_check words one other a b =
    let both : checks one ≡ checks other = sym a.2 ∙ one_task words a.0 b.0 a.1 b.1 ∙ b.2 in
    cc

-- words ask for one audit
pub one_audit : (words : List Word) (schema report s r : Word) → AsksToAudit words schema report → AsksToAudit words s r → (schema ≡ s) × (report ≡ r)
one_audit words schema report s r a b =
    let both : audits schema report ≡ audits s r = sym a.2 ∙ one_task words a.0 b.0 a.1 b.1 ∙ b.2 in
    (cc, cc)

pub job_or_audit : (words names : List Word) (schema report : Word) → AsksFor words names → AsksToAudit words schema report → ⊥
job_or_audit words names schema report a b =
    let both : replays names ≡ audits schema report = sym a.2 ∙ one_task words a.0 b.0 a.1 b.1 ∙ b.2 in
    cc

pub audit_or_check : (words : List Word) (schema report name : Word) → AsksToAudit words schema report → AsksToCheck words name → ⊥
audit_or_check words schema report name a b =
    let both : audits schema report ≡ checks name = sym a.2 ∙ one_task words a.0 b.0 a.1 b.1 ∙ b.2 in
    cc

pub job_or_check : (words names : List Word) (name : Word) → AsksFor words names → AsksToCheck words name → ⊥
job_or_check words names name a b =
    let both : replays names ≡ checks name = sym a.2 ∙ one_task words a.0 b.0 a.1 b.1 ∙ b.2 in
    cc

-- words don't ask for a job and for another command
pub not_both : (words : List Word) (command : Command) (names : List Word) → IsCommandLine words command → task_of command ≡ unbuilt → AsksFor words names → ⊥
not_both words command names is none asks =
    let both : unbuilt ≡ replays names = sym none ∙ one_task words command asks.0 is asks.1 ∙ asks.2 in
    cc

pub not_audited : (words : List Word) (command : Command) (schema report : Word) → IsCommandLine words command → task_of command ≡ unbuilt → AsksToAudit words schema report → ⊥
not_audited words command schema report is none asks =
    let both : unbuilt ≡ audits schema report = sym none ∙ one_task words command asks.0 is asks.1 ∙ asks.2 in
    cc

pub not_checked : (words : List Word) (command : Command) (name : Word) → IsCommandLine words command → task_of command ≡ unbuilt → AsksToCheck words name → ⊥
not_checked words command name is none asks =
    let both : unbuilt ≡ checks name = sym none ∙ one_task words command asks.0 is asks.1 ∙ asks.2 in
    cc

-- the files that words' job reads
pub files_of_job : (words names files : List Word) → AsksFor words names → AsksForFiles words files → files ≡ names
files_of_job words names files job (inl asks) = one_job words files names asks job
files_of_job words names files job (inr (inl asks)) = absurd (job_or_audit words names asks.0 asks.1 job asks.2)
files_of_job words names files job (inr (inr asks)) = absurd (job_or_check words names asks.0 job asks.1)

-- the files that words' audit reads
pub files_of_audit : (words : List Word) (schema report : Word) (files : List Word) → AsksToAudit words schema report → AsksForFiles words files → files ≡ audit_names schema report
files_of_audit words schema report files audited (inl asks) = absurd (job_or_audit words files schema report asks audited)
files_of_audit words schema report files audited (inr (inl asks)) = let same = one_audit words asks.0 asks.1 schema report asks.2 audited in asks.3 ∙ (λ i. audit_names (same.0 i) (same.1 i))
files_of_audit words schema report files audited (inr (inr asks)) = absurd (audit_or_check words schema report asks.0 audited asks.1)

-- the files that words' check reads
pub files_of_check : (words : List Word) (name : Word) (files : List Word) → AsksToCheck words name → AsksForFiles words files → files ≡ name ∷ []
files_of_check words name files checked (inl asks) = absurd (job_or_check words files name asks checked)
files_of_check words name files checked (inr (inl asks)) = absurd (audit_or_check words asks.0 asks.1 name asks.2 checked)
files_of_check words name files checked (inr (inr asks)) = asks.2 ∙ ap (λ (n : Word). n ∷ []) (one_check words asks.0 name asks.1 checked)

-- words that ask for files ask for a command that is built
pub no_files : (words : List Word) (command : Command) (files : List Word) → IsCommandLine words command → task_of command ≡ unbuilt → AsksForFiles words files → ⊥
no_files words command files is none (inl asks) = not_both words command files is none asks
no_files words command files is none (inr (inl asks)) = not_audited words command asks.0 asks.1 is none asks.2
no_files words command files is none (inr (inr asks)) = not_checked words command asks.0 is none asks.1

pub asks_command : (words files : List Word) → AsksForFiles words files → IsNoCommandLine words → ⊥
asks_command words files (inl asks) bad = bad asks.0 asks.1
asks_command words files (inr (inl asks)) bad = bad asks.2.0 asks.2.1
asks_command words files (inr (inr asks)) bad = bad asks.1.0 asks.1.1
