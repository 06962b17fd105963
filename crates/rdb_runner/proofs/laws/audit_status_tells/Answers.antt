use Rattle.rdb_runner.proofs.AuditLaws.{audit_audited, audit_bad_report, audit_bad_schema, audit_interrupted, audit_memory, audit_statuses, audit_unreadable}
use Rattle.rdb_runner.proofs.laws.audit_status_tells.Goals as goal

pub returns : goal.returns
returns c = record {
  statuses = audit_statuses;
  audited = audit_audited;
  unreadable = audit_unreadable;
  bad_schema = audit_bad_schema;
  bad_report = audit_bad_report;
  interrupted = audit_interrupted;
  memory = audit_memory;
  asked = λ schema report sight ink answer end. end.asked;
}
