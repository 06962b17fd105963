use Rattle.rdb_runner.proofs.AuditLaws.{audit_failed_read, audit_legal, audit_no_report, audit_refused, audit_too_long}
use Rattle.rdb_runner.proofs.laws.audit_is_refused.Goals as goal

pub returns : goal.returns
returns c = record {
  failed_read = audit_failed_read;
  too_long = audit_too_long;
  refused = audit_refused;
  no_report = audit_no_report;
  legal_report = audit_legal;
}
