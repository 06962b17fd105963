use Rattle.std.proofs.Common.{Err, subst}
use Rattle.rdb_audit.specs.declared.verdict.AuditFault.{AuditFault}
use Rattle.rdb_audit.specs.declared.verdict.Counts.{Counts}
use Rattle.rdb_audit.specs.Verdicts.{IsAnswer, IsAuditFault}
use Rattle.rdb_runner.proofs.AuditLemmas.{audit_bad_line, audit_illegal}
use Rattle.rdb_runner.proofs.audit.audited.Goals as goal

pub returns-in-Err-BadLine : goal.returns-in-Err-BadLine
returns-in-Err-BadLine c =
    let schema = c.in-Ok.schema in
    let arm = c.in-Err-BadLine in
    audit_bad_line c.args.schema.now c.args.report.now schema c.in-Ok.ensures.read arm.line (subst (IsAuditFault schema c.args.report.now) arm.field-0-is arm.ensures.fault)
    (λ counts legal. subst (λ (f : AuditFault). IsAnswer {A = Counts} (Err f) counts) arm.field-0-is (arm.ensures.only counts legal))

pub returns-in-Err-Illegal : goal.returns-in-Err-Illegal
returns-in-Err-Illegal c =
    let schema = c.in-Ok.schema in
    let arm = c.in-Err-Illegal in
    audit_illegal c.args.schema.now c.args.report.now schema c.in-Ok.ensures.read arm.entry arm.why (subst (IsAuditFault schema c.args.report.now) arm.field-0-is arm.ensures.fault)
    (λ counts legal. subst (λ (f : AuditFault). IsAnswer {A = Counts} (Err f) counts) arm.field-0-is (arm.ensures.only counts legal))
