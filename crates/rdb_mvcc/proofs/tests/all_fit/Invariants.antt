use Rattle.std.proofs.Common.{ℕ, ◌<◌, get_or}
use Rattle.rdb_base.specs.declared.operation.Op.{Op}
use Rattle.rdb_base.specs.declared.operation.Reply.{Reply}
use Rattle.rdb_base.specs.declared.identity.Kind.TheVariants as kind
use Rattle.rdb_model.specs.Fits.{Fits}
use Rattle.rdb_mvcc.proofs.tests.all_fit.Given as goal

-- each operation so far fits
abbrev pub invariant-loop-op : goal.invariant-loop-op
invariant-loop-op l = (k : ℕ) (d : Op × Reply) → k < l.op-index → Fits l.schema (get_or l.op-items k d).0 kind.ReadWrite
