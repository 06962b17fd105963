use Rattle.std.proofs.Common.{subst}
use Rattle.std.specs.Prelude.{IfOk}
use Rattle.rdb_rows.specs.Decoded.{IsRowOf}
use Rattle.rdb_store.specs.Shapes.{ClassShape}
use Rattle.rdb_store.proofs.class_store.ClassStore.row_in.Goals as goal

pub returns : goal.returns
returns g c v cells holds = subst (λ (s : ClassShape). IfOk c.row_in.result (IsRowOf s.types v.row)) c.self.view_is (c.row_in.ensures v cells holds)
