use Rattle.rdb_access.proofs.Decoding.{decoded}
use Rattle.rdb_access.proofs.accessors.Accessors.decode.Goals as goal

pub returns : goal.returns
returns c row e = decoded c.read_row.result c.self.inside.types c.args.self.now row c.args.bytes.now c.self.view_is e c.read_row.ensures
