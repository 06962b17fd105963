use Rattle.std.proofs.Common.{◌≡◌, sym, ◌∙◌}
use Rattle.rdb_rows.specs.Versions.{bytes_in}
use Rattle.rdb_rows.proofs.Decodings.{no_row, a_row}
use Rattle.rdb_rows.proofs.decode.row_in.Goals as goal

pub returns-then-is_tombstone : goal.returns-then-is_tombstone
returns-then-is_tombstone g c v cells holds =
    no_row c.args.accessors.now v.row (sym (c.is_tombstone.ensures v cells holds) ∙ c.if-is_tombstone.true)

pub returns : goal.returns
returns g c v cells holds =
    let bytes : c.as_slice.result.now ≡ bytes_in v.row = c.as_slice.ensures ∙ c.in_ok-bytes.ensures v cells holds in
    a_row c.args.accessors.now v.row c.as_slice.result.now c.in_ok-decode.field-0 (sym (c.is_tombstone.ensures v cells holds) ∙ c.if-is_tombstone.false) bytes
    c.in_ok-decode.ensures
