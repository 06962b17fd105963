use Rattle.std.proofs.Common.{◌∙◌, ◌∷◌, ◌++◌, ◌<◌, ◌≤◌, ◌+◌, ℕ, List, Some, length, drop, get_or, slice_get, sym, ap, subst, arith, length-append}
use Rattle.std.proofs.lemmas.List.{drop-append-le}
use Rattle.rdb_cells.specs.Keys.{Version, text_of}
use Rattle.rdb_rows.specs.Places.{numbers_in}
use Rattle.rdb_rows.specs.RowKeys.{KeyShape}
use Rattle.rdb_rows.specs.Spots.{Stand}
use Rattle.rdb_rows.proofs.KeyRows.{field_at}
use Rattle.rdb_rows.proofs.KeyedRows.{known_by, byte_past, byte_at}
use Rattle.rdb_rows.proofs.KeyTexts.{one_version, one_text, text_found}
use Rattle.rdb_rows.proofs.LeafSpots.{next_word, word_there}
use Rattle.rdb_rows.proofs.SpotLemmas.{has_bytes}
use Rattle.rdb_rows.proofs.row_keys.RowKeysKeys.byte.Goals as goal

pub find_field-spot-requires-clause-field : goal.find_field-spot-requires-clause-field
find_field-spot-requires-clause-field g c = field_at c.self.inside.types c.self.inside.fields 0 c.at.result.now c.at.ensures c.self.invariant

pub find_field-spot-requires-clause-row : goal.find_field-spot-requires-clause-row
find_field-spot-requires-clause-row g c =
    let own : KeyShape = record { types = c.self.inside.types; fields = numbers_in c.self.inside.fields } in
    let image = g.C.Cells.image c.args.cells.now in
    let k = known_by own c.args.self.now image c.args.version.number c.requires.0 c.read.result.now c.row_spot-first.result c.self.view_is c.requires.1 c.read.ensures c.row_spot-first.ensures.spot c.row_spot-first.ensures.short in
    (k.row, k.begins)

pub next_byte-many-requires : goal.next_byte-many-requires
next_byte-many-requires g c =
    let own : KeyShape = record { types = c.self.inside.types; fields = numbers_in c.self.inside.fields } in
    let image = g.C.Cells.image c.args.cells.now in
    let k = known_by own c.args.self.now image c.args.version.number c.requires.0 c.read.result.now c.row_spot-first.result c.self.view_is c.requires.1 c.read.ensures c.row_spot-first.ensures.spot c.row_spot-first.ensures.short in
    let text = text_found c.self.inside.types c.self.inside.fields image c.requires.0 c.read.result.now c.row_spot-first.result c.find_field-spot.result c.at.result.now k c.at.ensures c.find_field-spot.ensures c.requires.2 in
    has_bytes image c.find_field-spot.result 1 (length text.0 ∷ (text.0 ++ text.1)) (omega arith) text.3

pub returns-then-place-from : goal.returns-then-place-from
returns-then-place-from g c v said words is =
    let own : KeyShape = record { types = c.self.inside.types; fields = numbers_in c.self.inside.fields } in
    let image = g.C.Cells.image c.args.cells.now in
    let k = known_by own c.args.self.now image c.args.version.number c.requires.0 c.read.result.now c.row_spot-first.result c.self.view_is c.requires.1 c.read.ensures c.row_spot-first.ensures.spot c.row_spot-first.ensures.short in
    let text = text_found c.self.inside.types c.self.inside.fields image c.requires.0 c.read.result.now c.row_spot-first.result c.find_field-spot.result c.at.result.now k c.at.ensures c.find_field-spot.ensures c.requires.2 in
    let next = c.next_byte-many.ensures (length text.0) (text.0 ++ text.1) text.3 in
    let many = next.0 in
    let from = c.from.ensures in
    let same = one_text _ words text.0 (sym (ap (λ (w : Version). text_of w.key) (one_version _ v c.requires.0 said c.requires.1)) ∙ is) text.2 in
    let long = ap (λ (ws : List ℕ). length ws) same in
    let past : c.from.result ≤ c.args.place = c.if-place-from.true in
    byte_past words c.args.place (omega arith)

pub skip-spot-requires : goal.skip-spot-requires
skip-spot-requires g c =
    let own : KeyShape = record { types = c.self.inside.types; fields = numbers_in c.self.inside.fields } in
    let image = g.C.Cells.image c.args.cells.now in
    let k = known_by own c.args.self.now image c.args.version.number c.requires.0 c.read.result.now c.row_spot-first.result c.self.view_is c.requires.1 c.read.ensures c.row_spot-first.ensures.spot c.row_spot-first.ensures.short in
    let text = text_found c.self.inside.types c.self.inside.fields image c.requires.0 c.read.result.now c.row_spot-first.result c.find_field-spot.result c.at.result.now k c.at.ensures c.find_field-spot.ensures c.requires.2 in
    let next = c.next_byte-many.ensures (length text.0) (text.0 ++ text.1) text.3 in
    let many = next.0 in
    let from = c.from.ensures in
    let both = length-append text.0 text.1 in
    let below : c.args.place < c.from.result = c.if-place-from.false in
    let near = next.1.near in
    omega arith

pub next_byte-requires : goal.next_byte-requires
next_byte-requires g c =
    let own : KeyShape = record { types = c.self.inside.types; fields = numbers_in c.self.inside.fields } in
    let image = g.C.Cells.image c.args.cells.now in
    let k = known_by own c.args.self.now image c.args.version.number c.requires.0 c.read.result.now c.row_spot-first.result c.self.view_is c.requires.1 c.read.ensures c.row_spot-first.ensures.spot c.row_spot-first.ensures.short in
    let text = text_found c.self.inside.types c.self.inside.fields image c.requires.0 c.read.result.now c.row_spot-first.result c.find_field-spot.result c.at.result.now k c.at.ensures c.find_field-spot.ensures c.requires.2 in
    let next = c.next_byte-many.ensures (length text.0) (text.0 ++ text.1) text.3 in
    let many = next.0 in
    let from = c.from.ensures in
    let both = length-append text.0 text.1 in
    let below : c.args.place < c.from.result = c.if-place-from.false in
    let skipped = c.skip-spot.ensures.stand image (text.0 ++ text.1) (omega arith) next.1 in
    word_there image c.skip-spot.result text.0 text.1 c.args.place (omega arith) (subst (Stand image c.skip-spot.result) (drop-append-le c.args.place text.0 text.1 (omega arith)) skipped)

pub returns : goal.returns
returns g c v said words is =
    let own : KeyShape = record { types = c.self.inside.types; fields = numbers_in c.self.inside.fields } in
    let image = g.C.Cells.image c.args.cells.now in
    let k = known_by own c.args.self.now image c.args.version.number c.requires.0 c.read.result.now c.row_spot-first.result c.self.view_is c.requires.1 c.read.ensures c.row_spot-first.ensures.spot c.row_spot-first.ensures.short in
    let text = text_found c.self.inside.types c.self.inside.fields image c.requires.0 c.read.result.now c.row_spot-first.result c.find_field-spot.result c.at.result.now k c.at.ensures c.find_field-spot.ensures c.requires.2 in
    let next = c.next_byte-many.ensures (length text.0) (text.0 ++ text.1) text.3 in
    let many = next.0 in
    let from = c.from.ensures in
    let both = length-append text.0 text.1 in
    let below : c.args.place < c.from.result = c.if-place-from.false in
    let skipped = c.skip-spot.ensures.stand image (text.0 ++ text.1) (omega arith) next.1 in
    let word = next_word image c.skip-spot.result text.0 text.1 c.args.place (omega arith) (subst (Stand image c.skip-spot.result) (drop-append-le c.args.place text.0 text.1 (omega arith)) skipped) in
    let byte = (c.next_byte.ensures (get_or text.0 c.args.place 0) (drop (c.args.place + 1) text.0 ++ text.1) word).0 in
    let same = one_text _ words text.0 (sym (ap (λ (w : Version). text_of w.key) (one_version _ v c.requires.0 said c.requires.1)) ∙ is) text.2 in
    ap Some byte ∙ byte_at text.0 c.args.place (omega arith) ∙ ap (λ (ws : List ℕ). slice_get ws c.args.place) (sym same)
