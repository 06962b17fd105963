use Rattle.std.proofs.Common.{◌≡◌, ◌+◌, ◌<◌, ◌≤◌, length, refl, sym, ap, ap₂, subst, ◌∙◌, arith}
use Rattle.rdb_pages.specs.Pages.{zero_cell}
use Rattle.rdb_cells.specs.declared.formats.patricia.PatriciaEntry.{PatriciaEntry as Entry}
use Rattle.rdb_cells.specs.HeadFormat.{rooted_head}
use Rattle.rdb_cells.specs.Index.{Removes, PlansOnlyOwn}
use Rattle.rdb_cells.specs.Keys.{SameVersionCells}
use Rattle.rdb_cells.specs.PatriciaFormat.{patricia_entry_in}
use Rattle.rdb_cells.specs.PlainList.{plain_nature}
use Rattle.rdb_cells.specs.Work.{Work, work, reading, TakesNone}
use Rattle.rdb_cells.proofs.PlainLemmas.{at_there, small_next}
use Rattle.rdb_cells.proofs.PlainChanges.{plain_removes, remove_own, remove_versions, remove_takes_none}
use Rattle.rdb_cells.proofs.WorkLemmas.{put_work, put_is, put_longer}
use Rattle.rdb_cells.proofs.doubles.plain_list.PlainListIndex.remove.Goals as goal

-- the next entry of one, with the version of another
entries_alike : (a b c d : Entry) → a ≡ c → b ≡ d → (let e : Entry = record { next = a.next; version = b.version } in e) ≡ (let e : Entry = record { next = c.next; version = d.version } in e)
entries_alike a b c d first second = ap₂ (λ (p q : Entry). (let e : Entry = record { next = p.next; version = q.version } in e)) first second

pub planned-requires-3 : goal.planned-requires-3
planned-requires-3 g c = at_there (reading (work g.C.Cells c.args.cells.now)) c.root_in-first.result.number c.args.version c.find-place.result c.find-place.ensures

pub to_cell-requires : goal.to_cell-requires
to_cell-requires g c =
    rw c.of_cell.ensures.value
    (small_next (reading (work g.C.Cells c.args.cells.now)) c.root_in-first.result.number c.args.version c.find-place.result c.find-place.ensures c.planned-3.result.now c.planned-3.ensures.planned)

pub put-requires-3-clause-room : goal.put-requires-3-clause-room
put-requires-3-clause-room g c unnamed =
    let w = work g.C.Cells c.args.cells.now in
    let w1 = put_work w c.find-place.result c.to_cell.result in
    let w2 = put_work w1 c.root_in-first.result zero_cell in
    let moved = put_is g.C.Cells c.args.cells.now c.put.new.self w c.find-place.result c.to_cell.result refl c.put.ensures.plan in
    let given : work g.C.Cells c.put-2.new.self ≡ w2 = put_is g.C.Cells c.put.new.self c.put-2.new.self w1 c.root_in-first.result zero_cell moved c.put-2.ensures.plan in
    let first = put_longer w.pairs (record { at = c.find-place.result; cell = c.to_cell.result }) in
    let second = put_longer w1.pairs (record { at = c.root_in-first.result; cell = zero_cell }) in
    let places = c.requires.places in
    subst (λ (v : Work). length v.pairs < v.room) (sym given) (omega arith)

pub returns-clause-removes : goal.returns-clause-removes
returns-clause-removes g c =
    let w = work g.C.Cells c.args.cells.now in
    let w1 = put_work w c.find-place.result c.to_cell.result in
    let w2 = put_work w1 c.root_in-first.result zero_cell in
    let moved = put_is g.C.Cells c.args.cells.now c.put.new.self w c.find-place.result c.to_cell.result refl c.put.ensures.plan in
    let given : work g.C.Cells c.put-2.new.self ≡ w2 = put_is g.C.Cells c.put.new.self c.put-2.new.self w1 c.root_in-first.result zero_cell moved c.put-2.ensures.plan in
    let after : work g.C.Cells c.put-3.new.self ≡ put_work w2 c.args.self.now.head c.to_cell-2.result = put_is g.C.Cells c.put-2.new.self c.put-3.new.self w2 c.args.self.now.head c.to_cell-2.result given c.put-3.ensures.plan in
    let says = c.to_cell.ensures.inverse ∙ entries_alike c.of_cell.result c.of_cell-front.result (patricia_entry_in c.planned-3.result.now) (patricia_entry_in c.planned-2.result.now) c.of_cell.ensures.value c.of_cell-front.ensures.value in
    let leads = c.to_cell-2.ensures.inverse ∙ c.rooted.ensures ∙ ap (λ (e : Entry). rooted_head e.next) c.of_cell-front.ensures.value in
    subst (λ (v : Work). Removes (plain_nature c.args.self.now.class c.args.self.now.head.number) (g.K.Keys.meaning c.args._keys.now) w v c.args.version) (sym after)
    (plain_removes c.args.self.now.class c.args.self.now.head c.find-place.result c.root_in-first.result c.args.version (g.K.Keys.meaning c.args._keys.now) w c.planned.result.now c.planned-2.result.now c.planned-3.result.now c.to_cell.result c.to_cell-2.result (g.met.K.Keys.rests_on_versions c.args._keys.now) c.planned.ensures.planned c.root_in-first.ensures c.find-place.ensures c.planned-2.ensures.planned c.planned-3.ensures.planned c.to_cell.ensures.kind says c.to_cell-2.ensures.kind leads)

pub returns-clause-own : goal.returns-clause-own
returns-clause-own g c =
    let w = work g.C.Cells c.args.cells.now in
    let w1 = put_work w c.find-place.result c.to_cell.result in
    let w2 = put_work w1 c.root_in-first.result zero_cell in
    let moved = put_is g.C.Cells c.args.cells.now c.put.new.self w c.find-place.result c.to_cell.result refl c.put.ensures.plan in
    let given : work g.C.Cells c.put-2.new.self ≡ w2 = put_is g.C.Cells c.put.new.self c.put-2.new.self w1 c.root_in-first.result zero_cell moved c.put-2.ensures.plan in
    let after : work g.C.Cells c.put-3.new.self ≡ put_work w2 c.args.self.now.head c.to_cell-2.result = put_is g.C.Cells c.put-2.new.self c.put-3.new.self w2 c.args.self.now.head c.to_cell-2.result given c.put-3.ensures.plan in
    let says = c.to_cell.ensures.inverse ∙ entries_alike c.of_cell.result c.of_cell-front.result (patricia_entry_in c.planned-3.result.now) (patricia_entry_in c.planned-2.result.now) c.of_cell.ensures.value c.of_cell-front.ensures.value in
    let leads = c.to_cell-2.ensures.inverse ∙ c.rooted.ensures ∙ ap (λ (e : Entry). rooted_head e.next) c.of_cell-front.ensures.value in
    subst (λ (v : Work). PlansOnlyOwn (plain_nature c.args.self.now.class c.args.self.now.head.number) (g.K.Keys.meaning c.args._keys.now) w v) (sym after)
    (remove_own c.args.self.now.class c.args.self.now.head c.find-place.result c.root_in-first.result c.args.version (g.K.Keys.meaning c.args._keys.now) w c.planned.result.now c.planned-2.result.now c.planned-3.result.now c.to_cell.result c.to_cell-2.result (g.met.K.Keys.rests_on_versions c.args._keys.now) c.planned.ensures.planned c.root_in-first.ensures c.find-place.ensures c.planned-2.ensures.planned c.planned-3.ensures.planned c.to_cell.ensures.kind says c.to_cell-2.ensures.kind leads)

pub returns-clause-versions : goal.returns-clause-versions
returns-clause-versions g c =
    let w = work g.C.Cells c.args.cells.now in
    let w1 = put_work w c.find-place.result c.to_cell.result in
    let w2 = put_work w1 c.root_in-first.result zero_cell in
    let moved = put_is g.C.Cells c.args.cells.now c.put.new.self w c.find-place.result c.to_cell.result refl c.put.ensures.plan in
    let given : work g.C.Cells c.put-2.new.self ≡ w2 = put_is g.C.Cells c.put.new.self c.put-2.new.self w1 c.root_in-first.result zero_cell moved c.put-2.ensures.plan in
    let after : work g.C.Cells c.put-3.new.self ≡ put_work w2 c.args.self.now.head c.to_cell-2.result = put_is g.C.Cells c.put-2.new.self c.put-3.new.self w2 c.args.self.now.head c.to_cell-2.result given c.put-3.ensures.plan in
    let says = c.to_cell.ensures.inverse ∙ entries_alike c.of_cell.result c.of_cell-front.result (patricia_entry_in c.planned-3.result.now) (patricia_entry_in c.planned-2.result.now) c.of_cell.ensures.value c.of_cell-front.ensures.value in
    let leads = c.to_cell-2.ensures.inverse ∙ c.rooted.ensures ∙ ap (λ (e : Entry). rooted_head e.next) c.of_cell-front.ensures.value in
    subst (λ (v : Work). SameVersionCells (reading w) (reading v)) (sym after)
    (remove_versions c.args.self.now.class c.args.self.now.head c.find-place.result c.root_in-first.result c.args.version (g.K.Keys.meaning c.args._keys.now) w c.planned.result.now c.planned-2.result.now c.planned-3.result.now c.to_cell.result c.to_cell-2.result (g.met.K.Keys.rests_on_versions c.args._keys.now) c.planned.ensures.planned c.root_in-first.ensures c.find-place.ensures c.planned-2.ensures.planned c.planned-3.ensures.planned c.to_cell.ensures.kind says c.to_cell-2.ensures.kind leads c.requires.has.listed c.requires.has.nodes c.requires.has.lists)

pub returns-clause-takes_none : goal.returns-clause-takes_none
returns-clause-takes_none g c =
    let w = work g.C.Cells c.args.cells.now in
    let w1 = put_work w c.find-place.result c.to_cell.result in
    let w2 = put_work w1 c.root_in-first.result zero_cell in
    let moved = put_is g.C.Cells c.args.cells.now c.put.new.self w c.find-place.result c.to_cell.result refl c.put.ensures.plan in
    let given : work g.C.Cells c.put-2.new.self ≡ w2 = put_is g.C.Cells c.put.new.self c.put-2.new.self w1 c.root_in-first.result zero_cell moved c.put-2.ensures.plan in
    let after : work g.C.Cells c.put-3.new.self ≡ put_work w2 c.args.self.now.head c.to_cell-2.result = put_is g.C.Cells c.put-2.new.self c.put-3.new.self w2 c.args.self.now.head c.to_cell-2.result given c.put-3.ensures.plan in
    let says = c.to_cell.ensures.inverse ∙ entries_alike c.of_cell.result c.of_cell-front.result (patricia_entry_in c.planned-3.result.now) (patricia_entry_in c.planned-2.result.now) c.of_cell.ensures.value c.of_cell-front.ensures.value in
    let leads = c.to_cell-2.ensures.inverse ∙ c.rooted.ensures ∙ ap (λ (e : Entry). rooted_head e.next) c.of_cell-front.ensures.value in
    subst (λ (v : Work). TakesNone w v) (sym after)
    (remove_takes_none c.args.self.now.class c.args.self.now.head c.find-place.result c.root_in-first.result c.args.version (g.K.Keys.meaning c.args._keys.now) w c.planned.result.now c.planned-2.result.now c.planned-3.result.now c.to_cell.result c.to_cell-2.result (g.met.K.Keys.rests_on_versions c.args._keys.now) c.planned.ensures.planned c.root_in-first.ensures c.find-place.ensures c.planned-2.ensures.planned c.planned-3.ensures.planned c.to_cell.ensures.kind says c.to_cell-2.ensures.kind leads c.requires.has.listed c.requires.has.nodes c.requires.has.lists)

pub returns-clause-places : goal.returns-clause-places
returns-clause-places g c =
    let w = work g.C.Cells c.args.cells.now in
    let w1 = put_work w c.find-place.result c.to_cell.result in
    let w2 = put_work w1 c.root_in-first.result zero_cell in
    let moved = put_is g.C.Cells c.args.cells.now c.put.new.self w c.find-place.result c.to_cell.result refl c.put.ensures.plan in
    let given : work g.C.Cells c.put-2.new.self ≡ w2 = put_is g.C.Cells c.put.new.self c.put-2.new.self w1 c.root_in-first.result zero_cell moved c.put-2.ensures.plan in
    let after : work g.C.Cells c.put-3.new.self ≡ put_work w2 c.args.self.now.head c.to_cell-2.result = put_is g.C.Cells c.put-2.new.self c.put-3.new.self w2 c.args.self.now.head c.to_cell-2.result given c.put-3.ensures.plan in
    let first = put_longer w.pairs (record { at = c.find-place.result; cell = c.to_cell.result }) in
    let second = put_longer w1.pairs (record { at = c.root_in-first.result; cell = zero_cell }) in
    let third = put_longer w2.pairs (record { at = c.args.self.now.head; cell = c.to_cell-2.result }) in
    subst (λ (v : Work). length v.pairs ≤ length w.pairs + 50) (sym after) (omega arith)
