use Rattle.std.proofs.Common.{Bor, map, sym, ap, ◌∙◌, subst, Option, IsSome}
use Rattle.std.specs.Option.{option_copied}
use Rattle.rdb_pages.specs.declared.cell.Cell.{Cell}
use Rattle.rdb_cells.specs.declared.undo.Undo.{Undo}
use Rattle.rdb_cells.proofs.SettledLemmas.{settled_some, settled_none}
use Rattle.rdb_cells.proofs.UndoneLemmas.{undone_cell}
use Rattle.rdb_cells.proofs.settled.Settled.settled.Goals as goal

pub read-requires : goal.read-requires
read-requires g c =
    let s = c.self.inside in
    let there = undone_cell g.C.Cells.image g.C.Cells.class_of _ _ c.self.view_is c.args.at.number c.requires in
    subst (λ (o : Option Cell). IsSome o) (settled_none (map (λ (r : Bor Undo). r.now.pairs) s.records.now) (g.C.Cells.image s.cells) c.args.at.number (sym (ap option_copied c.in-None.is) ∙ c.logged.ensures)) there

pub returns-in-Some : goal.returns-in-Some
returns-in-Some g c =
    let s = c.self.inside in
    rw (← c.self.view_is)
    (settled_some (map (λ (r : Bor Undo). r.now.pairs) s.records.now) (g.C.Cells.image s.cells) c.args.at.number c.in-Some.cell.now c.in-Some.ensures)

pub returns-in-None : goal.returns-in-None
returns-in-None g c =
    let s = c.self.inside in
    rw (← c.self.view_is)
    (settled_none (map (λ (r : Bor Undo). r.now.pairs) s.records.now) (g.C.Cells.image s.cells) c.args.at.number (sym (ap option_copied c.in-None.is) ∙ c.logged.ensures) ∙ c.read.ensures)
