use Rattle.std.proofs.Common.{subst, sym, inl, inr}
use Rattle.rdb_cells.specs.Images.{IsCell}
use Rattle.rdb_cells.specs.Overlays.{Laid}
use Rattle.rdb_cells.specs.Records.{planned}
use Rattle.rdb_cells.proofs.PairLemmas.{put_writes, named_with_put}
use Rattle.rdb_cells.proofs.OverlayLemmas.{cell_below}
use Rattle.rdb_cells.proofs.overlay.Overlay.put.Goals as goal

pub invariant_of-self : goal.invariant_of-self
invariant_of-self g c =
    let o = c.self.inside in
    let read = subst (λ (v : Laid g.row.C.Denot). IsCell (planned v.plan.pairs (g.C.Cells.image v.cells)) c.args.at.number) (sym c.self.view_is) c.requires.named in
    rw c.put.ensures (λ n named. elim (named_with_put o.plan.pairs (record { at = c.args.at; cell = c.args.cell }) n named) [
      | inl before ↦ c.self.invariant n before
      | inr here ↦ subst (IsCell (g.C.Cells.image o.cells)) here (cell_below o.plan.pairs (g.C.Cells.image o.cells) (g.C.Cells.class_of o.cells) c.self.invariant c.args.at.number read)
    ])

pub returns-clause-reading : goal.returns-clause-reading
returns-clause-reading g c =
    rw (c.put.ensures, ← c.self.view_is)
    (put_writes c.self.inside.plan.pairs (record { at = c.args.at; cell = c.args.cell }) (g.C.Cells.image c.self.inside.cells))
