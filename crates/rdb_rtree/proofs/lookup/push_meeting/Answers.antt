use Rattle.std.proofs.Common.{◌++◌, [], List, refl, sym, ap, ◌∙◌}
use Rattle.std.proofs.lemmas.List.{append-nil}
use Rattle.rdb_pages.specs.declared.cell.CellRef.{CellRef}
use Rattle.rdb_rtree.specs.Lookups.{matching}
use Rattle.rdb_rtree.proofs.LookupLemmas.{meeting_step, gather_step, gather_end}
use Rattle.rdb_rtree.proofs.lookup.push_meeting.Goals as goal
use Rattle.rdb_rtree.proofs.lookup.push_meeting.Goals.{then-meets+in_ok-push, else-meets}

pub loop-place-preserved : goal.loop-place-preserved
loop-place-preserved c =
    elim c.if-meets.branch [
      | then-meets+in_ok-push w ↦
          let step = meeting_step c.args.rect.now c.args.inside c.args.entries.now c.loop-place.place _ _ c.loop-place-test.true (sym c.meets.ensures ∙ w.if-meets.true) in
          gather_step c.loop-place.refs c.if-meets.refs _ _ _ (w.refs-is ∙ w.in_ok-push.ensures.ok)
          (ap (λ (rs : List CellRef). c.loop-place.refs ++ rs) (sym step) ∙ c.loop-place.invariant)
      | else-meets w ↦
          let step = meeting_step c.args.rect.now c.args.inside c.args.entries.now c.loop-place.place _ _ c.loop-place-test.true (sym c.meets.ensures ∙ w.if-meets.false) in
          gather_step c.loop-place.refs c.if-meets.refs [] _ _ (w.refs-is ∙ sym (append-nil c.loop-place.refs))
          (ap (λ (rs : List CellRef). c.loop-place.refs ++ rs) (sym step) ∙ c.loop-place.invariant)
    ]

pub returns : goal.returns
returns c = gather_end (matching c.args.rect.now c.args.inside) c.args.entries.now c.loop-place.place c.loop-place.refs _ refl c.loop-place-test.false c.loop-place.invariant
