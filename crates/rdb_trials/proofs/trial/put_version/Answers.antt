use Rattle.std.proofs.Common.{◌∷◌, ℕ, Option, Bor, sym, ap, subst, ◌∙◌}
use Rattle.rdb_cells.specs.Images.{Image, SameImage}
use Rattle.rdb_cells.specs.Index.{LacksVersion}
use Rattle.rdb_cells.specs.Keys.{SameVersionCells}
use Rattle.rdb_cells.specs.Overlays.{Laid}
use Rattle.rdb_cells.specs.Records.{planned}
use Rattle.rdb_cells.specs.Work.{Work, reading}
use Rattle.rdb_cells.specs.Untaken.{HasUntaken}
use Rattle.rdb_trials.specs.Kept.{Lacks}
use Rattle.rdb_trials.proofs.KeptLemmas.{lacks_it, kept_put, kept_written, versions_written, fresh}
use Rattle.rdb_trials.proofs.trial.put_version.Goals as goal

-- the work of an overlay over lent cells
abbrev over : {X : Type 0} → (X → Image) → (X → ℕ → Option ℕ) → Laid (Bor X) → Work
over image class_of o = record {
  below = image o.cells.now;
  class_of = class_of o.cells.now;
  pairs = o.plan.pairs;
  room = o.plan.room;
  class = o.class;
  taken = o.taken.number;
}

pub put-requires-clause-lacks : goal.put-requires-clause-lacks
put-requires-clause-lacks g c =
    let image = g.C.Cells.image in
    let new = fresh _ c.args.class c.over-overlay.result c.args.plan c.over-overlay.ensures c.requires.plan in
    subst (λ (o : Laid (Bor g.row.C.Denot)). LacksVersion (g.I.Index.nature c.args.index.now) (g.K.Keys.meaning c.args.keys.now) (planned o.plan.pairs (g.C.Cells.image o.cells.now)) c.args.version) new
    (lacks_it (g.I.Index.nature c.args.index.now) (g.K.Keys.meaning c.args.keys.now) (image c.args.cells.now) c.requires.lacks.0 c.args.version c.requires.lacks.1)

pub put-requires-clause-free : goal.put-requires-clause-free
put-requires-clause-free g c =
    let image = g.C.Cells.image in
    let new = fresh _ c.args.class c.over-overlay.result c.args.plan c.over-overlay.ensures c.requires.plan in
    subst (λ (o : Laid (Bor g.row.C.Denot)). HasUntaken o.plan.pairs (g.C.Cells.image o.cells.now) (g.C.Cells.class_of o.cells.now) o.class o.taken.number (g.I.Index.nature c.args.index.now).part) new
    c.requires.free

pub returns-clause-kept : goal.returns-clause-kept
returns-clause-kept g c these lacks =
    let image = g.C.Cells.image in
    let new = fresh _ c.args.class c.over-overlay.result c.args.plan c.over-overlay.ensures c.requires.plan in
    let before = over g.C.Cells.image g.C.Cells.class_of c.over-overlay.result in
    let after = over g.C.Cells.image g.C.Cells.class_of c.put.new.cells in
    let below = c.put.ensures.below.0 ∙ ap (λ (o : Laid (Bor g.row.C.Denot)). o.cells) c.over-overlay.ensures in
    let same : SameImage (image c.write_out.new.cells) (reading after) = λ n. c.write_out.ensures.reading n ∙ ap (λ (b : Bor g.row.C.Denot). planned c.plan-plan.result.pairs (image b.now) n) (sym below) ∙ c.plan-plan.ensures.reading n in
    let there : Lacks (g.I.Index.nature c.args.index.now) (g.K.Keys.meaning c.args.keys.now) (reading before) these c.args.version = subst (λ (o : Laid (Bor g.row.C.Denot)). Lacks (g.I.Index.nature c.args.index.now) (g.K.Keys.meaning c.args.keys.now) (planned o.plan.pairs (g.C.Cells.image o.cells.now)) these c.args.version) new lacks in
    kept_written (g.I.Index.nature c.args.index.now) (g.K.Keys.meaning c.args.keys.now) (reading after) (image c.write_out.new.cells) (c.args.version ∷ these)
    (g.met.K.Keys.rests_on_versions c.args.keys.now) (g.met.I.Index.rests_on_nodes c.args.index.now) same
    (kept_put (g.I.Index.nature c.args.index.now) (g.K.Keys.meaning c.args.keys.now) before after these c.args.version c.put.ensures.puts there)

pub returns-clause-versions : goal.returns-clause-versions
returns-clause-versions g c =
    let image = g.C.Cells.image in
    let new = fresh _ c.args.class c.over-overlay.result c.args.plan c.over-overlay.ensures c.requires.plan in
    let after = over g.C.Cells.image g.C.Cells.class_of c.put.new.cells in
    let below = c.put.ensures.below.0 ∙ ap (λ (o : Laid (Bor g.row.C.Denot)). o.cells) c.over-overlay.ensures in
    let same : SameImage (image c.write_out.new.cells) (reading after) = λ n. c.write_out.ensures.reading n ∙ ap (λ (b : Bor g.row.C.Denot). planned c.plan-plan.result.pairs (image b.now) n) (sym below) ∙ c.plan-plan.ensures.reading n in
    versions_written (image c.args.cells.now) (reading after) (image c.write_out.new.cells)
    (subst (λ (o : Laid (Bor g.row.C.Denot)). SameVersionCells (planned o.plan.pairs (g.C.Cells.image o.cells.now)) (reading after)) (sym new) c.put.ensures.versions) same
