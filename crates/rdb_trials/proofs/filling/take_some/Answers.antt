use Rattle.std.proofs.Common.{◌≡◌, ◌+◌, ℕ, drop, subst, arith}
use Rattle.rdb_trials.specs.Filled.{IsFilled}
use Rattle.rdb_trials.proofs.FillLemmas.{kept_here, filled_less}
use Rattle.rdb_trials.proofs.filling.take_some.Goals as goal

pub take_version-plan-requires-clause-kept : goal.take_version-plan-requires-clause-kept
take_version-plan-requires-clause-kept g c = (
  drop (c.loop-place.place + 1) c.args.versions.now,
  kept_here (g.I.Index.nature c.args.index.now) (g.K.Keys.meaning c.args.keys.now) (g.C.Cells.image c.loop-place.cells) c.args.versions.now c.loop-place.place c.version_at-version.result c.version_at-version.ensures c.loop-place.invariant.1,
)

pub loop-place-preserved : goal.loop-place-preserved
loop-place-preserved g c =
    let before = g.C.Cells.image c.loop-place.cells in
    let after = g.C.Cells.image c.take_version-plan.new.cells in
    let kept = kept_here (g.I.Index.nature c.args.index.now) (g.K.Keys.meaning c.args.keys.now) before c.args.versions.now c.loop-place.place c.version_at-version.result c.version_at-version.ensures c.loop-place.invariant.1 in (
      c.take_version-plan.ensures.plan,
      filled_less (g.I.Index.nature c.args.index.now) (g.K.Keys.meaning c.args.keys.now) before after c.args.versions.now c.loop-place.place
          (g.met.K.Keys.rests_on_versions c.args.keys.now) c.take_version-plan.ensures.versions c.loop-place.invariant.1
          (c.take_version-plan.ensures.kept (drop (c.loop-place.place + 1) c.args.versions.now) kept),
    )

pub returns-clause-filled : goal.returns-clause-filled
returns-clause-filled g c =
    let most = c.loop-place.auto.place-end in
    let least = c.loop-place-test.false in
    let end : c.loop-place.place ≡ c.args.places.1 = omega arith in
    subst (λ (n : ℕ). IsFilled (g.I.Index.nature c.args.index.now) (g.K.Keys.meaning c.args.keys.now) (g.C.Cells.image c.loop-place.cells) c.args.versions.now (drop n c.args.versions.now)) end c.loop-place.invariant.1
