use Rattle.std.proofs.Common.{arith, ◌≡◌, List, ℕ, sym, ◌∙◌, ap, subst}
use Rattle.rdb_turn.specs.Rule.{OwnsSlot}
use Rattle.rdb_turn.specs.Steps.{Mine, only, without}
use Rattle.rdb_turn.proofs.Parts.{owns_cut, owns_without}
use Rattle.rdb_turn.proofs.turn.Turn.split_for.Goals as goal

pub returns-clause-owner : goal.returns-clause-owner
returns-clause-owner g c =
    let v = c.args.pass.now.place.me.0 in
    let owned : c.cut_off-place.result.me.0.owned ≡ only c.args.client v.owned = ap (λ (m : Mine g.row.T.Denot). m.0.owned) c.cut_off-place.ensures.given ∙ (ap (λ (m : Mine g.row.T.Denot). only m.0.parting m.0.owned) c.mark.ensures.marked ∙ ap (λ (k : ℕ). only k v.owned) c.from.ensures) in
    subst (λ (ps : List (ℕ × g.row.T.Denot)). OwnsSlot ps c.args.client) (sym owned) (owns_cut v.owned c.args.client c.requires.owns)

pub returns-clause-others : goal.returns-clause-others
returns-clause-others g c =
    let v = c.args.pass.now.place.me.0 in
    let owned : c.cut_off-place.new.place.me.0.owned ≡ without c.args.client v.owned = ap (λ (m : Mine g.row.T.Denot). m.0.owned) c.cut_off-place.ensures.kept ∙ (ap (λ (m : Mine g.row.T.Denot). without m.0.parting m.0.owned) c.mark.ensures.marked ∙ ap (λ (k : ℕ). without k v.owned) c.from.ensures) in
    λ slot ne h. subst (λ (ps : List (ℕ × g.row.T.Denot)). OwnsSlot ps slot) (sym owned) (owns_without c.args.client v.owned slot ne h)

pub returns-then-pass-lt2-clause-indivisible : goal.returns-then-pass-lt2-clause-indivisible
returns-then-pass-lt2-clause-indivisible g c = omega (arith, c.requires.pass.shares, c.if-pass-lt2.true)
