use Rattle.std.proofs.Common.{◌≡◌, [], ◌∷◌, length, sym, refl, ◌∙◌, ap, arith}
use Rattle.atomic_table.specs.Table.{rest}
use Rattle.rdb_turn.specs.declared.view.Stand.TheVariants.{Away}
use Rattle.rdb_turn.specs.Rule.{is_inside}
use Rattle.rdb_turn.specs.Steps.{Mine, standing, published}
use Rattle.rdb_turn.proofs.Passing.{inside_at, may_leave, may_raise, raised, may_release, fits_as}
use Rattle.rdb_turn.proofs.turn.Turn.leave.Goals as goal

pub publish-requires-clause-may : goal.publish-requires-clause-may
publish-requires-clause-may g c =
    let k = c.requires.pass in
    let at = inside_at _ _ _ k.fits c.requires.holds in
    let may = may_leave g.T.Chronicle c.args.pass.now.place.me.0 k.latest c.args.value c.args.self.now.boarded k.seen_last (k.inside c.requires.holds) k.boarded (c.requires.base ∙ sym k.based) c.requires.history c.requires.gone c.requires.parts c.requires.condemned in
    may_raise g.T.Chronicle c.args.pass.now.place.me.0 k.latest c.args.value c.put.new.place.me at.0 at.1 k.seen_last may c.put.ensures.given _ c.length-length.ensures

pub publish-requires-clause-before : goal.publish-requires-clause-before
publish-requires-clause-before g c = λ now saw.
    let k = c.requires.pass in
    let seen = ap (λ (m : Mine g.row.T.Denot). m.0.seen) c.put.ensures.given in
    let both : k.latest ∷ [] ≡ now ∷ [] = sym k.seen_last ∙ (sym seen ∙ saw) in
    let same : k.latest ≡ now = cc both in
    k.counted ∙ ap (λ v. length (g.T.Chronicle.history v)) same

pub release-requires-clause-may : goal.release-requires-clause-may
release-requires-clause-may g c =
    let k = c.requires.pass in
    let at = inside_at _ _ _ k.fits c.requires.holds in
    let was = raised g.T.Chronicle c.args.pass.now.place.me.0 c.args.value c.put.new.place.me c.publish.new.place.me c.put.ensures.given c.publish.ensures.raised in
    may_release g.T.Chronicle c.args.pass.now.place.me.0 c.args.value c.publish.new.place.me at.0 c.args.pass.now.ticket _ at.1 at.3 refl was

pub returns-clause-pass : goal.returns-clause-pass
returns-clause-pass g c =
    let k = c.requires.pass in
    let v = c.args.pass.now.place.me.0 in
    let was = raised g.T.Chronicle v c.args.value c.put.new.place.me c.publish.new.place.me c.put.ensures.given c.publish.ensures.raised in
    let after : ◌≡◌ {A = Mine g.row.T.Denot} c.wake.new.place.me (standing (published g.T.Chronicle v c.args.value) Away, []) = c.wake.ensures.known ∙ (c.release.ensures.released ∙ ap (λ (m : Mine g.row.T.Denot). (standing m.0 Away, rest m.1)) was) in
    let shares : c.wake.new.place.me.0.shares ≡ v.shares = ap (λ (m : Mine g.row.T.Denot). m.0.shares) after in record {
      table = c.wake.ensures.same.0 ∙ (c.release.ensures.same.0 ∙ (c.publish.ensures.same.0 ∙ (c.put.ensures.same.0 ∙ k.table)));
      latest = c.args.value;
      counted = c.length-length.ensures;
      seen_last = ap (λ (m : Mine g.row.T.Denot). m.0.seen) after;
      based = c.requires.base;
      boarded = ap (λ (m : Mine g.row.T.Denot). m.0.boarded) after ∙ k.boarded;
      some_share = k.some_share;
      shares = omega (arith, shares, k.shares);
      fits = fits_as c.args.pass.now.ticket (standing (published g.T.Chronicle v c.args.value) Away, []) c.wake.new.place.me (sym (ap (λ (m : Mine g.row.T.Denot). m.1) after)) (sym (ap (λ (m : Mine g.row.T.Denot). m.0.stand) after)) refl;
      inside = λ is. absurd (cc (is, ap (λ (m : Mine g.row.T.Denot). is_inside m.0.stand) after));
    }
