use Rattle.std.proofs.Common.{◌≡◌, ◌+◌, ◌++◌, ◌∷◌, [], ℕ, List, subst, sym, ◌∙◌, ap, inl, inr, ⊎_elim, arith}
use Rattle.rdb_turn.specs.Rule.{is_inside, OwnsSlot}
use Rattle.rdb_turn.specs.Steps.{Mine}
use Rattle.rdb_turn.specs.Passes.{history_of, Known}
use Rattle.rdb_turn.proofs.Parts.{owns_first, owns_second}
use Rattle.rdb_turn.proofs.Agreeing.{all_agreed, open_first, open_second, stopped_both}
use Rattle.rdb_turn.proofs.Passing.{met, fits_as}
use Rattle.rdb_turn.proofs.turn.Turn.meet.Goals as goal

pub returns-clause-one : goal.returns-clause-one
returns-clause-one g c =
    let k = c.requires.pass in let l = c.requires.other in
    let told = met g.T.Chronicle c.args.pass.now.place.me.0 c.args.other.place.me.0 k.latest l.latest c.args.pass.now.place.me.1 _ c.settle-pass.new.place.me c.settle-pass.result k.seen_last l.seen_last c.unite.ensures.both c.settle-pass.ensures.settled in
    let now = ap (λ (m : Mine g.row.T.Denot). m.0.seen) told.2 in
    ⊎_elim
    (λ (e : told.0 ≡ k.latest). inl (now ∙ (ap (λ x. x ∷ []) e ∙ sym k.seen_last)))
    (λ (e : told.0 ≡ l.latest). inr (now ∙ (ap (λ x. x ∷ []) e ∙ sym l.seen_last)))
    told.1

pub returns-clause-own : goal.returns-clause-own
returns-clause-own g c =
    let k = c.requires.pass in let l = c.requires.other in
    let told = met g.T.Chronicle c.args.pass.now.place.me.0 c.args.other.place.me.0 k.latest l.latest c.args.pass.now.place.me.1 _ c.settle-pass.new.place.me c.settle-pass.result k.seen_last l.seen_last c.unite.ensures.both c.settle-pass.ensures.settled in
    let history = g.T.Chronicle.history in
    let now = ap (λ (m : Mine g.row.T.Denot). history_of history m.0.seen) told.2 in
    let on = told.3.0 in (on.0, (λ i. ap (history_of history) k.seen_last i ++ on.0) ∙ (on.1 ∙ sym now))

pub returns-clause-others : goal.returns-clause-others
returns-clause-others g c =
    let k = c.requires.pass in let l = c.requires.other in
    let told = met g.T.Chronicle c.args.pass.now.place.me.0 c.args.other.place.me.0 k.latest l.latest c.args.pass.now.place.me.1 _ c.settle-pass.new.place.me c.settle-pass.result k.seen_last l.seen_last c.unite.ensures.both c.settle-pass.ensures.settled in
    let history = g.T.Chronicle.history in
    let now = ap (λ (m : Mine g.row.T.Denot). history_of history m.0.seen) told.2 in
    let on = told.4.0 in (on.0, (λ i. ap (history_of history) l.seen_last i ++ on.0) ∙ (on.1 ∙ sym now))

pub returns-clause-known : goal.returns-clause-known
returns-clause-known g c =
    let k = c.requires.pass in let l = c.requires.other in
    let told = met g.T.Chronicle c.args.pass.now.place.me.0 c.args.other.place.me.0 k.latest l.latest c.args.pass.now.place.me.1 _ c.settle-pass.new.place.me c.settle-pass.result k.seen_last l.seen_last c.unite.ensures.both c.settle-pass.ensures.settled in
    let m = c.settle-pass.new.place.me in
    let seen = m.0.seen in
    let v = c.args.pass.now.place.me.0 in
    let w = c.args.other.place.me.0 in
    ap {B = Known g.row.T.Denot} (λ (n : Mine g.row.T.Denot). record { seen = seen; owned = n.0.owned; gone = n.0.gone; stopped = n.0.stopped; client = c.args.pass.now.client; has_turn = is_inside n.0.stand; turns = c.args.pass.now.turns; shares = n.0.shares }) told.2
    ∙ ap {B = Known g.row.T.Denot} (λ (st : List ℕ). record { seen = seen; owned = v.owned ++ w.owned; gone = v.gone ++ w.gone; stopped = st; client = c.args.pass.now.client; has_turn = is_inside v.stand; turns = c.args.pass.now.turns; shares = v.shares + w.shares })
    (stopped_both v w (open_first v w told.6) (open_second v w told.6))

pub returns-clause-told : goal.returns-clause-told
returns-clause-told g c =
    let k = c.requires.pass in let l = c.requires.other in
    let told = met g.T.Chronicle c.args.pass.now.place.me.0 c.args.other.place.me.0 k.latest l.latest c.args.pass.now.place.me.1 _ c.settle-pass.new.place.me c.settle-pass.result k.seen_last l.seen_last c.unite.ensures.both c.settle-pass.ensures.settled in
    let v = c.args.pass.now.place.me.0 in
    let w = c.args.other.place.me.0 in
    all_agreed v.owned v.stopped w.stopped (open_first v w told.6)

pub returns-clause-tells : goal.returns-clause-tells
returns-clause-tells g c =
    let k = c.requires.pass in let l = c.requires.other in
    let told = met g.T.Chronicle c.args.pass.now.place.me.0 c.args.other.place.me.0 k.latest l.latest c.args.pass.now.place.me.1 _ c.settle-pass.new.place.me c.settle-pass.result k.seen_last l.seen_last c.unite.ensures.both c.settle-pass.ensures.settled in
    let v = c.args.pass.now.place.me.0 in
    let w = c.args.other.place.me.0 in
    all_agreed w.owned w.stopped v.stopped (open_second v w told.6)

pub returns-clause-pass : goal.returns-clause-pass
returns-clause-pass g c =
    let k = c.requires.pass in let l = c.requires.other in
    let told = met g.T.Chronicle c.args.pass.now.place.me.0 c.args.other.place.me.0 k.latest l.latest c.args.pass.now.place.me.1 _ c.settle-pass.new.place.me c.settle-pass.result k.seen_last l.seen_last c.unite.ensures.both c.settle-pass.ensures.settled in
    let shares : c.settle-pass.new.place.me.0.shares ≡ c.args.pass.now.place.me.0.shares + c.args.other.place.me.0.shares = ap (λ (m : Mine g.row.T.Denot). m.0.shares) told.2 in record {
      table = c.settle-pass.ensures.same.0 ∙ (c.unite.ensures.same.0 ∙ k.table);
      latest = told.0;
      seen_last = ap (λ (m : Mine g.row.T.Denot). m.0.seen) told.2;
      counted = told.5;
      based = told.3.1 ∙ k.based;
      boarded = ap (λ (m : Mine g.row.T.Denot). m.0.boarded) told.2 ∙ k.boarded;
      some_share = omega (arith, k.some_share, c.saturating_add-pass.ensures);
      shares = omega (arith, shares, k.shares, l.shares, told.7, c.saturating_add-pass.ensures);
      fits = fits_as c.args.pass.now.ticket c.args.pass.now.place.me c.settle-pass.new.place.me (sym (ap (λ (m : Mine g.row.T.Denot). m.1) told.2)) (sym (ap (λ (m : Mine g.row.T.Denot). m.0.stand) told.2)) k.fits;
      inside = λ is. absurd (cc (is, ap (λ (m : Mine g.row.T.Denot). is_inside m.0.stand) told.2, c.requires.away));
    }

pub returns-clause-keeps : goal.returns-clause-keeps
returns-clause-keeps g c =
    let k = c.requires.pass in let l = c.requires.other in
    let told = met g.T.Chronicle c.args.pass.now.place.me.0 c.args.other.place.me.0 k.latest l.latest c.args.pass.now.place.me.1 _ c.settle-pass.new.place.me c.settle-pass.result k.seen_last l.seen_last c.unite.ensures.both c.settle-pass.ensures.settled in
    let owned = ap (λ (m : Mine g.row.T.Denot). m.0.owned) told.2 in
    λ slot h. subst (λ (ps : List (ℕ × g.row.T.Denot)). OwnsSlot ps slot) (sym owned) (owns_first c.args.pass.now.place.me.0.owned c.args.other.place.me.0.owned slot h)

pub returns-clause-takes_over : goal.returns-clause-takes_over
returns-clause-takes_over g c =
    let k = c.requires.pass in let l = c.requires.other in
    let told = met g.T.Chronicle c.args.pass.now.place.me.0 c.args.other.place.me.0 k.latest l.latest c.args.pass.now.place.me.1 _ c.settle-pass.new.place.me c.settle-pass.result k.seen_last l.seen_last c.unite.ensures.both c.settle-pass.ensures.settled in
    let owned = ap (λ (m : Mine g.row.T.Denot). m.0.owned) told.2 in
    λ slot h. subst (λ (ps : List (ℕ × g.row.T.Denot)). OwnsSlot ps slot) (sym owned) (owns_second c.args.pass.now.place.me.0.owned c.args.other.place.me.0.owned slot h)
