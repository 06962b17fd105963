-- The own plan of an operation in work is made: its connection sees the operation done, and nobody else sees anything.
use Rattle.std.proofs.Common.{◌≡◌, ◌≢◌, ◌⊎◌, inl, inr, ℕ, ◌<◌, ◌≤◌, true, false, cond, List, [], ◌∷◌, ◌++◌, slice_index, Option, Some, None, is_some, refl, sym, ap, subst, ◌∙◌, arith, append-nil}
use Rattle.rdb_base.specs.declared.identity.Manager.{Manager}
use Rattle.rdb_base.specs.declared.operation.Op.{Op}
use Rattle.rdb_base.specs.declared.operation.Reply.{Reply}
use Rattle.rdb_base.specs.Operations.{class_of}
use Rattle.rdb_pages.specs.declared.cell.CellRef.{CellRef}
use Rattle.rdb_schema.specs.declared.schema.Schema.{Schema}
use Rattle.rdb_registry.specs.declared.hand.Work.{Work}
use Rattle.rdb_model.specs.Database.{Row}
use Rattle.rdb_model.specs.Fits.{Fits, AllFit}
use Rattle.rdb_model.specs.Story.{run}
use Rattle.rdb_model.specs.Journal.{commits, fold, made_in, made_before, was_made}
use Rattle.rdb_model.specs.Validation.{MakesAnew}
use Rattle.rdb_history.specs.Rows.{row_left}
use Rattle.rdb_history.proofs.StoryLemmas.{anew_more}
use Rattle.rdb_shown.specs.Kept.{IsWork}
use Rattle.rdb_shown.specs.Changes.{Puts}
use Rattle.rdb_serial.specs.Progress.{Progress, tx_of, reply_when_done, done_by_plan, so_far, marks_of}
use Rattle.rdb_serial.specs.Histories.{History, scene_of, view, shown_to, AreHeldOnce}
use Rattle.rdb_serial.specs.Serial.{AreDrawn, IsUnrefused, IsGoingOn, IsOpen, IsConnection, IsSerial}
use Rattle.rdb_serial.specs.Moves.{with_id, PlansOwn}
use Rattle.rdb_serial.proofs.ChangeLemmas.{change_shown, moved_put}
use Rattle.rdb_serial.proofs.CarryLemmas.{drawn_more}
use Rattle.rdb_serial.proofs.TurnLemmas.{made_of, apart_fresh}
use Rattle.rdb_serial.proofs.StillLemmas.{connection_of}
use Rattle.rdb_serial.proofs.StoryLemmas.{run_more, made_with, fits_more}
use Rattle.rdb_serial.proofs.PlanMoves.{aims_at_settled, Planning, planned, view_kept, view_there, view_long, view_was, view_now, view_elsewhere, view_change, unmarked_tx}
use Rattle.rdb_serial.proofs.GivingMoves.{held_by_one, begun_again}
use Rattle.rdb_serial.proofs.PutLemmas.{put_shown, put_work}
use Rattle.rdb_serial.proofs.ObjectLemmas.{done_with, not_so, writes_it, same_row, fits_still, unrefused_still, draws_more, makes_newly, makes_none_again, made_either, drawn_both}

-- the progress of a connection whose own plan is made
abbrev planning : Work → Progress → Progress
planning w p = record p { work = Some w; plans = true }

-- the story of a connection whose own plan isn't made, and with that plan
unplanned_story : (p : Progress) (w : Work) → p.work ≡ Some w → w.puts ≡ None → so_far p ≡ p.done
unplanned_story p w in_work unplanned =
    ap (λ (o : Option Work). p.done ++ done_by_plan o) in_work
    ∙ ap (λ (o : Option CellRef). p.done ++ cond (is_some o) ((w.op, reply_when_done w.op) ∷ []) []) unplanned ∙ append-nil p.done

planned_story : (p : Progress) (w : Work) (o : Op) (version : CellRef) → w.op ≡ o → w.puts ≡ Some version → p.done ++ done_by_plan (Some w) ≡ p.done ++ (o, reply_when_done o) ∷ []
planned_story p w o version is puts =
    ap (λ (c : Option CellRef). p.done ++ cond (is_some c) ((w.op, reply_when_done w.op) ∷ []) []) puts ∙ ap (λ (x : Op). p.done ++ (x, reply_when_done x) ∷ []) is

module _ (schema : Schema) (manager : Manager) (before after : History) (slot id : ℕ) (version : CellRef) (serial : IsSerial schema manager before) (once : AreHeldOnce before.course)
    (move : PlansOwn before after slot id version) where
  is_there : IsConnection schema manager (scene_of before) slot move.was
  is_there = connection_of schema manager before slot move.was serial move.turns.was_there

  was_open : IsOpen schema manager (scene_of before) move.was move.transaction
  was_open = is_there.open_one move.transaction move.to_plan.open_one.open_one

  on : IsGoingOn schema manager (scene_of before) move.was move.transaction
  on = was_open.goes_on move.to_plan.open_one.unmarked move.to_plan.live

  grows : (k : ℕ) → slice_index before.drawn k ≤ slice_index after.drawn k
  grows = draws_more move.work.op id before.drawn after.drawn move.object

  longer : so_far (planning move.planned move.was) ≡ so_far move.was ++ done_with id move.work.op ∷ []
  longer =
      planned_story move.was move.planned (with_id id move.work.op) version move.op_is move.puts_is
      ∙ sym (ap (λ (d : List (Op × Reply)). d ++ done_with id move.work.op ∷ []) (unplanned_story move.was move.work move.to_plan.in_work move.to_plan.unplanned))

  plan : Planning schema manager before after slot (class_of move.work.op) move.was (planning move.planned move.was) move.transaction
  plan = record {
    serial = serial;
    turns = move.turns;
    journal = move.journal;
    settled = move.settled;
    grows = grows;
    open_was = move.to_plan.open_one.open_one;
    open_now = move.to_plan.open_one.open_one;
    conn = refl;
    unmarked = move.to_plan.open_one.unmarked;
    unplanned = move.to_plan.plans;
    plans = refl;
    latched = move.latched;
    apart = held_by_one before.course slot (class_of move.work.op) move.was once move.turns.was_there move.latched;
    same = aims_at_settled schema manager before slot (class_of move.work.op) move.was serial move.turns.was_there move.to_plan.plans
        (λ other q there held. once (class_of move.work.op) other slot q move.was there move.turns.was_there held move.latched);
    change = inl (record { id = id; row = row_left move.work.op; puts = move.puts });
  }

  -- the version among those that the connection sees
  puts_seen : Puts (view move.was.latches before.settled before.aimed) (view move.was.latches before.settled after.aimed) (tx_of move.was move.transaction) (class_of move.work.op) id (row_left (with_id id move.work.op))
  puts_seen = subst (λ (r : Option Row). Puts (view move.was.latches before.settled before.aimed) (view move.was.latches before.settled after.aimed) (tx_of move.was move.transaction) (class_of move.work.op) id r) (sym (same_row move.work.op id))
      (moved_put before.aimed after.aimed (view move.was.latches before.settled before.aimed) (view move.was.latches before.settled after.aimed) (class_of move.work.op)
      (view_there schema manager before after slot (class_of move.work.op) move.was (planning move.planned move.was) move.transaction plan move.latched)
      (view_long schema manager before after slot (class_of move.work.op) move.was (planning move.planned move.was) move.transaction plan move.latched)
      (view_was schema manager before after slot (class_of move.work.op) move.was (planning move.planned move.was) move.transaction plan move.latched)
      (view_now schema manager before after slot (class_of move.work.op) move.was (planning move.planned move.was) move.transaction plan move.latched)
      (view_elsewhere schema manager before after slot (class_of move.work.op) move.was (planning move.planned move.was) move.transaction plan move.latched)
      (tx_of move.was move.transaction) id (row_left move.work.op) move.puts)

  unmarked : marks_of before.course (tx_of move.was move.transaction) ≡ None
  unmarked = unmarked_tx schema manager before after slot (class_of move.work.op) move.was (planning move.planned move.was) move.transaction plan

  unrefused : IsUnrefused schema (shown_to (scene_of before) move.was move.transaction) (with_id id move.work.op)
  unrefused = unrefused_still schema (shown_to (scene_of before) move.was move.transaction) move.work.op id (on.unrefused move.work move.to_plan.in_work move.to_plan.unplanned)

  fits : Fits schema (with_id id move.work.op) move.transaction.kind
  fits = fits_still schema move.transaction.kind move.work.op id (on.fits_work move.work move.to_plan.in_work)

  going : IsGoingOn schema manager (record (scene_of before) { drawn = after.drawn; aimed = after.aimed }) (planning move.planned move.was) move.transaction
  going = record {
    work = subst (λ (d : List (Op × Reply)). IsWork (marks_of before.course) (view move.was.latches before.settled after.aimed) (tx_of move.was move.transaction) move.transaction.snapshot d) (sym longer)
        (put_work before.journal (marks_of before.course) (view move.was.latches before.settled before.aimed) (view move.was.latches before.settled after.aimed) (tx_of move.was move.transaction) move.transaction.snapshot (class_of move.work.op) id
        (with_id id move.work.op) (reply_when_done (with_id id move.work.op)) (view_kept schema manager before after slot (class_of move.work.op) move.was (planning move.planned move.was) move.transaction plan move.latched)
        (writes_it move.work.op id before.drawn after.drawn move.object) puts_seen (so_far move.was) on.work);
    runs = ap (run schema (fold schema before.journal move.transaction.snapshot)) longer
        ∙ run_more schema (fold schema before.journal move.transaction.snapshot) (shown_to (scene_of before) move.was move.transaction) (so_far move.was) (with_id id move.work.op) (reply_when_done (with_id id move.work.op)) on.runs (sym unrefused)
        ∙ ap Some (sym (put_shown before.journal (marks_of before.course) (view move.was.latches before.settled before.aimed) (view move.was.latches before.settled after.aimed) (tx_of move.was move.transaction) move.transaction.snapshot (class_of move.work.op) id
        (with_id id move.work.op) (reply_when_done (with_id id move.work.op)) (view_kept schema manager before after slot (class_of move.work.op) move.was (planning move.planned move.was) move.transaction plan move.latched)
        (writes_it move.work.op id before.drawn after.drawn move.object) puts_seen schema unmarked unrefused));
    unrefused = λ w in_work none. absurd (let same : move.planned ≡ w = (cc) in let puts : Some version ≡ None = sym move.puts_is ∙ ap (λ (x : Work). x.puts) same ∙ none in (cc));
    fits = subst (AllFit schema move.transaction.kind) (sym longer) (fits_more schema move.transaction.kind (so_far move.was) (done_with id move.work.op) on.fits fits);
    fits_work = λ w in_work. subst (λ (o : Op). Fits schema o move.transaction.kind) (let same : move.planned ≡ w = (cc) in sym move.op_is ∙ ap (λ (x : Work). x.op) same) fits;
    sees_all = λ single writes. let all = on.sees_all single writes in (
      all.0,
      change_shown before.journal before.course (marks_of before.course) (tx_of move.was move.transaction) (view move.was.latches before.settled before.aimed) (view move.was.latches before.settled after.aimed) (class_of move.work.op)
          (view_kept schema manager before after slot (class_of move.work.op) move.was (planning move.planned move.was) move.transaction plan move.latched) unmarked
          (commits before.journal) None (λ e. (cc)) (λ floor is_floor. is_floor.there)
          (view_change schema manager before after slot (class_of move.work.op) move.was (planning move.planned move.was) move.transaction plan move.latched)
          ∙ all.1,
    );
  }

  opened : IsOpen schema manager (record (scene_of before) { drawn = after.drawn; aimed = after.aimed }) (planning move.planned move.was) move.transaction
  opened = record {
    number = was_open.number;
    begun = begun_again schema (scene_of before) after.drawn after.aimed move.transaction was_open.begun;
    unended = was_open.unended;
    committed = was_open.committed;
    goes_on = λ none live. going;
    rolls_back = was_open.rolls_back;
  }

  made_longer : made_in (so_far (planning move.planned move.was)) ≡ made_in (so_far move.was) ++ made_in (done_with id move.work.op ∷ [])
  made_longer = ap made_in longer ∙ made_with (so_far move.was) (done_with id move.work.op)

  here : IsConnection schema manager (record (scene_of before) { drawn = after.drawn; aimed = after.aimed }) slot (planning move.planned move.was)
  here = record {
    place = is_there.place;
    ended = is_there.ended;
    anew = subst (MakesAnew (made_before before.journal)) (sym longer) ((anew_more (made_before before.journal) (so_far move.was) (done_with id move.work.op)).1 (
      is_there.anew,
      makes_none_again move.work.op id before.drawn after.drawn (made_before before.journal ++ made_in (so_far move.was)) move.object
          (drawn_both before.drawn (made_before before.journal) (made_in (so_far move.was)) serial.scene.drawn is_there.drawn),
    ));
    drawn = subst (AreDrawn after.drawn) (sym made_longer)
        (drawn_both after.drawn (made_in (so_far move.was)) (made_in (done_with id move.work.op ∷ [])) (drawn_more before.drawn after.drawn (made_in (so_far move.was)) grows is_there.drawn)
        (λ class one made. (makes_newly move.work.op id before.drawn after.drawn move.object (class, one) made).1));
    open_one = λ u e. subst (IsOpen schema manager (record (scene_of before) { drawn = after.drawn; aimed = after.aimed }) (planning move.planned move.was))
        (let same : Some move.transaction ≡ Some u = sym move.to_plan.open_one.open_one ∙ e in let one : move.transaction ≡ u = (cc) in one) opened;
  }

  -- no other story makes what is newly drawn
  made_of_none : (other : ℕ) (object : ℕ × ℕ) → slice_index before.drawn object.0 < object.1 → was_made (made_of (before.course other)) object ≡ false
  made_of_none other object new = go (before.course other) refl
    where
      go : (o : Option Progress) → before.course other ≡ o → was_made (made_of o) object ≡ false
      go None e = refl
      go (Some q) e = not_so (was_made (made_in (so_far q)) object) (λ made. let le = (connection_of schema manager before other q serial e).drawn object.0 object.1 made in omega (arith, le, new))

  fresh : (object : ℕ × ℕ) → was_made (made_of (after.course slot)) object ≡ true → (was_made (made_of (before.course slot)) object ≡ true) ⊎ ((other : ℕ) → other ≢ slot → was_made (made_of (before.course other)) object ≡ false)
  fresh object made = go (made_either (made_in (so_far move.was)) (made_in (done_with id move.work.op ∷ [])) object
      (sym (ap (λ (o : Option Progress). was_made (made_of o) object) move.turns.is_there ∙ ap (λ (l : List (ℕ × ℕ)). was_made l object) made_longer) ∙ made))
    where
      go : (was_made (made_in (so_far move.was)) object ≡ true) ⊎ (was_made (made_in (done_with id move.work.op ∷ [])) object ≡ true)
          → (was_made (made_of (before.course slot)) object ≡ true) ⊎ ((other : ℕ) → other ≢ slot → was_made (made_of (before.course other)) object ≡ false)
      go (inl old) = inl (ap (λ (o : Option Progress). was_made (made_of o) object) move.turns.was_there ∙ old)
      go (inr new) = inr (λ other differs. made_of_none other object (makes_newly move.work.op id before.drawn after.drawn move.object object new).0)

  pub plans_own : IsSerial schema manager after
  plans_own = planned schema manager before after slot (class_of move.work.op) move.was (planning move.planned move.was) move.transaction plan
      (apart_fresh before.course after.course slot move.turns.others fresh serial.apart) here
