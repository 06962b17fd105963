use Rattle.std.proofs.Common.{◌≡◌, ◌+◌, ◌∷◌, ℕ, true, [], length, None, refl, sym, ap, subst, ◌∙◌, arith}
use Rattle.std.proofs.lemmas.List.{length_push}
use Rattle.rdb_base.specs.declared.identity.Kind.TheVariants as kind
use Rattle.rdb_base.specs.declared.identity.Phase.TheVariants as phase
use Rattle.rdb_base.specs.declared.journal.Entry.TheVariants as entry
use Rattle.rdb_cells.specs.Records.{Record}
use Rattle.rdb_model.specs.Journal.{commits}
use Rattle.rdb_registry.specs.declared.seat.Seat.{Seat}
use Rattle.rdb_registry.specs.Registry.{Roll}
use Rattle.rdb_registry.specs.Seats.{seat_of, HasUnmarked, with_mark, IsHeld}
use Rattle.rdb_transactions.specs.declared.claims.Claims.{Claims}
use Rattle.rdb_transactions.specs.Claims.{writes_in}
use Rattle.rdb_transactions.specs.Hands.{to_be_stamped}
use Rattle.rdb_transactions.specs.Moves.{Moves}
use Rattle.rdb_transactions.specs.Records.{on_hand, edited, becomes_marked}
use Rattle.rdb_transactions.proofs.EditLemmas.{of_held, has_seat, is_held, seats_edited, then_edited, held_edited}
use Rattle.rdb_transactions.proofs.PhaseLemmas.{in_its_phase, orderly_in, marked_phase, one_open, unmarked_kind, unmarked_of, unmarked_stamping, has_unmarked}
use Rattle.rdb_transactions.proofs.SoundLemmas.{sound_edit, orderly_of, covers_story, commits_few, places_at}
use Rattle.rdb_transactions.proofs.transactions.Transactions.mark.Goals as goal

pub overflow_add-commit : goal.overflow_add-commit
overflow_add-commit c =
    let before = c.args.self.now in
    let few = commits_few before.journal.entries in
    let limit = c.requires.sound.claims.room.limit in
    let is = c.commits-commit.ensures in
    omega (arith, few, limit, is)

pub enter-requires-clause-claimed : goal.enter-requires-clause-claimed
enter-requires-clause-claimed c =
    let before = c.args.self.now in
    let there = of_held before.registry.seats c.args.c (λ (seat : Seat). seat.hand.phase ≡ phase.Running kind.ReadWrite) c.requires.running in
    covers_story c.args.story.done before c.args.c there.0 c.claimed_by-given.result _ c.requires.sound there.1.0 c.claimed_by-given.ensures (omega arith)

pub mark-requires : goal.mark-requires
mark-requires c =
    let before = c.args.self.now in
    let there = of_held before.registry.seats c.args.c (λ (seat : Seat). seat.hand.phase ≡ phase.Running kind.ReadWrite) c.requires.running in
    let running = in_its_phase (length before.journal.entries) there.0 (phase.Running kind.ReadWrite) (orderly_of c.args.story.done before c.args.c there.0 c.requires.sound there.1.0) there.1.1 in
    subst (λ (r : Roll). HasUnmarked (seat_of r.seats c.args.c)) (sym c.enter.ensures.registry)
    (has_unmarked before.registry.seats c.args.c there.0 there.1.0 (unmarked_kind there.0 kind.ReadWrite running.transaction))

pub stamp_from_now-requires : goal.stamp_from_now-requires
stamp_from_now-requires c =
    let before = c.args.self.now in
    held_edited c.enter.new.self.registry c.mark.new.self c.args.c (with_mark (c.commits-commit.result + 1)) (λ s. refl) c.mark.ensures
    (subst (λ (r : Roll). IsHeld r.seats c.args.c) (sym c.enter.ensures.registry)
    (is_held before.registry.seats c.args.c (λ (seat : Seat). seat.hand.phase ≡ phase.Running kind.ReadWrite) c.requires.running))

pub returns-clause-moves : goal.returns-clause-moves
returns-clause-moves c =
    let before = c.args.self.now in
    let slot = c.args.c.slot in
    let number = c.commits-commit.result + 1 in
    let is : number ≡ commits before.journal.entries + 1 = ap (λ n. n + 1) c.commits-commit.ensures in
    let all = then_edited c.enter.new.self.registry c.mark.new.self c.stamp_from_now.new.registry slot (with_mark number) (on_hand to_be_stamped) c.mark.ensures c.stamp_from_now.ensures in
    subst (λ (n : ℕ). Moves before (record c.enter.new.self { registry = c.stamp_from_now.new.registry }) c.args.c (becomes_marked n) (entry.Commit c.args.story n ∷ [])) is
    (record {
      manager = c.enter.ensures.manager;
      registry = all ∙ ap (λ (r : Roll). edited r slot (becomes_marked number)) c.enter.ensures.registry;
      entries = c.enter.ensures.entries;
    })

pub returns-clause-sound : goal.returns-clause-sound
returns-clause-sound c =
    let before = c.args.self.now in
    let done = c.args.story.done in
    let slot = c.args.c.slot in
    let number = c.commits-commit.result + 1 in
    let there = of_held before.registry.seats c.args.c (λ (seat : Seat). seat.hand.phase ≡ phase.Running kind.ReadWrite) c.requires.running in
    let live = has_seat before.registry.seats c.args.c (λ (seat : Seat). seat.condemned ≡ None) there.0 c.requires.live there.1.0 in
    let empty = has_seat before.registry.seats c.args.c (λ (seat : Seat). seat.hand.done.items ≡ []) there.0 c.requires.empty there.1.0 in
    let o = orderly_of done before c.args.c there.0 c.requires.sound there.1.0 in
    let running = in_its_phase (length before.journal.entries) there.0 (phase.Running kind.ReadWrite) o there.1.1 in
    let stamping = marked_phase number there.0 running live empty in
    let was = places_at there.0 _ (unmarked_of there.0 (unmarked_kind there.0 kind.ReadWrite running.transaction)) in
    let now = places_at (becomes_marked number there.0) _ (unmarked_stamping (becomes_marked number there.0) stamping) in
    let one : c.claimed_by-given.result.entries ≡ 1 = ap (λ (x : Claims). x.entries) c.claimed_by-given.ensures in
    let given : c.claimed_by-given.result.writes ≡ writes_in done = ap (λ (x : Claims). x.writes) c.claimed_by-given.ensures in
    let claimed = c.enter.ensures.claimed in
    let writes = c.enter.ensures.writes in
    let longer : length c.enter.new.self.journal.entries ≡ length before.journal.entries + 1 = ap length c.enter.ensures.entries ∙ length_push before.journal.entries _ in
    let unmarked = one_open there.0 true (unmarked_of there.0 (unmarked_kind there.0 kind.ReadWrite running.transaction)) in
    let begun = o.begun in
    let all = then_edited c.enter.new.self.registry c.mark.new.self c.stamp_from_now.new.registry slot (with_mark number) (on_hand to_be_stamped) c.mark.ensures c.stamp_from_now.ensures in
    sound_edit done [] before _ c.args.c there.0 (becomes_marked number) c.requires.sound there.1.0
    (seats_edited before.registry c.stamp_from_now.new.registry slot (becomes_marked number)
    (all ∙ ap (λ (r : Roll). edited r slot (becomes_marked number)) c.enter.ensures.registry))
    (orderly_in (length c.enter.new.self.journal.entries) phase.Stamping (becomes_marked number there.0) refl stamping (omega (arith, begun, unmarked, longer)))
    (omega (arith, was, now, one, claimed)) (omega (arith, given, writes)) c.enter.ensures.room (omega (arith, longer))
    (ap (λ (r : Record). r.pairs) c.enter.ensures.spare ∙ c.requires.sound.spare)
