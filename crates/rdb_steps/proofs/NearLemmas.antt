-- Each cell of an operation's plan that is written brings its end nearer.
use Rattle.std.proofs.Common.{◌≡◌, ◌<◌, ◌+◌, ℕ, List, length, cond, Option, Some, None, IsSome, IsSomeAnd, is_some, refl, sym, ap, subst, ◌∙◌, arith}
use Rattle.std.proofs.lemmas.Bool.{false≢true}
use Rattle.rdb_base.specs.declared.identity.ConnId.{ConnId}
use Rattle.rdb_base.specs.declared.identity.Kind.TheVariants as kind
use Rattle.rdb_base.specs.declared.identity.Manager.{Manager}
use Rattle.rdb_base.specs.declared.identity.Phase.{Phase}
use Rattle.rdb_base.specs.declared.identity.Phase.TheVariants as phase
use Rattle.rdb_base.specs.declared.operation.Reply.{Reply}
use Rattle.rdb_schema.specs.declared.schema.Schema.{Schema}
use Rattle.rdb_pages.specs.declared.cell.CellRef.{CellRef}
use Rattle.rdb_registry.specs.declared.hand.Hand.{Hand}
use Rattle.rdb_registry.specs.declared.hand.Work.{Work}
use Rattle.rdb_registry.specs.declared.seat.Seat.{Seat}
use Rattle.rdb_registry.specs.Registry.{Roll}
use Rattle.rdb_registry.specs.Seats.{Seats, seat_of}
use Rattle.rdb_sight.specs.Versions.{Versions}
use Rattle.rdb_space.specs.Memory.{RegionCells}
use Rattle.rdb_transactions.proofs.EditLemmas.{same_seat}
use Rattle.rdb_writes.proofs.WorkLemmas.{in_its_slot}
use Rattle.rdb_steps.specs.Invariant.{IsKept}
use Rattle.rdb_steps.specs.Phases.{IsWriting, RestsIn}
use Rattle.rdb_steps.specs.States.{ground_in}
use Rattle.rdb_steps.specs.Debt.{debt, operation_debt, phase_debt, repair_debt, work_debt}
use Rattle.rdb_steps.specs.Written.{FallsDebt, WritesWork}

-- what is left, of a plan that is shorter by one
operation_less : (puts : Option CellRef) (now was : Hand) (versions pages : ℕ) → length now.plan.pairs + 1 ≡ length was.plan.pairs → operation_debt puts now versions pages < operation_debt puts was versions pages
operation_less (Some version) now was versions pages less = omega (arith, less)
operation_less None now was versions pages less = omega (arith, less)

work_less : (work : Option Work) (now was : Hand) (versions pages : ℕ) → IsSome work → length now.plan.pairs + 1 ≡ length was.plan.pairs → work_debt work now versions pages < work_debt work was versions pages
work_less None now was versions pages some less = absurd (false≢true some)
work_less (Some work) now was versions pages some less = operation_less work.puts now was versions pages less

module _ (manager : Manager) (before after : RegionCells) (seats seats_now : Seats) (c : ConnId) where
  writing_debt : (s : Seat) (versions pages : ℕ) → s.condemned ≡ None → s.hand.phase ≡ phase.Writing → debt manager s versions pages ≡ work_debt s.hand.work s.hand versions pages
  writing_debt s versions pages live writing = λ i. cond (is_some (live i)) (repair_debt manager s) (phase_debt manager s (writing i) versions pages)

  running_debt : (s : Seat) (versions pages : ℕ) → s.condemned ≡ None → s.hand.phase ≡ phase.Running kind.ReadWrite → debt manager s versions pages ≡ 0
  running_debt s versions pages live running = λ i. cond (is_some (live i)) (repair_debt manager s) (phase_debt manager s (running i) versions pages)

  work_falls : (result : Option Reply) (w : WritesWork manager before after seats seats_now c result) → w.seat.condemned ≡ None → w.seat.hand.phase ≡ phase.Writing → IsSome w.seat.hand.work → FallsDebt manager w.seat w.now
  work_falls None w live writing busy versions pages =
      let was = writing_debt w.seat versions pages live writing in
      let is = writing_debt w.now versions pages (ap (λ (s : Seat). s.condemned) (w.becomes refl) ∙ live) (same_phase ∙ writing) in
      let less = work_less w.seat.hand.work w.now.hand w.seat.hand versions pages busy w.closer in
      subst (λ (n : ℕ). debt manager w.now versions pages < n) (sym was)
      (subst (λ (n : ℕ). n < work_debt w.seat.hand.work w.seat.hand versions pages) (sym (is ∙ ap (λ (o : Option Work). work_debt o w.now.hand versions pages) same_work)) less)
    where
      same_phase : w.now.hand.phase ≡ w.seat.hand.phase
      same_phase = ap (λ (s : Seat). s.hand.phase) (w.becomes refl) ∙ ap (λ (h : Hand). h.phase) w.pair.rest

      same_work : w.now.hand.work ≡ w.seat.hand.work
      same_work = ap (λ (s : Seat). s.hand.work) (w.becomes refl) ∙ ap (λ (h : Hand). h.work) w.pair.rest
  work_falls (Some reply) w live writing busy versions pages =
      let ends = w.ends refl in
      let was : debt manager w.seat versions pages ≡ length w.seat.hand.plan.pairs = writing_debt w.seat versions pages live writing
      ∙ ap (λ (o : Option Work). work_debt o w.seat.hand versions pages) ends.had ∙ ap (λ (p : Option CellRef). operation_debt p w.seat.hand versions pages) ends.puts in
      let is : debt manager w.now versions pages ≡ 0 = running_debt w.now versions pages (ap (λ (s : Seat). s.condemned) ends.rest ∙ live) (ap (λ (h : Hand). h.phase) ends.finishes.rest) in
      let less = w.closer in
      subst (λ (n : ℕ). n < debt manager w.seat versions pages) (sym is) (subst (λ (n : ℕ). 0 < n) (sym was) (omega (arith, less)))

  pub work_nearer : (result : Option Reply) → WritesWork manager before after seats seats_now c result → (seat now : Seat) → seat_of seats c ≡ Some seat → seat_of seats_now c ≡ Some now →
      seat.condemned ≡ None → seat.hand.phase ≡ phase.Writing → IsSome seat.hand.work → FallsDebt manager seat now
  work_nearer result w seat now held there live writing busy =
      let same = same_seat seats c w.seat seat w.held held in
      let same_now = same_seat seats_now c w.now now w.there there in
      subst (λ (s : Seat). FallsDebt manager s now) same (subst (λ (s : Seat). FallsDebt manager w.seat s) same_now
      (work_falls result w (ap (λ (s : Seat). s.condemned) same ∙ live) (ap (λ (s : Seat). s.hand.phase) same ∙ writing) (subst (λ (o : Option Work). IsSome o) (sym (ap (λ (s : Seat). s.hand.work) same)) busy)))

-- so it is of what every step keeps
pub nearer : (schema : Schema) (manager : Manager) (serials : ℕ) (ids : List ℕ) (memory after : RegionCells) (roll : Roll) (seats_now : Seats) (c : ConnId) (result : Option Reply) (settled aimed : Versions) →
    IsKept schema manager serials ids (ground_in memory roll) settled aimed → IsSomeAnd (seat_of roll.seats c) (λ seat. seat.condemned ≡ None) →
    IsSomeAnd (seat_of roll.seats c) (λ seat. seat.hand.phase ≡ phase.Writing) → WritesWork manager memory after roll.seats seats_now c result →
    (seat now : Seat) → seat_of roll.seats c ≡ Some seat → seat_of seats_now c ≡ Some now → FallsDebt manager seat now
nearer schema manager serials ids memory after roll seats_now c result settled aimed kept live_one writing_one w seat now held there =
    work_nearer manager memory after roll.seats seats_now c result w seat now held there live writing (rests.work live)
  where
    live : seat.condemned ≡ None
    live = subst (λ (o : Option Seat). IsSomeAnd o (λ x. x.condemned ≡ None)) held live_one

    writing : seat.hand.phase ≡ phase.Writing
    writing = subst (λ (o : Option Seat). IsSomeAnd o (λ x. x.hand.phase ≡ phase.Writing)) held writing_one

    rests : IsWriting manager (length schema.classes) seat
    rests = subst (λ (p : Phase). RestsIn manager (length schema.classes) seat p) writing (kept.rests c.slot seat (in_its_slot roll.seats c seat held))
