-- Who aims at the versions of a class, and where those are the settled ones.
use Rattle.std.proofs.Common.{◌≡◌, ◌≢◌, ◌⊎◌, ◌<◌, ◌&&◌, ◌==◌, ℕ, zero, suc, List, [], ◌∷◌, length, Bool, true, false, Option, Some, None, refl, sym, ap, subst, ◌∙◌, arith, eqb-true, eq-eqb, inl, inr}
use Rattle.std.proofs.lemmas.Bool.{false≢true, and_parts, cases_lt}
use Rattle.std.proofs.Permutation.{which}
use Rattle.std.specs.Int.{bit_at}
use Rattle.rdb_base.specs.declared.identity.Manager.{Manager}
use Rattle.rdb_base.specs.declared.identity.TxId.{TxId}
use Rattle.rdb_schema.specs.declared.schema.Schema.{Schema}
use Rattle.rdb_cells.specs.declared.pairs.Pair.{Pair}
use Rattle.rdb_cells.specs.Records.{planned, taken_back}
use Rattle.rdb_cells.proofs.SettledLemmas.{true_or_false}
use Rattle.rdb_registry.specs.declared.seat.Seat.{Seat}
use Rattle.rdb_registry.specs.declared.seat.Transaction.{Transaction}
use Rattle.rdb_registry.specs.Seats.{Seats, HoldsLatch, seat_in}
use Rattle.rdb_sight.specs.Versions.{Object, Versions, objects_in, chain_of, chain_in, own_version}
use Rattle.rdb_writes.specs.Grounds.{Ground, HaveOneHolder, settled_image, aimed_image}
use Rattle.rdb_writes.specs.Steps.{spans_one_plan, is_written}
use Rattle.rdb_writes.proofs.ChangeLemmas.{by_holder}
use Rattle.rdb_steps.specs.Invariant.{IsKept}
use Rattle.rdb_steps.specs.Kept.{IsLawful, Agrees, HasNoVersion, IsUnaimed, aims, tx_of}
use Rattle.rdb_steps.specs.Moves.{ArePlaced}
use Rattle.rdb_steps.proofs.ListLemmas.{holds_same}
use Rattle.rdb_steps.proofs.RestLemmas.{no_pairs, latched_writer, empty_without_plan, live_aimer}
use Rattle.rdb_steps.proofs.TakenLemmas.{beyond}

-- a record that passes a test, with its slot
record Passes (P : Seat → Bool) (seats : Seats) : Type 0 where
  place : ℕ
  seat : Seat
  there : seat_in seats place ≡ Some seat
  passes : P seat ≡ true

none_behind : (P : Seat → Bool) (o : Option Seat) (ss : Seats) → ((s : Seat) → o ≡ Some s → P s ≡ false) →
    ((i : ℕ) (s : Seat) → seat_in ss i ≡ Some s → P s ≡ false) → (i : ℕ) (s : Seat) → seat_in (o ∷ ss) i ≡ Some s → P s ≡ false
none_behind P o ss here rest zero s e = here s e
none_behind P o ss here rest (suc i) s e = rest i s e

one_behind : (P : Seat → Bool) (o : Option Seat) (ss : Seats) → Passes P ss → Passes P (o ∷ ss)
one_behind P o ss found = record { place = suc found.place; seat = found.seat; there = found.there; passes = found.passes }

passes_or_not : (P : Seat → Bool) (seats : Seats) → Passes P seats ⊎ ((i : ℕ) (s : Seat) → seat_in seats i ≡ Some s → P s ≡ false)
passes_or_not P [] = inr (λ i s e. absurd (let no : None ≡ Some s = e in cc))
passes_or_not P (None ∷ ss) = elim (passes_or_not P ss) [
  | inl found ↦ inl (one_behind P None ss found)
  | inr none ↦ inr (none_behind P None ss (λ s e. absurd (let no : None ≡ Some s = e in cc)) none)
]
passes_or_not P (Some x ∷ ss) = step (P x) refl (passes_or_not P ss)
  where
    step : (b : Bool) → P x ≡ b → Passes P ss ⊎ ((i : ℕ) (s : Seat) → seat_in ss i ≡ Some s → P s ≡ false) →
        Passes P (Some x ∷ ss) ⊎ ((i : ℕ) (s : Seat) → seat_in (Some x ∷ ss) i ≡ Some s → P s ≡ false)
    step true e rest = inl (record { place = zero; seat = x; there = refl; passes = e })
    step false e (inl found) = inl (one_behind P (Some x) ss found)
    step false e (inr none) = inr (none_behind P (Some x) ss (λ s is. let same : x ≡ s = (let both : Some x ≡ Some s = is in cc) in subst (λ (y : Seat). P y ≡ false) same e) none)

-- whoever aims at the versions of a class
pub record IsAimer (manager : Manager) (g : Ground) (class : ℕ) : Type 0 where
  pub place : ℕ
  pub seat : Seat
  pub there : seat_in g.seats place ≡ Some seat
  pub held : HoldsLatch seat class
  pub speaks : aims manager seat ≡ true

and_second : (a b : Bool) → (a && b) ≡ false → a ≡ true → b ≡ false
and_second true b e is = e
and_second false b e is = absurd (false≢true is)

pub aimer_or_none : (manager : Manager) (g : Ground) (class : ℕ) → IsAimer manager g class ⊎ IsUnaimed manager g class
aimer_or_none manager g class = elim (passes_or_not (λ s. (bit_at s.latches class == 1) && aims manager s) g.seats) [
  | inl found ↦
      let both = and_parts (bit_at found.seat.latches class == 1) (aims manager found.seat) found.passes in
      inl (record { place = found.place; seat = found.seat; there = found.there; held = eqb-true (bit_at found.seat.latches class) 1 both.0; speaks = both.1 })
  | inr none ↦ inr (λ i s there held. and_second (bit_at s.latches class == 1) (aims manager s) (none i s there) (eq-eqb (bit_at s.latches class) 1 held))
]

-- what a connection aims at that has neither plan nor pair is settled
pub alike_there : (schema : Schema) (manager : Manager) (g : Ground) (settled_list aimed : Versions) → IsLawful schema → HaveOneHolder g.seats →
    Agrees schema manager g settled_list aimed → (slot : ℕ) (seat : Seat) → seat_in g.seats slot ≡ Some seat → seat.hand.plan.pairs ≡ [] → seat.hand.undo.pairs ≡ [] →
    aims manager seat ≡ true → (class : ℕ) → class < length schema.classes → HoldsLatch seat class → objects_in aimed class ≡ objects_in settled_list class
alike_there schema manager g settled_list aimed lawful one agrees slot seat there plan undo speaks class within held =
    (lawful class within).one g.image g.class_of (objects_in aimed class) (objects_in settled_list class)
    (holds_same schema lawful g g (aimed_image g seat.hand) g.image class (objects_in aimed class) within (λ n. refl)
    (λ n of. sym (ap (λ (ps : List Pair). planned ps g.image n) plan))
    (agrees.aims slot seat there speaks class within held))
    (holds_same schema lawful g g (settled_image g) g.image class (objects_in settled_list class) within (λ n. refl)
    (λ n of. sym (by_holder g slot n seat agrees.works one there (class, of, held) ∙ ap (λ (ps : List Pair). taken_back ps g.image n) undo))
    (agrees.stands.each class within))

-- Of the transaction of a record without plan and pair no version is aimed at where none is settled.
module _ (schema : Schema) (manager : Manager) (serials : ℕ) (ids : List ℕ) (g : Ground) (settled_list aimed : Versions) (lawful : IsLawful schema) (in_place : ArePlaced g.seats) (kept : IsKept schema manager serials ids g settled_list aimed) (slot : ℕ) (seat : Seat) (there : seat_in g.seats slot ≡ Some seat) (plan : seat.hand.plan.pairs ≡ []) (undo : seat.hand.undo.pairs ≡ []) (none : HasNoVersion seat settled_list) (t : Transaction) (open_one : seat.transaction ≡ Some t) where
  as_settled : (class id : ℕ) → objects_in aimed class ≡ objects_in settled_list class → own_version (tx_of seat t) (chain_in aimed class id) ≡ None
  as_settled class id same = ap (λ (objects : List Object). own_version (tx_of seat t) (chain_of objects id)) same ∙ none t open_one class id

  by_another : (class id : ℕ) → class < length schema.classes → (a : IsAimer manager g class) → a.place ≢ slot → own_version (tx_of seat t) (chain_in aimed class id) ≡ None
  by_another class id within a other =
      let writer = latched_writer manager (length schema.classes) a.seat (kept.rests a.place a.seat a.there) class a.held in
      elim (true_or_false (spans_one_plan manager)) [
        | inr single ↦ absurd (other (kept.single single a.place slot a.seat seat writer.transaction t a.there there writer.open_one writer.writes open_one))
        | inl spans ↦ elim (true_or_false (is_written a.seat.hand)) [
          | inl written ↦
              let none_left = no_pairs a.seat.hand.plan.pairs written in
              let live = live_aimer manager a.seat none_left a.speaks in
              let empty = empty_without_plan manager (length schema.classes) a.seat (kept.rests a.place a.seat a.there) spans live none_left in
              as_settled class id (alike_there schema manager g settled_list aimed lawful kept.one_holder kept.agrees a.place a.seat a.there none_left empty a.speaks class within a.held)
          | inr unwritten ↦
              let differs : tx_of seat t ≢ tx_of a.seat writer.transaction = λ same. other (sym (in_place a.place a.seat a.there) ∙ sym (ap (λ (tx : TxId). tx.conn.slot) same) ∙ in_place slot seat there) in
              (kept.plans a.place a.seat a.there a.speaks unwritten).others spans writer.transaction writer.open_one (tx_of seat t) differs class id a.held
              ∙ none t open_one class id
        ]
      ]

  by_aimer : (class id : ℕ) → class < length schema.classes → (a : IsAimer manager g class) → own_version (tx_of seat t) (chain_in aimed class id) ≡ None
  by_aimer class id within a = elim (which a.place slot) [
    | inl same ↦
        let both : Some a.seat ≡ Some seat = sym a.there ∙ ap (seat_in g.seats) same ∙ there in
        let me : a.seat ≡ seat = cc in
        as_settled class id
        (alike_there schema manager g settled_list aimed lawful kept.one_holder kept.agrees slot seat there plan undo
        (subst (λ (x : Seat). aims manager x ≡ true) me a.speaks) class within (subst (λ (x : Seat). HoldsLatch x class) me a.held))
    | inr other ↦ by_another class id within a other
  ]

  pub none_aimed : (class id : ℕ) → own_version (tx_of seat t) (chain_in aimed class id) ≡ None
  none_aimed class id = elim (cases_lt class (length schema.classes)) [
    | inr past ↦ ap (λ (objects : List Object). own_version (tx_of seat t) (chain_of objects id)) (beyond aimed class (omega (arith, past, kept.agrees.rest.count)))
    | inl within ↦ elim (aimer_or_none manager g class) [
      | inl a ↦ by_aimer class id within a
      | inr unaimed ↦ as_settled class id (kept.agrees.rest.same class within unaimed)
    ]
  ]
