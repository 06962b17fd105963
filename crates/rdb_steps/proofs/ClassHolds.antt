-- What the cells of a class hold while its latch's holder has no plan, as the store of the schema says it.
use Rattle.std.proofs.Common.{◌≡◌, ◌≢◌, ◌⊎◌, ◌<◌, ◌++◌, ◌∷◌, ℕ, zero, List, [], length, true, Some, Contains, refl, sym, ap, subst, ◌∙◌, arith}
use Rattle.std.proofs.lemmas.List.Elements.{Contains-append_right}
use Rattle.rdb_base.specs.declared.identity.Manager.{Manager}
use Rattle.rdb_schema.specs.declared.schema.Schema.{Schema}
use Rattle.rdb_cells.specs.declared.pairs.Pair.{Pair}
use Rattle.rdb_cells.specs.Records.{planned}
use Rattle.rdb_registry.specs.declared.seat.Seat.{Seat}
use Rattle.rdb_registry.specs.Registry.{Roll}
use Rattle.rdb_registry.specs.Seats.{HoldsLatch, seat_in}
use Rattle.rdb_sight.specs.Versions.{Object, Version, Versions, chain_in, objects_in, with_chain}
use Rattle.rdb_space.specs.Memory.{RegionCells, class_of, image_of}
use Rattle.rdb_store.proofs.ClassNumbers.{many_shapes, schema_class_shape}
use Rattle.rdb_store.specs.Chains.{IsWithoutHeader}
use Rattle.rdb_store.specs.Classes.{ClassNature}
use Rattle.rdb_store.specs.Holds.{Holds, HoldsSome, Whatever}
use Rattle.rdb_store.specs.Shapes.{ClassShape, class_in, nature_of_class, schema_class, shapes_of}
use Rattle.rdb_writes.specs.Grounds.{HaveOneHolder}
use Rattle.rdb_steps.specs.Kept.{Agrees, IsLawful, aims}
use Rattle.rdb_steps.specs.Laid.{LeadsWithout}
use Rattle.rdb_steps.specs.Lists.{LeadsTo}
use Rattle.rdb_steps.specs.States.{ground_in}
use Rattle.rdb_steps.proofs.PlanningLemmas.{leads_elsewhere}
use Rattle.rdb_steps.proofs.RestingLemmas.{ascends, stands_now}

-- the class of a store is that of its schema
pub class_same : (schema : Schema) (shapes : List ClassShape) (class : ℕ) → shapes ≡ shapes_of schema → class < length schema.classes → class_in shapes class ≡ schema_class schema class
class_same schema shapes class is within = ap (λ (ss : List ClassShape). class_in ss class) is ∙ ap nature_of_class (schema_class_shape schema class within)

pub class_there : (schema : Schema) (shapes : List ClassShape) (class : ℕ) → shapes ≡ shapes_of schema → class < length schema.classes → class < length shapes
class_there schema shapes class is within =
    let many : length shapes ≡ length schema.classes = ap (λ (ss : List ClassShape). length ss) is ∙ many_shapes schema 0 (length schema.classes) in
    omega (arith, many, within)

-- a version between newer and older ones is one of the chain
pub between : (newer : List Version) (v : Version) (older : List Version) → Contains (newer ++ v ∷ older) v
between newer v older = Contains-append_right newer (v ∷ older) v (zero, omega arith, refl)

module _ (schema : Schema) (manager : Manager) (memory : RegionCells) (roll : Roll) (settled aimed : Versions) (slot : ℕ) (seat : Seat) (lawful : IsLawful schema) (one : HaveOneHolder roll.seats) (agrees : Agrees schema manager (ground_in memory roll) settled aimed)
    (at : seat_in roll.seats slot ≡ Some seat) (no_plan : seat.hand.plan.pairs ≡ []) (rests : (aims manager seat ≡ true) ⊎ (seat.hand.undo.pairs ≡ [])) (shapes : List ClassShape) (store : shapes ≡ shapes_of schema) (class : ℕ) (within : class < length schema.classes) (latch : HoldsLatch seat class) where
  here : Holds (schema_class schema class) (image_of memory) (class_of memory) (objects_in aimed class)
  here = stands_now schema manager (ground_in memory roll) settled aimed slot seat lawful one agrees at no_plan rests class within latch

  pub holds_aimed : Holds (class_in shapes class) (image_of memory) (class_of memory) (objects_in aimed class)
  holds_aimed = subst (λ (k : ClassNature). Holds k (image_of memory) (class_of memory) (objects_in aimed class)) (sym (class_same schema shapes class store within)) here

  pub holds_some : HoldsSome (class_in shapes class) (image_of memory) (class_of memory)
  holds_some = (objects_in aimed class, holds_aimed)

  -- what is so of the objects aimed at is so whatever the class holds
  pub whatever_held : (Is : List Object → Type 0) → Is (objects_in aimed class) → Whatever (class_in shapes class) (image_of memory) (class_of memory) Is
  whatever_held Is p objects holds =
      subst (λ (os : List Object). Is os)
      ((lawful class within).one (image_of memory) (class_of memory) (objects_in aimed class) objects here
      (subst (λ (k : ClassNature). Holds k (image_of memory) (class_of memory) objects) (class_same schema shapes class store within) holds)) p

  -- the plan of a version's drop leads to the rest of its chain
  pub leads_rest : (pairs : List Pair) (header id : ℕ) (rest : List Version) → LeadsWithout (class_in shapes class) (image_of memory) (class_of memory) pairs header → IsWithoutHeader header (chain_in aimed class id) rest →
      LeadsTo schema (ground_in memory roll) pairs class id (chain_in aimed class id) rest
  leads_rest pairs header id rest leads without objects holds is =
      subst (λ (k : ClassNature). Holds k (planned pairs (image_of memory)) (class_of memory) (with_chain objects id rest)) (class_same schema shapes class store within)
      (leads objects (subst (λ (k : ClassNature). Holds k (image_of memory) (class_of memory) objects) (sym (class_same schema shapes class store within)) holds)
      id rest (subst (λ (vs : List Version). IsWithoutHeader header vs rest) (sym is) without))

  -- a plan that leads to another chain has a cell
  pub has_cell : (pairs : List Pair) (id : ℕ) (chain : List Version) → LeadsTo schema (ground_in memory roll) pairs class id (chain_in aimed class id) chain → chain ≢ chain_in aimed class id → ¬ (pairs ≡ [])
  has_cell pairs id chain leads differs =
      leads_elsewhere schema lawful (ground_in memory roll) pairs class id (chain_in aimed class id) chain (objects_in aimed class) within leads here
      (ascends schema manager (ground_in memory roll) settled aimed slot seat lawful one agrees at no_plan rests class within latch) refl differs
