-- A new version comes, and the one that it replaces goes.
use Rattle.std.proofs.Common.{◌≡◌, ℕ, List, [], ◌∷◌, ◌++◌, Option, Some, None, inl, inr, sym, ap, subst, ◌∙◌}
use Rattle.std.proofs.lemmas.List.Elements.{Contains-append_right}
use Rattle.std.specs.List.{Contains}
use Rattle.rdb_pages.specs.declared.cell.CellRef.{CellRef}
use Rattle.rdb_cells.specs.Images.{Image}
use Rattle.rdb_cells.specs.Index.{Nature}
use Rattle.rdb_cells.specs.Keys.{Meaning}
use Rattle.rdb_cells.specs.Records.{planned}
use Rattle.rdb_cells.specs.Work.{Work, reading}
use Rattle.rdb_objects.specs.Objects.{HaveVersions}
use Rattle.rdb_sight.specs.Versions.{Version, Object, chain_of, with_chain}
use Rattle.rdb_store.specs.Chains.{IsLeft, CanReplace}
use Rattle.rdb_store.specs.Classes.{ClassNature, AreLawful}
use Rattle.rdb_store.specs.Holds.{Holds}
use Rattle.rdb_store.specs.Indexed.{Declared, class_over}
use Rattle.rdb_store.specs.Stored.{all_linked}
use Rattle.rdb_store.specs.Taking.{HoldsNow, CanTakeReplaced, TakesReplaced}
use Rattle.rdb_store.specs.declared.keyed.Keyed.{Keyed}
use Rattle.rdb_store.proofs.ChainMaps.{Rises, rises_with, chain_same, chain_other}
use Rattle.rdb_store.proofs.Linking.{have_chain, same_or_other}
use Rattle.rdb_store.proofs.Lists.{first_in, later_in}
use Rattle.rdb_store.proofs.OneList.{same_objects}

-- a chain, and then another one in its place
pub chain_twice : (objects : List Object) (id : ℕ) (first second : List Version) → Rises objects → HaveVersions (all_linked objects) → with_chain (with_chain objects id first) id second ≡ with_chain objects id second
chain_twice objects id first second rises have =
    let once = rises_with objects id first rises in
    same_objects (with_chain (with_chain objects id first) id second) (with_chain objects id second)
    (rises_with (with_chain objects id first) id second once) (rises_with objects id second rises)
    (have_chain (with_chain objects id first) id second (have_chain objects id first have)) (have_chain objects id second have)
    (λ k. elim (same_or_other id k) [
      | inl is ↦ subst (λ (m : ℕ). chain_of (with_chain (with_chain objects id first) id second) m ≡ chain_of (with_chain objects id second) m) is
          (chain_same (with_chain objects id first) id second once ∙ sym (chain_same objects id second rises))
      | inr other ↦ chain_other (with_chain objects id first) id k second other ∙ chain_other objects id k first other ∙ sym (chain_other objects id k second other)
    ])

-- an empty plan reads as the cells do
pub reads_below : (w : Work) → w.pairs ≡ [] → reading w ≡ w.below
reads_below w empty = ap (λ ps. planned ps w.below) empty

-- what the cells hold below an empty plan, they hold through it, and back
pub held_through : (class : ClassNature) (w : Work) (objects : List Object) → w.pairs ≡ [] → Holds class w.below w.class_of objects → HoldsNow class w objects
held_through class w objects empty holds = subst (λ (image : Image). Holds class image w.class_of objects) (sym (reads_below w empty)) holds

module _ {I K : Type 0} (nature : I → Nature) (meaning : K → Meaning) (indexes : List (Keyed I K)) (of : Declared) (lawful : AreLawful (class_over nature meaning indexes of)) (put : Work) (of_class : put.class ≡ of.number) (objects : List Object) (rises : Rises objects) (have : HaveVersions (all_linked objects)) (id : ℕ) (made : Version) (holds : HoldsNow (class_over nature meaning indexes of) put (with_chain objects id (made ∷ chain_of objects id))) where
  chain_now : chain_of (with_chain objects id (made ∷ chain_of objects id)) id ≡ made ∷ chain_of objects id
  chain_now = chain_same objects id (made ∷ chain_of objects id) rises

  pub can_take : (replaced : Option CellRef) → CanReplace replaced (chain_of objects id) → CanTakeReplaced nature meaning indexes put replaced
  can_take None can = tt
  can_take (Some r) can =
      let without = can.1.without in
      let v = can.1.version in
      record {
        of = of;
        lawful = lawful;
        of_class = of_class;
        objects = with_chain objects id (made ∷ chain_of objects id);
        version = can.1.version;
        has = record {
          id = id;
          within = subst (λ (vs : List Version). Contains vs can.1.version) (sym chain_now) (later_in made can.1.version (chain_of objects id)
              (subst (λ (vs : List Version). Contains vs can.1.version) (sym without.before) (Contains-append_right without.newer (v ∷ without.older) v (first_in v without.older))));
        };
        there = can.1.there;
        holds = holds;
      }

  pub replaced_held : (after : Work) (replaced : Option CellRef) → TakesReplaced nature meaning indexes put after replaced → (rest : List Version) → IsLeft replaced (chain_of objects id) rest → HoldsNow (class_over nature meaning indexes of) after (with_chain objects id (made ∷ rest))
  replaced_held after None same rest left =
      subst (λ (w : Work). HoldsNow (class_over nature meaning indexes of) w (with_chain objects id (made ∷ rest))) (sym same)
      (subst (λ (vs : List Version). HoldsNow (class_over nature meaning indexes of) put (with_chain objects id (made ∷ vs))) (sym left) holds)
  replaced_held after (Some r) drops rest left =
      let without = left.without in
      let v = left.version in
      let gone = drops of lawful of_class (with_chain objects id (made ∷ chain_of objects id)) id (made ∷ without.newer) without.older v
      (chain_now ∙ ap (λ (vs : List Version). made ∷ vs) without.before) left.there holds in
      let chain : made ∷ (without.newer ++ without.older) ≡ made ∷ rest = ap (λ (vs : List Version). made ∷ vs) (sym without.after) in
      subst (λ (os : List Object). HoldsNow (class_over nature meaning indexes of) after os)
      (chain_twice objects id (made ∷ chain_of objects id) (made ∷ (without.newer ++ without.older)) rises have ∙ ap (with_chain objects id) chain) gone
