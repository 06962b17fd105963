-- The walk through an object's versions, from the newest on, to the one that a reader sees.
use Rattle.std.proofs.Common.{◌≡◌, ◌≢◌, ◌≤◌, ◌+◌, ◌++◌, suc, ℕ, Bool, true, false, cond, List, [], ◌∷◌, length, length-append, Option, Some, None, refl, sym, ap, ap₂, subst, ◌∙◌, arith}
use Rattle.std.proofs.lemmas.List.{append_assoc, length-map}
use Rattle.std.specs.Option.{option_map, option_map_or}
use Rattle.rdb_base.specs.declared.identity.TxId.{TxId}
use Rattle.rdb_base.specs.declared.identity.Stamp.{Stamp}
use Rattle.rdb_base.specs.declared.identity.Stamp.TheVariants as stamp
use Rattle.rdb_pages.specs.declared.cell.CellRef.{CellRef}
use Rattle.rdb_cells.specs.Images.{Image, AreBounded}
use Rattle.rdb_cells.specs.References.{last_head}
use Rattle.rdb_objects.specs.Objects.{newest_of}
use Rattle.rdb_objects.specs.Slots.{AreVersions}
use Rattle.rdb_objects.proofs.ChainLemmas.{chain_short}
use Rattle.rdb_rows.specs.Versions.{HasVersion, ForVersion, HoldsVersion}
use Rattle.rdb_sight.specs.Sight.{is_better}
use Rattle.rdb_sight.specs.Versions.{Version, Marks, counted}
use Rattle.rdb_sight.proofs.SightLemmas.{seen_more}
use Rattle.rdb_store.specs.Layouts.{Layout}
use Rattle.rdb_store.specs.Shapes.{ClassShape, nature_of_class}
use Rattle.rdb_store.specs.Stored.{ref_of, refs_of, as_stored, IsStored, AreStored}
use Rattle.rdb_cursor.specs.declared.marks.Reader.{Reader}
use Rattle.rdb_cursor.specs.Views.{version_of, sighted, better_of, StandsFrom}

-- how far the walk has come: the best of the versions in front is known, and it stands at the first of those behind
pub record IsWalking (marks : Marks) (reader : Reader) (chain : List Version) (count : ℕ) (at : CellRef) (best : Option (CellRef × Stamp)) : Type 0 where
  pub front : List Version
  pub back : List Version
  pub split : chain ≡ front ++ back
  pub here : at ≡ newest_of (refs_of back)
  pub many : length front ≡ count
  pub best_is : best ≡ option_map (sighted marks) (version_of marks reader front)

pub walking_first : (shape : ClassShape) (image : Image) (newest : CellRef) (id : ℕ) (chain : List Version) (marks : Marks) (reader : Reader) → StandsFrom shape image newest id chain → IsWalking marks reader chain 0 newest None
walking_first shape image newest id chain marks reader stands = record { front = []; back = chain; split = refl; here = stands.begins; many = refl; best_is = refl }

stored_back : (shape : ClassShape) (image : Image) (layout : Layout) (id : ℕ) (front back : List Version) → AreStored (nature_of_class shape) image layout id (front ++ back) → AreStored (nature_of_class shape) image layout id back
stored_back shape image layout id [] back stored = stored
stored_back shape image layout id (v ∷ front) back stored = stored_back shape image layout id front back stored.1

linked_back : (image : Image) (id : ℕ) (front back : List Version) → AreVersions image id (refs_of (front ++ back)) → AreVersions image id (refs_of back)
linked_back image id [] back linked = linked
linked_back image id (v ∷ front) back linked = linked_back image id front back linked.1

-- the first of the versions behind
record IsNext (shape : ClassShape) (image : Image) (layout : Layout) (id : ℕ) (back : List Version) (at : CellRef) : Type 0 where
  version : Version
  older : List Version
  split : back ≡ version ∷ older
  stored : IsStored (nature_of_class shape) image id version older (layout.of_version version.header)
  here : at ≡ ref_of version

next_is : (shape : ClassShape) (image : Image) (layout : Layout) (id : ℕ) (back : List Version) (at : CellRef) → AreStored (nature_of_class shape) image layout id back → at ≡ newest_of (refs_of back) → at.number ≢ 0 → IsNext shape image layout id back at
next_is shape image layout id [] at stored here some = absurd (some (ap (λ (r : CellRef). r.number) here))
next_is shape image layout id (v ∷ older) at stored here some = record { version = v; older = older; split = refl; stored = stored.0; here = here }

pick : (marks : Marks) (v : Version) (b : Bool) (o : Option Version) → cond b (Some (sighted marks v)) (option_map (sighted marks) o) ≡ option_map (sighted marks) (cond b (Some v) o)
pick marks v true o = refl
pick marks v false o = refl

better_step : (marks : Marks) (reader : Reader) (v : Version) (o : Option Version) → better_of reader (option_map (sighted marks) o) (sighted marks v)
    ≡ option_map (sighted marks) (cond (is_better reader.snapshot (Some reader.tx) (option_map (λ w. counted marks w.stamp) o) (counted marks v.stamp)) (Some v) o)
better_step marks reader v None = pick marks v (is_better reader.snapshot (Some reader.tx) None (counted marks v.stamp)) None
better_step marks reader v (Some w) = pick marks v (is_better reader.snapshot (Some reader.tx) (Some (counted marks w.stamp)) (counted marks v.stamp)) (Some w)

module _ (shape : ClassShape) (image : Image) (newest : CellRef) (id : ℕ) (chain : List Version) (stands : StandsFrom shape image newest id chain) (marks : Marks) (reader : Reader) (count : ℕ) (at : CellRef) (best : Option (CellRef × Stamp)) (so_far : IsWalking marks reader chain count at best) where
  behind : AreStored (nature_of_class shape) image stands.layout id so_far.back
  behind = stored_back shape image stands.layout id so_far.front so_far.back (subst (λ (vs : List Version). AreStored (nature_of_class shape) image stands.layout id vs) so_far.split stands.stored)

  linked : AreVersions image id (refs_of so_far.back)
  linked = linked_back image id so_far.front so_far.back (subst (λ (vs : List Version). AreVersions image id (refs_of vs)) so_far.split stands.linked)

  module _ (some : at.number ≢ 0) where
    next : IsNext shape image stands.layout id so_far.back at
    next = next_is shape image stands.layout id so_far.back at behind so_far.here some

    holds : HoldsVersion image at.number (as_stored (nature_of_class shape) id next.version next.older) (stands.layout.of_version next.version.header)
    holds = subst (λ (n : ℕ). HoldsVersion image n (as_stored (nature_of_class shape) id next.version next.older) (stands.layout.of_version next.version.header)) (ap (λ (r : CellRef). r.number) (sym next.here)) next.stored.stands

    pub walking_there : HasVersion image at.number
    walking_there = record { version = _; cells = _; holds = holds }

    pub walking_more : (s : Stamp) (after : CellRef) (better : Option (CellRef × Stamp)) → ForVersion image at.number (λ v cells. s ≡ counted marks v.label.stamp) → ForVersion image at.number (λ v cells. after ≡ v.label.older) → better ≡ better_of reader best (at, s) → IsWalking marks reader chain (count + 1) after better
    walking_more s after better stamp_is after_is better_is = record {
      front = so_far.front ++ next.version ∷ [];
      back = next.older;
      split = so_far.split ∙ ap (λ (vs : List Version). so_far.front ++ vs) next.split ∙ sym (append_assoc so_far.front (next.version ∷ []) next.older);
      here = after_is _ _ holds;
      many = (let long = length-append so_far.front (next.version ∷ []) in let many = so_far.many in omega arith);
      best_is =
          better_is
          ∙ ap₂ (λ (b : Option (CellRef × Stamp)) (o : CellRef × Stamp). better_of reader b o) so_far.best_is (ap₂ (λ (r : CellRef) (t : Stamp). (r, t)) next.here (stamp_is _ _ holds))
          ∙ better_step marks reader next.version (version_of marks reader so_far.front)
          ∙ ap (λ (o : Option Version). option_map (sighted marks) o) (sym (seen_more (λ (w : Version). counted marks w.stamp) reader.snapshot (Some reader.tx) so_far.front next.version));
    }

  ended : so_far.back ≡ [] → best ≡ option_map (sighted marks) (version_of marks reader chain)
  ended none =
      let whole : so_far.front ≡ chain = sym (so_far.split ∙ ap (λ (vs : List Version). so_far.front ++ vs) none ∙ nothing so_far.front) in
      so_far.best_is ∙ ap (λ (vs : List Version). option_map (sighted marks) (version_of marks reader vs)) whole
    where
      nothing : (vs : List Version) → vs ++ [] ≡ vs
      nothing [] = refl
      nothing (v ∷ vs) = ap (λ (us : List Version). v ∷ us) (nothing vs)

  none_behind : (vs : List Version) → AreVersions image id (refs_of vs) → at ≡ newest_of (refs_of vs) → at.number ≡ 0 → vs ≡ []
  none_behind [] are here zero = refl
  none_behind (v ∷ vs) are here zero =
      let some = are.0.some in
      let is : at.number ≡ v.header = ap (λ (r : CellRef). r.number) here in
      absurd (omega arith)

  pub walking_end : at.number ≡ 0 → best ≡ option_map (sighted marks) (version_of marks reader chain)
  walking_end zero = ended (none_behind so_far.back linked so_far.here zero)

  pub walking_all : (class_of : ℕ → Option ℕ) → AreBounded image class_of → last_head ≤ count → best ≡ option_map (sighted marks) (version_of marks reader chain)
  walking_all class_of bounded all = ended (empty so_far.back refl)
    where
      empty : (vs : List Version) → so_far.back ≡ vs → so_far.back ≡ []
      empty [] is = is
      empty (v ∷ vs) is =
          let short = chain_short image class_of id (refs_of chain) bounded stands.linked in
          let long = length-map chain ref_of in
          let whole : length chain ≡ length so_far.front + suc (length vs) = ap (λ (us : List Version). length us) so_far.split ∙ length-append so_far.front so_far.back ∙ ap (λ (us : List Version). length so_far.front + length us) is in
          let many = so_far.many in
          absurd (omega arith)

-- the version that was seen best, if one was
pub seen_best : (marks : Marks) (o : Option Version) (best : Option (CellRef × Stamp)) (b : CellRef × Stamp) → best ≡ option_map (sighted marks) o → best ≡ Some b → (v : Version) × (o ≡ Some v) × (b ≡ sighted marks v)
seen_best marks None best b is found = absurd (cc)
seen_best marks (Some v) best b is found = (v, refl, (cc))

pub none_best : (marks : Marks) (o : Option Version) (best : Option (CellRef × Stamp)) → best ≡ option_map (sighted marks) o → best ≡ None → o ≡ None
none_best marks None best is none = refl
none_best marks (Some v) best is none = absurd (cc)

-- a stamp with the marks counted
pub counted_by : (marks : Marks) (mark : Option ℕ) (tx : TxId) (s label r : Stamp) → r ≡ option_map_or stamp.Done mark (stamp.By tx) → s ≡ stamp.By tx → mark ≡ marks tx → s ≡ label → r ≡ counted marks label
counted_by marks mark tx s label r told is mark_is label_is =
    told ∙ ap (λ (m : Option ℕ). option_map_or stamp.Done m (stamp.By tx)) mark_is ∙ sym (ap (counted marks) (sym label_is ∙ is))

pub counted_done : (marks : Marks) (commit : ℕ) (s label : Stamp) → s ≡ stamp.Done commit → s ≡ label → s ≡ counted marks label
counted_done marks commit s label is label_is = is ∙ sym (ap (counted marks) (sym label_is ∙ is))
