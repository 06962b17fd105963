-- Walks along the entries of one bucket.
use Rattle.std.proofs.Common.{◌≡◌, ◌≢◌, ◌<◌, ◌≤◌, ◌+◌, ◌++◌, suc, ℕ, List, [], ◌∷◌, length, length-append, get_or, Option, Some, IsSome, inl, inr, refl, sym, ap, ap₂, subst, ◌∙◌, arith, rules}
use Rattle.std.proofs.lemmas.List.{append_assoc, append-nil}
use Rattle.std.specs.List.{Contains}
use Rattle.std.specs.Option.{option_map_or}
use Rattle.rdb_pages.specs.declared.cell.Cell.{Cell}
use Rattle.rdb_pages.specs.declared.cell.CellRef.{CellRef}
use Rattle.rdb_cells.specs.HashFormat.{hash_entry_in}
use Rattle.rdb_cells.specs.Images.{Image, IsCell}
use Rattle.rdb_cells.specs.Links.{IsAmong, Node, IsHeld, Stand, numbers, Placed, start, segment}
use Rattle.rdb_cells.specs.References.{last_page_cell}
use Rattle.rdb_cells.proofs.LinkLemmas.{few_below, one_chain, empty_chain, length_segment, stand_parts, segment_append}
use Rattle.rdb_cells.proofs.ListedLemmas.{contains_either}
use Rattle.rdb_hash.specs.declared.chain.Found.{Found}
use Rattle.rdb_hash.specs.Shape.{Held, Buckets, Entry, IsWritten, IsEntryCell, IsEntryOf, AreEntriesOf, versions_of, version_in}
use Rattle.rdb_hash.proofs.ShapeLemmas.{functional}
use Rattle.rdb_hash.specs.Walks.{IsBucket, HasBucket, HasEntry, IsLast, IsAt, WhateverInBucket}

-- what a cell holds is one thing
same_cell : (image : Image) (n : ℕ) (c d : Cell) → image n ≡ Some c → image n ≡ Some d → c ≡ d
same_cell image n c d is also = ap (λ (o : Option Cell). option_map_or (λ e. e) o c) (sym is ∙ also)

-- entries one after another
pub entries_parts : (bucket : ℕ) (xs ys : List (Placed Held)) → AreEntriesOf bucket (xs ++ ys) → AreEntriesOf bucket xs × AreEntriesOf bucket ys
entries_parts bucket [] ys are = (tt, are)
entries_parts bucket (x ∷ xs) ys are = let rest = entries_parts bucket xs ys are.1 in ((are.0, rest.0), rest.1)

pub entries_together : (bucket : ℕ) (xs ys : List (Placed Held)) → AreEntriesOf bucket xs → AreEntriesOf bucket ys → AreEntriesOf bucket (xs ++ ys)
entries_together bucket [] ys first second = second
entries_together bucket (x ∷ xs) ys first second = (first.0, entries_together bucket xs ys first.1 second)

pub versions_segment : (xs ys : List (Placed Held)) → versions_of (segment (xs ++ ys) 0) ≡ versions_of (segment xs 0) ++ versions_of (segment ys 0)
versions_segment [] ys = refl
versions_segment (x ∷ xs) ys = ap (λ (rs : List CellRef). version_in x.element ++ rs) (versions_segment xs ys) ∙ sym (append_assoc (version_in x.element) (versions_of (segment xs 0)) (versions_of (segment ys 0)))

-- an entry has a version and a hash
pub entry_is : (bucket : ℕ) (element : Held) → IsEntryOf bucket element → (version : CellRef) × (hash : ℕ) × (element ≡ Entry version hash)
entry_is bucket Buckets none = absurd none
entry_is bucket (Entry version hash) of = (version, hash, refl)

few_entries : (image : Image) (first bucket : ℕ) (chain : List (Placed Held)) → IsBucket image first bucket chain → length chain ≤ last_page_cell
few_entries image first bucket chain is =
    let ns = numbers (segment chain 0) in
    let fresh : ¬ IsAmong ns 0 = λ within. (let page = (is.paged 0 within).0 in absurd (omega arith)) in
    let below : (n : ℕ) → IsAmong (0 ∷ ns) n → n < suc last_page_cell = λ n within. elim within [
      | inl same ↦ omega arith
      | inr later ↦ (let page = (is.paged n later).1 in omega arith)
    ] in
    let few = few_below (suc last_page_cell) (0 ∷ ns) (fresh, is.chained.nodes.once) below in
    let long = length_segment chain 0 in
    omega arith

-- the first entry of the rest of a bucket
module _ (image : Image) (first bucket : ℕ) (seen : List (Placed Held)) (p : Placed Held) (ps : List (Placed Held)) (is : IsBucket image first bucket (seen ++ p ∷ ps)) where
  pub held_there : IsHeld IsWritten image (record { number = p.number; element = p.element; links = start ps 0 ∷ [] })
  held_there =
      let split = subst (λ (nodes : List (Node Held)). Stand IsWritten image nodes) (segment_append seen (p ∷ ps) 0) is.chained.nodes.stand in
      (stand_parts IsWritten image (segment seen p.number) (segment (p ∷ ps) 0) split).1.0

  pub entry_there : (version : CellRef) × (hash : ℕ) × (p.element ≡ Entry version hash)
  entry_there = entry_is bucket p.element (entries_parts bucket seen (p ∷ ps) is.entries).1.0

  pub written_there : (cell : Cell) → image p.number ≡ Some cell → IsEntryCell cell entry_there.0 entry_there.1 (start ps 0 ∷ [])
  written_there cell here =
      let written : IsWritten held_there.cell (Entry entry_there.0 entry_there.1) (start ps 0 ∷ []) = subst (λ (e : Held). IsWritten held_there.cell e (start ps 0 ∷ [])) entry_there.2 held_there.written in
      subst (λ (c : Cell). IsEntryCell c entry_there.0 entry_there.1 (start ps 0 ∷ [])) (same_cell image p.number held_there.cell cell held_there.here here) written

-- a walk: what was seen, and what is left
pub record IsWalk (image : Image) (first count at : ℕ) : Type 0 where
  pub bucket : ℕ
  pub seen : List (Placed Held)
  pub rest : List (Placed Held)
  pub is : IsBucket image first bucket (seen ++ rest)
  pub begins : at ≡ start rest 0
  pub many : length seen ≡ count

unfoldable pub walk_first : (image : Image) (first bucket : ℕ) (chain : List (Placed Held)) → IsBucket image first bucket chain → IsWalk image first 0 first
walk_first image first bucket chain is = record {
  bucket = bucket;
  seen = [];
  rest = chain;
  is = is;
  begins = is.chained.begins;
  many = refl;
}

-- what begins at a number has a first element
left_first : (rest : List (Placed Held)) (at : ℕ) → at ≡ start rest 0 → at ≢ 0 → (p : Placed Held) × (ps : List (Placed Held)) × (rest ≡ p ∷ ps)
left_first [] at begins some = absurd (some begins)
left_first (p ∷ ps) at begins some = (p, ps, refl)

module _ (image : Image) (first count at : ℕ) (walk : IsWalk image first count at) where
  module _ (some : at ≢ 0) where
    pub next : (p : Placed Held) × (ps : List (Placed Held)) × (walk.rest ≡ p ∷ ps)
    next = left_first walk.rest at walk.begins some

    pub all_of : IsBucket image first walk.bucket (walk.seen ++ next.0 ∷ next.1)
    all_of = subst (λ (rest : List (Placed Held)). IsBucket image first walk.bucket (walk.seen ++ rest)) next.2 walk.is

    pub stands_at : at ≡ next.0.number
    stands_at = walk.begins ∙ ap (λ (rest : List (Placed Held)). start rest 0) next.2

    pub walk_there : IsCell image at
    walk_there = subst (λ (o : Option Cell). IsSome o) (sym (ap image stands_at ∙ (held_there image first walk.bucket walk.seen next.0 next.1 all_of).here)) (search rules)

    module _ (cell : Cell) (here : image at ≡ Some cell) where
      pub entry_here : IsEntryCell cell (entry_there image first walk.bucket walk.seen next.0 next.1 all_of).0 (entry_there image first walk.bucket walk.seen next.0 next.1 all_of).1 (start next.1 0 ∷ [])
      entry_here = written_there image first walk.bucket walk.seen next.0 next.1 all_of cell (ap image (sym stands_at) ∙ here)

      pub element_here : next.0.element ≡ Entry (hash_entry_in cell).version (hash_entry_in cell).hash
      element_here =
          (entry_there image first walk.bucket walk.seen next.0 next.1 all_of).2
          ∙ ap₂ (λ (r : CellRef) (n : ℕ). Entry r n) (sym entry_here.of_version) (sym entry_here.has_hash)

      unfoldable pub walk_more : IsWalk image first (count + 1) (hash_entry_in cell).next.number
      walk_more = record {
        bucket = walk.bucket;
        seen = walk.seen ++ next.0 ∷ [];
        rest = next.1;
        is = subst (λ (chain : List (Placed Held)). IsBucket image first walk.bucket chain) (sym (append_assoc walk.seen (next.0 ∷ []) next.1)) all_of;
        begins = ap (λ (ns : List ℕ). get_or ns 0 0) entry_here.leads;
        many = (let long = length-append walk.seen (next.0 ∷ []) in let many = walk.many in omega arith);
      }

      pub versions_more : versions_of (segment (walk.seen ++ next.0 ∷ []) 0) ≡ versions_of (segment walk.seen 0) ++ (hash_entry_in cell).version ∷ []
      versions_more = versions_segment walk.seen (next.0 ∷ []) ∙ ap (λ (e : Held). versions_of (segment walk.seen 0) ++ (version_in e ++ [])) element_here

  -- nothing is left at 0, nor after as many entries as there are cells
  pub none_left : at ≡ 0 → walk.rest ≡ []
  none_left none =
      let split = subst (λ (nodes : List (Node Held)). Stand IsWritten image nodes) (segment_append walk.seen walk.rest 0) walk.is.chained.nodes.stand in
      empty_chain IsWritten image walk.rest (sym walk.begins ∙ none) (stand_parts IsWritten image (segment walk.seen (start walk.rest 0)) (segment walk.rest 0) split).1

  pub none_more : count ≡ last_page_cell → walk.rest ≡ []
  none_more all =
      let few = few_entries image first walk.bucket (walk.seen ++ walk.rest) walk.is in
      let long = length-append walk.seen walk.rest in
      let many = walk.many in
      by_length walk.rest (omega arith)
    where
      by_length : (rest : List (Placed Held)) → length rest ≡ 0 → rest ≡ []
      by_length [] none = refl
      by_length (p ∷ ps) none = absurd (omega arith)

  pub walked_all : walk.rest ≡ [] → (bucket : ℕ) (chain : List (Placed Held)) → IsBucket image first bucket chain → walk.seen ≡ chain
  walked_all none bucket chain is =
      let whole : IsBucket image first walk.bucket walk.seen = subst (λ (c : List (Placed Held)). IsBucket image first walk.bucket c) (append-nil walk.seen) (subst (λ (rest : List (Placed Held)). IsBucket image first walk.bucket (walk.seen ++ rest)) none walk.is) in
      one_chain IsWritten functional image walk.seen chain (sym whole.chained.begins ∙ is.chained.begins) whole.chained.nodes.stand is.chained.nodes.stand

-- a listing: what was seen is listed
pub record IsListedTo (image : Image) (first : ℕ) (before refs : List CellRef) (count at : ℕ) : Type 0 where
  pub walk : IsWalk image first count at
  pub all : refs ≡ before ++ versions_of (segment walk.seen 0)

pub listed_first : (image : Image) (first : ℕ) (before : List CellRef) → HasBucket image first → IsListedTo image first before before 0 first
unfolding walk_first
listed_first image first before has = record { walk = walk_first image first has.0 has.1 has.2; all = sym (append-nil before) }

module _ (image : Image) (first : ℕ) (before refs : List CellRef) (count at : ℕ) (so_far : IsListedTo image first before refs count at) where
  pub listed_there : at ≢ 0 → IsCell image at
  listed_there some = walk_there image first count at so_far.walk some

  pub listed_more : (some : at ≢ 0) (cell : Cell) → image at ≡ Some cell → IsListedTo image first before (refs ++ (hash_entry_in cell).version ∷ []) (count + 1) (hash_entry_in cell).next.number
  unfolding walk_more
  listed_more some cell here = record {
    walk = walk_more image first count at so_far.walk some cell here;
    all =
        ap (λ (rs : List CellRef). rs ++ (hash_entry_in cell).version ∷ []) so_far.all
        ∙ append_assoc before (versions_of (segment so_far.walk.seen 0)) ((hash_entry_in cell).version ∷ [])
        ∙ ap (λ (rs : List CellRef). before ++ rs) (sym (versions_more image first count at so_far.walk some cell here));
  }

  listed_whole : so_far.walk.rest ≡ [] → WhateverInBucket image first (λ versions. refs ≡ before ++ versions)
  listed_whole none bucket chain is =
      so_far.all ∙ ap (λ (c : List (Placed Held)). before ++ versions_of (segment c 0)) (walked_all image first count at so_far.walk none bucket chain is)

  pub listed_at_none : at ≡ 0 → WhateverInBucket image first (λ versions. refs ≡ before ++ versions)
  listed_at_none none = listed_whole (none_left image first count at so_far.walk none)

  pub listed_at_end : count ≡ last_page_cell → WhateverInBucket image first (λ versions. refs ≡ before ++ versions)
  listed_at_end all = listed_whole (none_more image first count at so_far.walk all)

-- a search: the version's entry is among those that are left
pub record IsSought (image : Image) (first : ℕ) (version : CellRef) (before count at : ℕ) : Type 0 where
  pub walk : IsWalk image first count at
  pub behind : IsLast walk.seen before
  pub within : Contains (versions_of (segment walk.rest 0)) version

pub sought_first : (image : Image) (first : ℕ) (version : CellRef) → HasEntry image first version → IsSought image first version 0 0 first
unfolding walk_first
sought_first image first version has = record { walk = walk_first image first has.bucket has.chain has.is; behind = inl (refl, refl); within = has.within }

-- what has a version has a first entry, and is there
some_there : (image : Image) (rest : List (Placed Held)) (version : CellRef) → Stand IsWritten image (segment rest 0) → Contains (versions_of (segment rest 0)) version → start rest 0 ≢ 0
some_there image [] version stand within = let below = within.1 in absurd (omega arith)
some_there image (p ∷ ps) version stand within = λ none. (let some = stand.0.some in absurd (omega arith))

module _ (image : Image) (first : ℕ) (version : CellRef) (before count at : ℕ) (so_far : IsSought image first version before count at) where
  some_left : at ≢ 0
  some_left none =
      let split = subst (λ (nodes : List (Node Held)). Stand IsWritten image nodes) (segment_append so_far.walk.seen so_far.walk.rest 0) so_far.walk.is.chained.nodes.stand in
      let rest = (stand_parts IsWritten image (segment so_far.walk.seen (start so_far.walk.rest 0)) (segment so_far.walk.rest 0) split).1 in
      some_there image so_far.walk.rest version rest so_far.within (sym so_far.walk.begins ∙ none)

  pub sought_there : IsCell image at
  sought_there = walk_there image first count at so_far.walk some_left

  module _ (cell : Cell) (here : image at ≡ Some cell) where
    pub sought_found : (hash_entry_in cell).version ≡ version → (found : Found) → found.before.number ≡ before → found.at.number ≡ at → found.next ≡ (hash_entry_in cell).next → IsAt image first version found
    sought_found same found is_before is_at is_next =
        let walk = so_far.walk in
        let here_is : (next image first count at walk some_left).0 ≡ record { number = found.at.number; element = Entry version (hash_entry_in cell).hash } =
        ap₂ (λ (n : ℕ) (e : Held). (let p : Placed Held = record { number = n; element = e } in p)) (sym (stands_at image first count at walk some_left) ∙ sym is_at)
        (element_here image first count at walk some_left cell here ∙ ap (λ (r : CellRef). Entry r (hash_entry_in cell).hash) same) in
        record {
          bucket = walk.bucket;
          hash = (hash_entry_in cell).hash;
          front = walk.seen;
          back = (next image first count at walk some_left).1;
          is = subst (λ (p : Placed Held). IsBucket image first walk.bucket (walk.seen ++ p ∷ (next image first count at walk some_left).1)) here_is (all_of image first count at walk some_left);
          before = subst (IsLast walk.seen) (sym is_before) so_far.behind;
          next = ap (λ (r : CellRef). r.number) is_next ∙ ap (λ (ns : List ℕ). get_or ns 0 0) (entry_here image first count at walk some_left cell here).leads;
        }

    pub sought_more : (hash_entry_in cell).version ≢ version → IsSought image first version at (count + 1) (hash_entry_in cell).next.number
    unfolding walk_more
    sought_more other =
        let walk = so_far.walk in
        let left = next image first count at walk some_left in
        let split : versions_of (segment walk.rest 0) ≡ (hash_entry_in cell).version ∷ versions_of (segment left.1 0) =
        ap (λ (c : List (Placed Held)). versions_of (segment c 0)) left.2 ∙ ap (λ (e : Held). version_in e ++ versions_of (segment left.1 0)) (element_here image first count at walk some_left cell here) in
        record {
          walk = walk_more image first count at walk some_left cell here;
          behind = inr (walk.seen, left.0, refl, stands_at image first count at walk some_left);
          within = elim (contains_either (hash_entry_in cell).version (versions_of (segment left.1 0)) version (subst (λ (rs : List CellRef). Contains rs version) split so_far.within)) [
            | inl same ↦ absurd (other same)
            | inr later ↦ later
          ];
        }

  pub sought_never : count ≡ last_page_cell → ⊥
  sought_never all =
      let none = none_more image first count at so_far.walk all in
      some_left (so_far.walk.begins ∙ ap (λ (c : List (Placed Held)). start c 0) none)
