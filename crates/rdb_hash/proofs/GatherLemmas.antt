-- The versions of one bucket that have a key.
use Rattle.std.proofs.Common.{◌≡◌, ◌≢◌, ◌+◌, ◌++◌, ℕ, List, [], ◌∷◌, filter, Some, Bool, true, false, cond, sym, ap, subst, ◌∙◌}
use Rattle.std.proofs.lemmas.List.{append_assoc, append-nil}
use Rattle.std.proofs.lemmas.List.Elements.{filter-append}
use Rattle.rdb_base.specs.declared.value.Value.{Value}
use Rattle.rdb_pages.specs.declared.cell.Cell.{Cell}
use Rattle.rdb_pages.specs.declared.cell.CellRef.{CellRef}
use Rattle.rdb_cells.specs.declared.formats.hash.HashEntry.{HashEntry}
use Rattle.rdb_cells.specs.HashFormat.{hash_entry_in}
use Rattle.rdb_cells.specs.Images.{Image, IsCell}
use Rattle.rdb_cells.specs.Keys.{Meaning, Sayings, says}
use Rattle.rdb_cells.specs.Links.{Placed, segment}
use Rattle.rdb_cells.specs.References.{last_page_cell}
use Rattle.rdb_hash.specs.Lookup.{has_key}
use Rattle.rdb_hash.specs.Shape.{Held, Entry, IsHashed, AreHashed, versions_of}
use Rattle.rdb_hash.specs.Walks.{HasHashedBucket, WhateverInBucket}
use Rattle.rdb_hash.proofs.WalkLemmas.{IsWalk, walk_first, walk_there, walk_more, next, element_here, versions_more, none_left, none_more, walked_all}

-- the entry at a place of a bucket is hashed
hashed_there : (said : Sayings) (seen : List (Placed Held)) (p : Placed Held) (ps : List (Placed Held)) → AreHashed said (segment (seen ++ p ∷ ps) 0) → IsHashed said p.element
hashed_there said [] p ps hashed = hashed.0
hashed_there said (x ∷ xs) p ps hashed = hashed_there said xs p ps hashed.1

-- a version that has the key, and one that doesn't
module _ (p : CellRef → Bool) (r : CellRef) where
  kept : p r ≡ true → filter p (r ∷ []) ≡ r ∷ []
  kept passes = ap (λ (b : Bool). cond b (r ∷ []) []) passes

  passed_over : p r ≡ false → filter p (r ∷ []) ≡ []
  passed_over fails = ap (λ (b : Bool). cond b (r ∷ []) []) fails

-- a walk that gathers: what was seen and has the key is found
pub record IsGathered (keys : Meaning) (image : Image) (key : List Value) (first : ℕ) (before found : List CellRef) (count at : ℕ) : Type 0 where
  pub walk : IsWalk image first count at
  pub hashed : AreHashed (says keys image) (segment (walk.seen ++ walk.rest) 0)
  pub all : found ≡ before ++ filter (has_key keys image key) (versions_of (segment walk.seen 0))

module _ (keys : Meaning) (image : Image) (key : List Value) (first : ℕ) (before : List CellRef) where
  pub gathered_first : HasHashedBucket keys image first → IsGathered keys image key first before before 0 first
  unfolding walk_first
  gathered_first has = record { walk = walk_first image first has.bucket has.chain has.is; hashed = has.hashed; all = sym (append-nil before) }

  module _ (found : List CellRef) (count at : ℕ) (so_far : IsGathered keys image key first before found count at) where
    pub gathered_there : at ≢ 0 → IsCell image at
    gathered_there some = walk_there image first count at so_far.walk some

    module _ (some : at ≢ 0) (cell : Cell) (here : image at ≡ Some cell) where
      abbrev version : CellRef
      version = (hash_entry_in cell).version

      hashed_next : AreHashed (says keys image) (segment (so_far.walk.seen ++ (next image first count at so_far.walk some).0 ∷ (next image first count at so_far.walk some).1) 0)
      hashed_next = subst (λ (rest : List (Placed Held)). AreHashed (says keys image) (segment (so_far.walk.seen ++ rest) 0)) (next image first count at so_far.walk some).2 so_far.hashed

      pub hashed_here : IsHashed (says keys image) (Entry (hash_entry_in cell).version (hash_entry_in cell).hash)
      hashed_here = subst (IsHashed (says keys image)) (element_here image first count at so_far.walk some cell here) (hashed_there (says keys image) so_far.walk.seen (next image first count at so_far.walk some).0 (next image first count at so_far.walk some).1 hashed_next)

      seen_more : filter (has_key keys image key) (versions_of (segment (so_far.walk.seen ++ (next image first count at so_far.walk some).0 ∷ []) 0)) ≡ filter (has_key keys image key) (versions_of (segment so_far.walk.seen 0)) ++ filter (has_key keys image key) (version ∷ [])
      seen_more =
          ap (λ (rs : List CellRef). filter (has_key keys image key) rs) (versions_more image first count at so_far.walk some cell here)
          ∙ filter-append (has_key keys image key) (versions_of (segment so_far.walk.seen 0)) (version ∷ [])

      step : (now : List CellRef) → now ≡ found ++ filter (has_key keys image key) (version ∷ []) → IsGathered keys image key first before now (count + 1) (hash_entry_in cell).next.number
      unfolding walk_more
      step now is = record {
        walk = walk_more image first count at so_far.walk some cell here;
        hashed = subst (λ (chain : List (Placed Held)). AreHashed (says keys image) (segment chain 0)) (sym (append_assoc so_far.walk.seen ((next image first count at so_far.walk some).0 ∷ []) (next image first count at so_far.walk some).1)) hashed_next;
        all =
            is
            ∙ ap (λ (rs : List CellRef). rs ++ filter (has_key keys image key) (version ∷ [])) so_far.all
            ∙ append_assoc before (filter (has_key keys image key) (versions_of (segment so_far.walk.seen 0))) (filter (has_key keys image key) (version ∷ []))
            ∙ ap (λ (rs : List CellRef). before ++ rs) (sym seen_more);
      }

      -- the entry that was read is kept where its version has the key
      module _ (entry : HashEntry) (read : entry ≡ hash_entry_in cell) (now : List CellRef) where
        pub gathered_with : now ≡ found ++ entry.version ∷ [] → has_key keys image key entry.version ≡ true → IsGathered keys image key first before now (count + 1) entry.next.number
        gathered_with is passes =
            let same : entry.version ≡ version = ap (λ (e : HashEntry). e.version) read in
            let has : has_key keys image key version ≡ true = ap (has_key keys image key) (sym same) ∙ passes in
            subst (λ (e : HashEntry). IsGathered keys image key first before now (count + 1) e.next.number) (sym read)
            (step now (is ∙ ap (λ (r : CellRef). found ++ r ∷ []) same ∙ ap (λ (rs : List CellRef). found ++ rs) (sym (kept (has_key keys image key) version has))))

        pub gathered_without : now ≡ found → has_key keys image key entry.version ≡ false → IsGathered keys image key first before now (count + 1) entry.next.number
        gathered_without is fails =
            let same : entry.version ≡ version = ap (λ (e : HashEntry). e.version) read in
            let has : has_key keys image key version ≡ false = ap (has_key keys image key) (sym same) ∙ fails in
            subst (λ (e : HashEntry). IsGathered keys image key first before now (count + 1) e.next.number) (sym read)
            (step now (is ∙ sym (append-nil found) ∙ ap (λ (rs : List CellRef). found ++ rs) (sym (passed_over (has_key keys image key) version has))))

    gathered_whole : so_far.walk.rest ≡ [] → WhateverInBucket image first (λ versions. found ≡ before ++ filter (has_key keys image key) versions)
    gathered_whole none bucket chain is =
        so_far.all ∙ ap (λ (c : List (Placed Held)). before ++ filter (has_key keys image key) (versions_of (segment c 0))) (walked_all image first count at so_far.walk none bucket chain is)

    pub gathered_at_none : at ≡ 0 → WhateverInBucket image first (λ versions. found ≡ before ++ filter (has_key keys image key) versions)
    gathered_at_none none = gathered_whole (none_left image first count at so_far.walk none)

    pub gathered_at_end : count ≡ last_page_cell → WhateverInBucket image first (λ versions. found ≡ before ++ filter (has_key keys image key) versions)
    gathered_at_end all = gathered_whole (none_more image first count at so_far.walk all)
