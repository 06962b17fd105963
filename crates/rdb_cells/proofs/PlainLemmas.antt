-- Plain lists: walks through them, and what a put and a remove make of them.
use Rattle.std.proofs.Common.{◌≡◌, ◌≢◌, ◌<◌, ◌≤◌, ◌+◌, ◌^◌, ◌++◌, suc, ℕ, List, [], ◌∷◌, length, length-append, get_or, slice_get, Option, Some, IsSome, inl, inr, refl, sym, ap, ap₂, subst, ◌∙◌, arith, rules}
use Rattle.std.proofs.lemmas.List.{append_assoc, append-nil}
use Rattle.std.proofs.lemmas.List.Sorted.{IsPermutation-refl}
use Rattle.std.specs.List.{Contains}
use Rattle.std.specs.Option.{option_map_or}
use Rattle.std.specs.Prelude.{IsPermutation}
use Rattle.rdb_pages.specs.declared.cell.Cell.{Cell}
use Rattle.rdb_pages.specs.declared.cell.CellRef.{CellRef}
use Rattle.rdb_cells.specs.declared.kind.Kind.{Kind}
use Rattle.rdb_cells.specs.declared.kind.Kind.TheVariants as kind
use Rattle.rdb_cells.specs.HeadFormat.{index_head_in}
use Rattle.rdb_cells.specs.Images.{Image, IsCell}
use Rattle.rdb_cells.specs.Index.{IsListing}
use Rattle.rdb_cells.specs.Links.{IsAmong, Node, IsNeverZero, IsFunctional, IsHeld, Stand, numbers, Placed, elements, start, segment}
use Rattle.rdb_cells.specs.PatriciaFormat.{patricia_entry_in}
use Rattle.rdb_cells.specs.PlainList.{IsEntry, LeadsTo, AreEntries, plain_nature, HasEntry, IsEntryAt}
use Rattle.rdb_cells.specs.References.{IsPageCell, last_page_cell}
use Rattle.rdb_cells.specs.Words.{kind_number, number_of, IsOfKind, HasKind}
use Rattle.rdb_cells.proofs.LinkLemmas.{few_below, one_chain, empty_chain, length_segment, elements_append, stand_parts, segment_append}
use Rattle.rdb_cells.proofs.ListedLemmas.{contains_either}

-- What a cell says is one thing.
same_cell : (image : Image) (n : ℕ) (c d : Cell) → image n ≡ Some c → image n ≡ Some d → c ≡ d
same_cell image n c d is also = ap (λ (o : Option Cell). option_map_or (λ e. e) o c) (sym is ∙ also)

pub entries_functional : IsFunctional IsEntry
entries_functional cell a b ks ls first second = (sym first.says ∙ second.says, first.leads ∙ sym second.leads)

pub entries_never_zero : IsNeverZero IsEntry
entries_never_zero element links entry = let e = entry.kind in absurd (omega arith)

pub leads_one : (image : Image) (head : ℕ) (a b : CellRef) → LeadsTo image head a → LeadsTo image head b → a ≡ b
leads_one image head a b first second =
    let cell = same_cell image head first.cell second.cell first.here second.here in
    let roots : Some a ≡ Some b = sym first.leads ∙ ap (λ (c : Cell). slice_get (index_head_in c).roots 0) cell ∙ second.leads in
    ap (λ (o : Option CellRef). option_map_or (λ r. r) o a) roots

-- the root that was read from a head
pub leads_there : (image : Image) (head : ℕ) (first root : CellRef) (cell : Cell) → LeadsTo image head first → image head ≡ Some cell → slice_get (index_head_in cell).roots 0 ≡ Some root → first ≡ root
leads_there image head first root cell leads here read =
    leads_one image head first root leads (record { cell = cell; here = here; kind = subst (λ (c : Cell). IsOfKind c kind.IndexHead) (same_cell image head leads.cell cell leads.here here) leads.kind; leads = read })

pub head_there : (image : Image) (head : ℕ) (first : CellRef) → LeadsTo image head first → IsCell image head
head_there image head first leads = subst (λ (o : Option Cell). IsSome o) (sym leads.here) (search rules)

-- two kinds at one place are one
pub one_kind : (image : Image) (k l : Kind) (n : ℕ) → HasKind image k n → HasKind image l n → number_of k ≡ number_of l
one_kind image k l n a b = sym a.2 ∙ ap kind_number (same_cell image n a.0 b.0 a.1 b.1) ∙ b.2

-- chains of entries
pub one_entries : (image : Image) (first : ℕ) (xs ys : List (Placed CellRef)) → AreEntries image first xs → AreEntries image first ys → xs ≡ ys
one_entries image first xs ys a b = one_chain IsEntry entries_functional image xs ys (sym a.chained.begins ∙ b.chained.begins) a.chained.nodes.stand b.chained.nodes.stand

few_entries : (image : Image) (first : ℕ) (chain : List (Placed CellRef)) → AreEntries image first chain → length chain ≤ last_page_cell
few_entries image first chain entries =
    let ns = numbers (segment chain 0) in
    let fresh : ¬ IsAmong ns 0 = λ within. (let page = (entries.paged 0 within).0 in absurd (omega arith)) in
    let below : (n : ℕ) → IsAmong (0 ∷ ns) n → n < suc last_page_cell = λ n within. elim within [
      | inl same ↦ omega arith
      | inr later ↦ (let page = (entries.paged n later).1 in omega arith)
    ] in
    let few = few_below (suc last_page_cell) (0 ∷ ns) (fresh, entries.chained.nodes.once) below in
    let long = length_segment chain 0 in
    omega arith

-- the node of the first of the rest of a chain
module _ (image : Image) (first : ℕ) (seen : List (Placed CellRef)) (p : Placed CellRef) (ps : List (Placed CellRef)) (entries : AreEntries image first (seen ++ p ∷ ps)) where
  pub node_there : IsHeld IsEntry image (record { number = p.number; element = p.element; links = start ps 0 ∷ [] })
  node_there =
      let split = subst (λ (nodes : List (Node CellRef)). Stand IsEntry image nodes) (segment_append seen (p ∷ ps) 0) entries.chained.nodes.stand in
      (stand_parts IsEntry image (segment seen p.number) (segment (p ∷ ps) 0) split).1.0

  module _ (cell : Cell) (here : image p.number ≡ Some cell) where
    own_cell : node_there.cell ≡ cell
    own_cell = same_cell image p.number node_there.cell cell node_there.here here

    pub entry_version : (patricia_entry_in cell).version ≡ p.element
    entry_version = ap (λ (c : Cell). (patricia_entry_in c).version) (sym own_cell) ∙ node_there.written.says

    pub entry_next : (patricia_entry_in cell).next.number ≡ start ps 0
    entry_next =
        let links : start ps 0 ∷ [] ≡ (patricia_entry_in cell).next.number ∷ [] = node_there.written.leads ∙ ap (λ (c : Cell). (patricia_entry_in c).next.number ∷ []) own_cell in
        sym (ap (λ (ns : List ℕ). get_or ns 0 0) links)

-- a search: the version is in the rest
pub record IsSought (image : Image) (first : ℕ) (version : CellRef) (count at : ℕ) : Type 0 where
  pub seen : List (Placed CellRef)
  pub rest : List (Placed CellRef)
  pub entries : AreEntries image first (seen ++ rest)
  pub begins : at ≡ start rest 0
  pub within : Contains (elements rest) version
  pub many : length seen ≡ count

pub sought_first : (image : Image) (first : ℕ) (version : CellRef) → HasEntry image first version → IsSought image first version 0 first
sought_first image first version has = record {
  seen = [];
  rest = has.chain;
  entries = has.entries;
  begins = has.entries.chained.begins;
  within = has.within;
  many = refl;
}

-- what contains a version has a first element
some_first : (rest : List (Placed CellRef)) (version : CellRef) → Contains (elements rest) version → (p : Placed CellRef) × (ps : List (Placed CellRef)) × (rest ≡ p ∷ ps)
some_first [] version within = let below = within.1 in absurd (omega arith)
some_first (p ∷ ps) version within = (p, ps, refl)

module _ (image : Image) (first : ℕ) (version : CellRef) (count at : ℕ) (so_far : IsSought image first version count at) where
  found : (p : Placed CellRef) × (ps : List (Placed CellRef)) × (so_far.rest ≡ p ∷ ps)
  found = some_first so_far.rest version so_far.within

  whole : AreEntries image first (so_far.seen ++ found.0 ∷ found.1)
  whole = subst (λ (rest : List (Placed CellRef)). AreEntries image first (so_far.seen ++ rest)) found.2 so_far.entries

  here_is : at ≡ found.0.number
  here_is = so_far.begins ∙ ap (λ (rest : List (Placed CellRef)). start rest 0) found.2

  pub sought_there : IsCell image at
  sought_there = subst (λ (o : Option Cell). IsSome o) (sym (ap image here_is ∙ (node_there image first so_far.seen found.0 found.1 whole).here)) (search rules)

  module _ (cell : Cell) (here : image at ≡ Some cell) where
    at_first : image found.0.number ≡ Some cell
    at_first = ap image (sym here_is) ∙ here

    pub sought_found : (r : CellRef) → r.number ≡ at → (patricia_entry_in cell).version ≡ version → IsEntryAt image first version r
    sought_found r is same = record {
      before = so_far.seen;
      after = found.1;
      entries =
          let element : found.0.element ≡ version = sym (entry_version image first so_far.seen found.0 found.1 whole cell at_first) ∙ same in
          let placed : found.0 ≡ record { number = r.number; element = version } = ap₂ (λ (n : ℕ) (e : CellRef). (let p : Placed CellRef = record { number = n; element = e } in p)) (sym here_is ∙ sym is) element in
          subst (λ (p : Placed CellRef). AreEntries image first (so_far.seen ++ p ∷ found.1)) placed whole;
    }

    pub sought_more : (patricia_entry_in cell).version ≢ version → IsSought image first version (count + 1) (patricia_entry_in cell).next.number
    sought_more other = record {
      seen = so_far.seen ++ found.0 ∷ [];
      rest = found.1;
      entries = subst (λ (chain : List (Placed CellRef)). AreEntries image first chain) (sym (append_assoc so_far.seen (found.0 ∷ []) found.1)) whole;
      begins = entry_next image first so_far.seen found.0 found.1 whole cell at_first;
      within = elim (contains_either found.0.element (elements found.1) version (subst (λ (rest : List (Placed CellRef)). Contains (elements rest) version) found.2 so_far.within)) [
        | inl same ↦ absurd (other (entry_version image first so_far.seen found.0 found.1 whole cell at_first ∙ same))
        | inr later ↦ later
      ];
      many = (let long = length-append so_far.seen (found.0 ∷ []) in let many = so_far.many in omega arith);
    }

  pub sought_never : count ≡ last_page_cell → ⊥
  sought_never all =
      let few = few_entries image first (so_far.seen ++ found.0 ∷ found.1) whole in
      let long = length-append so_far.seen (found.0 ∷ found.1) in
      let many = so_far.many in
      absurd (omega arith)

-- a listing: what was seen is listed
pub record IsListedTo (image : Image) (first : ℕ) (refs : List CellRef) (count at : ℕ) : Type 0 where
  pub seen : List (Placed CellRef)
  pub rest : List (Placed CellRef)
  pub entries : AreEntries image first (seen ++ rest)
  pub begins : at ≡ start rest 0
  pub all : refs ≡ elements seen
  pub many : length seen ≡ count

pub listed_first : (image : Image) (first : ℕ) (chain : List (Placed CellRef)) → AreEntries image first chain → IsListedTo image first [] 0 first
listed_first image first chain entries = record {
  seen = [];
  rest = chain;
  entries = entries;
  begins = entries.chained.begins;
  all = refl;
  many = refl;
}

-- what begins at a number has a first element
left_first : (rest : List (Placed CellRef)) (at : ℕ) → at ≡ start rest 0 → at ≢ 0 → (p : Placed CellRef) × (ps : List (Placed CellRef)) × (rest ≡ p ∷ ps)
left_first [] at begins some = absurd (some begins)
left_first (p ∷ ps) at begins some = (p, ps, refl)

module _ (image : Image) (first : ℕ) (refs : List CellRef) (count at : ℕ) (so_far : IsListedTo image first refs count at) where
  module _ (some : at ≢ 0) where
    next : (p : Placed CellRef) × (ps : List (Placed CellRef)) × (so_far.rest ≡ p ∷ ps)
    next = left_first so_far.rest at so_far.begins some

    all_of : AreEntries image first (so_far.seen ++ next.0 ∷ next.1)
    all_of = subst (λ (rest : List (Placed CellRef)). AreEntries image first (so_far.seen ++ rest)) next.2 so_far.entries

    stands_at : at ≡ next.0.number
    stands_at = so_far.begins ∙ ap (λ (rest : List (Placed CellRef)). start rest 0) next.2

    pub listed_there : IsCell image at
    listed_there = subst (λ (o : Option Cell). IsSome o) (sym (ap image stands_at ∙ (node_there image first so_far.seen next.0 next.1 all_of).here)) (search rules)

    module _ (cell : Cell) (here : image at ≡ Some cell) where
      at_next : image next.0.number ≡ Some cell
      at_next = ap image (sym stands_at) ∙ here

      pub listed_more : IsListedTo image first (refs ++ (patricia_entry_in cell).version ∷ []) (count + 1) (patricia_entry_in cell).next.number
      listed_more = record {
        seen = so_far.seen ++ next.0 ∷ [];
        rest = next.1;
        entries = subst (λ (chain : List (Placed CellRef)). AreEntries image first chain) (sym (append_assoc so_far.seen (next.0 ∷ []) next.1)) all_of;
        begins = entry_next image first so_far.seen next.0 next.1 all_of cell at_next;
        all =
            ap (λ (rs : List CellRef). rs ++ (patricia_entry_in cell).version ∷ []) so_far.all
            ∙ ap (λ (r : CellRef). elements so_far.seen ++ r ∷ []) (entry_version image first so_far.seen next.0 next.1 all_of cell at_next)
            ∙ sym (elements_append so_far.seen (next.0 ∷ []));
        many = (let long = length-append so_far.seen (next.0 ∷ []) in let many = so_far.many in omega arith);
      }

  -- nothing is left at 0, nor after as many entries as there are cells
  none_left : at ≡ 0 → so_far.rest ≡ []
  none_left none =
      let split = subst (λ (nodes : List (Node CellRef)). Stand IsEntry image nodes) (segment_append so_far.seen so_far.rest 0) so_far.entries.chained.nodes.stand in
      empty_chain IsEntry image so_far.rest (sym so_far.begins ∙ none) (stand_parts IsEntry image (segment so_far.seen (start so_far.rest 0)) (segment so_far.rest 0) split).1

  none_more : count ≡ last_page_cell → so_far.rest ≡ []
  none_more all =
      let few = few_entries image first (so_far.seen ++ so_far.rest) so_far.entries in
      let long = length-append so_far.seen so_far.rest in
      let many = so_far.many in
      by_length so_far.rest (omega arith)
    where
      by_length : (rest : List (Placed CellRef)) → length rest ≡ 0 → rest ≡ []
      by_length [] none = refl
      by_length (p ∷ ps) none = absurd (omega arith)

  whole_list : so_far.rest ≡ [] → AreEntries image first so_far.seen
  whole_list none = subst (λ (chain : List (Placed CellRef)). AreEntries image first chain) (append-nil so_far.seen) (subst (λ (rest : List (Placed CellRef)). AreEntries image first (so_far.seen ++ rest)) none so_far.entries)

  module _ (class head : ℕ) (root : CellRef) (is : root.number ≡ first) (leads : LeadsTo image head root) where
    listing : so_far.rest ≡ [] → IsListing (plain_nature class head) image refs
    listing none said listed nodes list =
        let same : list.first.number ≡ first = ap (λ (r : CellRef). r.number) (leads_one image head list.first root list.leads leads) ∙ is in
        let chain = one_entries image first so_far.seen list.chain (whole_list none) (subst (λ (n : ℕ). AreEntries image n list.chain) same list.entries) in
        let whole : refs ≡ listed = so_far.all ∙ ap (λ (c : List (Placed CellRef)). elements c) chain ∙ sym list.listed_is in
        subst (IsPermutation refs) whole (IsPermutation-refl refs)

    pub listed_at_none : at ≡ 0 → IsListing (plain_nature class head) image refs
    listed_at_none none = listing (none_left none)

    pub listed_at_end : count ≡ last_page_cell → IsListing (plain_nature class head) image refs
    listed_at_end all = listing (none_more all)

-- references of entries fit 24 bits
pub small_start : (chain : List (Placed CellRef)) → ((n : ℕ) → IsAmong (numbers (segment chain 0)) n → IsPageCell n) → start chain 0 < 2 ^ 24
small_start [] paged = omega arith
small_start (p ∷ ps) paged = let page = (paged p.number (inl refl)).1 in omega arith

pub small_first : (image : Image) (head : ℕ) (first root : CellRef) (cell : Cell) (chain : List (Placed CellRef)) → LeadsTo image head first → AreEntries image first.number chain → image head ≡ Some cell → slice_get (index_head_in cell).roots 0 ≡ Some root → root.number < 2 ^ 24
small_first image head first root cell chain leads entries here read =
    let same : first.number ≡ root.number = ap (λ (r : CellRef). r.number) (leads_there image head first root cell leads here read) in
    let begins = entries.chained.begins in
    let small = small_start chain entries.paged in
    omega arith

among_behind : (xs : List (Placed CellRef)) (y : Placed CellRef) (ys : List (Placed CellRef)) (n : ℕ) → IsAmong (numbers (segment ys 0)) n → IsAmong (numbers (segment (xs ++ y ∷ ys) 0)) n
among_behind [] y ys n within = inr within
among_behind (p ∷ ps) y ys n within = inr (among_behind ps y ys n within)

module _ (image : Image) (first : ℕ) (version r : CellRef) (at : IsEntryAt image first version r) where
  pub at_there : IsCell image r.number
  at_there = subst (λ (o : Option Cell). IsSome o) (sym (node_there image first at.before (record { number = r.number; element = version }) at.after at.entries).here) (search rules)

  pub small_next : (cell : Cell) → image r.number ≡ Some cell → (patricia_entry_in cell).next.number < 2 ^ 24
  small_next cell here =
      let x : Placed CellRef = record { number = r.number; element = version } in
      let next = entry_next image first at.before x at.after at.entries cell here in
      let small = small_start at.after (λ n within. at.entries.paged n (among_behind at.before x at.after n within)) in
      omega arith
