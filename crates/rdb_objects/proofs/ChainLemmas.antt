-- The chain of an object's versions: that it is one, how long it is, walks along it, and what writes leave of it.
use Rattle.std.proofs.Common.{◌≡◌, ◌≢◌, ◌<◌, ◌≤◌, ◌+◌, ◌++◌, suc, ℕ, List, [], ◌∷◌, length, length-append, map, Option, Some, IsSome, inl, inr, refl, sym, ap, ap₂, subst, ◌∙◌, arith, rules}
use Rattle.std.proofs.lemmas.Bool.{eq-eqb, ne_eqb}
use Rattle.std.proofs.lemmas.List.{append_assoc}
use Rattle.std.specs.List.{Contains}
use Rattle.rdb_pages.specs.declared.cell.Cell.{Cell}
use Rattle.rdb_pages.specs.declared.cell.CellRef.{CellRef}
use Rattle.rdb_cells.specs.Images.{Image, IsCell, AreBounded}
use Rattle.rdb_cells.specs.Links.{IsAmong, AreOnce}
use Rattle.rdb_cells.specs.References.{last_head}
use Rattle.rdb_cells.specs.VersionFormat.{header_in}
use Rattle.rdb_cells.proofs.LinkLemmas.{few_below}
use Rattle.rdb_cells.proofs.ListedLemmas.{contains_either}
use Rattle.rdb_objects.specs.Chains.{IsBehind, IsNewer}
use Rattle.rdb_objects.specs.Objects.{newest_of, without}
use Rattle.rdb_objects.specs.Slots.{IsVersion, AreVersions}
use Rattle.rdb_objects.proofs.TreeLemmas.{same_cell}

abbrev pub numbers : List CellRef → List ℕ
numbers versions = map (λ v. v.number) versions

pub ref_is : (r s : CellRef) → r.number ≡ s.number → r ≡ s
ref_is r s same = λ i. record { number = same i }

-- a header says one thing
pub one_header : (image : Image) (a b : ℕ) (v w older next : CellRef) → IsVersion image a v older → IsVersion image b w next → v.number ≡ w.number → (a ≡ b) × (older ≡ next)
one_header image a b v w older next first second same =
    let cell = same_cell image w.number first.cell second.cell (ap image (sym same) ∙ first.here) second.here in (
      sym first.of_object ∙ ap (λ (c : Cell). (header_in c).id) cell ∙ second.of_object,
      sym first.leads ∙ ap (λ (c : Cell). (header_in c).older) cell ∙ second.leads,
    )

-- from a version on stands one chain
pub one_chain : (image : Image) (a b : ℕ) (xs ys : List CellRef) → newest_of xs ≡ newest_of ys → AreVersions image a xs → AreVersions image b ys → xs ≡ ys
one_chain image a b [] [] same first second = refl
one_chain image a b [] (y ∷ ys) same first second = let some = second.0.some in let none : 0 ≡ y.number = ap (λ (r : CellRef). r.number) same in absurd (omega arith)
one_chain image a b (x ∷ xs) [] same first second = let some = first.0.some in let none : x.number ≡ 0 = ap (λ (r : CellRef). r.number) same in absurd (omega arith)
one_chain image a b (x ∷ xs) (y ∷ ys) same first second =
    let next = (one_header image a b x y (newest_of xs) (newest_of ys) first.0 second.0 (ap (λ (r : CellRef). r.number) same)).1 in
    ap₂ (λ (v : CellRef) (vs : List CellRef). v ∷ vs) same (one_chain image a b xs ys next first.1 second.1)

-- the older part of a chain
pub older_part : (image : Image) (id : ℕ) (front back : List CellRef) → AreVersions image id (front ++ back) → AreVersions image id back
older_part image id [] back are = are
older_part image id (v ∷ front) back are = older_part image id front back are.1

pub split_at : (vs : List CellRef) (n : ℕ) → IsAmong (numbers vs) n → (front : List CellRef) × (v : CellRef) × (back : List CellRef) × (vs ≡ front ++ v ∷ back) × (v.number ≡ n)
split_at [] n within = absurd within
split_at (v ∷ vs) n (inl same) = ([], v, vs, refl, same)
split_at (v ∷ vs) n (inr later) = let rest = split_at vs n later in (v ∷ rest.0, rest.1, rest.2, ap (λ (us : List CellRef). v ∷ us) rest.3, rest.4)

pub contained : (vs : List CellRef) (v : CellRef) → Contains vs v → IsAmong (numbers vs) v.number
contained [] v within = let below = within.1 in absurd (omega arith)
contained (u ∷ vs) v within = elim (contains_either u vs v within) [
  | inl same ↦ inl (ap (λ (r : CellRef). r.number) same)
  | inr later ↦ inr (contained vs v later)
]

pub chain_member : (image : Image) (id : ℕ) (vs : List CellRef) (n : ℕ) → AreVersions image id vs → IsAmong (numbers vs) n → (v : CellRef) × (older : CellRef) × IsVersion image id v older × (v.number ≡ n)
chain_member image id [] n are within = absurd within
chain_member image id (v ∷ vs) n are (inl same) = (v, newest_of vs, are.0, same)
chain_member image id (v ∷ vs) n are (inr later) = chain_member image id vs n are.1 later

-- no version stands twice in a chain
pub chain_once : (image : Image) (id : ℕ) (vs : List CellRef) → AreVersions image id vs → AreOnce (numbers vs)
chain_once image id [] are = tt
chain_once image id (v ∷ vs) are = (beside, chain_once image id vs are.1)
  where
    beside : ¬ IsAmong (numbers vs) v.number
    beside within =
        let parts = split_at vs v.number within in
        let same : parts.1 ≡ v = ref_is parts.1 v parts.4 in
        let later : AreVersions image id (parts.1 ∷ parts.2) = older_part image id parts.0 (parts.1 ∷ parts.2) (subst (λ (us : List CellRef). AreVersions image id us) parts.3 are.1) in
        let whole : parts.1 ∷ parts.2 ≡ v ∷ vs = one_chain image id id (parts.1 ∷ parts.2) (v ∷ vs) same later are in
        let long = ap (λ (us : List CellRef). length us) whole in
        let longer : length vs ≡ length parts.0 + length (parts.1 ∷ parts.2) = ap (λ (us : List CellRef). length us) parts.3 ∙ length-append parts.0 (parts.1 ∷ parts.2) in
        absurd (omega arith)

length_numbers : (vs : List CellRef) → length (numbers vs) ≡ length vs
length_numbers [] = refl
length_numbers (v ∷ vs) = ap suc (length_numbers vs)

-- a chain has no more versions than there are cells
pub chain_short : (image : Image) (class_of : ℕ → Option ℕ) (id : ℕ) (vs : List CellRef) → AreBounded image class_of → AreVersions image id vs → length vs ≤ last_head
chain_short image class_of id vs bounded are =
    let some : ¬ IsAmong (numbers vs) 0 = λ within. (let member = chain_member image id vs 0 are within in let above = member.2.some in let is = member.3 in absurd (omega arith)) in
    let below : (n : ℕ) → IsAmong (0 ∷ numbers vs) n → n < suc last_head = λ n within. elim within [
      | inl same ↦ omega arith
      | inr later ↦
          let member = chain_member image id vs n are later in
          let there : IsCell image n = subst (λ (o : Option Cell). IsSome o) (sym (ap image (sym member.3) ∙ member.2.here)) (search rules) in
          elim (bounded.numbers n there) [ inl page ↦ (let most = page.1 in omega arith) | inr head ↦ (let most = head.1 in omega arith) ]
    ] in
    let few = few_below (suc last_head) (0 ∷ numbers vs) (some, chain_once image id vs are) below in
    let long = length_numbers vs in
    omega arith

-- How far a walk to the version before another has come
pub record IsSeeking (versions : List CellRef) (version : CellRef) (count : ℕ) (newer : CellRef) : Type 0 where
  pub front : List CellRef
  pub back : List CellRef
  pub split : versions ≡ front ++ newer ∷ back
  pub within : Contains back version
  pub many : length front ≡ count

pub seeking_first : (image : Image) (newest version : CellRef) (behind : IsBehind image newest version) → IsSeeking behind.versions version 0 newest
seeking_first image newest version behind = first behind.versions behind.are.begins behind.within
  where
    first : (vs : List CellRef) → newest ≡ newest_of vs → Contains vs version → IsSeeking vs version 0 newest
    first [] begins within = let below = within.1 in absurd (omega arith)
    first (v ∷ vs) begins within = elim (contains_either v vs version within) [
      | inl same ↦ absurd (behind.older (begins ∙ same))
      | inr later ↦ record { front = []; back = vs; split = ap (λ (u : CellRef). u ∷ vs) (sym begins); within = later; many = refl }
    ]

module _ (image : Image) (newest version : CellRef) (behind : IsBehind image newest version) (count : ℕ) (newer : CellRef) (so_far : IsSeeking behind.versions version count newer) where
  seeking_chain : AreVersions image behind.id (newer ∷ so_far.back)
  seeking_chain = older_part image behind.id so_far.front (newer ∷ so_far.back) (subst (λ (vs : List CellRef). AreVersions image behind.id vs) so_far.split behind.are.stand)

  pub seeking_there : IsCell image newer.number
  seeking_there = subst (λ (o : Option Cell). IsSome o) (sym seeking_chain.0.here) (search rules)

  next_one : (back : List CellRef) → Contains back version → (b : CellRef) × (bs : List CellRef) × (back ≡ b ∷ bs)
  next_one [] within = let below = within.1 in absurd (omega arith)
  next_one (b ∷ bs) within = (b, bs, refl)

  module _ (cell : Cell) (older : CellRef) (here : image newer.number ≡ Some cell) (is : older ≡ (header_in cell).older) where
    leads_on : older ≡ newest_of so_far.back
    leads_on =
        let same = same_cell image newer.number seeking_chain.0.cell cell seeking_chain.0.here here in
        is ∙ ap (λ (c : Cell). (header_in c).older) (sym same) ∙ seeking_chain.0.leads

    next_is : (b : CellRef) × (bs : List CellRef) × (so_far.back ≡ b ∷ bs) × (older ≡ b)
    next_is =
        let next = next_one so_far.back so_far.within in
        (next.0, next.1, next.2, leads_on ∙ ap (λ (vs : List CellRef). newest_of vs) next.2)

    pub seeking_found : older ≡ version → IsNewer image newest version newer
    seeking_found it id versions are =
        let whole = one_chain image id behind.id versions behind.versions (sym are.begins ∙ behind.are.begins) are.stand behind.are.stand in
        let b : next_is.0 ≡ version = sym next_is.3 ∙ it in
        (so_far.front, next_is.1, whole ∙ so_far.split ∙ ap (λ (vs : List CellRef). so_far.front ++ newer ∷ vs) (next_is.2 ∙ ap (λ (u : CellRef). u ∷ next_is.1) b))

    pub seeking_more : older ≢ version → IsSeeking behind.versions version (count + 1) older
    seeking_more other = record {
      front = so_far.front ++ newer ∷ [];
      back = next_is.1;
      split =
          so_far.split ∙ ap (λ (vs : List CellRef). so_far.front ++ newer ∷ vs) (next_is.2 ∙ ap (λ (u : CellRef). u ∷ next_is.1) (sym next_is.3))
          ∙ sym (append_assoc so_far.front (newer ∷ []) (older ∷ next_is.1));
      within = elim (contains_either next_is.0 next_is.1 version (subst (λ (vs : List CellRef). Contains vs version) next_is.2 so_far.within)) [
        | inl it ↦ absurd (other (next_is.3 ∙ it))
        | inr later ↦ later
      ];
      many = (let long = length-append so_far.front (newer ∷ []) in let many = so_far.many in omega arith);
    }

  pub seeking_never : (class_of : ℕ → Option ℕ) → AreBounded image class_of → last_head ≤ count → ⊥
  seeking_never class_of bounded all =
      let short = chain_short image class_of behind.id behind.versions bounded behind.are.stand in
      let long : length behind.versions ≡ length so_far.front + suc (length so_far.back) = ap (λ (vs : List CellRef). length vs) so_far.split ∙ length-append so_far.front (newer ∷ so_far.back) in
      let many = so_far.many in
      absurd (omega arith)

-- What a list is without one of its versions
pub without_there : (front : List CellRef) (v : CellRef) (back : List CellRef) → (¬ IsAmong (numbers front) v.number) → without (front ++ v ∷ back) v ≡ front ++ back
without_there [] v back beside = rw (eq-eqb v.number v.number refl) refl
without_there (u ∷ front) v back beside =
    rw (ne_eqb u.number v.number (λ e. beside (inl e)))
    (ap (λ (vs : List CellRef). u ∷ vs) (without_there front v back (λ within. beside (inr within))))

pub once_front : (front : List CellRef) (v : CellRef) (back : List CellRef) → AreOnce (numbers (front ++ v ∷ back)) → (¬ IsAmong (numbers front) v.number) × (¬ IsAmong (numbers back) v.number)
once_front [] v back once = (λ none. none, once.0)
once_front (u ∷ front) v back once =
    let rest = once_front front v back once.1 in (
      λ within. elim within [
        | inl same ↦ once.0 (subst (λ (n : ℕ). IsAmong (numbers (front ++ v ∷ back)) n) (sym same) (in_middle front v back))
        | inr later ↦ rest.0 later
      ],
      rest.1,
    )
  where
    in_middle : (front : List CellRef) (v : CellRef) (back : List CellRef) → IsAmong (numbers (front ++ v ∷ back)) v.number
    in_middle [] v back = inl refl
    in_middle (u ∷ front) v back = inr (in_middle front v back)

-- A write beside a chain keeps it
module _ (before after : Image) (id n : ℕ) (elsewhere : (m : ℕ) → m ≢ n → after m ≡ before m) where
  header_beside : (v older : CellRef) → v.number ≢ n → IsVersion before id v older → IsVersion after id v older
  header_beside v older apart is = record {
    some = is.some;
    cell = is.cell;
    here = elsewhere v.number apart ∙ is.here;
    kind = is.kind;
    of_object = is.of_object;
    leads = is.leads;
  }

  pub chain_beside : (vs : List CellRef) → (¬ IsAmong (numbers vs) n) → AreVersions before id vs → AreVersions after id vs
  chain_beside [] beside are = tt
  chain_beside (v ∷ vs) beside are = (header_beside v (newest_of vs) (λ same. beside (inl same)) are.0, chain_beside vs (λ within. beside (inr within)) are.1)

  -- a header leads past the next version
  pub chain_past : (front : List CellRef) (newer version : CellRef) (back : List CellRef) → newer.number ≡ n → (¬ IsAmong (numbers front) n) → (¬ IsAmong (numbers back) n) → IsVersion after id newer (newest_of back) → AreVersions before id (front ++ newer ∷ version ∷ back) → AreVersions after id (front ++ newer ∷ back)
  chain_past [] newer version back is front_beside back_beside header are = (header, chain_beside back back_beside are.1.1)
  chain_past (v ∷ front) newer version back is front_beside back_beside header are = (
    subst (λ (r : CellRef). IsVersion after id v r) (same_newest front) (header_beside v (newest_of (front ++ newer ∷ version ∷ back)) (λ same. front_beside (inl same)) are.0),
    chain_past front newer version back is (λ within. front_beside (inr within)) back_beside header are.1,
  )
    where
      same_newest : (front : List CellRef) → newest_of (front ++ newer ∷ version ∷ back) ≡ newest_of (front ++ newer ∷ back)
      same_newest [] = refl
      same_newest (u ∷ us) = refl
