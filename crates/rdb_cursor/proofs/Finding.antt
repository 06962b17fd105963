-- The ids that a look-up by a key gives are those of the plain database.
use Rattle.std.proofs.Common.{◌≡◌, ◌==◌, ◌≤◌, ◌+◌, if◌then◌else◌, zero, suc, ℕ, Bool, true, false, cond, List, [], ◌∷◌, filter, Option, Some, None, IsSome, zero-lt-suc, suc-le-suc, inl, inr, refl, sym, ap, subst, ◌∙◌, arith, eq-eqb, eqb-true}
use Rattle.std.proofs.lemmas.Bool.{false≢true}
use Rattle.std.proofs.lemmas.List.Sorted.{Contains-permutation, IsPermutation-sym, sum_by-IsPermutation}
use Rattle.std.proofs.lemmas.List.Sums.{sum_by-cons}
use Rattle.std.specs.List.{Contains, filter_map, count_by}
use Rattle.std.specs.List.Sorted.{IsPermutation, IsNonDecreasing}
use Rattle.std.specs.Option.{option_and_then, option_map_or}
use Rattle.std.specs.Ordering.{is_eq}
use Rattle.rdb_base.specs.declared.value.Value.{Value}
use Rattle.rdb_pages.specs.declared.cell.CellRef.{CellRef}
use Rattle.rdb_cells.specs.Keys.{Version as Keyed, Sayings, times_listed, key_order}
use Rattle.rdb_cells.specs.Links.{IsAmong}
use Rattle.rdb_sight.specs.Versions.{Version, Object, Marks, chain_of}
use Rattle.rdb_shown.proofs.ChainMaps.{Rises}
use Rattle.rdb_shown.proofs.RowsShown.{rows_rise}
use Rattle.rdb_model.specs.Index.{has_key}
use Rattle.rdb_model.specs.Answer.{ids_where}
use Rattle.rdb_store.specs.Stored.{HasRowAt}
use Rattle.rdb_cursor.specs.declared.marks.Reader.{Reader}
use Rattle.rdb_cursor.specs.Views.{row_of, rows_of, ref_shown, IsIdIfShown}
use Rattle.rdb_cursor.proofs.IdLists.{same_rising, ids_rise, in_ids, ids_in, given_from, from_given, given_times, given_never, rise_sorted}
use Rattle.rdb_cursor.proofs.Listing.{Listing, Listed, listed_is, shown_listed, shown_in, shown_by_in}
use Rattle.rdb_cursor.proofs.Looks.{shown_there}

-- Members of lists
among_of : (ns : List ℕ) (n : ℕ) → Contains ns n → IsAmong ns n
among_of [] n within = let below = within.1 in absurd (omega arith)
among_of (m ∷ ns) n (zero, below, is) = inl is
among_of (m ∷ ns) n (suc k, below, is) = inr (among_of ns n (k, omega arith, is))

within_of : (ns : List ℕ) (n : ℕ) → IsAmong ns n → Contains ns n
within_of [] n among = absurd among
within_of (m ∷ ns) n (inl same) = (0, zero-lt-suc _, same)
within_of (m ∷ ns) n (inr later) = let rest = within_of ns n later in (suc rest.0, suc-le-suc rest.1, rest.2)

pub filter_in : (p : CellRef → Bool) (rs : List CellRef) (r : CellRef) → Contains (filter p rs) r → Contains rs r × (p r ≡ true)
filter_in p [] r within = let below = within.1 in absurd (omega arith)
filter_in p (q ∷ rs) r within = go (λ rest. filter_in p rs r rest) (p q) refl within
  where
    later : (Contains rs r × (p r ≡ true)) → Contains (q ∷ rs) r × (p r ≡ true)
    later found = ((suc found.0.0, suc-le-suc found.0.1, found.0.2), found.1)

    go : (Contains (filter p rs) r → Contains rs r × (p r ≡ true)) → (b : Bool) → p q ≡ b → Contains (cond b (q ∷ filter p rs) (filter p rs)) r → Contains (q ∷ rs) r × (p r ≡ true)
    go found true e (zero, below, is) = ((0, zero-lt-suc _, is), ap p (sym is) ∙ e)
    go found true e (suc k, below, is) = later (found (k, omega arith, is))
    go found false e rest = later (found rest)

in_filter : (p : CellRef → Bool) (rs : List CellRef) (r : CellRef) → Contains rs r → p r ≡ true → Contains (filter p rs) r
in_filter p [] r within passes = let below = within.1 in absurd (omega arith)
in_filter p (q ∷ rs) r (zero, below, is) passes = subst (λ (b : Bool). Contains (cond b (q ∷ filter p rs) (filter p rs)) r) (sym (ap p is ∙ passes)) (0, zero-lt-suc _, is)
in_filter p (q ∷ rs) r (suc k, below, is) passes = go (p q) (in_filter p rs r (k, omega arith, is) passes)
  where
    go : (b : Bool) → Contains (filter p rs) r → Contains (cond b (q ∷ filter p rs) (filter p rs)) r
    go true rest = (suc rest.0, suc-le-suc rest.1, rest.2)
    go false rest = rest

times_kept : (p : CellRef → Bool) (rs : List CellRef) (r : CellRef) → times_listed (filter p rs) r ≤ times_listed rs r
times_kept p [] r = omega arith
times_kept p (q ∷ rs) r = go (p q) (times_kept p rs r)
  where
    more : (qs : List CellRef) → times_listed (q ∷ qs) r ≡ cond (q.number == r.number) 1 0 + times_listed qs r
    more qs = sum_by-cons (λ (x : CellRef). cond (x.number == r.number) 1 0) q qs

    go : (b : Bool) → times_listed (filter p rs) r ≤ times_listed rs r → times_listed (cond b (q ∷ filter p rs) (filter p rs)) r ≤ times_listed (q ∷ rs) r
    go true rest = (let a = more (filter p rs) in let b = more rs in omega arith)
    go false rest = (let b = more rs in omega arith)

-- whether this is the reference
abbrev pub is_ref : Option CellRef → CellRef → Bool
is_ref None r = false
is_ref (Some s) r = s.number == r.number

-- a version has a key, as an index knows it
abbrev pub is_keyed : Sayings → List Value → CellRef → Bool
is_keyed said key r = option_map_or (λ v. is_eq (key_order v key None)) (said.version_of r.number) false

-- the id of a version's object, if that shows the reader this version
abbrev pub shown_id : Marks → Reader → Sayings → List Object → CellRef → Option ℕ
shown_id marks reader said objects r =
    option_and_then (λ v. if is_ref (ref_shown marks reader (chain_of objects v.id)) r then Some v.id else None) (said.version_of r.number)

ref_by : (o : Option CellRef) (r : CellRef) → is_ref o r ≡ true → o ≡ Some r
ref_by None r is = absurd (false≢true is)
ref_by (Some s) r is = let same : s.number ≡ r.number = eqb-true s.number r.number is in λ i. Some (record { number = same i })

ref_is : (o : Option CellRef) (r : CellRef) → o ≡ Some r → is_ref o r ≡ true
ref_is o r is = ap (λ (p : Option CellRef). is_ref p r) is ∙ eq-eqb r.number r.number refl

module _ (said : Sayings) (fields : List ℕ) (objects : List Object) (listed : List CellRef) (listing : Listing said fields objects listed) (marks : Marks) (reader : Reader) where
  -- what an object shows is a version that says its id
  one_id : (r : CellRef) (v : Keyed) → said.version_of r.number ≡ Some v → (id : ℕ) → ref_shown marks reader (chain_of objects id) ≡ Some r → id ≡ v.id
  one_id r v is id shown =
      let s = shown_there marks reader (chain_of objects id) r shown in
      let here = ap said.version_of (sym s.3) ∙ listing.says_of id s.0 s.1 s.2 s.4 in
      ap (λ (o : Option Keyed). option_map_or (λ w. w.id) o id) (sym here ∙ is)

  pub given_is : (r : CellRef) (given : Option ℕ) → Contains listed r → IsIdIfShown marks reader r given objects → given ≡ shown_id marks reader said objects r
  given_is r given within is = is_given (listed_is said fields objects listed listing r within)
    where
      is_given : (at : Listed said fields objects r) → given ≡ shown_id marks reader said objects r
      is_given at =
          sym (ap (λ (o : Option Keyed). option_and_then (λ v. if is_ref (ref_shown marks reader (chain_of objects v.id)) r then Some v.id else None) o) at.said_is
          ∙ go (is_ref (ref_shown marks reader (chain_of objects at.id)) r) refl given refl)
        where
          go : (b : Bool) → is_ref (ref_shown marks reader (chain_of objects at.id)) r ≡ b → (g : Option ℕ) → given ≡ g → cond b (Some at.id) None ≡ given
          go true e g h = sym ((is at.id).1 (ref_by (ref_shown marks reader (chain_of objects at.id)) r e))
          go false e None h = sym h
          go false e (Some k) h =
              let shown = (is k).0 h in
              let same : k ≡ at.id = one_id r _ at.said_is k shown in
              let it = ref_is (ref_shown marks reader (chain_of objects at.id)) r (subst (λ (n : ℕ). ref_shown marks reader (chain_of objects n) ≡ Some r) same shown) in
              absurd (false≢true (sym e ∙ it))

  -- what gives an id is the version that its object shows
  given_shown : (s : CellRef) (n : ℕ) → shown_id marks reader said objects s ≡ Some n → ref_shown marks reader (chain_of objects n) ≡ Some s
  given_shown s n gives = go (said.version_of s.number) gives
    where
      go : (o : Option Keyed) → option_and_then (λ v. if is_ref (ref_shown marks reader (chain_of objects v.id)) s then Some v.id else None) o ≡ Some n → ref_shown marks reader (chain_of objects n) ≡ Some s
      go None e = absurd (none_some n e)
        where
          none_some : (k : ℕ) → None ≡ Some k → ⊥
          none_some k e = (cc)
      go (Some v) e = by_test (is_ref (ref_shown marks reader (chain_of objects v.id)) s) refl e
        where
          by_test : (b : Bool) → is_ref (ref_shown marks reader (chain_of objects v.id)) s ≡ b → cond b (Some v.id) None ≡ Some n → ref_shown marks reader (chain_of objects n) ≡ Some s
          by_test false g h = absurd (cc)
          by_test true g h =
              let same : v.id ≡ n = (cc) in
              subst (λ (k : ℕ). ref_shown marks reader (chain_of objects k) ≡ Some s) same (ref_by (ref_shown marks reader (chain_of objects v.id)) s g)

  shown_gives : (r : CellRef) (n : ℕ) (v : Keyed) → said.version_of r.number ≡ Some v → v.id ≡ n → ref_shown marks reader (chain_of objects n) ≡ Some r → shown_id marks reader said objects r ≡ Some n
  shown_gives r n v is same shown =
      ap (λ (o : Option Keyed). option_and_then (λ w. if is_ref (ref_shown marks reader (chain_of objects w.id)) r then Some w.id else None) o) is
      ∙ ap (λ (b : Bool). cond b (Some v.id) None) (ref_is (ref_shown marks reader (chain_of objects v.id)) r (subst (λ (k : ℕ). ref_shown marks reader (chain_of objects k) ≡ Some r) (sym same) shown))
      ∙ ap Some same

  module _ (key : List Value) (found : List CellRef) (ids : List ℕ) (rises : Rises objects) (these : IsPermutation found (filter (is_keyed said key) listed)) (moved : IsPermutation (filter_map (shown_id marks reader said objects) found) ids) (ordered : IsNonDecreasing ids) where
    there : (n : ℕ) → IsAmong ids n → IsAmong (ids_where (has_key fields key) (rows_of marks reader objects)) n
    there n within =
        let among = among_of (filter_map (shown_id marks reader said objects) found) n (Contains-permutation ids (filter_map (shown_id marks reader said objects) found) n (IsPermutation-sym (filter_map (shown_id marks reader said objects) found) ids moved) (within_of ids n within)) in
        let given = given_from (shown_id marks reader said objects) found n among in
        let r = given.0 in
        let kept = filter_in (is_keyed said key) listed r (Contains-permutation found (filter (is_keyed said key) listed) r these given.1) in
        let shown = given_shown r n given.2 in
        let s = shown_there marks reader (chain_of objects n) r shown in
        let row_is : row_of marks reader (chain_of objects n) ≡ Some s.1 = ap (λ (o : Option Version). option_and_then (λ (v : Version). v.row) o) s.5 ∙ s.4 in
        let said_is = ap said.version_of (sym s.3) ∙ listing.says_of n s.0 s.1 s.2 s.4 in
        let passes : has_key fields key s.1 ≡ true = sym (ap (λ (o : Option Keyed). option_map_or (λ v. is_eq (key_order v key None)) o false) said_is) ∙ kept.1 in
        in_ids (has_key fields key) (rows_of marks reader objects) n s.1 (shown_in marks reader objects rises n s.1 row_is) passes

    back : (n : ℕ) → IsAmong (ids_where (has_key fields key) (rows_of marks reader objects)) n → IsAmong ids n
    back n within =
        let found_row = ids_in (has_key fields key) (rows_of marks reader objects) n within in
        let row = found_row.0 in
        let shows = shown_by_in marks reader objects rises n row found_row.1 in
        let s = shown_listed said fields objects listed listing marks reader n row shows in
        let r = s.0 in
        let keyed : is_keyed said key r ≡ true = ap (λ (o : Option Keyed). option_map_or (λ v. is_eq (key_order v key None)) o false) s.3.1 ∙ found_row.2 in
        let in_found = Contains-permutation (filter (is_keyed said key) listed) found r (IsPermutation-sym found (filter (is_keyed said key) listed) these) (in_filter (is_keyed said key) listed r s.1 keyed) in
        let gives = shown_gives r n _ s.3.1 refl s.2 in
        let among = from_given (shown_id marks reader said objects) found n r in_found gives in
        among_of ids n (Contains-permutation (filter_map (shown_id marks reader said objects) found) ids n moved (within_of (filter_map (shown_id marks reader said objects) found) n among))

    once : (n : ℕ) → count_by (λ m. m == n) ids ≤ 1
    once n =
        let same : count_by (λ m. m == n) ids ≡ count_by (λ m. m == n) (filter_map (shown_id marks reader said objects) found) = sum_by-IsPermutation (λ m. cond (m == n) 1 0) (filter_map (shown_id marks reader said objects) found) ids moved in
        let few = go (ref_shown marks reader (chain_of objects n)) refl in
        omega arith
      where
        go : (o : Option CellRef) → ref_shown marks reader (chain_of objects n) ≡ o → count_by (λ m. m == n) (filter_map (shown_id marks reader said objects) found) ≤ 1
        go None e = given_never (shown_id marks reader said objects) found n (λ s gives. no_ref s (sym e ∙ given_shown s n gives))
          where
            no_ref : (s : CellRef) → None ≡ Some s → ⊥
            no_ref s e = (cc)
        go (Some r) e =
            let s = shown_there marks reader (chain_of objects n) r e in
            let has : HasRowAt objects r.number = record { version = s.0; has = record { id = n; within = s.2 }; there = s.3; row = subst (λ (o : Option (List Value)). IsSome o) (sym s.4) refl } in
            let one = listing.once.once r ((listing.exactly r).1 has) in
            let less = times_kept (is_keyed said key) listed r in
            let moved_times : times_listed (filter (is_keyed said key) listed) r ≡ times_listed found r = sum_by-IsPermutation (λ (q : CellRef). cond (q.number == r.number) 1 0) found (filter (is_keyed said key) listed) these in
            let few = given_times (shown_id marks reader said objects) found n r (λ t gives. ap (λ (o : Option CellRef). option_map_or (λ (q : CellRef). q.number) o t.number) (sym (given_shown t n gives) ∙ e)) in
            omega arith

    -- what was found and sorted are the ids of the plain database
    pub ids_found : ids ≡ ids_where (has_key fields key) (rows_of marks reader objects)
    ids_found = same_rising ids (ids_where (has_key fields key) (rows_of marks reader objects)) (rise_sorted ids ordered once)
        (ids_rise (has_key fields key) (rows_of marks reader objects) (rows_rise marks reader.snapshot (Some reader.tx) objects rises)) there back
