-- The walk along an object's chain to its garbage version of the least commit.
use Rattle.std.proofs.Common.{◌≡◌, ◌≢◌, ◌==◌, ◌+◌, ◌<◌, ◌≤◌, ◌⊎◌, ◌++◌, min, not, ℕ, suc, Bool, true, false, List, [], ◌∷◌, length, length-append, map, is_none, nat_le, nat_lt, Option, Some, None, inl, inr, refl, sym, ap, subst, ◌∙◌, if◌then◌else◌, arith}
use Rattle.std.proofs.lemmas.Bool.{ne_eqb, false≢true}
use Rattle.std.proofs.lemmas.Bool.Decides.{nat_tests}
use Rattle.std.proofs.lemmas.List.{append-nil, append_assoc}
use Rattle.std.specs.Option.{option_map_or, option_or}
use Rattle.rdb_base.specs.declared.identity.Stamp.{Stamp}
use Rattle.rdb_base.specs.declared.identity.TxId.{TxId}
use Rattle.rdb_base.specs.declared.identity.Stamp.TheVariants as stamp
use Rattle.rdb_pages.specs.declared.cell.CellRef.{CellRef}
use Rattle.rdb_cells.specs.Images.{Image, AreBounded}
use Rattle.rdb_cells.specs.References.{last_head}
use Rattle.rdb_cells.specs.Words.{no_ref}
use Rattle.rdb_objects.specs.Objects.{newest_of}
use Rattle.rdb_objects.proofs.ChainLemmas.{chain_short}
use Rattle.rdb_rows.specs.Versions.{HasVersion, HoldsVersion, is_tombstone, ForVersion}
use Rattle.rdb_sight.specs.Garbage.{least_commit, is_garbage}
use Rattle.rdb_sight.specs.Versions.{Version, is_garbage_among}
use Rattle.rdb_store.specs.FirstGarbage.{IsGarbageIn, IsChain, Begins, TellsUnseen, IsFirstIn, IsSooner, commit_of, earlier, is_earlier, least_with}
use Rattle.rdb_store.specs.Stored.{refs_of}
use Rattle.rdb_store.specs.declared.garbage.Unseen.{Unseen}

abbrev pub stamps_of : List Version → List Stamp
stamps_of chain = map (λ v. v.stamp) chain

-- ---- the least commit

least_done : (stamps : List Stamp) (commit : ℕ) → least_commit (stamps ++ stamp.Done commit ∷ []) ≡ Some (option_map_or (min commit) (least_commit stamps) commit)
least_done [] commit = refl
least_done (stamp.By by ∷ stamps) commit = least_done stamps commit
least_done (stamp.Done c ∷ stamps) commit =
    ap (λ (o : Option ℕ). Some (option_map_or (min c) o c)) (least_done stamps commit) ∙ ap Some (go (least_commit stamps))
  where
    go : (o : Option ℕ) → min c (option_map_or (min commit) o commit) ≡ min commit (option_map_or (min c) o c)
    go None = omega arith
    go (Some m) = omega arith

least_open : (stamps : List Stamp) (by : TxId) → least_commit (stamps ++ stamp.By by ∷ []) ≡ least_commit stamps
least_open [] by = refl
least_open (stamp.By other ∷ stamps) by = least_open stamps by
least_open (stamp.Done c ∷ stamps) by = ap (λ (o : Option ℕ). Some (option_map_or (min c) o c)) (least_open stamps by)

-- the least of one stamp more
least_more : (stamps : List Stamp) (last : Stamp) → least_commit (stamps ++ last ∷ []) ≡ least_with (least_commit stamps) last
least_more stamps (stamp.Done commit) = least_done stamps commit
least_more stamps (stamp.By by) = least_open stamps by

stamps_more : (front : List Version) (v : Version) → stamps_of (front ++ v ∷ []) ≡ stamps_of front ++ v.stamp ∷ []
stamps_more [] v = refl
stamps_more (w ∷ ws) v = λ i. w.stamp ∷ stamps_more ws v i

-- ---- what one version's header says

older_there : (image : Image) (older : CellRef) (back : List Version) → IsChain image back → older ≡ newest_of (refs_of back) → nat_lt 0 (length back) ≡ not (older.number == 0)
older_there image older [] chain is = rw is refl
older_there image older (w ∷ ws) chain is =
    let some = chain.0.some in
    let apart : w.header ≢ 0 = λ none. absurd (omega arith) in
    rw is (rw (ne_eqb w.header 0 apart) (let more : nat_lt 0 (suc (length ws)) ≡ true = grind (arith, nat_tests) in more))

module _ (floor known : Option ℕ) (front : List Version) (v : Version) (back : List Version) (least : known ≡ least_commit (stamps_of front)) (said : Stamp) (gone more : Bool) (stamp_is : said ≡ v.stamp) (row_is : gone ≡ is_none v.row) (more_is : more ≡ nat_lt 0 (length back)) where
  same_test : is_garbage_among floor front v back ≡ is_garbage said gone known more floor
  same_test = λ i. is_garbage (sym stamp_is i) (sym row_is i) (sym least i) (sym more_is i) floor

  pub tells_none : is_garbage said gone known more floor ≡ false → TellsUnseen floor front v back None
  tells_none not_one = same_test ∙ not_one

  pub tells_commit : is_garbage said gone known more floor ≡ true → TellsUnseen floor front v back (commit_of said)
  tells_commit is_one = go said refl
    where
      go : (s : Stamp) → said ≡ s → TellsUnseen floor front v back (commit_of s)
      go (stamp.Done commit) e = (sym stamp_is ∙ e, same_test ∙ is_one)
      go (stamp.By by) e = absurd (false≢true (sym (ap (λ (s : Stamp). is_garbage s gone known more floor) e) ∙ is_one))

-- what is read in the header of a version of a chain
module _ (image : Image) (v : Version) (back : List Version) (at : ℕ) (there : v.header ≡ at) (chain : IsChain image (v ∷ back)) where
  pub version_there : HasVersion image at
  version_there = record { version = chain.0.stored; cells = chain.0.cells; holds = holds }
    where
      holds : HoldsVersion image at chain.0.stored chain.0.cells
      holds = subst (λ (n : ℕ). HoldsVersion image n chain.0.stored chain.0.cells) there chain.0.stands

  pub stamp_read : (said : Stamp) → ForVersion image at (λ u places. said ≡ u.label.stamp) → said ≡ v.stamp
  unfolding version_there
  stamp_read said reads = reads chain.0.stored chain.0.cells version_there.holds ∙ chain.0.stamp_is

  pub row_read : (gone : Bool) → ForVersion image at (λ u places. gone ≡ is_tombstone u.row) → gone ≡ is_none v.row
  unfolding version_there
  row_read gone reads = reads chain.0.stored chain.0.cells version_there.holds ∙ chain.0.row

  pub older_read : (older : CellRef) → ForVersion image at (λ u places. older ≡ u.label.older) → older ≡ newest_of (refs_of back)
  unfolding version_there
  older_read older reads = reads chain.0.stored chain.0.cells version_there.holds ∙ chain.0.leads

  pub more_read : (older : CellRef) (more : Bool) → ForVersion image at (λ u places. older ≡ u.label.older) → more ≡ not (older.number == 0) → more ≡ nat_lt 0 (length back)
  more_read older more reads is = is ∙ sym (older_there image older back chain.1 (older_read older reads))

-- ---- the walk

chain_part : (image : Image) (front back : List Version) → IsChain image (front ++ back) → IsChain image back
chain_part image [] back chain = chain
chain_part image (v ∷ vs) back chain = chain_part image vs back chain.1

-- the version is among those that were passed, in front of others
pub record IsPassed (floor : Option ℕ) (front back : List Version) (commit header : ℕ) : Type 0 where
  pub newer : List Version
  pub version : Version
  pub older : List Version
  pub split : front ≡ newer ++ version ∷ older
  pub there : version.header ≡ header
  pub done : version.stamp ≡ stamp.Done commit
  pub unseen : is_garbage_among floor newer version (older ++ back) ≡ true

abbrev pub IsFirstPassed : Option ℕ → List Version → List Version → ℕ → Option Unseen → Type 0
IsFirstPassed floor front back id None = (commit header : ℕ) → ¬ IsPassed floor front back commit header
IsFirstPassed floor front back id (Some found) =
    (found.id ≡ id) × IsPassed floor front back found.commit found.version.number
    × ((later there : ℕ) → IsPassed floor front back later there → found.commit ≤ later)

-- so many versions of a chain were passed
pub record IsWalked (floor : Option ℕ) (chain : List Version) (id count : ℕ) (at : CellRef) (newer : Option ℕ) (found : Option Unseen) : Type 0 where
  pub front : List Version
  pub back : List Version
  pub split : chain ≡ front ++ back
  pub many : length front ≡ count
  pub here : at ≡ newest_of (refs_of back)
  pub least : newer ≡ least_commit (stamps_of front)
  pub first : IsFirstPassed floor front back id found

nothing_before : (newer : List Version) (v : Version) (older : List Version) → [] ≡ newer ++ v ∷ older → ⊥
nothing_before [] v older e = absurd (cc)
nothing_before (w ∷ ws) v older e = absurd (cc)

pub walk_begins : (image : Image) (newest : CellRef) (floor : Option ℕ) (chain : List Version) (id : ℕ) → Begins image newest chain → IsWalked floor chain id 0 newest None None
walk_begins image newest floor chain id begins = record {
  front = [];
  back = chain;
  split = refl;
  many = refl;
  here = begins.newest_is;
  least = refl;
  first = λ commit header passed. nothing_before passed.newer passed.version passed.older passed.split;
}

head_or : Version → List Version → Version
head_or v [] = v
head_or v (w ∷ ws) = w

tail_of : List Version → List Version
tail_of [] = []
tail_of (v ∷ vs) = vs

-- where a version stands in a list with one more at its end
split_end : (front : List Version) (v : Version) (newer : List Version) (w : Version) (older : List Version) → front ++ v ∷ [] ≡ newer ++ w ∷ older
    → ((newer ≡ front) × (w ≡ v) × (older ≡ [])) ⊎ ((rest : List Version) × (older ≡ rest ++ v ∷ []) × (front ≡ newer ++ w ∷ rest))
unfolding head_or tail_of
split_end [] v [] w older e = inl (refl, sym (ap (head_or v) e), sym (ap tail_of e))
split_end [] v (n ∷ ns) w older e = absurd (nothing_before ns w older (ap tail_of e))
split_end (f ∷ fs) v [] w older e = inr (fs, sym (ap tail_of e), ap (λ (u : Version). u ∷ fs) (ap (head_or w) e))
split_end (f ∷ fs) v (n ∷ ns) w older e = elim (split_end fs v ns w older (ap tail_of e)) [
  | inl last ↦ inl (λ i. sym (ap (head_or n) e) i ∷ last.0 i, last.1, last.2)
  | inr before ↦ inr (before.0, before.1, λ i. ap (head_or n) e i ∷ before.2 i)
]

module _ (floor : Option ℕ) (id : ℕ) (front : List Version) (v : Version) (back : List Version) (commit : Option ℕ) (tells : TellsUnseen floor front v back commit) where
  passed_still : (k header : ℕ) → IsPassed floor front (v ∷ back) k header → IsPassed floor (front ++ v ∷ []) back k header
  passed_still k header passed = record {
    newer = passed.newer;
    version = passed.version;
    older = passed.older ++ v ∷ [];
    split = ap (λ (l : List Version). l ++ v ∷ []) passed.split ∙ append_assoc passed.newer (passed.version ∷ passed.older) (v ∷ []);
    there = passed.there;
    done = passed.done;
    unseen = ap (λ (l : List Version). is_garbage_among floor passed.newer passed.version l) (append_assoc passed.older (v ∷ []) back) ∙ passed.unseen;
  }

  -- a version that was passed is this one or was passed before
  passed_was : (k header : ℕ) → IsPassed floor (front ++ v ∷ []) back k header → ((v.stamp ≡ stamp.Done k) × (v.header ≡ header) × (is_garbage_among floor front v back ≡ true)) ⊎ IsPassed floor front (v ∷ back) k header
  passed_was k header passed = elim (split_end front v passed.newer passed.version passed.older passed.split) [
    | inl last ↦ inl (
      ap (λ (u : Version). u.stamp) (sym last.1) ∙ passed.done,
      ap (λ (u : Version). u.header) (sym last.1) ∙ passed.there,
      (λ i. is_garbage_among floor (sym last.0 i) (sym last.1 i) (sym (ap (λ (l : List Version). l ++ back) last.2) i)) ∙ passed.unseen,
    )
    | inr before ↦ inr (record {
      newer = passed.newer;
      version = passed.version;
      older = before.0;
      split = before.2;
      there = passed.there;
      done = passed.done;
      unseen = ap (λ (l : List Version). is_garbage_among floor passed.newer passed.version l) (sym (append_assoc before.0 (v ∷ []) back) ∙ ap (λ (l : List Version). l ++ back) (sym before.1)) ∙ passed.unseen;
    })
  ]

-- the version itself, where it is garbage
this_passed : (floor : Option ℕ) (front : List Version) (v : Version) (back : List Version) (header commit : ℕ) → v.header ≡ header → TellsUnseen floor front v back (Some commit) → IsPassed floor (front ++ v ∷ []) back commit header
this_passed floor front v back header commit there tells = record { newer = front; version = v; older = []; split = refl; there = there; done = tells.0; unseen = tells.1 }

one_commit : (s : Stamp) (a b : ℕ) → s ≡ stamp.Done a → s ≡ stamp.Done b → a ≡ b
one_commit s a b first second = ap (λ (t : Stamp). option_map_or (λ n. n) (commit_of t) 0) (sym first ∙ second)

-- one version more, which is garbage or isn't
pub first_more : (floor : Option ℕ) (id : ℕ) (front : List Version) (v : Version) (back : List Version) (at : CellRef) (commit : Option ℕ) (found : Option Unseen) → v.header ≡ at.number → TellsUnseen floor front v back commit → IsFirstPassed floor front (v ∷ back) id found → IsFirstPassed floor (front ++ v ∷ []) back id (earlier found id at commit)
first_more floor id front v back at None None there tells first = λ k header passed. elim (passed_was floor id front v back None tells k header passed) [
  | inl this ↦ false≢true (sym tells ∙ this.2)
  | inr before ↦ first k header before
]
first_more floor id front v back at None (Some best) there tells first = (
  first.0,
  passed_still floor id front v back None tells best.commit best.version.number first.1,
  λ k header passed. elim (passed_was floor id front v back None tells k header passed) [
    | inl this ↦ absurd (false≢true (sym tells ∙ this.2))
    | inr before ↦ first.2 k header before
  ],
)
first_more floor id front v back at (Some commit) None there tells first = (
  refl,
  this_passed floor front v back at.number commit there tells,
  λ k header passed. elim (passed_was floor id front v back (Some commit) tells k header passed) [
    | inl this ↦ let same = one_commit v.stamp commit k tells.0 this.0 in omega arith
    | inr before ↦ absurd (first k header before)
  ],
)
first_more floor id front v back at (Some commit) (Some best) there tells first = go (nat_le best.commit commit) refl
  where
    go : (b : Bool) → nat_le best.commit commit ≡ b → IsFirstPassed floor (front ++ v ∷ []) back id (if b then Some best else Some (record { id = id; commit = commit; version = at }))
    go true e =
        let le : best.commit ≤ commit = grind (arith, nat_tests) in (
          first.0,
          passed_still floor id front v back (Some commit) tells best.commit best.version.number first.1,
          λ k header passed. elim (passed_was floor id front v back (Some commit) tells k header passed) [
            | inl this ↦ let same = one_commit v.stamp commit k tells.0 this.0 in omega arith
            | inr before ↦ first.2 k header before
          ],
        )
    go false e =
        let lt : commit < best.commit = grind (arith, nat_tests) in (
          refl,
          this_passed floor front v back at.number commit there tells,
          λ k header passed. elim (passed_was floor id front v back (Some commit) tells k header passed) [
            | inl this ↦ let same = one_commit v.stamp commit k tells.0 this.0 in omega arith
            | inr before ↦ let le = first.2 k header before in omega arith
          ],
        )

length_refs : (chain : List Version) → length (refs_of chain) ≡ length chain
length_refs [] = refl
length_refs (v ∷ vs) = ap suc (length_refs vs)

-- a reference that isn't the one to no cell
pub some_number : (r : CellRef) → r ≢ no_ref → r.number ≢ 0
some_number r some none = some (λ i. record { number = none i })

-- what is passed next
module _ (image : Image) (newest : CellRef) (floor : Option ℕ) (chain : List Version) (id : ℕ) (begins : Begins image newest chain) (count : ℕ) (at : CellRef) (newer : Option ℕ) (found : Option Unseen) (walked : IsWalked floor chain id count at newer found) where
  rest_chain : IsChain image walked.back
  rest_chain = chain_part image walked.front walked.back (subst (IsChain image) walked.split begins.is_chain)

  pub next_there : at.number ≢ 0 → (v : Version) × (vs : List Version) × (walked.back ≡ v ∷ vs) × (v.header ≡ at.number) × IsChain image (v ∷ vs)
  next_there some = go walked.back walked.here rest_chain
    where
      go : (back : List Version) → at ≡ newest_of (refs_of back) → IsChain image back → (v : Version) × (vs : List Version) × (back ≡ v ∷ vs) × (v.header ≡ at.number) × IsChain image (v ∷ vs)
      go [] here chained = absurd (some (ap (λ (r : CellRef). r.number) here))
      go (v ∷ vs) here chained = (v, vs, refl, sym (ap (λ (r : CellRef). r.number) here), chained)

  pub walk_there : at.number ≢ 0 → HasVersion image at.number
  walk_there some = let next = next_there some in version_there image next.0 next.1 at.number next.3 next.4

  -- the walk ends with the chain
  ended : walked.back ≡ [] → IsFirstIn floor chain id found
  ended none = go found walked.first
    where
      whole : chain ≡ walked.front
      whole = walked.split ∙ ap (λ (l : List Version). walked.front ++ l) none ∙ append-nil walked.front

      to : (k header : ℕ) → IsGarbageIn floor chain k header → IsPassed floor walked.front walked.back k header
      to k header is = record {
        newer = is.newer;
        version = is.version;
        older = is.older;
        split = sym whole ∙ is.split;
        there = is.there;
        done = is.done;
        unseen = ap (λ (l : List Version). is_garbage_among floor is.newer is.version l) (ap (λ (l : List Version). is.older ++ l) none ∙ append-nil is.older) ∙ is.unseen;
      }

      back_to : (k header : ℕ) → IsPassed floor walked.front walked.back k header → IsGarbageIn floor chain k header
      back_to k header is = record {
        newer = is.newer;
        version = is.version;
        older = is.older;
        split = whole ∙ is.split;
        there = is.there;
        done = is.done;
        unseen = ap (λ (l : List Version). is_garbage_among floor is.newer is.version l) (sym (ap (λ (l : List Version). is.older ++ l) none ∙ append-nil is.older)) ∙ is.unseen;
      }

      go : (o : Option Unseen) → IsFirstPassed floor walked.front walked.back id o → IsFirstIn floor chain id o
      go None first = λ k header is. first k header (to k header is)
      go (Some best) first = (first.0, back_to best.commit best.version.number first.1, λ k header is. first.2 k header (to k header is))

  pub ends_at_none : at.number ≡ 0 → IsFirstIn floor chain id found
  ends_at_none none = ended (go walked.back walked.here rest_chain)
    where
      go : (back : List Version) → at ≡ newest_of (refs_of back) → IsChain image back → back ≡ []
      go [] here chained = refl
      go (v ∷ vs) here chained =
          let some = chained.0.some in
          let is : at.number ≡ v.header = ap (λ (r : CellRef). r.number) here in
          absurd (omega arith)

  pub ends_at_most : (class_of : ℕ → Option ℕ) → AreBounded image class_of → last_head ≤ count → IsFirstIn floor chain id found
  ends_at_most class_of bounded most = ended (go walked.back (ap (λ (l : List Version). length l) walked.split ∙ length-append walked.front walked.back))
    where
      short : length chain ≤ last_head
      short = subst (λ (n : ℕ). n ≤ last_head) (length_refs chain) (chain_short image class_of begins.id (refs_of chain) bounded begins.versions)

      go : (back : List Version) → length chain ≡ length walked.front + length back → back ≡ []
      go [] long = refl
      go (v ∷ vs) long = let many = walked.many in let few = short in absurd (omega arith)

  pub walk_on : (some : at.number ≢ 0) (commit : Option ℕ) (said : Stamp) (least_now : Option ℕ) (older : CellRef)
      → ((front : List Version) (v : Version) (back : List Version) → v.header ≡ at.number → IsChain image (v ∷ back) → newer ≡ least_commit (map (λ w. w.stamp) front) → TellsUnseen floor front v back commit)
      → ForVersion image at.number (λ u places. said ≡ u.label.stamp)
      → least_now ≡ least_with newer said
      → ForVersion image at.number (λ u places. older ≡ u.label.older)
      → IsWalked floor chain id (count + 1) older least_now (earlier found id at commit)
  walk_on some commit said least_now older tells stamp_said least_is older_said =
      let next = next_there some in
      let v = next.0 in
      let vs = next.1 in
      record {
        front = walked.front ++ v ∷ [];
        back = vs;
        split = walked.split ∙ ap (λ (l : List Version). walked.front ++ l) next.2 ∙ sym (append_assoc walked.front (v ∷ []) vs);
        many = let many = walked.many in length-append walked.front (v ∷ []) ∙ omega arith;
        here = older_read image v vs at.number next.3 next.4 older older_said;
        least =
            least_is
            ∙ (λ i. least_with (walked.least i) (stamp_read image v vs at.number next.3 next.4 said stamp_said i))
            ∙ sym (least_more (stamps_of walked.front) v.stamp)
            ∙ ap least_commit (sym (stamps_more walked.front v));
        first = first_more floor id walked.front v vs at commit found next.3 (tells walked.front v vs next.3 next.4 walked.least) (subst (λ (l : List Version). IsFirstPassed floor walked.front l id found) next.2 walked.first);
      }

-- ---- the sooner of two

pub sooner_kept : (floor : Option ℕ) (chain : List Version) (id : ℕ) (before : Option Unseen) → is_earlier before id ≡ true → IsSooner floor chain id before before
sooner_kept floor chain id None is = absurd (false≢true is)
sooner_kept floor chain id (Some best) is = let less : best.id < id = grind (arith, nat_tests) in inl (less, refl)

pub sooner_now : (floor : Option ℕ) (chain : List Version) (id : ℕ) (before found : Option Unseen) → is_earlier before id ≡ false → IsFirstIn floor chain id found → IsSooner floor chain id before (option_or found before)
sooner_now floor chain id None None is first = first
sooner_now floor chain id None (Some one) is first = first
sooner_now floor chain id (Some best) found is first = let le : id ≤ best.id = grind (arith, nat_tests) in inr (le, found, first, refl)
