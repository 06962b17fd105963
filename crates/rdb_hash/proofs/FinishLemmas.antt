-- What an index owes after a put and after a remove, from what became of its tables.
use Rattle.std.proofs.Common.{◌≡◌, ◌≤◌, ◌⊎◌, ◌++◌, ℕ, List, [], ◌∷◌, length, Some, inl, inr, refl, sym, subst, ◌∙◌, arith}
use Rattle.std.proofs.lemmas.List.Sorted.{IsPermutation-sym}
use Rattle.std.specs.Prelude.{IsPermutation}
use Rattle.rdb_pages.specs.declared.cell.CellRef.{CellRef}
use Rattle.rdb_pages.specs.Pages.{zero_cell}
use Rattle.rdb_cells.specs.Index.{IsOwn, KeepsAccount}
use Rattle.rdb_cells.specs.Keys.{Meaning, says, IsUnlisted, RestsOnVersions, ListsVersions}
use Rattle.rdb_cells.specs.Links.{IsAmong, Placed, numbers, segment}
use Rattle.rdb_cells.specs.Parts.{hash_part}
use Rattle.rdb_cells.specs.PlainLaws.{lists_again}
use Rattle.rdb_cells.specs.Work.{Work, reading, IsBlank, IsLeft, TakesAtMost, TakesLowest}
use Rattle.rdb_cells.proofs.IndexLemmas.{says_again, unlisted_again, node_not_left}
use Rattle.rdb_cells.proofs.LinkLemmas.{among_or_not, among_either, among_back}
use Rattle.rdb_cells.proofs.ListedLemmas.{lists_more, lists_less, lists_in_order}
use Rattle.rdb_cells.proofs.WorkLemmas.{none_at_most, at_most_then, lowest_none, lowest_then, lowest_of}
use Rattle.rdb_hash.specs.Changes.{IsPut, IsRemoved}
use Rattle.rdb_hash.specs.HashLaws.{hash_has_index_cells, hashed_again}
use Rattle.rdb_hash.specs.Shape.{Held, Entry, AreTables, AreHashed, IsHashed, IsHash, hash_nature, versions_of}
use Rattle.rdb_hash.proofs.AroundLemmas.{IsAround, around_hash}
use Rattle.rdb_hash.proofs.ChangeLemmas.{changed, entered, hashed_now, one_more}
use Rattle.rdb_hash.proofs.EditLemmas.{Edits}
use Rattle.rdb_hash.proofs.ShapeLemmas.{tables_of, nodes_of, bucket_of_hashed, chain_hashed_parts, chain_hashed_together}

-- what becomes of an index as a version comes: which cells it takes, and its bucket with the entry at the front
pub record Comes (head : ℕ) (keys : Meaning) (w now : Work) (fresh cells : List ℕ) (version : CellRef) (hash table place : ℕ) (listed : List CellRef) (nodes : List ℕ) : Type 0 where
  pub at : IsAround head (says keys (reading w)) (reading w) listed nodes table place
  pub number : ℕ
  pub entry : ℕ
  pub are : AreTables (reading now) head (tables_of (entered at.a number entry version hash))
  pub own : (n : ℕ) → IsAmong cells n → (n ≡ head) ⊎ IsAmong (numbers (nodes_of at.a)) n ⊎ IsAmong fresh n
  pub come : (n : ℕ) → IsAmong (numbers (nodes_of (entered at.a number entry version hash))) n → IsAmong (numbers (nodes_of at.a)) n ⊎ IsAmong fresh n
  pub stay : (n : ℕ) → IsAmong (numbers (nodes_of at.a)) n → IsAmong (numbers (nodes_of (entered at.a number entry version hash))) n
  pub within : (n : ℕ) → IsAmong fresh n → IsAmong (numbers (nodes_of (entered at.a number entry version hash))) n
  pub filled : (n : ℕ) → IsBlank w n → IsAmong cells n → IsAmong fresh n

-- the work, and the work once the cells were taken
module _ (class head : ℕ) (keys : Meaning) (rests : RestsOnVersions keys) (w : Work) (taken : ℕ) (now : Work) (fresh cells : List ℕ) (version : CellRef) (hash table place : ℕ)
    (takes : TakesLowest w (record w { taken = taken }) fresh)
    (most : TakesAtMost hash_part w (record w { taken = taken }))
    (left : (n : ℕ) → IsAmong fresh n → IsLeft w n)
    (edits : Edits (record w { taken = taken }) now cells)
    (few : length cells ≤ 50)
    (hashed : IsHashed (says keys (reading w)) (Entry version hash))
    (comes : (listed : List CellRef) (nodes : List ℕ) → IsHash head (says keys (reading w)) (reading w) listed nodes → Comes head keys w now fresh cells version hash table place listed nodes) where
  module _ (listed : List CellRef) (nodes : List ℕ) (stands : IsHash head (says keys (reading w)) (reading w) listed nodes) where
    is : Comes head keys w now fresh cells version hash table place listed nodes
    is = comes listed nodes stands

    own_cell : (n : ℕ) → IsAmong cells n → IsOwn (hash_nature class head) nodes w n
    own_cell n among = elim (is.own n among) [
      | inl top ↦ inl top
      | inr (inl node) ↦ inr (inl (subst (λ (ns : List ℕ). IsAmong ns n) (sym is.at.nodes_are) node))
      | inr (inr came) ↦ inr (inr (left n came))
    ]

    order : IsPermutation (version ∷ listed) (versions_of (nodes_of (entered is.at.a is.number is.entry version hash)))
    order = subst (λ (rs : List CellRef). IsPermutation (version ∷ rs) (versions_of (nodes_of (entered is.at.a is.number is.entry version hash)))) (sym is.at.listed_is)
        (one_more is.at.a is.number is.at.a.number [] is.at.a.bucket (record { number = is.entry; element = Entry version hash }) version hash refl)

    lists_now : IsUnlisted (says keys (reading w)) listed version → ListsVersions (says keys (reading now)) (versions_of (nodes_of (entered is.at.a is.number is.entry version hash)))
    lists_now unlisted =
        lists_in_order (says keys (reading now)) (version ∷ listed) (versions_of (nodes_of (entered is.at.a is.number is.entry version hash))) order
        (lists_more (says keys (reading now)) listed version
        (unlisted_again keys (reading w) (reading now) rests edits.versions listed version unlisted)
        (lists_again (says keys (reading w)) (says keys (reading now)) listed (says_again keys (reading w) (reading now) rests edits.versions listed) is.at.versions))

    hashed_still : AreHashed (says keys (reading now)) (nodes_of is.at.a)
    hashed_still = hashed_again (says keys (reading w)) (says keys (reading now)) (nodes_of is.at.a) (says_again keys (reading w) (reading now) rests edits.versions (versions_of (nodes_of is.at.a))) is.at.hashed

    hash_now : IsUnlisted (says keys (reading w)) listed version → IsHash head (says keys (reading now)) (reading now) (versions_of (nodes_of (entered is.at.a is.number is.entry version hash))) (numbers (nodes_of (entered is.at.a is.number is.entry version hash)))
    hash_now unlisted =
        around_hash head (says keys (reading now)) (reading now) _ _ table place (record {
          a = entered is.at.a is.number is.entry version hash;
          table_is = is.at.table_is;
          place_is = is.at.place_is;
          are = is.are;
          hashed = hashed_now is.at.a is.number (record { number = is.entry; element = Entry version hash } ∷ is.at.a.bucket) (says keys (reading now)) hashed_still
              ((hashed.0, sym (rests (reading w) (reading now) edits.versions version.number) ∙ hashed.1, hashed.2), bucket_of_hashed (says keys (reading now)) is.at.a hashed_still);
          listed_is = refl;
          nodes_are = refl;
          versions = lists_now unlisted;
        })

    not_left : (n : ℕ) → IsAmong (numbers (nodes_of (entered is.at.a is.number is.entry version hash))) n → ¬ IsLeft (record w { taken = taken }) n
    not_left n among still =
        let was = (takes.left n).0 still in
        elim (is.come n among) [
          | inl old ↦ node_not_left (hash_nature class head) keys w listed nodes (hash_has_index_cells class head) stands n (subst (λ (ns : List ℕ). IsAmong ns n) (sym is.at.nodes_are) old) was.0
          | inr came ↦ was.1 came
        ]

    account : KeepsAccount w now nodes (numbers (nodes_of (entered is.at.a is.number is.entry version hash)))
    account = record {
      come = λ n among. elim (is.come n among) [
        | inl old ↦ inl (subst (λ (ns : List ℕ). IsAmong ns n) (sym is.at.nodes_are) old)
        | inr came ↦ inr (left n came)
      ];
      takes =
          let now_nodes = numbers (nodes_of (entered is.at.a is.number is.entry version hash)) in
          lowest_of w now (fresh ++ now_nodes) now_nodes
          (λ n free. (
            λ among. elim (among_either fresh now_nodes n among) [ inl came ↦ is.within n came | inr there ↦ there ],
            λ among. among_back fresh now_nodes n among,
          ))
          (lowest_then fresh now_nodes w (record w { taken = taken }) now takes (lowest_none (record w { taken = taken }) now now_nodes edits.takes_none not_left));
      gone = λ n among. inl (is.stay n (subst (λ (ns : List ℕ). IsAmong ns n) is.at.nodes_are among));
      filled = λ n blank. elim (among_or_not cells n) [
        | inl among ↦ inl (is.within n (is.filled n blank among))
        | inr without ↦ inr (edits.elsewhere n without)
      ];
    }

  pub is_put : IsPut (hash_nature class head) keys w now version
  is_put = record {
    puts = λ listed nodes stands unlisted. (
      record {
        listed = versions_of (nodes_of (entered (is listed nodes stands).at.a (is listed nodes stands).number (is listed nodes stands).entry version hash));
        now_nodes = numbers (nodes_of (entered (is listed nodes stands).at.a (is listed nodes stands).number (is listed nodes stands).entry version hash));
        lists = hash_now listed nodes stands unlisted;
        account = account listed nodes stands;
      },
      order listed nodes stands,
    );
    own = λ listed nodes stands n. elim (edits.says n) [
      | inl same ↦ inl same
      | inr among ↦ inr (own_cell listed nodes stands n among)
    ];
    versions = edits.versions;
    takes = at_most_then hash_part 0 w (record w { taken = taken }) now most (none_at_most (record w { taken = taken }) now edits.takes_none);
    places = (let long = edits.long in omega arith);
    room = edits.room;
  }

-- what becomes of an index as a version goes: its bucket without the entry
pub record Goes (head : ℕ) (keys : Meaning) (w now : Work) (cells : List ℕ) (version : CellRef) (table place : ℕ) (listed : List CellRef) (nodes : List ℕ) : Type 0 where
  pub at : IsAround head (says keys (reading w)) (reading w) listed nodes table place
  pub number : ℕ
  pub front : List (Placed Held)
  pub entry : ℕ
  pub hash : ℕ
  pub back : List (Placed Held)
  pub bucket_is : at.a.bucket ≡ front ++ record { number = entry; element = Entry version hash } ∷ back
  pub are : AreTables (reading now) head (tables_of (changed at.a number (front ++ back)))
  pub own : (n : ℕ) → IsAmong cells n → (n ≡ head) ⊎ IsAmong (numbers (nodes_of at.a)) n
  pub come : (n : ℕ) → IsAmong (numbers (nodes_of (changed at.a number (front ++ back)))) n → IsAmong (numbers (nodes_of at.a)) n
  pub gone : (n : ℕ) → IsAmong (numbers (nodes_of at.a)) n → IsAmong (numbers (nodes_of (changed at.a number (front ++ back)))) n ⊎ (reading now n ≡ Some zero_cell)
  pub filled : (n : ℕ) → IsBlank w n → ¬ IsAmong cells n

module _ (class head : ℕ) (keys : Meaning) (rests : RestsOnVersions keys) (w now : Work) (cells : List ℕ) (version : CellRef) (table place : ℕ)
    (edits : Edits w now cells)
    (few : length cells ≤ 50)
    (goes : (listed : List CellRef) (nodes : List ℕ) → IsHash head (says keys (reading w)) (reading w) listed nodes → Goes head keys w now cells version table place listed nodes) where
  module _ (listed : List CellRef) (nodes : List ℕ) (stands : IsHash head (says keys (reading w)) (reading w) listed nodes) where
    gone_is : Goes head keys w now cells version table place listed nodes
    gone_is = goes listed nodes stands

    rest_order : IsPermutation (version ∷ versions_of (nodes_of (changed gone_is.at.a gone_is.number (gone_is.front ++ gone_is.back)))) listed
    rest_order =
        let g = gone_is in
        let entry : Placed Held = record { number = g.entry; element = Entry version g.hash } in
        subst (λ (rs : List CellRef). IsPermutation (version ∷ versions_of (nodes_of (changed g.at.a g.number (g.front ++ g.back)))) rs) (sym g.at.listed_is)
        (subst (λ (b : List (Placed Held)). IsPermutation (version ∷ versions_of (nodes_of (changed g.at.a g.number (g.front ++ g.back)))) (versions_of (nodes_of (record g.at.a { bucket = b })))) (sym g.bucket_is)
        (one_more g.at.a g.at.a.number g.number g.front g.back entry version g.hash refl))

    hashed_then : AreHashed (says keys (reading now)) (nodes_of gone_is.at.a)
    hashed_then = hashed_again (says keys (reading w)) (says keys (reading now)) (nodes_of gone_is.at.a) (says_again keys (reading w) (reading now) rests edits.versions (versions_of (nodes_of gone_is.at.a))) gone_is.at.hashed

    hashed_rest : AreHashed (says keys (reading now)) (segment (gone_is.front ++ gone_is.back) 0)
    hashed_rest =
        let g = gone_is in
        let said = says keys (reading now) in
        let all = subst (λ (b : List (Placed Held)). AreHashed said (segment b 0)) g.bucket_is (bucket_of_hashed said g.at.a hashed_then) in
        let parts = chain_hashed_parts said g.front (record { number = g.entry; element = Entry version g.hash } ∷ g.back) all in
        chain_hashed_together said g.front g.back parts.0 parts.1.1

    hash_then : IsHash head (says keys (reading now)) (reading now) (versions_of (nodes_of (changed gone_is.at.a gone_is.number (gone_is.front ++ gone_is.back)))) (numbers (nodes_of (changed gone_is.at.a gone_is.number (gone_is.front ++ gone_is.back))))
    hash_then =
        let g = gone_is in
        let rest = versions_of (nodes_of (changed g.at.a g.number (g.front ++ g.back))) in
        around_hash head (says keys (reading now)) (reading now) _ _ table place (record {
          a = changed g.at.a g.number (g.front ++ g.back);
          table_is = g.at.table_is;
          place_is = g.at.place_is;
          are = g.are;
          hashed = hashed_now g.at.a g.number (g.front ++ g.back) (says keys (reading now)) hashed_then hashed_rest;
          listed_is = refl;
          nodes_are = refl;
          versions =
              lists_less (says keys (reading now)) rest version
              (lists_in_order (says keys (reading now)) listed (version ∷ rest) (IsPermutation-sym (version ∷ rest) listed rest_order)
              (lists_again (says keys (reading w)) (says keys (reading now)) listed (says_again keys (reading w) (reading now) rests edits.versions listed) g.at.versions));
        })

    account_then : KeepsAccount w now nodes (numbers (nodes_of (changed gone_is.at.a gone_is.number (gone_is.front ++ gone_is.back))))
    account_then =
        let g = gone_is in
        let now_nodes = numbers (nodes_of (changed g.at.a g.number (g.front ++ g.back))) in
        let old : (n : ℕ) → IsAmong now_nodes n → IsAmong nodes n = λ n among. subst (λ (ns : List ℕ). IsAmong ns n) (sym g.at.nodes_are) (g.come n among) in
        record {
          come = λ n among. inl (old n among);
          takes = lowest_none w now now_nodes edits.takes_none (λ n among. node_not_left (hash_nature class head) keys w listed nodes (hash_has_index_cells class head) stands n (old n among));
          gone = λ n among. g.gone n (subst (λ (ns : List ℕ). IsAmong ns n) g.at.nodes_are among);
          filled = λ n blank. inr (edits.elsewhere n (g.filled n blank));
        }

  pub is_removed : IsRemoved (hash_nature class head) keys w now version
  is_removed = record {
    removes = λ listed nodes stands there. (
      record {
        listed = versions_of (nodes_of (changed (gone_is listed nodes stands).at.a (gone_is listed nodes stands).number ((gone_is listed nodes stands).front ++ (gone_is listed nodes stands).back)));
        now_nodes = numbers (nodes_of (changed (gone_is listed nodes stands).at.a (gone_is listed nodes stands).number ((gone_is listed nodes stands).front ++ (gone_is listed nodes stands).back)));
        lists = hash_then listed nodes stands;
        account = account_then listed nodes stands;
      },
      rest_order listed nodes stands,
      λ n among. subst (λ (ns : List ℕ). IsAmong ns n) (sym (gone_is listed nodes stands).at.nodes_are) ((gone_is listed nodes stands).come n among),
    );
    own = λ listed nodes stands n. elim (edits.says n) [
      | inl same ↦ inl same
      | inr among ↦ elim ((gone_is listed nodes stands).own n among) [
        | inl top ↦ inr (inl top)
        | inr node ↦ inr (inr (inl (subst (λ (ns : List ℕ). IsAmong ns n) (sym (gone_is listed nodes stands).at.nodes_are) node)))
      ]
    ];
    versions = edits.versions;
    takes_none = edits.takes_none;
    places = (let long = edits.long in omega arith);
    room = edits.room;
  }
