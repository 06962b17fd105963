-- A chain without a transaction's own version, if it has one.
use Rattle.std.proofs.Common.{◌≡◌, ◌≢◌, ℕ, Bool, true, false, cond, ◌⊎◌, inl, inr, List, [], ◌∷◌, ◌++◌, Option, Some, None, refl, sym, ap, subst, ◌∙◌}
use Rattle.std.specs.Prelude.{option_and_then}
use Rattle.std.specs.List.{AllPairs}
use Rattle.std.specs.Option.{option_map}
use Rattle.rdb_base.specs.declared.identity.TxId.{TxId}
use Rattle.rdb_base.specs.declared.identity.Stamp.TheVariants as stamp
use Rattle.rdb_base.specs.declared.journal.Entry.{Entry}
use Rattle.rdb_sight.specs.Sight.{is_own, commit_within}
use Rattle.rdb_sight.specs.Versions.{Version, Versions, Marks, chain_in, IsWithout, counted, row_shown, own_version}
use Rattle.rdb_model.specs.Database.{Row}
use Rattle.rdb_shown.specs.Kept.{AreOfTwo, IsChain, IsUnseenBy}
use Rattle.rdb_shown.specs.Changes.{HasChain, Puts}
use Rattle.rdb_shown.proofs.Pairs.{Pairs, pairs_from, pairs_to, all_always, all_weaker, all_join, pairs_before, pairs_behind}
use Rattle.rdb_shown.proofs.StampLemmas.{own_itself, own_is, others_own, counted_own, own_counted}
use Rattle.rdb_shown.proofs.Picks.{find_without, find_none, none_found, pick_without, pick_same}
use Rattle.rdb_shown.proofs.KeptLemmas.{chain_without, pairs_kept}

-- that a chain is another one without the version of a transaction, if it has one
abbrev pub IsRest : TxId → List Version → List Version → Type 0
IsRest tx chain rest = ((own_version tx chain ≡ None) × (rest ≡ chain)) ⊎ ((old : Version) × (old.stamp ≡ stamp.By tx) × IsWithout old chain rest)

pub rest_chain : (journal : List Entry) (marks : Marks) (object : ℕ × ℕ) (tx : TxId) (chain rest : List Version) → IsRest tx chain rest → IsChain journal marks object chain → IsChain journal marks object rest
rest_chain journal marks object tx chain rest (inl none) is = subst (IsChain journal marks object) (sym none.1) is
rest_chain journal marks object tx chain rest (inr old) is = chain_without journal marks object old.0 chain rest old.2 is

pub rest_pairs : (R : Version → Version → Type 0) (tx : TxId) (chain rest : List Version) → IsRest tx chain rest → AllPairs R chain → AllPairs R rest
rest_pairs R tx chain rest (inl none) is = subst (λ (vs : List Version). AllPairs R vs) (sym none.1) is
rest_pairs R tx chain rest (inr old) is = pairs_kept R old.0 chain rest old.2 is

-- no version of the transaction is left
pub rest_none : (marks : Marks) (tx : TxId) (chain rest : List Version) → marks tx ≡ None → AllPairs (AreOfTwo marks) chain → IsRest tx chain rest → own_version tx rest ≡ None
rest_none marks tx chain rest open_ once (inl none) = ap (own_version tx) none.1 ∙ none.0
rest_none marks tx chain rest open_ once (inr old) =
    ap (own_version tx) old.2.after
    ∙ find_none (λ v. is_own (Some tx) v.stamp) (old.2.newer ++ old.2.older)
    (all_join (λ v. is_own (Some tx) v.stamp ≡ false) old.2.newer old.2.older
    (all_weaker (λ w. AreOfTwo marks w old.0) (λ w. is_own (Some tx) w.stamp ≡ false) old.2.newer (λ w two. differs w (λ e f. two tx e f)) (pairs_before (AreOfTwo marks) old.2.newer old.0 old.2.older pairs))
    (all_weaker (AreOfTwo marks old.0) (λ w. is_own (Some tx) w.stamp ≡ false) old.2.older (λ w two. differs w (λ e f. two tx f e)) (pairs_behind (AreOfTwo marks) old.2.newer old.0 old.2.older pairs)))
  where
    pairs : Pairs (AreOfTwo marks) (old.2.newer ++ old.0 ∷ old.2.older)
    pairs = pairs_from (AreOfTwo marks) (old.2.newer ++ old.0 ∷ old.2.older) (subst (λ (vs : List Version). AllPairs (AreOfTwo marks) vs) old.2.before once)

    differs : (w : Version) → (counted marks w.stamp ≡ stamp.By tx → counted marks old.0.stamp ≡ stamp.By tx → ⊥) → is_own (Some tx) w.stamp ≡ false
    differs w two = go (is_own (Some tx) w.stamp) refl
      where
        go : (b : Bool) → is_own (Some tx) w.stamp ≡ b → b ≡ false
        go false e = refl
        go true e = absurd (two (counted_own marks w.stamp tx (own_is tx w.stamp e) open_) (counted_own marks old.0.stamp tx old.1 open_))

-- nobody else's own version is another
pub rest_others : (tx other : TxId) (chain rest : List Version) → other ≢ tx → IsRest tx chain rest → own_version other rest ≡ own_version other chain
rest_others tx other chain rest differs (inl none) = ap (own_version other) none.1
rest_others tx other chain rest differs (inr old) =
    ap (own_version other) old.2.after
    ∙ sym (find_without (λ v. is_own (Some other) v.stamp) old.2.newer old.0 old.2.older (others_own (Some other) tx old.0.stamp (λ e. differs (let h : other ≡ tx = (cc) in h)) old.1))
    ∙ sym (ap (own_version other) old.2.before)

-- nobody else sees a change
pub rest_shown : (marks : Marks) (snapshot : ℕ) (reader : Option TxId) (tx : TxId) (chain rest : List Version) → marks tx ≡ None → reader ≢ Some tx → IsRest tx chain rest
    → row_shown marks snapshot reader rest ≡ row_shown marks snapshot reader chain
rest_shown marks snapshot reader tx chain rest open_ differs (inl none) = ap (row_shown marks snapshot reader) none.1
rest_shown marks snapshot reader tx chain rest open_ differs (inr old) =
    ap (row_shown marks snapshot reader) old.2.after
    ∙ sym (ap (option_and_then (λ (v : Version). v.row)) (pick_without (λ v. is_own reader (counted marks v.stamp)) (λ v. commit_within snapshot (counted marks v.stamp)) old.2.newer old.0 old.2.older
    (others_own reader tx (counted marks old.0.stamp) differs counts) (ap (commit_within snapshot) counts)))
    ∙ sym (ap (row_shown marks snapshot reader) old.2.before)
  where
    counts : counted marks old.0.stamp ≡ stamp.By tx
    counts = counted_own marks old.0.stamp tx old.1 open_

-- where none is the transaction's own, it is shown what its snapshot shows
pub none_own_shown : (marks : Marks) (snapshot : ℕ) (tx : TxId) (chain : List Version) → marks tx ≡ None → own_version tx chain ≡ None → row_shown marks snapshot (Some tx) chain ≡ row_shown marks snapshot None chain
none_own_shown marks snapshot tx chain open_ none =
    ap (option_and_then (λ (v : Version). v.row)) (pick_same (λ v. is_own (Some tx) (counted marks v.stamp)) (λ v. is_own None (counted marks v.stamp)) (λ v. commit_within snapshot (counted marks v.stamp)) (λ v. commit_within snapshot (counted marks v.stamp)) chain
    (all_weaker (λ v. is_own (Some tx) v.stamp ≡ false) (λ v. (is_own (Some tx) (counted marks v.stamp) ≡ false) × (commit_within snapshot (counted marks v.stamp) ≡ commit_within snapshot (counted marks v.stamp))) chain
    (λ v e. (own_counted marks tx v.stamp open_ ∙ e, refl)) (none_found (λ v. is_own (Some tx) v.stamp) chain none)))

-- a version put, with and without an own one taken out
pub record IsPut (before after : Versions) (tx : TxId) (class id : ℕ) (row : Option Row) : Type 0 where
  pub version : Version
  pub stamped : version.stamp ≡ stamp.By tx
  pub holds : version.row ≡ row
  pub rest : List Version
  pub is_rest : IsRest tx (chain_in before class id) rest
  pub put : HasChain before after class id (version ∷ rest)

pub put_is : (before after : Versions) (tx : TxId) (class id : ℕ) (row : Option Row) → Puts before after tx class id row → IsPut before after tx class id row
put_is before after tx class id row (inl first) = record { version = first.version; stamped = first.stamped; holds = first.holds; rest = chain_in before class id; is_rest = inl (first.none_own, refl); put = first.put }
put_is before after tx class id row (inr again) = record { version = again.version; stamped = again.stamped; holds = again.holds; rest = again.rest; is_rest = inr (again.replaced, again.was_own, again.without); put = again.put }

-- a version of the transaction, put first, is what it sees
pub put_seen : (marks : Marks) (snapshot : ℕ) (tx : TxId) (v : Version) (rest : List Version) → v.stamp ≡ stamp.By tx → marks tx ≡ None → row_shown marks snapshot (Some tx) (v ∷ rest) ≡ v.row
put_seen marks snapshot tx v rest own open_ = rw (own_counted marks tx v.stamp open_ ∙ own_itself tx v.stamp own) refl

-- and nobody else does
pub put_unseen : (marks : Marks) (snapshot : ℕ) (reader : Option TxId) (tx : TxId) (v : Version) (rest : List Version) → v.stamp ≡ stamp.By tx → marks tx ≡ None → reader ≢ Some tx
    → row_shown marks snapshot reader (v ∷ rest) ≡ row_shown marks snapshot reader rest
put_unseen marks snapshot reader tx v rest own open_ differs =
    let counts : counted marks v.stamp ≡ stamp.By tx = counted_own marks v.stamp tx own open_ in
    ap (option_and_then (λ (w : Version). w.row)) (pick_without (λ w. is_own reader (counted marks w.stamp)) (λ w. commit_within snapshot (counted marks w.stamp)) [] v rest
    (others_own reader tx (counted marks v.stamp) differs counts) (ap (commit_within snapshot) counts))

-- the first version of a chain, where it is the transaction's own
pub put_wrote : (tx : TxId) (v : Version) (rest : List Version) (row : Option Row) → v.stamp ≡ stamp.By tx → v.row ≡ row → option_map (λ (w : Version). w.row) (own_version tx (v ∷ rest)) ≡ Some row
put_wrote tx v rest row own holds =
    ap (λ b. option_map (λ (w : Version). w.row) (cond b (Some v) (own_version tx rest))) (own_itself tx v.stamp own) ∙ ap Some holds

pub put_other : (tx other : TxId) (v : Version) (rest : List Version) → v.stamp ≡ stamp.By tx → other ≢ tx → own_version other (v ∷ rest) ≡ own_version other rest
put_other tx other v rest own differs =
    ap (λ b. cond b (Some v) (own_version other rest)) (others_own (Some other) tx v.stamp (λ e. differs (let h : other ≡ tx = (cc) in h)) own)

pub unseen_put : (marks : Marks) (tx : TxId) (snapshot : ℕ) (writer : TxId) (v : Version) (rest : List Version) → v.stamp ≡ stamp.By writer → marks writer ≡ None
    → AllPairs (IsUnseenBy tx snapshot marks) rest → AllPairs (IsUnseenBy tx snapshot marks) (v ∷ rest)
unseen_put marks tx snapshot writer v rest own open_ unseen =
    pairs_to (IsUnseenBy tx snapshot marks) (v ∷ rest) (
      all_always (IsUnseenBy tx snapshot marks v) rest (λ w n e f. let g : stamp.By writer ≡ stamp.Done n = sym (counted_own marks v.stamp writer own open_) ∙ e in (cc)),
      pairs_from (IsUnseenBy tx snapshot marks) rest unseen,
    )
