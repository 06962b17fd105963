-- What a list answers with one object more, on which the answer doesn't rest.
use Rattle.std.proofs.Common.{◌≡◌, ℕ, ◌+◌, Bool, true, false, ◌&&◌, ◌||◌, ◌⊎◌, inl, inr, cond, not, List, [], ◌∷◌, ◌++◌, length, max, Option, Some, None, nat_eq, nat_lt, refl, ap, ◌∙◌, arith, if◌then◌else◌, filter, find}
use Rattle.std.specs.Option.{option_map, option_map_or, option_or}
use Rattle.std.specs.Ordering.{ordering_then, nat_cmp, is_lt, is_gt}
use Rattle.std.specs.declared.cmp.Ordering.{Ordering}
use Rattle.std.specs.declared.cmp.Ordering.TheVariants.{Less, Equal, Greater}
use Rattle.std.proofs.lemmas.Cmp.{tied_itself}
use Rattle.rdb_base.specs.declared.operation.Place.{Place}
use Rattle.rdb_base.specs.declared.operation.How.TheVariants as how
use Rattle.rdb_base.specs.declared.operation.Reply.{Reply}
use Rattle.rdb_base.specs.declared.operation.Reply.TheVariants as reply
use Rattle.rdb_base.specs.Order.{row_order}
use Rattle.rdb_schema.specs.declared.schema.IndexDecl.{IndexDecl}
use Rattle.rdb_model.specs.Database.{Row, Objects, row_of}
use Rattle.rdb_model.specs.Index.{key, has_key, pair_order, with_pair, pair_of, index}
use Rattle.rdb_model.specs.Answer.{holder, clash, is_beyond, sought, prefix_length, words_of, longest_prefix}
use Rattle.rdb_model.specs.Seek.{takes}
use Rattle.rdb_model.specs.Touch.{shares_key, is_within, relates}
use Rattle.rdb_model.proofs.SeekLemmas.{pair_order_total, better, sought_more}

-- a disjunction that fails fails in each part
pub first_fails : (a b : Bool) → (a || b) ≡ false → a ≡ false
first_fails true b e = (cc)
first_fails false b e = refl

pub second_fails : (a b : Bool) → (a || b) ≡ false → b ≡ false
second_fails true b e = (cc)
second_fails false b e = e

-- an element that fails a test is passed over
pub filter_lacks : {A : Type 0} (test : A → Bool) (front back : List A) (p : A) → test p ≡ false → filter test (front ++ p ∷ back) ≡ filter test (front ++ back)
filter_lacks test [] back p fails = rw fails refl
filter_lacks test (o ∷ front) back p fails = ap (λ l. cond (test o) (o ∷ l) l) (filter_lacks test front back p fails)

pub find_lacks : {A : Type 0} (test : A → Bool) (front back : List A) (p : A) → test p ≡ false → find test (front ++ p ∷ back) ≡ find test (front ++ back)
find_lacks test [] back p fails = rw fails refl
find_lacks test (o ∷ front) back p fails = ap (λ l. cond (test o) (Some o) l) (find_lacks test front back p fails)

-- the row of another id
pub row_of_lacks : (front back : Objects) (p : ℕ × Row) (id : ℕ) → nat_eq p.0 id ≡ false → row_of (front ++ p ∷ back) id ≡ row_of (front ++ back) id
row_of_lacks [] back p id differs = rw differs refl
row_of_lacks (o ∷ front) back p id differs = ap (λ r. cond (nat_eq o.0 id) (Some o.1) r) (row_of_lacks front back p id differs)

-- a row that shares no unique key makes no clash
pub clash_lacks : (indexes : List IndexDecl) (first : ℕ) (row : Row) (front back : Objects) (p : ℕ × Row) → shares_key indexes row p.1 ≡ false → clash indexes first row (front ++ p ∷ back) ≡ clash indexes first row (front ++ back)
clash_lacks [] first row front back p fails = refl
clash_lacks (i ∷ is) first row front back p fails =
    let here : (i.unique && has_key i.key (key i.key row) p.1) ≡ false = first_fails (i.unique && has_key i.key (key i.key row) p.1) (shares_key is row p.1) fails in
    let there : shares_key is row p.1 ≡ false = second_fails (i.unique && has_key i.key (key i.key row) p.1) (shares_key is row p.1) fails in
    ap (λ h. option_or h (clash is (first + 1) row (front ++ p ∷ back))) (go i.unique here)
    ∙ ap (λ h. option_or (if i.unique then option_map {U = ℕ × ℕ} (λ id. (first, id)) (holder i.key row (front ++ back)) else None) h) (clash_lacks is (first + 1) row front back p there)
  where
    go : (u : Bool) → (u && has_key i.key (key i.key row) p.1) ≡ false → cond u (option_map {U = ℕ × ℕ} (λ id. (first, id)) (holder i.key row (front ++ p ∷ back))) None ≡ cond u (option_map {U = ℕ × ℕ} (λ id. (first, id)) (holder i.key row (front ++ back))) None
    go true fails = ap (λ f. option_map {U = ℕ × ℕ} (λ id. (first, id)) (option_map (λ o. o.0) f)) (find_lacks (λ o. has_key i.key (key i.key row) o.1) front back p fails)
    go false fails = refl

-- a text that isn't a prefix has no length as one
no_prefix : (text : List ℕ) (words : Option (List ℕ)) → option_map_or (relates how.Longest text) words false ≡ false → option_map_or (prefix_length text) words 0 ≡ 0
no_prefix text None fails = refl
no_prefix text (Some words) fails = ap (λ b. cond b (length words) 0) fails

pub longest_lacks : (fields text : List ℕ) (front back : Objects) (p : ℕ × Row) → option_map_or (relates how.Longest text) (words_of (key fields p.1)) false ≡ false → longest_prefix fields text (front ++ p ∷ back) ≡ longest_prefix fields text (front ++ back)
longest_lacks fields text [] back p fails =
    let none : option_map_or (prefix_length text) (words_of (key fields p.1)) 0 ≡ 0 = no_prefix text (words_of (key fields p.1)) fails in
    ap (λ n. max n (longest_prefix fields text back)) none ∙ from_none (longest_prefix fields text back)
  where
    from_none : (n : ℕ) → max 0 n ≡ n
    from_none n = omega arith
longest_lacks fields text (o ∷ front) back p fails = ap (max (option_map_or (prefix_length text) (words_of (key fields o.1)) 0)) (longest_lacks fields text front back p fails)

-- pairs of different ids have an order
then_equal : (a b : Ordering) → ordering_then a b ≡ Equal → b ≡ Equal
then_equal Less b e = (cc)
then_equal Equal b e = e
then_equal Greater b e = (cc)

ids_equal : (a b : ℕ) → nat_cmp a b ≡ Equal → nat_eq a b ≡ true
ids_equal a b e = go (nat_lt a b) (nat_eq a b) e
  where
    go : (l s : Bool) → cond l Less (cond s Equal Greater) ≡ Equal → s ≡ true
    go true s e = (cc)
    go false true e = refl
    go false false e = (cc)

one_way : (p q : Row × ℕ) → nat_eq p.1 q.1 ≡ false → is_lt (pair_order q p) ≡ not (is_lt (pair_order p q))
one_way p q differs = go (pair_order p q) refl
  where
    go : (o : Ordering) → pair_order p q ≡ o → is_lt (pair_order q p) ≡ not (is_lt (pair_order p q))
    go Less e = rw (pair_order_total.antisymm q p, e) refl
    go Equal e =
        let same : nat_eq p.1 q.1 ≡ true = ids_equal p.1 q.1 (then_equal (row_order p.0 q.0) (nat_cmp p.1 q.1) e) in
        (cc)
    go Greater e = rw (pair_order_total.antisymm q p, e) refl

is_less : (o : Ordering) → is_lt o ≡ true → o ≡ Less
is_less Less e = refl
is_less Equal e = (cc)
is_less Greater e = (cc)

below_all : (p q r : Row × ℕ) → is_lt (pair_order p q) ≡ true → is_lt (pair_order q r) ≡ true → is_lt (pair_order p r) ≡ true
below_all p q r e f = ap is_lt (pair_order_total.trans p q r (is_less (pair_order p q) e) (is_less (pair_order q r) f))

-- two pairs go into an index in either order
commute : (p q : Row × ℕ) (ps : List (Row × ℕ)) → is_lt (pair_order q p) ≡ not (is_lt (pair_order p q)) → with_pair p (with_pair q ps) ≡ with_pair q (with_pair p ps)
commute p q [] turn = go (is_lt (pair_order p q)) refl turn
  where
    go : (c : Bool) → is_lt (pair_order p q) ≡ c → is_lt (pair_order q p) ≡ not c → with_pair p (q ∷ []) ≡ with_pair q (p ∷ [])
    go true e f = rw (e, f) refl
    go false e f = rw (e, f) refl
commute p q (r ∷ rs) turn = go (commute p q rs turn) (is_lt (pair_order p r)) (is_lt (pair_order q r)) (is_lt (pair_order p q)) refl refl refl turn
  where
    go : with_pair p (with_pair q rs) ≡ with_pair q (with_pair p rs) → (a b c : Bool) → is_lt (pair_order p r) ≡ a → is_lt (pair_order q r) ≡ b → is_lt (pair_order p q) ≡ c → is_lt (pair_order q p) ≡ not c → with_pair p (cond b (q ∷ r ∷ rs) (r ∷ with_pair q rs)) ≡ with_pair q (cond a (p ∷ r ∷ rs) (r ∷ with_pair p rs))
    go rest true true true e f g h = rw (g, h, f) refl
    go rest true true false e f g h = rw (g, h, e) refl
    go rest true false true e f g h = rw (e, h, f) refl
    go rest true false false e f g h = let lt = below_all q p r h e in (cc)
    go rest false true true e f g h = let lt = below_all p q r g f in (cc)
    go rest false true false e f g h = rw (g, e, f) refl
    go rest false false c e f g h = rw (e, f) (ap (λ l. r ∷ l) rest)

-- an index has the pair of the object that stands among the others
pub index_lacks : (fields : List ℕ) (front back : Objects) (p : ℕ × Row) → row_of front p.0 ≡ None → index fields (front ++ p ∷ back) ≡ index fields (p ∷ (front ++ back))
index_lacks fields [] back p none = refl
index_lacks fields (o ∷ front) back p none = go (nat_eq o.0 p.0) refl (index_lacks fields front back p) none
  where
    go : (b : Bool) → nat_eq o.0 p.0 ≡ b → (row_of front p.0 ≡ None → index fields (front ++ p ∷ back) ≡ index fields (p ∷ (front ++ back))) → cond b (Some o.1) (row_of front p.0) ≡ None → index fields ((o ∷ front) ++ p ∷ back) ≡ index fields (p ∷ ((o ∷ front) ++ back))
    go true e rest none = (cc)
    go false e rest none =
        ap (with_pair (pair_of fields o)) (rest none)
        ∙ commute (pair_of fields o) (pair_of fields p) (index fields (front ++ back)) (one_way (pair_of fields o) (pair_of fields p) e)

-- what a seek is told
abbrev pub told_at : Option (Row × ℕ) → Reply
told_at found = option_map_or (λ pair. reply.At pair.0 pair.1) found reply.End

within_itself : (up : Bool) (p : Row × ℕ) → is_within up (reply.At p.0 p.1) p ≡ true
within_itself true p = rw (tied_itself pair_order_total p) refl
within_itself false p = rw (tied_itself pair_order_total p) refl

not_greater : (o : Ordering) → is_lt o ≡ true → not (is_gt o) ≡ true
not_greater Less e = refl
not_greater Equal e = refl
not_greater Greater e = (cc)

within_end : (up : Bool) (p : Row × ℕ) → is_within up reply.End p ≡ true
within_end true p = refl
within_end false p = refl

-- a pair that would take the place of the best is within what the best reaches
taken_within : (up : Bool) (p : Row × ℕ) (best : Option (Row × ℕ)) → takes up p best ≡ true → is_within up (told_at best) p ≡ true
taken_within up p None taken = within_end up p
taken_within true p (Some r) taken = not_greater (pair_order p r) taken
taken_within false p (Some r) taken = taken

-- a pair that isn't within what was found doesn't change what is sought
pub better_lacks : (from : Place) (up : Bool) (p : Row × ℕ) (best : Option (Row × ℕ)) (told : Reply) → (is_beyond from up p && is_within up told p) ≡ false → (told ≡ told_at (better from up p best)) ⊎ (told ≡ told_at best) → better from up p best ≡ best
better_lacks from up p best told fails is = go (is_beyond from up p) (takes up p best) refl refl is fails
  where
    go : (b t : Bool) → is_beyond from up p ≡ b → takes up p best ≡ t → (told ≡ told_at (cond (b && t) (Some p) best)) ⊎ (told ≡ told_at best) → (b && is_within up told p) ≡ false → better from up p best ≡ best
    go false t e f is fails = rw e refl
    go true false e f is fails = rw (e, f) refl
    go true true e f (inl is) fails = let within = within_itself up p in let there : is_within up told p ≡ true = ap (λ t. is_within up t p) is ∙ within in (cc)
    go true true e f (inr is) fails = let there : is_within up told p ≡ true = ap (λ t. is_within up t p) is ∙ taken_within up p best f in (cc)

-- what is sought among the objects and one more
pub sought_first : (from : Place) (up : Bool) (fields : List ℕ) (o : ℕ × Row) (os : Objects) → sought from up (index fields (o ∷ os)) ≡ better from up (pair_of fields o) (sought from up (index fields os))
sought_first from up fields o os = sought_more from up fields (o ∷ os) 0 o (omega arith) refl

pub sought_lacks : (from : Place) (up : Bool) (fields : List ℕ) (front back : Objects) (p : ℕ × Row) (told : Reply) → row_of front p.0 ≡ None → (is_beyond from up (pair_of fields p) && is_within up told (pair_of fields p)) ≡ false → (told ≡ told_at (sought from up (index fields (front ++ p ∷ back)))) ⊎ (told ≡ told_at (sought from up (index fields (front ++ back)))) → sought from up (index fields (front ++ p ∷ back)) ≡ sought from up (index fields (front ++ back))
sought_lacks from up fields front back p told none fails is =
    let whole : sought from up (index fields (front ++ p ∷ back)) ≡ better from up (pair_of fields p) (sought from up (index fields (front ++ back))) =
    ap (sought from up) (index_lacks fields front back p none) ∙ sought_first from up fields p (front ++ back) in
    whole ∙ better_lacks from up (pair_of fields p) (sought from up (index fields (front ++ back))) told fails (turn whole is)
  where
    turn : sought from up (index fields (front ++ p ∷ back)) ≡ better from up (pair_of fields p) (sought from up (index fields (front ++ back))) → (told ≡ told_at (sought from up (index fields (front ++ p ∷ back)))) ⊎ (told ≡ told_at (sought from up (index fields (front ++ back)))) → (told ≡ told_at (better from up (pair_of fields p) (sought from up (index fields (front ++ back))))) ⊎ (told ≡ told_at (sought from up (index fields (front ++ back))))
    turn whole (inl is) = inl (is ∙ ap told_at whole)
    turn whole (inr is) = inr is
