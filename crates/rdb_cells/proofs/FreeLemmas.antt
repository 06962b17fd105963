-- The lowest free cell among some cells, put together from searches among parts of them.
use Rattle.std.proofs.Common.{◌≡◌, ◌<◌, ◌≤◌, ◌⊎◌, ◌||◌, ◌==◌, ◌+◌, ℕ, zero, suc, List, length, take, get_or, Option, None, Some, [], ◌∷◌, IsSome, IfSome, IfNone, Bool, true, false, cond, inl, inr, refl, sym, ap, subst, ◌∙◌, arith, rules}
use Rattle.std.proofs.lemmas.List.Folds.{list_any_more}
use Rattle.std.proofs.Permutation.{which}
use Rattle.std.proofs.lemmas.Bool.{cases_lt, lt-ltb, le-ltb, eqb-true, false≢true}
use Rattle.rdb_pages.specs.declared.cell.Cell.{Cell}
use Rattle.rdb_pages.specs.declared.cell.CellRef.{CellRef}
use Rattle.rdb_cells.specs.declared.pairs.Pair.{Pair}
use Rattle.rdb_cells.specs.Images.{Image, IsCell, IsFree, IsNextFree}
use Rattle.rdb_cells.specs.Free.{IsLowestAmong, sooner_of}
use Rattle.rdb_cells.specs.Records.{names, content, planned, first_of, first_content, settled, some_names}
use Rattle.rdb_cells.proofs.PairLemmas.{content_unnamed, content_named}
use Rattle.rdb_cells.proofs.SettledLemmas.{settled-other, settled_reads}

module _ (image : Image) (class_of : ℕ → Option ℕ) (of start : ℕ) where
  -- fewer cells were looked at
  pub lowest_of_fewer : (A B : ℕ → Type 0) (r : Option CellRef) → ((n : ℕ) → B n → A n) → IsLowestAmong image class_of of start A r → IsLowestAmong image class_of of start B r
  lowest_of_fewer A B None f h = λ n seen. h n (f n seen)
  lowest_of_fewer A B (Some r) f h = (h.0, h.1, λ n seen. h.2 n (f n seen))

  -- two searches
  pub lowest_of_both : (A B : ℕ → Type 0) (a b : Option CellRef) → IsLowestAmong image class_of of start A a → IsLowestAmong image class_of of start B b → IsLowestAmong image class_of of start (λ n. A n ⊎ B n) (sooner_of a b)
  lowest_of_both A B None None ha hb = λ n seen above. elim seen [ inl x ↦ ha n x above | inr y ↦ hb n y above ]
  lowest_of_both A B None (Some s) ha hb = (hb.0, hb.1, λ n seen above below. elim seen [ inl x ↦ ha n x above | inr y ↦ hb.2 n y above below ])
  lowest_of_both A B (Some r) None ha hb = (ha.0, ha.1, λ n seen above below. elim seen [ inl x ↦ ha.2 n x above below | inr y ↦ hb n y above ])
  lowest_of_both A B (Some r) (Some s) ha hb = elim (cases_lt s.number r.number) [
    | inl lower ↦
        subst (λ (v : Bool). IsLowestAmong image class_of of start (λ n. A n ⊎ B n) (cond v (Some s) (Some r))) (sym (lt-ltb s.number r.number lower))
        (hb.0, hb.1, λ n seen above below. elim seen [ inl x ↦ ha.2 n x above (omega arith) | inr y ↦ hb.2 n y above below ])
    | inr upper ↦
        subst (λ (v : Bool). IsLowestAmong image class_of of start (λ n. A n ⊎ B n) (cond v (Some s) (Some r))) (sym (le-ltb s.number r.number upper))
        (ha.0, ha.1, λ n seen above below. elim seen [ inl x ↦ ha.2 n x above below | inr y ↦ hb.2 n y above (omega arith) ])
  ]

  -- every free cell was looked at
  pub lowest_found : (A : ℕ → Type 0) (r : CellRef) → ((n : ℕ) → IsFree image class_of of n → A n) → IsLowestAmong image class_of of start A (Some r) → IsNextFree image class_of of start r.number
  lowest_found A r all h = record {
    above = h.0;
    free = h.1;
    lowest = λ lower low high free. h.2 lower (all lower free) low high free;
  }

  pub lowest_none : (A : ℕ → Type 0) → ((n : ℕ) → IsFree image class_of of n → A n) → IsLowestAmong image class_of of start A None → (n : ℕ) → start < n → ¬ IsFree image class_of of n
  lowest_none A all h n above free = h n (all n free) above free

or_cases : (a b : Bool) → (a || b) ≡ true → (a ≡ true) ⊎ (b ≡ true)
or_cases true b e = inl refl
or_cases false b e = inr e

left_true : (a b : Bool) → a ≡ true → (a || b) ≡ true
left_true true b e = refl
left_true false b e = absurd (false≢true e)

right_true : (a b : Bool) → b ≡ true → (a || b) ≡ true
right_true true b e = refl
right_true false b e = e

true_or_false : (b : Bool) → (b ≡ true) ⊎ (b ≡ false)
true_or_false true = inl refl
true_or_false false = inr refl

-- a free cell of a plan's reading is one that the plan names, or one that is free below
pub free_when_planned : (ps : List Pair) (image : Image) (class_of : ℕ → Option ℕ) (of n : ℕ) → IsFree (planned ps image) class_of of n → (names ps n ≡ true) ⊎ IsFree image class_of of n
free_when_planned ps image class_of of n free = elim (true_or_false (names ps n)) [
  | inl named ↦ inl named
  | inr unnamed ↦ inr (record {
    zero = sym (ap (λ (o : Option Cell). first_of o (image n)) (content_unnamed ps n unnamed)) ∙ free.zero;
    class = free.class;
    page = free.page;
  })
]

pub cell_when_named : (ps : List Pair) (image : Image) (n : ℕ) → names ps n ≡ true → IsCell (planned ps image) n
cell_when_named ps image n named =
    (elim (content ps n) as (λ (o : Option Cell). IsSome o → IsSome (first_of o (image n))) [ None ↦ λ h. absurd (false≢true h) | Some cell ↦ λ h. search rules ]) (content_named ps n named)

pub cell_when_planned : (ps : List Pair) (image : Image) (n : ℕ) → IsCell image n → IsCell (planned ps image) n
cell_when_planned ps image n there =
    elim (content ps n) as (λ (o : Option Cell). IsSome (first_of o (image n))) [ None ↦ there | Some cell ↦ search rules ]

-- a free cell of the settled image is one that a record names, or one that is free as the cells stand
pub free_when_settled : (rs : List (List Pair)) (image : Image) (class_of : ℕ → Option ℕ) (of n : ℕ) → IsFree (settled rs image) class_of of n → (some_names rs n ≡ true) ⊎ IsFree image class_of of n
free_when_settled rs image class_of of n free = elim (true_or_false (some_names rs n)) [
  | inl named ↦ inl named
  | inr unnamed ↦ inr (record {
    zero = sym (settled-other rs image n unnamed) ∙ free.zero;
    class = free.class;
    page = free.page;
  })
]

-- one more pair was looked at
pub named_step : (ps : List Pair) (i : ℕ) (p : Pair) (n : ℕ) → i < length ps → p ≡ get_or ps i p → names (take (i + 1) ps) n ≡ true → (names (take i ps) n ≡ true) ⊎ (n ≡ p.at.number)
named_step ps i p n h is named =
    elim (or_cases (names (take i ps) n) ((get_or ps i p).at.number == n) (sym (list_any_more (λ (q : Pair). q.at.number == n) ps i p h) ∙ named)) [
      | inl before ↦ inl before
      | inr here ↦ inr (sym (eqb-true (get_or ps i p).at.number n here) ∙ ap (λ (q : Pair). q.at.number) (sym is))
    ]

-- one more record was looked at
pub logged_more : (rs : List (List Pair)) (i : ℕ) (r : List Pair) (n : ℕ) → i < length rs → r ≡ get_or rs i r → some_names (take (i + 1) rs) n ≡ true → (some_names (take i rs) n ≡ true) ⊎ (names r n ≡ true)
logged_more rs i r n h is named =
    elim (or_cases (some_names (take i rs) n) (names (get_or rs i r) n) (sym (list_any_more (λ (q : List Pair). names q n) rs i r h) ∙ named)) [
      | inl before ↦ inl before
      | inr here ↦ inr (ap (λ (q : List Pair). names q n) is ∙ here)
    ]

module _ (image : Image) (class_of : ℕ → Option ℕ) (of start : ℕ) where
  pub found_lowest : (r : Option CellRef) → IsLowestAmong image class_of of start (IsFree image class_of of) r → IfSome r (λ s. IsNextFree image class_of of start s.number)
  found_lowest None h = search rules
  found_lowest (Some s) h = lowest_found image class_of of start (IsFree image class_of of) s (λ n free. free) h

  pub none_lowest : (r : Option CellRef) → IsLowestAmong image class_of of start (IsFree image class_of of) r → IfNone r ((n : ℕ) → start < n → ¬ IsFree image class_of of n)
  none_lowest None h = λ n above free. h n free above free
  none_lowest (Some s) h = search rules

-- the searches in a plan and below it, put together
pub planned_lowest : (ps : List Pair) (image : Image) (class_of : ℕ → Option ℕ) (of start : ℕ) (a b r : Option CellRef) → IsLowestAmong (planned ps image) class_of of start (λ n. names ps n ≡ true) a → IsLowestAmong (planned ps image) class_of of start (IsFree image class_of of) b → r ≡ sooner_of a b → IsLowestAmong (planned ps image) class_of of start (IsFree (planned ps image) class_of of) r
planned_lowest ps image class_of of start a b r ha hb is =
    subst (λ (s : Option CellRef). IsLowestAmong (planned ps image) class_of of start (IsFree (planned ps image) class_of of) s) (sym is)
    (lowest_of_fewer (planned ps image) class_of of start (λ n. (names ps n ≡ true) ⊎ IsFree image class_of of n) (IsFree (planned ps image) class_of of) (sooner_of a b)
    (λ n free. free_when_planned ps image class_of of n free)
    (lowest_of_both (planned ps image) class_of of start (λ n. names ps n ≡ true) (IsFree image class_of of) a b ha hb))

-- the searches in undo records and in the cells as they stand, put together
pub settled_lowest : (rs : List (List Pair)) (image : Image) (class_of : ℕ → Option ℕ) (of start : ℕ) (a b r : Option CellRef) → IsLowestAmong (settled rs image) class_of of start (λ n. some_names rs n ≡ true) a → IsLowestAmong (settled rs image) class_of of start (IsFree image class_of of) b → r ≡ sooner_of a b → IsLowestAmong (settled rs image) class_of of start (IsFree (settled rs image) class_of of) r
settled_lowest rs image class_of of start a b r ha hb is =
    subst (λ (s : Option CellRef). IsLowestAmong (settled rs image) class_of of start (IsFree (settled rs image) class_of of) s) (sym is)
    (lowest_of_fewer (settled rs image) class_of of start (λ n. (some_names rs n ≡ true) ⊎ IsFree image class_of of n) (IsFree (settled rs image) class_of of) (sooner_of a b)
    (λ n free. free_when_settled rs image class_of of n free)
    (lowest_of_both (settled rs image) class_of of start (λ n. some_names rs n ≡ true) (IsFree image class_of of) a b ha hb))

pub cell_when_free : (image : Image) (class_of : ℕ → Option ℕ) (of n : ℕ) → IsFree image class_of of n → IsCell image n
cell_when_free image class_of of n free = subst (λ (o : Option Cell). IsSome o) (sym free.zero) (search rules)

-- a record that names a cell has its content
pub content_when_logged : (rs : List (List Pair)) (n : ℕ) → some_names rs n ≡ true → IsSome (first_content rs n)
content_when_logged [] n e = cc
content_when_logged (r ∷ rs) n e = elim (or_cases (names r n) (some_names rs n) e) [
  | inl here ↦ (elim (content r n) as (λ (o : Option Cell). IsSome o → IsSome (first_of o (first_content rs n))) [ None ↦ λ h. absurd (false≢true h) | Some cell ↦ λ h. search rules ]) (content_named r n here)
  | inr later ↦ elim (content r n) as (λ (o : Option Cell). IsSome (first_of o (first_content rs n))) [ None ↦ content_when_logged rs n later | Some cell ↦ search rules ]
]

pub cell_when_logged : (rs : List (List Pair)) (image : Image) (n : ℕ) → some_names rs n ≡ true → IsCell (settled rs image) n
cell_when_logged rs image n named =
    subst (λ (o : Option Cell). IsSome o) (sym (settled_reads rs image n))
    ((elim (first_content rs n) as (λ (o : Option Cell). IsSome o → IsSome (first_of o (image n))) [ None ↦ λ h. absurd (false≢true h) | Some cell ↦ λ h. search rules ]) (content_when_logged rs n named))

-- a cell that one of the records names
pub named_in : (rs : List (List Pair)) (i : ℕ) (r : List Pair) (n : ℕ) → i < length rs → r ≡ get_or rs i r → names r n ≡ true → some_names rs n ≡ true
named_in [] i r n h is named = absurd (omega arith)
named_in (q ∷ rs) zero r n h is named = left_true (names q n) (some_names rs n) (sym (ap (λ (p : List Pair). names p n) is) ∙ named)
named_in (q ∷ rs) (suc i) r n h is named = right_true (names q n) (some_names rs n) (named_in rs i r n (omega arith) is named)

-- how far a search below has come: of the cells up to `last` that are free there, none is free above
module _ (seen below : Image) (class_of below_class : ℕ → Option ℕ) (of start : ℕ) where
  pub record HasPassed (last : ℕ) : Type 0 where
    pub from : start ≤ last
    pub none : (n : ℕ) → start < n → n ≤ last → IsFree below below_class of n → ¬ IsFree seen class_of of n

  pub passed-init : HasPassed start
  passed-init = record {
    from = omega arith;
    none = λ n low high. absurd (omega arith);
  }

  pub passed-step : (last next : ℕ) → HasPassed last → IsNextFree below below_class of last next → ¬ IsFree seen class_of of next → HasPassed next
  passed-step last next so_far is_next filled =
      let from = so_far.from in
      let above = is_next.above in
      record {
        from = omega arith;
        none = λ n low high free. elim (cases_lt last n) [
          | inl later ↦ elim (which n next) [
            | inl same ↦ subst (λ (k : ℕ). ¬ IsFree seen class_of of k) (sym same) filled
            | inr apart ↦ absurd (is_next.lowest n later (omega arith) free)
          ]
          | inr before ↦ so_far.none n low before free
        ];
      }

  pub passed-found : (last : ℕ) (next : CellRef) → HasPassed last → IsNextFree below below_class of last next.number → IsFree seen class_of of next.number → IsLowestAmong seen class_of of start (IsFree below below_class of) (Some next)
  passed-found last next so_far is_next free =
      let from = so_far.from in
      let above = is_next.above in (
        omega arith,
        free,
        λ n free_below low high. elim (cases_lt last n) [
          | inl later ↦ absurd (is_next.lowest n later high free_below)
          | inr before ↦ so_far.none n low before free_below
        ],
      )

  pub passed-none : (last : ℕ) → HasPassed last → ((n : ℕ) → last < n → ¬ IsFree below below_class of n) → IsLowestAmong seen class_of of start (IsFree below below_class of) None
  passed-none last so_far none = λ n free_below low. elim (cases_lt last n) [
    | inl later ↦ absurd (none n later free_below)
    | inr before ↦ so_far.none n low before free_below
  ]
