-- What taking back leaves of an image, cell by cell.
use Rattle.std.proofs.Common.{IsSome, rules, ◌<◌, ◌+◌, zero, suc, length, map, drop, get_or, add-one, drop-cons, ◌≡◌, ◌≢◌, ◌||◌, ◌==◌, ℕ, List, [], ◌∷◌, ◌++◌, Option, Some, None, Bool, true, false, refl, sym, ap, ◌∙◌, arith, cond, inl, inr, subst, eq-eqb, ◌⊎◌}
use Rattle.std.proofs.lemmas.Bool.{ne_eqb}
use Rattle.std.proofs.lemmas.List.{length-map}
use Rattle.std.proofs.Permutation.{which}
use Rattle.std.specs.List.{list_any, find}
use Rattle.std.specs.Option.{option_map}
use Rattle.rdb_pages.specs.declared.cell.Cell.{Cell}
use Rattle.rdb_cells.specs.declared.pairs.Pair.{Pair}
use Rattle.rdb_cells.specs.Images.{IsCell, Image, Writes}
use Rattle.rdb_cells.specs.Records.{names, with_pair, taken_back, settled, NoneNames, KeepsSettled, Record, Logs, content, first_of, first_content}

neither : (a b : Bool) → (a || b) ≡ false → (a ≡ false) × (b ≡ false)
neither true b e = cc
neither false b e = (refl, e)

pub true_or_false : (b : Bool) → (b ≡ true) ⊎ (b ≡ false)
true_or_false true = inl refl
true_or_false false = inr refl

-- where the images agree at a cell, they agree there after a taking back
pub taken_back-same : (ps : List Pair) (a b : Image) (n : ℕ) → a n ≡ b n → taken_back ps a n ≡ taken_back ps b n
taken_back-same [] a b n e = e
taken_back-same (p ∷ ps) a b n e = ap (λ (o : Option Cell). cond (p.at.number == n) (Some p.cell) o) (taken_back-same ps a b n e)

-- a cell that the record names is set by it alone
pub taken_back-named : (ps : List Pair) (a b : Image) (n : ℕ) → names ps n ≡ true → taken_back ps a n ≡ taken_back ps b n
taken_back-named [] a b n e = cc
taken_back-named (p ∷ ps) a b n e =
    (elim (p.at.number == n) as (λ (v : Bool). (v || names ps n) ≡ true → cond v (Some p.cell) (taken_back ps a n) ≡ cond v (Some p.cell) (taken_back ps b n)) [
      | true ↦ λ _. refl
      | false ↦ λ h. taken_back-named ps a b n h
    ]) e

-- a cell that it doesn't name stays
pub taken_back-other : (ps : List Pair) (image : Image) (n : ℕ) → names ps n ≡ false → taken_back ps image n ≡ image n
taken_back-other [] image n e = refl
taken_back-other (p ∷ ps) image n e =
    (elim (p.at.number == n) as (λ (v : Bool). (v || names ps n) ≡ false → cond v (Some p.cell) (taken_back ps image n) ≡ image n) [
      | true ↦ λ h. cc
      | false ↦ λ h. taken_back-other ps image n h
    ]) e

-- newest first: what stands last in a record is taken back before the rest
pub taken_back-append : (ps qs : List Pair) (image : Image) (n : ℕ) → taken_back (ps ++ qs) image n ≡ taken_back ps (taken_back qs image) n
taken_back-append [] qs image n = refl
taken_back-append (p ∷ ps) qs image n = ap (λ (o : Option Cell). cond (p.at.number == n) (Some p.cell) o) (taken_back-append ps qs image n)

pub settled-append : (rs ss : List (List Pair)) (image : Image) (n : ℕ) → settled (rs ++ ss) image n ≡ settled rs (settled ss image) n
settled-append [] ss image n = refl
settled-append (r ∷ rs) ss image n = taken_back-same r (settled (rs ++ ss) image) (settled rs (settled ss image)) n (settled-append rs ss image n)

pub settled-same : (rs : List (List Pair)) (a b : Image) (n : ℕ) → a n ≡ b n → settled rs a n ≡ settled rs b n
settled-same [] a b n e = e
settled-same (r ∷ rs) a b n e = taken_back-same r (settled rs a) (settled rs b) n (settled-same rs a b n e)

pub settled-other : (rs : List (List Pair)) (image : Image) (n : ℕ) → NoneNames rs n → settled rs image n ≡ image n
settled-other [] image n none = refl
settled-other (r ∷ rs) image n none =
    let both = neither (names r n) (list_any (λ (q : List Pair). names q n) rs) none in
    taken_back-other r (settled rs image) n both.0 ∙ settled-other rs image n both.1

module _ (own_before own_after : List Pair) (before after : Image) (m : ℕ) where
  -- what the other records need to know of a step on the own record and one cell: there the own record gives what it gave,
  -- and elsewhere it and the image are as they were
  pub keeps_settled : ((rest_before rest_after : Image) → rest_before m ≡ before m → rest_after m ≡ after m → taken_back own_after rest_after m ≡ taken_back own_before rest_before m) →
      ((rest_before rest_after : Image) (n : ℕ) → n ≢ m → rest_after n ≡ rest_before n → taken_back own_after rest_after n ≡ taken_back own_before rest_before n) →
      ((n : ℕ) → n ≢ m → after n ≡ before n) →
      KeepsSettled own_before own_after before after m
  keeps_settled at_cell at_others others = record {
    seen = λ older newer none_older none_newer n.
        settled-append newer (own_after ∷ older) after n
        ∙ elim (which n m) [
          | inl same ↦
              settled-same newer (taken_back own_after (settled older after)) (taken_back own_before (settled older before)) n
              (subst (λ (k : ℕ). taken_back own_after (settled older after) k ≡ taken_back own_before (settled older before) k) (sym same)
              (at_cell (settled older before) (settled older after) (settled-other older before m none_older) (settled-other older after m none_older)))
          | inr different ↦
              settled-same newer (taken_back own_after (settled older after)) (taken_back own_before (settled older before)) n
              (at_others (settled older before) (settled older after) n different (settled-same older after before n (others n different)))
        ]
        ∙ sym (settled-append newer (own_before ∷ older) before n);
  }

-- a pair of another cell
with_pair-other : (p : Pair) (image : Image) (n : ℕ) → n ≢ p.at.number → with_pair p image n ≡ image n
with_pair-other p image n ne = ap (λ (b : Bool). cond b (Some p.cell) (image n)) (ne_eqb p.at.number n (λ e. ne (sym e)))

with_pair-same : (p : Pair) (image : Image) (n : ℕ) → p.at.number ≡ n → with_pair p image n ≡ Some p.cell
with_pair-same p image n e = ap (λ (b : Bool). cond b (Some p.cell) (image n)) (eq-eqb p.at.number n e)

-- a logged write
again_keeps : (own : List Pair) (before after : Image) (m : ℕ) (cell : Cell) → names own m ≡ true → Writes before after m cell → KeepsSettled own own before after m
again_keeps own before after m cell named w =
    keeps_settled own own before after m
    (λ rest_before rest_after _ _. taken_back-named own rest_after rest_before m named)
    (λ rest_before rest_after n _ e. taken_back-same own rest_after rest_before n e)
    w.elsewhere

first_keeps : (own : List Pair) (p : Pair) (before after : Image) (m : ℕ) (cell : Cell) → names own m ≡ false → p.at.number ≡ m → before m ≡ Some p.cell → Writes before after m cell → KeepsSettled own (own ++ p ∷ []) before after m
first_keeps own p before after m cell unnamed of was w =
    keeps_settled own (own ++ p ∷ []) before after m
    (λ rest_before rest_after e _.
    taken_back-append own (p ∷ []) rest_after m
    ∙ taken_back-other own (with_pair p rest_after) m unnamed
    ∙ with_pair-same p rest_after m of
    ∙ sym was
    ∙ sym e
    ∙ sym (taken_back-other own rest_before m unnamed))
    (λ rest_before rest_after n ne e.
    taken_back-append own (p ∷ []) rest_after n
    ∙ taken_back-same own (with_pair p rest_after) rest_before n (with_pair-other p rest_after n (λ s. ne (s ∙ of)) ∙ e))
    w.elsewhere

pub log_keeps : (b a : Record) (before after : Image) (m : ℕ) (cell : Cell) → Logs b a before m → Writes before after m cell → KeepsSettled b.pairs a.pairs before after m
log_keeps b a before after m cell logs w = elim (true_or_false (names b.pairs m)) [
  | inl named ↦ subst (λ (r : Record). KeepsSettled b.pairs r.pairs before after m) (sym (logs.again named)) (again_keeps b.pairs before after m cell named w)
  | inr unnamed ↦
      let made = logs.first unnamed in
      subst (λ (r : Record). KeepsSettled b.pairs r.pairs before after m) (sym made.3) (first_keeps b.pairs made.0 before after m cell unnamed made.1 made.2 w)
]

-- a taking back
pub back_keeps : (ps : List Pair) (p : Pair) (before after : Image) → Writes before after p.at.number p.cell → KeepsSettled (ps ++ p ∷ []) ps before after p.at.number
back_keeps ps p before after w =
    keeps_settled (ps ++ p ∷ []) ps before after p.at.number
    (λ rest_before rest_after _ e.
    taken_back-same ps rest_after (with_pair p rest_before) p.at.number (e ∙ w.here ∙ sym (with_pair-same p rest_before p.at.number refl))
    ∙ sym (taken_back-append ps (p ∷ []) rest_before p.at.number))
    (λ rest_before rest_after n ne e.
    taken_back-same ps rest_after (with_pair p rest_before) n (e ∙ sym (with_pair-other p rest_before n ne))
    ∙ sym (taken_back-append ps (p ∷ []) rest_before n))
    w.elsewhere

-- a look-up in a record, or behind it
taken_back_reads : (ps : List Pair) (image : Image) (n : ℕ) → taken_back ps image n ≡ first_of (content ps n) (image n)
taken_back_reads [] image n = refl
taken_back_reads (p ∷ ps) image n =
    elim (p.at.number == n) as (λ (b : Bool). cond b (Some p.cell) (taken_back ps image n) ≡ first_of (option_map (λ (q : Pair). q.cell) (cond b (Some p) (find (λ (q : Pair). q.at.number == n) ps))) (image n)) [
      | true ↦ refl
      | false ↦ taken_back_reads ps image n
    ]

first_of_first : (a b c : Option Cell) → first_of (first_of a b) c ≡ first_of a (first_of b c)
first_of_first None b c = refl
first_of_first (Some x) b c = refl

pub settled_reads : (rs : List (List Pair)) (image : Image) (n : ℕ) → settled rs image n ≡ first_of (first_content rs n) (image n)
settled_reads [] image n = refl
settled_reads (r ∷ rs) image n =
    taken_back_reads r (settled rs image) n
    ∙ ap (first_of (content r n)) (settled_reads rs image n)
    ∙ sym (first_of_first (content r n) (first_content rs n) (image n))

pub settled_some : (rs : List (List Pair)) (image : Image) (n : ℕ) (cell : Cell) → Some cell ≡ first_content rs n → settled rs image n ≡ Some cell
settled_some rs image n cell e = settled_reads rs image n ∙ ap (λ (o : Option Cell). first_of o (image n)) (sym e)

pub settled_none : (rs : List (List Pair)) (image : Image) (n : ℕ) → None ≡ first_content rs n → settled rs image n ≡ image n
settled_none rs image n e = settled_reads rs image n ∙ ap (λ (o : Option Cell). first_of o (image n)) (sym e)

-- the records from one place on
first_step : (xs : List (List Pair)) (i n : ℕ) (r : List Pair) → i < length xs → r ≡ get_or xs i r → first_content (drop i xs) n ≡ first_of (content r n) (first_content (drop (i + 1) xs) n)
first_step xs i n r h e =
    rw (add-one, drop-cons xs i r) (ap (λ (q : List Pair). first_of (content q n) (first_content (drop (suc i) xs) n)) (sym e))

module _ {A : Type 0} (f : A → List Pair) where
  pub item : (ys : List A) (i : ℕ) (d : A) → i < length ys → d ≡ get_or ys i d → f d ≡ get_or (map f ys) i (f d)
  item [] i d h e = absurd (omega arith)
  item (y ∷ ys) zero d h e = ap f e
  item (y ∷ ys) (suc i) d h e = item ys i d (omega arith) e

  pub logged_step : (ys : List A) (i n : ℕ) (d : A) → i < length ys → d ≡ get_or ys i d → first_content (map f ys) n ≡ first_content (drop i (map f ys)) n → first_content (map f ys) n ≡ first_of (content (f d) n) (first_content (drop (i + 1) (map f ys)) n)
  logged_step ys i n d h e inv = inv ∙ first_step (map f ys) i n (f d) (rw length-map h) (item ys i d h e)

  pub logged_some : (ys : List A) (i n : ℕ) (d : A) (cell : Cell) → i < length ys → d ≡ get_or ys i d → first_content (map f ys) n ≡ first_content (drop i (map f ys)) n → Some cell ≡ content (f d) n → Some cell ≡ first_content (map f ys) n
  logged_some ys i n d cell h e inv is =
      ap (λ (o : Option Cell). first_of o (first_content (drop (i + 1) (map f ys)) n)) is ∙ sym (logged_step ys i n d h e inv)

  pub logged_none : (ys : List A) (i n : ℕ) (d : A) → i < length ys → d ≡ get_or ys i d → first_content (map f ys) n ≡ first_content (drop i (map f ys)) n → content (f d) n ≡ None → first_content (map f ys) n ≡ first_content (drop (i + 1) (map f ys)) n
  logged_none ys i n d h e inv is =
      logged_step ys i n d h e inv ∙ ap (λ (o : Option Cell). first_of o (first_content (drop (i + 1) (map f ys)) n)) is

-- a cell stays one when records are taken back
pub settled_cell : (rs : List (List Pair)) (image : Image) (n : ℕ) → IsCell image n → IsCell (settled rs image) n
settled_cell rs image n there =
    let P : Option Cell → Type 0 = λ o. IsSome o in
    subst P (sym (settled_reads rs image n))
    (elim (first_content rs n) as (λ (o : Option Cell). P (first_of o (image n))) [ None ↦ there | Some cell ↦ search rules ])

-- where no other record has a pair of a cell, one record settles it
pub settled_by_one : (older newer : List (List Pair)) (own : List Pair) (image : Image) (n : ℕ) → NoneNames older n → NoneNames newer n → settled (newer ++ own ∷ older) image n ≡ settled (own ∷ []) image n
settled_by_one older newer own image n none_older none_newer =
    settled-append newer (own ∷ older) image n
    ∙ settled-other newer (settled (own ∷ older) image) n none_newer
    ∙ taken_back-same own (settled older image) image n (settled-other older image n none_older)

-- a write of a cell that no record names is that write of the settled image
pub settled_write : (rs : List (List Pair)) (before after : Image) (n : ℕ) (cell : Cell) → NoneNames rs n → Writes before after n cell → Writes (settled rs before) (settled rs after) n cell
settled_write rs before after n cell none writes = record {
  here = settled-other rs after n none ∙ writes.here;
  elsewhere = λ other apart. settled-same rs after before other (writes.elsewhere other apart);
}
