-- Work on a plan: what a put and a take leave of the cells that can be taken, and of what the plan says.
use Rattle.std.proofs.Common.{◌≡◌, ◌≢◌, ◌<◌, ◌≤◌, ◌+◌, ◌↔◌, ◌⊎◌, ◌++◌, zero, suc, ℕ, List, [], ◌∷◌, length, length-append, cond, slice_get, slice_index, Option, Some, None, is_some, Bool, true, false, inl, inr, refl, sym, ap, subst, ◌∙◌, arith, rules, nat_cmp}
use Rattle.std.proofs.lemmas.Bool.{cases_lt, false≢true}
use Rattle.std.proofs.lemmas.List.{length-map}
use Rattle.std.proofs.lemmas.Map.Keys.{sorted_tail, below_from_sorted}
use Rattle.std.proofs.Permutation.{which}
use Rattle.std.specs.List.Sorted.{IsStrictlySortedBy}
use Rattle.rdb_pages.specs.declared.cell.Cell.{Cell}
use Rattle.rdb_pages.specs.declared.cell.CellRef.{CellRef}
use Rattle.rdb_cells.specs.declared.pairs.Pair.{Pair}
use Rattle.rdb_cells.specs.declared.cells.Cells.{Ghosts}
use Rattle.rdb_cells.specs.Images.{Writes}
use Rattle.rdb_cells.specs.Links.{IsAmong}
use Rattle.rdb_cells.specs.Overlays.{Laid}
use Rattle.rdb_cells.specs.Records.{names, content, with_content, replaced, first_of, with_put}
use Rattle.rdb_cells.specs.Untaken.{IsNextUntaken}
use Rattle.rdb_cells.specs.Work.{Work, work, reading, IsBlank, IsLeft, HasLeft, TakesAtMost, TakesNone, TakesLowest}
use Rattle.rdb_cells.proofs.LinkLemmas.{among_or_not, among_either, among_front, among_back}
use Rattle.rdb_cells.proofs.PairLemmas.{put_writes, content_unnamed, content_named, named_when_content}

first_none : (o : Option Cell) → first_of o None ≡ o
first_none None = refl
first_none (Some c) = refl

put_content_here : (ps : List Pair) (p : Pair) → content (with_put ps p) p.at.number ≡ Some p.cell
put_content_here ps p = sym (first_none (content (with_put ps p) p.at.number)) ∙ (put_writes ps p (λ n. None)).here

put_content_elsewhere : (ps : List Pair) (p : Pair) (n : ℕ) → n ≢ p.at.number → content (with_put ps p) n ≡ content ps n
put_content_elsewhere ps p n apart = sym (first_none (content (with_put ps p) n)) ∙ (put_writes ps p (λ n. None)).elsewhere n apart ∙ first_none (content ps n)

named_or_not : (b : Bool) → (b ≡ true) ⊎ (b ≡ false)
named_or_not true = inl refl
named_or_not false = inr refl

content_there : (ps : List Pair) (n : ℕ) (o : Option Cell) → content ps n ≡ o → names ps n ≡ true → (cell : Cell) × (o ≡ Some cell)
content_there ps n None is named = absurd (false≢true (subst (λ (o : Option Cell). is_some o ≡ true) is (content_named ps n named)))
content_there ps n (Some cell) is named = (cell, refl)

still_named : (ps : List Pair) (p : Pair) (n : ℕ) → names ps n ≡ true → names (with_put ps p) n ≡ true
still_named ps p n named = elim (which n p.at.number) [
  | inl same ↦ named_when_content (with_put ps p) n p.cell (ap (content (with_put ps p)) same ∙ put_content_here ps p)
  | inr apart ↦
      let there = content_there ps n (content ps n) refl named in
      named_when_content (with_put ps p) n there.0 (put_content_elsewhere ps p n apart ∙ there.1)
]

unnamed_before : (ps : List Pair) (p : Pair) (n : ℕ) → names (with_put ps p) n ≡ false → names ps n ≡ false
unnamed_before ps p n unnamed = elim (named_or_not (names ps n)) [
  | inl named ↦ absurd (false≢true (sym unnamed ∙ still_named ps p n named))
  | inr e ↦ e
]

unnamed_still : (ps : List Pair) (p : Pair) (n : ℕ) → n ≢ p.at.number → names ps n ≡ false → names (with_put ps p) n ≡ false
unnamed_still ps p n apart unnamed = elim (named_or_not (names (with_put ps p) n)) [
  | inl named ↦
      let there = content_there (with_put ps p) n (content (with_put ps p) n) refl named in
      absurd (false≢true (sym unnamed ∙ named_when_content ps n there.0 (sym (put_content_elsewhere ps p n apart) ∙ there.1)))
  | inr e ↦ e
]

-- the work after a put, and after a take
abbrev pub put_work : Work → CellRef → Cell → Work
put_work w at cell = record w { pairs = with_put w.pairs (record { at = at; cell = cell }) }

abbrev pub take_work : Work → CellRef → Work
take_work w at = record w { taken = at.number }

pub put_reads : (w : Work) (at : CellRef) (cell : Cell) → Writes (reading w) (reading (put_work w at cell)) at.number cell
put_reads w at cell = put_writes w.pairs (record { at = at; cell = cell }) w.below

-- the plan says what it said of every other cell
pub put_says : (w : Work) (at : CellRef) (cell : Cell) (n : ℕ) → (content (put_work w at cell).pairs n ≡ content w.pairs n) ⊎ (n ≡ at.number)
put_says w at cell n = elim (which n at.number) [
  | inl same ↦ inr same
  | inr apart ↦ inl (put_content_elsewhere w.pairs (record { at = at; cell = cell }) n apart)
]

-- a cell that can be taken reads as a free one
pub left_blank : (w : Work) (n : ℕ) → IsLeft w n → IsBlank w n
left_blank w n left = record {
  zero = ap (λ (o : Option Cell). first_of o (w.below n)) (content_unnamed w.pairs n left.unplanned) ∙ left.free.zero;
  class = left.free.class;
  page = left.free.page;
}

-- a put to a cell that can't be taken leaves those that can
pub put_takes_none : (w : Work) (at : CellRef) (cell : Cell) → (¬ IsLeft w at.number) → TakesNone w (put_work w at cell)
put_takes_none w at cell spent n = (
  λ left. record { above = left.above; free = left.free; unplanned = unnamed_before w.pairs (record { at = at; cell = cell }) n left.unplanned },
  λ left. record {
    above = left.above;
    free = left.free;
    unplanned = unnamed_still w.pairs (record { at = at; cell = cell }) n (λ same. spent (subst (IsLeft w) same left)) left.unplanned;
  },
)

pub none_then : (w0 w1 w2 : Work) → TakesNone w0 w1 → TakesNone w1 w2 → TakesNone w0 w2
none_then w0 w1 w2 first second n = (λ left. (first n).0 ((second n).0 left), λ left. (second n).1 ((first n).1 left))

pub none_at_most : (w0 w1 : Work) → TakesNone w0 w1 → TakesAtMost 0 w0 w1
none_at_most w0 w1 none = record {
  enough = λ count has. record {
    cells = has.cells;
    count = (let many = has.count in omega arith);
    ascending = has.ascending;
    untaken = λ i n at. (none n).1 (has.untaken i n at);
  };
  no_more = λ n left. (none n).0 left;
}

pub at_most_then : (a b : ℕ) (w0 w1 w2 : Work) → TakesAtMost a w0 w1 → TakesAtMost b w1 w2 → TakesAtMost (a + b) w0 w2
at_most_then a b w0 w1 w2 first second = record {
  enough = λ count has. second.enough count (first.enough (count + b) (let same : count + (a + b) ≡ count + b + a = omega arith in subst (HasLeft w0) same has));
  no_more = λ n left. first.no_more n (second.no_more n left);
}

got_at : (xs : List ℕ) (i n : ℕ) → slice_get xs i ≡ Some n → (i < length xs) × (slice_index xs i ≡ n)
got_at [] i n e = cc
got_at (x ∷ xs) zero n e = (omega arith, (let same : x ≡ n = search rules in same))
got_at (x ∷ xs) (suc i) n e = let rest = got_at xs i n e in ((let below = rest.0 in omega arith), rest.1)

sorted_above : (x : ℕ) (xs : List ℕ) (i n : ℕ) → IsStrictlySortedBy nat_cmp (x ∷ xs) → slice_get xs i ≡ Some n → x < n
sorted_above x xs i n sorted at =
    let got = got_at xs i n at in
    let below = got.0 in
    subst (λ (k : ℕ). x < k) got.1 (below_from_sorted (x ∷ xs) 0 (suc i) 0 sorted (omega arith) (omega arith))

-- taking the lowest cell leaves those above it
module _ (w : Work) (at : CellRef) (lowest : IsNextUntaken w.pairs w.below w.class_of w.class w.taken at.number) where
  above_left : (n : ℕ) → IsLeft w n → at.number < n → IsLeft (take_work w at) n
  above_left n left above = record { above = above; free = left.free; unplanned = left.unplanned }

  those_above : (count : ℕ) (cells : List ℕ) → length cells ≡ count + 1 → IsStrictlySortedBy nat_cmp cells → ((i n : ℕ) → slice_get cells i ≡ Some n → IsLeft w n) → HasLeft (take_work w at) count
  those_above count [] many sorted all = absurd (omega arith)
  those_above count (x ∷ xs) many sorted all = record {
    cells = xs;
    count = omega arith;
    ascending = sorted_tail nat_cmp x xs sorted;
    untaken = λ i n got. elim (cases_lt x at.number) [
      | inl sooner ↦ absurd (lowest.lowest x sooner (all 0 x refl))
      | inr later ↦ above_left n (all (suc i) n got) (let above = sorted_above x xs i n sorted got in omega arith)
    ];
  }

  pub take_one : TakesAtMost 1 w (take_work w at)
  take_one = record {
    enough = λ count has. those_above count has.cells has.count has.ascending has.untaken;
    no_more = λ n left. record {
      above = (let taken = lowest.untaken.above in let above = left.above in omega arith);
      free = left.free;
      unplanned = left.unplanned;
    };
  }

  -- what was taken can't be taken again
  pub taken_spent : ¬ IsLeft (take_work w at) at.number
  taken_spent left = let above = left.above in absurd (omega arith)

  -- the lowest was taken, and no other
  pub lowest_take : TakesLowest w (take_work w at) (at.number ∷ [])
  lowest_take = record {
    left = λ n. (
      λ left. (take_one.no_more n left, λ within. elim within [ inl same ↦ taken_spent (subst (λ (k : ℕ). IsLeft (take_work w at) k) (sym same) left) | inr none ↦ none ]),
      λ both. elim (which at.number n) [
        | inl same ↦ absurd (both.1 (inl same))
        | inr apart ↦ elim (cases_lt n at.number) [
          | inl sooner ↦ absurd (lowest.lowest n sooner both.0)
          | inr later ↦ above_left n both.0 (omega arith)
        ]
      ],
    );
    above = λ m n within left after. elim within [ inl same ↦ subst (λ (k : ℕ). k < n) same after.above | inr none ↦ absurd none ];
  }

-- nothing was taken, and none of these could be
pub lowest_none : (w0 w1 : Work) (cells : List ℕ) → TakesNone w0 w1 → ((n : ℕ) → IsAmong cells n → ¬ IsLeft w0 n) → TakesLowest w0 w1 cells
lowest_none w0 w1 cells none old = record {
  left = λ n. (λ left. ((none n).0 left, λ within. old n within ((none n).0 left)), λ both. (none n).1 both.0);
  above = λ m n within left after. absurd (old m within left);
}

-- one taking after another
pub lowest_then : (xs ys : List ℕ) (w0 w1 w2 : Work) → TakesLowest w0 w1 xs → TakesLowest w1 w2 ys → TakesLowest w0 w2 (xs ++ ys)
lowest_then xs ys w0 w1 w2 first second = record {
  left = λ n. (
    λ left.
        let middle = (second.left n).0 left in
        let early = (first.left n).0 middle.0 in
        (early.0, λ within. elim (among_either xs ys n within) [ inl front ↦ early.1 front | inr back ↦ middle.1 back ]),
    λ both. (second.left n).1 ((first.left n).1 (both.0, λ front. both.1 (among_front xs ys n front)), λ back. both.1 (among_back xs ys n back)),
  );
  above = λ m n within left after. elim (among_or_not xs m) [
    | inl front ↦ first.above m n front left ((second.left n).0 after).0
    | inr without ↦ elim (among_either xs ys m within) [
      | inl front ↦ absurd (without front)
      | inr back ↦ second.above m n back ((first.left m).1 (left, without)) after
    ]
  ];
}

-- the same of other cells, where those that could be taken are the same
pub lowest_of : (w0 w1 : Work) (xs ys : List ℕ) → ((n : ℕ) → IsLeft w0 n → IsAmong xs n ↔ IsAmong ys n) → TakesLowest w0 w1 xs → TakesLowest w0 w1 ys
lowest_of w0 w1 xs ys same takes = record {
  left = λ n. (
    λ left. let was = (takes.left n).0 left in (was.0, λ within. was.1 ((same n was.0).1 within)),
    λ both. (takes.left n).1 (both.0, λ within. both.1 ((same n both.0).0 within)),
  );
  above = λ m n within left after. takes.above m n ((same m left).1 within) left after;
}

-- who can take some cells can take one
pub one_left : (w : Work) → HasLeft w 1 → (n : ℕ) × IsLeft w n
one_left w has = first has.cells has.count has.untaken
  where
    first : (cells : List ℕ) → length cells ≡ 1 → ((i n : ℕ) → slice_get cells i ≡ Some n → IsLeft w n) → (n : ℕ) × IsLeft w n
    first [] count all = absurd (omega arith)
    first (n ∷ ns) count all = (n, all 0 n refl)

-- a plan grows by a pair at most
pub put_longer : (ps : List Pair) (p : Pair) → length (with_put ps p) ≤ length ps + 1
put_longer ps p =
    let appended = length-append ps (p ∷ []) in
    let replaced_length = length-map ps (with_content p.at.number p.cell) in
    elim (names ps p.at.number) as (λ (b : Bool). length (cond b (replaced ps p.at.number p.cell) (ps ++ p ∷ [])) ≤ length ps + 1) [
      | true ↦ omega arith
      | false ↦ omega arith
    ]

-- the work of an overlay after a put, and after a take
module _ {X : Type 0} (cells : Ghosts X) where
  pub put_is : (o now : Laid X) (w : Work) (at : CellRef) (cell : Cell) → work cells o ≡ w → now ≡ record o { plan = record o.plan { pairs = with_put o.plan.pairs (record { at = at; cell = cell }) } } → work cells now ≡ put_work w at cell
  put_is o now w at cell was is = ap (work cells) is ∙ ap (λ (v : Work). put_work v at cell) was

  pub take_is : (o now : Laid X) (w : Work) (at : CellRef) → work cells o ≡ w → now ≡ record o { taken = at } → work cells now ≡ take_work w at
  take_is o now w at was is = ap (work cells) is ∙ ap (λ (v : Work). take_work v at) was

-- a cell is taken, and what it will hold is planned
module _ (w : Work) (at : CellRef) (cell : Cell) (lowest : IsNextUntaken w.pairs w.below w.class_of w.class w.taken at.number) where
  planned_then : TakesNone (take_work w at) (put_work (take_work w at) at cell)
  planned_then = put_takes_none (take_work w at) at cell (taken_spent w at lowest)

  pub took_one : TakesAtMost 1 w (put_work (take_work w at) at cell)
  took_one = at_most_then 1 0 w (take_work w at) (put_work (take_work w at) at cell) (take_one w at lowest) (none_at_most (take_work w at) (put_work (take_work w at) at cell) planned_then)

  pub took_lowest : TakesLowest w (put_work (take_work w at) at cell) (at.number ∷ [])
  took_lowest =
      lowest_then (at.number ∷ []) [] w (take_work w at) (put_work (take_work w at) at cell) (lowest_take w at lowest)
      (lowest_none (take_work w at) (put_work (take_work w at) at cell) [] planned_then (λ n none. absurd none))
