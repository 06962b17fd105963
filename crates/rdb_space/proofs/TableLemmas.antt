-- What is kept of each class, as a page of one of them changes.
use Rattle.std.proofs.Common.{◌≡◌, ◌≢◌, ◌<◌, ◌≤◌, ◌⊎◌, ◌+◌, ◌-◌, ◌*◌, ◌/◌, ◌%◌, ◌^◌, ◌&&◌, ℕ, zero, suc, List, [], ◌∷◌, length, set, replicate, slice_index, Bool, true, false, cond, Option, Some, None, IsSome, slice_get, sum_by, count_ones, nat_lt, inl, inr, refl, sym, ap, subst, ◌∙◌, arith, length-set}
use Rattle.std.specs.Int.{bit_at}
use Rattle.std.specs.Option.{option_map_or}
use Rattle.std.proofs.Permutation.{which}
use Rattle.std.proofs.lemmas.Bool.{eq-eqb, ne_eqb, false≢true}
use Rattle.std.proofs.lemmas.List.{length-replicate}
use Rattle.std.proofs.lemmas.List.Sums.{sum_by-cons}
use Rattle.std.proofs.lemmas.List.Folds.{sum_by-replicate}
use Rattle.std.proofs.lemmas.Nat.Bits.{bit_at-zero}
use Rattle.std.proofs.lemmas.Option.{slice_get_within}
use lib.Count.{ones-le, ones-ones}
use Rattle.rdb_space.specs.declared.page.PageState.{PageState}
use Rattle.rdb_space.specs.declared.class_pages.ClassPages.{ClassPages}
use Rattle.rdb_space.specs.Bits.{bit_of}
use Rattle.rdb_space.specs.PageSet.{member_bit, words_for, Puts}
use Rattle.rdb_space.specs.Space.{room_in, room_of, unowned}
use Rattle.rdb_space.specs.Tables.{OwnsBelow, owns, free_in, is_open, free_of, with_room_of, IsTable}
use Rattle.rdb_space.proofs.ListLemmas.{at_set_same, at_set_other, there, one_at, in_replicate, of_replicate, sum_set}

-- a page of the class
owns_own : (class : ℕ) (o : Option ℕ) → o ≡ Some class → owns class o ≡ true
owns_own class o e = ap (owns class) e ∙ eq-eqb class class refl

owns_other : (class other : ℕ) (o : Option ℕ) → o ≡ Some other → class ≢ other → owns class o ≡ false
owns_other class other o e apart = ap (owns class) e ∙ ne_eqb other class (λ same. apart (sym same))

owns_none : (class : ℕ) (o : Option ℕ) → o ≡ None → owns class o ≡ false
owns_none class o e = ap (owns class) e

free_own : (class : ℕ) (p : PageState) → p.owner ≡ Some class → free_in class p ≡ count_ones p.free
free_own class p e = ap (λ (b : Bool). cond b (count_ones p.free) 0) (owns_own class p.owner e)

free_unless : (class : ℕ) (p : PageState) → owns class p.owner ≡ false → free_in class p ≡ 0
free_unless class p e = ap (λ (b : Bool). cond b (count_ones p.free) 0) e

open_own : (class : ℕ) (p : PageState) → p.owner ≡ Some class → is_open class p ≡ nat_lt 0 p.free
open_own class p e = ap (λ (b : Bool). b && nat_lt 0 p.free) (owns_own class p.owner e)

open_unless : (class : ℕ) (p : PageState) → owns class p.owner ≡ false → is_open class p ≡ false
open_unless class p e = ap (λ (b : Bool). b && nat_lt 0 p.free) e

-- the counts and sets of the class that is written, and of others
pub free_of_at : (classes : List ClassPages) (class : ℕ) (own : ClassPages) → slice_get classes class ≡ Some own → free_of classes class ≡ own.free
free_of_at classes class own e = ap (λ (o : Option ClassPages). option_map_or (λ (c : ClassPages). c.free) o 0) e

pub room_of_at : (classes : List ClassPages) (class : ℕ) (own : ClassPages) → slice_get classes class ≡ Some own → with_room_of classes class ≡ own.with_room
room_of_at classes class own e = ap (λ (o : Option ClassPages). option_map_or (λ (c : ClassPages). c.with_room) o []) e

-- what is kept of a page that isn't there
abbrev listed : ℕ → Option PageState → ℕ
listed class o = option_map_or (λ (p : PageState). bit_of (is_open class p)) o 0

-- the page was one of the class with these free cells, or had no owner
abbrev pub WasOf : PageState → ℕ → ℕ → Type 0
WasOf p class before = ((p.owner ≡ Some class) × (p.free ≡ before)) ⊎ ((p.owner ≡ None) × (before ≡ 0))

was_free : (p : PageState) (class before : ℕ) → WasOf p class before → free_in class p ≡ count_ones before
was_free p class before (inl own) = free_own class p own.0 ∙ ap count_ones own.1
was_free p class before (inr none) = free_unless class p (owns_none class p.owner none.0) ∙ sym (ap count_ones none.1 ∙ ones-ones 0)

was_not : (p : PageState) (class before k : ℕ) → WasOf p class before → k ≢ class → owns k p.owner ≡ false
was_not p class before k (inl own) apart = owns_other k class p.owner own.0 apart
was_not p class before k (inr none) apart = owns_none k p.owner none.0

module _ (pages : List PageState) (classes : List ClassPages) (granted class page before : ℕ) (p q : PageState) (own now : ClassPages)
    (table : IsTable pages classes granted) (p_at : slice_get pages page ≡ Some p) (own_at : slice_get classes class ≡ Some own)
    (q_owner : q.owner ≡ Some class) (was : WasOf p class before)
    (free : now.free + count_ones before ≡ own.free + count_ones q.free)
    (puts : Puts own.with_room now.with_room page (nat_lt 0 q.free)) where
  abbrev pages_now : List PageState
  pages_now = set pages page q

  abbrev classes_now : List ClassPages
  classes_now = set classes class now

  class_within : class < length classes
  class_within = slice_get_within classes class own own_at

  page_within : page < length pages
  page_within = slice_get_within pages page p p_at

  now_at : slice_get classes_now class ≡ Some now
  now_at = at_set_same classes class now class_within

  q_at : slice_get pages_now page ≡ Some q
  q_at = at_set_same pages page q page_within

  pub free_now : (k : ℕ) → free_of classes_now k ≡ sum_by (free_in k) pages_now
  free_now k = elim (which k class) [
    | inl same ↦ subst (λ (j : ℕ). free_of classes_now j ≡ sum_by (free_in j) pages_now) (sym same) (
        let a = free_of_at classes_now class now now_at in
        let b = free_of_at classes class own own_at in
        let kept = table.free class in
        let sums = sum_set (free_in class) pages page p q p_at in
        let p_free = was_free p class before was in
        let q_free = free_own class q q_owner in
        omega arith)
    | inr apart ↦
        let a = ap (λ (o : Option ClassPages). option_map_or (λ (c : ClassPages). c.free) o 0) (at_set_other classes class k now apart) in
        let kept = table.free k in
        let sums = sum_set (free_in k) pages page p q p_at in
        let p_free = free_unless k p (was_not p class before k was apart) in
        let q_free = free_unless k q (owns_other k class q.owner q_owner apart) in
        omega arith
  ]

  pub with_room_now : (k i : ℕ) → member_bit (with_room_of classes_now k) i ≡ listed k (slice_get pages_now i)
  with_room_now k i = elim (which k class) [
    | inl same ↦ subst (λ (j : ℕ). member_bit (with_room_of classes_now j) i ≡ listed j (slice_get pages_now i)) (sym same) (
        ap (λ (ws : List ℕ). member_bit ws i) (room_of_at classes_now class now now_at) ∙ elim (which i page) [
          | inl here ↦ subst (λ (j : ℕ). member_bit now.with_room j ≡ listed class (slice_get pages_now j)) (sym here) (
              puts.here ∙ ap bit_of (sym (open_own class q q_owner)) ∙ sym (ap (listed class) q_at))
          | inr elsewhere ↦
              puts.elsewhere i elsewhere
              ∙ sym (ap (λ (ws : List ℕ). member_bit ws i) (room_of_at classes class own own_at))
              ∙ table.with_room class i
              ∙ sym (ap (listed class) (at_set_other pages page i q elsewhere))
        ])
    | inr apart ↦
        ap (λ (o : Option ClassPages). member_bit (option_map_or (λ (c : ClassPages). c.with_room) o []) i) (at_set_other classes class k now apart)
        ∙ table.with_room k i ∙ elim (which i page) [
          | inl here ↦ subst (λ (j : ℕ). listed k (slice_get pages j) ≡ listed k (slice_get pages_now j)) (sym here) (
              ap (listed k) p_at ∙ ap bit_of (open_unless k p (was_not p class before k was apart))
              ∙ sym (ap (listed k) q_at ∙ ap bit_of (open_unless k q (owns_other k class q.owner q_owner apart))))
          | inr elsewhere ↦ sym (ap (listed k) (at_set_other pages page i q elsewhere))
        ]
  ]

  pub wide_now : (k : ℕ) → k < length classes_now → length pages_now ≤ 64 * length (with_room_of classes_now k)
  wide_now k within =
      let pages_long = length-set pages page q in
      let classes_long = length-set classes class now in
      elim (which k class) [
        | inl same ↦ subst (λ (j : ℕ). length pages_now ≤ 64 * length (with_room_of classes_now j)) (sym same) (
            let words : length (with_room_of classes_now class) ≡ length now.with_room = ap (λ (ws : List ℕ). length ws) (room_of_at classes_now class now now_at) in
            let was_words : length (with_room_of classes class) ≡ length own.with_room = ap (λ (ws : List ℕ). length ws) (room_of_at classes class own own_at) in
            let count = puts.count in
            let wide = table.wide class class_within in
            omega arith)
        | inr apart ↦
            let words : length (with_room_of classes_now k) ≡ length (with_room_of classes k) = ap (λ (o : Option ClassPages). length (option_map_or (λ (c : ClassPages). c.with_room) o [])) (at_set_other classes class k now apart) in
            let wide = table.wide k (omega arith) in
            omega arith
      ]

  pub known_now : (i owner : ℕ) (r : PageState) → slice_get pages_now i ≡ Some r → r.owner ≡ Some owner → owner < length classes_now
  known_now i owner r at is =
      let classes_long = length-set classes class now in
      elim (which i page) [
        | inl here ↦
            let same = one_at pages_now page q r q_at (subst (λ (j : ℕ). slice_get pages_now j ≡ Some r) here at) in
            let one : Some class ≡ Some owner = sym q_owner ∙ ap (λ (s : PageState). s.owner) same ∙ is in
            let equal : class ≡ owner = cc in
            let within = class_within in
            omega arith
        | inr elsewhere ↦ let within = table.known i owner r (sym (at_set_other pages page i q elsewhere) ∙ at) is in omega arith
      ]

  pub fits_now : q.free < 2 ^ 64 → (i : ℕ) (r : PageState) → slice_get pages_now i ≡ Some r → r.free < 2 ^ 64
  fits_now small i r at = elim (which i page) [
    | inl here ↦
        let same = one_at pages_now page q r q_at (subst (λ (j : ℕ). slice_get pages_now j ≡ Some r) here at) in
        subst (λ (s : PageState). s.free < 2 ^ 64) same small
    | inr elsewhere ↦ table.fits i r (sym (at_set_other pages page i q elsewhere) ∙ at)
  ]

  pub numbered_now : length classes_now < 2 ^ 32
  numbered_now = let long = length-set classes class now in let h = table.numbered in omega arith

  pub count_now : length pages_now ≤ 16384
  count_now = let long = length-set pages page q in let count = table.count in omega arith

  -- a page that had an owner
  pub followed : q.free < 2 ^ 64 → IsSome p.owner → IsTable pages_now classes_now granted
  followed small owned = record {
    count = count_now;
    fits = fits_now small;
    owners = record {
      within = let long = length-set pages page q in let h = table.owners.within in omega arith;
      below = λ i r low at. elim (which i page) [
        | inl here ↦
            let same = one_at pages_now page q r q_at (subst (λ (j : ℕ). slice_get pages_now j ≡ Some r) here at) in
            subst (λ (s : PageState). IsSome s.owner) same (subst IsSome (sym q_owner) refl)
        | inr elsewhere ↦ table.owners.below i r low (sym (at_set_other pages page i q elsewhere) ∙ at)
      ];
      above = λ i r high at. elim (which i page) [
        | inl here ↦
            let none = table.owners.above page p (subst (λ (j : ℕ). granted ≤ j) here high) p_at in
            absurd (false≢true (subst IsSome none owned))
        | inr elsewhere ↦ table.owners.above i r high (sym (at_set_other pages page i q elsewhere) ∙ at)
      ];
    };
    numbered = numbered_now;
    known = known_now;
    wide = wide_now;
    free = free_now;
    with_room = with_room_now;
  }

  -- the lowest page without an owner
  pub given : q.free < 2 ^ 64 → page ≡ granted → IsTable pages_now classes_now (granted + 1)
  given small first = record {
    count = count_now;
    fits = fits_now small;
    owners = record {
      within = let long = length-set pages page q in let h = page_within in omega arith;
      below = λ i r low at. elim (which i page) [
        | inl here ↦
            let same = one_at pages_now page q r q_at (subst (λ (j : ℕ). slice_get pages_now j ≡ Some r) here at) in
            subst (λ (s : PageState). IsSome s.owner) same (subst IsSome (sym q_owner) refl)
        | inr elsewhere ↦ table.owners.below i r (omega arith) (sym (at_set_other pages page i q elsewhere) ∙ at)
      ];
      above = λ i r high at. elim (which i page) [
        | inl here ↦ absurd (omega arith)
        | inr elsewhere ↦ table.owners.above i r (omega arith) (sym (at_set_other pages page i q elsewhere) ∙ at)
      ];
    };
    numbered = numbered_now;
    known = known_now;
    wide = wide_now;
    free = free_now;
    with_room = with_room_now;
  }

-- a class has at most 64 free cells in a page
few_in : (class : ℕ) (o : Option ℕ) (free : ℕ) → free < 2 ^ 64 → cond (owns class o) (count_ones free) 0 ≤ 64
few_in class o free small = go (owns class o)
  where
    go : (b : Bool) → cond b (count_ones free) 0 ≤ 64
    go true = ones-le 64 free small
    go false = omega arith

few_from : (class : ℕ) (pages : List PageState) → ((i : ℕ) (p : PageState) → slice_get pages i ≡ Some p → p.free < 2 ^ 64) → sum_by (free_in class) pages ≤ 64 * length pages
few_from class [] fits = omega arith
few_from class (p ∷ ps) fits =
    let one = few_in class p.owner p.free (fits 0 p refl) in
    let rest = few_from class ps (λ i r at. fits (suc i) r at) in
    let sums = sum_by-cons (free_in class) p ps in
    omega arith

pub few : (pages : List PageState) (classes : List ClassPages) (granted class : ℕ) → IsTable pages classes granted → sum_by (free_in class) pages ≤ 64 * 16384
few pages classes granted class table =
    let some = few_from class pages table.fits in
    let count = table.count in
    omega arith

-- what one class has is no more than all
at_most : (f : PageState → ℕ) (pages : List PageState) (i : ℕ) (p : PageState) → slice_get pages i ≡ Some p → f p ≤ sum_by f pages
at_most f [] i p at = absurd cc
at_most f (x ∷ ps) zero p at = let same : x ≡ p = cc in let sums = sum_by-cons f x ps in let is = ap f same in omega arith
at_most f (x ∷ ps) (suc i) p at = let rest = at_most f ps i p at in let sums = sum_by-cons f x ps in omega arith

pub small_count : (pages : List PageState) (classes : List ClassPages) (granted class : ℕ) (own : ClassPages) → IsTable pages classes granted → slice_get classes class ≡ Some own → own.free ≤ 1048576
small_count pages classes granted class own table own_at =
    let some = few pages classes granted class table in
    let kept = table.free class in
    let is = free_of_at classes class own own_at in
    omega arith

pub counted : (pages : List PageState) (classes : List ClassPages) (granted class page : ℕ) (p : PageState) (own : ClassPages) → IsTable pages classes granted → slice_get pages page ≡ Some p → p.owner ≡ Some class → slice_get classes class ≡ Some own → count_ones p.free ≤ own.free
counted pages classes granted class page p own table at owned own_at =
    let a = at_most (free_in class) pages page p at in
    let b = free_own class p owned in
    let kept = table.free class in
    let is = free_of_at classes class own own_at in
    omega arith

-- the room of a class is its free cells, and the pages without an owner
room_owned : (class owner free : ℕ) → room_of class free (Some owner) ≡ cond (owns class (Some owner)) (count_ones free) 0
room_owned class owner free = refl

room_here : (class : ℕ) (o : Option ℕ) (free : ℕ) → IsSome o → room_of class free o ≡ cond (owns class o) (count_ones free) 0
room_here class None free some = absurd (false≢true some)
room_here class (Some owner) free some = refl

room_none : (class : ℕ) (o : Option ℕ) (free : ℕ) → o ≡ None → room_of class free o ≡ 64
room_none class o free none = ap (room_of class free) none

pub room_is : (class : ℕ) (pages : List PageState) (granted : ℕ) → OwnsBelow pages granted → sum_by (room_in class) pages ≡ sum_by (free_in class) pages + 64 * (length pages - granted)
room_is class [] granted owns_below = let h = owns_below.within in omega arith
room_is class (p ∷ ps) zero owns_below =
    let none = owns_below.above 0 p (omega arith) refl in
    let one = room_none class p.owner p.free none in
    let no = free_unless class p (owns_none class p.owner none) in
    let rest = room_is class ps 0 (record { within = omega arith; below = λ i r low. absurd (omega arith); above = λ i r high at. owns_below.above (suc i) r (omega arith) at }) in
    let a = sum_by-cons (room_in class) p ps in
    let b = sum_by-cons (free_in class) p ps in
    omega arith
room_is class (p ∷ ps) (suc granted) owns_below =
    let within = owns_below.within in
    let one = room_here class p.owner p.free (owns_below.below 0 p (omega arith) refl) in
    let rest = room_is class ps granted (record { within = omega arith; below = λ i r low at. owns_below.below (suc i) r (omega arith) at; above = λ i r high at. owns_below.above (suc i) r (omega arith) at }) in
    let a = sum_by-cons (room_in class) p ps in
    let b = sum_by-cons (free_in class) p ps in
    omega arith

-- no page has an owner
abbrev pub bare : ℕ → ClassPages
bare pages = record { free = 0; with_room = replicate (words_for pages) 0 }

bare_at : (pages classes k : ℕ) (own : ClassPages) → slice_get (replicate classes (bare pages)) k ≡ Some own → own ≡ bare pages
bare_at pages classes k own e = sym (of_replicate classes k (bare pages) own e)

bare_free : (pages classes k : ℕ) → free_of (replicate classes (bare pages)) k ≡ 0
bare_free pages classes k = elim (in_replicate classes k (bare pages)) [
  | inl some ↦ free_of_at (replicate classes (bare pages)) k (bare pages) some
  | inr none ↦ ap (λ (o : Option ClassPages). option_map_or (λ (c : ClassPages). c.free) o 0) none
]

zero_word : (n i : ℕ) → slice_index (replicate n 0) i ≡ 0
zero_word zero i = refl
zero_word (suc n) zero = refl
zero_word (suc n) (suc i) = zero_word n i

bare_member : (pages classes k i : ℕ) → member_bit (with_room_of (replicate classes (bare pages)) k) i ≡ 0
bare_member pages classes k i = elim (in_replicate classes k (bare pages)) [
  | inl some ↦ ap (λ (ws : List ℕ). member_bit ws i) (room_of_at (replicate classes (bare pages)) k (bare pages) some) ∙ ap (λ (w : ℕ). bit_at w (i % 64)) (zero_word (words_for pages) (i / 64)) ∙ bit_at-zero (i % 64)
  | inr none ↦ ap (λ (o : Option ClassPages). member_bit (option_map_or (λ (c : ClassPages). c.with_room) o []) i) none ∙ bit_at-zero (i % 64)
]

bare_listed : (pages k i : ℕ) → listed k (slice_get (replicate pages unowned) i) ≡ 0
bare_listed pages k i = elim (in_replicate pages i unowned) [
  | inl some ↦ ap (listed k) some
  | inr none ↦ ap (listed k) none
]

pub fresh : (pages classes : ℕ) → pages ≤ 16384 → classes < 2 ^ 32 → IsTable (replicate pages unowned) (replicate classes (bare pages)) 0
fresh pages classes few_pages few_classes =
    let long = length-replicate pages unowned in
    let many = length-replicate classes (bare pages) in
    record {
      count = omega arith;
      fits = λ i p at. subst (λ (r : PageState). r.free < 2 ^ 64) (of_replicate pages i unowned p at) (omega arith);
      owners = record {
        within = omega arith;
        below = λ i p low. absurd (omega arith);
        above = λ i p high at. subst (λ (r : PageState). r.owner ≡ None) (of_replicate pages i unowned p at) refl;
      };
      numbered = omega arith;
      known = λ i owner p at is.
          let same = ap (λ (r : PageState). r.owner) (of_replicate pages i unowned p at) in
          let no : None ≡ Some owner = same ∙ is in
          absurd cc;
      wide = λ k within.
          let at = there (replicate classes (bare pages)) k within in
          let own = bare_at pages classes k at.0 at.1 in
          let none : List ℕ = replicate (words_for pages) 0 in
          let words : length (with_room_of (replicate classes (bare pages)) k) ≡ length at.0.with_room = ap (λ (ws : List ℕ). length ws) (room_of_at (replicate classes (bare pages)) k at.0 at.1) in
          let is : length at.0.with_room ≡ length none = ap (λ (c : ClassPages). length c.with_room) own in
          let zeros : length none ≡ words_for pages = length-replicate (words_for pages) 0 in
          let all : length (with_room_of (replicate classes (bare pages)) k) ≡ (pages + 63) / 64 = words ∙ is ∙ zeros in
          omega arith;
      free = λ k. bare_free pages classes k ∙ sym (sum_by-replicate (free_in k) pages unowned ∙ omega arith);
      with_room = λ k i. bare_member pages classes k i ∙ sym (bare_listed pages k i);
    }
