-- Owners and free cells, page by page.
use Rattle.std.proofs.Common.{[], set, length-set, ◌≡◌, ◌<◌, ◌≤◌, ◌+◌, ◌-◌, ◌*◌, ◌/◌, ◌%◌, ℕ, List, length, slice_get, Option, Some, None, IfSome, IfNone, Bool, true, false, nat_lt, refl, sym, ap, subst, ◌∙◌, arith, inl, inr}
use Rattle.std.proofs.lemmas.Bool.{cases_lt, and_parts, and_from, eq-eqb, eqb-true, lt-ltb, ltb-true, false≢true}
use Rattle.std.proofs.lemmas.Option.{slice_get_within}
use Rattle.rdb_pages.specs.declared.cell.CellRef.{CellRef}
use Rattle.rdb_pages.specs.Pages.{page_of, place_of}
use Rattle.std.specs.Option.{option_map_or}
use Rattle.std.proofs.lemmas.Nat.Bits.{bit_at-zero}
use Rattle.rdb_space.specs.Bits.{bit_of}
use Rattle.rdb_space.specs.PageSet.{member_bit, IsFirstMember}
use Rattle.rdb_space.specs.declared.page.PageState.{PageState}
use Rattle.rdb_space.specs.declared.class_pages.ClassPages.{ClassPages}
use Rattle.rdb_space.specs.Space.{IsLowestUnowned, AllOwned, IsOpen, Marks, Follows, IsFreeIn, IsNextFreeIn}
use Rattle.rdb_space.specs.Tables.{OwnsBelow, owns, is_open, with_room_of, IsTable, IsFirstFree, HasNoneFrom, IsFirstOpen, HasNoneOpen}
use Rattle.rdb_space.proofs.BitLemmas.{some_set, is_some}
use Rattle.rdb_space.proofs.ListLemmas.{there, one_at, at_set_same, at_set_other}
use Rattle.rdb_space.proofs.TableLemmas.{room_of_at}

pub lowest_unowned : (ps : List PageState) (count : ℕ) → OwnsBelow ps count → count < length ps → IsLowestUnowned ps count
lowest_unowned ps count owns_below h =
    let at = there ps count h in
    record {
      here = (at.0, at.1, owns_below.above count at.0 (omega arith) at.1);
      below = owns_below.below;
    }

pub all_owned : (ps : List PageState) (count : ℕ) → OwnsBelow ps count → length ps ≤ count → AllOwned ps
all_owned ps count owns_below h i p at = let within = slice_get_within ps i p at in owns_below.below i p (omega arith) at

-- a page with a free cell of the class is one with room
open_page : (p : PageState) (class i : ℕ) → IsOpen p class i → is_open class p ≡ true
open_page p class i open_at =
    and_from (owns class p.owner) (nat_lt 0 p.free) (ap (owns class) open_at.owned ∙ eq-eqb class class refl) (lt-ltb 0 p.free (is_some p.free i open_at.bit))

closed_page : (p : PageState) (class i : ℕ) → is_open class p ≡ false → ¬ IsOpen p class i
closed_page p class i closed open_at = false≢true (sym closed ∙ open_page p class i open_at)

-- how far a search for a free cell above a number has come: it goes on at a place of a page, and none before it is free
pub record Searched (ps : List PageState) (class start page from : ℕ) : Type 0 where
  pub above : start ≤ 64 * page + from
  pub small : from < 64
  pub passed : (n : ℕ) → start < n → n ≤ 64 * page + from → ¬ IsFreeIn ps class n

pub search-first : (ps : List PageState) (class start : ℕ) → Searched ps class start (start / 64) (start % 64)
search-first ps class start = record {
  above = omega arith;
  small = omega arith;
  passed = λ n low high. absurd (omega arith);
}

-- a free cell of a page is open there
open_there : (ps : List PageState) (class page i n : ℕ) (p : PageState) → slice_get ps page ≡ Some p → (n - 1) / 64 ≡ page → (n - 1) % 64 ≡ i → IsFreeIn ps class n → IsOpen p class i
open_there ps class page i n p at is_page is_place free =
    let same = one_at ps page free.page.0 p (subst (λ (k : ℕ). slice_get ps k ≡ Some free.page.0) is_page free.page.1) at in
    subst (λ (q : PageState). IsOpen q class i) same (subst (λ (k : ℕ). IsOpen free.page.0 class k) is_place free.page.2)

-- on to a later page, where the rest of this one has no free cell, nor have those between
pub search-on : (ps : List PageState) (class start page from next : ℕ) → Searched ps class start page from → HasNoneFrom ps class page from → page < next → ((i : ℕ) → page + 1 ≤ i → i < next → HasNoneFrom ps class i 0) → Searched ps class start next 0
search-on ps class start page from next so_far none later between =
    let above = so_far.above in
    let small = so_far.small in
    record {
      above = omega arith;
      small = omega arith;
      passed = λ n low high free.
          let p = free.page.0 in
          elim (cases_lt (64 * page + from) n) [
            | inr before ↦ so_far.passed n low before free
            | inl after ↦ elim (cases_lt page ((n - 1) / 64)) [
              | inl beyond ↦ between ((n - 1) / 64) (omega arith) (omega arith) p ((n - 1) % 64) free.page.1 (omega arith) (omega arith) free.page.2
              | inr within ↦
                  let is_page : (n - 1) / 64 ≡ page = omega arith in
                  none p ((n - 1) % 64) (subst (λ (k : ℕ). slice_get ps k ≡ Some p) is_page free.page.1) (omega arith) (omega arith) free.page.2
            ]
          ];
    }

pub search-found : (ps : List PageState) (class start page from : ℕ) (at : CellRef) → Searched ps class start page from → IsFirstFree ps class page from at → IsNextFreeIn ps class start at.number
search-found ps class start page from at so_far found =
    let above = so_far.above in
    let low = found.above in
    let high = found.within in
    let i = found.place in
    let p = found.state in
    let is_page : (1 + 64 * page + i - 1) / 64 ≡ page = omega arith in
    let is_place : (1 + 64 * page + i - 1) % 64 ≡ i = omega arith in
    subst (λ (r : CellRef). IsNextFreeIn ps class start r.number) (sym found.is) (record {
      above = omega arith;
      free = record {
        some = omega arith;
        page = (p, subst (λ (k : ℕ). slice_get ps k ≡ Some p) (sym is_page) found.here, subst (λ (k : ℕ). IsOpen p class k) (sym is_place) found.free);
      };
      lowest = λ n after before free. elim (cases_lt (64 * page + from) n) [
        | inl later ↦
            let k : ℕ = n - 1 - 64 * page in
            found.first k (omega arith) (omega arith) (open_there ps class page k n p found.here (omega arith) (omega arith) free)
        | inr passed ↦ so_far.passed n after passed free
      ];
    })

pub search-end : (ps : List PageState) (class start page from : ℕ) → Searched ps class start page from → HasNoneFrom ps class page from → HasNoneOpen ps class (page + 1) → (n : ℕ) → start < n → ¬ IsFreeIn ps class n
search-end ps class start page from so_far none later n low free =
    let far = search-on ps class start page from (page + n + 1) so_far none (omega arith) (λ i after before. later i after) in
    far.passed n low (omega arith) free

-- the pages of the set that is kept of a class are those with a free cell
module _ (ps : List PageState) (classes : List ClassPages) (granted class : ℕ) (table : IsTable ps classes granted) where
  owned_by : (k : ℕ) (o : Option ℕ) → owns k o ≡ true → o ≡ Some k
  owned_by k None is = absurd (false≢true is)
  owned_by k (Some owner) is = ap Some (eqb-true owner k is)

  zero-ne-one : (zero_bit one_bit : ℕ) → zero_bit ≡ 0 → one_bit ≡ 1 → zero_bit ≡ one_bit → ⊥
  zero-ne-one a b is_zero is_one e = omega arith

  bit_true : (b : Bool) → bit_of b ≡ 1 → b ≡ true
  bit_true true e = refl
  bit_true false e = absurd (omega arith)

  bit_false : (b : Bool) → bit_of b ≡ 0 → b ≡ false
  bit_false false e = refl
  bit_false true e = absurd (omega arith)

  none_in : (page : ℕ) → member_bit (with_room_of classes class) page ≡ 0 → HasNoneFrom ps class page 0
  none_in page zero p i at low high is_open_there =
      let bit = sym (ap (λ (o : Option PageState). option_map_or (λ (r : PageState). bit_of (is_open class r)) o 0) at) ∙ sym (table.with_room class page) ∙ zero in
      closed_page p class i (bit_false (is_open class p) bit) is_open_there

  some_in : (page : ℕ) → member_bit (with_room_of classes class) page ≡ 1 → ¬ HasNoneFrom ps class page 0
  some_in page one none = go (slice_get ps page) refl
    where
      go : (o : Option PageState) → slice_get ps page ≡ o → ⊥
      go None gone =
          zero-ne-one 0 (member_bit (with_room_of classes class) page) refl one
          (sym (table.with_room class page ∙ ap (λ (o : Option PageState). option_map_or (λ (r : PageState). bit_of (is_open class r)) o 0) gone))
      go (Some p) at =
          let bit = sym (ap (λ (o : Option PageState). option_map_or (λ (r : PageState). bit_of (is_open class r)) o 0) at) ∙ sym (table.with_room class page) ∙ one in
          let both = and_parts (owns class p.owner) (nat_lt 0 p.free) (bit_true (is_open class p) bit) in
          let open_bit = some_set p.free (ltb-true 0 p.free both.1) (table.fits page p at) in
          none p open_bit.0 at (omega arith) open_bit.1 (record { owned = owned_by class p.owner both.0; bit = open_bit.2 })

  pub first_open_found : (own : ClassPages) (from page : ℕ) → slice_get classes class ≡ Some own → IsFirstMember own.with_room from page → IsFirstOpen ps class from page
  first_open_found own from page own_at first =
      let words = room_of_at classes class own own_at in
      record {
        above = first.above;
        some = some_in page (ap (λ (ws : List ℕ). member_bit ws page) words ∙ first.member);
        first = λ lower low below. none_in lower (ap (λ (ws : List ℕ). member_bit ws lower) words ∙ first.first lower low below);
      }

  pub first_open_none : (own : ClassPages) (from : ℕ) → slice_get classes class ≡ Some own → ((i : ℕ) → from ≤ i → member_bit own.with_room i ≡ 0) → HasNoneOpen ps class from
  first_open_none own from own_at zeros page low =
      none_in page (ap (λ (ws : List ℕ). member_bit ws page) (room_of_at classes class own own_at) ∙ zeros page low)

  pub unknown_class : (from : ℕ) → slice_get classes class ≡ None → HasNoneOpen ps class from
  unknown_class from gone page low =
      none_in page (ap (λ (o : Option ClassPages). member_bit (option_map_or (λ (c : ClassPages). c.with_room) o []) page) gone ∙ bit_at-zero (page % 64))

-- what follows from what a search found, or didn't
pub if_found : {X : Type 0} (P Q : X → Type 0) (o : Option X) → ((x : X) → P x → Q x) → IfSome o P → IfSome o Q
if_found P Q None f h = h
if_found P Q (Some x) f h = f x h

pub if_missing : {X : Type 0} (P Q : Type 0) (o : Option X) → (P → Q) → IfNone o P → IfNone o Q
if_missing P Q None f h = f h
if_missing P Q (Some x) f h = h

-- the cell's bit is written in its page
pub follows : (ps : List PageState) (page place : ℕ) (p q : PageState) (at : CellRef) (free : Bool) → page ≡ page_of at → place ≡ place_of at → slice_get ps page ≡ Some p → Marks p q place free → Follows ps (set ps page q) at free
follows ps page place p q at free is_page is_place p_at marks =
    let q_at = at_set_same ps page q (slice_get_within ps page p p_at) in
    record {
      count = length-set ps page q;
      here = λ r s r_at s_at.
          let is_r = one_at ps page p r p_at (subst (λ (k : ℕ). slice_get ps k ≡ Some r) (sym is_page) r_at) in
          let is_s = one_at (set ps page q) page q s q_at (subst (λ (k : ℕ). slice_get (set ps page q) k ≡ Some s) (sym is_page) s_at) in
          subst (λ (x : PageState). Marks x s (place_of at) free) is_r (subst (λ (x : PageState). Marks p x (place_of at) free) is_s (subst (λ (k : ℕ). Marks p q k free) is_place marks));
      elsewhere = λ i apart. at_set_other ps page i q (λ e. apart (e ∙ is_page));
    }

pub some_left : (ps : List PageState) (count : ℕ) → OwnsBelow ps count → ¬ AllOwned ps → count < length ps
some_left ps count owns_below left = elim (cases_lt count (length ps)) [
  | inl some ↦ some
  | inr none ↦ absurd (left (all_owned ps count owns_below none))
]
