-- Structs and classes keep the rules in any order.
use Rattle.std.proofs.Common.{◌≡◌, ℕ, ◌+◌, ◌<◌, ◌≤◌, Bool, true, false, cond, not, ◌||◌, List, [], ◌∷◌, ◌++◌, length, Option, Some, None, refl, sym, ap, ◌∙◌, arith, subst, append_assoc, length-append}
use Rattle.std.specs.Prelude.{if◌then◌else◌, nat_le}
use Rattle.std.specs.List.{flat_map, All, list_any, sum_by}
use Rattle.std.proofs.lemmas.Bool.Decides.{nat_tests}
use Rattle.std.proofs.lemmas.Slice.Eq.{bytes_eq-Decides}
use Rattle.std.proofs.lemmas.List.{append-nil}
use Rattle.std.proofs.lemmas.List.Elements.{All-head, All-tail, All-cons, All-nil}
use Rattle.std.proofs.lemmas.List.Folds.{list_any-append}
use Rattle.std.proofs.lemmas.List.Sums.{sum_by-append, sum_by-cons, sum_by_push}
use Rattle.rdb_schema.specs.declared.syntax.Part.{Part}
use Rattle.rdb_schema.specs.declared.syntax.Part.TheVariants as parts
use Rattle.rdb_schema.specs.declared.syntax.DdlCause.TheVariants.{Twice, BadKey, TooMany}
use Rattle.rdb_schema.specs.Rules.{same, is_member, body_of, is_among, is_declared}
use Rattle.rdb_schema.proofs.Declaring.{StartsAnew, body_is, blocks_start}
use Rattle.rdb_schema.proofs.Items.{Item, FieldItem, AutoidItem, IndexItem, EventItem, UpdateItem, Decl, GroupDecl, ClassDecl, item_parts, decl_parts, IsGoodItem, IsGroupItem, IsGoodDecl}
use Rattle.rdb_schema.proofs.ItemMeanings.{items_lack_heads, group_items_good, decl_starts, decls_start}
use Rattle.rdb_schema.proofs.Keeping.{Keeps, standing, nothing, keeps_after, weigh, none_counted, any_from_count, not_full, Counts, counts_of, field_type}
use Rattle.rdb_schema.proofs.Members.{ItemFine, fine_items, keeps_items}
use Rattle.rdb_schema.proofs.Sorting.{sorted, all_sorted, sorted_counts, sorted_members, sorted_fine}

-- ---- structs and classes in any order

abbrev pub groups_in : List Decl → List (List ℕ)
groups_in [] = []
groups_in (GroupDecl name items ∷ decls) = name ∷ groups_in decls
groups_in (ClassDecl name items ∷ decls) = groups_in decls

abbrev pub classes_in : List Decl → List (List ℕ)
classes_in [] = []
classes_in (GroupDecl name items ∷ decls) = classes_in decls
classes_in (ClassDecl name items ∷ decls) = name ∷ classes_in decls

abbrev pub DeclFine : List (List ℕ) → Decl → Type 0
DeclFine all (GroupDecl name items) = Counts (flat_map item_parts items)
DeclFine all (ClassDecl name items) = Counts (flat_map item_parts items) × All (ItemFine (λ name. field_type name items) all) items × (list_any is_member (flat_map item_parts items) ≡ true)

abbrev pub is_named : List ℕ → List ℕ → Bool
is_named name other = same other name

-- each name is given once
pub record NameCounts (groups classes : List (List ℕ)) : Type 0 where
  pub once : (name : List ℕ) → sum_by (weigh (is_named name)) groups + sum_by (weigh (is_named name)) classes ≤ 1
  pub few_groups : length groups ≤ 64
  pub few_classes : length classes ≤ 64

or_false : (a b : Bool) → (a || b) ≡ false → (a ≡ false) × (b ≡ false)
or_false true b e = absurd cc
or_false false true e = absurd cc
or_false false false e = (refl, refl)

group_rule : (a b : Bool) → (if a then Some Twice else (if b then Some TooMany else None)) ≡ None → (a ≡ false) × (b ≡ false)
group_rule true b e = absurd cc
group_rule false true e = absurd cc
group_rule false false e = (refl, refl)

class_rule : (a b c : Bool) → (if a then Some Twice else (if not b then Some BadKey else (if c then Some TooMany else None))) ≡ None → (a ≡ false) × (b ≡ true) × (c ≡ false)
class_rule true b c e = absurd cc
class_rule false false c e = absurd cc
class_rule false true true e = absurd cc
class_rule false true false e = (refl, refl, refl)

one_more_name : (name other : List ℕ) (groups classes : List (List ℕ)) → is_among name groups ≡ false → is_among name classes ≡ false → sum_by (weigh (is_named other)) groups + sum_by (weigh (is_named other)) classes ≤ 1 → sum_by (weigh (is_named other)) groups + sum_by (weigh (is_named other)) classes + weigh (is_named other) name ≤ 1
one_more_name name other groups classes no_group no_class le = by_test (same name other) refl where
  by_test : (b : Bool) → same name other ≡ b → sum_by (weigh (is_named other)) groups + sum_by (weigh (is_named other)) classes + cond b 1 0 ≤ 1
  by_test false t = omega arith
  by_test true t =
      let is : name ≡ other = (bytes_eq-Decides name other).0 t in
      let a = none_counted (is_named other) groups (subst (λ (n : List ℕ). is_among n groups ≡ false) is no_group) in
      let b = none_counted (is_named other) classes (subst (λ (n : List ℕ). is_among n classes ≡ false) is no_class) in
      omega arith

one_group : (name : List ℕ) (groups classes : List (List ℕ)) → is_among name groups ≡ false → is_among name classes ≡ false → length groups < 64 → NameCounts groups classes → NameCounts (groups ++ name ∷ []) classes
one_group name groups classes no_group no_class few counts = record {
  once = λ other. let push = sum_by_push (weigh (is_named other)) groups name in let le = one_more_name name other groups classes no_group no_class (counts.once other) in omega arith;
  few_groups = simp length-append (omega arith);
  few_classes = counts.few_classes;
}

one_class : (name : List ℕ) (groups classes : List (List ℕ)) → is_among name groups ≡ false → is_among name classes ≡ false → length classes < 64 → NameCounts groups classes → NameCounts groups (classes ++ name ∷ [])
one_class name groups classes no_group no_class few counts = record {
  once = λ other. let push = sum_by_push (weigh (is_named other)) classes name in let le = one_more_name name other groups classes no_group no_class (counts.once other) in omega arith;
  few_groups = counts.few_groups;
  few_classes = simp length-append (omega arith);
}

among_more : (name : List ℕ) (groups more : List (List ℕ)) → is_among name groups ≡ true → is_among name (groups ++ more) ≡ true
among_more name groups more among = list_any-append (λ (other : List ℕ). same other name) groups more ∙ ap (λ (b : Bool). b || is_among name more) among

wider : (lookup : List ℕ → Option Part) (groups more : List (List ℕ)) (item : Item) → ItemFine lookup groups item → ItemFine lookup (groups ++ more) item
wider lookup groups more (FieldItem (parts.Named named vector) name) fine = among_more named groups more fine
wider lookup groups more (FieldItem (parts.Database other) name) fine = fine
wider lookup groups more (FieldItem (parts.Struct other) name) fine = fine
wider lookup groups more (FieldItem (parts.Class other) name) fine = fine
wider lookup groups more (FieldItem (parts.Plain ty vector) name) fine = fine
wider lookup groups more (FieldItem (parts.Member other) name) fine = fine
wider lookup groups more (FieldItem (parts.Autoid size) name) fine = fine
wider lookup groups more (FieldItem (parts.Index unique kind) name) fine = fine
wider lookup groups more (FieldItem (parts.Key other) name) fine = fine
wider lookup groups more (FieldItem (parts.IndexName other size) name) fine = fine
wider lookup groups more (FieldItem (parts.Event kind) name) fine = fine
wider lookup groups more (FieldItem (parts.Update other) name) fine = fine
wider lookup groups more (FieldItem (parts.EventName other) name) fine = fine
wider lookup groups more (AutoidItem size) fine = fine
wider lookup groups more (IndexItem unique kind names name size) fine = fine
wider lookup groups more (EventItem kind name) fine = fine
wider lookup groups more (UpdateItem field name) fine = fine

pub fine_decls : (all groups classes : List (List ℕ)) (front : List Part) (decls : List Decl) → all ≡ groups ++ groups_in decls → All IsGoodDecl decls → NameCounts groups classes → Keeps (standing groups classes front) (flat_map decl_parts decls)
    → All (DeclFine all) decls × NameCounts (groups ++ groups_in decls) (classes ++ classes_in decls)
fine_decls all groups classes front [] is good counts keeps =
    (All-nil (DeclFine all), subst (λ (groups : List (List ℕ)). NameCounts groups (classes ++ [])) (sym (append-nil groups)) (subst (λ (classes : List (List ℕ)). NameCounts groups classes) (sym (append-nil classes)) counts))
fine_decls all groups classes front (GroupDecl name items ∷ decls) is good counts keeps =
    let this = All-head IsGoodDecl (GroupDecl name items) decls good in
    let body = flat_map item_parts items in
    let rest = flat_map decl_parts decls in
    let lacks = items_lack_heads items (group_items_good items this.2) in
    let rule = group_rule (is_declared (standing groups classes front) name) (nat_le 64 (length groups)) keeps.0 in
    let fresh = or_false (is_among name groups) (is_among name classes) rule.0 in
    let here = counts_of (groups ++ name ∷ []) classes body rest lacks keeps.1 in
    let after = keeps_after (groups ++ name ∷ []) classes [] body rest lacks keeps.1 in
    let line : (groups ++ name ∷ []) ++ groups_in decls ≡ groups ++ name ∷ groups_in decls = append_assoc groups (name ∷ []) (groups_in decls) in
    let others = fine_decls all (groups ++ name ∷ []) classes body decls (is ∙ sym line) (All-tail IsGoodDecl (GroupDecl name items) decls good) (one_group name groups classes fresh.0 fresh.1 (not_full 64 (length groups) rule.1) counts) after in
    (All-cons (DeclFine all) (GroupDecl name items) decls here others.0, subst (λ (groups : List (List ℕ)). NameCounts groups (classes ++ classes_in decls)) line others.1)
fine_decls all groups classes front (ClassDecl name items ∷ decls) is good counts keeps =
    let this = All-head IsGoodDecl (ClassDecl name items) decls good in
    let body = flat_map item_parts items in
    let rest = flat_map decl_parts decls in
    let lacks = items_lack_heads items this.1 in
    let rule = class_rule (is_declared (standing groups classes front) name) (list_any is_member (body_of (body ++ rest))) (nat_le 64 (length classes)) keeps.0 in
    let fresh = or_false (is_among name groups) (is_among name classes) rule.0 in
    let here = counts_of groups (classes ++ name ∷ []) body rest lacks keeps.1 in
    let fine = fine_items groups (classes ++ name ∷ []) items rest this.1 (decls_start decls) keeps.1 in
    let wide : All (ItemFine (λ name. field_type name items) all) items = subst (λ (all : List (List ℕ)). All (ItemFine (λ name. field_type name items) all) items) (sym is) (λ k d lt. wider (λ name. field_type name items) groups (groups_in decls) _ (fine k d lt)) in
    let member : list_any is_member body ≡ true = sym (ap (list_any is_member) (body_is body rest lacks (decls_start decls))) ∙ rule.1 in
    let after = keeps_after groups (classes ++ name ∷ []) [] body rest lacks keeps.1 in
    let others = fine_decls all groups (classes ++ name ∷ []) body decls is (All-tail IsGoodDecl (ClassDecl name items) decls good) (one_class name groups classes fresh.0 fresh.1 (not_full 64 (length classes) rule.2) counts) after in
    (All-cons (DeclFine all) (ClassDecl name items) decls (here, wide, member) others.0, subst (λ (classes : List (List ℕ)). NameCounts (groups ++ groups_in decls) classes) (append_assoc classes (name ∷ []) (classes_in decls)) others.1)

-- ---- structs and classes in canonical order

abbrev pub only_groups : List Decl → List Decl
only_groups [] = []
only_groups (GroupDecl name items ∷ decls) = GroupDecl name items ∷ only_groups decls
only_groups (ClassDecl name items ∷ decls) = only_groups decls

abbrev pub only_classes : List Decl → List Decl
only_classes [] = []
only_classes (GroupDecl name items ∷ decls) = only_classes decls
only_classes (ClassDecl name items ∷ decls) = ClassDecl name (sorted items) ∷ only_classes decls

same_name : (name : List ℕ) → same name name ≡ true
same_name name = (bytes_eq-Decides name name).1 refl

fresh_class : (name : List ℕ) (groups classes more : List (List ℕ)) → NameCounts groups (classes ++ name ∷ more) → (is_among name groups ≡ false) × (is_among name classes ≡ false) × (nat_le 64 (length classes) ≡ false)
fresh_class name groups classes more counts =
    let one : weigh (is_named name) name ≡ 1 = ap (λ (b : Bool). cond b 1 0) (same_name name) in
    let le = counts.once name in
    let both = sum_by-append (weigh (is_named name)) classes (name ∷ more) in
    let cons = sum_by-cons (weigh (is_named name)) name more in
    let few : length classes < 64 = let le = counts.few_classes in let len = length-append classes (name ∷ more) in omega arith in
    (any_from_count (is_named name) groups (omega arith), any_from_count (is_named name) classes (omega arith), room (length classes) few)
  where
    room : (count : ℕ) → count < 64 → nat_le 64 count ≡ false
    room count lt = grind (arith, nat_tests)

fresh_group : (name : List ℕ) (groups more : List (List ℕ)) → NameCounts (groups ++ name ∷ more) [] → (is_among name groups ≡ false) × (nat_le 64 (length groups) ≡ false)
fresh_group name groups more counts =
    let one : weigh (is_named name) name ≡ 1 = ap (λ (b : Bool). cond b 1 0) (same_name name) in
    let le = counts.once name in
    let both = sum_by-append (weigh (is_named name)) groups (name ∷ more) in
    let cons = sum_by-cons (weigh (is_named name)) name more in
    let few : length groups < 64 = let le = counts.few_groups in let len = length-append groups (name ∷ more) in omega arith in
    (any_from_count (is_named name) groups (omega arith), room (length groups) few)
  where
    room : (count : ℕ) → count < 64 → nat_le 64 count ≡ false
    room count lt = grind (arith, nat_tests)

keeps_classes : (all classes : List (List ℕ)) (decls : List Decl) (front : List Part) → All IsGoodDecl decls → All (DeclFine all) decls → NameCounts all (classes ++ classes_in decls) → Keeps (standing all classes front) (flat_map decl_parts (only_classes decls))
keeps_classes all classes [] front good fine counts = tt
keeps_classes all classes (GroupDecl name items ∷ decls) front good fine counts =
    keeps_classes all classes decls front (All-tail IsGoodDecl (GroupDecl name items) decls good) (All-tail (DeclFine all) (GroupDecl name items) decls fine) counts
keeps_classes all classes (ClassDecl name items ∷ decls) front good fine counts =
    let this = All-head IsGoodDecl (ClassDecl name items) decls good in
    let here = All-head (DeclFine all) (ClassDecl name items) decls fine in
    let good_items = all_sorted IsGoodItem items this.1 in
    let rest = flat_map decl_parts (only_classes decls) in
    let anew = decls_start (only_classes decls) in
    let fresh = fresh_class name all classes (classes_in decls) counts in
    let member : list_any is_member (body_of (flat_map item_parts (sorted items) ++ rest)) ≡ true = ap (list_any is_member) (body_is (flat_map item_parts (sorted items)) rest (items_lack_heads (sorted items) good_items) anew) ∙ sorted_members items here.2 in
    let next = subst (λ (classes : List (List ℕ)). NameCounts all classes) (sym (append_assoc classes (name ∷ []) (classes_in decls))) counts in (
      (λ i. if (fresh.0 i || fresh.1 i) then Some Twice else (if not (member i) then Some BadKey else (if fresh.2 i then Some TooMany else None))),
      keeps_items all (classes ++ name ∷ []) (sorted items) rest good_items anew (sorted_counts items here.0) (sorted_fine all items here.1)
          (λ front. keeps_classes all (classes ++ name ∷ []) decls front (All-tail IsGoodDecl (ClassDecl name items) decls good) (All-tail (DeclFine all) (ClassDecl name items) decls fine) next),
    )

group_item_fine : (lookup : List ℕ → Option Part) (groups : List (List ℕ)) (item : Item) → IsGroupItem item → ItemFine lookup groups item
group_item_fine lookup groups (FieldItem (parts.Plain ty false) name) good = tt
group_item_fine lookup groups (FieldItem type name) good = absurd good.0
group_item_fine lookup groups item good = absurd good

keeps_groups : (all groups : List (List ℕ)) (decls : List Decl) (front tail : List Part) → All IsGoodDecl decls → All (DeclFine all) decls → NameCounts (groups ++ groups_in decls) [] → StartsAnew tail
    → ((front : List Part) → Keeps (standing (groups ++ groups_in decls) [] front) tail) → Keeps (standing groups [] front) (flat_map decl_parts (only_groups decls) ++ tail)
keeps_groups all groups [] front tail good fine counts anew more = subst (λ (groups : List (List ℕ)). Keeps (standing groups [] front) tail) (append-nil groups) (more front)
keeps_groups all groups (ClassDecl name items ∷ decls) front tail good fine counts anew more =
    keeps_groups all groups decls front tail (All-tail IsGoodDecl (ClassDecl name items) decls good) (All-tail (DeclFine all) (ClassDecl name items) decls fine) counts anew more
keeps_groups all groups (GroupDecl name items ∷ decls) front tail good fine counts anew more =
    let this = All-head IsGoodDecl (GroupDecl name items) decls good in
    let here = All-head (DeclFine all) (GroupDecl name items) decls fine in
    let rest = flat_map decl_parts (only_groups decls) in
    let fresh = fresh_group name groups (groups_in decls) counts in
    let line : (groups ++ name ∷ []) ++ groups_in decls ≡ groups ++ name ∷ groups_in decls = append_assoc groups (name ∷ []) (groups_in decls) in
    let next = subst (λ (groups : List (List ℕ)). NameCounts groups []) (sym line) counts in
    let after : (front : List Part) → Keeps (standing ((groups ++ name ∷ []) ++ groups_in decls) [] front) tail = λ front. subst (λ (groups : List (List ℕ)). Keeps (standing groups [] front) tail) (sym line) (more front) in
    let items_keep = keeps_items (groups ++ name ∷ []) [] items (rest ++ tail) (group_items_good items this.2) (blocks_start decl_parts decl_starts (only_groups decls) tail anew) here (λ k d lt. group_item_fine (λ name. field_type name items) (groups ++ name ∷ []) _ (this.2 k d lt))
    (λ front. keeps_groups all (groups ++ name ∷ []) decls front tail (All-tail IsGoodDecl (GroupDecl name items) decls good) (All-tail (DeclFine all) (GroupDecl name items) decls fine) next anew after) in (
      (λ i. if (fresh.0 i || false) then Some Twice else (if fresh.1 i then Some TooMany else None)),
      subst (λ (xs : List Part). Keeps (standing (groups ++ name ∷ []) [] []) xs) (sym (append_assoc (flat_map item_parts items) rest tail)) items_keep,
    )

no_classes : (groups classes : List (List ℕ)) → NameCounts groups classes → NameCounts groups []
no_classes groups classes counts = record { once = λ name. let le = counts.once name in omega arith; few_groups = counts.few_groups; few_classes = omega arith }

pub keeps_canonical : (name : List ℕ) (decls : List Decl) → All IsGoodDecl decls → All (DeclFine (groups_in decls)) decls → NameCounts (groups_in decls) (classes_in decls) → Keeps nothing (parts.Database name ∷ (flat_map decl_parts (only_groups decls) ++ flat_map decl_parts (only_classes decls)))
keeps_canonical name decls good fine counts = (
  refl,
  keeps_groups (groups_in decls) [] decls (parts.Database name ∷ []) (flat_map decl_parts (only_classes decls)) good fine (no_classes (groups_in decls) (classes_in decls) counts) (decls_start (only_classes decls))
      (λ front. keeps_classes (groups_in decls) [] decls front good fine counts),
)
