-- A folder's map answers as the tree that keeps it.
use Rattle.std.proofs.Common.{◌≡◌, refl, ap, sym, ◌∙◌, List, [], ◌∷◌, ℕ, cond}
use Rattle.std.specs.Prelude.{String, Option, Some}
use Rattle.std.specs.String.{string_bytes, string_cmp}
use Rattle.std.specs.Ordering.{nat_cmp, is_eq}
use Rattle.std.specs.Str.{bytes_eq}
use Rattle.std.proofs.lemmas.Cmp.{nat_list_cmp_total, eq_by_cmp_equiv}
use Rattle.std.specs.Cmp.Lexicographic.{slice_cmp}
use Rattle.std.specs.Map.{lookup}
use Rattle.std.specs.BTreeMap.{BTreeMap, is_at, get_by_text, UpdatesBy}
use Rattle.std.specs.FinMap.{FinMap, get, insert, from_entries, find, get-from_entries, get-insert, same_map, slice_cmp-IsAntisymmetric, nat_cmp-IsAntisymmetric}
use Rattle.std.specs.declared.alloc.Global.{Global}
use Rattle.std.proofs.lemmas.Map.Text.{is_eq-slice_cmp, btree_map_updates_text}
use Rattle.rdb_base.specs.Memory.{named}

same_test : (name q : List ℕ) → bytes_eq name q ≡ is_eq (slice_cmp nat_cmp q name)
same_test name q = sym ((eq_by_cmp_equiv nat_list_cmp_total).symm q name ∙ is_eq-slice_cmp name q)

module _ {X : Type 0} where
  find-named : (q : List ℕ) (es : List (String Global × X)) → find (slice_cmp nat_cmp) q (named es) ≡ lookup (is_at (λ k. slice_cmp nat_cmp q (string_bytes k))) es
  find-named q [] = refl
  find-named q (e ∷ es) = ap (cond (is_eq (slice_cmp nat_cmp q (string_bytes e.0))) (Some e.1)) (find-named q es)

  -- the map of a tree's entries answers as the tree
  pub get-named : (m : BTreeMap (String Global) X) (q : List ℕ) → get (from_entries {R = slice_cmp nat_cmp} (named m.entries)) q ≡ get_by_text m q
  get-named m q = get-from_entries nat_list_cmp_total _ q ∙ find-named q m.entries

  -- a tree that was changed at a name is the map with that name inserted
  pub insert-named : (name : List ℕ) (old new : BTreeMap (String Global) X) (x : X) → UpdatesBy string_cmp (λ k. slice_cmp nat_cmp name (string_bytes k)) old new (Some x)
      → from_entries {R = slice_cmp nat_cmp} (named new.entries) ≡ insert (from_entries (named old.entries)) name x
  insert-named name old new x updates = same_map nat_list_cmp_total (slice_cmp-IsAntisymmetric nat_cmp-IsAntisymmetric) _ _ (λ q.
      get-named new q
      ∙ btree_map_updates_text name old new (Some x) updates q
      ∙ (λ i. cond (same_test name q i) (Some x) (sym (get-named old q) i))
      ∙ sym (get-insert nat_list_cmp_total (from_entries (named old.entries)) name x q))
