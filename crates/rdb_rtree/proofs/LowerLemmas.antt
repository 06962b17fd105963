-- The root of a tree is written with what is left to it, or the head leads to the only node that is left, or to none.
use Rattle.std.proofs.Common.{◌≡◌, ◌≢◌, ◌≤◌, ◌<◌, zero, suc, ℕ, List, [], ◌∷◌, length, Some, inl, inr, refl, sym, subst, ◌∙◌, arith}
use Rattle.std.proofs.lemmas.List.{append-nil}
use Rattle.std.proofs.lemmas.List.Sorted.{IsPermutation-refl}
use Rattle.std.specs.Prelude.{IsPermutation}
use Rattle.rdb_pages.specs.declared.cell.CellRef.{CellRef}
use Rattle.rdb_pages.specs.Pages.{zero_cell}
use Rattle.rdb_cells.specs.declared.kind.Kind.TheVariants as kind
use Rattle.rdb_cells.specs.HeadFormat.{index_head_cell, rooted_head}
use Rattle.rdb_cells.specs.Keys.{Sayings}
use Rattle.rdb_cells.specs.Links.{IsAmong}
use Rattle.rdb_cells.specs.Words.{HasKind, no_ref}
use Rattle.rdb_cells.specs.Work.{Work, reading}
use Rattle.rdb_cells.proofs.WorkLemmas.{put_reads}
use Rattle.rdb_rtree.specs.Changes.{cell_of, with_cell, IsAccount, cells_below, versions_below, entries_above, first_place, IsToLower, IsLowered}
use Rattle.rdb_rtree.specs.RtreeLaws.{all_stand_still, nodes_of_all}
use Rattle.rdb_rtree.specs.Trees.{RTree, cells, versions, Empty, Rooted, root_entries}
use Rattle.rdb_rtree.specs.declared.entry.Entry.{Entry}
use Rattle.rdb_rtree.proofs.AccountLemmas.{node_bare, head_bare, zero_bare, node_spent, head_spent, account_put, account_within, account_then}
use Rattle.rdb_rtree.proofs.RootLemmas.{not_head}
use Rattle.rdb_rtree.proofs.SettleLemmas.{IsWritten}
use Rattle.rdb_rtree.proofs.WrittenLemmas.{written_stands, written_shaped, written_kind}

pub least_above : (level : ℕ) → level ≢ 0 → 2 ≡ root_entries level
least_above zero above = absurd (above refl)
least_above (suc h) above = refl

pub least_some : (h : ℕ) → 1 ≤ root_entries h
least_some zero = omega arith
least_some (suc h) = omega arith

pub least_few : (h : ℕ) → root_entries h ≤ 2
least_few zero = omega arith
least_few (suc h) = omega arith

module _ (said : Sayings) (w : Work) (head root : CellRef) (level h : ℕ) (ts : List (RTree h)) (entries : List Entry) (is : IsToLower said w head root level h ts entries) where
  pub head_is : HasKind (reading w) kind.IndexHead head.number
  head_is = (index_head_cell (rooted_head root), is.leads, refl)

  root_apart : root.number ≢ head.number
  root_apart = not_head (reading w) root.number head.number is.held head_is

  -- the root is written again
  pub lowered_kept : (r : Entry) → IsWritten level entries root r → root_entries h ≤ length ts → IsLowered said w (with_cell w root (cell_of level r.cover entries)) head root h ts
  lowered_kept r written enough =
      let here = (put_reads w root (cell_of level r.cover entries)).here in
      record {
        gone = [];
        now = Rooted h (record { at = root; cover = r.cover; below = ts });
        leads = (put_reads w root (cell_of level r.cover entries)).elsewhere head.number (λ same. root_apart (sym same)) ∙ is.leads;
        stands = written_stands said level h ts entries r.cover is.level_is is.entries_are (reading (with_cell w root (cell_of level r.cover entries))) root written.proper here
            (all_stand_still (reading w) (reading (with_cell w root (cell_of level r.cover entries))) h ts (λ n within. (put_reads w root (cell_of level r.cover entries)).elsewhere n (λ same. is.apart (subst (IsAmong (cells_below h ts)) same within))) is.sound.stand);
        shape = written_shaped said level h ts entries r.cover is.level_is is.entries_are root (root_entries h) enough written.covers is.sound.shaped;
        list = IsPermutation-refl (versions_below h ts);
        places = IsPermutation-refl (root.number ∷ cells_below h ts);
        zero = λ n none. absurd none;
        account = account_within w (with_cell w root (cell_of level r.cover entries)) (root.number ∷ []) (head.number ∷ root.number ∷ []) [] 1 2
            (account_put w root (cell_of level r.cover entries) (node_spent w root.number is.held) (node_bare (reading w) root.number is.held)
            (node_bare (reading (with_cell w root (cell_of level r.cover entries))) root.number (written_kind (reading (with_cell w root (cell_of level r.cover entries))) root.number level r.cover entries here)))
            (omega arith) (λ n within. inr within);
      }

  -- the root's cell is zero, and the head leads to another one
  module _ (top : CellRef) where
    pub led_zero : reading (with_cell (with_cell w root zero_cell) head (index_head_cell (rooted_head top))) root.number ≡ Some zero_cell
    led_zero = (put_reads (with_cell w root zero_cell) head (index_head_cell (rooted_head top))).elsewhere root.number root_apart ∙ (put_reads w root zero_cell).here

    pub led_leads : reading (with_cell (with_cell w root zero_cell) head (index_head_cell (rooted_head top))) head.number ≡ Some (index_head_cell (rooted_head top))
    led_leads = (put_reads (with_cell w root zero_cell) head (index_head_cell (rooted_head top))).here

    head_there : HasKind (reading (with_cell w root zero_cell)) kind.IndexHead head.number
    head_there = (head_is.0, (put_reads w root zero_cell).elsewhere head.number (λ same. root_apart (sym same)) ∙ head_is.1, head_is.2)

    pub led_frame : (n : ℕ) → IsAmong (cells_below h ts) n → reading (with_cell (with_cell w root zero_cell) head (index_head_cell (rooted_head top))) n ≡ reading w n
    led_frame n within =
        let has = nodes_of_all (reading w) h ts n is.sound.stand within in
        (put_reads (with_cell w root zero_cell) head (index_head_cell (rooted_head top))).elsewhere n (not_head (reading w) n head.number has head_is)
        ∙ (put_reads w root zero_cell).elsewhere n (λ same. is.apart (subst (IsAmong (cells_below h ts)) same within))

    pub led_account : IsAccount w (with_cell (with_cell w root zero_cell) head (index_head_cell (rooted_head top))) (head.number ∷ root.number ∷ []) [] 2
    led_account = account_then w (with_cell w root zero_cell) (with_cell (with_cell w root zero_cell) head (index_head_cell (rooted_head top))) (root.number ∷ []) (head.number ∷ []) (head.number ∷ root.number ∷ []) [] [] 1 1
        (account_put w root zero_cell (node_spent w root.number is.held) (node_bare (reading w) root.number is.held) (zero_bare (reading (with_cell w root zero_cell)) root.number (put_reads w root zero_cell).here))
        (account_put (with_cell w root zero_cell) head (index_head_cell (rooted_head top)) (head_spent (with_cell w root zero_cell) head.number head_there) (head_bare (reading (with_cell w root zero_cell)) head.number head_there)
        (head_bare (reading (with_cell (with_cell w root zero_cell) head (index_head_cell (rooted_head top)))) head.number (index_head_cell (rooted_head top), led_leads, refl)))
        (λ n within. inr within) (λ n within. inl (elim within [ inl same ↦ inl same | inr none ↦ absurd none ]))

    pub led_gone : (n : ℕ) → IsAmong (root.number ∷ []) n → reading (with_cell (with_cell w root zero_cell) head (index_head_cell (rooted_head top))) n ≡ Some zero_cell
    led_gone n within = elim within [
      | inl same ↦ subst (λ (m : ℕ). reading (with_cell (with_cell w root zero_cell) head (index_head_cell (rooted_head top))) m ≡ Some zero_cell) same led_zero
      | inr none ↦ absurd none
    ]

-- fewer are left than a root has
pub lowered_led : (said : Sayings) (w : Work) (head root : CellRef) (level h : ℕ) (ts : List (RTree h)) (entries : List Entry) → IsToLower said w head root level h ts entries → length ts < root_entries h → IsLowered said w (with_cell (with_cell w root zero_cell) head (index_head_cell (rooted_head (first_place (entries_above said h ts))))) head root h ts
lowered_led said w head root level zero [] entries is short = record {
  gone = root.number ∷ [];
  now = Empty;
  leads = led_leads said w head root level zero [] entries is no_ref;
  stands = tt;
  shape = tt;
  list = IsPermutation-refl [];
  places = IsPermutation-refl (root.number ∷ []);
  zero = led_gone said w head root level zero [] entries is no_ref;
  account = led_account said w head root level zero [] entries is no_ref;
}
lowered_led said w head root level zero (r ∷ rs) entries is short = absurd (omega arith)
lowered_led said w head root level (suc k) [] entries is short = absurd (let one = is.one (omega arith) in omega arith)
lowered_led said w head root level (suc k) (t ∷ []) entries is short =
    let few = least_few k in
    let enough = is.sound.shaped.0.0.enough in
    record {
      gone = root.number ∷ [];
      now = Rooted k t;
      leads = led_leads said w head root level (suc k) (t ∷ []) entries is t.at;
      stands = (all_stand_still (reading w) (reading (with_cell (with_cell w root zero_cell) head (index_head_cell (rooted_head t.at)))) (suc k) (t ∷ []) (led_frame said w head root level (suc k) (t ∷ []) entries is t.at) is.sound.stand).0;
      shape = (record { enough = omega arith; covers = is.sound.shaped.0.0.covers }, is.sound.shaped.0.1);
      list = subst (λ (rs : List CellRef). IsPermutation rs (versions (suc k) t)) (sym (append-nil (versions (suc k) t))) (IsPermutation-refl (versions (suc k) t));
      places = subst (λ (ns : List ℕ). IsPermutation (root.number ∷ cells (suc k) t) (root.number ∷ ns)) (sym (append-nil (cells (suc k) t))) (IsPermutation-refl (root.number ∷ cells (suc k) t));
      zero = led_gone said w head root level (suc k) (t ∷ []) entries is t.at;
      account = led_account said w head root level (suc k) (t ∷ []) entries is t.at;
    }
lowered_led said w head root level (suc k) (t ∷ u ∷ ts) entries is short = absurd (omega arith)
