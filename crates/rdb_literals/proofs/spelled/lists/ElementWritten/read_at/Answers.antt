use Rattle.std.proofs.Common.{◌≡◌, ℕ, List, ◌++◌, sym, ap, ◌∙◌}
use Rattle.rdb_base.specs.declared.value.Element.TheVariants as element
use Rattle.rdb_literals.specs.SpelledValues.{IsLeafText, IsListText}
use Rattle.rdb_literals.specs.FirstSigns.{list_in}
use Rattle.rdb_literals.proofs.ListLemmas.{at_some, if_some, at_none}
use Rattle.rdb_literals.proofs.ValueLemmas.{element_by, no_leaf_123}
use Rattle.rdb_literals.proofs.spelled.lists.ElementWritten.read_at.Goals as goal

pub returns-in-Some-clause-exact : goal.returns-in-Some-clause-exact
returns-in-Some-clause-exact c = λ spelled rest value is ends e.
    let found = if_some c.in_ok-leaves.field-0 (c.in-Some.leaves, c.in-Some.rest) (λ p. (s : List ℕ) × IsListText IsLeafText 123 125 s p.0 × (c.args.text.now ≡ s ++ p.1.now)) c.in_ok-leaves.ensures.found c.in-Some.is in
    element_by (λ v. (element.Group c.in-Some.leaves ≡ v) × (c.in-Some.rest.now ≡ rest)) spelled value
    (λ l h. absurd (no_leaf_123 found.0 spelled c.in-Some.rest.now rest l (list_in IsLeafText 123 125 found.0 c.in-Some.leaves found.1) h (sym found.2 ∙ e)))
    (λ leaves h.
    let same = at_some c.in_ok-leaves.field-0 (c.in-Some.leaves, c.in-Some.rest) (λ p. (p.0 ≡ leaves) × (p.1.now ≡ rest)) (c.in_ok-leaves.ensures.exact spelled rest leaves h e) c.in-Some.is in
    (ap element.Group same.0, same.1)) is

pub returns-in-Some-2-clause-exact : goal.returns-in-Some-2-clause-exact
returns-in-Some-2-clause-exact c = λ spelled rest value is ends e.
    element_by (λ v. (element.Leaf c.in-Some-2.leaf ≡ v) × (c.in-Some-2.rest.now ≡ rest)) spelled value
    (λ l h.
    let same = at_some c.in_ok-leaf.field-0 (c.in-Some-2.leaf, c.in-Some-2.rest) (λ p. (p.0 ≡ l) × (p.1.now ≡ rest)) (c.in_ok-leaf.ensures.exact spelled rest l h ends e) c.in-Some-2.is in
    (ap element.Leaf same.0, same.1))
    (λ leaves h. absurd (at_none c.in_ok-leaves.field-0 (λ p. (p.0 ≡ leaves) × (p.1.now ≡ rest)) (c.in_ok-leaves.ensures.exact spelled rest leaves h e) c.in_default.is)) is

pub returns-in-None-clause-exact : goal.returns-in-None-clause-exact
returns-in-None-clause-exact c = λ spelled rest value is ends e.
    element_by (λ v. ⊥) spelled value
    (λ l h. at_none c.in_ok-leaf.field-0 (λ p. (p.0 ≡ l) × (p.1.now ≡ rest)) (c.in_ok-leaf.ensures.exact spelled rest l h ends e) c.in-None.is)
    (λ leaves h. at_none c.in_ok-leaves.field-0 (λ p. (p.0 ≡ leaves) × (p.1.now ≡ rest)) (c.in_ok-leaves.ensures.exact spelled rest leaves h e) c.in_default.is) is
