use Rattle.std.proofs.Common.{◌≡◌, ℕ, List, ◌++◌, sym, ap, ◌∙◌, arith}
use Rattle.rdb_base.specs.declared.value.Value.TheVariants as value
use Rattle.rdb_literals.specs.SpelledValues.{IsLeafText, IsElementText, IsListText}
use Rattle.rdb_literals.specs.FirstSigns.{clash, list_in}
use Rattle.rdb_literals.proofs.ListLemmas.{at_some, if_some, at_none}
use Rattle.rdb_literals.proofs.ValueLemmas.{value_by, no_leaf_40, no_leaf_123}
use Rattle.rdb_literals.proofs.spelled.lists.ValueWritten.read_at.Goals as goal

pub returns-in-Some-clause-exact : goal.returns-in-Some-clause-exact
returns-in-Some-clause-exact c = λ spelled rest v is ends e.
    let found = if_some c.in_ok-elements.field-0 (c.in-Some.elements, c.in-Some.rest) (λ p. (s : List ℕ) × IsListText IsElementText 40 41 s p.0 × (c.args.text.now ≡ s ++ p.1.now)) c.in_ok-elements.ensures.found c.in-Some.is in
    value_by (λ w. (value.List c.in-Some.elements ≡ w) × (c.in-Some.rest.now ≡ rest)) spelled v
    (λ l h. absurd (no_leaf_40 found.0 spelled c.in-Some.rest.now rest l (list_in IsElementText 40 41 found.0 c.in-Some.elements found.1) h (sym found.2 ∙ e)))
    (λ elements h.
    let same = at_some c.in_ok-elements.field-0 (c.in-Some.elements, c.in-Some.rest) (λ p. (p.0 ≡ elements) × (p.1.now ≡ rest)) (c.in_ok-elements.ensures.exact spelled rest elements h e) c.in-Some.is in
    (ap value.List same.0, same.1))
    (λ leaves h. absurd (clash 40 40 123 123 found.0 spelled c.in-Some.rest.now rest (list_in IsElementText 40 41 found.0 c.in-Some.elements found.1) (list_in IsLeafText 123 125 spelled leaves h) (omega arith) (sym found.2 ∙ e))) is

pub returns-in-Some-2-clause-exact : goal.returns-in-Some-2-clause-exact
returns-in-Some-2-clause-exact c = λ spelled rest v is ends e.
    let found = if_some c.in_ok-leaves.field-0 (c.in-Some-2.leaves, c.in-Some-2.rest) (λ p. (s : List ℕ) × IsListText IsLeafText 123 125 s p.0 × (c.args.text.now ≡ s ++ p.1.now)) c.in_ok-leaves.ensures.found c.in-Some-2.is in
    value_by (λ w. (value.Group c.in-Some-2.leaves ≡ w) × (c.in-Some-2.rest.now ≡ rest)) spelled v
    (λ l h. absurd (no_leaf_123 found.0 spelled c.in-Some-2.rest.now rest l (list_in IsLeafText 123 125 found.0 c.in-Some-2.leaves found.1) h (sym found.2 ∙ e)))
    (λ elements h. absurd (at_none c.in_ok-elements.field-0 (λ p. (p.0 ≡ elements) × (p.1.now ≡ rest)) (c.in_ok-elements.ensures.exact spelled rest elements h e) c.in_default.is))
    (λ leaves h.
    let same = at_some c.in_ok-leaves.field-0 (c.in-Some-2.leaves, c.in-Some-2.rest) (λ p. (p.0 ≡ leaves) × (p.1.now ≡ rest)) (c.in_ok-leaves.ensures.exact spelled rest leaves h e) c.in-Some-2.is in
    (ap value.Group same.0, same.1)) is

pub returns-in-Some-3-clause-exact : goal.returns-in-Some-3-clause-exact
returns-in-Some-3-clause-exact c = λ spelled rest v is ends e.
    value_by (λ w. (value.Leaf c.in-Some-3.leaf ≡ w) × (c.in-Some-3.rest.now ≡ rest)) spelled v
    (λ l h.
    let same = at_some c.in_ok-leaf.field-0 (c.in-Some-3.leaf, c.in-Some-3.rest) (λ p. (p.0 ≡ l) × (p.1.now ≡ rest)) (c.in_ok-leaf.ensures.exact spelled rest l h ends e) c.in-Some-3.is in
    (ap value.Leaf same.0, same.1))
    (λ elements h. absurd (at_none c.in_ok-elements.field-0 (λ p. (p.0 ≡ elements) × (p.1.now ≡ rest)) (c.in_ok-elements.ensures.exact spelled rest elements h e) c.in_default.is))
    (λ leaves h. absurd (at_none c.in_ok-leaves.field-0 (λ p. (p.0 ≡ leaves) × (p.1.now ≡ rest)) (c.in_ok-leaves.ensures.exact spelled rest leaves h e) c.in_default-2.is)) is

pub returns-in-None-clause-exact : goal.returns-in-None-clause-exact
returns-in-None-clause-exact c = λ spelled rest v is ends e.
    value_by (λ w. ⊥) spelled v
    (λ l h. at_none c.in_ok-leaf.field-0 (λ p. (p.0 ≡ l) × (p.1.now ≡ rest)) (c.in_ok-leaf.ensures.exact spelled rest l h ends e) c.in-None.is)
    (λ elements h. at_none c.in_ok-elements.field-0 (λ p. (p.0 ≡ elements) × (p.1.now ≡ rest)) (c.in_ok-elements.ensures.exact spelled rest elements h e) c.in_default.is)
    (λ leaves h. at_none c.in_ok-leaves.field-0 (λ p. (p.0 ≡ leaves) × (p.1.now ≡ rest)) (c.in_ok-leaves.ensures.exact spelled rest leaves h e) c.in_default-2.is) is
