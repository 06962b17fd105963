use Rattle.std.proofs.Common.{◌≡◌, sym, ap, ◌∙◌, arith}
use mir.Syntax.{w128}
use mir.Val.{to_z, of_z}
use Rattle.rdb_base.specs.declared.value.Leaf.TheVariants as leaf
use Rattle.rdb_literals.specs.FirstSigns.{clash, number_in, quoted_in, rect_in}
use Rattle.rdb_literals.proofs.ListLemmas.{at_some, at_none}
use Rattle.rdb_literals.proofs.NumberLemmas.{number_back}
use Rattle.rdb_literals.proofs.ValueLemmas.{leaf_by}
use Rattle.rdb_literals.proofs.spelled.lists.LeafWritten.read_at.Goals as goal

pub returns-in-Some-clause-exact : goal.returns-in-Some-clause-exact
returns-in-Some-clause-exact c = λ spelled rest value is ends e.
    let found = c.in-Some.ensures.found in
    leaf_by (λ v. (leaf.Num (to_z w128 (of_z w128 c.in-Some.number)) ≡ v) × (c.in-Some.rest.now ≡ rest)) spelled value
    (λ n h. let same = c.in-Some.ensures.exact spelled rest n h ends e in (ap leaf.Num (number_back found.0 c.in-Some.number found.1 ∙ same.0), same.1))
    (λ words h. absurd (clash 34 34 45 57 spelled found.0 rest c.in-Some.rest.now (quoted_in spelled words h) (number_in found.0 c.in-Some.number found.1) (omega arith) (sym e ∙ found.2)))
    (λ r h. absurd (clash 45 57 91 91 found.0 spelled c.in-Some.rest.now rest (number_in found.0 c.in-Some.number found.1) (rect_in spelled r h) (omega arith) (sym found.2 ∙ e))) is

pub returns-in-Some-rect_at-clause-exact : goal.returns-in-Some-rect_at-clause-exact
returns-in-Some-rect_at-clause-exact c = λ spelled rest value is ends e.
    let found = c.in-Some-rect_at.ensures.found in
    leaf_by (λ v. (leaf.Rect c.in-Some-rect_at.rect ≡ v) × (c.in-Some-rect_at.rest.now ≡ rest)) spelled value
    (λ n h. absurd (clash 45 57 91 91 spelled found.0 rest c.in-Some-rect_at.rest.now (number_in spelled n h) (rect_in found.0 c.in-Some-rect_at.rect found.1) (omega arith) (sym e ∙ found.2)))
    (λ words h. absurd (clash 34 34 91 91 spelled found.0 rest c.in-Some-rect_at.rest.now (quoted_in spelled words h) (rect_in found.0 c.in-Some-rect_at.rect found.1) (omega arith) (sym e ∙ found.2)))
    (λ r h. let same = c.in-Some-rect_at.ensures.exact spelled rest r h e in (ap leaf.Rect same.0, same.1)) is

pub returns-in-Some-2-clause-exact : goal.returns-in-Some-2-clause-exact
returns-in-Some-2-clause-exact c = λ spelled rest value is ends e.
    leaf_by (λ v. (leaf.Text c.in-Some-2.words ≡ v) × (c.in-Some-2.rest.now ≡ rest)) spelled value
    (λ n h. absurd (c.in_default.ensures.exact spelled rest n h ends e))
    (λ words h.
    let same = at_some c.in_ok-words.field-0 (c.in-Some-2.words, c.in-Some-2.rest) (λ p. (p.0 ≡ words) × (p.1.now ≡ rest)) (c.in_ok-words.ensures.exact spelled words rest h e) c.in-Some-2.is in
    (ap leaf.Text same.0, same.1))
    (λ r h. absurd (c.in_default-rect_at.ensures.exact spelled rest r h e)) is

pub returns-in-None-clause-exact : goal.returns-in-None-clause-exact
returns-in-None-clause-exact c = λ spelled rest value is ends e.
    leaf_by (λ v. ⊥) spelled value
    (λ n h. c.in_default.ensures.exact spelled rest n h ends e)
    (λ words h. at_none c.in_ok-words.field-0 (λ p. (p.0 ≡ words) × (p.1.now ≡ rest)) (c.in_ok-words.ensures.exact spelled words rest h e) c.in-None.is)
    (λ r h. c.in_default-rect_at.ensures.exact spelled rest r h e) is
