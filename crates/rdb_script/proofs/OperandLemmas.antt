-- The operands of operations that are words.
use Rattle.std.proofs.Common.{◌≡◌, ◌≢◌, ℕ, Bool, true, false, ◌&&◌, cond, List, Option, Some, None, IfSome, refl, sym, ap, ◌∙◌, subst, arith}
use Rattle.std.specs.Prelude.{IsSome}
use Rattle.std.proofs.lemmas.Bool.{cond-true, cond-false, false≢true}
use Rattle.rdb_schema.specs.declared.schema.Schema.{Schema}
use Rattle.rdb_script.specs.declared.statement.Member.{Member}
use Rattle.rdb_script.specs.declared.statement.Target.{Target}
use Rattle.rdb_script.specs.Lines.{word, behind, is_end, is_name, name_in}
use Rattle.rdb_script.specs.Statements.{Known, IsTarget, IsTargetBy, is_object, holds_place, cursor_in}

-- a word that is read as a name is one
pub is_named : (w name : List ℕ) → Some name ≡ name_in w → (is_name w ≡ true) × (name ≡ w)
is_named w name e = by_test (is_name w) refl
  where
    by_test : (b : Bool) → is_name w ≡ b → (is_name w ≡ true) × (name ≡ w)
    by_test true t = (t, let h : Some name ≡ Some w = e ∙ cond-true (is_name w) (Some w) None t in cc)
    by_test false t = absurd (let h : Some name ≡ None = e ∙ cond-false (is_name w) (Some w) None t in cc)

pub not_named : (w : List ℕ) → None ≡ name_in w → is_name w ≡ false
not_named w e = by_test (is_name w) refl
  where
    by_test : (b : Bool) → is_name w ≡ b → is_name w ≡ false
    by_test true t = absurd (let h : None ≡ Some w = e ∙ cond-true (is_name w) (Some w) None t in cc)
    by_test false t = t

-- a target that is a name
pub name_target : (schema : Schema) (known : Known) (class : ℕ) (w : List ℕ) (target : Target) → is_name w ≡ true → IsTargetBy true schema known class w target → IsTarget schema known class w target
name_target schema known class w target e h = subst (λ (b : Bool). IsTargetBy b schema known class w target) (sym e) h

pub of_name_target : (schema : Schema) (known : Known) (class : ℕ) (w : List ℕ) (target : Target) → is_name w ≡ true → IsTarget schema known class w target → IsTargetBy true schema known class w target
of_name_target schema known class w target e h = subst (λ (b : Bool). IsTargetBy b schema known class w target) e h

pub id_target : (schema : Schema) (known : Known) (class : ℕ) (w : List ℕ) (target : Target) → is_name w ≡ false → IsTargetBy false schema known class w target → IsTarget schema known class w target
id_target schema known class w target e h = subst (λ (b : Bool). IsTargetBy b schema known class w target) (sym e) h

pub of_id_target : (schema : Schema) (known : Known) (class : ℕ) (w : List ℕ) (target : Target) → is_name w ≡ false → IsTarget schema known class w target → IsTargetBy false schema known class w target
of_id_target schema known class w target e h = subst (λ (b : Bool). IsTargetBy b schema known class w target) e h

-- the parts of a cursor's test
pub cursor_parts : (known : Known) (m : Member) (text : List ℕ) → cursor_in known m text ≡ true → (is_name (word text) ≡ true) × (holds_place known m (word text) ≡ true) × (is_end (behind text) ≡ true)
cursor_parts known m text e = parts (is_name (word text)) (holds_place known m (word text)) (is_end (behind text)) e
  where
    parts : (a b c : Bool) → (a && (b && c)) ≡ true → (a ≡ true) × (b ≡ true) × (c ≡ true)
    parts true true true h = (refl, refl, refl)
    parts true true false h = absurd (false≢true h)
    parts true false c h = absurd (false≢true h)
    parts false b c h = absurd (false≢true h)

pub is_cursor : (known : Known) (m : Member) (text : List ℕ) → is_name (word text) ≡ true → holds_place known m (word text) ≡ true → is_end (behind text) ≡ true → cursor_in known m text ≡ true
is_cursor known m text a b c = λ i. a i && (b i && c i)
