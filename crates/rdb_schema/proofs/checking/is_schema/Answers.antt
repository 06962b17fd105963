use Rattle.std.proofs.Common.{rules, ◌≤◌, ◌↔◌, IsTrue, List, length, subst}
use Rattle.std.specs.List.{All}
use Rattle.rdb_schema.specs.declared.schema.Group.{Group}
use Rattle.rdb_schema.specs.declared.schema.Class.{Class}
use Rattle.rdb_schema.specs.Names.{IsName}
use Rattle.rdb_schema.specs.Checked.{IsGroupDeclared, IsClassDeclared}
use Rattle.rdb_schema.proofs.CheckingLemmas.{from_checks, to_classes}
use Rattle.rdb_schema.proofs.checking.is_schema.Goals as goal

pub returns-then-are_groups : goal.returns-then-are_groups
returns-then-are_groups c =
    let schema = c.args.schema.now in
    let name : IsName schema.name = search rules in
    let groups : (length schema.groups ≤ 64) × All IsGroupDeclared schema.groups = search rules in
    let classes = subst (λ (groups : List Group). IsTrue c.are_classes.result ↔ ((length schema.classes ≤ 64) × All (IsClassDeclared groups) schema.classes)) c.as_slice-groups.ensures
    (subst (λ (classes : List Class). IsTrue c.are_classes.result ↔ ((length classes ≤ 64) × All (IsClassDeclared c.as_slice-groups.result.now) classes)) c.as_slice.ensures c.are_classes.ensures) in
    (λ t. from_checks schema name groups (classes.0 t), λ is. classes.1 (to_classes schema is))
