use Rattle.std.proofs.Common.{◌≡◌, ◌++◌, List, length, sym, ap, subst, ◌∙◌, arith}
use Rattle.std.specs.Prelude.{IsPermutation}
use borrow.Author.Tests.{eqb-true}
use Rattle.rdb_rtree.specs.declared.entry.Entry.{Entry}
use Rattle.rdb_rtree.proofs.ListLemmas.{removed_one}
use Rattle.rdb_rtree.proofs.SplitLemmas.{two_taken, goes_first, goes_second, so_many, pushed, one_less}
use Rattle.rdb_rtree.proofs.split.split.Goals as goal

pub loop-rest-init : goal.loop-rest-init
loop-rest-init c =
    let order = c.seeds-lower.ensures in
    let same = ap (length {A = Entry}) c.as_slice.ensures.value in
    let first = removed_one c.args.entries.items c.remove.new.self.items c.seeds-lower.result.1 c.remove.result (omega arith) c.remove.ensures.value c.remove.ensures.items in
    let less = one_less c.args.entries.items c.remove.new.self.items c.remove.result first in
    let second = removed_one c.remove.new.self.items c.remove-2.new.self.items c.seeds-lower.result.0 c.remove-2.result (omega arith) c.remove-2.ensures.value c.remove-2.ensures.items in
    let lesser = one_less c.remove.new.self.items c.remove-2.new.self.items c.remove-2.result second in
    let left = ap (length {A = Entry}) c.of-left.ensures in
    let right = ap (length {A = Entry}) c.of-right.ensures in
    let large = c.requires in
    record {
      all = rw (c.of-left.ensures, c.of-right.ensures) (two_taken c.args.entries.items c.remove.new.self.items c.remove-2.new.self.items c.remove.result c.remove-2.result first second);
      left = omega arith;
      right = omega arith;
    }

pub goes_left-requires : goal.goes_left-requires
goes_left-requires c =
    let many = so_many c.args.entries.items c.loop-rest.left.entries.items c.loop-rest.right.entries.items c.loop-rest.rest.items c.loop-rest.invariant.all in
    let less = c.remove-entry.ensures.len in
    let large = c.requires in
    omega arith

pub add-requires : goal.add-requires
add-requires c =
    let many = so_many c.args.entries.items c.loop-rest.left.entries.items c.loop-rest.right.entries.items c.loop-rest.rest.items c.loop-rest.invariant.all in
    let less = c.remove-entry.ensures.len in
    let few = c.as_slice.ensures.fits in
    let same = ap (length {A = Entry}) c.as_slice.ensures.value in
    omega arith

pub loop-rest-preserved-then-goes_left : goal.loop-rest-preserved-then-goes_left
loop-rest-preserved-then-goes_left c =
    let seen = ap (length {A = Entry}) c.as_slice-in-loop-rest.ensures.value in
    let place = c.most_decided-place.ensures in
    let gone = removed_one c.loop-rest.rest.items c.remove-entry.new.self.items c.most_decided-place.result c.remove-entry.result (omega arith) c.remove-entry.ensures.value c.remove-entry.ensures.items in
    let less = c.remove-entry.ensures.len in
    let long = pushed c.loop-rest.left.entries.items c.add.new.self.entries.items c.remove-entry.result c.add.ensures in
    let kept = c.goes_left.ensures.left c.if-goes_left.true in
    let left = c.loop-rest.invariant.left in
    record {
      all = subst (λ (es : List Entry). IsPermutation c.args.entries.items ((es ++ c.loop-rest.right.entries.items) ++ c.remove-entry.new.self.items)) (sym c.add.ensures)
          (goes_first c.args.entries.items c.loop-rest.left.entries.items c.loop-rest.right.entries.items c.loop-rest.rest.items c.remove-entry.new.self.items c.remove-entry.result c.loop-rest.invariant.all gone);
      left = omega arith;
      right = kept;
    }

pub add-requires-else-goes_left : goal.add-requires-else-goes_left
add-requires-else-goes_left c =
    let many = so_many c.args.entries.items c.loop-rest.left.entries.items c.loop-rest.right.entries.items c.loop-rest.rest.items c.loop-rest.invariant.all in
    let less = c.remove-entry.ensures.len in
    let few = c.as_slice.ensures.fits in
    let same = ap (length {A = Entry}) c.as_slice.ensures.value in
    omega arith

pub loop-rest-preserved : goal.loop-rest-preserved
loop-rest-preserved c =
    let seen = ap (length {A = Entry}) c.as_slice-in-loop-rest.ensures.value in
    let place = c.most_decided-place.ensures in
    let gone = removed_one c.loop-rest.rest.items c.remove-entry.new.self.items c.most_decided-place.result c.remove-entry.result (omega arith) c.remove-entry.ensures.value c.remove-entry.ensures.items in
    let less = c.remove-entry.ensures.len in
    let long = pushed c.loop-rest.right.entries.items c.add-else-goes_left.new.self.entries.items c.remove-entry.result c.add-else-goes_left.ensures in
    let kept = c.goes_left.ensures.right c.if-goes_left.false in
    let right = c.loop-rest.invariant.right in
    record {
      all = subst (λ (es : List Entry). IsPermutation c.args.entries.items ((c.loop-rest.left.entries.items ++ es) ++ c.remove-entry.new.self.items)) (sym c.add-else-goes_left.ensures)
          (goes_second c.args.entries.items c.loop-rest.left.entries.items c.loop-rest.right.entries.items c.loop-rest.rest.items c.remove-entry.new.self.items c.remove-entry.result c.loop-rest.invariant.all gone);
      left = kept;
      right = omega arith;
    }

pub returns-clause-left : goal.returns-clause-left
returns-clause-left c =
    let many = so_many c.args.entries.items c.loop-rest.left.entries.items c.loop-rest.right.entries.items c.loop-rest.rest.items c.loop-rest.invariant.all in
    let few = c.as_slice.ensures.fits in
    let same = ap (length {A = Entry}) c.as_slice.ensures.value in
    let left = c.loop-rest.invariant.left in
    let right = c.loop-rest.invariant.right in
    let none : length c.loop-rest.rest.items ≡ 0 = eqb-true (length c.loop-rest.rest.items) 0 (sym c.is_empty.ensures ∙ c.loop-rest-test.false) in
    (omega arith, omega arith)

pub returns-clause-right : goal.returns-clause-right
returns-clause-right c =
    let many = so_many c.args.entries.items c.loop-rest.left.entries.items c.loop-rest.right.entries.items c.loop-rest.rest.items c.loop-rest.invariant.all in
    let few = c.as_slice.ensures.fits in
    let same = ap (length {A = Entry}) c.as_slice.ensures.value in
    let left = c.loop-rest.invariant.left in
    let right = c.loop-rest.invariant.right in
    let none : length c.loop-rest.rest.items ≡ 0 = eqb-true (length c.loop-rest.rest.items) 0 (sym c.is_empty.ensures ∙ c.loop-rest-test.false) in
    (omega arith, omega arith)
