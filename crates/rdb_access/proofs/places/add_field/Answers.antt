use Rattle.std.proofs.Common.{refl}
use Rattle.rdb_access.proofs.Placing.{placed, behind_fixed, behind_step, step_kept}
use Rattle.rdb_access.proofs.places.add_field.Goals as goal

pub returns-in-Some : goal.returns-in-Some
returns-in-Some c =
    let first = placed c.args.types.now c.args.field c.args.offset c.args.table.now _ c.push.new.self c.requires.so_far c.len-steps.ensures refl c.in_ok-push.ensures.ok in
    record {
      whole = first.0;
      right = first.1;
      here = behind_fixed c.args.types.now c.args.field c.args.offset c.in-Some.behind c.at.result.now c.args.table.now.steps c.at.ensures c.requires.so_far.here c.in-Some.ensures;
    }

pub returns : goal.returns
returns c =
    let first = placed c.args.types.now c.args.field c.args.offset c.args.table.now _ c.push.new.self c.requires.so_far c.len-steps.ensures refl c.in_ok-push.ensures.ok in
    record {
      whole = first.0;
      right = step_kept c.args.types.now c.args.table.now.steps _ c.push.new.self c.push-2.new.self first.1 c.in_ok-push-2.ensures.ok;
      here = behind_step c.args.types.now c.args.field c.args.offset c.at.result.now c.args.table.now.steps c.push-2.new.self _ c.at.ensures refl refl c.in_ok-push-2.ensures.ok c.requires.so_far.here;
    }
