-- The tree answers as the folder's map.
use Rattle.std.proofs.Common.{ap, sym, ◌∙◌}
use Rattle.std.specs.FinMap.{get}
use Rattle.rdb_base.proofs.FolderLemmas.{get-named}
use Rattle.rdb_base.proofs.folder.Folder.get.Goals as goal

pub returns : goal.returns
returns c =
    c.get.ensures.value
    ∙ sym (get-named c.self.inside.files c.args.name.now)
    ∙ ap (λ folder. get folder c.args.name.now) c.self.view_is
