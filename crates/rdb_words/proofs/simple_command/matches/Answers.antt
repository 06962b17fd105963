use Rattle.std.proofs.Common.{ap, ◌∙◌, map, string_bytes}
use Rattle.clap.specs.Simple.{App}
use Rattle.clap.specs.Takes.{takes}
use Rattle.rdb_words.proofs.Ends.{read_by_clap}
use Rattle.rdb_words.proofs.simple_command.matches.Goals as goal

pub want_of_memory-requires : goal.want_of_memory-requires
want_of_memory-requires c =
    let words = map (λ s. string_bytes s) c.args.words.now in
    let r = read_by_clap words c.requires.given c.requires.gives c.requires.manager_plain c.requires.pages_plain in
    c.in-Err.ensures.passes (ap (λ (a : App). takes a words) c.in_ok-command.ensures ∙ r.taken)
