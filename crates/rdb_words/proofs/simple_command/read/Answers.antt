use Rattle.std.proofs.Common.{◌∙◌, map, string_bytes}
use Rattle.clap.specs.Matches.{found_of}
use Rattle.rdb_words.proofs.Ends.{read_by_clap}
use Rattle.rdb_words.proofs.Reading.{text_option, names_found, manager_found, pages_found, threads_found, flag_is, have_room}
use Rattle.rdb_words.proofs.simple_command.read.Goals as goal

pub unreachable-requires : goal.unreachable-requires
unreachable-requires c =
    let words = map (λ s. string_bytes s) c.args.words.now in
    let r = read_by_clap words c.requires.given c.requires.gives c.requires.manager_plain c.requires.pages_plain in
    have_room _ _ (names_found (found_of c.in_ok-found.found) words c.requires.given r c.in_ok-found.ensures) c.requires.few c.in_default.ensures.none

pub returns : goal.returns
returns c = λ given gives manager_plain pages_plain.
    let words = map (λ s. string_bytes s) c.args.words.now in
    let r = read_by_clap words given gives manager_plain pages_plain in
    let f = found_of c.in_ok-found.found in
    let manager = text_option _ ∙ c.get_str.ensures ∙ manager_found f words given r c.in_ok-found.ensures in
    let pages = text_option _ ∙ c.get_str-2.ensures ∙ pages_found f words given r c.in_ok-found.ensures in
    let flag = flag_is given.with_threads c.get_flag.result _ (threads_found f words given r c.in_ok-found.ensures) c.get_flag.ensures.value c.get_flag.ensures.other in
    let names = c.in-Some.ensures.some ∙ names_found f words given r c.in_ok-found.ensures in
    λ i. record { manager_value = manager i; pages_value = pages i; with_threads = flag i; names = names i }
