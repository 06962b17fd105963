use Rattle.std.proofs.Common.{rules, ap, ap₂, codes, true, ◌≡◌, ◌∙◌}
use Rattle.std.proofs.lemmas.Result.{IfOk-weaker}
use Rattle.clap.specs.Simple.{app_of, app_of_fields, with_rule, on_top, new_app}
use Rattle.clap.specs.Walk.{rule_of}
use Rattle.rdb_words.specs.SimpleCommand.{manager_rule, pages_rule, threads_rule, name_rule}
use Rattle.rdb_words.proofs.simple_command.command.Goals as goal

pub returns : goal.returns
returns c =
    let manager_is : rule_of c.action-manager.result ≡ manager_rule = search rules in
    let pages_is : rule_of c.action-pages.result ≡ pages_rule = search rules in
    let threads_is : rule_of c.action-threads.result ≡ threads_rule = search rules in
    let name_is : rule_of c.action-names.result ≡ name_rule = search rules in
    let base : app_of c.disable_help_flag.result ≡ on_top (λ s. record s { no_binary_name = true; disable_help_flag = true }) (new_app (codes "regiondb")) =
    ap app_of_fields c.disable_help_flag.ensures
    ∙ ap (on_top (λ s. record s { disable_help_flag = true }))
    (ap app_of_fields c.no_binary_name.ensures ∙ ap (on_top (λ s. record s { no_binary_name = true })) c.new-5.ensures.app) in
    let one : app_of c.in_ok-arg.field-0 ≡ with_rule (on_top (λ s. record s { no_binary_name = true; disable_help_flag = true }) (new_app (codes "regiondb"))) manager_rule =
    c.in_ok-arg.ensures.shape (search rules) ∙ ap₂ with_rule base manager_is in
    let two = c.in_ok-arg-2.ensures.shape (search rules) ∙ ap₂ with_rule one pages_is in
    let three = c.in_ok-arg-3.ensures.shape (search rules) ∙ ap₂ with_rule two threads_is in
    IfOk-weaker c.arg-4.result _ _ (λ m added. added.shape (search rules) ∙ ap₂ with_rule three name_is) c.arg-4.ensures
