-- The readers with one entry more, by its kind.
use Rattle.std.proofs.Common.{◌≡◌, ◌<◌, ◌≤◌, ◌&&◌, nat_le, [], ◌∷◌, ◌++◌, length, get_or, set, refl, sym, ap, subst, arith, ne_eqb}
use Rattle.std.proofs.lemmas.List.{get_or_read}
use Rattle.rdb_base.specs.declared.journal.Entry.TheVariants as entry
use Rattle.rdb_model.specs.Journal.{commits}
use Rattle.rdb_model.specs.Tallies.{AreReaders}
use Rattle.rdb_model.proofs.TallyLemmas.{readers_commit, readers_read, readers_other}
use Rattle.rdb_model.proofs.judging.add_reader.Goals as goal

pub returns-in_ok-push-in-Commit : goal.returns-in_ok-push-in-Commit
returns-in_ok-push-in-Commit c = λ earlier long have.
    rw (c.in-Commit.is, c.in_ok-push-in-Commit.ensures.items, c.new.ensures) (readers_commit earlier c.in-Commit.story c.in-Commit.commit c.args.readers.now.items have)

pub returns-in_ok-push-in-Read : goal.returns-in_ok-push-in-Read
returns-in_ok-push-in-Read c = λ earlier long have.
    let readers = c.args.readers.now.items in
    let story = c.in-Read.story in
    let within : story.snapshot < length readers = omega (arith, c.len.ensures, c.if-snapshot-len.true) in
    let value : c.index_mut.result.now ≡ get_or readers story.snapshot [] = get_or_read readers story.snapshot c.index_mut.result.now within c.index_mut.ensures.value [] in
    rw (c.in-Read.is, c.in_ok-push-in-Read.ensures.ok) (subst (λ l. AreReaders (earlier ++ entry.Read story ∷ []) (set readers story.snapshot (l ++ c.args.place ∷ []))) (sym value) (readers_read earlier story readers c.args.place have within (sym long)))

pub returns-else-snapshot-len : goal.returns-else-snapshot-len
returns-else-snapshot-len c = λ earlier long have.
    let readers = c.args.readers.now.items in
    let story = c.in-Read.story in
    let past : length readers ≤ story.snapshot = omega (arith, c.len.ensures, c.if-snapshot-len.false) in
    rw c.in-Read.is (readers_other earlier (entry.Read story) readers refl (λ n lt. ap (λ b. b && nat_le n (commits earlier)) (ne_eqb story.snapshot n (λ same. omega arith))) have)

pub returns-in-Abort : goal.returns-in-Abort
returns-in-Abort c = λ earlier long have. rw c.in-Abort.is (readers_other earlier (entry.Abort c.in-Abort.story c.in-Abort.cause) c.args.readers.now.items refl (λ n lt. refl) have)

pub returns-in-Handled : goal.returns-in-Handled
returns-in-Handled c = λ earlier long have. rw c.in-Handled.is (readers_other earlier (entry.Handled c.in-Handled.client c.in-Handled.by c.in-Handled.at c.in-Handled.finished) c.args.readers.now.items refl (λ n lt. refl) have)

pub returns-in-Closed : goal.returns-in-Closed
returns-in-Closed c = λ earlier long have. rw c.in-Closed.is (readers_other earlier (entry.Closed c.in-Closed.client) c.args.readers.now.items refl (λ n lt. refl) have)
