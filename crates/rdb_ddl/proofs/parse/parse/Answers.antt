use Rattle.std.proofs.Common.{◌≡◌, length, true, false, sym, ap, ◌∙◌, arith}
use Rattle.rdb_ddl.specs.Token.{view, view_lexeme}
use Rattle.rdb_ddl.specs.Grammar.{grammar, ends_at}
use Rattle.rdb_ddl.specs.Read.{parsed_of, appended}
use Rattle.rdb_ddl.proofs.Reading.{goes_on, one_more, is_read, is_refused, placed_more}
use Rattle.rdb_ddl.proofs.parse.parse.Goals as goal

pub tokens-preserved : goal.tokens-preserved
tokens-preserved c =
    let found = c.lexeme_at-lexeme.result in
    let shape = c.lexeme_at-lexeme.ensures.shape in
    let old = parsed_of c.tokens.parsed in
    let shorter = goes_on c.tokens.expect c.in-Some.next (view found.token) (length found.rest.now) found.left (length c.tokens.rest.now) c.in-Some.ensures shape.0 shape.1 in
    let more = c.in_ok-append-in-Some.ensures ∙ ap (λ part. appended old part found.left) c.in_ok-part-in-Some.ensures in (
      one_more old (parsed_of c.append.new.parsed) c.tokens.expect c.in-Some.next c.tokens.rest.now (grammar c.args.text.now) (view_lexeme found) c.lexeme_at-lexeme.ensures.value c.in-Some.ensures shorter more c.tokens.invariant.0,
      placed_more old (parsed_of c.append.new.parsed) _ found.left (length c.args.text.now) more (omega (arith, shape.1)) c.tokens.invariant.1,
      omega (arith, shorter),
    )

pub returns-in-None : goal.returns-in-None
returns-in-None c =
    let found = c.lexeme_at-lexeme.result in
    let ends : ends_at c.tokens.expect (view found.token) ≡ true = sym c.ends_at.ensures ∙ c.if-ends_at.true in
    record {
      parts = is_read (parsed_of c.tokens.parsed) c.tokens.expect c.tokens.rest.now (grammar c.args.text.now) (view_lexeme found) c.lexeme_at-lexeme.ensures.value c.in-None.ensures ends c.tokens.invariant.0;
      places = c.tokens.invariant.1;
    }

pub returns-in-None-2 : goal.returns-in-None-2
returns-in-None-2 c =
    let found = c.lexeme_at-lexeme.result in
    let stays : ends_at c.tokens.expect (view found.token) ≡ false = sym c.ends_at.ensures ∙ c.if-ends_at.false in
    record {
      parts = is_refused (parsed_of c.tokens.parsed) c.tokens.expect c.tokens.rest.now (grammar c.args.text.now) (view_lexeme found) c.lexeme_at-lexeme.ensures.value c.in-None.ensures stays c.tokens.invariant.0;
      places = omega (arith, c.lexeme_at-lexeme.ensures.shape.1);
    }
