-- Reading a text token by token.
use Rattle.std.proofs.Common.{◌≡◌, ℕ, zero, suc, ◌<◌, ◌≤◌, true, false, List, [], ◌∷◌, ◌++◌, length, Option, Some, None, Result, Ok, Err, refl, sym, ap, ◌∙◌, arith, append_assoc, subst, length-append}
use Rattle.std.proofs.lemmas.List.Elements.{All-push}
use Rattle.std.proofs.lemmas.List.{append-nil}
use Rattle.rdb_schema.specs.declared.syntax.Part.{Part}
use Rattle.rdb_ddl.specs.declared.expect.Expect.{Expect}
use Rattle.rdb_ddl.specs.Token.{Lexeme, Word, Name, Number, Mark, End, Unknown, IsShaped, lexeme_at}
use Rattle.rdb_ddl.specs.Grammar.{Parsed, after, part_of, ends_at, parsed_with, reads}
use Rattle.rdb_ddl.specs.Read.{appended, IsPlaced}

-- what was read before, and what is still read
abbrev pub with_front : Parsed → Result Parsed ℕ → Result Parsed ℕ
with_front front (Ok parsed) = Ok (record { syntax = front.syntax ++ parsed.syntax; lefts = front.lefts ++ parsed.lefts })
with_front front (Err left) = Err left

-- the parts so far, and what the rest of the text reads as, are the whole
pub record Reads (front : Parsed) (expect : Expect) (rest : List ℕ) (whole : Result Parsed ℕ) : Type 0 where
  pub tokens : ℕ
  pub enough : length rest < tokens
  pub so_far : with_front front (reads tokens expect rest) ≡ whole

regroup : (front : Parsed) (part : Option Part) (left : ℕ) (read : Result Parsed ℕ) → with_front (appended front part left) read ≡ with_front front (parsed_with part left read)
regroup front None left (Ok parsed) = refl
regroup front None left (Err fault) = refl
regroup front (Some part) left (Err fault) = refl
regroup front (Some part) left (Ok parsed) =
    ap (λ (syntax : List Part). Ok (record { syntax = syntax; lefts = (front.lefts ++ left ∷ []) ++ parsed.lefts })) (append_assoc front.syntax (part ∷ []) parsed.syntax)
    ∙ ap (λ (lefts : List ℕ). Ok (record { syntax = front.syntax ++ part ∷ parsed.syntax; lefts = lefts })) (append_assoc front.lefts (left ∷ []) parsed.lefts)

-- a token that is allowed leaves less to read
pub goes_on : (expect next : Expect) (word : Word) (rest left total : ℕ) → Some next ≡ after expect word → IsShaped word rest left → left ≤ total → rest < total
goes_on expect next (Name bytes) rest left total allowed shape le = omega arith
goes_on expect next (Number value) rest left total allowed shape le = omega arith
goes_on expect next (Mark sign) rest left total allowed shape le = omega arith
goes_on expect next End rest left total allowed shape le = absurd cc
goes_on expect next Unknown rest left total allowed shape le = absurd cc

pub one_more : (front next_front : Parsed) (expect next : Expect) (rest : List ℕ) (whole : Result Parsed ℕ) (lexeme : Lexeme) → lexeme ≡ lexeme_at rest → Some next ≡ after expect lexeme.word → length lexeme.rest < length rest
    → next_front ≡ appended front (part_of expect lexeme.word lexeme.rest) lexeme.left → Reads front expect rest whole → Reads next_front next lexeme.rest whole
unfolding reads
one_more front next_front expect next rest whole lexeme is allowed shorter more so_far = more_of so_far.tokens so_far.enough so_far.so_far where
  more_of : (tokens : ℕ) → length rest < tokens → with_front front (reads tokens expect rest) ≡ whole → Reads next_front next lexeme.rest whole
  more_of zero enough read = absurd (omega arith)
  more_of (suc tokens) enough read = record {
    tokens = tokens;
    enough = omega arith;
    so_far =
        let step : reads (suc tokens) expect rest ≡ parsed_with (part_of expect lexeme.word lexeme.rest) lexeme.left (reads tokens next lexeme.rest) = rw (← is, ← allowed) refl in
        rw more (regroup front (part_of expect lexeme.word lexeme.rest) lexeme.left (reads tokens next lexeme.rest)) ∙ ap (with_front front) (sym step) ∙ read;
  }

pub is_read : (front : Parsed) (expect : Expect) (rest : List ℕ) (whole : Result Parsed ℕ) (lexeme : Lexeme) → lexeme ≡ lexeme_at rest → None ≡ after expect lexeme.word → ends_at expect lexeme.word ≡ true → Reads front expect rest whole → whole ≡ Ok front
unfolding reads
is_read front expect rest whole lexeme is refused ends so_far = done_of so_far.tokens so_far.enough so_far.so_far where
  done_of : (tokens : ℕ) → length rest < tokens → with_front front (reads tokens expect rest) ≡ whole → whole ≡ Ok front
  done_of zero enough read = absurd (omega arith)
  done_of (suc tokens) enough read =
      let step : reads (suc tokens) expect rest ≡ Ok (record { syntax = []; lefts = [] }) = rw (← is, ← refused, ends) refl in
      sym read ∙ ap (with_front front) step ∙ ap (λ (syntax : List Part). Ok (record { syntax = syntax; lefts = front.lefts ++ [] })) (append-nil front.syntax) ∙ ap (λ (lefts : List ℕ). Ok (record { syntax = front.syntax; lefts = lefts })) (append-nil front.lefts)

pub is_refused : (front : Parsed) (expect : Expect) (rest : List ℕ) (whole : Result Parsed ℕ) (lexeme : Lexeme) → lexeme ≡ lexeme_at rest → None ≡ after expect lexeme.word → ends_at expect lexeme.word ≡ false → Reads front expect rest whole → whole ≡ Err lexeme.left
unfolding reads
is_refused front expect rest whole lexeme is refused stays so_far = done_of so_far.tokens so_far.enough so_far.so_far where
  done_of : (tokens : ℕ) → length rest < tokens → with_front front (reads tokens expect rest) ≡ whole → whole ≡ Err lexeme.left
  done_of zero enough read = absurd (omega arith)
  done_of (suc tokens) enough read =
      let step : reads (suc tokens) expect rest ≡ Err lexeme.left = rw (← is, ← refused, stays) refl in
      sym read ∙ ap (with_front front) step

pub placed_more : (old new : Parsed) (part : Option Part) (left total : ℕ) → new ≡ appended old part left → left ≤ total → IsPlaced old total → IsPlaced new total
placed_more old new None left total is le placed = subst (λ (p : Parsed). IsPlaced p total) (sym is) placed
placed_more old new (Some part) left total is le placed = subst (λ (p : Parsed). IsPlaced p total) (sym is) (record {
  even = simp length-append (omega (arith, placed.even));
  within = All-push (λ n. n ≤ total) old.lefts left placed.within le;
})
