use Rattle.std.proofs.Common.{◌≡◌, ℕ, List, ◌++◌, length, take, drop, Option, Some, None, MatchOption, IfSome, Bor, true, false, sym, ap, ◌∙◌, nat_eq, ◌+◌}
use Rattle.std.specs.Prelude.{IsSomeAnd}
use Rattle.std.specs.Cmp.Lexicographic.{pointwise}
use Rattle.std.proofs.lemmas.Slice.Eq.{bytes_eq-Decides}
use Rattle.std.proofs.lemmas.Bool.{false≢true}
use Rattle.std.proofs.lemmas.List.{take-append-drop}
use Rattle.std.proofs.Math.Seq.{take-append_seam, drop-append_seam}
use Rattle.rdb_literals.proofs.front.after.Goals as goal

-- what `strip_prefix` says
abbrev Strips : List ℕ → List ℕ → Option (Bor (List ℕ)) → Type 0
Strips text word None = pointwise nat_eq (take (length word) text) word ≡ false
Strips text word (Some x) = (pointwise nat_eq (take (length word) text) word ≡ true) × (x.now ≡ drop (length word) text)

found_by : (text word : List ℕ) (r : Option (Bor (List ℕ))) → Strips text word r → IfSome r (λ rest. text ≡ word ++ rest.now)
found_by text word None h = tt
found_by text word (Some x) h = sym (take-append-drop (length word) text) ∙ ap (λ front. front ++ drop (length word) text) ((bytes_eq-Decides (take (length word) text) word).0 h.0) ∙ ap (λ rest. word ++ rest) (sym h.1)

exact_by : (text word rest : List ℕ) (r : Option (Bor (List ℕ))) → Strips text word r → text ≡ word ++ rest → IsSomeAnd r (λ found. found.now ≡ rest)
exact_by text word rest None h e = absurd (false≢true (sym h ∙ (bytes_eq-Decides (take (length word) text) word).1 (ap (take (length word)) e ∙ take-append_seam word rest)))
exact_by text word rest (Some x) h e = h.1 ∙ ap (drop (length word)) e ∙ drop-append_seam word rest

strips : (text word : List ℕ) (r : Option (Bor (List ℕ))) → MatchOption r (pointwise nat_eq (take (length word) text) word ≡ false) (λ x. (pointwise nat_eq (take (length word) text) word ≡ true) × (x.now ≡ drop (length word) text) × (length x.now + length word ≡ length text)) → Strips text word r
strips text word None h = h
strips text word (Some x) h = (h.0, h.1)

pub returns-clause-found : goal.returns-clause-found
returns-clause-found c = found_by c.args.text.now c.args.word.now c.strip_prefix.result (strips c.args.text.now c.args.word.now c.strip_prefix.result c.strip_prefix.ensures.cases)

pub returns-clause-exact : goal.returns-clause-exact
returns-clause-exact c = λ rest e. exact_by c.args.text.now c.args.word.now rest c.strip_prefix.result (strips c.args.text.now c.args.word.now c.strip_prefix.result c.strip_prefix.ensures.cases) e
