use Rattle.std.proofs.Common.{◌≡◌, ℕ, List, ◌++◌, ◌+◌, ◌-◌, length, take, drop, Option, Some, None, MatchOption, IfSome, Bor, true, false, sym, ap, ◌∙◌, nat_eq, arith, length-append}
use Rattle.std.specs.Prelude.{IsSomeAnd}
use Rattle.std.specs.Cmp.Lexicographic.{pointwise}
use Rattle.std.proofs.lemmas.Slice.Eq.{bytes_eq-Decides}
use Rattle.std.proofs.lemmas.Bool.{false≢true}
use Rattle.std.proofs.lemmas.List.{take-append-drop}
use Rattle.std.proofs.Math.Seq.{take-append_seam, drop-append_seam}
use Rattle.rdb_literals.proofs.front.before.Goals as goal

-- what `strip_suffix` says
abbrev Strips : List ℕ → List ℕ → Option (Bor (List ℕ)) → Type 0
Strips text word None = pointwise nat_eq (drop (length text - length word) text) word ≡ false
Strips text word (Some x) = (pointwise nat_eq (drop (length text - length word) text) word ≡ true) × (x.now ≡ take (length text - length word) text)

found_by : (text word : List ℕ) (r : Option (Bor (List ℕ))) → Strips text word r → IfSome r (λ front. text ≡ front.now ++ word)
found_by text word None h = tt
found_by text word (Some x) h = sym (take-append-drop (length text - length word) text) ∙ ap (λ back. take (length text - length word) text ++ back) ((bytes_eq-Decides (drop (length text - length word) text) word).0 h.0) ∙ ap (λ front. front ++ word) (sym h.1)

-- where the word begins
seam : (text word front : List ℕ) → text ≡ front ++ word → length text - length word ≡ length front
seam text word front e = let n = ap length e ∙ length-append front word in omega arith

exact_by : (text word front : List ℕ) (r : Option (Bor (List ℕ))) → Strips text word r → text ≡ front ++ word → IsSomeAnd r (λ found. found.now ≡ front)
exact_by text word front None h e = absurd (false≢true (sym h ∙ (bytes_eq-Decides (drop (length text - length word) text) word).1 ((λ i. drop (seam text word front e i) (e i)) ∙ drop-append_seam front word)))
exact_by text word front (Some x) h e = h.1 ∙ (λ i. take (seam text word front e i) (e i)) ∙ take-append_seam front word

strips : (text word : List ℕ) (r : Option (Bor (List ℕ))) → MatchOption r (pointwise nat_eq (drop (length text - length word) text) word ≡ false) (λ x. (pointwise nat_eq (drop (length text - length word) text) word ≡ true) × (x.now ≡ take (length text - length word) text) × (length x.now + length word ≡ length text)) → Strips text word r
strips text word None h = h
strips text word (Some x) h = (h.0, h.1)

pub returns-clause-found : goal.returns-clause-found
returns-clause-found c = found_by c.args.text.now c.args.word.now c.strip_suffix.result (strips c.args.text.now c.args.word.now c.strip_suffix.result c.strip_suffix.ensures.cases)

pub returns-clause-exact : goal.returns-clause-exact
returns-clause-exact c = λ front e. exact_by c.args.text.now c.args.word.now front c.strip_suffix.result (strips c.args.text.now c.args.word.now c.strip_suffix.result c.strip_suffix.ensures.cases) e
