-- What one more operation adds to a run on the plain database, and that the journal of such a run is legal.
use Rattle.std.proofs.Common.{◌≡◌, ℕ, zero, suc, length, take, get_or, ◌+◌, ◌<◌, ◌≤◌, Bool, true, false, cond, not, ◌&&◌, ◌||◌, eqb, List, [], ◌∷◌, ◌++◌, map, Option, Some, None, refl, sym, ap, ◌∙◌, subst, arith}
use Rattle.std.specs.Option.{option_map, option_map_or}
use Rattle.std.specs.Cmp.{IsTotalOrder}
use Rattle.std.specs.Prelude.{IsSome, nat_eq}
use Rattle.std.specs.Cmp.Lexicographic.{pointwise}
use Rattle.std.proofs.lemmas.Bool.{false≢true}
use Rattle.std.proofs.lemmas.Bool.Decides.{nat_tests}
use Rattle.std.proofs.lemmas.Cmp.{tied_itself}
use Rattle.std.proofs.lemmas.List.{take_more, length-take}
use Rattle.std.specs.List.{AllByRecursion}
use Rattle.rdb_journal.specs.Lines.{StepNamesExist}
use Rattle.rdb_runner.proofs.PlainFits.{by_op, length_after, step_named}
use Rattle.rdb_runner.proofs.PlainShape.{schema_of, plain_has_one, is_written}
use Rattle.std.specs.Ordering.{is_eq}
use Rattle.rdb_base.specs.Order.{row_order}
use Rattle.rdb_base.specs.declared.operation.Op.{Op}
use Rattle.rdb_base.specs.declared.operation.Reply.{Reply}
use Rattle.rdb_base.specs.declared.operation.Reply.TheVariants as reply
use Rattle.rdb_schema.specs.declared.schema.Schema.{Schema}
use Rattle.rdb_model.specs.Database.{Database, empty}
use Rattle.rdb_model.specs.Answer.{answer}
use Rattle.rdb_model.specs.Story.{run, same_reply}
use Rattle.rdb_model.specs.Journal.{IsLegal, wrong_reply, was_made}
use Rattle.rdb_model.specs.declared.legality.Legality.TheVariants as legality
use Rattle.rdb_model.specs.declared.legality.Why.TheVariants as why
use Rattle.rdb_base.specs.declared.operation.Op.TheVariants as op
use Rattle.rdb_schema.specs.declared.schema.Class.{Class}
use Rattle.rdb_script.specs.declared.unit.ScriptLine.{ScriptLine}
use Rattle.rdb_model.specs.Database.{Row}
use Rattle.rdb_runner.specs.PlainReport.{operation_of, makes, numbered, asked_by, journal_of, AreAnswered}
use Rattle.rdb_runner.specs.PlainSchema.{is_plain_schema}
use Rattle.rdb_runner.specs.Runs.{CanDo, CanRun}

-- how many rows operations make
abbrev pub made_by : List Op → ℕ
made_by [] = 0
made_by (asked ∷ others) = makes asked + made_by others

-- the operations with one more
numbered-snoc : (next : ℕ) (asked : List Op) (one : Op) → numbered next (asked ++ one ∷ []) ≡ numbered next asked ++ operation_of (next + made_by asked) one ∷ []
numbered-snoc next [] one = let same : next ≡ next + made_by [] = omega arith in ap (λ (k : ℕ). operation_of k one ∷ []) same
numbered-snoc next (a ∷ asked) one =
    let same : next + makes a + made_by asked ≡ next + made_by (a ∷ asked) = omega arith in
    ap (λ (os : List Op). operation_of next a ∷ os) (numbered-snoc (next + makes a) asked one ∙ ap (λ (k : ℕ). numbered (next + makes a) asked ++ operation_of k one ∷ []) same)

-- the rows made with one more
made_by-snoc : (asked : List Op) (one : Op) → made_by (asked ++ one ∷ []) ≡ made_by asked + makes one
made_by-snoc [] one = omega arith
made_by-snoc (a ∷ asked) one = omega (arith, made_by-snoc asked one)

one_at_most : (asked : Op) → makes asked ≤ 1
one_at_most (op.New class row id) = omega arith
one_at_most (op.Get class id) = omega arith
one_at_most (op.Put class id row) = omega arith
one_at_most (op.Del class id) = omega arith
one_at_most (op.Find class index key) = omega arith
one_at_most (op.Seek class index from up) = omega arith
one_at_most (op.Area class index rect inside) = omega arith
one_at_most (op.Prefix class index text way) = omega arith
one_at_most (op.Count class) = omega arith

-- no more rows are made than there are lines
made_by-le : (lines : List ScriptLine) → made_by (asked_by lines) ≤ length lines
made_by-le [] = omega arith
made_by-le (l ∷ lines) = omega (arith, made_by-le lines, one_at_most l.op)

asked_more : (lines : List ScriptLine) (one : ScriptLine) → asked_by (lines ++ one ∷ []) ≡ asked_by lines ++ one.op ∷ []
asked_more [] one = refl
asked_more (l ∷ lines) one = ap (λ (os : List Op). l.op ∷ os) (asked_more lines one)

all_asked : (t : Schema) (lines : List ScriptLine) → AllByRecursion (CanRun t) lines → AllByRecursion (CanDo t) (asked_by lines)
all_asked t [] all = tt
all_asked t (l ∷ lines) all = (all.0, all_asked t lines all.1)

taken : (b : Bool) (r : Option Database) (mid : Database) → cond b r None ≡ Some mid → (b ≡ true) × (r ≡ Some mid)
taken true r mid e = (refl, e)
taken false r mid e = let none : None ≡ Some mid = e in cc

-- a run with one operation more
pub run-snoc : (schema : Schema) (db : Database) (done : List (Op × Reply)) (d : Op × Reply) (mid : Database) → run schema db done ≡ Some mid → same_reply (answer schema mid d.0).0 d.1 ≡ true → run schema db (done ++ d ∷ []) ≡ Some (answer schema mid d.0).1
run-snoc schema db [] d mid e same =
    let at : db ≡ mid = cc in
    subst (λ (start : Database). run schema start (d ∷ []) ≡ Some (answer schema mid d.0).1) (sym at) (ap (λ (b : Bool). cond b (Some (answer schema mid d.0).1) None) same)
run-snoc schema db (x ∷ done) d mid e same =
    let told = answer schema db x.0 in
    let t = taken (same_reply told.0 x.1) (run schema told.1 done) mid e in
    ap (λ (b : Bool). cond b (run schema told.1 (done ++ d ∷ [])) None) t.0 ∙ run-snoc schema told.1 done d mid t.1 same

eqb-refl : (n : ℕ) → eqb n n ≡ true
eqb-refl n = grind (arith, nat_tests)

-- a reply is itself
pub same_reply-refl : IsTotalOrder row_order → (r : Reply) → same_reply r r ≡ true
same_reply-refl total (reply.Made a) = eqb-refl a
same_reply-refl total (reply.Row a) = ap is_eq (tied_itself total a)
same_reply-refl total reply.Done = refl
same_reply-refl total reply.NotFound = refl
same_reply-refl total (reply.Duplicate i a) = ap (λ (b : Bool). b && eqb a a) (eqb-refl i) ∙ eqb-refl a
same_reply-refl total (reply.Ids as_) = ids as_
  where
    ids : (xs : List ℕ) → pointwise nat_eq xs xs ≡ true
    ids [] = refl
    ids (x ∷ xs) = ap (λ (b : Bool). b && pointwise nat_eq xs xs) (eqb-refl x) ∙ ids xs
same_reply-refl total (reply.At k a) = ap (λ (b : Bool). b && eqb a a) (ap is_eq (tied_itself total k)) ∙ eqb-refl a
same_reply-refl total reply.End = refl
same_reply-refl total (reply.Count a) = eqb-refl a

-- each object made so far has an id below the next
abbrev pub AllBelow : List (ℕ × ℕ) → ℕ → Type 0
AllBelow [] next = Unit {0}
AllBelow (m ∷ made) next = (m.1 < next) × AllBelow made next

below_more : (made : List (ℕ × ℕ)) (next id : ℕ) → id ≡ next → AllBelow made next → AllBelow (made ++ (0, id) ∷ []) (next + 1)
below_more [] next id e h = (omega arith, tt)
below_more (m ∷ made) next id e h = (omega (arith, h.0), below_more made next id e h.1)

below_same : (made : List (ℕ × ℕ)) (next : ℕ) → AllBelow made next → AllBelow (made ++ []) next
below_same [] next h = tt
below_same (m ∷ made) next h = (h.0, below_same made next h.1)

eqb-above : (a b : ℕ) → a < b → eqb a b ≡ false
eqb-above a b h = grind (arith, nat_tests)

and_false : (b : Bool) → (b && false) ≡ false
and_false true = refl
and_false false = refl

new_made : (made : List (ℕ × ℕ)) (next id : ℕ) → id ≡ next → AllBelow made next → was_made made (0, id) ≡ false
new_made [] next id e h = refl
new_made (m ∷ made) next id e h =
    ap (λ (b : Bool). (eqb m.0 0 && b) || was_made made (0, id)) (eqb-above m.1 id (omega (arith, h.0)))
    ∙ ap (λ (b : Bool). b || was_made made (0, id)) (and_false (eqb m.0 0)) ∙ new_made made next id e h.1

same_number : (a b : ℕ) → eqb a b ≡ true → b ≡ a
same_number a b h = grind (arith, nat_tests)

-- a row that is made is answered by the plain database, and is a new object
new_step : (s : Schema) (c : Class) (row : Row) (next first : ℕ) (db mid : Database) (p : Op) (told : Reply) (done : List (Op × Reply)) (made : List (ℕ × ℕ)) → p ≡ op.New 0 row next → run (schema_of s c) db ((p, told) ∷ done) ≡ Some mid → AllBelow made next
    → ((m : ℕ) → m ≡ next → run (schema_of s c) (answer (schema_of s c) db (op.New 0 row next)).1 done ≡ Some mid → wrong_reply (schema_of s c) (answer (schema_of s c) db (op.New 0 row next)).1 (made ++ (0, m) ∷ []) (first + 1) done ≡ None)
    → wrong_reply (schema_of s c) db made first ((p, told) ∷ done) ≡ None
new_step s c row next first db mid p told done made is r h rest =
    subst (λ (q : Op). wrong_reply (schema_of s c) db made first ((q, told) ∷ done) ≡ None) (sym is) (by_reply told (subst (λ (q : Op). run (schema_of s c) db ((q, told) ∷ done) ≡ Some mid) is r))
  where
    by_reply : (told : Reply) → run (schema_of s c) db ((op.New 0 row next, told) ∷ done) ≡ Some mid → wrong_reply (schema_of s c) db made first ((op.New 0 row next, told) ∷ done) ≡ None
    by_reply (reply.Made m) r =
        let after = (answer (schema_of s c) db (op.New 0 row next)).1 in
        let t = taken (eqb next m) (run (schema_of s c) after done) mid r in
        let at = same_number next m t.0 in
        (λ i. cond (t.0 i && not (new_made made next m at h i)) (wrong_reply (schema_of s c) after (made ++ (0, m) ∷ []) (first + 1) done) (Some first))
        ∙ rest m at t.1
    by_reply (reply.Row found) r = let no : None ≡ Some mid = r in cc
    by_reply reply.Done r = let no : None ≡ Some mid = r in cc
    by_reply reply.NotFound r = let no : None ≡ Some mid = r in cc
    by_reply (reply.Duplicate i id) r = let no : None ≡ Some mid = r in cc
    by_reply (reply.Ids ids) r = let no : None ≡ Some mid = r in cc
    by_reply (reply.At key id) r = let no : None ≡ Some mid = r in cc
    by_reply reply.End r = let no : None ≡ Some mid = r in cc
    by_reply (reply.Count n) r = let no : None ≡ Some mid = r in cc

-- a row that is read is answered by the plain database
get_step : (s : Schema) (c : Class) (id first : ℕ) (db mid : Database) (p : Op) (told : Reply) (done : List (Op × Reply)) (made : List (ℕ × ℕ)) → p ≡ op.Get 0 id → run (schema_of s c) db ((p, told) ∷ done) ≡ Some mid
    → (run (schema_of s c) db done ≡ Some mid → wrong_reply (schema_of s c) db (made ++ []) (first + 1) done ≡ None)
    → wrong_reply (schema_of s c) db made first ((p, told) ∷ done) ≡ None
get_step s c id first db mid p told done made is r rest =
    let ran : run (schema_of s c) db ((op.Get 0 id, told) ∷ done) ≡ Some mid = subst (λ (q : Op). run (schema_of s c) db ((q, told) ∷ done) ≡ Some mid) is r in
    let found = (answer (schema_of s c) db (op.Get 0 id)).0 in
    let t = taken (same_reply found told) (run (schema_of s c) db done) mid ran in
    subst (λ (q : Op). wrong_reply (schema_of s c) db made first ((q, told) ∷ done) ≡ None) (sym is)
    (ap (λ (b : Bool). cond (b && true) (wrong_reply (schema_of s c) db (made ++ []) (first + 1) done) (Some first)) t.0 ∙ rest t.1)

-- each operation is answered by the plain database, and makes a new object
none_wrong : (t s : Schema) (c : Class) (asked : List Op) (next first : ℕ) (db mid : Database) (done : List (Op × Reply)) (made : List (ℕ × ℕ)) → AllByRecursion (CanDo t) asked → map (λ (x : Op × Reply). x.0) done ≡ numbered next asked → run (schema_of s c) db done ≡ Some mid → AllBelow made next → wrong_reply (schema_of s c) db made first done ≡ None
none_wrong t s c [] next first db mid [] made all e r h = refl
none_wrong t s c [] next first db mid (x ∷ done) made all e r h = cc
none_wrong t s c (a ∷ asked) next first db mid [] made all e r h = cc
none_wrong t s c (a ∷ asked) next first db mid ((p, told) ∷ done) made all e r h =
    by_op (λ (o : Op). p ∷ map (λ (x : Op × Reply). x.0) done ≡ operation_of next o ∷ numbered (next + makes o) asked → wrong_reply (schema_of s c) db made first ((p, told) ∷ done) ≡ None) t a all.0
    (λ row id fit same.
    let both : p ∷ map (λ (x : Op × Reply). x.0) done ≡ op.New 0 row next ∷ numbered (next + 1) asked = same in
    let is : p ≡ op.New 0 row next = cc in
    let others : map (λ (x : Op × Reply). x.0) done ≡ numbered (next + 1) asked = cc in
    new_step s c row next first db mid p told done made is r h
    (λ m at ran. none_wrong t s c asked (next + 1) (first + 1) (answer (schema_of s c) db (op.New 0 row next)).1 mid done (made ++ (0, m) ∷ []) all.1 others ran (below_more made next m at h)))
    (λ id same.
    let still : next + 0 ≡ next = omega arith in
    let both : p ∷ map (λ (x : Op × Reply). x.0) done ≡ op.Get 0 id ∷ numbered next asked = same ∙ ap (λ (k : ℕ). op.Get 0 id ∷ numbered k asked) still in
    let is : p ≡ op.Get 0 id = cc in
    let others : map (λ (x : Op × Reply). x.0) done ≡ numbered next asked = cc in
    get_step s c id first db mid p told done made is r
    (λ ran. none_wrong t s c asked next (first + 1) db mid done (made ++ []) all.1 others ran (below_same made next h)))
    e

some_of : (o : Option Database) → IsSome o → (mid : Database) × (o ≡ Some mid)
some_of None h = let no : false ≡ true = h in absurd (false≢true no)
some_of (Some mid) h = (mid, refl)

written_is_legal : (t s : Schema) (c : Class) (lines : List ScriptLine) (done : List (Op × Reply)) → AllByRecursion (CanRun t) lines → AreAnswered (schema_of s c) lines done → IsLegal (schema_of s c) (journal_of done)
written_is_legal t s c lines done all a =
    let ran = some_of (run (schema_of s c) (empty 1) done) a.runs in
    ap (λ (w : Option ℕ). option_map_or (legality.Illegal 1) (option_map why.Reply w) legality.Legal) (none_wrong t s c (asked_by lines) 1 1 (empty 1) ran.0 done [] (all_asked t lines all) a.operations ran.1 tt)

-- the journal of such a client is legal
pub journal_is_legal : (schema : Schema) → is_plain_schema schema ≡ true → (lines : List ScriptLine) (done : List (Op × Reply)) → AllByRecursion (CanRun schema) lines → AreAnswered schema lines done → IsLegal schema (journal_of done)
journal_is_legal schema plain lines done all a =
    let one = plain_has_one schema plain in
    let is = is_written schema one in
    subst (λ (s : Schema). IsLegal s (journal_of done)) (sym is) (written_is_legal schema schema one.class lines done all (subst (λ (s : Schema). AreAnswered s lines done) is a))

-- the lines before a place are answered
pub record Answered (schema : Schema) (lines : List ScriptLine) (index : ℕ) (done : List (Op × Reply)) (db : Database) (next : ℕ) : Type 0 where
  pub operations : map (λ (d : Op × Reply). d.0) done ≡ numbered 1 (asked_by (take index lines))
  pub next_id : next ≡ 1 + made_by (asked_by (take index lines))
  pub runs : run schema (empty 1) done ≡ Some db
  pub classes : length db ≡ 1
  pub named : AllByRecursion (StepNamesExist schema) done

all_more : (P : Op × Reply → Type 0) (done : List (Op × Reply)) (d : Op × Reply) → AllByRecursion P done → P d → AllByRecursion P (done ++ d ∷ [])
all_more P [] d all h = (h, tt)
all_more P (x ∷ done) d all h = (all.0, all_more P done d all.1 h)

map_more_of : (done : List (Op × Reply)) (d : Op × Reply) → map (λ (x : Op × Reply). x.0) (done ++ d ∷ []) ≡ map (λ (x : Op × Reply). x.0) done ++ d.0 ∷ []
map_more_of [] d = refl
map_more_of (x ∷ done) d = ap (λ (os : List Op). x.0 ∷ os) (map_more_of done d)

-- one line more
pub answered_more : IsTotalOrder row_order → (schema : Schema) (lines : List ScriptLine) (index : ℕ) (done : List (Op × Reply)) (db : Database) (next : ℕ) (one : ScriptLine) → is_plain_schema schema ≡ true → index < length lines → one ≡ get_or lines index one → CanRun schema one → Answered schema lines index done db next
    → Answered schema lines (index + 1) (done ++ (operation_of next one.op, (answer schema db (operation_of next one.op)).0) ∷ []) (answer schema db (operation_of next one.op)).1 (next + makes one.op)
answered_more total schema lines index done db next one plain within at can a =
    let front = asked_by (take index lines) in
    let o = operation_of next one.op in
    let more : asked_by (take (index + 1) lines) ≡ front ++ one.op ∷ [] =
    ap asked_by (take_more lines index one within ∙ ap (λ (l : ScriptLine). take index lines ++ l ∷ []) (sym at)) ∙ asked_more (take index lines) one in
    record {
      operations = map_more_of done (o, (answer schema db o).0) ∙ ap (λ (os : List Op). os ++ o ∷ []) a.operations
          ∙ ap (λ (n : ℕ). numbered 1 front ++ operation_of n one.op ∷ []) a.next_id ∙ sym (numbered-snoc 1 front one.op) ∙ ap (numbered 1) (sym more);
      next_id = ap (λ (n : ℕ). n + makes one.op) a.next_id ∙ omega (arith, made_by-snoc front one.op) ∙ ap (λ (os : List Op). 1 + made_by os) (sym more);
      runs = run-snoc schema (empty 1) done (o, (answer schema db o).0) db a.runs (same_reply-refl total (answer schema db o).0);
      classes = length_after schema plain db next one.op can ∙ a.classes;
      named = all_more (StepNamesExist schema) done _ a.named (step_named schema plain db next one.op can);
    }

-- few rows are made by few lines
pub few_made : (lines : List ScriptLine) (index : ℕ) → made_by (asked_by (take index lines)) ≤ length lines
few_made lines index = omega (arith, made_by-le (take index lines), length-take index lines)

-- what each line is, the line at a place is
pub each_at : (t : Schema) (lines : List ScriptLine) (index : ℕ) (d : ScriptLine) → AllByRecursion (CanRun t) lines → index < length lines → CanRun t (get_or lines index d)
each_at t [] index d all within = absurd (omega arith)
each_at t (l ∷ lines) zero d all within = all.0
each_at t (l ∷ lines) (suc index) d all within = each_at t lines index d all.1 (omega arith)
