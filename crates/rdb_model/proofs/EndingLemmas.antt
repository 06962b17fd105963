-- Where transactions ended last and clients left last, with one entry more; and what comes a second time within a span.
use Rattle.std.proofs.Common.{◌≡◌, ℕ, suc, ◌+◌, ◌<◌, ◌≤◌, Bool, true, false, cond, not, ◌&&◌, ◌||◌, ◌==◌, nat_cmp, nat_lt, is_eq, is_some, List, [], ◌∷◌, ◌++◌, length, take, Option, Some, None, refl, sym, ap, ap₂, ◌∙◌, arith, BTreeMap}
use Rattle.std.specs.BTreeMap.{get as map_get}
use Rattle.std.specs.Cmp.{unsigned_tied}
use Rattle.std.specs.List.{list_any}
use Rattle.std.specs.Option.{option_map_or, option_or}
use Rattle.std.proofs.lemmas.Bool.Decides.{nat_tests}
use Rattle.std.proofs.lemmas.List.Folds.{list_any-append}
use Rattle.rdb_base.specs.declared.journal.Entry.{Entry}
use Rattle.rdb_base.specs.declared.journal.Entry.TheVariants as entry
use Rattle.rdb_schema.specs.declared.schema.Schema.{Schema}
use Rattle.rdb_model.specs.declared.legality.Span.{Span}
use Rattle.rdb_model.specs.declared.legality.Span.TheVariants as span
use Rattle.rdb_model.specs.Journal.{ended, left_client, ends, takes_leave, has_ended, has_left, has_ended_since_leave, has_ended_within, has_left_within, breaks_twice}
use Rattle.rdb_model.specs.Parts.{KeepsLaw}
use Rattle.rdb_model.specs.Tallies.{two_cmp, last_from, LastEnds, LastLeaves, is_second_end}
use Rattle.rdb_model.proofs.Lacking.{first_fails, second_fails}
use Rattle.rdb_model.proofs.TallyLemmas.{two_is}

-- the last place at which a test passes, with one entry more
last_push : (passes : Entry → Bool) (place : ℕ) (xs : List Entry) (e : Entry) → last_from passes place (xs ++ e ∷ []) ≡ cond (passes e) (Some (place + length xs)) (last_from passes place xs)
last_push passes place [] e = go (passes e)
  where
    go : (b : Bool) → option_or None (cond b (Some place) None) ≡ cond b (Some (place + 0)) None
    go true = let same : place ≡ place + 0 = omega arith in ap Some same
    go false = refl
last_push passes place (x ∷ xs) e = ap (λ o. option_or o (cond (passes x) (Some place) None)) (last_push passes (place + 1) xs e) ∙ go (passes e)
  where
    go : (b : Bool) → option_or (cond b (Some (place + 1 + length xs)) (last_from passes (place + 1) xs)) (cond (passes x) (Some place) None) ≡ cond b (Some (place + suc (length xs))) (option_or (last_from passes (place + 1) xs) (cond (passes x) (Some place) None))
    go true = let same : place + 1 + length xs ≡ place + suc (length xs) = omega arith in ap Some same
    go false = refl

-- there is a last place exactly where some entry passes, and it is none before the first
last_any : (passes : Entry → Bool) (place : ℕ) (xs : List Entry) → is_some (last_from passes place xs) ≡ list_any passes xs
last_any passes place [] = refl
last_any passes place (x ∷ xs) = go (last_from passes (place + 1) xs) (passes x) (last_any passes (place + 1) xs)
  where
    go : (o : Option ℕ) (b : Bool) → is_some o ≡ list_any passes xs → is_some (option_or o (cond b (Some place) None)) ≡ (b || list_any passes xs)
    go None true h = refl
    go None false h = h
    go (Some p) true h = refl
    go (Some p) false h = h

last_above : (passes : Entry → Bool) (place : ℕ) (xs : List Entry) (p : ℕ) → last_from passes place xs ≡ Some p → place ≤ p
last_above passes place [] p is = absurd (cc)
last_above passes place (x ∷ xs) p is = go (last_from passes (place + 1) xs) (passes x) (λ q f. last_above passes (place + 1) xs q f) refl is
  where
    go : (o : Option ℕ) (b : Bool) → ((q : ℕ) → last_from passes (place + 1) xs ≡ Some q → place + 1 ≤ q) → last_from passes (place + 1) xs ≡ o → option_or o (cond b (Some place) None) ≡ Some p → place ≤ p
    go None true rest f g = let same : place ≡ p = (cc) in omega arith
    go None false rest f g = absurd (cc)
    go (Some q) b rest f g = let same : q ≡ p = (cc) in let above = rest q f in omega arith

-- no entry both ends a transaction and takes leave
never_both : (tx : ℕ × ℕ) (client : ℕ) (e : Entry) → (ends tx e && takes_leave client e) ≡ false
never_both tx client (entry.Commit story commit) = and_none (ends tx (entry.Commit story commit))
  where
    and_none : (b : Bool) → (b && false) ≡ false
    and_none true = refl
    and_none false = refl
never_both tx client (entry.Read story) = and_none (ends tx (entry.Read story))
  where
    and_none : (b : Bool) → (b && false) ≡ false
    and_none true = refl
    and_none false = refl
never_both tx client (entry.Abort story cause) = and_none (ends tx (entry.Abort story cause))
  where
    and_none : (b : Bool) → (b && false) ≡ false
    and_none true = refl
    and_none false = refl
never_both tx client (entry.Handled c by at finished) = refl
never_both tx client (entry.Closed c) = refl

less_is : (a b : ℕ) → a < b → nat_lt a b ≡ true
less_is a b lt = grind (arith, nat_tests)

past_is : (a b : ℕ) → b ≤ a → nat_lt a b ≡ false
past_is a b le = grind (arith, nat_tests)

or_true : (b : Bool) → true ≡ (b || true)
or_true true = refl
or_true false = refl

-- a transaction has ended since leave was taken where its last end is after the last leave
second_from : (tx : ℕ × ℕ) (place : ℕ) (xs : List Entry) → is_second_end span.Stretch (last_from (ends tx) place xs) (last_from (takes_leave tx.0) place xs) ≡ has_ended_since_leave xs tx
second_from tx place [] = refl
second_from tx place (e ∷ es) =
    go (last_from (ends tx) (place + 1) es) (last_from (takes_leave tx.0) (place + 1) es) (ends tx e) (takes_leave tx.0 e)
    (λ p is. last_above (ends tx) (place + 1) es p is) (λ p is. last_above (takes_leave tx.0) (place + 1) es p is)
    refl refl (never_both tx tx.0 e) (second_from tx (place + 1) es) (last_any (takes_leave tx.0) (place + 1) es)
  where
    go : (last leave : Option ℕ) (a b : Bool) → ((p : ℕ) → last_from (ends tx) (place + 1) es ≡ Some p → place + 1 ≤ p) → ((p : ℕ) → last_from (takes_leave tx.0) (place + 1) es ≡ Some p → place + 1 ≤ p) → last_from (ends tx) (place + 1) es ≡ last → last_from (takes_leave tx.0) (place + 1) es ≡ leave → (a && b) ≡ false → is_second_end span.Stretch last leave ≡ has_ended_since_leave es tx → is_some leave ≡ has_left es tx.0 → is_second_end span.Stretch (option_or last (cond a (Some place) None)) (option_or leave (cond b (Some place) None)) ≡ ((a && not (has_left es tx.0)) || has_ended_since_leave es tx)
    go None None true true later later_leave f g never since left = (cc)
    go None None true false later later_leave f g never since left = ap (λ b. not b || has_ended_since_leave es tx) left
    go None None false true later later_leave f g never since left = since
    go None None false false later later_leave f g never since left = since
    go None (Some y) true b later later_leave f g never since left =
        past_is y place (let above = later_leave y g in omega arith) ∙ ap₂ (λ l s. not l || s) left since
    go None (Some y) false b later later_leave f g never since left = since
    go (Some x) None a true later later_leave f g never since left =
        less_is place x (let above = later x f in omega arith) ∙ or_true (a && not (has_left es tx.0)) ∙ ap (λ s. (a && not (has_left es tx.0)) || s) since
    go (Some x) None a false later later_leave f g never since left = or_true (a && not (has_left es tx.0)) ∙ ap (λ s. (a && not (has_left es tx.0)) || s) since
    go (Some x) (Some y) true b later later_leave f g never since left = ap₂ (λ l s. not l || s) left since
    go (Some x) (Some y) false b later later_leave f g never since left = since

-- what ends, or takes leave, a second time within a span
pub second_end : (within : Span) (earlier : List Entry) (tx : ℕ × ℕ) → is_second_end within (last_from (ends tx) 0 earlier) (last_from (takes_leave tx.0) 0 earlier) ≡ has_ended_within within earlier tx
second_end span.Stretch earlier tx = second_from tx 0 earlier
second_end span.Journal earlier tx = go (last_from (ends tx) 0 earlier) ∙ last_any (ends tx) 0 earlier
  where
    go : (o : Option ℕ) → is_second_end span.Journal o (last_from (takes_leave tx.0) 0 earlier) ≡ is_some o
    go None = refl
    go (Some p) = refl

pub second_leave : (earlier : List Entry) (client : ℕ) → is_some (last_from (takes_leave client) 0 earlier) ≡ has_left earlier client
second_leave earlier client = last_any (takes_leave client) 0 earlier

-- where each ended and left last, at first and with one entry more
pub last_ends_first : (transactions : BTreeMap (ℕ × ℕ) ℕ) → transactions.entries ≡ [] → LastEnds [] transactions
last_ends_first transactions is = record { same = λ q. rw is refl }

pub last_leaves_first : (clients : BTreeMap ℕ ℕ) → clients.entries ≡ [] → LastLeaves [] clients
last_leaves_first clients is = record { same = λ q. rw is refl }

pub last_ends_more : (earlier : List Entry) (e : Entry) (tx : ℕ × ℕ) (place : ℕ) (old new : BTreeMap (ℕ × ℕ) ℕ) → ended e ≡ Some tx → length earlier ≡ place → LastEnds earlier old → ((q : ℕ × ℕ) → map_get two_cmp new q ≡ cond (is_eq (two_cmp tx q)) (Some place) (map_get two_cmp old q)) → LastEnds (earlier ++ e ∷ []) new
last_ends_more earlier e tx place old new is long have put = record { same = at }
  where
    at : (q : ℕ × ℕ) → map_get two_cmp new q ≡ last_from (ends q) 0 (earlier ++ e ∷ [])
    at q =
        let here : place ≡ 0 + length earlier = omega arith in
        let test : is_eq (two_cmp tx q) ≡ ends q e = two_is tx q ∙ ap (λ o. option_map_or (λ (t : ℕ × ℕ). (t.0 == q.0) && (t.1 == q.1)) o false) (sym is) in
        put q ∙ ap₂ (λ a b. cond a (Some place) b) test (have.same q) ∙ ap (λ p. cond (ends q e) (Some p) (last_from (ends q) 0 earlier)) here ∙ sym (last_push (ends q) 0 earlier e)

pub last_ends_same : (earlier : List Entry) (e : Entry) (old : BTreeMap (ℕ × ℕ) ℕ) → ended e ≡ None → LastEnds earlier old → LastEnds (earlier ++ e ∷ []) old
last_ends_same earlier e old is have = record { same = at }
  where
    at : (q : ℕ × ℕ) → map_get two_cmp old q ≡ last_from (ends q) 0 (earlier ++ e ∷ [])
    at q =
        let test : false ≡ ends q e = ap (λ o. option_map_or (λ (t : ℕ × ℕ). (t.0 == q.0) && (t.1 == q.1)) o false) (sym is) in
        have.same q ∙ ap (λ b. cond b (Some (0 + length earlier)) (last_from (ends q) 0 earlier)) test ∙ sym (last_push (ends q) 0 earlier e)

pub last_leaves_more : (earlier : List Entry) (e : Entry) (client place : ℕ) (old new : BTreeMap ℕ ℕ) → left_client e ≡ Some client → length earlier ≡ place → LastLeaves earlier old → ((q : ℕ) → map_get nat_cmp new q ≡ cond (is_eq (nat_cmp client q)) (Some place) (map_get nat_cmp old q)) → LastLeaves (earlier ++ e ∷ []) new
last_leaves_more earlier e client place old new is long have put = record { same = at }
  where
    at : (q : ℕ) → map_get nat_cmp new q ≡ last_from (takes_leave q) 0 (earlier ++ e ∷ [])
    at q =
        let here : place ≡ 0 + length earlier = omega arith in
        let test : is_eq (nat_cmp client q) ≡ takes_leave q e = unsigned_tied client q ∙ ap (λ o. option_map_or (λ c. c == q) o false) (sym is) in
        put q ∙ ap₂ (λ a b. cond a (Some place) b) test (have.same q) ∙ ap (λ p. cond (takes_leave q e) (Some p) (last_from (takes_leave q) 0 earlier)) here ∙ sym (last_push (takes_leave q) 0 earlier e)

pub last_leaves_same : (earlier : List Entry) (e : Entry) (old : BTreeMap ℕ ℕ) → left_client e ≡ None → LastLeaves earlier old → LastLeaves (earlier ++ e ∷ []) old
last_leaves_same earlier e old is have = record { same = at }
  where
    at : (q : ℕ) → map_get nat_cmp old q ≡ last_from (takes_leave q) 0 (earlier ++ e ∷ [])
    at q =
        let test : false ≡ takes_leave q e = ap (λ o. option_map_or (λ c. c == q) o false) (sym is) in
        have.same q ∙ ap (λ b. cond b (Some (0 + length earlier)) (last_from (takes_leave q) 0 earlier)) test ∙ sym (last_push (takes_leave q) 0 earlier e)

-- what has ended since leave was taken, with one entry more
since_step : (ended left leaves ends_it since : Bool) → ((ended && not (left || (leaves || false))) || (ends_it || (since && not leaves))) ≡ (ends_it || (((ended && not left) || since) && not leaves))
since_step true true true true since = refl
since_step true true true false true = refl
since_step true true true false false = refl
since_step true true false ends_it since = refl
since_step true false true true since = refl
since_step true false true false true = refl
since_step true false true false false = refl
since_step true false false true since = refl
since_step true false false false since = refl
since_step false left leaves ends_it since = refl

pub since_push : (xs : List Entry) (e : Entry) (tx : ℕ × ℕ) → has_ended_since_leave (xs ++ e ∷ []) tx ≡ (ends tx e || (has_ended_since_leave xs tx && not (takes_leave tx.0 e)))
since_push [] e tx = go (ends tx e)
  where
    go : (b : Bool) → ((b && true) || false) ≡ (b || false)
    go true = refl
    go false = refl
since_push (x ∷ xs) e tx =
    ap₂ (λ l s. (ends tx x && not l) || s) (list_any-append (takes_leave tx.0) xs (e ∷ [])) (since_push xs e tx)
    ∙ since_step (ends tx x) (has_left xs tx.0) (takes_leave tx.0 e) (ends tx e) (has_ended_since_leave xs tx)

-- what hasn't ended hasn't ended since leave was taken
not_since : (earlier : List Entry) (tx : ℕ × ℕ) → has_ended earlier tx ≡ false → has_ended_since_leave earlier tx ≡ false
not_since [] tx never = refl
not_since (e ∷ es) tx never =
    ap₂ (λ a b. (a && not (has_left es tx.0)) || b) (first_fails (ends tx e) (has_ended es tx) never) (not_since es tx (second_fails (ends tx e) (has_ended es tx) never))

once_in_stretch : (earlier : List Entry) (e : Entry) → breaks_twice span.Journal earlier e ≡ false → breaks_twice span.Stretch earlier e ≡ false
once_in_stretch earlier e once = go (ended e) (left_client e) once
  where
    go : (o : Option (ℕ × ℕ)) (l : Option ℕ) → (option_map_or (has_ended earlier) o false || option_map_or (has_left earlier) l false) ≡ false → (option_map_or (has_ended_since_leave earlier) o false || option_map_or (has_left_within span.Stretch earlier) l false) ≡ false
    go None None h = refl
    go None (Some c) h = refl
    go (Some tx) None h = ap (λ b. b || false) (not_since earlier tx (first_fails (has_ended earlier tx) false h))
    go (Some tx) (Some c) h = ap (λ b. b || false) (not_since earlier tx (first_fails (has_ended earlier tx) (has_left earlier c) h))

-- what keeps the law over the whole keeps it within stretches
pub law_in_stretches : (schema : Schema) (journal : List Entry) → KeepsLaw span.Journal schema journal → KeepsLaw span.Stretch schema journal
law_in_stretches schema journal law = record {
  numbers = law.numbers;
  ends_once = λ place e at. once_in_stretch (take place journal) e (law.ends_once place e at);
  placed = law.placed;
  replies = law.replies;
}
