-- The first fault of a journal is the first wrong reply before the first misplaced entry, else that entry; and the first fault is the least.
use Rattle.std.proofs.Common.{◌≡◌, ℕ, ◌+◌, ◌-◌, ◌<◌, ◌≤◌, ◌⊎◌, Bool, true, false, cond, nat_le, List, [], ◌∷◌, ◌++◌, length, take, drop, slice_get, Option, Some, None, IfSome, All, refl, sym, ap, ◌∙◌, subst, inl, inr, ap₂, zero, suc, append_assoc, append-nil, length-append, arith, le-leb, leb-true, leb-false}
use Rattle.std.specs.Option.{option_map, option_map_or, option_or}
use Rattle.std.proofs.lemmas.Option.{slice_get_within, get_or_from_slice_get}
use Rattle.std.proofs.lemmas.Bool.{cases_order}
use Rattle.std.proofs.lemmas.List.{take_at, length_push, take_more, drop_more, drop_all, length-take-le, length-take, get_or-take}
use Rattle.rdb_base.specs.declared.journal.Entry.{Entry}
use Rattle.rdb_schema.specs.declared.schema.Schema.{Schema}
use Rattle.rdb_model.specs.declared.legality.Legality.TheVariants as legality
use Rattle.rdb_model.specs.declared.legality.Why.{Why}
use Rattle.rdb_model.specs.declared.legality.Why.TheVariants as why
use Rattle.rdb_model.specs.declared.legality.Span.{Span}
use Rattle.rdb_model.specs.Journal.{breaks_number, breaks_twice, breaks_place, breaks_reply, broken, judged}
use Rattle.rdb_model.specs.FirstFault.{misplaced, first_at, fault_at, before, verdict, earlier_of}

-- the entry before the rest, unless it has a fault
abbrev pub kept : Option Why → Entry → List Entry → List Entry
kept None e es = e ∷ es
kept (Some w) e es = []

-- the entries before the first misplaced one
abbrev pub placed : Span → List Entry → List Entry → List Entry
placed within earlier [] = []
placed within earlier (e ∷ es) = kept (misplaced within earlier e) e (placed within (earlier ++ e ∷ []) es)

-- what is broken is what is misplaced, else the reply
pub broken_parts : (within : Span) (schema : Schema) (earlier : List Entry) (e : Entry) → broken within schema earlier e ≡ option_or (misplaced within earlier e) (option_map why.Reply (breaks_reply schema earlier e))
broken_parts within schema earlier e = by_number (breaks_number earlier e) (breaks_twice within earlier e) (breaks_place earlier e) (option_map why.Reply (breaks_reply schema earlier e))
  where
    by_number : (n t p : Bool) (r : Option Why) → cond n (Some why.Number) (cond t (Some why.Twice) (cond p (Some why.Place) r)) ≡ option_or (cond n (Some why.Number) (cond t (Some why.Twice) (cond p (Some why.Place) None))) r
    by_number true t p r = refl
    by_number false true p r = refl
    by_number false false true r = refl
    by_number false false false r = refl

-- a journal is judged by the first wrong reply before the first misplaced entry, else by that entry
pub judged_by_parts : (within : Span) (schema : Schema) (earlier es : List Entry) → judged within schema earlier es ≡ verdict (first_at (breaks_reply schema) earlier (placed within earlier es)) (first_at (misplaced within) earlier es)
judged_by_parts within schema earlier [] = refl
judged_by_parts within schema earlier (e ∷ es) =
    ap (λ b. option_map_or (legality.Illegal (length earlier + 1)) b (judged within schema (earlier ++ e ∷ []) es)) (broken_parts within schema earlier e)
    ∙ by_place (misplaced within earlier e) (judged_by_parts within schema (earlier ++ e ∷ []) es)
  where
    by_reply : (r : Option ℕ) → judged within schema (earlier ++ e ∷ []) es ≡ verdict (first_at (breaks_reply schema) (earlier ++ e ∷ []) (placed within (earlier ++ e ∷ []) es)) (first_at (misplaced within) (earlier ++ e ∷ []) es) → option_map_or (legality.Illegal (length earlier + 1)) (option_map why.Reply r) (judged within schema (earlier ++ e ∷ []) es) ≡ verdict (option_or (option_map (λ f. (length earlier, f)) r) (first_at (breaks_reply schema) (earlier ++ e ∷ []) (placed within (earlier ++ e ∷ []) es))) (first_at (misplaced within) (earlier ++ e ∷ []) es)
    by_reply None rest = rest
    by_reply (Some k) rest = refl

    by_place : (m : Option Why) → judged within schema (earlier ++ e ∷ []) es ≡ verdict (first_at (breaks_reply schema) (earlier ++ e ∷ []) (placed within (earlier ++ e ∷ []) es)) (first_at (misplaced within) (earlier ++ e ∷ []) es) → option_map_or (legality.Illegal (length earlier + 1)) (option_or m (option_map why.Reply (breaks_reply schema earlier e))) (judged within schema (earlier ++ e ∷ []) es) ≡ verdict (first_at (breaks_reply schema) earlier (kept m e (placed within (earlier ++ e ∷ []) es))) (option_or (option_map (λ f. (length earlier, f)) m) (first_at (misplaced within) (earlier ++ e ∷ []) es))
    by_place None rest = by_reply (breaks_reply schema earlier e) rest
    by_place (Some w) rest = refl

-- the first fault is at a place of these entries
pub first_at_within : {A : Type 0} (fault : List Entry → Entry → Option A) (earlier es : List Entry) (found : ℕ × A) → first_at fault earlier es ≡ Some found → (length earlier ≤ found.0) × (found.0 < length earlier + length es)
first_at_within fault earlier [] found is = absurd (cc)
first_at_within {A} fault earlier (e ∷ es) found is = by_fault (fault earlier e) (first_at_within fault (earlier ++ e ∷ []) es found) is
  where
    by_fault : (f : Option A) → (first_at fault (earlier ++ e ∷ []) es ≡ Some found → (length (earlier ++ e ∷ []) ≤ found.0) × (found.0 < length (earlier ++ e ∷ []) + length es)) → option_or (option_map (λ x. (length earlier, x)) f) (first_at fault (earlier ++ e ∷ []) es) ≡ Some found → (length earlier ≤ found.0) × (found.0 < length earlier + length (e ∷ es))
    by_fault None rest is = let h = rest is in let n : length (earlier ++ e ∷ []) ≡ length earlier + 1 = length_push earlier e in (omega arith, omega arith)
    by_fault (Some f) rest is = let same : length earlier ≡ found.0 = ap (λ o. option_map_or (λ (x : ℕ × A). x.0) o 0) is in (omega arith, omega arith)

-- the entries before the first misplaced one are so many
abbrev pub before_from : ℕ → Option (ℕ × Why) → List Entry → List Entry
before_from n None es = es
before_from n (Some found) es = take (found.0 - n) es

pub placed_is : (within : Span) (earlier es : List Entry) → placed within earlier es ≡ before_from (length earlier) (first_at (misplaced within) earlier es) es
placed_is within earlier [] = refl
placed_is within earlier (e ∷ es) = by_place (misplaced within earlier e) (placed_is within (earlier ++ e ∷ []) es)
  where
    step : (m : Option (ℕ × Why)) → first_at (misplaced within) (earlier ++ e ∷ []) es ≡ m → e ∷ before_from (length (earlier ++ e ∷ [])) m es ≡ before_from (length earlier) m (e ∷ es)
    step None is = refl
    step (Some found) is =
        let h = first_at_within (misplaced within) (earlier ++ e ∷ []) es found is in
        let more : length (earlier ++ e ∷ []) ≡ length earlier + 1 = length_push earlier e in
        let less : found.0 - length earlier ≡ suc (found.0 - length (earlier ++ e ∷ [])) = omega arith in
        sym (ap (λ k. take k (e ∷ es)) less)

    by_place : (m : Option Why) → placed within (earlier ++ e ∷ []) es ≡ before_from (length (earlier ++ e ∷ [])) (first_at (misplaced within) (earlier ++ e ∷ []) es) es → kept m e (placed within (earlier ++ e ∷ []) es) ≡ before_from (length earlier) (option_or (option_map (λ f. (length earlier, f)) m) (first_at (misplaced within) (earlier ++ e ∷ []) es)) (e ∷ es)
    by_place None rest = ap (λ l. e ∷ l) rest ∙ step (first_at (misplaced within) (earlier ++ e ∷ []) es) refl
    by_place (Some w) rest = let none : length earlier - length earlier ≡ 0 = omega arith in sym (ap (λ k. take k (e ∷ es)) none)

-- no entry before the first misplaced one is misplaced
pub placed_well : (within : Span) (earlier es : List Entry) → first_at (misplaced within) earlier (placed within earlier es) ≡ None
placed_well within earlier [] = refl
placed_well within earlier (e ∷ es) = by_place (misplaced within earlier e) refl (placed_well within (earlier ++ e ∷ []) es)
  where
    by_place : (m : Option Why) → misplaced within earlier e ≡ m → first_at (misplaced within) (earlier ++ e ∷ []) (placed within (earlier ++ e ∷ []) es) ≡ None → first_at (misplaced within) earlier (kept m e (placed within (earlier ++ e ∷ []) es)) ≡ None
    by_place None is rest = ap (λ m. option_or (option_map (λ f. (length earlier, f)) m) (first_at (misplaced within) (earlier ++ e ∷ []) (placed within (earlier ++ e ∷ []) es))) is ∙ rest
    by_place (Some w) is rest = refl

-- the entries before the first misplaced one, in the words of the code
pub before_is : (within : Span) (journal : List Entry) (found : Option (ℕ × Why)) → found ≡ first_at (misplaced within) [] journal → before found journal ≡ placed within [] journal
before_is within journal found is = by_found found ∙ ap (λ f. before_from 0 f journal) is ∙ sym (placed_is within [] journal)
  where
    by_found : (f : Option (ℕ × Why)) → before f journal ≡ before_from 0 f journal
    by_found None = refl
    by_found (Some f) = let same : f.0 ≡ f.0 - 0 = omega arith in ap (λ k. take k journal) same

pub before_well : (within : Span) (journal : List Entry) (found : Option (ℕ × Why)) → found ≡ first_at (misplaced within) [] journal → first_at (misplaced within) [] (before found journal) ≡ None
before_well within journal found is = ap (first_at (misplaced within) []) (before_is within journal found is) ∙ placed_well within [] journal

-- a journal is judged by what is found first
pub legal_is : (within : Span) (schema : Schema) (journal : List Entry) (wrong : Option (ℕ × ℕ)) (found : Option (ℕ × Why)) → found ≡ first_at (misplaced within) [] journal → wrong ≡ first_at (breaks_reply schema) [] (before found journal) → verdict wrong found ≡ judged within schema [] journal
legal_is within schema journal wrong found is also =
    ap (λ w. verdict w found) (also ∙ ap (first_at (breaks_reply schema) []) (before_is within journal found is))
    ∙ ap (verdict (first_at (breaks_reply schema) [] (placed within [] journal))) is
    ∙ sym (judged_by_parts within schema [] journal)

-- an element after others
pub slice_get_middle : {A : Type 0} (xs ys : List A) (y : A) → slice_get (xs ++ y ∷ ys) (length xs) ≡ Some y
slice_get_middle [] ys y = refl
slice_get_middle (x ∷ xs) ys y = slice_get_middle xs ys y

pub fault_at_here : {A : Type 0} (fault : List Entry → Entry → Option A) (earlier es : List Entry) (e : Entry) → fault_at fault (earlier ++ e ∷ es) (length earlier) ≡ fault earlier e
fault_at_here fault earlier es e =
    ap (λ o. option_map_or (fault (take (length earlier) (earlier ++ e ∷ es))) o None) (slice_get_middle earlier es e)
    ∙ ap (λ l. fault l e) (take_at earlier (e ∷ es) (length earlier) refl)

-- whether a place is at the best fault's or after it
abbrev pub follows : {A : Type 0} → ℕ → Option (ℕ × A) → Bool
follows place None = false
follows place (Some best) = nat_le best.0 place

-- whether a fault at a place is at the best or after it
abbrev pub settled : {A : Type 0} → Option (ℕ × A) → ℕ → Option A → Bool
settled best place None = true
settled best place (Some f) = follows place best

-- the best fault is a fault of the journal
pub record IsFault {A : Type 0} (fault : List Entry → Entry → Option A) (journal : List Entry) (best : Option (ℕ × A)) : Type 0 where
  pub at : IfSome best (λ b. fault_at fault journal b.0 ≡ Some b.1)

-- the least of the faults is the first
pub least : {A : Type 0} (fault : List Entry → Entry → Option A) (journal earlier es : List Entry) (best : Option (ℕ × A)) → journal ≡ earlier ++ es → IsFault fault journal best → ((k : ℕ) → k < length journal → settled best k (fault_at fault journal k) ≡ true) → ((k : ℕ) → k < length earlier → fault_at fault journal k ≡ None) → first_at fault earlier es ≡ best
least {A} fault journal earlier [] best is right all none = by_best best right
  where
    within : (b : ℕ × A) → fault_at fault journal b.0 ≡ Some b.1 → b.0 < length earlier
    within b found = by_get (slice_get journal b.0) refl found
      where
        by_get : (o : Option Entry) → slice_get journal b.0 ≡ o → option_map_or (fault (take b.0 journal)) o None ≡ Some b.1 → b.0 < length earlier
        by_get None at found = absurd (cc)
        by_get (Some e) at found = let h = slice_get_within journal b.0 e at in let same : length journal ≡ length earlier = ap length (is ∙ append-nil earlier) in omega arith

    by_best : (b : Option (ℕ × A)) → IsFault fault journal b → first_at fault earlier [] ≡ b
    by_best None right = refl
    by_best (Some b) right = let no = none b.0 (within b right.at) in let yes : fault_at fault journal b.0 ≡ Some b.1 = right.at in absurd (cc)
least {A} fault journal earlier (e ∷ es) best is right all none = by_fault (fault earlier e) refl (λ was. least fault journal (earlier ++ e ∷ []) es best (is ∙ sym (append_assoc earlier (e ∷ []) es)) right all (more was))
  where
    here : fault_at fault journal (length earlier) ≡ fault earlier e
    here = ap (λ j. fault_at fault j (length earlier)) is ∙ fault_at_here fault earlier es e

    long : length earlier < length journal
    long = let n = ap length is in let m = length-append earlier (e ∷ es) in omega arith

    by_best : (f : A) → fault earlier e ≡ Some f → (b : Option (ℕ × A)) → IsFault fault journal b → settled b (length earlier) (Some f) ≡ true → Some (length earlier, f) ≡ b
    by_best f was None right s = absurd (cc)
    by_best f was (Some b) right s = by_order (cases_order b.0 (length earlier))
      where
        by_order : (b.0 ≡ length earlier) ⊎ ((b.0 < length earlier) ⊎ (length earlier < b.0)) → Some (length earlier, f) ≡ Some b
        by_order (inl same) =
            let value : Some b.1 ≡ Some f = sym right.at ∙ ap (fault_at fault journal) same ∙ here ∙ was in
            let one : b.1 ≡ f = cc in
            ap₂ (λ n x. Some (n, x)) (sym same) (sym one)
        by_order (inr (inl less)) = let no = none b.0 less in let yes : fault_at fault journal b.0 ≡ Some b.1 = right.at in absurd (cc)
        by_order (inr (inr more)) = let h = leb-true b.0 (length earlier) s in absurd (omega arith)

    more : fault earlier e ≡ None → (k : ℕ) → k < length (earlier ++ e ∷ []) → fault_at fault journal k ≡ None
    more was k h = by_order (cases_order k (length earlier))
      where
        by_order : (k ≡ length earlier) ⊎ ((k < length earlier) ⊎ (length earlier < k)) → fault_at fault journal k ≡ None
        by_order (inl same) = ap (fault_at fault journal) same ∙ here ∙ was
        by_order (inr (inl less)) = none k less
        by_order (inr (inr over)) = let n : length (earlier ++ e ∷ []) ≡ length earlier + 1 = length_push earlier e in absurd (omega arith)

    by_fault : (f : Option A) → fault earlier e ≡ f → (fault earlier e ≡ None → first_at fault (earlier ++ e ∷ []) es ≡ best) → option_or (option_map (λ x. (length earlier, x)) f) (first_at fault (earlier ++ e ∷ []) es) ≡ best
    by_fault (Some f) was rest = by_best f was best right (subst (λ o. settled best (length earlier) o ≡ true) (here ∙ was) (all (length earlier) long))
    by_fault None was rest = rest was

-- what was settled stays so with the earlier of two faults, and the new one is settled
pub settled_earlier : (best : Option (ℕ × ℕ)) (place k : ℕ) (wrong f : Option ℕ) → settled best k f ≡ true → settled (earlier_of best place wrong) k f ≡ true
settled_earlier best place k wrong None s = refl
settled_earlier None place k wrong (Some f) s = absurd (cc)
settled_earlier (Some best) place k None (Some f) s = s
settled_earlier (Some best) place k (Some w) (Some f) s = by_order (nat_le best.0 place) refl
  where
    by_order : (b : Bool) → nat_le best.0 place ≡ b → settled (cond b (Some best) (Some (place, w))) k (Some f) ≡ true
    by_order true is = s
    by_order false is = let h = leb-true best.0 k s in let g = leb-false best.0 place is in le-leb place k (omega arith)

pub settled_new : (best : Option (ℕ × ℕ)) (place : ℕ) (wrong : Option ℕ) → settled (earlier_of best place wrong) place wrong ≡ true
settled_new best place None = refl
settled_new None place (Some w) = le-leb place place (omega arith)
settled_new (Some best) place (Some w) = by_order (nat_le best.0 place) refl
  where
    by_order : (b : Bool) → nat_le best.0 place ≡ b → settled (cond b (Some best) (Some (place, w))) place (Some w) ≡ true
    by_order true is = is
    by_order false is = le-leb place place (omega arith)

-- the earlier of two faults is a fault
pub fault_earlier : (fault : List Entry → Entry → Option ℕ) (journal : List Entry) (best : Option (ℕ × ℕ)) (place : ℕ) (wrong : Option ℕ) → IsFault fault journal best → wrong ≡ fault_at fault journal place → IsFault fault journal (earlier_of best place wrong)
fault_earlier fault journal best place None right is = right
fault_earlier fault journal None place (Some w) right is = record { at = sym is }
fault_earlier fault journal (Some best) place (Some w) right is = by_order (nat_le best.0 place)
  where
    by_order : (b : Bool) → IsFault fault journal (cond b (Some best) (Some (place, w)))
    by_order true = right
    by_order false = record { at = sym is }

-- a prefix with one entry more
pub take_push : (journal : List Entry) (i : ℕ) (e : Entry) → slice_get journal i ≡ Some e → take (i + 1) journal ≡ take i journal ++ e ∷ []
take_push journal i e at = take_more journal i e (slice_get_within journal i e at) ∙ ap (λ x. take i journal ++ x ∷ []) (get_or_from_slice_get journal i e e at)

-- the first fault of what is left, one entry on, and past the end
pub first_at_step : {A : Type 0} (fault : List Entry → Entry → Option A) (journal : List Entry) (i : ℕ) (e : Entry) → slice_get journal i ≡ Some e → first_at fault (take i journal) (drop i journal) ≡ option_or (option_map (λ f. (i, f)) (fault (take i journal) e)) (first_at fault (take (i + 1) journal) (drop (i + 1) journal))
first_at_step {A} fault journal i e at =
    let within : i < length journal = slice_get_within journal i e at in
    ap (first_at fault (take i journal)) (drop_more journal i e within ∙ ap (λ x. x ∷ drop (i + 1) journal) (get_or_from_slice_get journal i e e at))
    ∙ ap₂ (λ n l. option_or (option_map (λ (f : A). (n, f)) (fault (take i journal) e)) (first_at fault l (drop (i + 1) journal))) (length-take-le i journal (omega arith)) (sym (take_push journal i e at))

pub first_at_end : {A : Type 0} (fault : List Entry → Entry → Option A) (journal : List Entry) (i : ℕ) → length journal ≤ i → first_at fault (take i journal) (drop i journal) ≡ None
first_at_end fault journal i h = ap (first_at fault (take i journal)) (drop_all i journal h)

pub first_at_next : {A : Type 0} (fault : List Entry → Entry → Option A) (journal : List Entry) (i : ℕ) (e : Entry) → slice_get journal i ≡ Some e → None ≡ fault (take i journal) e → first_at fault (take i journal) (drop i journal) ≡ first_at fault (take (i + 1) journal) (drop (i + 1) journal)
first_at_next {A} fault journal i e at none = first_at_step fault journal i e at ∙ ap (λ o. option_or (option_map (λ (f : A). (i, f)) o) (first_at fault (take (i + 1) journal) (drop (i + 1) journal))) (sym none)

pub first_at_found : {A : Type 0} (fault : List Entry → Entry → Option A) (journal : List Entry) (i : ℕ) (e : Entry) (f : A) → slice_get journal i ≡ Some e → Some f ≡ fault (take i journal) e → first_at fault (take i journal) (drop i journal) ≡ Some (i, f)
first_at_found {A} fault journal i e f at some = first_at_step fault journal i e at ∙ ap (λ o. option_or (option_map (λ (f : A). (i, f)) o) (first_at fault (take (i + 1) journal) (drop (i + 1) journal))) (sym some)

-- what holds of each entry holds of each before the first misplaced one
pub all_before : (P : Entry → Type 0) (journal : List Entry) (found : Option (ℕ × Why)) → All P journal → All P (before found journal)
all_before P journal None all = all
all_before P journal (Some found) all = λ k d h. let n = length-take found.0 journal in subst P (sym (get_or-take found.0 journal k d (omega arith))) (all k d (omega arith))

-- no entry of a journal without a first fault has one
pub no_fault_at : {A : Type 0} (fault : List Entry → Entry → Option A) (earlier es : List Entry) (k : ℕ) (e : Entry) → first_at fault earlier es ≡ None → slice_get es k ≡ Some e → fault (earlier ++ take k es) e ≡ None
no_fault_at fault earlier [] k e none at = absurd (cc)
no_fault_at {A} fault earlier (x ∷ xs) k e none at = by_fault (fault earlier x) refl none (λ n rest got. no_fault_at fault (earlier ++ x ∷ []) xs n e rest got)
  where
    by_place : (n : ℕ) → fault earlier x ≡ None → first_at fault (earlier ++ x ∷ []) xs ≡ None → slice_get (x ∷ xs) n ≡ Some e → ((m : ℕ) → first_at fault (earlier ++ x ∷ []) xs ≡ None → slice_get xs m ≡ Some e → fault ((earlier ++ x ∷ []) ++ take m xs) e ≡ None) → fault (earlier ++ take n (x ∷ xs)) e ≡ None
    by_place zero here rest got later = let same : x ≡ e = cc in ap₂ fault (append-nil earlier) (sym same) ∙ here
    by_place (suc n) here rest got later = ap (λ l. fault l e) (sym (append_assoc earlier (x ∷ []) (take n xs))) ∙ later n rest got

    by_fault : (f : Option A) → fault earlier x ≡ f → first_at fault earlier (x ∷ xs) ≡ None → ((m : ℕ) → first_at fault (earlier ++ x ∷ []) xs ≡ None → slice_get xs m ≡ Some e → fault ((earlier ++ x ∷ []) ++ take m xs) e ≡ None) → fault (earlier ++ take k (x ∷ xs)) e ≡ None
    by_fault None is none later = by_place k is (sym (ap (λ o. option_or (option_map (λ (f : A). (length earlier, f)) o) (first_at fault (earlier ++ x ∷ []) xs)) is) ∙ none) at later
    by_fault (Some f) is none later = let some = ap (λ o. option_or (option_map (λ (f : A). (length earlier, f)) o) (first_at fault (earlier ++ x ∷ []) xs)) is in absurd (cc)
