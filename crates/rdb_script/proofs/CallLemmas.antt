-- What an operation's text may mean, once its words are read.
use Rattle.std.proofs.Common.{◌≡◌, ℕ, Bool, List, Option, Some, None, refl, sym, ap, ◌∙◌, subst}
use Rattle.rdb_base.specs.declared.operation.Op.{Op}
use Rattle.rdb_base.specs.declared.operation.Op.TheVariants as op
use Rattle.rdb_base.specs.declared.operation.How.{How}
use Rattle.rdb_base.specs.declared.operation.Place.{Place}
use Rattle.rdb_base.specs.declared.operation.Place.TheVariants as place
use Rattle.rdb_base.specs.declared.value.Rect.{Rect}
use Rattle.rdb_base.specs.declared.value.Value.{Value}
use Rattle.rdb_schema.specs.declared.schema.Schema.{Schema}
use Rattle.rdb_script.specs.declared.statement.Call.{Call}
use Rattle.rdb_script.specs.declared.statement.Member.{Member}
use Rattle.rdb_script.specs.declared.statement.Origin.{Origin}
use Rattle.rdb_script.specs.declared.statement.Target.{Target}
use Rattle.rdb_script.specs.declared.statement.Where.{Where}
use Rattle.rdb_script.specs.Lines.{word, behind}
use Rattle.rdb_schema.specs.Indexes.{finds_keys, is_tree, is_rtree, is_patricia}
use Rattle.rdb_script.specs.Statements.{Known, class_of, index_with, where_of, inside_of, how_of, IsLastRow, IsLastKey, IsLastRect, IsLastText, IsTarget, IsOrigin, IsNew, IsPut, IsFind, IsSeek, IsArea, IsPrefix}
use Rattle.rdb_script.proofs.FoundLemmas.{same_found, moved, some_is}

second : (text r v s : List ℕ) → r ≡ behind text → v ≡ word r → v ≡ word (behind text)
second text r v s e h = h ∙ ap word e

left : (text r s : List ℕ) → r ≡ behind text → s ≡ behind r → s ≡ behind (behind text)
left text r s e h = h ∙ ap behind e

pub new_exact : (schema : Schema) (text w r : List ℕ) (class : ℕ) (o : Option (List Value)) (call : Call) → w ≡ word text → r ≡ behind text → Some class ≡ class_of schema w
    → ((row : List Value) → IsLastRow schema class r row → o ≡ Some row) → IsNew schema text call → (row : List Value) × (o ≡ Some row) × (call ≡ record { from = None; op = op.New class row 0 })
new_exact schema text w r class o call we re ce exact h =
    let same : h.class ≡ class = sym (same_found (class_of schema) w (word text) class h.class we ce h.named) in
    (h.row, exact h.row (moved (λ (k : ℕ) (t : List ℕ). IsLastRow schema k t h.row) h.class class (behind text) r same (sym re) h.written), h.is ∙ (λ i. record { from = None; op = op.New (same i) h.row 0 }))

pub put_exact : (schema : Schema) (known : Known) (text w r v s : List ℕ) (class : ℕ) (target : Target) (o : Option (List Value)) (call : Call) → w ≡ word text → r ≡ behind text → v ≡ word r → s ≡ behind r → Some class ≡ class_of schema w
    → ((t : Target) → IsTarget schema known class v t → Some target ≡ Some t) → ((row : List Value) → IsLastRow schema class s row → o ≡ Some row) → IsPut schema known text call
    → (row : List Value) × (o ≡ Some row) × (call ≡ record { from = target.from; op = op.Put class target.id row })
put_exact schema known text w r v s class target o call we re ve se ce target_exact exact h =
    let same : h.class ≡ class = sym (same_found (class_of schema) w (word text) class h.class we ce h.named) in
    let object : h.target ≡ target = sym (some_is target h.target (target_exact h.target (moved (λ (k : ℕ) (t : List ℕ). IsTarget schema known k t h.target) h.class class (word (behind text)) v same (sym (second text r v s re ve)) h.object))) in (
      h.row,
      exact h.row (moved (λ (k : ℕ) (t : List ℕ). IsLastRow schema k t h.row) h.class class (behind (behind text)) s same (sym (left text r s re se)) h.written),
      h.is ∙ (λ i. record { from = (object i).from; op = op.Put (same i) (object i).id h.row }),
    )

pub find_exact : (schema : Schema) (text w r : List ℕ) (m : Member) (o : Option (List Value)) (call : Call) → w ≡ word text → r ≡ behind text → Some m ≡ index_with finds_keys schema w
    → ((key : List Value) → IsLastKey schema m r key → o ≡ Some key) → IsFind schema text call → (key : List Value) × (o ≡ Some key) × (call ≡ record { from = None; op = op.Find m.class m.place key })
find_exact schema text w r m o call we re me exact h =
    let same : h.m ≡ m = sym (same_found (index_with finds_keys schema) w (word text) m h.m we me h.named) in
    (h.key, exact h.key (moved (λ (k : Member) (t : List ℕ). IsLastKey schema k t h.key) h.m m (behind text) r same (sym re) h.written), h.is ∙ (λ i. record { from = None; op = op.Find (same i).class (same i).place h.key }))

pub seek_exact : (schema : Schema) (known : Known) (text w r v s : List ℕ) (m : Member) (way : Where) (o : Option Origin) (call : Call) → w ≡ word text → r ≡ behind text → v ≡ word r → s ≡ behind r → Some m ≡ index_with is_tree schema w → Some way ≡ where_of v
    → ((origin : Origin) → IsOrigin schema known m way s origin → o ≡ Some origin) → IsSeek schema known text call
    → (origin : Origin) × (o ≡ Some origin) × (call ≡ record { from = origin.from; op = op.Seek m.class m.place origin.place origin.up })
seek_exact schema known text w r v s m way o call we re ve se me ye exact h =
    let same : h.m ≡ m = sym (same_found (index_with is_tree schema) w (word text) m h.m we me h.named) in
    let asked : h.way ≡ way = sym (same_found where_of v (word (behind text)) way h.way (second text r v s re ve) ye h.asked) in (
      h.origin,
      exact h.origin (moved (λ (k : Member) (t : List ℕ). IsOrigin schema known k way t h.origin) h.m m (behind (behind text)) s same (sym (left text r s re se)) (subst (λ (y : Where). IsOrigin schema known h.m y (behind (behind text)) h.origin) asked h.written)),
      h.is ∙ (λ i. record { from = h.origin.from; op = op.Seek (same i).class (same i).place h.origin.place h.origin.up }),
    )

pub area_exact : (schema : Schema) (text w r v s : List ℕ) (m : Member) (inside : Bool) (o : Option Rect) (call : Call) → w ≡ word text → r ≡ behind text → v ≡ word r → s ≡ behind r → Some m ≡ index_with is_rtree schema w → Some inside ≡ inside_of v
    → ((rect : Rect) → IsLastRect s rect → o ≡ Some rect) → IsArea schema text call → (rect : Rect) × (o ≡ Some rect) × (call ≡ record { from = None; op = op.Area m.class m.place rect inside })
area_exact schema text w r v s m inside o call we re ve se me ie exact h =
    let same : h.m ≡ m = sym (same_found (index_with is_rtree schema) w (word text) m h.m we me h.named) in
    let asked : h.inside ≡ inside = sym (same_found inside_of v (word (behind text)) inside h.inside (second text r v s re ve) ie h.asked) in
    (h.rect, exact h.rect (subst (λ (t : List ℕ). IsLastRect t h.rect) (sym (left text r s re se)) h.written), h.is ∙ (λ i. record { from = None; op = op.Area (same i).class (same i).place h.rect (asked i) }))

pub prefix_exact : (schema : Schema) (text w r v s : List ℕ) (m : Member) (way : How) (o : Option (List ℕ)) (call : Call) → w ≡ word text → r ≡ behind text → v ≡ word r → s ≡ behind r → Some m ≡ index_with is_patricia schema w → Some way ≡ how_of v
    → ((words : List ℕ) → IsLastText s words → o ≡ Some words) → IsPrefix schema text call → (words : List ℕ) × (o ≡ Some words) × (call ≡ record { from = None; op = op.Prefix m.class m.place words way })
prefix_exact schema text w r v s m way o call we re ve se me ye exact h =
    let same : h.m ≡ m = sym (same_found (index_with is_patricia schema) w (word text) m h.m we me h.named) in
    let asked : h.how_ ≡ way = sym (same_found how_of v (word (behind text)) way h.how_ (second text r v s re ve) ye h.asked) in
    (h.words, exact h.words (subst (λ (t : List ℕ). IsLastText t h.words) (sym (left text r s re se)) h.written), h.is ∙ (λ i. record { from = None; op = op.Prefix (same i).class (same i).place h.words (asked i) }))

pub none_is : {X : Type 0} (x : X) → None ≡ Some x → ⊥
none_is x e = cc

abbrev some_call : Option (List ℕ) → Op → Option Call
some_call from asked = Some (record { from = from; op = asked })

-- the operation that was found is the one that is meant
pub same_call : {X : Type 0} (f : X → Op) (from : Option (List ℕ)) (x y : X) (call : Call) → Some x ≡ Some y → call ≡ record { from = from; op = f y } → ◌≡◌ {A = Option Call} (Some (record { from = from; op = f x })) (Some call)
same_call f from x y call e h = ap (λ z. some_call from (f z)) (some_is x y e) ∙ ap Some (sym h)

abbrev some_origin : Place → Bool → Option Origin
some_origin at up = Some (record { from = None; place = at; up = up })

pub same_origin : (id : ℕ) (up : Bool) (x y : List Value) → Some x ≡ Some y → ◌≡◌ {A = Option Origin} (Some (record { from = None; place = place.At x id; up = up })) (Some (record { from = None; place = place.At y id; up = up }))
same_origin id up x y e = ap (λ z. some_origin (place.At z id) up) (some_is x y e)
