-- What every step keeps, as the first own version of a marked transaction gets its stamp.
use Rattle.std.proofs.Common.{◌≡◌, ◌≢◌, ◌⊎◌, ◌<◌, ◌≤◌, ◌||◌, ◌&&◌, ◌==◌, ◌++◌, ◌∷◌, ℕ, List, [], length, Bool, true, false, not, Option, Some, None, Contains, AllPairs, is_some, option_map, option_and_then, slice_index, refl, sym, ap, subst, ◌∙◌, arith, inl, inr, IsSome, IsSomeAnd}
use Rattle.std.proofs.lemmas.Bool.{cases_lt, false≢true}
use Rattle.std.proofs.lemmas.List.{get_or_past}
use Rattle.std.proofs.Permutation.{which}
use Rattle.rdb_pages.specs.declared.cell.Cell.{Cell}
use Rattle.rdb_pages.specs.declared.cell.CellRef.{CellRef}
use Rattle.rdb_base.specs.declared.identity.ConnId.{ConnId}
use Rattle.rdb_base.specs.declared.identity.Kind.TheVariants as kind
use Rattle.rdb_base.specs.declared.identity.Manager.{Manager}
use Rattle.rdb_base.specs.declared.identity.Phase.{Phase}
use Rattle.rdb_base.specs.declared.identity.Phase.TheVariants as phase
use Rattle.rdb_base.specs.declared.identity.Stamp.TheVariants as stamp
use Rattle.rdb_base.specs.declared.identity.TxId.{TxId}
use Rattle.rdb_schema.specs.declared.schema.Schema.{Schema}
use Rattle.rdb_cells.specs.declared.pairs.Pair.{Pair}
use Rattle.rdb_cells.specs.Images.{Image, IsCell}
use Rattle.rdb_cells.specs.Links.{IsAmong}
use Rattle.rdb_cells.specs.Records.{names}
use Rattle.rdb_cells.proofs.SettledLemmas.{true_or_false}
use Rattle.rdb_registry.specs.declared.hand.Hand.{Hand}
use Rattle.rdb_registry.specs.declared.own_writes.OwnWrite.{OwnWrite}
use Rattle.rdb_registry.specs.declared.seat.Seat.{Seat}
use Rattle.rdb_registry.specs.declared.seat.Transaction.{Transaction}
use Rattle.rdb_registry.specs.OwnWrites.{header_of}
use Rattle.rdb_registry.specs.Seats.{Seats, HoldsLatch, seat_in, seat_of, with_hand}
use Rattle.rdb_sight.specs.Versions.{Version, Object, Versions, IsAscending, objects_in, chain_in, chain_of, with_chain_in, own_version}
use Rattle.rdb_store.specs.Classes.{ClassNature}
use Rattle.rdb_store.specs.Layouts.{Layout, OfVersion}
use Rattle.rdb_store.specs.Shapes.{schema_class}
use Rattle.rdb_store.specs.Stored.{AreStored, HasHeader, IsStored, ref_of}
use Rattle.rdb_writes.specs.Grounds.{Ground, NoneWorksOn, WorksOn, settled_image}
use Rattle.rdb_writes.specs.Steps.{spans_one_plan}
use Rattle.rdb_writes.proofs.WorkLemmas.{in_its_slot}
use Rattle.rdb_steps.specs.Invariant.{IsKept, DropsNone}
use Rattle.rdb_steps.specs.Kept.{Agrees, HoldsClass, IsLawful, OwnAre, AreDrawn, aims, is_marked, owns_settled, takes_back, tx_of}
use Rattle.rdb_steps.specs.Lists.{WritesStamp, RestsThere, OwnFollow}
use Rattle.rdb_steps.specs.Phases.{IsStamping, Rests, RestsIn}
use Rattle.rdb_steps.specs.Planned.{PlanIsGood, all_but}
use Rattle.rdb_steps.specs.Stamped.{AreOfTwo, AreStamped, IsOpen}
use Rattle.rdb_steps.specs.Steps.{done_by}
use Rattle.rdb_steps.proofs.DoneChains.{OneOwn, as_done, one_own, other_done, once_done, within_done, within_split, some_split}
use Rattle.rdb_steps.proofs.HandKept.{or_first, or_second, turned_by}
use Rattle.rdb_steps.proofs.KeptLemmas.{Turns, ArePlaced, each_turned, holders_turned, single_turned, open_turned}
use Rattle.rdb_steps.proofs.ListLemmas.{class_is, held_or_not, holds_same}
use Rattle.rdb_steps.proofs.MakingLemmas.{each_chain}
use Rattle.rdb_steps.proofs.OwnLemmas.{chain_of_other_class, owns_follow}
use Rattle.rdb_steps.proofs.ReleaseLemmas.{with_seats, hand_stays}
use Rattle.rdb_steps.proofs.RestLemmas.{good_without_plan, drops_none, latched_writer, no_latch}
use Rattle.rdb_steps.proofs.RestingLemmas.{same_at_rest}
use Rattle.rdb_steps.proofs.StampLemmas.{stamped_lists, stands_settled}

-- the version at a place of a chain stands in its cells
stored_at : (class : ClassNature) (image : Image) (layout : Layout) (id : ℕ) (newer : List Version) (v : Version) (older : List Version) → AreStored class image layout id (newer ++ v ∷ older) →
    IsStored class image id v older (layout.of_version v.header)
stored_at class image layout id [] v older all = all.0
stored_at class image layout id (w ∷ newer) v older all = stored_at class image layout id newer v older all.1

-- who has neither plan nor pair works on no cell
works_on_none : (hand : Hand) (n : ℕ) → hand.plan.pairs ≡ [] → hand.undo.pairs ≡ [] → WorksOn hand n → ⊥
works_on_none hand n no_plan no_undo (inl logged) = let none : names [] n ≡ true = ap (λ (ps : List Pair). names ps n) (sym no_undo) ∙ logged in cc
works_on_none hand n no_plan no_undo (inr planned) = let none : names [] n ≡ true = ap (λ (ps : List Pair). names ps n) (sym no_plan) ∙ planned in cc

-- A marked connection that stamps, and its first own write.
pub record IsAtStamp (manager : Manager) (seats : Seats) (c : ConnId) (seat : Seat) (t : Transaction) (commit : ℕ) (first : OwnWrite) : Type 0 where
  pub held : seat_of seats c ≡ Some seat
  pub phase_is : seat.hand.phase ≡ phase.Stamping
  pub opened : seat.transaction ≡ Some t
  pub mark : t.mark ≡ Some commit
  pub listed : header_of seat.hand.own.items (first.class, first.id) ≡ Some first.header

module _ (schema : Schema) (manager : Manager) (serials : ℕ) (ids : List ℕ) (g : Ground) (c : ConnId) (seat : Seat) (t : Transaction) (commit : ℕ) (first : OwnWrite) (settled aimed : Versions) (lawful : IsLawful schema) (placed : ArePlaced g.seats) (kept : IsKept schema manager serials ids g settled aimed) (is_at : IsAtStamp manager g.seats c seat t commit first) where
  pub there : seat_in g.seats c.slot ≡ Some seat
  there = in_its_slot g.seats c seat is_at.held

  pub stamping : IsStamping manager seat
  stamping = subst (λ (p : Phase). RestsIn manager (length schema.classes) seat p) is_at.phase_is (kept.rests c.slot seat there)

  pub marked : is_marked seat ≡ true
  marked = stamping.writer.1

  writer : t.kind ≡ kind.ReadWrite
  writer = subst (λ (o : Option Transaction). IsSomeAnd o (λ u. u.kind ≡ kind.ReadWrite)) is_at.opened stamping.writer.0

  -- beside a single writer nobody has a transaction
  pub alone : spans_one_plan manager ≡ false → (i : ℕ) (s : Seat) → i ≢ c.slot → seat_in g.seats i ≡ Some s → (u : Transaction) → s.transaction ≡ Some u → ⊥
  alone single i s other at u open_one = other (sym (kept.single single c.slot i seat s t u there at is_at.opened writer open_one))

  pub owned : option_map ref_of (own_version (tx_of seat t) (chain_in settled first.class first.id)) ≡ Some first.header
  owned = sym ((kept.own c.slot seat there).are_settled (or_second (spans_one_plan manager) _ (or_first (is_marked seat) _ marked)) t is_at.opened first.class first.id) ∙ is_at.listed

  pub found : (v : Version) × ((own_version (tx_of seat t) (chain_in settled first.class first.id) ≡ Some v) × (ref_of v ≡ first.header))
  found = go (own_version (tx_of seat t) (chain_in settled first.class first.id)) refl owned
    where
      go : (o : Option Version) → own_version (tx_of seat t) (chain_in settled first.class first.id) ≡ o → option_map ref_of o ≡ Some first.header →
          (v : Version) × ((own_version (tx_of seat t) (chain_in settled first.class first.id) ≡ Some v) × (ref_of v ≡ first.header))
      go None is e = absurd (let no : None ≡ Some first.header = e in cc)
      go (Some v) is e = (v, (is, (let same : Some (ref_of v) ≡ Some first.header = e in cc)))

  pub one : OneOwn (tx_of seat t) commit (chain_in settled first.class first.id)
  one = one_own (tx_of seat t) commit found.0 (chain_in settled first.class first.id) (kept.stamped.once first.class first.id) found.1.0

  pub header_is : one.version.header ≡ first.header.number
  header_is =
      let both : Some one.version ≡ Some found.0 = sym one.is ∙ found.1.0 in
      let same : one.version ≡ found.0 = cc in
      ap (λ (v : Version). v.header) same ∙ ap (λ (r : CellRef). r.number) found.1.1

  pub within : first.class < length schema.classes
  within = elim (cases_lt first.class (length schema.classes)) [
    | inl below ↦ below
    | inr past ↦ absurd (let count = kept.agrees.stands.count in
        some_split one.newer one.version one.older
        (sym one.split ∙ ap (λ (os : List Object). chain_of os first.id) (get_or_past settled first.class [] (omega (arith, past, count)))))
  ]

  module _ (free : spans_one_plan manager ≡ true → (i : ℕ) (s : Seat) → seat_in g.seats i ≡ Some s → ¬ HoldsLatch s first.class) where
    -- no other connection holds the latch of the class
    pub nobody : (i : ℕ) (s : Seat) → i ≢ c.slot → seat_in g.seats i ≡ Some s → ¬ HoldsLatch s first.class
    nobody i s other at has = elim (true_or_false (spans_one_plan manager)) [
      | inl many ↦ free many i s at has
      | inr single ↦
          let writes = latched_writer manager (length schema.classes) s (kept.rests i s at) first.class has in
          alone single i s other at writes.transaction writes.open_one
    ]

    pub rests_there : RestsThere g first.class
    rests_there i s at has = elim (which i c.slot) [
      | inl same ↦
          let both : Some s ≡ Some seat = sym at ∙ ap (seat_in g.seats) same ∙ there in
          let is : s ≡ seat = cc in
          subst (λ (x : Seat). (x.hand.plan.pairs ≡ []) × (x.hand.undo.pairs ≡ [])) (sym is) (stamping.plan, stamping.undo)
      | inr other ↦ absurd (nobody i s other at has)
    ]

    pub lists_same : objects_in aimed first.class ≡ objects_in settled first.class
    lists_same = elim (held_or_not seat first.class) [
      | inl held ↦ same_at_rest schema manager g settled aimed c.slot seat lawful kept.one_holder kept.agrees there stamping.plan stamping.undo first.class held
      | inr free ↦ kept.agrees.rest.same first.class within (λ i s at has. absurd (elim (which i c.slot) [
        | inl same ↦
            let both : Some s ≡ Some seat = sym at ∙ ap (seat_in g.seats) same ∙ there in
            let is : s ≡ seat = cc in
            free (subst (λ (x : Seat). HoldsLatch x first.class) is has)
        | inr other ↦ nobody i s other at has
      ]))
    ]

    -- what the class's cells hold
    pub stands_here : HoldsClass schema g g.image first.class (objects_in settled first.class)
    stands_here =
        holds_same schema lawful g g (settled_image g) g.image first.class (objects_in settled first.class) within (λ n. refl)
        (λ n of. sym (stands_settled g first.class kept.agrees.works rests_there n of)) (kept.agrees.stands.each first.class within)

    pub listed_there : HasHeader (objects_in settled first.class) first.header.number
    listed_there = record {
      version = one.version;
      has = record { id = first.id; within = subst (λ (vs : List Version). Contains vs one.version) (sym one.split) (within_split one.version one.newer one.older) };
      there = header_is;
    }

    stored : IsStored (schema_class schema first.class) g.image first.id one.version one.older (stands_here.0.of_version one.version.header)
    stored =
        stored_at (schema_class schema first.class) g.image stands_here.0 first.id one.newer one.version one.older
        (subst (λ (vs : List Version). AreStored (schema_class schema first.class) g.image stands_here.0 first.id vs) one.split (stands_here.1.chains first.id))

    -- its header is a cell of the class
    pub of_class : g.class_of first.header.number ≡ Some first.class
    of_class = (stands_here.1.account.paged first.header.number (record {
      part = OfVersion first.header.number;
      is_part = listed_there;
      within = subst (λ (n : ℕ). IsAmong (stands_here.0.of_version n) n) header_is
          (subst (λ (ns : List ℕ). IsAmong ns one.version.header) (sym stored.stands.cells_are) (inl refl));
    })).1

    pub is_cell : IsCell g.image first.header.number
    is_cell = subst (λ (n : ℕ). IsSome (g.image n)) header_is (subst (λ (o : Option Cell). IsSome o) (sym stored.stands.header) refl)

    -- nobody works on it
    pub none_works : NoneWorksOn g first.header.number
    none_works i s there on =
        let own = (kept.agrees.works i s there).latched first.header.number on in
        let held : HoldsLatch s first.class = subst (λ (k : ℕ). HoldsLatch s k) (class_is (g.class_of first.header.number) own.0 first.class own.1 of_class) own.2 in
        let idle = rests_there i s there held in
        works_on_none s.hand first.header.number idle.0 idle.1 on

    in_settled : first.class < length settled
    in_settled = let count = kept.agrees.stands.count in let below = within in omega (arith, count, below)

    in_aimed : first.class < length aimed
    in_aimed = let count = kept.agrees.rest.count in let below = within in omega (arith, count, below)

    rises : IsAscending (objects_in settled first.class)
    rises = (kept.agrees.stands.each first.class within).1.ascending

    rises_aimed : IsAscending (objects_in aimed first.class)
    rises_aimed = subst (λ (os : List Object). IsAscending os) (sym lists_same) rises

    another : (i : ℕ) (s : Seat) → i ≢ c.slot → seat_in g.seats i ≡ Some s → (u : Transaction) → tx_of s u ≢ tx_of seat t
    another i s other at u same = other (sym (placed i s at) ∙ ap (λ (x : TxId). x.conn.slot) same ∙ placed c.slot seat there)

    -- another transaction has of that chain what it had
    other_same : (other : TxId) → other ≢ tx_of seat t → own_version other (one.newer ++ as_done commit one.version ∷ one.older) ≡ own_version other (chain_in settled first.class first.id)
    other_same other differs = ap (own_version other) (sym one.done) ∙ other_done (tx_of seat t) other commit differs (chain_in settled first.class first.id)

    module _ (image_now : Image) (class_now : ℕ → Option ℕ) (w : WritesStamp schema g (record { image = image_now; class_of = class_now; seats = g.seats }) first.class first.header.number (stamp.Done commit))
        (f : Hand) (rest : f ≡ record seat.hand { own = f.own }) (gone : header_of f.own.items (first.class, first.id) ≡ None)
        (others : (object : ℕ × ℕ) → object ≢ (first.class, first.id) → header_of f.own.items object ≡ header_of seat.hand.own.items object) where
      turns : Turns g.seats (with_hand g.seats c.slot f) c.slot seat (record seat { hand = f })
      turns = turned_by g.seats (with_hand g.seats c.slot f) c seat (λ (s : Seat). record s { hand = f }) there refl refl refl (λ class has. has)

      no_plan : f.plan.pairs ≡ []
      no_plan = ap (λ (x : Hand). x.plan.pairs) rest ∙ stamping.plan

      agrees_mid : Agrees schema manager (record { image = image_now; class_of = class_now; seats = g.seats }) (with_chain_in settled first.class first.id (one.newer ++ as_done commit one.version ∷ one.older)) (with_chain_in aimed first.class first.id (one.newer ++ as_done commit one.version ∷ one.older))
      agrees_mid =
          stamped_lists schema manager g (record { image = image_now; class_of = class_now; seats = g.seats }) first.class first.header.number (stamp.Done commit) lawful kept.agrees.works rests_there w within
          settled aimed first.id one.newer one.older one.version kept.agrees one.split header_is

      spoken : aims manager (record seat { hand = f }) ≡ aims manager seat
      spoken = ap (λ (x : Hand). aims manager (record seat { hand = x })) rest

      agrees_now : Agrees schema manager (record { image = image_now; class_of = class_now; seats = with_hand g.seats c.slot f }) (with_chain_in settled first.class first.id (one.newer ++ as_done commit one.version ∷ one.older)) (with_chain_in aimed first.class first.id (one.newer ++ as_done commit one.version ∷ one.older))
      agrees_now =
          hand_stays schema manager (record { image = image_now; class_of = class_now; seats = g.seats }) c seat f lawful agrees_mid.works kept.one_holder is_at.held
          (ap (λ (x : Hand). x.undo) rest) (ap (λ (x : Hand). x.plan) rest) spoken
          (with_chain_in settled first.class first.id (one.newer ++ as_done commit one.version ∷ one.older)) (with_chain_in aimed first.class first.id (one.newer ++ as_done commit one.version ∷ one.older)) agrees_mid

      marked_now : is_marked (record seat { hand = f }) ≡ true
      marked_now = marked

      own_now : OwnAre manager (record seat { hand = f }) (with_chain_in settled first.class first.id (one.newer ++ as_done commit one.version ∷ one.older)) (with_chain_in aimed first.class first.id (one.newer ++ as_done commit one.version ∷ one.older))
      own_now = record {
        are_settled = λ e.
            owns_follow seat (record seat { hand = f }) settled first.class first.id (one.newer ++ as_done commit one.version ∷ one.older) in_settled rises
            (record {
              conn = refl;
              transaction = refl;
              here = λ u open_one.
                  let both : Some u ≡ Some t = sym open_one ∙ is_at.opened in
                  let same : u ≡ t = cc in
                  gone ∙ sym (ap (option_map ref_of) (ap (λ (x : Transaction). own_version (tx_of seat x) (one.newer ++ as_done commit one.version ∷ one.older)) same ∙ one.none));
              others = others;
            })
            ((kept.own c.slot seat there).are_settled (or_second (spans_one_plan manager) _ (or_first (is_marked seat) _ marked)));
        are_made = λ e. absurd (false≢true (sym e ∙ or_second (spans_one_plan manager) _ (or_first (is_marked seat) _ marked)));
        none_settled = λ e unmarked. absurd (false≢true (sym unmarked ∙ marked));
        none_logged = λ e unmarked. absurd (false≢true (sym unmarked ∙ marked));
      }

      own_other : (i : ℕ) (s : Seat) → i ≢ c.slot → seat_in g.seats i ≡ Some s → OwnAre manager s settled aimed →
          OwnAre manager s (with_chain_in settled first.class first.id (one.newer ++ as_done commit one.version ∷ one.older)) (with_chain_in aimed first.class first.id (one.newer ++ as_done commit one.version ∷ one.older))
      own_other i s other at own = elim (true_or_false (spans_one_plan manager)) [
        | inl many ↦ record {
          are_settled = λ e.
              owns_follow s s settled first.class first.id (one.newer ++ as_done commit one.version ∷ one.older) in_settled rises
              (record {
                conn = refl;
                transaction = refl;
                here = λ u open_one. own.are_settled e u open_one first.class first.id ∙ sym (ap (option_map ref_of) (other_same (tx_of s u) (another i s other at u)));
                others = λ object ne. refl;
              })
              (own.are_settled e);
          are_made = λ e. absurd (false≢true (sym e ∙ or_first (spans_one_plan manager) _ many));
          none_settled = λ e. absurd (false≢true (sym e ∙ many));
          none_logged = own.none_logged;
        }
        | inr single ↦ record {
          are_settled = λ e u open_one. absurd (alone single i s other at u open_one);
          are_made = λ e back written u open_one. absurd (alone single i s other at u open_one);
          none_settled = λ e unmarked u open_one. absurd (alone single i s other at u open_one);
          none_logged = own.none_logged;
        }
      ]

      -- in the classes of other connections the chains stay
      stays : (versions : Versions) (i : ℕ) (s : Seat) → i ≢ c.slot → seat_in g.seats i ≡ Some s → (k j : ℕ) → HoldsLatch s k →
          chain_in (with_chain_in versions first.class first.id (one.newer ++ as_done commit one.version ∷ one.older)) k j ≡ chain_in versions k j
      stays versions i s other at k j has =
          chain_of_other_class versions first.class first.id k j (one.newer ++ as_done commit one.version ∷ one.older) (λ same. nobody i s other at (subst (λ (x : ℕ). HoldsLatch s x) same has))

      plan_other : (i : ℕ) (s : Seat) → i ≢ c.slot → seat_in g.seats i ≡ Some s → PlanIsGood manager s settled aimed →
          PlanIsGood manager s (with_chain_in settled first.class first.id (one.newer ++ as_done commit one.version ∷ one.older)) (with_chain_in aimed first.class first.id (one.newer ++ as_done commit one.version ∷ one.older))
      plan_other i s other at good speaks unwritten =
          let leads = good speaks unwritten in
          record {
            own = λ u open_one k j inside. elim (true_or_false (spans_one_plan manager)) [
              | inl many ↦ leads.own u open_one k j inside ∙ ap (λ (vs : List Version). option_map ref_of (own_version (tx_of s u) vs)) (sym (stays aimed i s other at k j (inside many)))
              | inr single ↦ absurd (alone single i s other at u open_one)
            ];
            others = λ many u open_one x ne k j has.
                ap (own_version x) (stays aimed i s other at k j has) ∙ leads.others many u open_one x ne k j has ∙ ap (own_version x) (sym (stays settled i s other at k j has));
            drop = λ many drops u open_one k j has.
                ap (all_but (tx_of s u)) (stays aimed i s other at k j has) ∙ leads.drop many drops u open_one k j has ∙ ap (all_but (tx_of s u)) (sym (stays settled i s other at k j has));
            first = leads.first;
          }

      rests_now : Rests manager (length schema.classes) (record seat { hand = f })
      rests_now =
          subst (λ (p : Phase). RestsIn manager (length schema.classes) (record seat { hand = f }) p) (sym (ap (λ (x : Hand). x.phase) rest ∙ is_at.phase_is))
          (record {
            writer = stamping.writer;
            work = ap (λ (x : Hand). x.work) rest ∙ stamping.work;
            plan = no_plan;
            undo = ap (λ (x : Hand). x.undo.pairs) rest ∙ stamping.undo;
            latches = stamping.latches;
          })

      -- one list of versions, in which the chain is that of the settled ones
      module _ (versions : Versions) (inside : first.class < length versions) (rising : IsAscending (objects_in versions first.class)) (same : chain_in versions first.class first.id ≡ chain_in settled first.class first.id) where
        split_there : chain_in versions first.class first.id ≡ one.newer ++ one.version ∷ one.older
        split_there = same ∙ one.split

        pub stamped_chain : AreStamped g.seats versions → AreStamped (with_hand g.seats c.slot f) (with_chain_in versions first.class first.id (one.newer ++ as_done commit one.version ∷ one.older))
        stamped_chain stamped = record {
          once = each_chain versions first.class first.id (one.newer ++ as_done commit one.version ∷ one.older) inside rising (λ k j vs. AllPairs AreOfTwo vs)
              (once_done one.version commit one.newer one.older (subst (λ (vs : List Version). AllPairs AreOfTwo vs) split_there (stamped.once first.class first.id))) stamped.once;
          open_ones =
              each_chain versions first.class first.id (one.newer ++ as_done commit one.version ∷ one.older) inside rising
              (λ k j vs. (v : Version) (tx : TxId) → Contains vs v → v.stamp ≡ stamp.By tx → IsOpen (with_hand g.seats c.slot f) tx)
              (λ v tx within_it by. elim (within_done one.version v commit one.newer one.older within_it) [
                | inl was ↦
                    open_turned g.seats (with_hand g.seats c.slot f) c.slot seat (record seat { hand = f }) turns tx
                    (stamped.open_ones first.class first.id v tx (subst (λ (vs : List Version). Contains vs v) (sym split_there) was) by)
                | inr is ↦ absurd (let no : stamp.Done commit ≡ stamp.By tx = sym (ap (λ (x : Version). x.stamp) is) ∙ by in cc)
              ])
              (λ k j v tx within_it by. open_turned g.seats (with_hand g.seats c.slot f) c.slot seat (record seat { hand = f }) turns tx (stamped.open_ones k j v tx within_it by));
        }

        pub drawn_chain : AreDrawn serials ids versions → AreDrawn serials ids (with_chain_in versions first.class first.id (one.newer ++ as_done commit one.version ∷ one.older))
        drawn_chain drawn = record {
          each_serial = λ k v has.
              each_chain versions first.class first.id (one.newer ++ as_done commit one.version ∷ one.older) inside rising (λ a b vs. Contains vs v → v.serial ≤ serials)
              (λ within_it. elim (within_done one.version v commit one.newer one.older within_it) [
                | inl was ↦ drawn.each_serial first.class v (record { id = first.id; within = subst (λ (vs : List Version). Contains vs v) (sym split_there) was })
                | inr is ↦
                    subst (λ (n : ℕ). n ≤ serials) (sym (ap (λ (x : Version). x.serial) is))
                    (drawn.each_serial first.class one.version (record { id = first.id; within = subst (λ (vs : List Version). Contains vs one.version) (sym split_there) (within_split one.version one.newer one.older) }))
              ])
              (λ a b within_it. drawn.each_serial a v (record { id = b; within = within_it })) k has.id has.within;
          each_id = each_chain versions first.class first.id (one.newer ++ as_done commit one.version ∷ one.older) inside rising (λ a b vs. vs ≢ [] → b ≤ slice_index ids a)
              (λ some. drawn.each_id first.class first.id (λ none. some_split one.newer one.version one.older (sym split_there ∙ none))) drawn.each_id;
        }

      aimed_same : chain_in aimed first.class first.id ≡ chain_in settled first.class first.id
      aimed_same = ap (λ (os : List Object). chain_of os first.id) lists_same

      stamped_by_hand : IsKept schema manager serials ids (record { image = image_now; class_of = class_now; seats = with_hand g.seats c.slot f })
          (with_chain_in settled first.class first.id (one.newer ++ as_done commit one.version ∷ one.older)) (with_chain_in aimed first.class first.id (one.newer ++ as_done commit one.version ∷ one.older))
      stamped_by_hand = record {
        agrees = agrees_now;
        one_holder = holders_turned g.seats (with_hand g.seats c.slot f) c.slot seat (record seat { hand = f }) turns kept.one_holder;
        single = single_turned g.seats (with_hand g.seats c.slot f) c.slot seat (record seat { hand = f }) turns manager kept.single;
        own = each_turned g.seats (with_hand g.seats c.slot f) c.slot seat (record seat { hand = f }) turns (λ s. OwnAre manager s settled aimed)
            (λ s. OwnAre manager s (with_chain_in settled first.class first.id (one.newer ++ as_done commit one.version ∷ one.older)) (with_chain_in aimed first.class first.id (one.newer ++ as_done commit one.version ∷ one.older)))
            own_now own_other kept.own;
        plans = each_turned g.seats (with_hand g.seats c.slot f) c.slot seat (record seat { hand = f }) turns (λ s. PlanIsGood manager s settled aimed)
            (λ s. PlanIsGood manager s (with_chain_in settled first.class first.id (one.newer ++ as_done commit one.version ∷ one.older)) (with_chain_in aimed first.class first.id (one.newer ++ as_done commit one.version ∷ one.older)))
            (good_without_plan manager (record seat { hand = f }) _ _ no_plan) plan_other kept.plans;
        drops = each_turned g.seats (with_hand g.seats c.slot f) c.slot seat (record seat { hand = f }) turns (DropsNone manager) (DropsNone manager) (drops_none manager (record seat { hand = f }) no_plan) (λ i s other at none. none) kept.drops;
        rests = each_turned g.seats (with_hand g.seats c.slot f) c.slot seat (record seat { hand = f }) turns (Rests manager (length schema.classes)) (Rests manager (length schema.classes)) rests_now (λ i s other at r. r) kept.rests;
        stamped = stamped_chain settled in_settled rises refl kept.stamped;
        stamped_aimed = stamped_chain aimed in_aimed rises_aimed aimed_same kept.stamped_aimed;
        drawn = drawn_chain settled in_settled rises refl kept.drawn;
        drawn_aimed = drawn_chain aimed in_aimed rises_aimed aimed_same kept.drawn_aimed;
      }

      -- with what is said of it by the transaction and its commit
      pub stamped_kept : IsKept schema manager serials ids (record { image = image_now; class_of = class_now; seats = with_hand g.seats c.slot f })
          (with_chain_in settled first.class first.id (done_by (tx_of seat t) commit (chain_in settled first.class first.id)))
          (with_chain_in aimed first.class first.id (done_by (tx_of seat t) commit (chain_in settled first.class first.id)))
      stamped_kept =
          subst (λ (vs : List Version). IsKept schema manager serials ids (record { image = image_now; class_of = class_now; seats = with_hand g.seats c.slot f }) (with_chain_in settled first.class first.id vs) (with_chain_in aimed first.class first.id vs))
          (sym one.done) stamped_by_hand
