-- A world whose nodes lend pages goes on as one flat memory does.
use Rattle.std.proofs.Common.{◌≡◌, ◌≢◌, inl, inr, ◌<◌, ◌≤◌, ℕ, zero, suc, true, false, List, [], ◌∷◌, ◌++◌, length, drop, map, slice_get, Option, Some, None, refl, ap, sym, subst, ◌∙◌, arith, append_assoc}
use Rattle.std.specs.Option.{option_map}
use Rattle.std.proofs.lemmas.Bool.{cases_eq}
use Rattle.std.proofs.lemmas.List.{append-nil}
use Rattle.std.proofs.lemmas.List.Elements.{All-contains}
use Rattle.std.proofs.lemmas.Option.{slice_get-map}
use Rattle.ivy_model.specs.declared.Config.{Config}
use Rattle.ivy_model.specs.declared.Record.{Record}
use Rattle.ivy_model.specs.stated.Config.{IsConfig}
use Rattle.ivy_model.specs.stated.Explains.{part, IsOwed}
use Rattle.ivy_model.specs.stated.Legal.{Makes, ServesAll}
use Rattle.ivy_model.specs.stated.Memory.{Memory, first}
use Rattle.ivy_model.specs.Memory.{flat_page}
use Rattle.ivy_model.proofs.OrderParts.{part-append}
use Rattle.ivy_model.proofs.Orders.{leads_once}
use Rattle.ivy_pagetable.specs.declared.Access.{Access as Right}
use Rattle.ivy_pagetable.specs.declared.Access.TheVariants.{Nil, Read, Write}
use Rattle.ivy_pagetable.specs.declared.Entry.{Entry}
use Rattle.ivy_pagetable.specs.declared.Entry.TheVariants as entry
use Rattle.ivy_pagetable.specs.stated.Accesses.{reads as can_read, writes as can_write}
use Rattle.ivy_pagetable.specs.declared.Word.{Word}
use Rattle.ivy_pagetable.specs.stated.Entries.{nothing, readable, writable}
use Rattle.ivy_pagetable.specs.stated.Tables.{entry_at}
use Rattle.ivy_pagetable.specs.stated.Words.{needs_write}
use Rattle.ivy_memory.specs.declared.Asked.{Asked}
use Rattle.ivy_memory.specs.declared.Asked.TheVariants as asked
use Rattle.ivy_memory.specs.stated.Asking.{asked_of}
use Rattle.ivy_program.specs.stated.Programs.{Program}
use Rattle.ivy_moves.specs.declared.moves.Move.{Move}
use Rattle.ivy_moves.specs.stated.Explained.{IsExplainedAfter}
use Rattle.ivy_moves.specs.stated.Nodes.{Node}
use Rattle.ivy_moves.specs.stated.Worlds.{World, Leads}
use Rattle.ivy_moves.proofs.Leading.{leads_one}
use Rattle.ivy_host.specs.stated.Hosts.{Host, host_rules, answered_by}
use Rattle.ivy_host.specs.stated.Holding.{IsExclusive}
use Rattle.ivy_host.specs.stated.Managers.{Managed, managed_ops}
use Rattle.ivy_host.specs.declared.opening.Opening.{Opening}
use Rattle.ivy_host.specs.stated.Openings.{managed_start, opening}
use Rattle.proof_worlds.specs.consistency.Alone.{IsAlone, AreAlone, AreCurrent, entries_in, bytes_in, GoesOnAlone}
use Rattle.proof_worlds.specs.stated.Nets.{entry_of}
use Rattle.proof_worlds.proofs.headline.Headline.{alone-along, exclusive_along, nodes-led}
use Rattle.proof_lent.specs.Lent.{Lending, Unlent, ToRead, ToWrite, Access, Made, Pointed, MakesAll, State, Event, Make, Lend, GiveBack, Calls, Keeps, Happens, made_by}
use Rattle.proof_lent.specs.LentWorlds.{LentWorld, Happening, Moved, Accessed, Lent, GivenBack, SufficesFor, LendsSoundly, IsMadeSince, Goes, Touches, LendsPage, GivesBackPage, made_where, made_at, made_as, records_of, records_in, IsOfOneMemory, GoesOnLent, LentPagesAreFlat}
use Rattle.proof_lent.proofs.Seen.{Stands, Goes as HappensSo, goes, makes_append, first_stands}
use Rattle.proof_lent.proofs.Once.{leads_rest}
use Rattle.proof_lent.proofs.Members.{In, in_contains, in_left, in_right, in_drop, drop_front, in_map, in_part}
use Rattle.proof_lent.proofs.WordCalls.{word_asked, asked_word, heap_apart, refused_apart}

module _ (c : Config) where
  -- the moves among what happens
  abbrev moves_in : List Happening → List Move
  moves_in [] = []
  moves_in (Moved move ∷ hs) = move ∷ moves_in hs
  moves_in (Accessed a ∷ hs) = moves_in hs
  moves_in (Lent i p to ∷ hs) = moves_in hs
  moves_in (GivenBack i p on ∷ hs) = moves_in hs

  -- the state that the calls of this world come to
  abbrev state_of : LentWorld → Memory → State
  state_of l memory = record { memory = memory; lent = l.lent; image = l.image }

  records-append : (xs ys : List Made) → records_in c (xs ++ ys) ≡ records_in c xs ++ records_in c ys
  records-append [] ys = refl
  records-append (x ∷ xs) ys =
      ap (λ rs. records_of c x ++ rs) (records-append xs ys)
      ∙ sym (append_assoc (records_of c x) (records_in c xs) (records_in c ys))

  record_where : (l : Lending) (r : Record) → records_of c (made_where c l r) ≡ r ∷ []
  record_where Unlent r = refl
  record_where ToRead r = refl
  record_where ToWrite r = refl

  record_at : (lent : ℕ → Lending) (r : Record) (k : Asked) → records_of c (made_at c lent r k) ≡ r ∷ []
  record_at lent r (asked.Word p w) = record_where (lent p) r
  record_at lent r (asked.Refused code) = refl
  record_at lent r (asked.Heap k) = refl

  records_as : (lent : ℕ → ℕ → Lending) (rs : List Record)
      → records_in c (map (made_as c lent) rs) ≡ rs
  records_as lent [] = refl
  records_as lent (r ∷ rs) =
      ap (λ xs. xs ++ records_in c (map (made_as c lent) rs))
      (record_at (lent r.node) r (asked_of c r.call))
      ∙ ap (λ xs. r ∷ xs) (records_as lent rs)

-- an entry that may be read is that of a node
entry_there : (w : World (Host Managed)) (i p : ℕ) → readable (entries_in w i p) ≡ true
    → (n : Node (Host Managed)) × (slice_get w.nodes i ≡ Some n)
    × (entries_in w i p ≡ entry_at n.core.memory.coherence.table p)
entry_there w i p reads = at (slice_get w.nodes i) refl
  where
    mapped : slice_get (map (λ (n : Node (Host Managed)). n.core) w.nodes) i
        ≡ option_map (λ (n : Node (Host Managed)). n.core) (slice_get w.nodes i)
    mapped = slice_get-map (λ (n : Node (Host Managed)). n.core) w.nodes i

    at : (o : Option (Node (Host Managed))) → slice_get w.nodes i ≡ o
        → (n : Node (Host Managed)) × (slice_get w.nodes i ≡ Some n)
        × (entries_in w i p ≡ entry_at n.core.memory.coherence.table p)
    at None is = absurd (
        let f : readable nothing ≡ true =
        ap (λ o. readable (entry_of o p))
        (sym (mapped ∙ ap (option_map (λ (n : Node (Host Managed)). n.core)) is)) ∙ reads in
        let g : false ≡ true = f in cc)
    at (Some n) is = (
      n,
      is,
      ap (λ o. entry_of o p) (mapped ∙ ap (option_map (λ (n : Node (Host Managed)). n.core)) is),
    )

writes_reads : (a : Right) → can_write a ≡ true → can_read a ≡ true
writes_reads Nil h = absurd (let g : false ≡ true = h in cc)
writes_reads Read h = refl
writes_reads Write h = refl

writable_reads : (e : Entry) → writable e ≡ true → readable e ≡ true
writable_reads (entry.Idle s) h = writes_reads s.access h
writable_reads (entry.AwaitRead s) h = absurd (let g : false ≡ true = h in cc)
writable_reads (entry.AwaitWrite s) h = absurd (let g : false ≡ true = h in cc)
writable_reads (entry.AwaitAcks s) h = refl

-- no page is writable at one node and readable at another
apart_entries : (w : World (Host Managed)) → IsExclusive w → (i j p : ℕ)
    → writable (entries_in w i p) ≡ true → readable (entries_in w j p) ≡ true → i ≡ j
apart_entries w exclusive i j p writes reads =
    let a = entry_there w i p (writable_reads (entries_in w i p) writes) in
    let b = entry_there w j p reads in
    exclusive p i j a.0 b.0 a.1 b.1 (ap writable (sym a.2) ∙ writes) (ap readable (sym b.2) ∙ reads)

-- what is lent may be read
lent_reads : (e : Entry) (l : Lending) → SufficesFor e l → l ≢ Unlent → readable e ≡ true
lent_reads e Unlent h has = absurd (has refl)
lent_reads e ToRead h has = h
lent_reads e ToWrite h has = writable_reads e h

module _ (c : Config) (config : IsConfig c) (l : LentWorld) (sound : LendsSoundly l) where
  lent_writes : (j p : ℕ) → l.lent j p ≡ ToWrite → writable (entries_in l.world j p) ≡ true
  lent_writes j p is = subst (SufficesFor (entries_in l.world j p)) is (sound j p)

  -- what is known of a record that a move adds
  record IsFree (r : Record) : Type 0 where
    alone : IsAlone c (entries_in l.world) r.node r.call
    none : (p : ℕ) (w : Word) → asked_of c r.call ≡ asked.Word p w → l.lent r.node p ≡ ToRead
        → needs_write w ≡ false

  -- no other node has its page lent
  others_none : (r : Record) → IsFree r → (p : ℕ) (w : Word) → asked_of c r.call ≡ asked.Word p w
      → (j : ℕ) → j ≢ r.node → l.lent j p ≢ ToWrite
  others_none r f p w is j ne writes = (f.alone p w is j ne).none_writes (lent_writes j p writes)

  others_unlent : (r : Record) → IsFree r → (p : ℕ) (w : Word) → asked_of c r.call ≡ asked.Word p w
      → needs_write w ≡ true → (j : ℕ) → j ≢ r.node → l.lent j p ≡ Unlent
  others_unlent r f p w is write j ne = at (l.lent j p) refl
    where
      at : (x : Lending) → l.lent j p ≡ x → l.lent j p ≡ Unlent
      at Unlent e = e
      at ToRead e = absurd ((f.alone p w is j ne).none_has write
          (lent_reads (entries_in l.world j p) (l.lent j p) (sound j p)
          (λ n. (let g : Unlent ≡ ToRead = sym n ∙ e in cc))))
      at ToWrite e = absurd (others_none r f p w is j ne e)

  module _ (r : Record) (f : IsFree r) (old new : Memory) (makes : Makes c old r new) where
    -- the call is carried out while nobody has its page so lent
    calls : ((p : ℕ) (w : Word) → asked_of c r.call ≡ asked.Word p w → l.lent r.node p ≢ ToWrite)
        → Calls c r (state_of c l old) (state_of c l new)
    calls own = record {
      makes = makes;
      none_writes = λ p a of j. (
          let w = word_asked c r.call p a of in
          elim (cases_eq j r.node) [
            | inl same ↦ λ e. own p w.0 w.1 (ap (λ k. l.lent k p) (sym same) ∙ e)
            | inr ne ↦ others_none r f p w.0 w.1 j ne
          ]);
      none_has = λ p a of other j. (
          let w = word_asked c r.call p a of in
          let write : needs_write w.0 ≡ true = w.2 other in
          elim (cases_eq j r.node) [
            | inl same ↦ ap (λ k. l.lent k p) same ∙ unlent p w.0 w.1 write
            | inr ne ↦ others_unlent r f p w.0 w.1 write j ne
          ]);
      same = record { lent = λ i q. refl; image = λ i q. refl };
    }
      where
        unlent : (p : ℕ) (w : Word) → asked_of c r.call ≡ asked.Word p w → needs_write w ≡ true
            → l.lent r.node p ≡ Unlent
        unlent p w is write = at (l.lent r.node p) refl
          where
            at : (x : Lending) → l.lent r.node p ≡ x → l.lent r.node p ≡ Unlent
            at Unlent e = e
            at ToRead e = absurd (let g : true ≡ false = sym write ∙ f.none p w is e in cc)
            at ToWrite e = absurd (own p w is e)

    keeps : (p : ℕ) (w : Word) → asked_of c r.call ≡ asked.Word p w → 1 ≤ p
        → l.lent r.node p ≡ ToWrite → Keeps c r (state_of c l old) (state_of c l new)
    keeps p w is from e =
        let of = asked_word c r.call p w is from in record {
          makes = makes;
          page = p;
          access = of.0;
          word = of.1;
          has = λ n. (let g : Unlent ≡ ToWrite = sym n ∙ e in cc);
          may = λ other. e;
          same = record { lent = λ i q. refl; image = λ i q. refl };
        }

    made_happens : (heap : (i p : ℕ) → l.lent i p ≢ Unlent → (1 ≤ p) × (p < c.pages)) (k : Asked)
        → asked_of c r.call ≡ k
        → Happens c (Make (made_at c (l.lent r.node) r k)) (state_of c l old) (state_of c l new)
    made_happens heap (asked.Refused code) is =
        calls (λ p w of. absurd (refused_apart code p w (sym is ∙ of)))
    made_happens heap (asked.Heap k) is = calls (λ p w of. absurd (heap_apart k p w (sym is ∙ of)))
    made_happens heap (asked.Word p w) is = at (l.lent r.node p) refl
      where
        same_page : (q : ℕ) (v : Word) → asked_of c r.call ≡ asked.Word q v → p ≡ q
        same_page q v of = (let g : asked.Word p w ≡ asked.Word q v = sym is ∙ of in cc)

        at : (x : Lending) → l.lent r.node p ≡ x
            → Happens c (Make (made_where c x r)) (state_of c l old) (state_of c l new)
        at Unlent e = calls (λ q v of w.
            (let g : Unlent ≡ ToWrite = sym e ∙ ap (l.lent r.node) (same_page q v of) ∙ w in cc))
        at ToRead e = calls (λ q v of w.
            (let g : ToRead ≡ ToWrite = sym e ∙ ap (l.lent r.node) (same_page q v of) ∙ w in cc))
        at ToWrite e =
            keeps p w is
            (heap r.node p (λ n. (let g : Unlent ≡ ToWrite = sym n ∙ e in cc))).0 e

  -- records one after another
  records_go : (rs : List Record) → ((r : Record) → In rs r → IsFree r) → (old new seen : Memory)
      → ServesAll c old rs new → Stands c (state_of c l old) seen
      → (after : Memory) × MakesAll c seen (map (made_as c l.lent) rs) after
      × Stands c (state_of c l new) after
  records_go [] free old new seen led s =
      (seen, refl, subst (λ m. Stands c (state_of c l m) seen) (sym led) s)
  records_go (r ∷ rs) free old new seen led s =
      let one =
      goes c config (Make (made_as c l.lent r)) (state_of c l old) (state_of c l led.0) seen
      (made_happens r (free r (inl refl)) old led.0 led.1 s.heap (asked_of c r.call) refl) s in
      let rest =
      records_go rs (λ q h. free q (inr h)) led.0 new one.after led.2 one.stands in (
        rest.0,
        (
          one.makes.0,
          one.makes.1,
          subst (λ m. MakesAll c m (map (made_as c l.lent) rs) rest.0)
              one.makes.2 rest.1,
        ),
        rest.2,
      )

some_at : {X : Type 0} (xs : List X) (k : ℕ) → k < length xs → (x : X) × (slice_get xs k ≡ Some x)
some_at [] k h = absurd (omega arith)
some_at (x ∷ xs) zero h = (x, refl)
some_at (x ∷ xs) (suc k) h = some_at xs k (omega arith)

led_node : (c : Config) (rs : List Record) (old new : Memory) → ServesAll c old rs new → (r : Record)
    → In rs r → r.node < c.nodes
led_node c [] old new led r h = absurd h
led_node c (z ∷ zs) old new led r (inl e) =
    subst (λ (q : Record). q.node < c.nodes) e led.1.node
led_node c (z ∷ zs) old new led r (inr h) = led_node c zs led.0 new led.2 r h

module _ (opened : Opening) (c : Config) (config : IsConfig c) (programs : List Program)
    (many : length programs ≡ c.nodes) where
  abbrev start : World (Host Managed)
  start = opening (managed_start opened) c programs

  -- what holds of a world that lends, of what was made, and of what is to happen
  record Holds (l : LentWorld) (made : List Made) (hs : List Happening) : Type 0 where
    memory : Memory
    leads : ServesAll c (first c) (records_in c made) memory
    seen : Memory
    makes : MakesAll c (first c) made seen
    stands : Stands c (state_of c l memory) seen
    past : List (World (Host Managed))
    chain : GoesOnAlone (host_rules managed_ops) c past l.world (records_in c made) (moves_in c hs)
    before : List Move
    led : Leads (host_rules managed_ops) c start before l.world

  explained_now : (past : List (World (Host Managed))) (w : World (Host Managed)) (order : List Record)
      (moves : List Move) → GoesOnAlone (host_rules managed_ops) c past w order moves
      → IsExplainedAfter (host_rules managed_ops) c answered_by past w order × AreCurrent c w order
  explained_now past w order [] g = g
  explained_now past w order (move ∷ moves) g = (g.0, g.1)

  -- a node's part of an order
  part_of : (past : List (World (Host Managed))) (w : World (Host Managed)) (order : List Record)
      → IsExplainedAfter (host_rules managed_ops) c answered_by past w order → (i : ℕ)
      (n : Node (Host Managed)) → slice_get w.nodes i ≡ Some n
      → (rest : List Record) × (part i order ≡ n.core.history ++ rest)
      × IsOwed (answered_by n.core).asked rest
  part_of past w order g i n there =
      g.now.explained.parts i (answered_by n.core)
      (slice_get-map (λ (m : Node (Host Managed)). answered_by m.core) w.nodes i
      ∙ ap (option_map (λ (m : Node (Host Managed)). answered_by m.core)) there)

  module _ (l : LentWorld) (made : List Made) (hs : List Happening) (h : Holds l made hs) where
    now : IsExplainedAfter (host_rules managed_ops) c answered_by h.past l.world (records_in c made)
        × AreCurrent c l.world (records_in c made)
    now = explained_now h.past l.world (records_in c made) (moves_in c hs) h.chain

    of_one_memory : IsOfOneMemory c l made
    of_one_memory = record {
      legal = (h.seen, h.makes);
      parts = part_of h.past l.world (records_in c made) now.0;
      apart = h.stands.sees.alone;
    }

    exclusive : IsExclusive l.world
    exclusive = exclusive_along opened c programs config many h.before l.world h.led

    -- what a node may read is the flat memory's
    current : (i p : ℕ) → p < c.pages → readable (entries_in l.world i p) ≡ true
        → bytes_in l.world i p ≡ flat_page c h.memory p
    current i p inside reads =
        now.1.2 i p inside reads
        ∙ ap (λ m. flat_page c m p)
        (leads_once c (first c) now.1.0 h.memory (records_in c made) now.1.1 h.leads)

  module _ (l mid : LentWorld) (made : List Made) (move : Move) (hs : List Happening)
      (h : Holds l made (Moved move ∷ hs)) (g : Goes c move l mid) where
    abbrev order : List Record
    order = records_in c made

    next : (more : List Record) × AreAlone c (entries_in l.world) more
        × GoesOnAlone (host_rules managed_ops) c (l.world ∷ h.past) mid.world (order ++ more)
        (moves_in c hs)
    next = h.chain.2 mid.world g.moves

    then : IsExplainedAfter (host_rules managed_ops) c answered_by (l.world ∷ h.past) mid.world
        (order ++ next.0) × AreCurrent c mid.world (order ++ next.0)
    then = explained_now (l.world ∷ h.past) mid.world (order ++ next.0) (moves_in c hs) next.2

    leads_more : ServesAll c h.memory next.0 then.1.0
    leads_more = leads_rest c (first c) h.memory then.1.0 order next.0 h.leads then.1.1

    led_there : Leads (host_rules managed_ops) c start (h.before ++ move ∷ []) mid.world
    led_there =
        leads_one (host_rules managed_ops) c start l.world mid.world h.before move h.led g.moves

    -- the node has made the call since
    made_since : (r : Record) → In next.0 r → (n m : Node (Host Managed))
        → slice_get l.world.nodes r.node ≡ Some n → slice_get mid.world.nodes r.node ≡ Some m
        → IsMadeSince n.core.history (answered_by m.core) r.call
    made_since r among n m there after =
        in_contains (map (λ (q : Record). q.call) (drop (length n.core.history) m.core.history)
        ++ (answered_by m.core).asked) r.call
        (elim (in_drop (length n.core.history) m.core.history new.0 r fresh) [
          | inl past ↦
              in_left (map (λ (q : Record). q.call) (drop (length n.core.history) m.core.history))
              (answered_by m.core).asked r.call
              (in_map (λ (q : Record). q.call) (drop (length n.core.history) m.core.history) r past)
          | inr owed ↦
              in_right (map (λ (q : Record). q.call) (drop (length n.core.history) m.core.history))
              (answered_by m.core).asked r.call
              (elim new.2 [
                | inl none ↦ absurd (subst (λ rs. In rs r) none owed)
                | inr all ↦
                    subst (λ cs. In cs r.call) all (in_map (λ (q : Record). q.call) new.0 r owed)
              ])
        ])
      where
        old : (rest : List Record) × (part r.node order ≡ n.core.history ++ rest)
            × IsOwed (answered_by n.core).asked rest
        old = part_of h.past l.world order (now l made (Moved move ∷ hs) h).0 r.node n there

        new : (rest : List Record) × (part r.node (order ++ next.0) ≡ m.core.history ++ rest)
            × IsOwed (answered_by m.core).asked rest
        new = part_of (l.world ∷ h.past) mid.world (order ++ next.0) then.0 r.node m after

        whole : m.core.history ++ new.0 ≡ n.core.history ++ (old.0 ++ part r.node next.0)
        whole =
            sym new.1 ∙ part-append r.node order next.0
            ∙ ap (λ rs. rs ++ part r.node next.0) old.1
            ∙ append_assoc n.core.history old.0 (part r.node next.0)

        fresh : In (drop (length n.core.history) (m.core.history ++ new.0)) r
        fresh =
            subst (λ rs. In rs r)
            (sym (ap (drop (length n.core.history)) whole
            ∙ drop_front n.core.history (old.0 ++ part r.node next.0)))
            (in_right old.0 (part r.node next.0) r (in_part next.0 r among))

    free : (r : Record) → In next.0 r → IsFree c config l g.sound r
    free r among = record {
      alone = All-contains (λ (q : Record). IsAlone c (entries_in l.world) q.node q.call) next.0 r
          next.1 (in_contains next.0 r among);
      none = λ p w is read.
          (let below : r.node < c.nodes = led_node c next.0 h.memory then.1.0 leads_more r among in
          let long = nodes-led opened c programs config many h.before l.world h.led in
          let longer =
          nodes-led opened c programs config many (h.before ++ move ∷ []) mid.world led_there in
          let n = some_at l.world.nodes r.node (omega (arith, below, long)) in
          let m = some_at mid.world.nodes r.node (omega (arith, below, longer)) in
          g.none r.node n.0 m.0 n.1 m.1 r.call (made_since r among n.0 m.0 n.1 m.1) p w is read);
    }

    all_go : (after : Memory) × MakesAll c h.seen (map (made_as c l.lent) next.0) after
        × Stands c (state_of c l then.1.0) after
    all_go =
        records_go c config l g.sound next.0 free h.memory then.1.0 h.seen leads_more h.stands

    records_same : records_in c (made ++ map (made_as c l.lent) next.0) ≡ order ++ next.0
    records_same =
        records-append c made (map (made_as c l.lent) next.0)
        ∙ ap (λ rs. order ++ rs) (records_as c l.lent next.0)

    go_moved : Holds mid (made ++ map (made_as c l.lent) next.0) hs
    go_moved = record {
      memory = then.1.0;
      leads = subst (λ rs. ServesAll c (first c) rs then.1.0) (sym records_same) then.1.1;
      seen = all_go.0;
      makes = makes_append c config made (map (made_as c l.lent) next.0) (first c) h.seen all_go.0 h.makes
          all_go.1;
      stands = subst (λ s. Stands c s all_go.0) same_state all_go.2;
      past = l.world ∷ h.past;
      chain = subst (λ rs. GoesOnAlone (host_rules managed_ops) c (l.world ∷ h.past) mid.world rs
          (moves_in c hs)) (sym records_same) next.2;
      before = h.before ++ move ∷ [];
      led = led_there;
    }
      where
        same_state : ◌≡◌ {A = State} (state_of c l then.1.0) (state_of c mid then.1.0)
        same_state = λ k. record {
          memory = then.1.0;
          lent = λ i p. sym (g.lent i p) k;
          image = λ i p. sym (g.image i p) k;
        }

  -- an event of no call
  module _ (l mid : LentWorld) (made more : List Made) (step : Happening) (hs : List Happening)
      (h : Holds l made (step ∷ hs)) (none : records_in c more ≡ [])
      (moves : moves_in c (step ∷ hs) ≡ moves_in c hs) (world : mid.world ≡ l.world) (e : Event)
      (made_is : made_by e ≡ more) (happens : Happens c e (state_of c l h.memory) (state_of c mid h.memory))
    where
      one : HappensSo c e h.seen (state_of c mid h.memory)
      one = goes c config e (state_of c l h.memory) (state_of c mid h.memory) h.seen happens h.stands

      same_records : records_in c (made ++ more) ≡ records_in c made
      same_records =
          records-append c made more ∙ ap (λ rs. records_in c made ++ rs) none
          ∙ append-nil (records_in c made)

      go_quiet : Holds mid (made ++ more) hs
      go_quiet = record {
        memory = h.memory;
        leads = subst (λ rs. ServesAll c (first c) rs h.memory) (sym same_records) h.leads;
        seen = one.after;
        makes = makes_append c config made more (first c) h.seen one.after h.makes
            (subst (λ ms. MakesAll c h.seen ms one.after) made_is one.makes);
        stands = one.stands;
        past = h.past;
        chain = subst (λ w. GoesOnAlone (host_rules managed_ops) c h.past w (records_in c (made ++ more))
            (moves_in c hs)) (sym world)
            (subst (λ rs. GoesOnAlone (host_rules managed_ops) c h.past l.world rs (moves_in c hs))
            (sym same_records)
            (subst (λ ms. GoesOnAlone (host_rules managed_ops) c h.past l.world (records_in c made) ms)
            moves h.chain));
        before = h.before;
        led = subst (Leads (host_rules managed_ops) c start h.before) (sym world) h.led;
      }

  go_accessed : (l mid : LentWorld) (made : List Made) (a : Access) (hs : List Happening)
      → Holds l made (Accessed a ∷ hs) → Touches c a l mid → Holds mid (made ++ Pointed a ∷ []) hs
  go_accessed l mid made a hs h g =
      go_quiet l mid made (Pointed a ∷ []) (Accessed a) hs h refl refl g.world (Make (Pointed a)) refl
      (record {
        inside = g.inside;
        has = g.has;
        may = g.may;
        does = g.does;
        others = g.others;
        lent = g.lent;
        memory = refl;
      })

  go_lent : (l mid : LentWorld) (made : List Made) (i p : ℕ) (to : Lending) (hs : List Happening)
      → Holds l made (Lent i p to ∷ hs) → LendsPage c i p to l mid → Holds mid (made ++ []) hs
  go_lent l mid made i p to hs h g =
      let own : readable (entries_in l.world i p) ≡ true =
      lent_reads (entries_in l.world i p) to g.suffices g.lends in
      go_quiet l mid made [] (Lent i p to) hs h refl refl g.changes.world (Lend i p to) refl
      (record {
        heap = g.heap;
        inside = g.inside;
        none_writes = λ j e. elim (cases_eq j i) [
          | inl same ↦ g.less (ap (λ k. l.lent k p) (sym same) ∙ e)
          | inr ne ↦
              ne (apart_entries l.world (exclusive l made (Lent i p to ∷ hs) h) j i p
              (lent_writes c config l g.sound j p e) own)
        ];
        alone = λ is j ne. others_apart j ne (subst (SufficesFor (entries_in l.world i p)) is g.suffices);
        lends = record { here = g.changes.here; others = g.changes.others };
        here = λ un. g.here un ∙ current l made (Lent i p to ∷ hs) h i p g.inside own;
        stays = g.stays;
        others = g.others;
        memory = refl;
      })
    where
      others_apart : (j : ℕ) → j ≢ i → writable (entries_in l.world i p) ≡ true
          → l.lent j p ≡ Unlent
      others_apart j ne writes = at (l.lent j p) refl
        where
          none : l.lent j p ≢ Unlent → ⊥
          none has =
              ne (sym (apart_entries l.world (exclusive l made (Lent i p to ∷ hs) h) i j p writes
              (lent_reads (entries_in l.world j p) (l.lent j p) (g.sound j p) has)))

          at : (x : Lending) → l.lent j p ≡ x → l.lent j p ≡ Unlent
          at Unlent e = e
          at ToRead e = absurd (none (λ n. (let f : Unlent ≡ ToRead = sym n ∙ e in cc)))
          at ToWrite e = absurd (none (λ n. (let f : Unlent ≡ ToWrite = sym n ∙ e in cc)))

  go_back : (l mid : LentWorld) (made : List Made) (i p : ℕ) (on : Lending) (hs : List Happening)
      → Holds l made (GivenBack i p on ∷ hs) → GivesBackPage c i p on l mid
      → Holds mid (made ++ []) hs
  go_back l mid made i p on hs h g =
      go_quiet l mid made [] (GivenBack i p on) hs h refl refl g.changes.world (GiveBack i p on) refl
      (record {
        had = g.had;
        less = g.less;
        stored = λ e.
            sym (g.stored e)
            ∙ current l made (GivenBack i p on ∷ hs) h i p (h.stands.heap i p g.had).1
            (writable_reads (entries_in l.world i p) (lent_writes c config l g.sound i p e));
        lends = record { here = g.changes.here; others = g.changes.others };
        image = g.image;
        memory = refl;
      })

  -- whatever happens
  goes_on : (hs : List Happening) (l : LentWorld) (made : List Made) → Holds l made hs
      → GoesOnLent c l made hs
  goes_on [] l made h = of_one_memory l made [] h
  goes_on (Moved move ∷ hs) l made h = (
    of_one_memory l made (Moved move ∷ hs) h,
    λ mid g. (
      map (made_as c l.lent) (next l mid made move hs h g).0,
      ((next l mid made move hs h g).0, refl),
      goes_on hs mid (made ++ map (made_as c l.lent) (next l mid made move hs h g).0)
          (go_moved l mid made move hs h g),
    ),
  )
  goes_on (Accessed a ∷ hs) l made h = (
    of_one_memory l made (Accessed a ∷ hs) h,
    λ mid g. (
      Pointed a ∷ [],
      refl,
      goes_on hs mid (made ++ Pointed a ∷ []) (go_accessed l mid made a hs h g),
    ),
  )
  goes_on (Lent i p to ∷ hs) l made h = (
    of_one_memory l made (Lent i p to ∷ hs) h,
    λ mid g. ([], refl, goes_on hs mid (made ++ []) (go_lent l mid made i p to hs h g)),
  )
  goes_on (GivenBack i p on ∷ hs) l made h = (
    of_one_memory l made (GivenBack i p on ∷ hs) h,
    λ mid g. ([], refl, goes_on hs mid (made ++ []) (go_back l mid made i p on hs h g)),
  )

pub lent_pages_are_flat : LentPagesAreFlat
lent_pages_are_flat opened c config programs many first_world begun unlent hs =
    goes_on opened c config programs many hs first_world []
    (record {
      memory = first c;
      leads = refl;
      seen = first c;
      makes = refl;
      stands = first_stands c config (state_of c first_world (first c))
          (record { memory = refl; unlent = unlent });
      past = [];
      chain = subst (λ w. GoesOnAlone (host_rules managed_ops) c [] w [] (moves_in c hs))
          (sym begun)
          (alone-along opened c programs config many (moves_in c hs));
      before = [];
      led = begun;
    })
