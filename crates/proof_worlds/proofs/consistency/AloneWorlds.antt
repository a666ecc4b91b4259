-- From move to move the order goes on by what was carried out alone. For every manager that keeps the
-- laws.
use Rattle.std.proofs.Common.{◌≡◌, ◌≢◌, ℕ, zero, suc, Bool, List, [], ◌∷◌, ◌++◌, length, get_or, map, set, slice_get, Option, Some, None, refl, ap, sym, subst, ◌∙◌, append-nil, append_assoc, inl}
use Rattle.std.specs.Prelude.{All}
use Rattle.std.specs.Option.{option_map}
use Rattle.std.proofs.lemmas.List.Elements.{All-nil, All-cons, All-append}
use Rattle.std.proofs.lemmas.Option.{none-some, same_Some, slice_get-map}
use Rattle.ivy_model.specs.declared.Config.{Config}
use Rattle.ivy_model.specs.declared.Record.{Record}
use Rattle.ivy_model.specs.stated.Config.{IsConfig}
use Rattle.ivy_wire.specs.stated.Data.{Message}
use Rattle.ivy_pagetable.specs.stated.Manager.{Ops}
use Rattle.ivy_pagetable.specs.Manager.{Laws}
use Rattle.ivy_program.specs.stated.Programs.{Program}
use Rattle.ivy_moves.specs.declared.moves.Move.{Move}
use Rattle.ivy_moves.specs.declared.moves.Move.TheVariants.{Turn, Deliver, Pulse}
use Rattle.ivy_moves.specs.stated.Cores.{Core}
use Rattle.ivy_moves.specs.stated.Nodes.{Node, turned, delivered, pulsing, verdict_of}
use Rattle.ivy_moves.specs.stated.Worlds.{World, GoesOnWith, MayGoOn, moved, made_by, is_named, turn_of, delivery_of, pulse_of, gone_on}
use Rattle.ivy_moves.specs.stated.Following.{fifo_of, Follows}
use Rattle.ivy_moves.specs.Following.{FollowsStep}
use Rattle.ivy_moves.proofs.Following.{follows, early-follows, went, remembered-went}
use Rattle.ivy_moves.proofs.Places.{guarded}
use Rattle.ivy_host.specs.stated.Hosts.{Host, host_rules}
use Rattle.ivy_host.specs.stated.Openings.{Start, opening}
use Rattle.ivy_host.specs.stated.Sound.{IsSoundHost}
use Rattle.ivy_host.proofs.Starts.{IsStart}
use Rattle.ivy_host.proofs.WellBehaved.{well_behaved}
use Rattle.proof_worlds.specs.consistency.Alone.{HasNoPart, IsAlone, AreAlone, AreCurrent, entries_in, GoesOnAlone}
use Rattle.proof_worlds.specs.stated.Nets.{entry_of}
use Rattle.proof_worlds.proofs.consistency.Faithful.{IsFaithful, HasPrograms}
use Rattle.proof_worlds.proofs.consistency.FaithfulOpening.{opening_faithful}
use Rattle.proof_worlds.proofs.consistency.FaithfulSteps.{GoesOn, faithful_next}
use Rattle.proof_worlds.proofs.consistency.FaithfulWorlds.{IsSince, since_here, explains_after, opening_programs}
use Rattle.proof_worlds.proofs.consistency.Untorn.{Since, since-next}

-- the node that makes a move
abbrev mover : Move → ℕ
mover (Turn i) = i
mover (Deliver index to) = to
mover (Pulse from to) = from

other_place : {X : Type 0} (xs : List X) (i : ℕ) (y : X) (j : ℕ) → j ≢ i
    → slice_get (set xs i y) j ≡ slice_get xs j
other_place [] i y j ne = refl
other_place (z ∷ xs) zero y zero ne = absurd (ne refl)
other_place (z ∷ xs) zero y (suc j) ne = refl
other_place (z ∷ xs) (suc i) y zero ne = refl
other_place (z ∷ xs) (suc i) y (suc j) ne = other_place xs i y j (λ e. ne (ap suc e))

module _ {C : Type 0} where
  -- all nodes but this one are as they were
  abbrev StaysBut : ℕ → World C → World C → Type 0
  StaysBut i w v = (j : ℕ) → j ≢ i → slice_get v.nodes j ≡ slice_get w.nodes j

  core_stays : (w v : World C) (i : ℕ) → StaysBut i w v → (j : ℕ) → j ≢ i
      → slice_get (map (λ (n : Node C). n.core) v.nodes) j
      ≡ slice_get (map (λ (n : Node C). n.core) w.nodes) j
  core_stays w v i same j ne =
      slice_get-map (λ (n : Node C). n.core) v.nodes j
      ∙ ap (option_map (λ (n : Node C). n.core)) (same j ne)
      ∙ sym (slice_get-map (λ (n : Node C). n.core) w.nodes j)

  leaves_others : (w v : World C) (i : ℕ) (n : Node C) → v.nodes ≡ set w.nodes i n → StaysBut i w v
  leaves_others w v i n nodes j ne =
      ap (λ ns. slice_get ns j) nodes ∙ other_place w.nodes i n j ne

  module _ (rules : Core C) (c : Config) where
    turn_elsewhere : (w v : World C) (i : ℕ) (o : Option (Node C)) → turn_of rules c w i o ≡ Some v
        → StaysBut i w v
    turn_elsewhere w v i None made = absurd (none-some v made)
    turn_elsewhere w v i (Some n) made =
        let g = went w i (turned rules n) v made in
        leaves_others w v i g.0.after (ap (λ (x : World C). x.nodes) (sym g.2))

    delivery_elsewhere : (w v : World C) (i : ℕ) (o : Option (Node C)) (s : Option (List ℕ))
        → delivery_of rules c w i o s ≡ Some v → StaysBut i w v
    delivery_elsewhere w v i None s made = absurd (none-some v made)
    delivery_elsewhere w v i (Some n) None made = absurd (none-some v made)
    delivery_elsewhere w v i (Some n) (Some s) made =
        let g = remembered-went w i (verdict_of c n s) s (delivered rules c n s) v made in
        leaves_others w v i g.0.after (ap (λ (x : World C). x.nodes) (sym g.2))

    pulse_elsewhere : (w v : World C) (i to : ℕ) (o : Option (Node C))
        → pulse_of rules c w i to o ≡ Some v → StaysBut i w v
    pulse_elsewhere w v i to None made = absurd (none-some v made)
    pulse_elsewhere w v i to (Some n) made =
        leaves_others w v i (pulsing n to).after
        (ap (λ (x : World C). x.nodes) (sym (same_Some (gone_on w i (pulsing n to)) v made)))

    moved_elsewhere : (w v : World C) (move : Move) → moved rules c w move ≡ Some v
        → StaysBut (mover move) w v
    unfolding moved
    moved_elsewhere w v (Turn i) made =
        turn_elsewhere w v i (slice_get w.nodes i)
        (guarded (is_named w (Turn i)) (made_by rules c w (Turn i)) v made).1
    moved_elsewhere w v (Deliver index to) made =
        delivery_elsewhere w v to (slice_get w.nodes to) (slice_get w.sent index)
        (guarded (is_named w (Deliver index to)) (made_by rules c w (Deliver index to)) v made).1
    moved_elsewhere w v (Pulse from to) made =
        pulse_elsewhere w v from to (slice_get w.nodes from)
        (guarded (is_named w (Pulse from to)) (made_by rules c w (Pulse from to)) v made).1

module _ {S : Type 0} (sends : Bool) (ops : Ops S) (laws : Laws ops) (c : Config)
    (config : IsConfig c) (programs : List Program) where
  -- within a move of node i from the world w: the order goes on from that of w, by what was carried
  -- out alone by the entries of w
  record Within (past : List (World (Host S))) (order : List Record) (w : World (Host S)) (i : ℕ)
      (v : World (Host S)) (posted : ℕ → ℕ → List Message) : Type 0 where
    more : List Record
    faithful : IsFaithful sends ops c (fifo_of v posted) (order ++ more)
    runs : HasPrograms programs (fifo_of v posted)
    since : All (IsSince sends ops laws c config (fifo_of v posted) (order ++ more)) past
    alone : AreAlone c (entries_in w) more
    stays : StaysBut i w v

  abbrev Reaches : List (World (Host S)) → List Record → World (Host S) → ℕ → World (Host S) → Type 0
  Reaches past order w i v =
      (posted : ℕ → ℕ → List Message) × Follows c (IsSoundHost ops c) v posted
      × Within past order w i v posted

  module _ (past : List (World (Host S))) (order : List Record) (w : World (Host S)) (i : ℕ) where
    -- one step more of that node
    stepped : (v u : World (Host S)) (r : Reaches past order w i v)
        → FollowsStep (host_rules ops) c (IsSoundHost ops c) v r.0 u → StaysBut i v u
        → Reaches past order w i u
    stepped v u r next stays =
        let k : Within past order w i v r.0 = r.2 in
        let on : GoesOn sends ops c (fifo_of v r.0) (fifo_of u next.0) (order ++ k.more) =
        faithful_next ops laws c config (fifo_of v r.0) (fifo_of u next.0) (order ++ k.more)
        k.faithful next.2 in
        let same = append_assoc order k.more on.more in (
          next.0,
          next.1,
          record {
            more = k.more ++ on.more;
            faithful = subst (IsFaithful sends ops c (fifo_of u next.0)) same on.faithful;
            runs = on.programs programs k.runs;
            since = λ p d below j n there.
                subst (λ all. Since j n (fifo_of u next.0) all) same
                (since-next ops c (fifo_of v r.0) (fifo_of u next.0) (order ++ k.more) on.more
                k.faithful on.faithful j n (k.since p d below j n there) next.2);
            alone = All-append (λ (x : Record). IsAlone c (entries_in w) x.node x.call) k.more on.more
                k.alone
                (λ p d below page word is j ne.
                (let own : (get_or on.more p d).node ≡ i =
                on.mine i (core_stays v u i stays) p d below page word is in
                subst (λ e. HasNoPart (entry_of e page) word)
                (core_stays w v i k.stays j (λ e. ne (e ∙ sym own)))
                (on.alone p d below page word is j ne)));
            stays = λ j ne. stays j ne ∙ k.stays j ne;
          },
        )

    goes_on_with : (v u : World (Host S)) (strings : List (List ℕ)) → Reaches past order w i v
        → GoesOnWith (host_rules ops) c v i strings u → Reaches past order w i u
    goes_on_with v u [] r done = subst (Reaches past order w i) (sym done) r
    goes_on_with v u (bytes ∷ strings) r on =
        goes_on_with on.1.0 u strings
        (stepped v on.1.0 r
        (early-follows (host_rules ops) c (IsSoundHost ops c) (well_behaved laws c) config v on.1.0 r.0
        i bytes r.1 on.0 on.1.1)
        (delivery_elsewhere (host_rules ops) c v on.1.0 i (slice_get v.nodes i) (Some bytes) on.1.1))
        on.1.2

  may-go-on : (past : List (World (Host S))) (order : List Record) (w v u : World (Host S))
      (move : Move) (strings : List (List ℕ)) → Reaches past order w (mover move) v
      → MayGoOn (host_rules ops) c v move strings u → Reaches past order w (mover move) u
  may-go-on past order w v u (Turn i) strings r on = subst (Reaches past order w i) (sym on.1) r
  may-go-on past order w v u (Deliver index to) strings r on =
      goes_on_with past order w to v u strings r on
  may-go-on past order w v u (Pulse from to) strings r on =
      subst (Reaches past order w from) (sym on.1) r

  -- copies are those of the flat memory
  current : (w : World (Host S)) (posted : ℕ → ℕ → List Message) (order : List Record)
      → IsFaithful sends ops c (fifo_of w posted) order → AreCurrent c w order
  current w posted order f =
      (f.memory, f.legal, λ i page inside reads. f.copied.had i page (inl reads) ∙ f.shows page inside)

  pub goes_on_alone : (past : List (World (Host S))) (w : World (Host S))
      (posted : ℕ → ℕ → List Message) (order : List Record) (moves : List Move)
      → Follows c (IsSoundHost ops c) w posted → IsFaithful sends ops c (fifo_of w posted) order
      → HasPrograms programs (fifo_of w posted)
      → All (IsSince sends ops laws c config (fifo_of w posted) order) past
      → GoesOnAlone (host_rules ops) c past w order moves
  goes_on_alone past w posted order [] h f has since = (
    explains_after sends ops laws c config past w posted order f
        (All-cons (IsSince sends ops laws c config (fifo_of w posted) order) w past
        (since_here sends ops laws c config w posted order f) since),
    current w posted order f,
  )
  goes_on_alone past w posted order (move ∷ moves) h f has since =
      let all =
      All-cons (IsSince sends ops laws c config (fifo_of w posted) order) w past
      (since_here sends ops laws c config w posted order f) since in (
        explains_after sends ops laws c config past w posted order f all,
        current w posted order f,
        λ mid made.
            (let same = sym (append-nil order) in
            let now : Reaches (w ∷ past) order w (mover move) w = (
              posted,
              h,
              record {
                more = [];
                faithful = subst (IsFaithful sends ops c (fifo_of w posted)) same f;
                runs = has;
                since =
                    subst (λ os. All (IsSince sends ops laws c config (fifo_of w posted) os) (w ∷ past))
                    same all;
                alone = All-nil (λ (x : Record). IsAlone c (entries_in w) x.node x.call);
                stays = λ j ne. refl;
              },
            ) in
            let next =
            may-go-on (w ∷ past) order w made.mid mid move made.more
            (stepped (w ∷ past) order w (mover move) w made.mid now
            (follows (host_rules ops) c (IsSoundHost ops c) config (well_behaved laws c) w made.mid
            posted move h made.made)
            (moved_elsewhere (host_rules ops) c w made.mid move made.made)) made.goes_on in
            let k = next.2 in (
              k.more,
              k.alone,
              goes_on_alone (w ∷ past) mid next.0 (order ++ k.more) moves next.1 k.faithful k.runs
                  k.since,
            )),
      )

module _ {S : Type 0} (ops : Ops S) (laws : Laws ops) (start : Start S) (c : Config)
    (config : IsConfig c) (new : IsStart ops c start) (programs : List Program) where
  -- so it does from the opening
  pub opening_alone : length programs ≡ c.nodes
      → Follows c (IsSoundHost ops c) (opening start c programs) (λ i j. []) → (moves : List Move)
      → GoesOnAlone (host_rules ops) c [] (opening start c programs) [] moves
  opening_alone many follow moves =
      goes_on_alone start.sends_on ops laws c config programs [] (opening start c programs)
      (λ i j. []) [] moves follow (opening_faithful ops start c config new programs many)
      (opening_programs start c programs)
      (All-nil (IsSince start.sends_on ops laws c config
      (fifo_of (opening start c programs) (λ i j. [])) []))
