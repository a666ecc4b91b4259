-- In each world that moves lead to each string acknowledges no more than was delivered, so nothing
-- that is undelivered is dropped.
use Rattle.std.proofs.Common.{◌≡◌, ◌≢◌, ℕ, zero, suc, ◌+◌, ◌^◌, ◌<◌, ◌≤◌, true, not, nat_lt, List, [], ◌∷◌, ◌++◌, length}
use Rattle.std.proofs.Common.{get_or, set, slice_get, All, Option, Some, None, Result, Ok, ◌&&◌, ◌==◌, refl, sym, ap, subst, ◌∙◌, arith}
use Rattle.std.proofs.lemmas.Bool.{and_parts, ltb-true, eq-eqb, true≢false}
use Rattle.std.proofs.lemmas.List.{map-set, length-map, length-set, length-append}
use Rattle.std.proofs.lemmas.List.Elements.{All-nil, All-append, All-push, All-contains, All-tail, All-weaker}
use Rattle.std.proofs.lemmas.Option.{same_Some, none-some, slice_get_within, get_or_from_slice_get}
use Rattle.ivy_model.specs.declared.Config.{Config}
use Rattle.ivy_model.specs.stated.Config.{IsConfig}
use Rattle.ivy_wire.specs.stated.Data.{Message, Frame}
use Rattle.ivy_wire.specs.declared.FrameKind.{FrameKind}
use Rattle.ivy_wire.specs.stated.Reading.{frame_at}
use Rattle.ivy_wire.specs.stated.Spelling.{FitsMessage, Spells, frame_kind}
use Rattle.ivy_wire.proofs.Frames.{spelled_once}
use Rattle.ivy_link.specs.declared.Verdict.{Verdict}
use Rattle.ivy_link.specs.declared.Verdict.TheVariants as verdict
use Rattle.ivy_link.specs.stated.Linked.{Peer, Linked, peer_at}
use Rattle.ivy_link.specs.stated.Paired.{link_at}
use Rattle.ivy_moves.specs.declared.Move.{Move}
use Rattle.ivy_moves.specs.declared.Move.TheVariants.{Turn, Deliver, Pulse}
use Rattle.ivy_moves.specs.stated.Cores.{Core}
use Rattle.ivy_moves.specs.stated.Following.{links_of, IsOpening, Follows}
use Rattle.ivy_moves.specs.Following.{IsWellBehaved, FollowsStep}
use Rattle.ivy_moves.specs.stated.Nodes.{Node, Effect, turned, verdict_of, delivered, pulsing}
use Rattle.ivy_moves.specs.stated.Worlds.{World, early_of, gone_on, remembered, is_named, turn_of, delivery_of, pulse_of, made_by, moved, Moves, GoesOnWith, Leads}
use Rattle.ivy_moves.proofs.Following.{went, remembered-went, follows, early-follows}
use Rattle.ivy_moves.proofs.Opening.{opening_follows}
use Rattle.ivy_moves.proofs.Places.{guarded, link_of, read-either}
use Rattle.ivy_link.proofs.Pairs.{link_at-with}
use Rattle.proof_answers.specs.answers.Undropped.{IsNothingDropped}
use Rattle.proof_answers.proofs.answers.LinkEvents.{IsTelling}
use Rattle.proof_answers.proofs.answers.Events.{IsAt, IsEvent, turn_event, pulse_event, delivery_event, delivery_reaches, delivery_acks}

-- what stands in a list stands there when it grows
pub get_longer : {X : Type 0} (xs ys : List X) (k : ℕ) (x : X) → slice_get xs k ≡ Some x
    → slice_get (xs ++ ys) k ≡ Some x
get_longer [] ys k x is = absurd (none-some x is)
get_longer (y ∷ xs) ys zero x is = is
get_longer (y ∷ xs) ys (suc k) x is = get_longer xs ys k x is

all_later : {X : Type 0} (P : X → Type 0) (xs ys : List X) → All P (xs ++ ys) → All P ys
all_later P [] ys all = all
all_later P (x ∷ xs) ys all = all_later P xs ys (All-tail P x (xs ++ ys) all)

same_ok : {F : Type 0} (x y : FrameKind) → ◌≡◌ {A = Result FrameKind F} (Ok x) (Ok y) → x ≡ y
same_ok x y e = cc

-- a string spells one frame
pub spelled_same : (c : Config) → IsConfig c → (f g : Frame) (bytes : List ℕ) → Spells c f bytes
    → Spells c g bytes → f ≡ g
spelled_same c config f g bytes a b =
    let x = spelled_once c f bytes config a in
    let y = spelled_once c g bytes config b in
    let kind : frame_kind f.body ≡ frame_kind g.body = same_ok _ _ (sym x.0 ∙ y.0) in
    sym x.1 ∙ ap (λ k. frame_at k bytes) kind ∙ y.1

-- how many messages of node i were delivered at node j
abbrev pub come : {C : Type 0} → World C → ℕ → ℕ → ℕ
come w i j = (peer_at (link_at (links_of w) j) i).delivered

-- what node i knows of node j
abbrev pub known : {C : Type 0} → World C → ℕ → ℕ → Peer
known w i j = peer_at (link_at (links_of w) i) j

-- the string acknowledges no more than was delivered
pub record Tells {C : Type 0} (c : Config) (w : World C) (s : List ℕ) : Type 0 where
  pub frame : Frame
  pub spells : Spells c frame s
  pub ack : frame.ack ≤ come w frame.dest frame.source

-- all strings do, and what a node does not keep for another one was delivered there
pub record IsTold {C : Type 0} (c : Config) (w : World C) : Type 0 where
  pub kept : (i j : ℕ) → i ≢ j → i < length (links_of w) → j < length (links_of w)
      → (known w i j).sent ≤ come w i j + length (known w i j).kept
  pub strings : All (Tells c w) w.sent
  pub early : (i : ℕ) → All (Tells c w) (early_of w i)

module _ {C : Type 0} (c : Config) where
  -- what a node's event leaves of a world that is told
  module _ (w : World C) (i : ℕ) (n : Node C) (e : Effect C) (at : slice_get w.nodes i ≡ Some n)
      (is : IsEvent c (λ j. come w i j) i n e) where
    abbrev next : World C
    next = gone_on w i e

    within : i < length (links_of w)
    within =
        let a : i < length w.nodes = slice_get_within w.nodes i n at in
        let b : length (links_of w) ≡ length w.nodes =
        length-map w.nodes (λ (m : Node C). m.link) in
        omega (arith, a, b)

    links_set : links_of next ≡ set (links_of w) i e.after.link
    links_set = map-set (λ (m : Node C). m.link) w.nodes i e.after

    link_is : link_at (links_of w) i ≡ n.link
    link_is = link_of w.nodes i n at

    count : length (links_of next) ≡ length (links_of w)
    count = ap length links_set ∙ length-set (links_of w) i e.after.link

    -- what holds of the new link, and of the others as they were
    linked : (P : Linked → Type 0) (k : ℕ) → (k ≡ i → P e.after.link)
        → (k ≢ i → P (link_at (links_of w) k)) → P (link_at (links_of next) k)
    linked P k same other =
        subst (λ ls. P (link_at ls k)) (sym links_set)
        (link_at-with P (links_of w) i k e.after.link within same other)

    pub comes_more : (a b : ℕ) → come w a b ≤ come next a b
    comes_more a b =
        linked (λ l. come w a b ≤ (peer_at l a).delivered) b
        (λ eq.
        let here : come w a b ≡ (peer_at n.link a).delivered =
        ap (λ k. come w a k) eq ∙ ap (λ l. (peer_at l a).delivered) link_is in
        let more = is.later.more a in
        omega (arith, here, more))
        (λ ne. omega arith)

    tells_more : (ss : List (List ℕ)) → All (Tells c w) ss → All (Tells c next) ss
    tells_more ss all =
        All-weaker (Tells c w) (Tells c next)
        (λ s t. record {
          frame = t.frame;
          spells = t.spells;
          ack = (let a = t.ack in let b = comes_more t.frame.dest t.frame.source in
              omega (arith, a, b));
        }) ss all

    new_tell : All (Tells c next) e.sent
    new_tell =
        All-weaker (IsTelling c i e.after.link) (Tells c next)
        (λ s t. record {
          frame = t.frame;
          spells = t.spells;
          ack = linked (λ l. t.frame.ack ≤ (peer_at l t.frame.dest).delivered) t.frame.source
              (λ eq. t.ack) (λ ne. absurd (ne t.source));
        }) e.sent is.strings

    pub told_on : IsTold c w → IsTold c next
    told_on h = record {
      kept = λ a b ne lt at. linked
          (λ l. (peer_at l b).sent ≤ come next a b + length (peer_at l b).kept) a
          (λ eq.
          let before : (peer_at n.link b).sent
          ≤ come w i b + length (peer_at n.link b).kept =
          subst (λ l. (peer_at l b).sent ≤ come w i b + length (peer_at l b).kept) link_is
          (h.kept i b (λ s. ne (eq ∙ s)) within (omega (arith, at, count))) in
          let after : (peer_at e.after.link b).sent
          ≤ come w i b + length (peer_at e.after.link b).kept = is.later.keeps b before in
          let more : come w i b ≤ come next a b =
          subst (λ k. come w i b ≤ come next k b) (sym eq) (comes_more i b) in
          omega (arith, after, more))
          (λ other.
          let before =
          h.kept a b ne (omega (arith, lt, count)) (omega (arith, at, count)) in
          let more = comes_more a b in
          omega (arith, before, more));
      strings = All-append (Tells c next) w.sent e.sent (tells_more w.sent h.strings) new_tell;
      early = λ k. tells_more (early_of w k) (h.early k);
    }

  remembered_tell : (w : World C) (v : Verdict) (early : List (List (List ℕ))) (i : ℕ)
      (bytes : List ℕ) → ((j : ℕ) → All (Tells c w) (get_or early j [])) → Tells c w bytes
      → (j : ℕ) → All (Tells c w) (get_or (remembered v early i bytes) j [])
  remembered_tell w verdict.Next early i bytes old new j = old j
  remembered_tell w verdict.Repeat early i bytes old new j = old j
  remembered_tell w verdict.NotMine early i bytes old new j = old j
  remembered_tell w verdict.Ahead early i bytes old new j =
      read-either (All (Tells c w)) early i j (get_or early i [] ++ bytes ∷ []) []
      (λ e. All-push (Tells c w) (get_or early i []) bytes (old i) new) (old j)

  pub told_remembering : (w : World C) (v : Verdict) (i : ℕ) (bytes : List ℕ) → IsTold c w
      → Tells c w bytes → IsTold c (record w { early = remembered v w.early i bytes })
  told_remembering w v i bytes h new = record {
    kept = h.kept;
    strings = same w.sent h.strings;
    early = λ j. same (get_or (remembered v w.early i bytes) j [])
        (remembered_tell w v w.early i bytes h.early new j);
  }
    where
      same : (ss : List (List ℕ)) → All (Tells c w) ss
          → All (Tells c (record w { early = remembered v w.early i bytes })) ss
      same ss all =
          All-weaker (Tells c w) (Tells c (record w { early = remembered v w.early i bytes }))
          (λ s t. record { frame = t.frame; spells = t.spells; ack = t.ack }) ss all

module _ {C : Type 0} (rules : Core C) (c : Config) (Sound : ℕ → C → Type 0) (config : IsConfig c)
    (well_behaved : IsWellBehaved rules c Sound) where
  -- a world that follows an ordered one, and whose strings tell no more than was delivered
  pub record Stands (w : World C) : Type 0 where
    pub posted : ℕ → ℕ → List Message
    pub follows : Follows c Sound w posted
    pub told : IsTold c w

  -- The world after some of its moves.
  pub record IsAfter (w v : World C) : Type 0 where
    pub stands : Stands v
    pub more : (i j : ℕ) → come w i j ≤ come v i j
    pub sent : (i j : ℕ) → (known w i j).sent ≤ (known v i j).sent
    pub heard : (i j : ℕ) → (known w i j).sent + length (known v i j).kept
        ≤ (known v i j).sent + length (known w i j).kept
    pub strings : (k : ℕ) (s : List ℕ) → slice_get w.sent k ≡ Some s → slice_get v.sent k ≡ Some s

  pub after_none : (w : World C) → Stands w → IsAfter w w
  after_none w s = record {
    stands = s;
    more = λ i j. omega arith;
    sent = λ i j. omega arith;
    heard = λ i j. omega arith;
    strings = λ k s is. is;
  }

  pub after_then : (u v w : World C) → IsAfter u v → IsAfter v w → IsAfter u w
  after_then u v w a b = record {
    stands = b.stands;
    more = λ i j. (let x = a.more i j in let y = b.more i j in omega (arith, x, y));
    sent = λ i j. (let x = a.sent i j in let y = b.sent i j in omega (arith, x, y));
    heard = λ i j. (let x = a.heard i j in let y = b.heard i j in omega (arith, x, y));
    strings = λ k s is. b.strings k s (a.strings k s is);
  }

  module _ (w : World C) (s : Stands w) (i : ℕ) (n : Node C) (there : slice_get w.nodes i ≡ Some n)
    where
      pub many_links : length (links_of w) ≡ c.nodes
      many_links = length-map w.nodes (λ (m : Node C). m.link) ∙ s.follows.nodes

      pub link_inside : i < length (links_of w)
      link_inside =
          let a : i < length w.nodes = slice_get_within w.nodes i n there in
          let b = s.follows.nodes in
          omega (arith, a, b, many_links)

      pub link_here : link_at (links_of w) i ≡ n.link
      link_here = link_of w.nodes i n there

      -- so few messages were sent and delivered that their numbers can be written
      few : (j k : ℕ) → j < c.nodes → k < c.nodes → come w j k < 2 ^ 64
      few j k lt at =
          let a = s.follows.paired.delivered j k (omega (arith, lt, many_links))
          (omega (arith, at, many_links)) in
          let b = s.follows.paired.counted j k (omega (arith, lt, many_links))
          (omega (arith, at, many_links)) in
          let d = s.follows.numbers j k in
          omega (arith, a, b, d)

      pub node_at : IsAt c Sound i n
      node_at = record {
        inside = omega (arith, link_inside, many_links);
        sound = s.follows.sound i n there;
        me = ap (λ (l : Linked). l.me) (sym link_here) ∙ s.follows.paired.me i link_inside;
        peers = ap (λ (l : Linked). length l.peers) (sym link_here)
            ∙ s.follows.paired.peers i link_inside ∙ many_links;
        small = λ j lt. subst (λ l. (peer_at l j).delivered < 2 ^ 64) link_here
            (few j i lt (omega (arith, link_inside, many_links)));
      }

      -- an event of the node
      event_after : (e : Effect C) → IsEvent c (λ j. come w i j) i n e → (early : List (List (List ℕ)))
          → IsTold c (record (gone_on w i e) { early = early })
          → FollowsStep rules c Sound w s.posted (record (gone_on w i e) { early = early })
          → IsAfter w (record (gone_on w i e) { early = early })
      event_after e event early told step = record {
        stands = record { posted = step.0; follows = step.1; told = told };
        more = comes_more c w i n e there event;
        sent = λ a b. linked c w i n e there event
            (λ l. (known w a b).sent ≤ (peer_at l b).sent) a
            (λ eq.
            let here : (known w a b).sent ≡ (peer_at n.link b).sent =
            ap (λ k. (known w k b).sent) eq ∙ ap (λ l. (peer_at l b).sent) link_here in
            let more = event.later.sent b in
            omega (arith, here, more))
            (λ ne. omega arith);
        heard = λ a b. linked c w i n e there event
            (λ l. (known w a b).sent + length (peer_at l b).kept
            ≤ (peer_at l b).sent + length (known w a b).kept) a
            (λ eq.
            let same : known w a b ≡ peer_at n.link b =
            ap (λ k. known w k b) eq ∙ ap (λ l. peer_at l b) link_here in
            let sends = ap (λ (p : Peer). p.sent) same in
            let keeps = ap (λ (p : Peer). length p.kept) same in
            let heard = event.later.heard b in
            omega (arith, sends, keeps, heard))
            (λ ne. omega arith);
        strings = λ k s at. get_longer w.sent e.sent k s at;
      }

      effect_after : (e : Effect C) → IsEvent c (λ j. come w i j) i n e
          → FollowsStep rules c Sound w s.posted (gone_on w i e) → IsAfter w (gone_on w i e)
      effect_after e event step =
          event_after e event w.early (told_on c w i n e there event s.told) step

      turn_after : (e : Effect C) → turned rules n ≡ Some e
          → FollowsStep rules c Sound w s.posted (gone_on w i e) → IsAfter w (gone_on w i e)
      turn_after e made step =
          effect_after e
          (turn_event rules c Sound config well_behaved (λ j. come w i j) i n node_at e made) step

      -- what the node keeps for another one fits, and is not more than it sent
      pub kept_few : (j : ℕ) → j < c.nodes → length (peer_at n.link j).kept ≤ (peer_at n.link j).sent
      kept_few j lt =
          let end = s.follows.paired.kept i j link_inside (omega (arith, lt, many_links)) in
          let whole : length (s.posted i j) ≡ length end.0 + length (known w i j).kept =
          ap length end.1 ∙ length-append end.0 (known w i j).kept in
          let count = s.follows.paired.counted i j link_inside (omega (arith, lt, many_links)) in
          subst (λ l. length (peer_at l j).kept ≤ (peer_at l j).sent) link_here
          (omega (arith, whole, count))

      pub kept_fits : (j : ℕ) → j < c.nodes → All (FitsMessage c) (peer_at n.link j).kept
      kept_fits j lt =
          let end = s.follows.paired.kept i j link_inside (omega (arith, lt, many_links)) in
          subst (λ l. All (FitsMessage c) (peer_at l j).kept) link_here
          (all_later (FitsMessage c) end.0 (known w i j).kept
          (subst (All (FitsMessage c)) end.1 (s.follows.fits i j)))

      pub pulse_after : (to : ℕ) → to < c.nodes → i ≢ to
          → FollowsStep rules c Sound w s.posted (gone_on w i (pulsing n to))
          → IsAfter w (gone_on w i (pulsing n to))
      pulse_after to lt apart step =
          effect_after (pulsing n to)
          (pulse_event rules c Sound config well_behaved (λ j. come w i j) i n node_at to lt apart
          (subst (λ l. (peer_at l to).sent < 2 ^ 64) link_here (s.follows.numbers i to))
          (kept_few to lt)
          (kept_fits to lt)) step

      -- a string that is told comes
      module _ (bytes : List ℕ) (tells : Tells c w bytes) (e : Effect C)
          (made : delivered rules c n bytes ≡ Some e) where
        told_here : tells.frame.dest ≡ i → tells.frame.ack ≤ come w i tells.frame.source
        told_here mine =
            subst (λ k. tells.frame.ack ≤ come w k tells.frame.source) mine tells.ack

        event : IsEvent c (λ j. come w i j) i n e
        event =
            delivery_event rules c Sound config well_behaved (λ j. come w i j) i n node_at tells.frame bytes
            tells.spells told_here e made

        delivery_after : (v : Verdict)
            → FollowsStep rules c Sound w s.posted
            (record (gone_on w i e) { early = remembered v w.early i bytes })
            → IsAfter w (record (gone_on w i e) { early = remembered v w.early i bytes })
        delivery_after v step =
            event_after e event (remembered v w.early i bytes)
            (told_remembering c (gone_on w i e) v i bytes (told_on c w i n e there event s.told)
            (record {
              frame = tells.frame;
              spells = tells.spells;
              ack = (let a = tells.ack in
                  let b = comes_more c w i n e there event tells.frame.dest tells.frame.source in
                  omega (arith, a, b));
            })) step

        -- a frame for the node whose number is the next one, or less, is delivered then
        reaches : tells.frame.dest ≡ i → tells.frame.number ≤ come w tells.frame.source i + 1
            → tells.frame.number ≤ (peer_at e.after.link tells.frame.source).delivered
        reaches mine near =
            delivery_reaches rules c Sound config well_behaved (λ j. come w i j) i n node_at tells.frame bytes
            tells.spells told_here e made (mine ∙ sym node_at.me)
            (subst (λ l. tells.frame.number ≤ (peer_at l tells.frame.source).delivered + 1)
            link_here near)

        -- what it acknowledges is kept no more
        pub drops : tells.frame.dest ≡ i
            → tells.frame.ack + length (peer_at e.after.link tells.frame.source).kept
            ≤ (peer_at e.after.link tells.frame.source).sent
        drops mine =
            let from : ℕ = tells.frame.source in
            let below : from < c.nodes = tells.spells.fits.source in
            let told = told_here mine in
            let few = s.follows.paired.delivered i from link_inside
            (omega (arith, below, many_links)) in
            let count = s.follows.paired.counted i from link_inside
            (omega (arith, below, many_links)) in
            delivery_acks rules c Sound config well_behaved (λ j. come w i j) i n node_at tells.frame bytes
            tells.spells told_here e made (mine ∙ sym node_at.me)
            (subst (λ l. tells.frame.ack ≤ (peer_at l from).sent) link_here
            (omega (arith, told, few, count))) (kept_few from below)

  -- the world after a string came
  pub record CameTo (w v : World C) (i : ℕ) (bytes : List ℕ) : Type 0 where
    pub after : IsAfter w v
    pub reached : (f : Frame) → Spells c f bytes → f.dest ≡ i → f.number ≤ come w f.source i + 1
        → f.number ≤ come v f.source i
    pub dropped : (f : Frame) → Spells c f bytes → f.dest ≡ i
        → f.ack + length (known v i f.source).kept ≤ (known v i f.source).sent

  pub string_came : (w v : World C) (s : Stands w) (i : ℕ) (bytes : List ℕ) → Tells c w bytes
      → (o : Option (Node C)) → slice_get w.nodes i ≡ o
      → delivery_of rules c w i o (Some bytes) ≡ Some v → FollowsStep rules c Sound w s.posted v
      → CameTo w v i bytes
  string_came w v s i bytes tells None there made step = absurd (none-some v made)
  string_came w v s i bytes tells (Some n) there made step =
      let verdict = verdict_of c n bytes in
      let e = remembered-went w i verdict bytes (delivered rules c n bytes) v made in
      let last = record (gone_on w i e.0) { early = remembered verdict w.early i bytes } in
      subst (λ x. CameTo w x i bytes) e.2
      (record {
        after =
            delivery_after w s i n there bytes tells e.0 e.1 verdict
            (subst (FollowsStep rules c Sound w s.posted) (sym e.2) step);
        reached = λ f spells mine near. (
            let same : f ≡ tells.frame = spelled_same c config f tells.frame bytes spells tells.spells
            in
            let count = reaches w s i n there bytes tells e.0 e.1
            (ap (λ (g : Frame). g.dest) (sym same) ∙ mine)
            (subst (λ (g : Frame). g.number ≤ come w g.source i + 1) same near) in
            subst (λ (g : Frame). g.number ≤ come last g.source i) (sym same)
            (linked c w i n e.0 there (event w s i n there bytes tells e.0 e.1)
            (λ l. tells.frame.number ≤ (peer_at l tells.frame.source).delivered) i
            (λ eq. count) (λ ne. absurd (ne refl)))
            );
        dropped = λ f spells mine. (
            let same : f ≡ tells.frame = spelled_same c config f tells.frame bytes spells tells.spells
            in
            let drop = drops w s i n there bytes tells e.0 e.1
            (ap (λ (g : Frame). g.dest) (sym same) ∙ mine) in
            subst (λ (g : Frame). g.ack + length (known last i g.source).kept
            ≤ (known last i g.source).sent) (sym same)
            (linked c w i n e.0 there (event w s i n there bytes tells e.0 e.1)
            (λ l. tells.frame.ack + length (peer_at l tells.frame.source).kept
            ≤ (peer_at l tells.frame.source).sent) i
            (λ eq. drop) (λ ne. absurd (ne refl)))
            );
      })

  none_more : (o : Option (Node C)) (w v : World C) (i : ℕ) → delivery_of rules c w i o None ≡ Some v
      → ⊥
  none_more None w v i made = none-some v made
  none_more (Some n) w v i made = none-some v made

  sent_came : (w v : World C) (s : Stands w) (index i : ℕ) (o : Option (List ℕ))
      → slice_get w.sent index ≡ o → delivery_of rules c w i (slice_get w.nodes i) o ≡ Some v
      → FollowsStep rules c Sound w s.posted v
      → (bytes : List ℕ) × (slice_get w.sent index ≡ Some bytes) × CameTo w v i bytes
  sent_came w v s index i None there made step =
      absurd (none_more (slice_get w.nodes i) w v i made)
  sent_came w v s index i (Some bytes) there made step = (
    bytes,
    there,
    string_came w v s i bytes
        (All-contains (Tells c w) w.sent bytes s.told.strings (
          index,
          slice_get_within w.sent index bytes there,
          get_or_from_slice_get w.sent index bytes bytes there,
        )) (slice_get w.nodes i) refl made step,
  )

  -- the node goes on
  goes_on : (more : List (List ℕ)) (w v : World C) (i : ℕ) → Stands w
      → GoesOnWith rules c w i more v → IsAfter w v
  goes_on [] w v i s done = subst (IsAfter w) (sym done) (after_none w s)
  goes_on (bytes ∷ more) w v i s on =
      let first : CameTo w on.1.0 i bytes =
      string_came w on.1.0 s i bytes
      (All-contains (Tells c w) (early_of w i) bytes (s.told.early i) on.0) (slice_get w.nodes i)
      refl on.1.1
      (early-follows rules c Sound well_behaved config w on.1.0 s.posted i bytes s.follows on.0 on.1.1) in
      after_then w on.1.0 v first.after (goes_on more on.1.0 v i first.after.stands on.1.2)

  turn_cases : (w v : World C) (s : Stands w) (i : ℕ) (o : Option (Node C))
      → slice_get w.nodes i ≡ o → turn_of rules c w i o ≡ Some v
      → FollowsStep rules c Sound w s.posted v → IsAfter w v
  turn_cases w v s i None there made step = absurd (none-some v made)
  turn_cases w v s i (Some n) there made step =
      let e = went w i (turned rules n) v made in
      subst (IsAfter w) e.2
      (turn_after w s i n there e.0 e.1 (subst (FollowsStep rules c Sound w s.posted) (sym e.2) step))

  pulse_cases : (w v : World C) (s : Stands w) (i to : ℕ) (o : Option (Node C))
      → slice_get w.nodes i ≡ o → to < c.nodes → i ≢ to → pulse_of rules c w i to o ≡ Some v
      → FollowsStep rules c Sound w s.posted v
      → (n : Node C) × (slice_get w.nodes i ≡ Some n) × (gone_on w i (pulsing n to) ≡ v)
      × IsAfter w v
  pulse_cases w v s i to None there lt apart made step = absurd (none-some v made)
  pulse_cases w v s i to (Some n) there lt apart made step =
      let same : gone_on w i (pulsing n to) ≡ v = same_Some _ v made in (
        n,
        there,
        same,
        subst (IsAfter w) same
            (pulse_after w s i n there to lt apart
            (subst (FollowsStep rules c Sound w s.posted) (sym same) step)),
      )

  -- what a move is
  pub delivery_made : (w v : World C) (index to : ℕ) → moved rules c w (Deliver index to) ≡ Some v
      → delivery_of rules c w to (slice_get w.nodes to) (slice_get w.sent index) ≡ Some v
  unfolding moved
  delivery_made w v index to eq =
      (guarded (is_named w (Deliver index to)) (made_by rules c w (Deliver index to)) v eq).1

  pub turn_made : (w v : World C) (i : ℕ) → moved rules c w (Turn i) ≡ Some v
      → turn_of rules c w i (slice_get w.nodes i) ≡ Some v
  unfolding moved
  turn_made w v i eq = (guarded (is_named w (Turn i)) (made_by rules c w (Turn i)) v eq).1

  apart_of : (i j : ℕ) → not (i == j) ≡ true → i ≢ j
  apart_of i j e same = absurd (true≢false (sym e ∙ ap not (eq-eqb i j same)))

  pulse_made : (w v : World C) (i to : ℕ) → moved rules c w (Pulse i to) ≡ Some v
      → (to < length w.nodes) × (i ≢ to) × (pulse_of rules c w i to (slice_get w.nodes i) ≡ Some v)
  unfolding moved
  pulse_made w v i to eq =
      let parts = guarded (is_named w (Pulse i to)) (made_by rules c w (Pulse i to)) v eq in
      let more : (nat_lt to (length w.nodes) && not (i == to)) ≡ true =
      (and_parts (nat_lt i (length w.nodes)) (nat_lt to (length w.nodes) && not (i == to))
      parts.0).1 in
      let both = and_parts (nat_lt to (length w.nodes)) (not (i == to)) more in
      (ltb-true to (length w.nodes) both.0, apart_of i to both.1, parts.1)

  pub step_of : (w v : World C) (s : Stands w) (move : Move) → moved rules c w move ≡ Some v
      → FollowsStep rules c Sound w s.posted v
  step_of w v s move made = follows rules c Sound config well_behaved w v s.posted move s.follows made

  -- a pulse
  pub pulse_is : (w v : World C) (s : Stands w) (i to : ℕ) → Moves rules c w (Pulse i to) v
      → (n : Node C) × (slice_get w.nodes i ≡ Some n) × (gone_on w i (pulsing n to) ≡ v)
      × (i ≢ to) × IsAfter w v
  pulse_is w v s i to m =
      let made = pulse_made w m.mid i to m.made in
      let few : to < c.nodes = (let a = made.0 in let b = s.follows.nodes in omega (arith, a, b)) in
      let is =
      pulse_cases w m.mid s i to (slice_get w.nodes i) refl few made.1 made.2
      (step_of w m.mid s (Pulse i to) m.made) in
      let same : v ≡ m.mid = m.goes_on.1 in
      (is.0, is.1, is.2 ∙ sym same, made.1, subst (IsAfter w) (sym same) is.3)

  pub pulse_inside : (w v : World C) (s : Stands w) (i to : ℕ) → Moves rules c w (Pulse i to) v
      → to < c.nodes
  pulse_inside w v s i to m =
      let made = pulse_made w m.mid i to m.made in
      let a = made.0 in
      let b = s.follows.nodes in
      omega (arith, a, b)

  -- a delivery: a frame for the node whose number is the next one, or less, is delivered then, and
  -- what a frame for it acknowledges is kept no more
  pub record Delivery (w v : World C) (index to : ℕ) : Type 0 where
    pub after : IsAfter w v
    pub reached : (f : Frame) (bytes : List ℕ) → slice_get w.sent index ≡ Some bytes
        → Spells c f bytes → f.dest ≡ to → f.number ≤ come w f.source to + 1
        → f.number ≤ come v f.source to
    pub dropped : (f : Frame) (bytes : List ℕ) → slice_get w.sent index ≡ Some bytes
        → Spells c f bytes → f.dest ≡ to
        → f.ack + length (known v to f.source).kept ≤ (known v to f.source).sent

  pub delivery_is : (w v : World C) (s : Stands w) (index to : ℕ)
      → Moves rules c w (Deliver index to) v → Delivery w v index to
  delivery_is w v s index to m =
      let came =
      sent_came w m.mid s index to (slice_get w.sent index) refl
      (delivery_made w m.mid index to m.made) (step_of w m.mid s (Deliver index to) m.made) in
      let rest : IsAfter m.mid v = goes_on m.more m.mid v to came.2.after.stands m.goes_on in
      record {
        after = after_then w m.mid v came.2.after rest;
        reached = λ f bytes there spells mine near. (
            let same : bytes ≡ came.0 = same_Some bytes came.0 (sym there ∙ came.1) in
            let first = came.2.reached f (subst (Spells c f) same spells) mine near in
            let more = rest.more f.source to in
            omega (arith, first, more)
            );
        dropped = λ f bytes there spells mine. (
            let same : bytes ≡ came.0 = same_Some bytes came.0 (sym there ∙ came.1) in
            let first = came.2.dropped f (subst (Spells c f) same spells) mine in
            let heard = rest.heard to f.source in
            omega (arith, first, heard)
            );
      }

  pub move_after : (w v : World C) (s : Stands w) (move : Move) → Moves rules c w move v
      → IsAfter w v
  move_after w v s (Turn i) m =
      subst (IsAfter w) (sym m.goes_on.1)
      (turn_cases w m.mid s i (slice_get w.nodes i) refl (turn_made w m.mid i m.made)
      (step_of w m.mid s (Turn i) m.made))
  move_after w v s (Deliver index to) m = (delivery_is w v s index to m).after
  move_after w v s (Pulse i to) m = (pulse_is w v s i to m).4

  pub all_after : (moves : List Move) (w v : World C) → Stands w → Leads rules c w moves v
      → IsAfter w v
  all_after [] w v s led = subst (IsAfter w) (sym led) (after_none w s)
  all_after (move ∷ moves) w v s led =
      let first : IsAfter w led.0 = move_after w led.0 s move led.1 in
      after_then w led.0 v first (all_after moves led.0 v first.stands led.2)

  -- so nothing that is undelivered is dropped
  pub none_dropped : (w : World C) → Stands w → IsNothingDropped w
  none_dropped w s i j n m apart there at = (
    (let a = s.told.kept i j apart (link_inside w s i n there) (link_inside w s j m at) in
        let e : known w i j ≡ peer_at n.link j = ap (λ l. peer_at l j) (link_here w s i n there) in
        let d : come w i j ≡ (peer_at m.link i).delivered =
        ap (λ l. (peer_at l i).delivered) (link_here w s j m at) in
        let x = ap (λ (p : Peer). p.sent) e in
        let y = ap (λ (p : Peer). length p.kept) e in
        omega (arith, a, d, x, y)),
    (let a = s.follows.paired.delivered i j (link_inside w s i n there) (link_inside w s j m at) in
        let b = s.follows.paired.counted i j (link_inside w s i n there) (link_inside w s j m at) in
        let e : known w i j ≡ peer_at n.link j = ap (λ l. peer_at l j) (link_here w s i n there) in
        let d : come w i j ≡ (peer_at m.link i).delivered =
        ap (λ l. (peer_at l i).delivered) (link_here w s j m at) in
        let x = ap (λ (p : Peer). p.sent) e in
        omega (arith, a, b, d, x)),
  )

  -- the opening, in which nothing was sent
  pub opening_stands : (w : World C) → IsOpening c Sound w → Stands w
  opening_stands w is =
      let follows : Follows c Sound w (λ i j. []) = opening_follows c Sound w is in
      record {
        posted = λ i j. [];
        follows = follows;
        told = record {
          kept = λ i j ne lt at. (
              let a = follows.paired.counted i j lt at in omega (arith, a)
              );
          strings = subst (All (Tells c w)) (sym is.sent) (All-nil (Tells c w));
          early = λ i. subst (All (Tells c w)) (sym (is.early i)) (All-nil (Tells c w));
        };
      }
