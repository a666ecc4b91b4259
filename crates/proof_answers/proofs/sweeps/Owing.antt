-- A node that owes another one an acknowledgement owes it, or has sent it more, or the other one
-- has heard it, whatever moves are made but a pulse between them.
use Rattle.std.proofs.Common.{◌≡◌, ◌≢◌, ◌⊎◌, ℕ, ◌+◌, ◌-◌, ◌^◌, ◌<◌, ◌≤◌, true, List, [], ◌∷◌, ◌++◌, length}
use Rattle.std.proofs.Common.{get_or, set, slice_get, All, Option, Some, None, refl, sym, ap, subst, ◌∙◌, arith, inl, inr}
use Rattle.std.proofs.lemmas.Bool.{cases_eq, cases_lt}
use Rattle.std.proofs.lemmas.List.{map-set, length-map}
use Rattle.std.proofs.lemmas.List.Elements.{All-nil, All-append, All-push, All-contains, All-weaker}
use Rattle.std.proofs.lemmas.Option.{same_Some, none-some, slice_get_within, get_or_from_slice_get}
use Rattle.ivy_model.specs.declared.Config.{Config}
use Rattle.ivy_model.specs.stated.Config.{IsConfig}
use Rattle.ivy_wire.specs.stated.Data.{Message, Frame}
use Rattle.ivy_wire.specs.stated.Spelling.{Spells}
use Rattle.ivy_link.specs.declared.Verdict.{Verdict}
use Rattle.ivy_link.specs.declared.Verdict.TheVariants as verdict
use Rattle.ivy_link.specs.stated.Linked.{Peer, Linked, peer_at}
use Rattle.ivy_link.specs.stated.Accepted.{accepted}
use Rattle.ivy_link.specs.stated.Paired.{IsMade, IsBody, link_at}
use Rattle.ivy_link.specs.stated.Pulsed.{owing_nothing}
use Rattle.ivy_moves.specs.declared.Move.{Move}
use Rattle.ivy_moves.specs.declared.Move.TheVariants.{Turn, Deliver, Pulse}
use Rattle.ivy_moves.specs.stated.Cores.{Core}
use Rattle.ivy_moves.specs.stated.Following.{links_of, IsString}
use Rattle.ivy_moves.specs.Following.{IsWellBehaved, FollowsStep}
use Rattle.ivy_moves.specs.stated.Nodes.{Node, Effect, stays, turned, verdict_of, delivered, pulsing}
use Rattle.ivy_moves.specs.stated.Worlds.{World, early_of, gone_on, remembered, turn_of, delivery_of, Moves, GoesOnWith}
use Rattle.ivy_moves.proofs.Following.{went, remembered-went, early-follows}
use Rattle.ivy_moves.proofs.Places.{link_of, read-either, peer-other, set-there}
use Rattle.ivy_link.proofs.Holds.{pulsed-delivered}
use Rattle.ivy_link.proofs.Pairs.{link_at-with}
use Rattle.proof_answers.proofs.answers.LinkEvents.{IsTellingAll, pulse_tells}
use Rattle.proof_answers.proofs.answers.Acknowledged.{come, known, Tells, Stands, IsAfter, spelled_same, link_here, node_at, kept_few, kept_fits, drops, string_came, step_of, delivery_made, turn_made, pulse_is, pulse_inside, move_after}
use Rattle.proof_answers.proofs.sweeps.Posting.{OwesOn, turn_posts, Accepts, delivery_accepts, delivery_other, accept_owes, accept_owes_on, accept_counts, accept_most, accept_sent}

-- what is remembered is what came
remembered_all : {X : Type 0} (P : X → Type 0) (early : List (List X)) (i : ℕ)
    (x : X) → ((k : ℕ) → All P (get_or early k [])) → P x → (k : ℕ)
    → All P (get_or (set early i (get_or early i [] ++ x ∷ [])) k [])
remembered_all P early i x old new k =
    read-either (All P) early i k (get_or early i [] ++ x ∷ []) []
    (λ e. All-push P (get_or early i []) x (old i) new) (old k)

module _ {C : Type 0} (rules : Core C) (c : Config) (Sound : ℕ → C → Type 0) (config : IsConfig c)
    (well_behaved : IsWellBehaved rules c Sound) (i j d b : ℕ) where
  abbrev Good : World C → Type 0
  Good w = Stands rules c Sound config well_behaved w

  abbrev Goes : World C → World C → Type 0
  Goes w v = IsAfter rules c Sound config well_behaved w v

  -- of the frames of node j for node i those whose numbers are above b acknowledge d at least
  abbrev pub IsLate : List ℕ → Type 0
  IsLate s = (f : Frame) → Spells c f s → f.source ≡ j → f.dest ≡ i → (f.number ≤ b) ⊎ (d ≤ f.ack)

  -- node i has heard that so many of its messages were delivered at node j
  abbrev pub HasHeard : World C → Type 0
  HasHeard w = d + length (known w i j).kept ≤ (known w i j).sent

  -- node j owes node i an acknowledgement of so many, or has sent it more messages than these, or
  -- it was heard
  pub record Owes (w : World C) : Type 0 where
    pub low : d ≤ come w i j
    pub counted : b ≤ (known w j i).sent
    pub strings : All IsLate w.sent
    pub early : (k : ℕ) → All IsLate (early_of w k)
    pub heard : (come w j i ≤ b) ⊎ HasHeard w
    pub told : ((known w j i).owed ≡ true) ⊎ (b < (known w j i).sent) ⊎ HasHeard w

  pub heard_on : (w v : World C) → Goes w v → HasHeard w → HasHeard v
  heard_on w v after h = (let a = after.heard i j in omega (arith, a, h))

  -- what an event of node k has to be
  record Acts (k : ℕ) (n : Node C) (e : Effect C) : Type 0 where
    strings : All (IsTellingAll c k n.link) e.sent
    owes : k ≡ j → OwesOn n.link e.after.link i
    counts : k ≡ i → (peer_at n.link j).delivered ≤ b → b < (peer_at e.after.link j).delivered
        → d + length (peer_at e.after.link j).kept ≤ (peer_at e.after.link j).sent

  module _ (w : World C) (s : Good w) (k : ℕ) (n : Node C) (there : slice_get w.nodes k ≡ Some n)
      (e : Effect C) (acts : Acts k n e) (early : List (List (List ℕ)))
      (late : (x : ℕ) → All IsLate (get_or early x [])) where
    abbrev v : World C
    v = record (gone_on w k e) { early = early }

    abbrev at : ℕ → Linked
    at x = link_at (links_of w) x

    within : k < length (links_of w)
    within =
        let a : k < length w.nodes = slice_get_within w.nodes k n there in
        let l : length (links_of w) ≡ length w.nodes =
        length-map w.nodes (λ (m : Node C). m.link) in
        omega (arith, a, l)

    links_set : links_of v ≡ set (links_of w) k e.after.link
    links_set = map-set (λ (m : Node C). m.link) w.nodes k e.after

    link_is : at k ≡ n.link
    link_is = link_of w.nodes k n there

    linked : (P : Linked → Type 0) (x : ℕ) → (x ≡ k → P e.after.link) → (x ≢ k → P (at x))
        → P (link_at (links_of v) x)
    linked P x same other =
        subst (λ ls. P (link_at ls x)) (sym links_set)
        (link_at-with P (links_of w) k x e.after.link within same other)

    new_late : d ≤ come w i j → All IsLate e.sent
    new_late low =
        All-weaker (IsTellingAll c k n.link) IsLate
        (λ x t f spells source dest. (
        let same : t.frame ≡ f = spelled_same c config t.frame f x t.spells spells in
        let from : k ≡ j = sym t.source ∙ ap (λ (g : Frame). g.source) same ∙ source in
        let to : t.frame.dest ≡ i = ap (λ (g : Frame). g.dest) same ∙ dest in
        let tells : f.ack ≡ (peer_at n.link i).delivered =
        ap (λ (g : Frame). g.ack) (sym same) ∙ t.ack
        ∙ ap (λ y. (peer_at n.link y).delivered) to in
        let here : come w i j ≡ (peer_at n.link i).delivered =
        ap (λ y. (peer_at (at y) i).delivered) (sym from)
        ∙ ap (λ (l : Linked). (peer_at l i).delivered) link_is in
        inr (omega (arith, tells, here, low))
        )) e.sent acts.strings

    owes_event : Goes w v → Owes w → Owes v
    owes_event after h = record {
      low = (let x = h.low in let y = after.more i j in omega (arith, x, y));
      counted = (let x = h.counted in let y = after.sent j i in omega (arith, x, y));
      strings = All-append IsLate w.sent e.sent h.strings (new_late h.low);
      early = late;
      heard = elim h.heard [
        | inr before ↦ inr (heard_on w v after before)
        | inl few ↦
            elim (cases_lt b (come v j i)) [
              | inr still ↦ inl still
              | inl more ↦
                  inr
                  (linked (λ l. (peer_at l j).delivered ≡ come v j i
                  → d + length (peer_at l j).kept ≤ (peer_at l j).sent) i
                  (λ same is.
                  acts.counts (sym same)
                  (let z : come w j i ≡ (peer_at n.link j).delivered =
                  ap (λ y. (peer_at (at y) j).delivered) same
                  ∙ ap (λ (l : Linked). (peer_at l j).delivered) link_is in
                  omega (arith, z, few)) (omega (arith, is, more)))
                  (λ other is. absurd (omega (arith, is, more, few))) refl)
            ]
      ];
      told = elim h.told [
        | inr rest ↦
            elim rest [
              | inl more ↦ inr (inl (let y = after.sent j i in omega (arith, more, y)))
              | inr before ↦ inr (inr (heard_on w v after before))
            ]
        | inl owed ↦
            elim
            (linked (λ l. ((peer_at l i).owed ≡ true) ⊎ ((known w j i).sent < (peer_at l i).sent)) j
            (λ same.
            let before : peer_at n.link i ≡ known w j i =
            ap (λ l. peer_at l i) (sym link_is) ∙ ap (λ y. peer_at (at y) i) (sym same) in
            elim (acts.owes (sym same) (ap (λ (p : Peer). p.owed) before ∙ owed)) [
              | inl still ↦ inl still
              | inr more ↦
                  inr (let z = ap (λ (p : Peer). p.sent) before in omega (arith, z, more))
            ]) (λ other. inl owed)) [
              | inl still ↦ inl still
              | inr more ↦ inr (inl (let x = h.counted in omega (arith, x, more)))
            ]
      ];
    }

  -- a turn
  turn_acts : (w : World C) (s : Good w) (k : ℕ) (n : Node C) (e : Effect C)
      → slice_get w.nodes k ≡ Some n → turned rules n ≡ Some e → Acts k n e
  turn_acts w s k n e there made =
      let posts = turn_posts rules c Sound config well_behaved (λ y. come w k y) k n
      (node_at rules c Sound config well_behaved w s k n there) e made in
      record {
        strings = posts.strings;
        owes = λ _. posts.owes i;
        counts = λ _ few more.
            absurd (let a = posts.delivered j in omega (arith, a, few, more));
      }

  turn_owes : (w v : World C) (s : Good w) (k : ℕ) (o : Option (Node C)) → slice_get w.nodes k ≡ o
      → turn_of rules c w k o ≡ Some v → Goes w v → Owes w → Owes v
  turn_owes w v s k None there made after h = absurd (none-some v made)
  turn_owes w v s k (Some n) there made after h =
      let e = went w k (turned rules n) v made in
      subst Owes e.2
      (owes_event w s k n there e.0 (turn_acts w s k n e.0 there e.1) w.early h.early
      (subst (Goes w) (sym e.2) after) h)

  -- a delivery
  module _ (w : World C) (s : Good w) (k : ℕ) (n : Node C) (there : slice_get w.nodes k ≡ Some n)
      (bytes : List ℕ) (tells : Tells c w bytes) (e : Effect C)
      (made : delivered rules c n bytes ≡ Some e) where
    abbrev f : Frame
    f = tells.frame

    pub told_here : f.dest ≡ k → f.ack ≤ come w k f.source
    told_here mine = subst (λ y. f.ack ≤ come w y f.source) mine tells.ack

    is_at : n.link.me ≡ k
    is_at = (node_at rules c Sound config well_behaved w s k n there).me

    pub takes : f.dest ≡ n.link.me
        → Accepts rules c Sound config well_behaved (λ y. come w k y) k n
        (node_at rules c Sound config well_behaved w s k n there) f bytes tells.spells told_here e
    takes mine =
        delivery_accepts rules c Sound config well_behaved (λ y. come w k y) k n
        (node_at rules c Sound config well_behaved w s k n there) f bytes tells.spells told_here mine e made

    mine_acts : IsLate bytes → f.dest ≡ n.link.me → Acts k n e
    mine_acts late mine =
        let a = takes mine in record {
          strings = a.posts.strings;
          owes = λ _ owed.
              subst (λ l. ((peer_at l i).owed ≡ true)
              ⊎ ((peer_at n.link i).sent < (peer_at l i).sent)) (sym a.is)
              (elim (a.posts.owes i owed) [
                | inl still ↦
                    elim (accept_owes_on a.mid f i still) [
                      | inl last ↦ inl last
                      | inr more ↦
                          inr (let x = a.posts.sent i in omega (arith, x, more))
                    ]
                | inr more ↦ inr (kept_sent a.mid more)
              ]);
          counts = λ here few more. (
              let before = a.posts.delivered j in
              let now : (peer_at e.after.link j).delivered
              ≡ (peer_at (accepted a.mid f) j).delivered =
              ap (λ l. (peer_at l j).delivered) a.is in
              let one = accept_most a.mid f j in
              let next = accept_counts a.mid f j (omega (arith, before, now, few, more)) in
              let drop =
              drops rules c Sound config well_behaved w s k n there bytes tells e made
              (mine ∙ is_at) in
              let ack : (f.number ≤ b) ⊎ (d ≤ f.ack) =
              late f tells.spells next.1 (mine ∙ is_at ∙ here) in
              subst (λ y. d + length (peer_at e.after.link y).kept ≤ (peer_at e.after.link y).sent)
              next.1
              (elim ack [
                | inr told ↦ omega (arith, drop, told)
                | inl low ↦
                    absurd (let z = next.2 in omega (arith, low, z, one, now, before, more, few))
              ])
              );
        }
      where
        kept_sent : (m : Linked) → (peer_at n.link i).sent < (peer_at m i).sent
            → (peer_at n.link i).sent < (peer_at (accepted m f) i).sent
        kept_sent m more = (let x = accept_sent m f i in omega (arith, x, more))

    other_acts : f.dest ≢ n.link.me → Acts k n e
    other_acts other =
        let same : e ≡ stays n =
        delivery_other rules c Sound config well_behaved (λ y. come w k y) k n
        (node_at rules c Sound config well_behaved w s k n there) f bytes tells.spells told_here other e
        made
        in
        subst (Acts k n) (sym same) (record {
          strings = All-nil (IsTellingAll c k n.link);
          owes = λ _ owed. inl owed;
          counts = λ _ few more. absurd (omega (arith, few, more));
        })

    delivery_acts : IsLate bytes → Acts k n e
    delivery_acts late = elim (cases_eq f.dest n.link.me) [
      | inl mine ↦ mine_acts late mine
      | inr other ↦ other_acts other
    ]

  early_late : (w : World C) (x : Verdict) (k : ℕ) (bytes : List ℕ) → Owes w → IsLate bytes
      → (y : ℕ) → All IsLate (get_or (remembered x w.early k bytes) y [])
  early_late w verdict.Next k bytes h late y = h.early y
  early_late w verdict.Repeat k bytes h late y = h.early y
  early_late w verdict.NotMine k bytes h late y = h.early y
  early_late w verdict.Ahead k bytes h late y =
      remembered_all IsLate w.early k bytes h.early late y

  string_owes : (w v : World C) (s : Good w) (k : ℕ) (bytes : List ℕ) → Tells c w bytes
      → IsLate bytes → (o : Option (Node C)) → slice_get w.nodes k ≡ o
      → delivery_of rules c w k o (Some bytes) ≡ Some v → Goes w v → Owes w → Owes v
  string_owes w v s k bytes tells late None there made after h = absurd (none-some v made)
  string_owes w v s k bytes tells late (Some n) there made after h =
      let x = verdict_of c n bytes in
      let e = remembered-went w k x bytes (delivered rules c n bytes) v made in
      subst Owes e.2
      (owes_event w s k n there e.0 (delivery_acts w s k n there bytes tells e.0 e.1 late)
      (remembered x w.early k bytes) (early_late w x k bytes h late)
      (subst (Goes w) (sym e.2) after) h)

  in_list : (P : List ℕ → Type 0) (w : World C) (index : ℕ) (bytes : List ℕ) → All P w.sent
      → slice_get w.sent index ≡ Some bytes → P bytes
  in_list P w index bytes all there =
      All-contains P w.sent bytes all (
        index,
        slice_get_within w.sent index bytes there,
        get_or_from_slice_get w.sent index bytes bytes there,
      )

  none_more : (o : Option (Node C)) (w v : World C) (k : ℕ)
      → delivery_of rules c w k o None ≡ Some v → ⊥
  none_more None w v k made = none-some v made
  none_more (Some n) w v k made = none-some v made

  -- the first string of a delivery
  pub record First (w v : World C) (index k : ℕ) : Type 0 where
    pub string : List ℕ
    pub at : slice_get w.sent index ≡ Some string
    pub made : delivery_of rules c w k (slice_get w.nodes k) (Some string) ≡ Some v
    pub tells : Tells c w string
    pub after : Goes w v

  first_of_case : (w v : World C) (s : Good w) (index k : ℕ) (o : Option (List ℕ))
      → slice_get w.sent index ≡ o → delivery_of rules c w k (slice_get w.nodes k) o ≡ Some v
      → FollowsStep rules c Sound w s.posted v → First w v index k
  first_of_case w v s index k None at made step =
      absurd (none_more (slice_get w.nodes k) w v k made)
  first_of_case w v s index k (Some bytes) at made step =
      let tells : Tells c w bytes = in_list (Tells c w) w index bytes s.told.strings at in
      record {
        string = bytes;
        at = at;
        made = made;
        tells = tells;
        after = (string_came rules c Sound config well_behaved w v s k bytes tells (slice_get w.nodes k)
            refl
            made step).after;
      }

  pub first_of : (w v : World C) (s : Good w) (index k : ℕ)
      → (m : Moves rules c w (Deliver index k) v) → First w m.mid index k
  first_of w v s index k m =
      first_of_case w m.mid s index k (slice_get w.sent index) refl
      (delivery_made rules c Sound config well_behaved w m.mid index k m.made)
      (step_of rules c Sound config well_behaved w m.mid s (Deliver index k) m.made)

  -- the node goes on
  pub goes_on_owing : (more : List (List ℕ)) (w v : World C) (k : ℕ) → Good w
      → GoesOnWith rules c w k more v → Owes w → Owes v
  goes_on_owing [] w v k s done h = subst Owes (sym done) h
  goes_on_owing (bytes ∷ more) w v k s on h =
      let tells = All-contains (Tells c w) (early_of w k) bytes (s.told.early k) on.0 in
      let came =
      string_came rules c Sound config well_behaved w on.1.0 s k bytes tells (slice_get w.nodes k) refl
      on.1.1
      (early-follows rules c Sound well_behaved config w on.1.0 s.posted k bytes s.follows on.0 on.1.1) in
      goes_on_owing more on.1.0 v k came.after.stands on.1.2
      (string_owes w on.1.0 s k bytes tells
      (All-contains IsLate (early_of w k) bytes (h.early k) on.0) (slice_get w.nodes k) refl on.1.1
      came.after h)

  delivery_owes : (w v : World C) (s : Good w) (index k : ℕ) → Moves rules c w (Deliver index k) v
      → Owes w → Owes v
  delivery_owes w v s index k m h =
      let first = first_of w v s index k m in
      goes_on_owing m.more m.mid v k first.after.stands m.goes_on
      (string_owes w m.mid s k first.string first.tells
      (in_list IsLate w index first.string h.strings first.at) (slice_get w.nodes k) refl first.made
      first.after h)

  -- a pulse that is not from node j to node i
  pulse_acts : (w v : World C) (s : Good w) (k to : ℕ) (n : Node C)
      → slice_get w.nodes k ≡ Some n → k ≢ to → to < c.nodes → (k ≡ j → to ≡ i → ⊥)
      → Acts k n (pulsing n to)
  unfolding pulsing
  pulse_acts w v s k to n there apart inside other =
      let place = node_at rules c Sound config well_behaved w s k n there in
      record {
        strings = pulse_tells c k n.link to place.me place.inside inside apart
            (place.small to inside)
            (subst (λ l. (peer_at l to).sent < 2 ^ 64)
            (link_here rules c Sound config well_behaved w s k n there) (s.follows.numbers k to))
            (kept_few rules c Sound config well_behaved w s k n there to inside)
            (kept_fits rules c Sound config well_behaved w s k n there to inside);
        owes = λ from owed.
            inl (ap (λ (p : Peer). p.owed)
            (peer-other n.link to i (owing_nothing (peer_at n.link to)) (λ e. other from (sym e)))
            ∙ owed);
        counts = λ _ few more.
            absurd (let a = pulsed-delivered n.link to j in omega (arith, a, few, more));
      }

  pulse_owes : (w v : World C) (s : Good w) (k to : ℕ) → Moves rules c w (Pulse k to) v
      → to < c.nodes → (k ≡ j → to ≡ i → ⊥) → Owes w → Owes v
  pulse_owes w v s k to m inside other h =
      let is = pulse_is rules c Sound config well_behaved w v s k to m in
      subst Owes is.2
      (owes_event w s k is.0 is.1 (pulsing is.0 to)
      (pulse_acts w v s k to is.0 is.1 is.3 inside other) w.early h.early
      (subst (Goes w) (sym is.2) is.4) h)

  -- any move but that pulse
  pub move_owes : (w v : World C) (s : Good w) (move : Move) → (move ≡ Pulse j i → ⊥)
      → Moves rules c w move v → Owes w → Owes v
  move_owes w v s (Turn k) other m h =
      let made = turn_made rules c Sound config well_behaved w m.mid k m.made in
      let after : Goes w m.mid =
      subst (Goes w) m.goes_on.1 (move_after rules c Sound config well_behaved w v s (Turn k) m) in
      subst Owes (sym m.goes_on.1)
      (turn_owes w m.mid s k (slice_get w.nodes k) refl made after h)
  move_owes w v s (Deliver index k) other m h = delivery_owes w v s index k m h
  move_owes w v s (Pulse k to) other m h =
      pulse_owes w v s k to m (pulse_inside rules c Sound config well_behaved w v s k to m)
      (λ from at. other (ap (λ x. Pulse x to) from ∙ ap (Pulse j) at)) h

-- Once a string has come that is the next one, or came before, the node owes.
module _ {C : Type 0} (rules : Core C) (c : Config) (Sound : ℕ → C → Type 0) (config : IsConfig c)
    (well_behaved : IsWellBehaved rules c Sound) (i j : ℕ) where
  abbrev Fine : World C → Type 0
  Fine w = Stands rules c Sound config well_behaved w

  -- a string has a number that was sent
  number_sent : (w : World C) (s : Fine w) → i < length (links_of w) → j < length (links_of w)
      → (bytes : List ℕ) → IsString c s.posted bytes
      → IsLate rules c Sound config well_behaved i j (come w i j) (known w j i).sent bytes
  number_sent w s a b bytes is f spells source dest =
      let same : is.0 ≡ f = spelled_same c config is.0 f bytes is.1 spells in
      let made : IsMade c.nodes s.posted f = subst (IsMade c.nodes s.posted) same is.2 in
      let count = s.follows.paired.counted j i b a in
      inl
      (number_below (s.posted f.source f.dest) f.number f.body made.body
      (ap (λ x. length (s.posted x f.dest)) source ∙ ap (λ x. length (s.posted j x)) dest
      ∙ sym count))
    where
      number_below : (sent : List Message) (number : ℕ) (body : Option Message)
          → IsBody sent number body → length sent ≡ (known w j i).sent
          → number ≤ (known w j i).sent
      number_below sent number None is long = omega (arith, is)
      number_below sent number (Some m) is long =
          let lt = slice_get_within sent (number - 1) m is.1 in
          omega (arith, lt, long)

  -- so node j owes node i
  pub record HasBegun (w v : World C) : Type 0 where
    pub count : ℕ
    pub number : ℕ
    pub low : come w i j ≤ count
    pub owes : Owes rules c Sound config well_behaved i j count number v

  module _ (w v : World C) (s : Fine w) (index : ℕ) (m : Moves rules c w (Deliver index j) v)
      (f : Frame) (bytes : List ℕ) (there : slice_get w.sent index ≡ Some bytes)
      (spells : Spells c f bytes) (source : f.source ≡ i) (dest : f.dest ≡ j) (some : 1 ≤ f.number)
      (near : f.number ≤ come w i j + 1) (inside : i < c.nodes) where
    begins_case : (first : First rules c Sound config well_behaved i j 0 0 w m.mid index j)
        → (o : Option (Node C)) → slice_get w.nodes j ≡ o
        → delivery_of rules c w j o (Some first.string) ≡ Some m.mid → (known m.mid j i).owed ≡ true
    begins_case first None at made = absurd (none-some m.mid made)
    begins_case first (Some n) at made =
        let x = verdict_of c n first.string in
        let e = remembered-went w j x first.string (delivered rules c n first.string) m.mid made in
        let place = node_at rules c Sound config well_behaved w s j n at in
        let same : first.tells.frame ≡ f =
        spelled_same c config first.tells.frame f first.string first.tells.spells
        (subst (Spells c f) (same_Some bytes first.string (sym there ∙ first.at)) spells) in
        let mine : first.tells.frame.dest ≡ n.link.me =
        ap (λ (g : Frame). g.dest) same ∙ dest ∙ sym place.me in
        let from : first.tells.frame.source ≡ i = ap (λ (g : Frame). g.source) same ∙ source in
        let number : first.tells.frame.number ≡ f.number = ap (λ (g : Frame). g.number) same in
        let a =
        takes rules c Sound config well_behaved i j 0 0 w s j n at first.string first.tells e.0 e.1 mine in
        let long = place.peers in
        let peers = a.posts.peers in
        let counted = a.posts.delivered i in
        let here : come w i j ≡ (peer_at n.link i).delivered =
        ap (λ (l : Linked). (peer_at l i).delivered)
        (link_here rules c Sound config well_behaved w s j n at) in
        let alike : (peer_at a.mid first.tells.frame.source).delivered
        ≡ (peer_at a.mid i).delivered =
        ap (λ y. (peer_at a.mid y).delivered) from in
        let owed : (peer_at (accepted a.mid first.tells.frame) first.tells.frame.source).owed
        ≡ true =
        accept_owes a.mid first.tells.frame (mine ∙ sym a.posts.me)
        (omega (arith, from, inside, long, peers)) (omega (arith, number, some))
        (omega (arith, number, near, here, counted, alike)) in
        let last : World C =
        record (gone_on w j e.0) { early = remembered x w.early j first.string } in
        subst (λ (z : World C). (known z j i).owed ≡ true) e.2
        (ap (λ (l : Linked). (peer_at l i).owed)
        (link_of last.nodes j e.0.after (set-there w.nodes j e.0.after n at) ∙ a.is)
        ∙ ap (λ y. (peer_at (accepted a.mid first.tells.frame) y).owed) (sym from) ∙ owed)

    pub begins_owing : HasBegun w v
    begins_owing =
        let first = first_of rules c Sound config well_behaved i j 0 0 w v s index j m in
        let z = first.after.stands in
        let low = first.after.more i j in
        let count = z.follows.nodes in
        let links : length (links_of m.mid) ≡ length m.mid.nodes =
        length-map m.mid.nodes (λ (x : Node C). x.link) in
        let a : i < length (links_of m.mid) = omega (arith, inside, count, links) in
        let at : j < length (links_of m.mid) =
        (let y = delivered_inside first (slice_get w.nodes j) refl first.made in
        omega (arith, y, links, count)) in
        let paired = z.follows.paired.delivered j i at a in
        let counted = z.follows.paired.counted j i at a in
        record {
          count = come m.mid i j;
          number = (known m.mid j i).sent;
          low = low;
          owes =
              goes_on_owing rules c Sound config well_behaved i j (come m.mid i j) (known m.mid j i).sent
              m.more
              m.mid v j z m.goes_on (record {
                low = omega arith;
                counted = omega arith;
                strings = All-weaker (IsString c z.posted)
                    (IsLate rules c Sound config well_behaved i j (come m.mid i j) (known m.mid j i).sent)
                    (number_sent m.mid z a at) m.mid.sent z.follows.strings;
                early = λ k. All-weaker (IsString c z.posted)
                    (IsLate rules c Sound config well_behaved i j (come m.mid i j) (known m.mid j i).sent)
                    (number_sent m.mid z a at) (early_of m.mid k) (z.follows.early k);
                heard = inl (omega (arith, paired, counted));
                told = inl (begins_case first (slice_get w.nodes j) refl first.made);
              });
        }
      where
        delivered_inside : (first : First rules c Sound config well_behaved i j 0 0 w m.mid index j)
            → (o : Option (Node C)) → slice_get w.nodes j ≡ o
            → delivery_of rules c w j o (Some first.string) ≡ Some m.mid → j < c.nodes
        delivered_inside first None at made = absurd (none-some m.mid made)
        delivered_inside first (Some n) at made =
            (node_at rules c Sound config well_behaved w s j n at).inside
