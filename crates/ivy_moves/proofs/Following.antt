-- A world of strings follows the FIFO world: each turn, delivery and pulse is a move of the
-- FIFO world, or none.
use Rattle.std.proofs.Common.{◌≡◌, ◌≢◌, ℕ, ◌+◌, ◌^◌, ◌<◌, ◌≤◌, List, [], ◌∷◌, ◌++◌, length, map}
use Rattle.std.proofs.Common.{get_or, set, slice_get, All, Contains, Bool, true, false, not, nat_lt}
use Rattle.std.proofs.Common.{Option, Some, None, MatchOption, Ok, if◌then◌else◌, ◌&&◌, ◌==◌, refl}
use Rattle.std.proofs.Common.{sym, ap, subst, ◌∙◌, inl, inr, arith, length-set, append-nil}
use Rattle.std.proofs.lemmas.Bool.{cases_eq, cases_lt, and_parts, ltb-true, eq-eqb, true≢false}
use Rattle.std.proofs.lemmas.List.{map-set, set-set, length-map, get_or_past}
use Rattle.std.proofs.lemmas.List.Elements.{All-nil, All-append, All-push, All-map, All-contains, All-weaker, Contains-append_left}
use Rattle.std.proofs.lemmas.Option.{same_Some, none-some, slice_get_within, get_or_from_slice_get}
use Rattle.std.proofs.Math.Seq.{map-set_same}
use Rattle.ivy_model.specs.stated.Config.{IsConfig}
use Rattle.ivy_model.specs.declared.Config.{Config}
use Rattle.ivy_wire.specs.declared.FrameKind.{FrameKind}
use Rattle.ivy_wire.specs.stated.Data.{Message, Frame, Parcel}
use Rattle.ivy_wire.specs.stated.Spelling.{FitsMessage, FitsParcel, Fits, Spells, spelling, frame_kind}
use Rattle.ivy_wire.specs.stated.DecodeErrors.{checked}
use Rattle.ivy_wire.specs.stated.Reading.{frame_at}
use Rattle.ivy_wire.proofs.Frames.{spelled_once}
use Rattle.ivy_link.specs.declared.Verdict.{Verdict}
use Rattle.ivy_link.specs.declared.Verdict.TheVariants as verdict
use Rattle.ivy_link.specs.stated.Linked.{Linked, fresh, peer_at, after_sends, frames_of, has_numbers}
use Rattle.ivy_link.specs.stated.Accepted.{offered, accepted}
use Rattle.ivy_link.specs.stated.Pulsed.{after_pulse, frames_again}
use Rattle.ivy_link.specs.stated.Paired.{IsPaired, IsMade, IsBody, IsParcelOf, link_at, extended}
use Rattle.ivy_moves.specs.declared.moves.Move.{Move}
use Rattle.ivy_moves.specs.declared.moves.Move.TheVariants.{Turn, Deliver, Pulse}
use Rattle.ivy_moves.specs.stated.Cores.{Core, Outcome}
use Rattle.ivy_moves.specs.stated.Nodes.{Node, Effect, stays, accepting, turned, turned_to, served_next, received, received_as, verdict_of, delivered, delivered_as, pulsing}
use Rattle.ivy_moves.specs.stated.Worlds.{World, early_of, gone_on, world_goes_on, remembered, remembering, is_named, turn_of, delivery_of, pulse_of, made_by, moved}
use Rattle.ivy_moves.specs.stated.FifoWorld.{rests, turns, delivers, one_more}
use Rattle.ivy_moves.specs.stated.Following.{links_of, fifo_of, IsString, Follows}
use Rattle.ivy_moves.specs.Following.{IsWellBehaved, FollowsStep}
use Rattle.ivy_moves.proofs.Places.{guarded, read-either, set-cases, set_same, set-there, link_of, core_of, more_here, more-other_source, more-other_dest}
use Rattle.ivy_link.proofs.Sending.{sends-peers}
use Rattle.ivy_moves.proofs.Sent.{sends-delivered, sends-numbers, sends-acks}
use Rattle.ivy_moves.proofs.Sent.{accepted-sent, repeat-delivered, ahead-delivered, next-delivered}
use Rattle.ivy_moves.proofs.Sent.{next-others, sends_offered, next-means, pulse-delivered}
use Rattle.ivy_moves.proofs.Sent.{pulse-sent, pulse_acks, made-fits, made-message, extended-fits}
use Rattle.ivy_link.proofs.Pairs.{link_at-with, sends-paired, accepted-paired, pulsed-paired, made-longer}
use Rattle.ivy_link.proofs.Making.{sends-made, pulsed-made}

module _ {C : Type 0} where
  -- a node's core goes on and its link sends parcels; its link alone goes on, and gives frames
  abbrev posts : Node C → C → List Parcel → Effect C
  posts n core ps =
      record {
        after = record { core = core; link = after_sends n.link ps };
        sent = map spelling (frames_of n.link ps);
      }

  abbrev links : Node C → Linked → List Frame → Effect C
  links n link fs = record { after = record { core = n.core; link = link }; sent = map spelling fs }

  nodes-same : (w : World C) (nodes : List (Node C)) (sent : List (List ℕ)) → nodes ≡ w.nodes
      → sent ≡ w.sent → ◌≡◌ {A = World C} (record { nodes = nodes; sent = sent; early = w.early }) w
  nodes-same w nodes sent p q = λ k. record { nodes = p k; sent = q k; early = w.early }

  stays_same : (w : World C) (i : ℕ) (n : Node C) → slice_get w.nodes i ≡ Some n
      → gone_on w i (stays n) ≡ w
  stays_same w i n there =
      nodes-same w (set w.nodes i n) (w.sent ++ []) (set_same w.nodes i n there) (append-nil w.sent)

  -- two effects of one node, one after the other
  twice-same : (w : World C) (i : ℕ) (a b : Effect C) → b.sent ≡ []
      → gone_on (gone_on w i a) i b ≡ gone_on w i (record { after = b.after; sent = a.sent })
  twice-same w i a b none =
      nodes-same (gone_on w i (record { after = b.after; sent = a.sent }))
      (set (set w.nodes i a.after) i b.after) ((w.sent ++ a.sent) ++ b.sent)
      (set-set w.nodes i a.after b.after)
      (ap (λ s. (w.sent ++ a.sent) ++ s) none ∙ append-nil (w.sent ++ a.sent))

  links_set : (w : World C) (i : ℕ) (e : Effect C)
      → links_of (gone_on w i e) ≡ set (links_of w) i e.after.link
  links_set w i e = map-set (λ (n : Node C). n.link) w.nodes i e.after

  -- what each link counts of the messages delivered
  abbrev counts : World C → ℕ → ℕ → ℕ
  counts w i j = (peer_at (link_at (links_of w) j) i).delivered

  counts_of : (w : World C) (i : ℕ) (n : Node C) (a : ℕ) → slice_get w.nodes i ≡ Some n
      → (peer_at n.link a).delivered ≡ counts w a i
  counts_of w i n a there = ap (λ l. (peer_at l a).delivered) (sym (link_of w.nodes i n there))

  counts-same : (w : World C) (i : ℕ) (n : Node C) (e : Effect C) → i < length (links_of w)
      → slice_get w.nodes i ≡ Some n
      → ((a : ℕ) → (peer_at e.after.link a).delivered ≡ (peer_at n.link a).delivered)
      → counts (gone_on w i e) ≡ counts w
  counts-same w i n e lt there same = λ k a b. at a b k
    where
      at : (a b : ℕ) → counts (gone_on w i e) a b ≡ counts w a b
      at a b =
          ap (λ ls. (peer_at (link_at ls b) a).delivered) (links_set w i e)
          ∙ link_at-with (λ l. (peer_at l a).delivered ≡ counts w a b) (links_of w) i b e.after.link
          lt
          (λ d. same a ∙ counts_of w i n a there ∙ ap (λ j. counts w a j) (sym d)) (λ _. refl)

  ordered-same : (v w : World C) (posted : ℕ → ℕ → List Message)
      → map (λ (n : Node C). n.core) v.nodes ≡ map (λ (n : Node C). n.core) w.nodes
      → counts v ≡ counts w → fifo_of v posted ≡ fifo_of w posted
  ordered-same v w posted p q = λ k. record { cores = p k; posted = posted; delivered = q k }

  -- where a node's link alone goes on and has delivered nothing, the FIFO world rests
  link-rests : (w : World C) (posted : ℕ → ℕ → List Message) (i : ℕ) (n : Node C) (link : Linked)
      (fs : List Frame) → i < length (links_of w) → slice_get w.nodes i ≡ Some n
      → ((a : ℕ) → (peer_at link a).delivered ≡ (peer_at n.link a).delivered)
      → fifo_of (gone_on w i (links n link fs)) posted ≡ fifo_of w posted
  link-rests w posted i n link fs lt there same =
      ordered-same (gone_on w i (links n link fs)) w posted
      (map-set_same (λ (m : Node C). m.core) w.nodes i (links n link fs).after n
      (ap (λ (m : Node C). m.core) (sym (get_or_from_slice_get w.nodes i n n there))))
      (counts-same w i n (links n link fs) lt there same)

module _ {C : Type 0} (c : Config) (Sound : ℕ → C → Type 0) where
  -- how many links there are, and that a node that is there is one of them
  links-length : (w : World C) (posted : ℕ → ℕ → List Message) → Follows c Sound w posted
      → length (links_of w) ≡ c.nodes
  links-length w posted h = length-map w.nodes (λ (n : Node C). n.link) ∙ h.nodes

  node-within : (w : World C) (i : ℕ) (n : Node C) → slice_get w.nodes i ≡ Some n
      → i < length (links_of w)
  node-within w i n there =
      rw (length-map w.nodes (λ (m : Node C). m.link)) (slice_get_within w.nodes i n there)

  -- one node goes on
  one-on : (w : World C) (posted posted' : ℕ → ℕ → List Message) (i : ℕ) (e : Effect C)
      → Follows c Sound w posted → i < length (links_of w) → Sound i e.after.core
      → IsPaired (set (links_of w) i e.after.link) posted'
      → ((j : ℕ) → (peer_at e.after.link j).sent < 2 ^ 64)
      → ((a b : ℕ) → All (FitsMessage c) (posted' a b))
      → ((f : Frame) → IsMade c.nodes posted f → IsMade c.nodes posted' f)
      → All (IsString c posted') e.sent → Follows c Sound (gone_on w i e) posted'
  one-on w posted posted' i e h lt sound paired numbers fits more strings = record {
    nodes = length-set w.nodes i e.after ∙ h.nodes;
    sound = λ j n there. elim (set-cases w.nodes i j e.after n there) [
      | inl p ↦ rw p.1 (rw p.0 sound)
      | inr old ↦ h.sound j n old
    ];
    paired = rw (links_set w i e) paired;
    numbers =
        λ a b. rw (links_set w i e)
        (link_at-with (λ l. (peer_at l b).sent < 2 ^ 64) (links_of w) i a e.after.link lt
        (λ _. numbers b) (λ _. h.numbers a b));
    fits = fits;
    strings =
        All-append (IsString c posted') w.sent e.sent
        (All-weaker (IsString c posted) (IsString c posted') (λ bytes s. (s.0, s.1, more s.0 s.2))
        w.sent h.strings) strings;
    early = λ j. All-weaker (IsString c posted) (IsString c posted')
        (λ bytes s. (s.0, s.1, more s.0 s.2)) (early_of w j) (h.early j);
  }

  -- what came to a node too early was a string of the world
  remembered-fits : (posted : ℕ → ℕ → List Message) (v : Verdict) (early : List (List (List ℕ)))
      (i : ℕ) (bytes : List ℕ) → ((j : ℕ) → All (IsString c posted) (get_or early j []))
      → IsString c posted bytes → (j : ℕ)
      → All (IsString c posted) (get_or (remembered v early i bytes) j [])
  remembered-fits posted verdict.Next early i bytes old new j = old j
  remembered-fits posted verdict.Repeat early i bytes old new j = old j
  remembered-fits posted verdict.NotMine early i bytes old new j = old j
  remembered-fits posted verdict.Ahead early i bytes old new j =
      read-either (All (IsString c posted)) early i j (get_or early i [] ++ bytes ∷ []) []
      (λ _. All-push (IsString c posted) (get_or early i []) bytes (old i) new) (old j)

  remembered-on : (w : World C) (posted : ℕ → ℕ → List Message) (v : Verdict) (i : ℕ)
      (bytes : List ℕ) → Follows c Sound w posted → IsString c posted bytes
      → Follows c Sound (record w { early = remembered v w.early i bytes }) posted
  remembered-on w posted v i bytes h string = record {
    nodes = h.nodes;
    sound = h.sound;
    paired = h.paired;
    numbers = h.numbers;
    fits = h.fits;
    strings = h.strings;
    early = remembered-fits posted v w.early i bytes h.early string;
  }

  -- so few messages were posted and delivered that their numbers can be written
  posted-small : (w : World C) (posted : ℕ → ℕ → List Message) (i j : ℕ) → Follows c Sound w posted
      → i < length (links_of w) → j < length (links_of w) → length (posted i j) < 2 ^ 64
  posted-small w posted i j h lti ltj = rw (sym (h.paired.counted i j lti ltj)) (h.numbers i j)

  delivered-small : (w : World C) (posted : ℕ → ℕ → List Message) (i j : ℕ)
      → Follows c Sound w posted → i < length (links_of w) → counts w j i < 2 ^ 64
  delivered-small w posted i j h lt =
      elim (cases_lt j (length (links_of w))) [
        | inl ltj ↦ omega (arith, h.paired.delivered j i ltj lt, posted-small w posted j i h ltj lt)
        | inr ge ↦
            subst (λ p. p.delivered < 2 ^ 64)
            (sym (get_or_past (link_at (links_of w) i).peers j fresh (rw (h.paired.peers i lt) ge)))
            (omega arith)
      ]

  -- the strings of frames that a node made
  strings_of : (posted : ℕ → ℕ → List Message) (fs : List Frame) → All (IsMade c.nodes posted) fs
      → All (λ (f : Frame). f.ack < 2 ^ 64) fs
      → ((i j : ℕ) → All (FitsMessage c) (posted i j))
      → ((i j : ℕ) → i < c.nodes → j < c.nodes → length (posted i j) < 2 ^ 64)
      → All (IsString c posted) (map spelling fs)
  strings_of posted fs made acks fits small =
      All-map (IsString c posted) spelling fs
      (λ k d lt. (
        get_or fs k d,
        record {
          fits =
              made-fits c posted (get_or fs k d) (fits _ _)
              (small _ _ (made k d lt).source (made k d lt).dest) (acks k d lt) (made k d lt);
          text = refl;
        },
        made k d lt,
      ))

  -- a node's core goes on and posts
  posted-on : (w : World C) (posted : ℕ → ℕ → List Message) (i : ℕ) (n : Node C) (core : C)
      (ps : List Parcel) → Follows c Sound w posted → slice_get w.nodes i ≡ Some n
      → Sound i core → All (FitsParcel c i) ps → has_numbers n.link ps ≡ true
      → Follows c Sound (gone_on w i (posts n core ps)) (extended posted ps)
  posted-on w posted i n core ps h there sound fit has =
      one-on w posted (extended posted ps) i (posts n core ps) h lt sound paired numbers fits
      (λ f made. made-longer c.nodes posted ps f made)
      (strings_of (extended posted ps) (frames_of n.link ps) made (sends-acks n.link ps acks) fits
      small)
    where
      lt : i < length (links_of w)
      lt = node-within w i n there

      is : link_at (links_of w) i ≡ n.link
      is = link_of w.nodes i n there

      long : length (links_of w) ≡ c.nodes
      long = links-length w posted h

      own : All (IsParcelOf (length (links_of w)) i) ps
      own = All-weaker (FitsParcel c i) (IsParcelOf (length (links_of w)) i)
          (λ p f. record { source = f.source; dest = rw long f.dest; apart = f.apart }) ps fit

      paired : IsPaired (set (links_of w) i (after_sends n.link ps)) (extended posted ps)
      paired =
          subst (λ l. IsPaired (set (links_of w) i (after_sends l ps)) (extended posted ps)) is
          (sends-paired (links_of w) posted i ps h.paired lt own)

      made : All (IsMade c.nodes (extended posted ps)) (frames_of n.link ps)
      made = subst (λ k. All (IsMade k (extended posted ps)) (frames_of n.link ps)) long
          (subst (λ l. All (IsMade (length (links_of w)) (extended posted ps)) (frames_of l ps)) is
          (sends-made (links_of w) posted i ps h.paired lt own))

      numbers : (j : ℕ) → (peer_at (after_sends n.link ps) j).sent < 2 ^ 64
      numbers =
          sends-numbers n.link ps has
          (λ j. subst (λ l. (peer_at l j).sent < 2 ^ 64) is (h.numbers i j))

      acks : (j : ℕ) → (peer_at n.link j).delivered < 2 ^ 64
      acks j = rw (counts_of w i n j there) (delivered-small w posted i j h lt)

      fits : (a b : ℕ) → All (FitsMessage c) (extended posted ps a b)
      fits = extended-fits c i posted ps h.fits fit

      after : length (set (links_of w) i (after_sends n.link ps)) ≡ c.nodes
      after = length-set (links_of w) i (after_sends n.link ps) ∙ long

      small : (a b : ℕ) → a < c.nodes → b < c.nodes → length (extended posted ps a b) < 2 ^ 64
      small a b lta ltb =
          rw (sym (paired.counted a b (rw after lta) (rw after ltb)))
          (link_at-with (λ l. (peer_at l b).sent < 2 ^ 64) (links_of w) i a (after_sends n.link ps)
          lt (λ _. numbers b) (λ _. h.numbers a b))

  -- a node's link alone goes on
  linked-on : (w : World C) (posted : ℕ → ℕ → List Message) (i : ℕ) (n : Node C) (link : Linked)
      (fs : List Frame) → Follows c Sound w posted → slice_get w.nodes i ≡ Some n
      → IsPaired (set (links_of w) i link) posted
      → ((j : ℕ) → (peer_at link j).sent ≡ (peer_at n.link j).sent) → All (IsMade c.nodes posted) fs
      → All (λ (f : Frame). f.ack < 2 ^ 64) fs
      → Follows c Sound (gone_on w i (links n link fs)) posted
  linked-on w posted i n link fs h there paired same made acks =
      one-on w posted posted i (links n link fs) h lt (h.sound i n there) paired
      (λ j. rw (same j)
      (subst (λ l. (peer_at l j).sent < 2 ^ 64) (link_of w.nodes i n there) (h.numbers i j)))
      h.fits (λ f m. m)
      (strings_of posted fs made acks h.fits
      (λ a b lta ltb. posted-small w posted a b h (rw long lta) (rw long ltb)))
    where
      lt : i < length (links_of w)
      lt = node-within w i n there

      long : length (links_of w) ≡ c.nodes
      long = links-length w posted h

  -- a node's link accepts a frame that some node made
  accepted-on : (w : World C) (posted : ℕ → ℕ → List Message) (i : ℕ) (n : Node C) (f : Frame)
      → Follows c Sound w posted → slice_get w.nodes i ≡ Some n
      → IsMade c.nodes posted f
      → Follows c Sound (gone_on w i (links n (accepted n.link f) [])) posted
  accepted-on w posted i n f h there made =
      linked-on w posted i n (accepted n.link f) [] h there paired (λ j. accepted-sent n.link f j)
      (All-nil (IsMade c.nodes posted)) (All-nil (λ (g : Frame). g.ack < 2 ^ 64))
    where
      paired : IsPaired (set (links_of w) i (accepted n.link f)) posted
      paired =
          subst (λ l. IsPaired (set (links_of w) i (accepted l f)) posted)
          (link_of w.nodes i n there)
          (accepted-paired (links_of w) posted i f h.paired (node-within w i n there)
          (rw (links-length w posted h) made))

carried : (c : Config) (number : ℕ) (body : Option Message) (m : Message) → body ≡ Some m
    → MatchOption body (number ≡ 0) (λ x. (1 ≤ number) × FitsMessage c x) → FitsMessage c m
carried c number body m is fits =
    (subst (λ b. MatchOption b (number ≡ 0) (λ x. (1 ≤ number) × FitsMessage c x)) is fits).1

module _ {C : Type 0} where
  -- the core is served, its link sends the answers and then accepts the frame
  abbrev answers : Node C → Frame → C → List Parcel → Effect C
  answers n f core ps =
      record {
        after = record { core = core; link = accepted (after_sends n.link ps) f };
        sent = map spelling (frames_of n.link ps);
      }

  pub went : (w : World C) (i : ℕ) (o : Option (Effect C)) (w' : World C) → world_goes_on w i o ≡ Some w'
      → (e : Effect C) × (o ≡ Some e) × (gone_on w i e ≡ w')
  went w i None w' eq = absurd (none-some w' eq)
  went w i (Some e) w' eq = (e, refl, same_Some (gone_on w i e) w' eq)

  pub remembered-went : (w : World C) (i : ℕ) (v : Verdict) (bytes : List ℕ) (o : Option (Effect C))
      (w' : World C) → remembering v i bytes (world_goes_on w i o) ≡ Some w'
      → (e : Effect C) × (o ≡ Some e)
      × (record (gone_on w i e) { early = remembered v w.early i bytes } ≡ w')
  remembered-went w i v bytes None w' eq = absurd (none-some w' eq)
  remembered-went w i v bytes (Some e) w' eq =
      (e, refl, same_Some (record (gone_on w i e) { early = remembered v w.early i bytes }) w' eq)

  accepted-posting : (f : Frame) (has : Bool) (x e : Effect C)
      → accepting f (if has then Some x else None) ≡ Some e
      → (has ≡ true)
      × (record {
        after = record { core = x.after.core; link = accepted x.after.link f };
        sent = x.sent;
      } ≡ e)
  accepted-posting f true x e eq = (refl, same_Some _ e eq)
  accepted-posting f false x e eq = absurd (none-some e eq)

module _ {C : Type 0} (rules : Core C) (c : Config) (Sound : ℕ → C → Type 0)
    (well_behaved : IsWellBehaved rules c Sound) where
  rested : (w w' : World C) (posted : ℕ → ℕ → List Message) → Follows c Sound w' posted
      → fifo_of w' posted ≡ fifo_of w posted → FollowsStep rules c Sound w posted w'
  rested w w' posted h same = (posted, h, rests same)

  still : (w : World C) (posted : ℕ → ℕ → List Message) (i : ℕ) (n : Node C)
      → Follows c Sound w posted → slice_get w.nodes i ≡ Some n
      → FollowsStep rules c Sound w posted (gone_on w i (stays n))
  still w posted i n h there =
      subst (λ v. FollowsStep rules c Sound w posted v) (sym (stays_same w i n there))
      (rested w w posted h refl)

  -- turns

  turn_steps : (w : World C) (posted : ℕ → ℕ → List Message) (i : ℕ) (n : Node C) (o : Outcome C)
      → Follows c Sound w posted → slice_get w.nodes i ≡ Some n → rules.turn n.core ≡ Some o
      → has_numbers n.link o.posted ≡ true
      → FollowsStep rules c Sound w posted (gone_on w i (posts n o.after o.posted))
  turn_steps w posted i n o h there e has =
      let sound : Sound i o.after × All (FitsParcel c i) o.posted =
      well_behaved.turn i n.core o (h.sound i n there) e in (
        extended posted o.posted,
        posted-on c Sound w posted i n o.after o.posted h there sound.0 sound.1 has,
        turns i (record {
          core = n.core;
          there = core_of w.nodes i n there;
          outcome = o;
          turned = e;
          cores = map-set (λ (m : Node C). m.core) w.nodes i (posts n o.after o.posted).after;
          posted = refl;
          delivered =
              counts-same w i n (posts n o.after o.posted) (node-within c Sound w i n there) there
              (sends-delivered n.link o.posted);
        }),
      )

  turn_cases : (w : World C) (posted : ℕ → ℕ → List Message) (i : ℕ) (n : Node C) (e : Effect C)
      → Follows c Sound w posted → slice_get w.nodes i ≡ Some n → (o : Option (Outcome C))
      → rules.turn n.core ≡ o → turned_to rules n o ≡ Some e
      → FollowsStep rules c Sound w posted (gone_on w i e)
  turn_cases w posted i n e h there None is eq =
      subst (λ x. FollowsStep rules c Sound w posted (gone_on w i x)) (same_Some (stays n) e eq)
      (still w posted i n h there)
  turn_cases w posted i n e h there (Some o) is eq =
      let parts : (has_numbers n.link o.posted ≡ true)
      × (Some (posts n o.after o.posted) ≡ Some e) =
      guarded (has_numbers n.link o.posted) (Some (posts n o.after o.posted)) e eq in
      subst (λ x. FollowsStep rules c Sound w posted (gone_on w i x))
      (same_Some (posts n o.after o.posted) e parts.1)
      (turn_steps w posted i n o h there is parts.0)

  turn-follows : (w w' : World C) (posted : ℕ → ℕ → List Message) (i : ℕ) → Follows c Sound w posted
      → (o : Option (Node C)) → slice_get w.nodes i ≡ o → turn_of rules c w i o ≡ Some w'
      → FollowsStep rules c Sound w posted w'
  unfolding turned
  turn-follows w w' posted i h None there eq = absurd (none-some w' eq)
  turn-follows w w' posted i h (Some n) there eq =
      let e : (e : Effect C) × (turned rules n ≡ Some e) × (gone_on w i e ≡ w') =
      went w i (turned rules n) w' eq in
      subst (λ v. FollowsStep rules c Sound w posted v) e.2
      (turn_cases w posted i n e.0 h there (rules.turn n.core) refl e.1)

  -- deliveries

  next_counts : (w : World C) (posted : ℕ → ℕ → List Message) (i : ℕ) (n : Node C) (f : Frame)
      (core : C) (ps : List Parcel) → Follows c Sound w posted → slice_get w.nodes i ≡ Some n
      → f.source < c.nodes → offered n.link f ≡ verdict.Next
      → counts (gone_on w i (answers n f core ps)) ≡ one_more (counts w) f.source i
  next_counts w posted i n f core ps h there source next = λ k a b. at a b k
    where
      lt : i < length (links_of w)
      lt = node-within c Sound w i n there

      now : offered (after_sends n.link ps) f ≡ verdict.Next
      now = sends_offered n.link ps f ∙ next

      within : f.source < length (after_sends n.link ps).peers
      within =
          rw (sends-peers n.link ps)
          (subst (λ l. f.source < length l.peers) (link_of w.nodes i n there)
          (rw (h.paired.peers i lt) (rw (links-length c Sound w posted h) source)))

      sent : (a : ℕ) → (peer_at (after_sends n.link ps) a).delivered ≡ counts w a i
      sent a = sends-delivered n.link ps a ∙ counts_of w i n a there

      here : (a b : ℕ) → b ≡ i
          → (peer_at (accepted (after_sends n.link ps) f) a).delivered
          ≡ one_more (counts w) f.source i a b
      here a b d =
          elim (cases_eq a f.source) [
            | inl s ↦
                ap (λ k. (peer_at (accepted (after_sends n.link ps) f) k).delivered) s
                ∙ next-delivered (after_sends n.link ps) f now within
                ∙ ap (λ k. k + 1) (sent f.source)
                ∙ ap (λ k. counts w k i + 1) (sym s) ∙ ap (λ k. counts w a k + 1) (sym d)
                ∙ sym (more_here (counts w) f.source i a b s d)
            | inr ne ↦
                next-others (after_sends n.link ps) f a now ne ∙ sent a
                ∙ ap (λ k. counts w a k) (sym d)
                ∙ sym (more-other_source (counts w) f.source i a b ne)
          ]

      at : (a b : ℕ)
          → counts (gone_on w i (answers n f core ps)) a b ≡ one_more (counts w) f.source i a b
      at a b =
          ap (λ ls. (peer_at (link_at ls b) a).delivered) (links_set w i (answers n f core ps))
          ∙ link_at-with (λ l. (peer_at l a).delivered ≡ one_more (counts w) f.source i a b)
          (links_of w) i b (accepted (after_sends n.link ps) f) lt (here a b)
          (λ ne. sym (more-other_dest (counts w) f.source i a b ne))

  answered_on : (w : World C) (posted : ℕ → ℕ → List Message) (i : ℕ) (n : Node C) (f : Frame)
      (core : C) (ps : List Parcel) → Follows c Sound w posted → slice_get w.nodes i ≡ Some n
      → Sound i core → All (FitsParcel c i) ps → has_numbers n.link ps ≡ true
      → IsMade c.nodes posted f
      → Follows c Sound (gone_on w i (answers n f core ps)) (extended posted ps)
  answered_on w posted i n f core ps h there sound fit has made =
      subst (λ v. Follows c Sound v (extended posted ps))
      (twice-same w i (posts n core ps)
      (links (posts n core ps).after (accepted (after_sends n.link ps) f) []) refl)
      (accepted-on c Sound (gone_on w i (posts n core ps)) (extended posted ps) i
      (posts n core ps).after f (posted-on c Sound w posted i n core ps h there sound fit has)
      (set-there w.nodes i (posts n core ps).after n there) (made-longer c.nodes posted ps f made))

  next-steps : (w : World C) (posted : ℕ → ℕ → List Message) (i : ℕ) (n : Node C) (f : Frame)
      (m : Message) → Follows c Sound w posted → slice_get w.nodes i ≡ Some n → Fits c f
      → IsMade c.nodes posted f → offered n.link f ≡ verdict.Next → f.body ≡ Some m
      → has_numbers n.link (rules.serve n.core f.source m).posted ≡ true
      → FollowsStep rules c Sound w posted
      (gone_on w i
      (answers n f (rules.serve n.core f.source m).after (rules.serve n.core f.source m).posted))
  next-steps w posted i n f m h there fits made next is has = (
    extended posted (rules.serve n.core f.source m).posted,
    answered_on w posted i n f (rules.serve n.core f.source m).after
        (rules.serve n.core f.source m).posted h there served-well.0 served-well.1 has made,
    delivers f.source i (record {
      core = n.core;
      there = core_of w.nodes i n there;
      message = m;
      first = made-message c (posted f.source i) f.number (counts w f.source i) f.body m is count
          (subst (λ j. IsBody (posted f.source j) f.number f.body) dest made.body);
      cores = map-set (λ (x : Node C). x.core) w.nodes i
          (answers n f (rules.serve n.core f.source m).after
          (rules.serve n.core f.source m).posted).after;
      posted = refl;
      delivered =
          next_counts w posted i n f (rules.serve n.core f.source m).after
          (rules.serve n.core f.source m).posted h there made.source next;
    }),
  )
    where
      means : (f.dest ≡ n.link.me) × (f.number ≡ (peer_at n.link f.source).delivered + 1)
      means = next-means n.link f next

      dest : f.dest ≡ i
      dest = means.0 ∙ ap (λ (l : Linked). l.me) (sym (link_of w.nodes i n there))
          ∙ h.paired.me i (node-within c Sound w i n there)

      count : f.number ≡ counts w f.source i + 1
      count = means.1 ∙ ap (λ k. k + 1) (counts_of w i n f.source there)

      fit : FitsMessage c m
      fit = carried c f.number f.body m is fits.body

      served-well : Sound i (rules.serve n.core f.source m).after
          × All (FitsParcel c i) (rules.serve n.core f.source m).posted
      served-well =
          well_behaved.serve i f.source n.core m (h.sound i n there) made.source
          (λ e. made.apart (e ∙ sym dest)) fit

  served-cases : (w : World C) (posted : ℕ → ℕ → List Message) (i : ℕ) (n : Node C) (f : Frame)
      (e : Effect C) → Follows c Sound w posted → slice_get w.nodes i ≡ Some n → Fits c f
      → IsMade c.nodes posted f → offered n.link f ≡ verdict.Next
      → (body : Option Message) → f.body ≡ body → served_next rules n f body ≡ Some e
      → FollowsStep rules c Sound w posted (gone_on w i e)
  served-cases w posted i n f e h there fits made next None is eq =
      let none : f.number ≡ 0 = subst (IsBody (posted f.source f.dest) f.number) is made.body in
      absurd (omega (arith, none, (next-means n.link f next).1))
  served-cases w posted i n f e h there fits made next (Some m) is eq =
      let parts : (has_numbers n.link (rules.serve n.core f.source m).posted ≡ true)
      × (answers n f (rules.serve n.core f.source m).after
      (rules.serve n.core f.source m).posted ≡ e) =
      accepted-posting f (has_numbers n.link (rules.serve n.core f.source m).posted)
      (posts n (rules.serve n.core f.source m).after (rules.serve n.core f.source m).posted) e
      eq in
      subst (λ x. FollowsStep rules c Sound w posted (gone_on w i x)) parts.1
      (next-steps w posted i n f m h there fits made next is parts.0)

  -- a frame that is not Next changes its link alone
  accepted-rests : (w : World C) (posted : ℕ → ℕ → List Message) (i : ℕ) (n : Node C) (f : Frame)
      (e : Effect C) → Follows c Sound w posted → slice_get w.nodes i ≡ Some n
      → IsMade c.nodes posted f
      → ((a : ℕ) → (peer_at (accepted n.link f) a).delivered ≡ (peer_at n.link a).delivered)
      → accepting f (Some (stays n)) ≡ Some e → FollowsStep rules c Sound w posted (gone_on w i e)
  accepted-rests w posted i n f e h there made same eq =
      subst (λ x. FollowsStep rules c Sound w posted (gone_on w i x))
      (same_Some (links n (accepted n.link f) []) e eq)
      (rested w (gone_on w i (links n (accepted n.link f) [])) posted
      (accepted-on c Sound w posted i n f h there made)
      (link-rests w posted i n (accepted n.link f) [] (node-within c Sound w i n there) there
      same))

  received_cases : (w : World C) (posted : ℕ → ℕ → List Message) (i : ℕ) (n : Node C) (f : Frame)
      (e : Effect C) → Follows c Sound w posted → slice_get w.nodes i ≡ Some n → Fits c f
      → IsMade c.nodes posted f
      → (v : Verdict) → offered n.link f ≡ v → received_as rules v n f ≡ Some e
      → FollowsStep rules c Sound w posted (gone_on w i e)
  received_cases w posted i n f e h there fits made verdict.NotMine is eq =
      subst (λ x. FollowsStep rules c Sound w posted (gone_on w i x)) (same_Some (stays n) e eq)
      (still w posted i n h there)
  received_cases w posted i n f e h there fits made verdict.Next is eq =
      served-cases w posted i n f e h there fits made is f.body refl eq
  received_cases w posted i n f e h there fits made verdict.Repeat is eq =
      accepted-rests w posted i n f e h there made (λ a. repeat-delivered n.link f a is) eq
  received_cases w posted i n f e h there fits made verdict.Ahead is eq =
      accepted-rests w posted i n f e h there made (λ a. ahead-delivered n.link f a is) eq

  -- a string that spells a frame is received as that frame
  delivered-is : IsConfig c → (n : Node C) (f : Frame) (bytes : List ℕ) → Spells c f bytes
      → delivered rules c n bytes ≡ received rules n f
  unfolding delivered
  delivered-is config n f bytes spells =
      let once : (checked c bytes ≡ Ok (frame_kind f.body))
      × (frame_at (frame_kind f.body) bytes ≡ f) = spelled_once c f bytes config spells in
      ap (λ r. delivered_as rules r n bytes) once.0 ∙ ap (λ g. received rules n g) once.1

  delivery-steps : IsConfig c
      → (w : World C) (posted : ℕ → ℕ → List Message) (i : ℕ) (n : Node C) (bytes : List ℕ)
      (e : Effect C) → Follows c Sound w posted → slice_get w.nodes i ≡ Some n
      → IsString c posted bytes → delivered rules c n bytes ≡ Some e
      → FollowsStep rules c Sound w posted (gone_on w i e)
  unfolding received
  delivery-steps config w posted i n bytes e h there string eq =
      received_cases w posted i n string.0 e h there string.1.fits string.2
      (offered n.link string.0) refl (sym (delivered-is config n string.0 bytes string.1) ∙ eq)

  -- it is a string of the world still after it came
  abbrev StaysString : World C → ℕ → List ℕ → Type 0
  StaysString w i bytes =
      (e : Effect C) (posted : ℕ → ℕ → List Message) → Follows c Sound (gone_on w i e) posted
      → IsString c posted bytes

  pub delivery-follows : IsConfig c
      → (w w' : World C) (posted : ℕ → ℕ → List Message) (i : ℕ) (bytes : List ℕ)
      → Follows c Sound w posted → IsString c posted bytes → StaysString w i bytes
      → (o : Option (Node C)) → slice_get w.nodes i ≡ o
      → delivery_of rules c w i o (Some bytes) ≡ Some w' → FollowsStep rules c Sound w posted w'
  delivery-follows config w w' posted i bytes h string stays None there eq =
      absurd (none-some w' eq)
  delivery-follows config w w' posted i bytes h string stays (Some n) there eq =
      let v = verdict_of c n bytes in
      let e : (e : Effect C) × (delivered rules c n bytes ≡ Some e)
      × (record (gone_on w i e) { early = remembered v w.early i bytes } ≡ w') =
      remembered-went w i v bytes (delivered rules c n bytes) w' eq in
      let next : FollowsStep rules c Sound w posted (gone_on w i e.0) =
      delivery-steps config w posted i n bytes e.0 h there string e.1 in
      subst (λ v. FollowsStep rules c Sound w posted v) e.2 (
        next.0,
        remembered-on c Sound (gone_on w i e.0) next.0 v i bytes next.1 (stays e.0 next.0 next.1),
        next.2,
      )

  -- a string that was sent, and one that came too early
  sent-follows : IsConfig c → (w w' : World C) (posted : ℕ → ℕ → List Message) (index i : ℕ)
      → Follows c Sound w posted → (s : Option (List ℕ)) → slice_get w.sent index ≡ s
      → delivery_of rules c w i (slice_get w.nodes i) s ≡ Some w'
      → FollowsStep rules c Sound w posted w'
  sent-follows config w w' posted index i h None sent eq =
      absurd (none-some w' (sym (no-string (slice_get w.nodes i)) ∙ eq))
    where
      no-string : (o : Option (Node C)) → delivery_of rules c w i o None ≡ None
      no-string None = refl
      no-string (Some n) = refl
  sent-follows config w w' posted index i h (Some bytes) sent eq =
      let there : Contains w.sent bytes = (
        index,
        slice_get_within w.sent index bytes sent,
        get_or_from_slice_get w.sent index bytes bytes sent,
      ) in
      delivery-follows config w w' posted i bytes h
      (All-contains (IsString c posted) w.sent bytes h.strings there)
      (λ e posted' f. All-contains (IsString c posted') (w.sent ++ e.sent) bytes f.strings
      (Contains-append_left w.sent e.sent bytes there))
      (slice_get w.nodes i) refl eq

  pub early-follows : IsConfig c
      → (w w' : World C) (posted : ℕ → ℕ → List Message) (i : ℕ) (bytes : List ℕ)
      → Follows c Sound w posted → Contains (early_of w i) bytes
      → delivery_of rules c w i (slice_get w.nodes i) (Some bytes) ≡ Some w'
      → FollowsStep rules c Sound w posted w'
  early-follows config w w' posted i bytes h there eq =
      delivery-follows config w w' posted i bytes h
      (All-contains (IsString c posted) (early_of w i) bytes (h.early i) there)
      (λ e posted' f. All-contains (IsString c posted') (early_of w i) bytes (f.early i) there)
      (slice_get w.nodes i) refl eq

  -- pulses

  pulse-steps : (w : World C) (posted : ℕ → ℕ → List Message) (i to : ℕ) (n : Node C)
      → Follows c Sound w posted → slice_get w.nodes i ≡ Some n → to < c.nodes → i ≢ to
      → FollowsStep rules c Sound w posted
      (gone_on w i (links n (after_pulse n.link to) (frames_again n.link to)))
  pulse-steps w posted i to n h there within apart =
      rested w (gone_on w i (links n (after_pulse n.link to) (frames_again n.link to))) posted
      (linked-on c Sound w posted i n (after_pulse n.link to) (frames_again n.link to) h there
      paired (pulse-sent n.link to) made acks)
      (link-rests w posted i n (after_pulse n.link to) (frames_again n.link to) lt there
      (pulse-delivered n.link to))
    where
      lt : i < length (links_of w)
      lt = node-within c Sound w i n there

      long : length (links_of w) ≡ c.nodes
      long = links-length c Sound w posted h

      is : link_at (links_of w) i ≡ n.link
      is = link_of w.nodes i n there

      paired : IsPaired (set (links_of w) i (after_pulse n.link to)) posted
      paired =
          subst (λ l. IsPaired (set (links_of w) i (after_pulse l to)) posted) is
          (pulsed-paired (links_of w) posted i to h.paired lt (rw long within))

      made : All (IsMade c.nodes posted) (frames_again n.link to)
      made = subst (λ k. All (IsMade k posted) (frames_again n.link to)) long
          (subst (λ l. All (IsMade (length (links_of w)) posted) (frames_again l to)) is
          (pulsed-made (links_of w) posted i to h.paired lt (rw long within) apart))

      acks : All (λ (f : Frame). f.ack < 2 ^ 64) (frames_again n.link to)
      acks = pulse_acks n.link to
          (rw (counts_of w i n to there) (delivered-small c Sound w posted i to h lt))

  pulse-follows : (w w' : World C) (posted : ℕ → ℕ → List Message) (i to : ℕ)
      → Follows c Sound w posted → to < length w.nodes → i ≢ to → (o : Option (Node C))
      → slice_get w.nodes i ≡ o → pulse_of rules c w i to o ≡ Some w'
      → FollowsStep rules c Sound w posted w'
  unfolding pulsing
  pulse-follows w w' posted i to h within apart None there eq = absurd (none-some w' eq)
  pulse-follows w w' posted i to h within apart (Some n) there eq =
      subst (λ v. FollowsStep rules c Sound w posted v)
      (same_Some (gone_on w i (pulsing n to)) w' eq)
      (pulse-steps w posted i to n h there (subst (λ k. to < k) h.nodes within) apart)

apart_of : (i j : ℕ) → not (i == j) ≡ true → i ≢ j
apart_of i j e same = absurd (true≢false (sym e ∙ ap not (eq-eqb i j same)))

-- each move of the world whose node does not go on is a move of the FIFO world, or none
pub follows : {C : Type 0} (rules : Core C) (c : Config) (Sound : ℕ → C → Type 0) → IsConfig c
    → IsWellBehaved rules c Sound → (w w' : World C) (posted : ℕ → ℕ → List Message) (move : Move)
    → Follows c Sound w posted → moved rules c w move ≡ Some w'
    → FollowsStep rules c Sound w posted w'
unfolding moved
follows rules c Sound config well_behaved w w' posted (Turn i) h eq =
    turn-follows rules c Sound well_behaved w w' posted i h (slice_get w.nodes i) refl
    (guarded (is_named w (Turn i)) (made_by rules c w (Turn i)) w' eq).1
follows rules c Sound config well_behaved w w' posted (Deliver index to) h eq =
    sent-follows rules c Sound well_behaved config w w' posted index to h (slice_get w.sent index) refl
    (guarded (is_named w (Deliver index to)) (made_by rules c w (Deliver index to)) w' eq).1
follows rules c Sound config well_behaved w w' posted (Pulse from to) h eq =
    let parts : (is_named w (Pulse from to) ≡ true)
    × (made_by rules c w (Pulse from to) ≡ Some w') =
    guarded (is_named w (Pulse from to)) (made_by rules c w (Pulse from to)) w' eq in
    let more : (nat_lt to (length w.nodes) && not (from == to)) ≡ true =
    (and_parts (nat_lt from (length w.nodes)) (nat_lt to (length w.nodes) && not (from == to))
    parts.0).1 in
    let both : (nat_lt to (length w.nodes) ≡ true) × (not (from == to) ≡ true) =
    and_parts (nat_lt to (length w.nodes)) (not (from == to)) more in
    pulse-follows rules c Sound well_behaved w w' posted from to h (ltb-true to (length w.nodes) both.0)
    (apart_of from to both.1) (slice_get w.nodes from) refl parts.1

-- each string ever sent is a frame
pub none_refused : {C : Type 0} (c : Config) (Sound : ℕ → C → Type 0) → IsConfig c
    → (w : World C) (posted : ℕ → ℕ → List Message) → Follows c Sound w posted → (bytes : List ℕ)
    → Contains w.sent bytes → (kind : FrameKind) × (checked c bytes ≡ Ok kind)
none_refused c Sound config w posted h bytes sent =
    let string : IsString c posted bytes =
    All-contains (IsString c posted) w.sent bytes h.strings sent in
    (frame_kind string.0.body, (spelled_once c string.0 bytes config string.1).0)
