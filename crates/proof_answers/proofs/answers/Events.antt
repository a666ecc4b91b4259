-- What an event of a node does to its link: a turn, a string that comes, and a pulse.
use Rattle.std.proofs.Common.{◌≡◌, ◌≢◌, ℕ, ◌+◌, ◌^◌, ◌<◌, ◌≤◌, Bool, true, false, List, length, map, All, Option}
use Rattle.std.proofs.Common.{Some, None, MatchOption, Ok, if◌then◌else◌, nat_le, ◌==◌, refl, sym, ap, subst, ◌∙◌, arith, inl, inr}
use Rattle.std.proofs.lemmas.Bool.{cases_eq, eq-eqb}
use Rattle.std.proofs.lemmas.List.Elements.{All-nil, All-weaker}
use Rattle.std.proofs.lemmas.Option.{same_Some, none-some}
use Rattle.ivy_model.specs.declared.Config.{Config}
use Rattle.ivy_model.specs.stated.Config.{IsConfig}
use Rattle.ivy_wire.specs.stated.Data.{Message, Frame, Parcel}
use Rattle.ivy_wire.specs.stated.Spelling.{FitsMessage, FitsParcel, Spells, spelling, frame_kind}
use Rattle.ivy_wire.specs.stated.DecodeErrors.{checked}
use Rattle.ivy_wire.specs.stated.Reading.{frame_at}
use Rattle.ivy_wire.proofs.Frames.{spelled_once}
use Rattle.ivy_link.specs.declared.Verdict.{Verdict}
use Rattle.ivy_link.specs.declared.Verdict.TheVariants as verdict
use Rattle.ivy_link.specs.stated.Linked.{Linked, peer_at, after_sends, frames_of, has_numbers}
use Rattle.ivy_link.specs.stated.Accepted.{offered, accepted, delivered_then}
use Rattle.ivy_link.specs.stated.Pulsed.{after_pulse, frames_again}
use Rattle.ivy_link.specs.stated.Paired.{IsParcelOf}
use Rattle.ivy_moves.specs.stated.Cores.{Core, Outcome}
use Rattle.ivy_moves.specs.Following.{IsWellBehaved}
use Rattle.ivy_moves.specs.stated.Nodes.{Node, Effect, stays, posting, accepting, turned, turned_to, served_next, received, received_as, delivered, delivered_as, pulsing}
use Rattle.ivy_link.proofs.Holds.{sends-delivered, offered-here, accepted-delivered}
use Rattle.ivy_link.proofs.Pairs.{offered-next}
use Rattle.ivy_link.proofs.Sending.{sends-me, sends-peers}
use Rattle.proof_answers.proofs.answers.LinkEvents.{IsLater, later_same, later_then, later_sends, later_accepts, later_pulse, accepts_acks, IsTelling, telling_all, sends_tell, pulse_tells}

-- what is known of a node and its link
pub record IsAt {C : Type 0} (c : Config) (Sound : ℕ → C → Type 0) (i : ℕ) (n : Node C) : Type 0
  where
    pub inside : i < c.nodes
    pub sound : Sound i n.core
    pub me : n.link.me ≡ i
    pub peers : length n.link.peers ≡ c.nodes
    pub small : (j : ℕ) → j < c.nodes → (peer_at n.link j).delivered < 2 ^ 64

-- the event makes of its link a later one, and the strings tell no more than was delivered
pub record IsEvent {C : Type 0} (c : Config) (there : ℕ → ℕ) (i : ℕ) (n : Node C) (e : Effect C) :
    Type 0 where
  pub later : IsLater there n.link e.after.link
  pub strings : All (IsTelling c i e.after.link) e.sent

-- a frame that is the next one, or was delivered, is delivered then
abbrev pub Reaches : {C : Type 0} → Node C → Effect C → Frame → Type 0
Reaches n e f = f.dest ≡ n.link.me → f.number ≤ (peer_at n.link f.source).delivered + 1
    → f.number ≤ (peer_at e.after.link f.source).delivered

-- what a frame for the node acknowledges is kept no more
abbrev pub Acks : {C : Type 0} → Node C → Effect C → Frame → Type 0
Acks n e f = f.dest ≡ n.link.me → f.ack ≤ (peer_at n.link f.source).sent
    → length (peer_at n.link f.source).kept ≤ (peer_at n.link f.source).sent
    → f.ack + length (peer_at e.after.link f.source).kept ≤ (peer_at e.after.link f.source).sent

pub never_other : (a b : Bool) → (if a then verdict.Next else (if b then verdict.Repeat
    else verdict.Ahead)) ≡ verdict.NotMine → ⊥
never_other true b is = cc
never_other false true is = cc
never_other false false is = cc

module _ {C : Type 0} (rules : Core C) (c : Config) (Sound : ℕ → C → Type 0) (config : IsConfig c)
    (well_behaved : IsWellBehaved rules c Sound) (there : ℕ → ℕ) (i : ℕ) (n : Node C) (at : IsAt c Sound i n) where
  stays_event : IsEvent c there i n (stays n)
  stays_event = record {
    later = later_same there n.link;
    strings = All-nil (IsTelling c i n.link);
  }

  pub parcels : (ps : List Parcel) → All (FitsParcel c i) ps → All (IsParcelOf c.nodes i) ps
  parcels ps fit =
      All-weaker (FitsParcel c i) (IsParcelOf c.nodes i)
      (λ p f. record { source = f.source; dest = f.dest; apart = f.apart }) ps fit

  -- the strings of a link tell what they told when it is later
  told_later : (k m : Linked) → IsLater there k m → (ss : List (List ℕ)) → All (IsTelling c i k) ss
      → All (IsTelling c i m) ss
  told_later k m later ss all =
      All-weaker (IsTelling c i k) (IsTelling c i m)
      (λ s t. record {
        frame = t.frame;
        spells = t.spells;
        source = t.source;
        ack = (let a = t.ack in let b = later.more t.frame.dest in omega (arith, a, b));
      }) ss all

  posts_event : (core : C) (ps : List Parcel) → All (FitsParcel c i) ps
      → has_numbers n.link ps ≡ true
      → IsEvent c there i n (record {
        after = record { core = core; link = after_sends n.link ps };
        sent = map spelling (frames_of n.link ps);
      })
  posts_event core ps fit has =
      let later = later_sends there c.nodes i n.link ps at.peers (parcels ps fit) in
      record {
        later = later;
        strings =
            told_later n.link (after_sends n.link ps) later (map spelling (frames_of n.link ps))
            (telling_all c i n.link (map spelling (frames_of n.link ps))
            (sends_tell c i n.link ps at.me fit has at.small));
      }

  -- then the link accepts a frame
  accepts_event : (f : Frame) → (f.dest ≡ i → f.ack ≤ there f.source) → (e : Effect C)
      → IsEvent c there i n e
      → IsEvent c there i n (record {
        after = record { core = e.after.core; link = accepted e.after.link f };
        sent = e.sent;
      })
  accepts_event f told e is =
      let last = later_accepts there e.after.link f (λ mine. told (mine ∙ is.later.me ∙ at.me)) in
      record {
        later = later_then there n.link e.after.link (accepted e.after.link f) is.later last;
        strings = told_later e.after.link (accepted e.after.link f) last e.sent is.strings;
      }

  posting_cases : (core : C) (ps : List Parcel) (b : Bool) → has_numbers n.link ps ≡ b
      → All (FitsParcel c i) ps → (e : Effect C)
      → (if b then Some (record {
        after = record { core = core; link = after_sends n.link ps };
        sent = map spelling (frames_of n.link ps);
      }) else None) ≡ Some e → IsEvent c there i n e
  posting_cases core ps true has fit e is =
      subst (IsEvent c there i n) (same_Some _ e is) (posts_event core ps fit has)
  posting_cases core ps false has fit e is = absurd (none-some e is)

  turned_cases : (o : Option (Outcome C)) → rules.turn n.core ≡ o → (e : Effect C)
      → turned_to rules n o ≡ Some e → IsEvent c there i n e
  turned_cases None is e eq = subst (IsEvent c there i n) (same_Some (stays n) e eq) stays_event
  turned_cases (Some o) is e eq =
      posting_cases o.after o.posted (has_numbers n.link o.posted) refl
      (well_behaved.turn i n.core o at.sound is).1 e eq

  pub turn_event : (e : Effect C) → turned rules n ≡ Some e → IsEvent c there i n e
  unfolding turned
  turn_event e eq = turned_cases (rules.turn n.core) refl e eq

  pub pulse_event : (to : ℕ) → to < c.nodes → i ≢ to → (peer_at n.link to).sent < 2 ^ 64
      → length (peer_at n.link to).kept ≤ (peer_at n.link to).sent
      → All (FitsMessage c) (peer_at n.link to).kept → IsEvent c there i n (pulsing n to)
  unfolding pulsing
  pulse_event to inside apart few within fit =
      let later = later_pulse there n.link to in
      record {
        later = later;
        strings =
            told_later n.link (after_pulse n.link to) later (map spelling (frames_again n.link to))
            (telling_all c i n.link (map spelling (frames_again n.link to))
            (pulse_tells c i n.link to at.me at.inside inside apart (at.small to inside) few within
            fit));
      }

  -- a string that spells a frame
  module _ (f : Frame) (bytes : List ℕ) (spells : Spells c f bytes)
      (told : f.dest ≡ i → f.ack ≤ there f.source) where
    pub received_is : delivered rules c n bytes ≡ received rules n f
    unfolding delivered
    received_is =
        let once : (checked c bytes ≡ Ok (frame_kind f.body))
        × (frame_at (frame_kind f.body) bytes ≡ f) = spelled_once c f bytes config spells in
        ap (λ r. delivered_as rules r n bytes) once.0 ∙ ap (λ g. received rules n g) once.1

    dest_here : offered n.link f ≡ verdict.Next → f.dest ≡ i
    dest_here next = (offered-next n.link f next).0 ∙ at.me

    carried : (m : Message) → f.body ≡ Some m → FitsMessage c m
    carried m is =
        (subst (λ b. MatchOption b (f.number ≡ 0) (λ x. (1 ≤ f.number) × FitsMessage c x)) is
        spells.fits.body).1

    pub parcels_fit : offered n.link f ≡ verdict.Next → (m : Message) → f.body ≡ Some m
        → All (FitsParcel c i) (rules.serve n.core f.source m).posted
    parcels_fit next m is =
        (well_behaved.serve i f.source n.core m at.sound spells.fits.source
        (λ e. spells.fits.apart (e ∙ sym (dest_here next))) (carried m is)).1

    accepting_cases : (o : Option (Effect C))
        → ((e : Effect C) → o ≡ Some e → IsEvent c there i n e) → (e : Effect C)
        → accepting f o ≡ Some e → IsEvent c there i n e
    accepting_cases None each e eq = absurd (none-some e eq)
    accepting_cases (Some d) each e eq =
        subst (IsEvent c there i n) (same_Some _ e eq) (accepts_event f told d (each d refl))

    just_accepts : (e : Effect C) → accepting f (Some (stays n)) ≡ Some e → IsEvent c there i n e
    just_accepts e eq =
        accepting_cases (Some (stays n))
        (λ d is. subst (IsEvent c there i n) (same_Some (stays n) d is) stays_event) e eq

    next_cases : offered n.link f ≡ verdict.Next → (body : Option Message) → f.body ≡ body
        → (e : Effect C) → served_next rules n f body ≡ Some e → IsEvent c there i n e
    next_cases next None is e eq = just_accepts e eq
    next_cases next (Some m) is e eq =
        accepting_cases
        (posting n (rules.serve n.core f.source m).after (rules.serve n.core f.source m).posted)
        (λ d made. posting_cases (rules.serve n.core f.source m).after
        (rules.serve n.core f.source m).posted
        (has_numbers n.link (rules.serve n.core f.source m).posted) refl (parcels_fit next m is) d
        made) e eq

    received_cases : (v : Verdict) → offered n.link f ≡ v → (e : Effect C)
        → received_as rules v n f ≡ Some e → IsEvent c there i n e
    received_cases verdict.NotMine is e eq =
        subst (IsEvent c there i n) (same_Some (stays n) e eq) stays_event
    received_cases verdict.Next is e eq = next_cases is f.body refl e eq
    received_cases verdict.Repeat is e eq = just_accepts e eq
    received_cases verdict.Ahead is e eq = just_accepts e eq

    pub delivery_event : (e : Effect C) → delivered rules c n bytes ≡ Some e → IsEvent c there i n e
    unfolding received
    delivery_event e eq = received_cases (offered n.link f) refl e (sym received_is ∙ eq)

    -- what it acknowledges is kept no more
    accepted_acks : (o : Option (Effect C))
        → ((e : Effect C) → o ≡ Some e → IsEvent c there i n e) → (e : Effect C)
        → accepting f o ≡ Some e → Acks n e f
    accepted_acks None each e eq mine le few = absurd (none-some e eq)
    accepted_acks (Some d) each e eq mine le few =
        let later : IsLater there n.link d.after.link = (each d refl).later in
        let source = spells.fits.source in
        let long = at.peers in
        let peers = later.peers in
        let more = later.sent f.source in
        let heard = later.heard f.source in
        subst (λ (x : Effect C). f.ack + length (peer_at x.after.link f.source).kept
        ≤ (peer_at x.after.link f.source).sent) (same_Some _ e eq)
        (accepts_acks d.after.link f (mine ∙ sym later.me) (omega (arith, source, long, peers))
        (omega (arith, le, more)) (omega (arith, few, heard)))

    just_acks : (e : Effect C) → accepting f (Some (stays n)) ≡ Some e → Acks n e f
    just_acks e eq =
        accepted_acks (Some (stays n))
        (λ d is. subst (IsEvent c there i n) (same_Some (stays n) d is) stays_event) e eq

    next_acks : offered n.link f ≡ verdict.Next → (body : Option Message) → f.body ≡ body
        → (e : Effect C) → served_next rules n f body ≡ Some e → Acks n e f
    next_acks next None is e eq = just_acks e eq
    next_acks next (Some m) is e eq =
        accepted_acks
        (posting n (rules.serve n.core f.source m).after (rules.serve n.core f.source m).posted)
        (λ d made. posting_cases (rules.serve n.core f.source m).after
        (rules.serve n.core f.source m).posted
        (has_numbers n.link (rules.serve n.core f.source m).posted) refl (parcels_fit next m is) d
        made) e eq

    received_acks : (v : Verdict) → offered n.link f ≡ v → (e : Effect C)
        → received_as rules v n f ≡ Some e → Acks n e f
    received_acks verdict.NotMine is e eq mine le few =
        absurd (never_other (f.number == (peer_at n.link f.source).delivered + 1)
        (nat_le f.number (peer_at n.link f.source).delivered)
        (sym (offered-here n.link f mine) ∙ is))
    received_acks verdict.Next is e eq mine le few = next_acks is f.body refl e eq mine le few
    received_acks verdict.Repeat is e eq mine le few = just_acks e eq mine le few
    received_acks verdict.Ahead is e eq mine le few = just_acks e eq mine le few

    pub delivery_acks : (e : Effect C) → delivered rules c n bytes ≡ Some e → Acks n e f
    unfolding received
    delivery_acks e eq = received_acks (offered n.link f) refl e (sym received_is ∙ eq)

    -- The next one is delivered.
    counted_one : (k : Linked) → k.me ≡ n.link.me → length k.peers ≡ c.nodes
        → (peer_at k f.source).delivered ≡ (peer_at n.link f.source).delivered
        → f.dest ≡ n.link.me → f.number ≡ (peer_at n.link f.source).delivered + 1
        → f.number ≤ (peer_at (accepted k f) f.source).delivered
    counted_one k me long same mine number =
        let within : f.source < length k.peers =
        (let a = spells.fits.source in omega (arith, a, long)) in
        let next : offered k f ≡ verdict.Next =
        offered-here k f (mine ∙ sym me)
        ∙ ap (λ b. if b then verdict.Next else (if nat_le f.number (peer_at k f.source).delivered
        then verdict.Repeat else verdict.Ahead))
        (eq-eqb f.number ((peer_at k f.source).delivered + 1) (omega (arith, number, same))) in
        let count : (peer_at (accepted k f) f.source).delivered
        ≡ delivered_then (offered k f) (peer_at k f.source).delivered =
        accepted-delivered k f (mine ∙ sym me) within in
        let one : (peer_at (accepted k f) f.source).delivered ≡ (peer_at k f.source).delivered + 1 =
        count ∙ ap (λ v. delivered_then v (peer_at k f.source).delivered) next in
        omega (arith, one, number, same)

    module _ (mine : f.dest ≡ n.link.me)
        (number : f.number ≡ (peer_at n.link f.source).delivered + 1) where
      abbrev IsCounted : Effect C → Type 0
      IsCounted e = f.number ≤ (peer_at e.after.link f.source).delivered

      posted_counts : (core : C) (ps : List Parcel) (b : Bool) (e : Effect C)
          → accepting f (if b then Some (record {
            after = record { core = core; link = after_sends n.link ps };
            sent = map spelling (frames_of n.link ps);
          }) else None) ≡ Some e → IsCounted e
      posted_counts core ps true e eq =
          subst IsCounted (same_Some _ e eq)
          (counted_one (after_sends n.link ps) (sends-me n.link ps)
          (sends-peers n.link ps ∙ at.peers) (sends-delivered n.link ps f.source) mine number)
      posted_counts core ps false e eq = absurd (none-some e eq)

      served_counts : (body : Option Message) (e : Effect C) → served_next rules n f body ≡ Some e
          → IsCounted e
      served_counts None e eq =
          subst IsCounted (same_Some _ e eq) (counted_one n.link refl at.peers refl mine number)
      served_counts (Some m) e eq =
          posted_counts (rules.serve n.core f.source m).after
          (rules.serve n.core f.source m).posted
          (has_numbers n.link (rules.serve n.core f.source m).posted) e eq

      next_here : offered n.link f ≡ verdict.Next
      next_here =
          offered-here n.link f mine
          ∙ ap (λ b. if b then verdict.Next else (if nat_le f.number
          (peer_at n.link f.source).delivered then verdict.Repeat else verdict.Ahead))
          (eq-eqb f.number ((peer_at n.link f.source).delivered + 1) number)

      received_counts : (e : Effect C) → received rules n f ≡ Some e → IsCounted e
      unfolding received
      received_counts e eq =
          served_counts f.body e
          (sym (ap (λ v. received_as rules v n f) next_here) ∙ eq)

    pub delivery_reaches : (e : Effect C) → delivered rules c n bytes ≡ Some e → Reaches n e f
    delivery_reaches e eq mine near =
        elim (cases_eq f.number ((peer_at n.link f.source).delivered + 1)) [
          | inl number ↦ received_counts mine number e (sym received_is ∙ eq)
          | inr other ↦
              (let a = (delivery_event e eq).later.more f.source in
              omega (arith, a, near, other))
        ]
