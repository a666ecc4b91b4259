-- What an event of a node makes of what the node owes: it posts, and then it may accept a frame.
use Rattle.std.proofs.Common.{◌≡◌, ◌≢◌, ◌⊎◌, ℕ, ◌+◌, ◌<◌, ◌≤◌, Bool, true, false, List, [], ◌∷◌, length, map, All, Option}
use Rattle.std.proofs.Common.{Some, None, if◌then◌else◌, nat_le, ◌==◌, ◌||◌, refl, sym, ap, subst, ◌∙◌, arith, inl, inr}
use Rattle.std.proofs.lemmas.Bool.{cases_eq, eq-eqb, ne_eqb, le-leb}
use Rattle.std.proofs.lemmas.List.Elements.{All-nil}
use Rattle.std.proofs.lemmas.Option.{same_Some, none-some}
use Rattle.ivy_model.specs.declared.Config.{Config}
use Rattle.ivy_model.specs.stated.Config.{IsConfig}
use Rattle.ivy_wire.specs.stated.Data.{Message, Frame, Parcel}
use Rattle.ivy_wire.specs.stated.Spelling.{FitsParcel, Spells, spelling}
use Rattle.ivy_link.specs.declared.Verdict.{Verdict}
use Rattle.ivy_link.specs.declared.Verdict.TheVariants as verdict
use Rattle.ivy_link.specs.stated.Linked.{Peer, Linked, peer_at, with_message, sent_one, after_sends, frames_of, has_numbers}
use Rattle.ivy_link.specs.stated.Accepted.{offered, accepted, heard, verdict_on, delivered_then, is_owing}
use Rattle.ivy_moves.specs.stated.Cores.{Core, Outcome}
use Rattle.ivy_moves.specs.Following.{IsWellBehaved}
use Rattle.ivy_moves.specs.stated.Nodes.{Node, Effect, stays, posting, accepting, turned, turned_to, served_next, received, received_as, delivered}
use Rattle.ivy_link.proofs.Holds.{sends-delivered, offered-here}
use Rattle.ivy_link.proofs.Peers.{accepted-mine, accepted-other}
use Rattle.ivy_link.proofs.Sending.{sends-me, sends-peers}
use Rattle.ivy_moves.proofs.Places.{guarded, peer-either, peer-there}
use Rattle.proof_answers.proofs.answers.LinkEvents.{IsTellingAll, sends_tell}
use Rattle.proof_answers.proofs.answers.Events.{IsAt, never_other, received_is, parcels_fit}

-- what was owed to a node is owed still, or one message more was sent there
abbrev pub OwesOn : Linked → Linked → ℕ → Type 0
OwesOn l k j = (peer_at l j).owed ≡ true
    → ((peer_at k j).owed ≡ true) ⊎ ((peer_at l j).sent < (peer_at k j).sent)

-- the link after it posted, and the strings
pub record Posts (c : Config) (i : ℕ) (l k : Linked) (ss : List (List ℕ)) : Type 0 where
  pub me : k.me ≡ l.me
  pub peers : length k.peers ≡ length l.peers
  pub delivered : (j : ℕ) → (peer_at k j).delivered ≡ (peer_at l j).delivered
  pub sent : (j : ℕ) → (peer_at l j).sent ≤ (peer_at k j).sent
  pub owes : (j : ℕ) → OwesOn l k j
  pub strings : All (IsTellingAll c i l) ss

posts_none : (c : Config) (i : ℕ) (l : Linked) → Posts c i l l []
posts_none c i l = record {
  me = refl;
  peers = refl;
  delivered = λ j. refl;
  sent = λ j. omega arith;
  owes = λ j h. inl h;
  strings = All-nil (IsTellingAll c i l);
}

one_more : (l : Linked) (p : Parcel) (j : ℕ) → (peer_at l j).sent ≤ (peer_at (sent_one l p) j).sent
one_more l p j =
    peer-either (λ q. (peer_at l j).sent ≤ q.sent) l p.dest j
    (with_message (peer_at l p.dest) p.message)
    (λ e. subst (λ k. (peer_at l k).sent ≤ (peer_at l p.dest).sent + 1) (sym e) (omega arith))
    (omega arith)

sends_more : (l : Linked) (ps : List Parcel) (j : ℕ)
    → (peer_at l j).sent ≤ (peer_at (after_sends l ps) j).sent
sends_more l [] j = omega arith
sends_more l (p ∷ ps) j =
    let a = one_more l p j in
    let b = sends_more (sent_one l p) ps j in
    omega (arith, a, b)

one_owes : (l : Linked) (p : Parcel) (j : ℕ) → OwesOn l (sent_one l p) j
one_owes l p j =
    peer-either (λ q. (peer_at l j).owed ≡ true
    → (q.owed ≡ true) ⊎ ((peer_at l j).sent < q.sent)) l p.dest j
    (with_message (peer_at l p.dest) p.message)
    (λ e h. inr (subst (λ k. (peer_at l k).sent < (peer_at l p.dest).sent + 1) (sym e)
    (omega arith))) (λ h. inl h)

sends_owe : (l : Linked) (ps : List Parcel) (j : ℕ) → OwesOn l (after_sends l ps) j
sends_owe l [] j h = inl h
sends_owe l (p ∷ ps) j h = elim (one_owes l p j h) [
  | inl still ↦
      elim (sends_owe (sent_one l p) ps j still) [
        | inl last ↦ inl last
        | inr more ↦ inr (let a = one_more l p j in omega (arith, a, more))
      ]
  | inr more ↦ inr (let a = sends_more (sent_one l p) ps j in omega (arith, a, more))
]

either_true : (b d : Bool) → d ≡ true → (b || d) ≡ true
either_true true d h = refl
either_true false d h = h

-- a frame that is the next one, or was delivered before, is owed an acknowledgement
owing : (d number : ℕ) → 1 ≤ number → number ≤ d + 1 → is_owing (verdict_on d number) number ≡ true
owing d number some near = elim (cases_eq number (d + 1)) [
  | inl next ↦
      ap (λ b. is_owing (if b then verdict.Next else (if nat_le number d then verdict.Repeat
      else verdict.Ahead)) number) (eq-eqb number (d + 1) next)
  | inr other ↦
      ap (λ b. is_owing (if b then verdict.Next else (if nat_le number d then verdict.Repeat
      else verdict.Ahead)) number) (ne_eqb number (d + 1) other)
      ∙ ap (λ b. is_owing (if b then verdict.Repeat else verdict.Ahead) number)
      (le-leb number d (omega (arith, near, other)))
      ∙ le-leb 1 number some
]

pub accept_owes : (k : Linked) (f : Frame) → f.dest ≡ k.me → f.source < length k.peers
    → 1 ≤ f.number → f.number ≤ (peer_at k f.source).delivered + 1
    → (peer_at (accepted k f) f.source).owed ≡ true
accept_owes k f mine within some near =
    let p = peer_at k f.source in
    let v = verdict_on p.delivered f.number in
    subst (λ l. (peer_at l f.source).owed ≡ true) (sym (accepted-mine k f mine))
    (subst (λ (q : Peer). q.owed ≡ true)
    (sym (peer-there k f.source f.source (heard v p f.number f.ack) refl within))
    (either_true p.owed (is_owing v f.number) (owing p.delivered f.number some near)))

pub accept_owes_on : (k : Linked) (f : Frame) (j : ℕ) → OwesOn k (accepted k f) j
accept_owes_on k f j = elim (cases_eq f.dest k.me) [
  | inr ne ↦ subst (λ l. OwesOn k l j) (sym (accepted-other k f ne)) (λ h. inl h)
  | inl mine ↦
      subst (λ l. OwesOn k l j) (sym (accepted-mine k f mine))
      (peer-either (λ q. (peer_at k j).owed ≡ true
      → (q.owed ≡ true) ⊎ ((peer_at k j).sent < q.sent)) k f.source j
      (heard (verdict_on (peer_at k f.source).delivered f.number) (peer_at k f.source) f.number
      f.ack)
      (λ e h. inl (ap (λ b. b || is_owing
      (verdict_on (peer_at k f.source).delivered f.number) f.number)
      (ap (λ x. (peer_at k x).owed) (sym e) ∙ h))) (λ h. inl h))
]

-- only the next one is counted
then_counts : (d number : ℕ) → d < delivered_then (verdict_on d number) d → number ≡ d + 1
then_counts d number more = elim (cases_eq number (d + 1)) [
  | inl next ↦ next
  | inr other ↦
      absurd
      (never_more (nat_le number d)
      (subst (λ b. d < delivered_then (if b then verdict.Next else (if nat_le number d
      then verdict.Repeat else verdict.Ahead)) d) (ne_eqb number (d + 1) other) more))
]
  where
    never_more : (b : Bool)
        → d < delivered_then (if b then verdict.Repeat else verdict.Ahead) d → ⊥
    never_more true lt = omega (arith, lt)
    never_more false lt = omega (arith, lt)

pub accept_counts : (k : Linked) (f : Frame) (j : ℕ)
    → (peer_at k j).delivered < (peer_at (accepted k f) j).delivered
    → (f.dest ≡ k.me) × (f.source ≡ j) × (f.number ≡ (peer_at k j).delivered + 1)
accept_counts k f j more = elim (cases_eq f.dest k.me) [
  | inr ne ↦
      absurd (let a = subst (λ l. (peer_at k j).delivered < (peer_at l j).delivered)
      (accepted-other k f ne) more in omega (arith, a))
  | inl mine ↦
      peer-either (λ q. (peer_at k j).delivered < q.delivered
      → (f.dest ≡ k.me) × (f.source ≡ j) × (f.number ≡ (peer_at k j).delivered + 1)) k f.source j
      (heard (verdict_on (peer_at k f.source).delivered f.number) (peer_at k f.source) f.number
      f.ack)
      (λ e lt. (
        mine,
        sym e,
        subst (λ x. f.number ≡ (peer_at k x).delivered + 1) (sym e)
            (then_counts (peer_at k f.source).delivered f.number
            (subst (λ x. (peer_at k x).delivered < delivered_then
            (verdict_on (peer_at k f.source).delivered f.number) (peer_at k f.source).delivered) e
            lt)),
      )) (λ lt. absurd (omega (arith, lt)))
      (subst (λ l. (peer_at k j).delivered < (peer_at l j).delivered) (accepted-mine k f mine) more)
]

-- and no more than one
pub accept_most : (k : Linked) (f : Frame) (j : ℕ)
    → (peer_at (accepted k f) j).delivered ≤ (peer_at k j).delivered + 1
accept_most k f j = elim (cases_eq f.dest k.me) [
  | inr ne ↦
      subst (λ l. (peer_at l j).delivered ≤ (peer_at k j).delivered + 1)
      (sym (accepted-other k f ne)) (omega arith)
  | inl mine ↦
      subst (λ l. (peer_at l j).delivered ≤ (peer_at k j).delivered + 1)
      (sym (accepted-mine k f mine))
      (peer-either (λ q. q.delivered ≤ (peer_at k j).delivered + 1) k f.source j
      (heard (verdict_on (peer_at k f.source).delivered f.number) (peer_at k f.source) f.number
      f.ack)
      (λ e. subst (λ x. delivered_then (verdict_on (peer_at k f.source).delivered f.number)
      (peer_at k f.source).delivered ≤ (peer_at k x).delivered + 1) (sym e)
      (then_most (verdict_on (peer_at k f.source).delivered f.number)
      (peer_at k f.source).delivered)) (omega arith))
]
  where
    then_most : (v : Verdict) (d : ℕ) → delivered_then v d ≤ d + 1
    then_most verdict.Next d = omega arith
    then_most verdict.Repeat d = omega arith
    then_most verdict.Ahead d = omega arith
    then_most verdict.NotMine d = omega arith

pub accept_sent : (k : Linked) (f : Frame) (j : ℕ)
    → (peer_at (accepted k f) j).sent ≡ (peer_at k j).sent
accept_sent k f j = elim (cases_eq f.dest k.me) [
  | inr ne ↦ ap (λ l. (peer_at l j).sent) (accepted-other k f ne)
  | inl mine ↦
      ap (λ l. (peer_at l j).sent) (accepted-mine k f mine)
      ∙ peer-either (λ q. q.sent ≡ (peer_at k j).sent) k f.source j
      (heard (verdict_on (peer_at k f.source).delivered f.number) (peer_at k f.source) f.number
      f.ack) (λ e. ap (λ x. (peer_at k x).sent) (sym e)) refl
]

module _ {C : Type 0} (rules : Core C) (c : Config) (Sound : ℕ → C → Type 0) (config : IsConfig c)
    (well_behaved : IsWellBehaved rules c Sound) (there : ℕ → ℕ) (i : ℕ) (n : Node C) (at : IsAt c Sound i n) where
  posting_posts : (core : C) (ps : List Parcel) → All (FitsParcel c i) ps → (e : Effect C)
      → posting n core ps ≡ Some e → Posts c i n.link e.after.link e.sent
  posting_posts core ps fit e is =
      let made : Effect C = record {
        after = record { core = core; link = after_sends n.link ps };
        sent = map spelling (frames_of n.link ps);
      } in
      let parts = guarded (has_numbers n.link ps) (Some made) e is in
      subst (λ (x : Effect C). Posts c i n.link x.after.link x.sent) (same_Some made e parts.1)
      (record {
        me = sends-me n.link ps;
        peers = sends-peers n.link ps;
        delivered = λ j. sends-delivered n.link ps j;
        sent = λ j. sends_more n.link ps j;
        owes = λ j. sends_owe n.link ps j;
        strings = sends_tell c i n.link ps at.me fit parts.0 at.small;
      })

  stays_posts : (e : Effect C) → Some (stays n) ≡ Some e → Posts c i n.link e.after.link e.sent
  stays_posts e is =
      subst (λ (x : Effect C). Posts c i n.link x.after.link x.sent) (same_Some (stays n) e is)
      (posts_none c i n.link)

  turned_posts : (o : Option (Outcome C)) → rules.turn n.core ≡ o → (e : Effect C)
      → turned_to rules n o ≡ Some e → Posts c i n.link e.after.link e.sent
  turned_posts None is e eq = stays_posts e eq
  turned_posts (Some o) is e eq =
      posting_posts o.after o.posted (well_behaved.turn i n.core o at.sound is).1 e eq

  pub turn_posts : (e : Effect C) → turned rules n ≡ Some e → Posts c i n.link e.after.link e.sent
  unfolding turned
  turn_posts e eq = turned_posts (rules.turn n.core) refl e eq

  module _ (f : Frame) (bytes : List ℕ) (spells : Spells c f bytes)
      (told : f.dest ≡ i → f.ack ≤ there f.source) where
    -- the node posts, and then it accepts the frame
    pub record Accepts (e : Effect C) : Type 0 where
      pub mid : Linked
      pub posts : Posts c i n.link mid e.sent
      pub is : e.after.link ≡ accepted mid f

    accepting_accepts : (o : Option (Effect C))
        → ((d : Effect C) → o ≡ Some d → Posts c i n.link d.after.link d.sent) → (e : Effect C)
        → accepting f o ≡ Some e → Accepts e
    accepting_accepts None each e eq = absurd (none-some e eq)
    accepting_accepts (Some d) each e eq =
        subst Accepts (same_Some _ e eq)
        (record { mid = d.after.link; posts = each d refl; is = refl })

    just_accepts : (e : Effect C) → accepting f (Some (stays n)) ≡ Some e → Accepts e
    just_accepts e eq = accepting_accepts (Some (stays n)) (λ d is. stays_posts d is) e eq

    next_accepts : offered n.link f ≡ verdict.Next → (body : Option Message) → f.body ≡ body
        → (e : Effect C) → served_next rules n f body ≡ Some e → Accepts e
    next_accepts next None is e eq = just_accepts e eq
    next_accepts next (Some m) is e eq =
        accepting_accepts
        (posting n (rules.serve n.core f.source m).after (rules.serve n.core f.source m).posted)
        (λ d made. posting_posts (rules.serve n.core f.source m).after
        (rules.serve n.core f.source m).posted
        (parcels_fit rules c Sound config well_behaved there i n at f bytes spells told next m is) d made) e
        eq

    received_accepts : (v : Verdict) → offered n.link f ≡ v → v ≢ verdict.NotMine → (e : Effect C)
        → received_as rules v n f ≡ Some e → Accepts e
    received_accepts verdict.NotMine is mine e eq = absurd (mine refl)
    received_accepts verdict.Next is mine e eq = next_accepts is f.body refl e eq
    received_accepts verdict.Repeat is mine e eq = just_accepts e eq
    received_accepts verdict.Ahead is mine e eq = just_accepts e eq

    is_mine : f.dest ≡ n.link.me → offered n.link f ≢ verdict.NotMine
    is_mine mine is =
        never_other (f.number == (peer_at n.link f.source).delivered + 1)
        (nat_le f.number (peer_at n.link f.source).delivered)
        (sym (offered-here n.link f mine) ∙ is)

    is_other : f.dest ≢ n.link.me → offered n.link f ≡ verdict.NotMine
    is_other other =
        ap (λ b. if b then verdict_on (peer_at n.link f.source).delivered f.number
        else verdict.NotMine) (ne_eqb f.dest n.link.me other)

    pub delivery_accepts : f.dest ≡ n.link.me → (e : Effect C) → delivered rules c n bytes ≡ Some e
        → Accepts e
    unfolding received
    delivery_accepts mine e eq =
        received_accepts (offered n.link f) refl (is_mine mine) e
        (sym (received_is rules c Sound config well_behaved there i n at f bytes spells told) ∙ eq)

    pub delivery_other : f.dest ≢ n.link.me → (e : Effect C) → delivered rules c n bytes ≡ Some e
        → e ≡ stays n
    unfolding received
    delivery_other other e eq =
        sym (same_Some (stays n) e
        (sym (ap (λ v. received_as rules v n f) (is_other other))
        ∙ sym (received_is rules c Sound config well_behaved there i n at f bytes spells told) ∙ eq))
