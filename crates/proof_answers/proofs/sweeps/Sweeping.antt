-- Three sweeps deliver all that had been sent before them.
use Rattle.std.proofs.Common.{◌≡◌, ◌≢◌, ◌⊎◌, ℕ, zero, suc, ◌+◌, ◌-◌, ◌^◌, ◌<◌, ◌≤◌, true, List, [], ◌∷◌, ◌++◌, length, take, map, if◌then◌else◌}
use Rattle.std.proofs.Common.{slice_get, Contains, Some, refl, sym, ap, subst, ◌∙◌, arith, inl, inr}
use Rattle.std.proofs.lemmas.Bool.{cases_eq}
use Rattle.std.proofs.lemmas.List.{length-map, length-take}
use Rattle.std.proofs.lemmas.Option.{same_Some, none-some, slice_get_cases, get_or_from_slice_get}
use Rattle.ivy_model.specs.declared.Config.{Config}
use Rattle.ivy_model.specs.stated.Config.{IsConfig}
use Rattle.ivy_wire.specs.stated.Data.{Message}
use Rattle.ivy_wire.specs.stated.Spelling.{spelling}
use Rattle.ivy_link.specs.stated.LinkLimits.{most_again}
use Rattle.ivy_link.specs.stated.Linked.{Peer, Linked, peer_at}
use Rattle.ivy_link.specs.stated.Pulsed.{numbered, ack_alone, frames_of_pulse}
use Rattle.ivy_moves.specs.declared.Move.{Move}
use Rattle.ivy_moves.specs.declared.Move.TheVariants.{Turn, Deliver, Pulse}
use Rattle.ivy_moves.specs.stated.Cores.{Core}
use Rattle.ivy_moves.specs.Following.{IsWellBehaved}
use Rattle.ivy_moves.specs.stated.Nodes.{Node, pulsing}
use Rattle.ivy_moves.specs.stated.Worlds.{World, gone_on, Moves, Leads}
use Rattle.ivy_host.specs.stated.Hosts.{Host, host_rules}
use Rattle.ivy_host.specs.stated.Managers.{Managed, managed_ops}
use Rattle.ivy_host.specs.stated.Sound.{IsSoundHost}
use Rattle.proof_answers.specs.answers.Pulses.{StandAmong, deliveries, last_again}
use Rattle.proof_answers.proofs.answers.LinkEvents.{all_taken}
use Rattle.proof_answers.proofs.answers.Acknowledged.{come, known, Stands, IsAfter, after_none, after_then, kept_few, kept_fits, link_inside, link_here, many_links, node_at, pulse_is, pulse_inside, move_after}
use Rattle.proof_answers.proofs.answers.Pulsed.{IsNumberAt, numbered_are, numbered_many, after_others, strings, pulse_reaches, pulse_acks}
use Rattle.proof_answers.specs.sweeps.Sweeps.{IsMoveHeard, AllHeard}
use Rattle.proof_answers.proofs.sweeps.Owing.{Owes, HasHeard, heard_on, move_owes, HasBegun, begins_owing}

-- an element of a list stands in it
pub place_of : {X : Type 0} (xs : List X) (x : X) → Contains xs x
    → (k : ℕ) × (slice_get xs k ≡ Some x)
place_of xs x at = elim (slice_get_cases xs at.0).1 [
  | inl there ↦ (
    at.0,
    there.2 ∙ ap Some (sym (get_or_from_slice_get xs at.0 there.0 x there.2) ∙ at.2),
  )
  | inr past ↦ absurd (let lt = at.1 in let le = past.0 in omega (arith, lt, le))
]

-- whether a move is this pulse
is_pulse : (move : Move) (j i : ℕ) → (move ≡ Pulse j i) ⊎ (move ≡ Pulse j i → ⊥)
is_pulse (Turn k) j i = inr (λ e. absurd cc)
is_pulse (Deliver index k) j i = inr (λ e. absurd cc)
is_pulse (Pulse k to) j i = elim (cases_eq k j) [
  | inr other ↦ inr (λ e. other (from_of k to e))
  | inl from ↦
      elim (cases_eq to i) [
        | inl at ↦ inl (ap (λ x. Pulse x to) from ∙ ap (Pulse j) at)
        | inr other ↦ inr (λ e. other (to_of k to e))
      ]
]
  where
    from_of : (k to : ℕ) → Pulse k to ≡ Pulse j i → k ≡ j
    from_of k to e = cc

    to_of : (k to : ℕ) → Pulse k to ≡ Pulse j i → to ≡ i
    to_of k to e = cc

-- a pulse of a node that owes or keeps something sends a string
pulse_none : (i to : ℕ) (p : Peer) (ks : List Message) → p.kept ≡ ks
    → map spelling (frames_of_pulse ks i to p) ≡ [] → (p.owed ≡ true → ⊥) × (length p.kept ≡ 0)
pulse_none i to p [] is none = (
  λ owed. some_none
      (sym (ap (λ b. map spelling (if b then ack_alone i to p.delivered ∷ [] else [])) owed)
      ∙ none),
  ap length is,
)
  where
    some_none : {X : Type 0} {x : X} {xs : List X} → x ∷ xs ≡ [] → ⊥
    some_none e = cc
pulse_none i to p (k ∷ ks) is none = absurd (kept_none p.kept is none)
  where
    kept_none : (all : List Message) → all ≡ k ∷ ks
        → map spelling (numbered i to p.delivered (p.sent - length p.kept + 1)
        (take most_again all)) ≡ [] → ⊥
    kept_none [] is e = cc
    kept_none (x ∷ xs) is e = cc

module _ (c : Config) (limits : IsConfig c)
    (well_behaved : IsWellBehaved (host_rules managed_ops) c (IsSoundHost managed_ops c)) where
  abbrev rules : Core (Host Managed)
  rules = host_rules managed_ops

  abbrev Sound : ℕ → Host Managed → Type 0
  Sound = IsSoundHost managed_ops c

  abbrev Good : World (Host Managed) → Type 0
  Good w = Stands rules c Sound limits well_behaved w

  abbrev Goes : World (Host Managed) → World (Host Managed) → Type 0
  Goes w v = IsAfter rules c Sound limits well_behaved w v

  pub heard_leads : (moves : List Move) (w end : World (Host Managed)) → AllHeard c w moves end
      → Leads rules c w moves end
  heard_leads [] w end h = h
  heard_leads (move ∷ moves) w end h = (h.1.0, h.1.1, heard_leads moves h.1.0 end h.1.2)

  heard_after : (moves : List Move) (w end : World (Host Managed)) → Good w
      → AllHeard c w moves end → Goes w end
  heard_after [] w end s h =
      subst (Goes w) (sym h) (after_none rules c Sound limits well_behaved w s)
  heard_after (move ∷ moves) w end s h =
      let first = move_after rules c Sound limits well_behaved w h.1.0 s move h.1.1 in
      after_then rules c Sound limits well_behaved w h.1.0 end first
      (heard_after moves h.1.0 end first.stands h.1.2)

  -- where a move is made
  record Made (w : World (Host Managed)) (move : Move) (end : World (Host Managed)) : Type 0 where
    before : World (Host Managed)
    after : World (Host Managed)
    rest : List Move
    goes : Goes w before
    made : Moves rules c before move after
    heard : IsMoveHeard c before move rest
    onward : AllHeard c after rest end

  find : (moves : List Move) (k : ℕ) (move : Move) → slice_get moves k ≡ Some move
      → (w end : World (Host Managed)) → Good w → AllHeard c w moves end → Made w move end
  find [] k move at w end s h = absurd (none-some move at)
  find (m ∷ moves) zero move at w end s h =
      let same : m ≡ move = same_Some m move at in record {
        before = w;
        after = h.1.0;
        rest = moves;
        goes = after_none rules c Sound limits well_behaved w s;
        made = subst (λ x. Moves rules c w x h.1.0) same h.1.1;
        heard = subst (λ x. IsMoveHeard c w x moves) same h.0;
        onward = h.1.2;
      }
  find (m ∷ moves) (suc k) move at w end s h =
      let first = move_after rules c Sound limits well_behaved w h.1.0 s m h.1.1 in
      let rest : Made h.1.0 move end = find moves k move at h.1.0 end first.stands h.1.2 in record {
        before = rest.before;
        after = rest.after;
        rest = rest.rest;
        goes = after_then rules c Sound limits well_behaved w h.1.0 rest.before first
            rest.goes;
        made = rest.made;
        heard = rest.heard;
        onward = rest.onward;
      }

  -- the node of a pulse, and what the pulse reaches
  module _ (i j : ℕ) (w v end : World (Host Managed)) (s : Good w)
      (m : Moves rules c w (Pulse i j) v) (rest : List Move)
      (heard : IsMoveHeard c w (Pulse i j) rest) (h : AllHeard c v rest end) where
    abbrev is : (n : Node (Host Managed)) × (slice_get w.nodes i ≡ Some n)
        × (gone_on w i (pulsing n j) ≡ v) × (i ≢ j) × Goes w v
    is = pulse_is rules c Sound limits well_behaved w v s i j m

    inside : j < c.nodes
    inside = pulse_inside rules c Sound limits well_behaved w v s i j m

    peer_is : known w i j ≡ peer_at is.0.link j
    peer_is = ap (λ l. peer_at l j) (link_here rules c Sound limits well_behaved w s i is.0 is.1)

    last : Goes v end
    last = heard_after rest v end is.4.stands h

    node_there : (n : Node (Host Managed)) × (slice_get end.nodes j ≡ Some n)
    node_there = elim (slice_get_cases end.nodes j).1 [
      | inl there ↦ (there.0, there.2)
      | inr past ↦
          absurd (let le = past.0 in let count = last.stands.follows.nodes in
          omega (arith, le, count, inside))
    ]

    pub reaches : last_again (known w i j) ≤ come end i j
    reaches =
        let n = node_there in
        let a = pulse_reaches rules c Sound limits well_behaved i j w v end s is.0 n.0 is.3
        is.1 inside is.2 is.4 rest (heard_leads rest v end h) n.1 (heard is.0 is.1) in
        let b : come end i j ≡ (peer_at n.0.link i).delivered =
        ap (λ (l : Linked). (peer_at l i).delivered)
        (link_here rules c Sound limits well_behaved end last.stands j n.0 n.1) in
        let e : last_again (known w i j) ≡ last_again (peer_at is.0.link j) =
        ap last_again peer_is in
        omega (arith, a, b, e)

    pub tells : (pulsing is.0 j).sent ≢ []
        → come w j i + length (known end j i).kept ≤ (known end j i).sent
    tells some =
        let n = node_there in
        let a = pulse_acks rules c Sound limits well_behaved i j w v end s is.0 n.0 is.3
        is.1 inside is.2 is.4 rest (heard_leads rest v end h) n.1 (heard is.0 is.1) some in
        let e : come w j i ≡ (peer_at is.0.link j).delivered =
        ap (λ (p : Peer). p.delivered) peer_is in
        omega (arith, a, e)

    pub sends_none : (pulsing is.0 j).sent ≡ []
        → ((known w i j).owed ≡ true → ⊥) × (length (known w i j).kept ≡ 0)
    sends_none none =
        let n = node_there in
        let p : Peer = peer_at is.0.link j in
        let sent : (pulsing is.0 j).sent ≡ map spelling (frames_of_pulse p.kept i j p) =
        strings rules c Sound limits well_behaved i j w v end s is.0 n.0 is.3 is.1 inside
        is.2 is.4 rest (heard_leads rest v end h) n.1 (heard is.0 is.1) in
        let both = pulse_none i j p p.kept refl (sym sent ∙ none) in (
          λ owed. both.0 (ap (λ (q : Peer). q.owed) (sym peer_is) ∙ owed),
          ap (λ (q : Peer). length q.kept) peer_is ∙ both.1,
        )

    -- the first string of a pulse that repeats messages
    pub first_again : (x : Message) (ks : List Message) → (peer_at is.0.link j).kept ≡ x ∷ ks
        → (IsNumberAt c i j ((known w i j).sent - length (known w i j).kept + 1) v.sent
        (length w.sent)) × ((n : ℕ) × (length (pulsing is.0 j).sent ≡ suc n))
    first_again x ks kept =
        let n = node_there in
        let p : Peer = peer_at is.0.link j in
        let at = node_at rules c Sound limits well_behaved w s i is.0 is.1 in
        let again : List Message = take most_again p.kept in
        let base : ℕ = p.sent - length p.kept in
        let within : length p.kept ≤ p.sent =
        kept_few rules c Sound limits well_behaved w s i is.0 is.1 j inside in
        let few : p.sent < 2 ^ 64 =
        subst (λ l. (peer_at l j).sent < 2 ^ 64)
        (link_here rules c Sound limits well_behaved w s i is.0 is.1)
        (s.follows.numbers i j) in
        let short = length-take most_again p.kept in
        let some : length p.kept ≡ suc (length ks) = ap length kept in
        let sent : (pulsing is.0 j).sent
        ≡ map spelling (numbered i j p.delivered (base + 1) again) =
        strings rules c Sound limits well_behaved i j w v end s is.0 n.0 is.3 is.1 inside
        is.2 is.4 rest (heard_leads rest v end h) n.1 (heard is.0 is.1)
        ∙ ap (λ l. map spelling (frames_of_pulse l i j p)) kept in
        let count : length (pulsing is.0 j).sent ≡ length again =
        ap length sent ∙ length-map (numbered i j p.delivered (base + 1) again) spelling
        ∙ numbered_many c i j p.delivered (base + 1) again in
        let are =
        numbered_are c i j p.delivered at.inside inside is.3 (at.small j inside) base again
        (omega (arith, within, short, few))
        (all_taken c i most_again p.kept
        (kept_fits rules c Sound limits well_behaved w s i is.0 is.1 j inside)) in
        let all : v.sent ≡ w.sent ++ map spelling (numbered i j p.delivered (base + 1) again) =
        ap (λ (z : World (Host Managed)). z.sent) (sym is.2) ∙ ap (λ l. w.sent ++ l) sent in
        let first =
        after_others c i j w.sent (map spelling (numbered i j p.delivered (base + 1) again)) base
        (length again) are 0 (omega (arith, short, some)) in
        let same : base + 0 + 1 ≡ (known w i j).sent - length (known w i j).kept + 1 =
        (let a = ap (λ (q : Peer). q.sent) peer_is in
        let b = ap (λ (q : Peer). length q.kept) peer_is in
        omega (arith, a, b)) in (
          subst (λ l. IsNumberAt c i j ((known w i j).sent - length (known w i j).kept + 1) l
              (length w.sent)) (sym all)
              (subst (λ x. IsNumberAt c i j x
              (w.sent ++ map spelling (numbered i j p.delivered (base + 1) again)) (length w.sent))
              same
              (subst (λ x. IsNumberAt c i j (base + 0 + 1)
              (w.sent ++ map spelling (numbered i j p.delivered (base + 1) again)) x) (omega arith)
              first)),
          (length (pulsing is.0 j).sent - 1, omega (arith, count, short, some)),
        )

  -- Node j owes node i once the first string of a pulse came.
  record Begun (i j : ℕ) (w end : World (Host Managed)) : Type 0 where
    mid : World (Host Managed)
    rest : List Move
    good : Good mid
    begun : HasBegun rules c Sound limits well_behaved i j w mid
    onward : AllHeard c mid rest end

  begins : (i j : ℕ) → i ≢ j → i < c.nodes → (moves : List Move) (w end : World (Host Managed))
      → Good w → (number place n : ℕ) → 1 ≤ number → number ≤ come w i j + 1
      → IsNumberAt c i j number w.sent place
      → StandAmong (deliveries j place (suc n)) moves → AllHeard c w moves end
      → (u : World (Host Managed)) × (come w i j ≤ come u i j) × Begun i j u end
  begins i j apart inside [] w end s number place n some near at among h = absurd among
  begins i j apart inside (move ∷ moves) w end s number place n some near at among h =
      elim among [
        | inl both ↦
            (let m : Moves rules c w (Deliver place j) h.1.0 =
            subst (λ x. Moves rules c w x h.1.0) both.0 h.1.1 in (
              w,
              omega arith,
              record {
                mid = h.1.0;
                rest = moves;
                good = (move_after rules c Sound limits well_behaved w h.1.0 s move
                    h.1.1).stands;
                begun =
                    begins_owing rules c Sound limits well_behaved i j w h.1.0 s
                    place m at.is.frame at.string at.there at.is.spells at.is.source at.is.dest
                    (let z = at.is.number in omega (arith, z, some))
                    (let z = at.is.number in omega (arith, z, near)) inside;
                onward = h.1.2;
              },
            ))
        | inr rest ↦
            (let after =
            move_after rules c Sound limits well_behaved w h.1.0 s move h.1.1 in
            let more = after.more i j in
            let found =
            begins i j apart inside moves h.1.0 end after.stands number place n some
            (omega (arith, near, more))
            (record {
              string = at.string;
              there = after.strings place at.string at.there;
              is = at.is;
            }) rest h.1.2 in (
              found.0,
              (let z = found.1 in omega (arith, more, z)),
              found.2,
            ))
      ]

  pub goes_last : (w first second end : World (Host Managed)) → Good w
      → (one two three : List Move) → AllHeard c w one first → AllHeard c first two second
      → AllHeard c second three end → Goes w end
  goes_last w first second end s one two three a b z =
      let x = heard_after one w first s a in
      let y = heard_after two first second x.stands b in
      let u = heard_after three second end y.stands z in
      after_then rules c Sound limits well_behaved w first end x
      (after_then rules c Sound limits well_behaved first second end y u)

  -- until node j's first pulse to node i
  module _ (i j d b : ℕ) where
    abbrev IsOwing : World (Host Managed) → Type 0
    IsOwing w = Owes rules c Sound limits well_behaved i j d b w

    abbrev WasHeard : World (Host Managed) → Type 0
    WasHeard w = HasHeard rules c Sound limits well_behaved i j d b w

    at_pulse : (w v end : World (Host Managed)) (s : Good w)
        → (m : Moves rules c w (Pulse j i) v) → (rest : List Move)
        → (heard : IsMoveHeard c w (Pulse j i) rest) → (h : AllHeard c v rest end) → IsOwing w
        → (ss : List (List ℕ)) → (pulsing (is j i w v end s m rest heard h).0 i).sent ≡ ss
        → WasHeard end
    at_pulse w v end s m rest heard h owing (x ∷ xs) sent =
        let told =
        tells j i w v end s m rest heard h (λ none. absurd (let e = sym sent ∙ none in cc)) in
        let low = owing.low in
        omega (arith, told, low)
    at_pulse w v end s m rest heard h owing [] sent =
        let none = sends_none j i w v end s m rest heard h sent in
        let here = is j i w v end s m rest heard h in
        let later : Goes w end =
        after_then rules c Sound limits well_behaved w v end here.4
        (last j i w v end s m rest heard h) in
        heard_on rules c Sound limits well_behaved i j d b w end later
        (elim owing.told [
          | inl owed ↦ absurd (none.0 owed)
          | inr others ↦
              elim others [
                | inr before ↦ before
                | inl more ↦
                    elim owing.heard [
                      | inr before ↦ before
                      | inl few ↦
                          absurd
                          (let links = many_links rules c Sound limits well_behaved w s j here.0
                          here.1 in
                          let a =
                          link_inside rules c Sound limits well_behaved w s j here.0 here.1
                          in
                          let to = inside j i w v end s m rest heard h in
                          let kept = s.told.kept j i here.3 a (omega (arith, to, links)) in
                          let z = none.1 in
                          omega (arith, kept, z, few, more))
                    ]
              ]
        ])

    until_pulse : (moves : List Move) (w end : World (Host Managed)) → Good w → IsOwing w
        → AllHeard c w moves end
        → WasHeard end
        ⊎ (IsOwing end × ((k : ℕ) → slice_get moves k ≡ Some (Pulse j i) → ⊥))
    until_pulse [] w end s owing h =
        inr (subst IsOwing (sym h) owing, λ k at. none-some (Pulse j i) at)
    until_pulse (move ∷ moves) w end s owing h = elim (is_pulse move j i) [
      | inl same ↦
          inl
          (let m : Moves rules c w (Pulse j i) h.1.0 =
          subst (λ x. Moves rules c w x h.1.0) same h.1.1 in
          let heard : IsMoveHeard c w (Pulse j i) moves =
          subst (λ x. IsMoveHeard c w x moves) same h.0 in
          at_pulse w h.1.0 end s m moves heard h.1.2 owing
          (pulsing (is j i w h.1.0 end s m moves heard h.1.2).0 i).sent refl)
      | inr other ↦
          (let after =
          move_after rules c Sound limits well_behaved w h.1.0 s move h.1.1 in
          let on =
          until_pulse moves h.1.0 end after.stands
          (move_owes rules c Sound limits well_behaved i j d b w h.1.0 s move other h.1.1
          owing) h.1.2 in
          elim on [
            | inl heard ↦ inl heard
            | inr still ↦ inr (still.0, not_here move moves other still.1)
          ])
    ]
      where
        not_here : (move : Move) (moves : List Move) → (move ≡ Pulse j i → ⊥)
            → ((k : ℕ) → slice_get moves k ≡ Some (Pulse j i) → ⊥)
            → (k : ℕ) → slice_get (move ∷ moves) k ≡ Some (Pulse j i) → ⊥
        not_here move moves other none zero at = other (same_Some move (Pulse j i) at)
        not_here move moves other none (suc k) at = none k at

  -- Three sweeps, between two nodes: what is delivered of what had been sent, of 32 messages more
  -- at most.
  module _ (i j : ℕ) (apart : i ≢ j) (below : i < c.nodes)
      (w first second end : World (Host Managed))
      (s : Good w) (one two three : List Move) (h_one : AllHeard c w one first)
      (h_two : AllHeard c first two second) (h_three : AllHeard c second three end)
      (there : (k : ℕ) × (slice_get one k ≡ Some (Pulse i j)))
      (back : (k : ℕ) × (slice_get two k ≡ Some (Pulse j i)))
      (again : (k : ℕ) × (slice_get three k ≡ Some (Pulse i j)))
      (target : ℕ) (sent_by : target ≤ (known w i j).sent)
      (few : target ≤ come w i j + most_again) where
    goes_one : Goes w first
    goes_one = heard_after one w first s h_one

    goes_two : Goes first second
    goes_two = heard_after two first second goes_one.stands h_two

    goes_three : Goes second end
    goes_three = heard_after three second end goes_two.stands h_three

    -- what was heard by the end of the second sweep is sent on in the third
    by_third : (d : ℕ) → come w i j ≤ d
        → d + length (known second i j).kept ≤ (known second i j).sent
        → target ≤ come end i j
    by_third d low heard =
        let m = find three again.0 (Pulse i j) again.1 second end goes_two.stands h_three in
        let r =
        reaches i j m.before m.after end m.goes.stands m.made m.rest m.heard m.onward in
        let p = goes_one.sent i j in
        let q = goes_two.sent i j in
        let x = m.goes.sent i j in
        let y = m.goes.heard i j in
        let t = length-take most_again (known m.before i j).kept in
        omega (arith, r, p, q, x, y, t, few, low, heard, sent_by)

    by_second : (d b : ℕ) (u : World (Host Managed)) → come w i j ≤ d → Good u
        → IsOwing i j d b u → (rest : List Move) → AllHeard c u rest first
        → target ≤ come end i j
    by_second d b u low good owing rest h =
        elim (until_pulse i j d b rest u first good owing h) [
          | inl heard ↦
              by_third d low
              (heard_on rules c Sound limits well_behaved i j d b first second goes_two heard)
          | inr still ↦
              elim (until_pulse i j d b two first second goes_one.stands still.0 h_two) [
                | inl heard ↦ by_third d low heard
                | inr never ↦ absurd (never.1 back.0 back.1)
              ]
        ]

    by_first : (m : Made w (Pulse i j) first) (ks : List Message)
        → (peer_at
        (is i j m.before m.after first m.goes.stands m.made m.rest m.heard m.onward).0.link j).kept
        ≡ ks → target ≤ come end i j
    by_first m [] none =
        let here = is i j m.before m.after first m.goes.stands m.made m.rest m.heard m.onward in
        let peer =
        peer_is i j m.before m.after first m.goes.stands m.made m.rest m.heard m.onward in
        let kept : length (known m.before i j).kept ≡ 0 =
        ap (λ (p : Peer). length p.kept) peer ∙ ap length none in
        let links =
        many_links rules c Sound limits well_behaved m.before m.goes.stands i here.0 here.1
        in
        let at =
        link_inside rules c Sound limits well_behaved m.before m.goes.stands i here.0 here.1
        in
        let to = inside i j m.before m.after first m.goes.stands m.made m.rest m.heard m.onward in
        let told = m.goes.stands.told.kept i j apart at (omega (arith, to, links)) in
        let sent = m.goes.sent i j in
        let l = here.4.more i j in
        let last_one =
        (last i j m.before m.after first m.goes.stands m.made m.rest m.heard m.onward).more i j in
        let p = goes_two.more i j in
        let q = goes_three.more i j in
        omega (arith, kept, told, sent, l, last_one, p, q, sent_by)
    by_first m (x ∷ ks) some =
        let here = is i j m.before m.after first m.goes.stands m.made m.rest m.heard m.onward in
        let again_first =
        first_again i j m.before m.after first m.goes.stands m.made m.rest m.heard m.onward x ks
        some in
        let n = again_first.1.0 in
        let links =
        many_links rules c Sound limits well_behaved m.before m.goes.stands i here.0 here.1
        in
        let at =
        link_inside rules c Sound limits well_behaved m.before m.goes.stands i here.0 here.1
        in
        let to = inside i j m.before m.after first m.goes.stands m.made m.rest m.heard m.onward in
        let told = m.goes.stands.told.kept i j apart at (omega (arith, to, links)) in
        let more = here.4.more i j in
        let start = m.goes.more i j in
        let found =
        begins i j apart below m.rest m.after first here.4.stands
        ((known m.before i j).sent - length (known m.before i j).kept + 1) (length m.before.sent) n
        (omega arith) (omega (arith, told, more)) again_first.0
        (subst (λ k. StandAmong (deliveries j (length m.before.sent) k) m.rest) again_first.1.1
        (m.heard here.0 here.1)) m.onward in
        let begun = found.2.begun in
        let low = begun.low in
        let y = found.1 in
        by_second begun.count begun.number found.2.mid (omega (arith, low, y, more, start))
        found.2.good begun.owes found.2.rest found.2.onward

    pub all_three : target ≤ come end i j
    all_three =
        let m = find one there.0 (Pulse i j) there.1 w first s h_one in
        by_first m
        (peer_at (is i j m.before m.after first m.goes.stands m.made m.rest m.heard m.onward).0.link
        j).kept refl
