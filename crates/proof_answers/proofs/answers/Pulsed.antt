-- What the strings of a pulse deliver where they come in order.
use Rattle.std.proofs.Common.{◌≡◌, ◌≢◌, ℕ, zero, suc, ◌+◌, ◌-◌, ◌^◌, ◌<◌, ◌≤◌, List, [], ◌∷◌, ◌++◌, length, take}
use Rattle.std.proofs.Common.{map, slice_get, All, Some, refl, sym, ap, subst, ◌∙◌, arith, inl, inr, Bool, true, false, if◌then◌else◌}
use Rattle.std.proofs.lemmas.List.{length-map, length-take}
use Rattle.std.proofs.lemmas.List.Elements.{All-head, All-tail}
use Rattle.std.proofs.lemmas.Option.{same_Some, slice_get_within}
use Rattle.ivy_model.specs.declared.Config.{Config}
use Rattle.ivy_model.specs.stated.Config.{IsConfig}
use Rattle.ivy_wire.specs.stated.Data.{Message, Frame}
use Rattle.ivy_wire.specs.stated.Spelling.{FitsMessage, Spells, spelling}
use Rattle.ivy_program.specs.stated.Programs.{Program}
use Rattle.ivy_link.specs.stated.LinkLimits.{most_again}
use Rattle.ivy_link.specs.stated.Linked.{Peer, peer_at}
use Rattle.ivy_link.specs.stated.Pulsed.{numbered, ack_alone, frames_of_pulse}
use Rattle.ivy_moves.specs.declared.Move.{Move}
use Rattle.ivy_moves.specs.stated.Cores.{Core}
use Rattle.ivy_moves.specs.Following.{IsWellBehaved}
use Rattle.ivy_moves.specs.stated.Nodes.{Node, pulsing}
use Rattle.ivy_moves.specs.stated.Worlds.{World, gone_on, Moves, Leads}
use Rattle.ivy_host.specs.stated.Hosts.{Host, host_rules}
use Rattle.ivy_host.specs.stated.Managers.{Managed, managed_ops}
use Rattle.ivy_host.specs.declared.opening.Opening.{Opening}
use Rattle.ivy_host.proofs.Starts.{managed_new}
use Rattle.ivy_host.specs.ManagedLaws.{managed_laws}
use Rattle.ivy_host.specs.stated.Openings.{managed_start, opening}
use Rattle.ivy_host.specs.stated.Sound.{IsSoundHost}
use Rattle.ivy_host.proofs.WellBehaved.{well_behaved, opening_is}
use Rattle.proof_answers.specs.answers.Undropped.{NothingIsDropped, IsOfMoves}
use Rattle.proof_answers.specs.answers.Pulses.{StandAmong, deliveries, last_again, PulsesDeliver, PulsesMoveOn}
use Rattle.proof_answers.proofs.answers.Acknowledged.{come, Stands, IsAfter, kept_few, kept_fits, link_inside, link_here, many_links}
use Rattle.proof_answers.proofs.answers.Acknowledged.{node_at, pulse_is, delivery_is, move_after, all_after, none_dropped, opening_stands, known}
use Rattle.proof_answers.proofs.answers.LinkEvents.{all_taken, again_spells, alone_spells}

-- the string spells a frame from one node to another, of this number
pub record IsNumber (c : Config) (i to is : ℕ) (s : List ℕ) : Type 0 where
  pub frame : Frame
  pub spells : Spells c frame s
  pub source : frame.source ≡ i
  pub dest : frame.dest ≡ to
  pub number : frame.number ≡ is

-- a string of this place does
pub record IsNumberAt (c : Config) (i to number : ℕ) (strings : List (List ℕ)) (place : ℕ) : Type 0
  where
    pub string : List ℕ
    pub there : slice_get strings place ≡ Some string
    pub is : IsNumber c i to number string

-- the string of this place spells a frame from one node to another that acknowledges so many
record IsAckAt (c : Config) (i to told : ℕ) (strings : List (List ℕ)) (place : ℕ) : Type 0 where
  string : List ℕ
  there : slice_get strings place ≡ Some string
  frame : Frame
  spells : Spells c frame string
  source : frame.source ≡ i
  dest : frame.dest ≡ to
  ack : frame.ack ≡ told

acks_after : (c : Config) (i to told : ℕ) (xs ys : List (List ℕ)) → IsAckAt c i to told ys 0
    → IsAckAt c i to told (xs ++ ys) (length xs)
acks_after c i to told [] ys ack = ack
acks_after c i to told (x ∷ xs) ys ack =
    let rest : IsAckAt c i to told (xs ++ ys) (length xs) = acks_after c i to told xs ys ack in
    record {
      string = rest.string;
      there = rest.there;
      frame = rest.frame;
      spells = rest.spells;
      source = rest.source;
      dest = rest.dest;
      ack = rest.ack;
    }

module _ (c : Config) (i to : ℕ) where
  -- from a place on so many strings have the numbers that follow this one
  abbrev pub AreNumbered : List (List ℕ) → ℕ → ℕ → ℕ → Type 0
  AreNumbered strings place base count =
      (k : ℕ) → k < count → IsNumberAt c i to (base + k + 1) strings (place + k)

  module _ (ack : ℕ) (here : i < c.nodes) (there : to < c.nodes) (apart : i ≢ to)
      (small : ack < 2 ^ 64) where
    pub numbered_are : (base : ℕ) (ms : List Message) → base + length ms < 2 ^ 64
        → All (FitsMessage c) ms
        → AreNumbered (map spelling (numbered i to ack (base + 1) ms)) 0 base (length ms)
    numbered_are base [] few fit k lt = absurd (omega (arith, lt))
    numbered_are base (m ∷ ms) few fit zero lt = record {
      string = spelling (record {
        source = i;
        dest = to;
        number = base + 1;
        ack = ack;
        body = Some m;
      });
      there = refl;
      is = record {
        frame = record { source = i; dest = to; number = base + 1; ack = ack; body = Some m };
        spells = record {
          fits = record {
            source = here;
            dest = there;
            apart = apart;
            number = omega (arith, few);
            ack = small;
            body = (omega arith, All-head (FitsMessage c) m ms fit);
          };
          text = refl;
        };
        source = refl;
        dest = refl;
        number = omega arith;
      };
    }
    numbered_are base (m ∷ ms) few fit (suc k) lt =
        let rest : IsNumberAt c i to (base + 1 + k + 1)
        (map spelling (numbered i to ack (base + 1 + 1) ms)) (0 + k) =
        numbered_are (base + 1) ms (omega (arith, few)) (All-tail (FitsMessage c) m ms fit) k
        (omega (arith, lt)) in
        record {
          string = rest.string;
          there =
              subst (λ x. slice_get (map spelling (numbered i to ack (base + 1) (m ∷ ms))) x
              ≡ Some rest.string)
              (let e : suc (0 + k) ≡ 0 + suc k = omega arith in e) rest.there;
          is = subst (λ x. IsNumber c i to x rest.string) (omega arith) rest.is;
        }

  pub numbered_many : (ack first : ℕ) (ms : List Message)
      → length (numbered i to ack first ms) ≡ length ms
  numbered_many ack first [] = refl
  numbered_many ack first (m ∷ ms) = ap suc (numbered_many ack (first + 1) ms)

  pub after_others : (xs ys : List (List ℕ)) (base count : ℕ) → AreNumbered ys 0 base count
      → AreNumbered (xs ++ ys) (length xs) base count
  after_others [] ys base count are k lt = are k lt
  after_others (x ∷ xs) ys base count are k lt =
      let rest : IsNumberAt c i to (base + k + 1) (xs ++ ys) (length xs + k) =
      after_others xs ys base count are k lt in
      record {
        string = rest.string;
        there = subst (λ z. slice_get (x ∷ (xs ++ ys)) z ≡ Some rest.string)
            (let e : suc (length xs + k) ≡ length (x ∷ xs) + k = omega arith in e) rest.there;
        is = rest.is;
      }

module _ {C : Type 0} (rules : Core C) (c : Config) (Sound : ℕ → C → Type 0) (config : IsConfig c)
    (well_behaved : IsWellBehaved rules c Sound) (i j : ℕ) where
  abbrev Good : World C → Type 0
  Good w = Stands rules c Sound config well_behaved w

  all_reached : (moves : List Move) (w v : World C) (s : Good w) (place base count : ℕ)
      → AreNumbered c i j w.sent place base count → base ≤ come w i j
      → StandAmong (deliveries j place count) moves → Leads rules c w moves v
      → base + count ≤ come v i j
  all_reached moves w v s place base zero are le among led =
      let a = (all_after rules c Sound config well_behaved moves w v s led).more i j in
      omega (arith, a, le)
  all_reached [] w v s place base (suc n) are le among led = absurd among
  all_reached (move ∷ moves) w v s place base (suc n) are le among led =
      elim among [
        | inr rest ↦
            all_reached moves led.0 v after.stands place base (suc n) (λ k lt. kept k (are k lt))
            (let a = after.more i j in omega (arith, a, le)) rest led.2
        | inl both ↦
            (let d =
            delivery_is rules c Sound config well_behaved w led.0 s place j
            (subst (λ m. Moves rules c w m led.0) both.0 led.1) in
            let first : IsNumberAt c i j (base + 0 + 1) w.sent (place + 0) = are 0 (omega arith) in
            let there : slice_get w.sent place ≡ Some first.string =
            subst (λ x. slice_get w.sent x ≡ Some first.string) (omega arith) first.there in
            let number : first.is.frame.number ≡ base + 1 =
            first.is.number ∙ (let z : base + 0 + 1 ≡ base + 1 = omega arith in z) in
            let here : come w first.is.frame.source j ≡ come w i j =
            ap (λ x. come w x j) first.is.source in
            let now : come led.0 first.is.frame.source j ≡ come led.0 i j =
            ap (λ x. come led.0 x j) first.is.source in
            let near : first.is.frame.number ≤ come w first.is.frame.source j + 1 =
            omega (arith, number, here, le) in
            let reached : first.is.frame.number ≤ come led.0 first.is.frame.source j =
            d.reached first.is.frame first.string there first.is.spells first.is.dest near in
            let more : base + 1 ≤ come led.0 i j = omega (arith, reached, number, now) in
            let rest : base + 1 + n ≤ come v i j =
            all_reached moves led.0 v d.after.stands (suc place) (base + 1) n
            (λ k lt. moved_on k (are (suc k) (omega (arith, lt)))) more both.1 led.2 in
            omega (arith, rest))
      ]
    where
      after : IsAfter rules c Sound config well_behaved w led.0
      after = move_after rules c Sound config well_behaved w led.0 s move led.1

      kept : (k : ℕ) → IsNumberAt c i j (base + k + 1) w.sent (place + k)
          → IsNumberAt c i j (base + k + 1) led.0.sent (place + k)
      kept k at = record {
        string = at.string;
        there = after.strings (place + k) at.string at.there;
        is = at.is;
      }

      moved_on : (k : ℕ) → IsNumberAt c i j (base + suc k + 1) w.sent (place + suc k)
          → IsNumberAt c i j (base + 1 + k + 1) led.0.sent (suc place + k)
      moved_on k at = record {
        string = at.string;
        there =
            subst (λ x. slice_get led.0.sent x ≡ Some at.string) (omega arith)
            (after.strings (place + suc k) at.string at.there);
        is = subst (λ x. IsNumber c i j x at.string) (omega arith) at.is;
      }

  -- once the first string of a pulse has come, what it acknowledges is kept no more
  first_heard : (told : ℕ) (moves : List Move) (w v : World C) (s : Good w) (place n : ℕ)
      → IsAckAt c i j told w.sent place → StandAmong (deliveries j place (suc n)) moves
      → Leads rules c w moves v → told + length (known v j i).kept ≤ (known v j i).sent
  first_heard told [] w v s place n ack among led = absurd among
  first_heard told (move ∷ moves) w v s place n ack among led =
      let after : IsAfter rules c Sound config well_behaved w led.0 =
      move_after rules c Sound config well_behaved w led.0 s move led.1 in
      elim among [
        | inr rest ↦
            first_heard told moves led.0 v after.stands place n
            (record {
              string = ack.string;
              there = after.strings place ack.string ack.there;
              frame = ack.frame;
              spells = ack.spells;
              source = ack.source;
              dest = ack.dest;
              ack = ack.ack;
            }) rest led.2
        | inl both ↦
            (let d =
            delivery_is rules c Sound config well_behaved w led.0 s place j
            (subst (λ m. Moves rules c w m led.0) both.0 led.1) in
            let dropped = d.dropped ack.frame ack.string ack.there ack.spells ack.dest in
            let same : known led.0 j ack.frame.source ≡ known led.0 j i =
            ap (λ x. known led.0 j x) ack.source in
            let sent = ap (λ (q : Peer). q.sent) same in
            let kept = ap (λ (q : Peer). length q.kept) same in
            let is = ack.ack in
            let rest : IsAfter rules c Sound config well_behaved led.0 v =
            all_after rules c Sound config well_behaved moves led.0 v after.stands led.2 in
            let heard = rest.heard j i in
            omega (arith, dropped, sent, kept, is, heard))
      ]

  module _ (w v end : World C) (s : Good w) (n m : Node C) (apart : i ≢ j)
      (here : slice_get w.nodes i ≡ Some n) (inside_j : j < c.nodes)
      (pulse : gone_on w i (pulsing n j) ≡ v)
      (after : IsAfter rules c Sound config well_behaved w v) (moves : List Move)
      (led : Leads rules c v moves end) (there : slice_get end.nodes j ≡ Some m)
      (among : StandAmong (deliveries j (length w.sent) (length (pulsing n j).sent)) moves) where
    abbrev p : Peer
    p = peer_at n.link j

    least : p.sent ≤ come w i j + length p.kept
    least =
        let a = s.told.kept i j apart (link_inside rules c Sound config well_behaved w s i n here)
        (let l = many_links rules c Sound config well_behaved w s i n here in omega (arith, inside_j, l)) in
        subst (λ l. (peer_at l j).sent ≤ come w i j + length (peer_at l j).kept)
        (link_here rules c Sound config well_behaved w s i n here) a

    last : IsAfter rules c Sound config well_behaved v end
    last = all_after rules c Sound config well_behaved moves v end after.stands led

    pub strings : (pulsing n j).sent ≡ map spelling (frames_of_pulse p.kept i j p)
    unfolding pulsing
    strings =
        ap (λ k. map spelling (frames_of_pulse p.kept k j p))
        (node_at rules c Sound config well_behaved w s i n here).me

    reached : (ks : List Message) → p.kept ≡ ks → last_again p ≤ come end i j
    reached [] none =
        let a : length p.kept ≡ 0 = ap length none in
        let b : length (take most_again p.kept) ≡ 0 = ap (λ l. length (take most_again l)) none in
        let d = least in
        let e = after.more i j in
        let f = last.more i j in
        omega (arith, a, b, d, e, f)
    reached (x ∷ ks) some =
        let base : ℕ = p.sent - length p.kept in
        let again : List Message = take most_again p.kept in
        let at = node_at rules c Sound config well_behaved w s i n here in
        let within : length p.kept ≤ p.sent =
        kept_few rules c Sound config well_behaved w s i n here j inside_j in
        let short : length again ≤ length p.kept =
        (let a = length-take most_again p.kept in omega (arith, a)) in
        let few : p.sent < 2 ^ 64 =
        subst (λ l. (peer_at l j).sent < 2 ^ 64) (link_here rules c Sound config well_behaved w s i n here)
        (s.follows.numbers i j) in
        let same : (pulsing n j).sent
        ≡ map spelling (numbered i j p.delivered (p.sent - length p.kept + 1) again) =
        strings ∙ ap (λ l. map spelling (frames_of_pulse l i j p)) some in
        let count : length (pulsing n j).sent ≡ length again =
        ap length same ∙ length-map (numbered i j p.delivered (base + 1) again) spelling
        ∙ numbered_many c i j p.delivered (base + 1) again in
        let are : AreNumbered c i j (map spelling (numbered i j p.delivered (base + 1) again)) 0 base
        (length again) =
        numbered_are c i j p.delivered at.inside inside_j apart (at.small j inside_j) base again
        (omega (arith, within, short, few))
        (all_taken c i most_again p.kept
        (kept_fits rules c Sound config well_behaved w s i n here j inside_j)) in
        let sent : v.sent ≡ w.sent ++ map spelling (numbered i j p.delivered (base + 1) again) =
        ap (λ (x : World C). x.sent) (sym pulse) ∙ ap (λ ss. w.sent ++ ss) same in
        let low = least in
        let more = after.more i j in
        all_reached moves v end after.stands (length w.sent) base (length again)
        (subst (λ ss. AreNumbered c i j ss (length w.sent) base (length again)) (sym sent)
        (after_others c i j w.sent (map spelling (numbered i j p.delivered (base + 1) again)) base
        (length again) are)) (omega (arith, low, more))
        (subst (λ x. StandAmong (deliveries j (length w.sent) x) moves) count among) led

    pub pulse_reaches : last_again p ≤ (peer_at m.link i).delivered
    pulse_reaches =
        subst (λ l. last_again p ≤ (peer_at l i).delivered)
        (link_here rules c Sound config well_behaved end last.stands j m there) (reached p.kept refl)

    -- the first string of the pulse acknowledges all that was delivered
    first_acks : (ks : List Message) → p.kept ≡ ks → (b : Bool) → p.owed ≡ b
        → (pulsing n j).sent ≢ [] → IsAckAt c i j p.delivered (pulsing n j).sent 0
    first_acks [] none true owes some =
        let at = node_at rules c Sound config well_behaved w s i n here in
        let told =
        alone_spells c i n.link j p.delivered at.inside inside_j apart (omega arith)
        (at.small j inside_j) in
        record {
          string = spelling (ack_alone i j p.delivered);
          there =
              ap (λ l. slice_get l 0)
              (strings ∙ ap (λ l. map spelling (frames_of_pulse l i j p)) none
              ∙ ap (λ b. map spelling (if b then ack_alone i j p.delivered ∷ [] else [])) owes);
          frame = ack_alone i j p.delivered;
          spells = told;
          source = refl;
          dest = refl;
          ack = refl;
        }
    first_acks [] none false free some =
        absurd (some
        (strings ∙ ap (λ l. map spelling (frames_of_pulse l i j p)) none
        ∙ ap (λ b. map spelling (if b then ack_alone i j p.delivered ∷ [] else [])) free))
    first_acks (x ∷ ks) kept b owes some =
        let at = node_at rules c Sound config well_behaved w s i n here in
        let base : ℕ = p.sent - length p.kept in
        let within : length p.kept ≤ p.sent =
        kept_few rules c Sound config well_behaved w s i n here j inside_j in
        let one : length p.kept ≡ suc (length ks) = ap length kept in
        let few : p.sent < 2 ^ 64 =
        subst (λ l. (peer_at l j).sent < 2 ^ 64) (link_here rules c Sound config well_behaved w s i n here)
        (s.follows.numbers i j) in
        let fits : All (FitsMessage c) (x ∷ ks) =
        subst (All (FitsMessage c)) kept
        (kept_fits rules c Sound config well_behaved w s i n here j inside_j) in
        let told =
        again_spells c i n.link j p.delivered at.inside inside_j apart (omega arith)
        (at.small j inside_j) (base + 1) x (omega arith) (omega (arith, within, one, few))
        (All-head (FitsMessage c) x ks fits) in
        record {
          string = spelling (record {
            source = i;
            dest = j;
            number = base + 1;
            ack = p.delivered;
            body = Some x;
          });
          there =
              ap (λ l. slice_get l 0)
              (strings ∙ ap (λ l. map spelling (frames_of_pulse l i j p)) kept
              ∙ ap (λ l. map spelling (numbered i j p.delivered (base + 1) (take most_again l)))
              kept);
          frame = record {
            source = i;
            dest = j;
            number = base + 1;
            ack = p.delivered;
            body = Some x;
          };
          spells = told;
          source = refl;
          dest = refl;
          ack = refl;
        }

    pulse_heard : (ss : List (List ℕ)) → (pulsing n j).sent ≡ ss → (pulsing n j).sent ≢ []
        → p.delivered + length (known end j i).kept ≤ (known end j i).sent
    pulse_heard [] none some = absurd (some none)
    pulse_heard (x ∷ ss) are some =
        let ack : IsAckAt c i j p.delivered (pulsing n j).sent 0 =
        first_acks p.kept refl p.owed refl some in
        let sent : v.sent ≡ w.sent ++ (pulsing n j).sent =
        ap (λ (z : World C). z.sent) (sym pulse) in
        let placed : IsAckAt c i j p.delivered v.sent (length w.sent) =
        subst (λ l. IsAckAt c i j p.delivered l (length w.sent)) (sym sent)
        (acks_after c i j p.delivered w.sent (pulsing n j).sent ack) in
        let count : length (pulsing n j).sent ≡ suc (length ss) = ap length are in
        first_heard p.delivered moves v end after.stands (length w.sent) (length ss) placed
        (subst (λ k. StandAmong (deliveries j (length w.sent) k) moves) count among) led

    pub pulse_acks : (pulsing n j).sent ≢ []
        → p.delivered + length (known end j i).kept ≤ (known end j i).sent
    pulse_acks some = pulse_heard (pulsing n j).sent refl some

-- under the manager of the configuration
module _ (opened : Opening) (c : Config) (programs : List Program) (w : World (Host Managed))
    (of : IsOfMoves opened c programs w) where
  pub keeps_well_behaved : IsWellBehaved (host_rules managed_ops) c (IsSoundHost managed_ops c)
  keeps_well_behaved = well_behaved managed_laws c

  abbrev pub IsGood : World (Host Managed) → Type 0
  IsGood v = Stands (host_rules managed_ops) c (IsSoundHost managed_ops c) of.limits keeps_well_behaved v

  pub led_stands : IsGood w
  led_stands =
      (all_after (host_rules managed_ops) c (IsSoundHost managed_ops c) of.limits keeps_well_behaved of.moves
      (opening (managed_start opened) c programs) w
      (opening_stands (host_rules managed_ops) c (IsSoundHost managed_ops c) of.limits keeps_well_behaved
      (opening (managed_start opened) c programs)
      (opening_is (managed_start opened) c programs of.limits (managed_new opened c of.limits)
      of.many))
      of.led).stands

pub nothing_is_dropped : NothingIsDropped
nothing_is_dropped opened c programs w of =
    none_dropped (host_rules managed_ops) c (IsSoundHost managed_ops c) of.limits
    (keeps_well_behaved opened c programs w of) w (led_stands opened c programs w of)

pub pulses_deliver : PulsesDeliver
pulses_deliver opened c programs w end of i j m moves heard there =
    let good = led_stands opened c programs w of in
    let t = keeps_well_behaved opened c programs w of in
    let is =
    pulse_is (host_rules managed_ops) c (IsSoundHost managed_ops c) of.limits t w heard.led.0 good i j
    heard.led.1 in
    let same : is.0 ≡ heard.node = same_Some is.0 heard.node (sym is.1 ∙ heard.there) in
    let last =
    all_after (host_rules managed_ops) c (IsSoundHost managed_ops c) of.limits t moves heard.led.0
    end is.4.stands heard.led.2 in
    let below : j < length end.nodes = slice_get_within end.nodes j m there in
    let count = last.stands.follows.nodes in
    pulse_reaches (host_rules managed_ops) c (IsSoundHost managed_ops c) of.limits t i j w heard.led.0
    end good heard.node m is.3 heard.there (omega (arith, below, count))
    (subst (λ x. gone_on w i (pulsing x j) ≡ heard.led.0) same is.2) is.4 moves heard.led.2
    there heard.heard

pub pulses_move_on : PulsesMoveOn
pulses_move_on opened c programs w mid end of i j m back there first some second at =
    let good = led_stands opened c programs w of in
    let t = keeps_well_behaved opened c programs w of in
    let one =
    pulse_is (host_rules managed_ops) c (IsSoundHost managed_ops c) of.limits t w first.led.0 good j i
    first.led.1 in
    let same : one.0 ≡ first.node = same_Some one.0 first.node (sym one.1 ∙ first.there) in
    let came =
    all_after (host_rules managed_ops) c (IsSoundHost managed_ops c) of.limits t back first.led.0 mid
    one.4.stands first.led.2 in
    let two =
    pulse_is (host_rules managed_ops) c (IsSoundHost managed_ops c) of.limits t mid second.led.0
    came.stands i j second.led.1 in
    let alike : two.0 ≡ second.node = same_Some two.0 second.node (sym two.1 ∙ second.there) in
    let last =
    all_after (host_rules managed_ops) c (IsSoundHost managed_ops c) of.limits t there second.led.0
    end two.4.stands second.led.2 in
    let below : j < length end.nodes = slice_get_within end.nodes j m at in
    let many = last.stands.follows.nodes in
    let low : i < length mid.nodes = slice_get_within mid.nodes i second.node second.there in
    let few = came.stands.follows.nodes in
    let acked =
    pulse_acks (host_rules managed_ops) c (IsSoundHost managed_ops c) of.limits t j i w first.led.0
    mid good first.node second.node one.3 first.there (omega (arith, low, few))
    (subst (λ x. gone_on w j (pulsing x i) ≡ first.led.0) same one.2) one.4 back first.led.2
    second.there first.heard some in
    let here : known mid i j ≡ peer_at second.node.link j =
    ap (λ l. peer_at l j)
    (link_here (host_rules managed_ops) c (IsSoundHost managed_ops c) of.limits t mid came.stands i
    second.node second.there) in
    let sent = ap (λ (q : Peer). q.sent) here in
    let kept = ap (λ (q : Peer). length q.kept) here in
    let reached =
    pulse_reaches (host_rules managed_ops) c (IsSoundHost managed_ops c) of.limits t i j mid
    second.led.0 end came.stands second.node m two.3 second.there (omega (arith, below, many))
    (subst (λ x. gone_on mid i (pulsing x j) ≡ second.led.0) alike two.2) two.4 there second.led.2
    at second.heard in
    let taken = length-take most_again (peer_at second.node.link j).kept in
    omega (arith, acked, sent, kept, reached, taken)
