-- A request is sent on, by a node that waits for nothing and does not own the page, or by one that
-- awaits a copy: it is late then if what it sent on was of the chain, and so is what it sent if it
-- was late.
use Rattle.std.proofs.Common.{◌≡◌, ◌≢◌, ◌⊎◌, ◌<◌, ◌+◌, ℕ, suc, true, false, List, [], ◌∷◌, length, slice_get, Some, refl, sym, ap, ◌∙◌, subst, inl, inr, arith, if◌then◌else◌, ◌==◌, ◌&&◌}
use Rattle.std.proofs.lemmas.Bool.{eq-eqb}
use Rattle.std.proofs.lemmas.Option.{same_Some}
use Rattle.ivy_model.specs.declared.Config.{Config}
use Rattle.ivy_wire.specs.declared.Content.TheVariants as content
use Rattle.ivy_wire.specs.stated.Data.{Content}
use Rattle.ivy_wire.specs.stated.Posts.{parcel_to}
use Rattle.ivy_link.specs.stated.Paired.{posted}
use Rattle.ivy_pagetable.specs.declared.Entry.{Entry}
use Rattle.ivy_pagetable.specs.declared.Entry.TheVariants as entry
use Rattle.ivy_pagetable.specs.stated.States.{IdleState, WaitingState}
use Rattle.ivy_dynamic.specs.stated.Dynamic.{Hints, hint_of}
use Rattle.proof_table.specs.stated.Letters.{Letter, Net, Place, Underway, Loose, IsAt}
use Rattle.proof_table.specs.transitions.Letters.{goes_on}
use Rattle.proof_table.specs.stated.Orderly.{IsOrderly}
use Rattle.proof_table.specs.transitions.TableSteps.{letter}
use Rattle.proof_table.proofs.transitions.Places.{written_here, written-other, served}
use Rattle.proof_table.proofs.routing.Remaining.{StaysPutOff, IsCounted, posted_there}
use Rattle.proof_answers.specs.late.Late.{IsOut, Node, Hop, Own, IsChained, first, next, IsPutOff, IsAfter, Which, begins, idle, sent_on, writes, hop_late, hop_led, AreOrdered, PutOffOrders}
use Rattle.proof_answers.proofs.late.LateSteps.{IsInOrder, IsServedLate, IsLateStill, AreFirst, LateThen, HasLed, WasLate, was_first, was_idle, was_reader, was_writer, hop_of, new_late, chained_at, chained_asks, chain_kept}
use Rattle.proof_answers.proofs.late.LateNets.{IsFirst, served_order}
use Rattle.proof_answers.proofs.late.LateKept.{IsLateKept, row_kept}
use Rattle.proof_answers.proofs.late.LateFacts.{IsHolding, idle_writing, reading_writing, asker_below, writer_of, idle_out, next_writes, none_before, come_put, holding_idle, holding_reading}

-- one parcel is posted
pub only_posted : (x dest origin call : ℕ) (body : Content)
    → slice_get (posted x dest (parcel_to x dest origin call body ∷ [])) 0
    ≡ Some (record { origin = origin; call = call; content = body })
only_posted x dest origin call body = ap
    (λ b. slice_get
    (if b && dest == dest then record { origin = origin; call = call; content = body } ∷ []
    else []) 0) (eq-eqb x x refl)
    ∙ ap (λ b. slice_get
    (if b then record { origin = origin; call = call; content = body } ∷ [] else []) 0)
    (eq-eqb dest dest refl)

-- it is under way then
pub posted_letter : (n : Net) (x p : ℕ) (z : Entry) (left : List Letter) (dest origin call : ℕ)
    (body : Content) → IsCounted n
    → IsAt (goes_on n x p z left (parcel_to x dest origin call body ∷ []))
    (Underway x dest (length (n.posted x dest) + 0)) (letter x dest origin call body)
posted_letter n x p z left dest origin call body counted =
    posted_there n x p z left (parcel_to x dest origin call body ∷ []) counted x dest 0
    (record { origin = origin; call = call; content = body })
    (only_posted x dest origin call body)

-- what a node is that sends requests on
pub data IsSender (e z : Entry) : Type 0 where
  waits_for_nothing : (s t : IdleState) → e ≡ entry.Idle s → z ≡ entry.Idle t → s.owner ≡ false
      → t.owner ≡ false → IsSender e z
  awaits_copy : (s t : WaitingState) → e ≡ entry.AwaitRead s → z ≡ entry.AwaitRead t
      → t.sent_on ≡ true → IsSender e z

-- what its manager does: its hint stays, or is the origin of a request to write
pub data IsHinting (m m' : ℕ → Hints) (x p i : ℕ) (body : Content) : Type 0 where
  stays_so : body ≡ content.ReadReq p → hint_of (m' x) p ≡ hint_of (m x) p
      → IsHinting m m' x p i body
  follows : body ≡ content.WriteReq p → hint_of (m' x) p ≡ i → IsHinting m m' x p i body

module _ (c : Config) (m m' : ℕ → Hints) (n : Net) (order : IsOrderly c n) (counted : IsCounted n)
    (orders : PutOffOrders n) (p o x from i call hop : ℕ) (body : Content) (e z : Entry)
    (rest : List Letter) (loose : n.loose ≡ letter from x i call body ∷ rest)
    (here : x < c.nodes) (is : n.entry x p ≡ e) (put : StaysPutOff e z) (foreign : i ≢ x)
    (way : hop ≡ hint_of (m x) p) (sender : IsSender e z) (hinting : IsHinting m m' x p i body)
    (others : (y : ℕ) → y ≢ x → hint_of (m' y) p ≡ hint_of (m y) p) (out : IsOut n p o) where
  abbrev pub sent_net : Net
  sent_net = goes_on n x p z rest (parcel_to x hop i call body ∷ [])

  abbrev old : Letter
  old = letter from x i call body

  abbrev new : Letter
  new = letter x hop i call body

  abbrev place : Place
  place = Underway x hop (length (n.posted x hop) + 0)

  new_there : IsAt sent_net place new
  new_there = posted_letter n x p z rest hop i call body counted

  request : (body ≡ content.ReadReq p) ⊎ (body ≡ content.WriteReq p)
  request = by_hint hinting
    where
      by_hint : IsHinting m m' x p i body → (body ≡ content.ReadReq p) ⊎ (body ≡ content.WriteReq p)
      by_hint (stays_so h k) = inl h
      by_hint (follows h k) = inr h

  old_there : IsAt n (Loose 0) old
  old_there = ap (λ v. slice_get v 0) loose

  is_old : (l : Letter) → IsAt n (Loose 0) l → l ≡ old
  is_old l at = sym (same_Some old l (ap (λ v. slice_get v 0) (sym loose) ∙ at))

  entry_now : sent_net.entry x p ≡ z
  entry_now = written_here n.entry x p z x p refl refl

  pub sending_order : IsInOrder m m' n sent_net p o x served IsFirst (Unit {0})
  sending_order =
      served_order n x p e z rest (parcel_to x hop i call body ∷ []) is put
      (λ k l h. ap (λ v. slice_get v (suc k)) (sym loose) ∙ h) m m' p o (Unit {0})
      (λ j l at asks. (ap (λ (v : Letter). v.dest) (is_old l at), tt)) others

  -- the node is not one that waits for the page
  not_holding : IsAfter n p o (Loose 0) old → ⊥
  not_holding after = by_sender sender (none_before c n order p orders o old after)
    where
      by_sender : IsSender e z → IsHolding (n.entry x p) → ⊥
      by_sender (waits_for_nothing s t h k plain still) holding = holding_idle (is ∙ h) holding
      by_sender (awaits_copy s t h k on) holding = holding_reading (is ∙ h) holding

  module _ (First : ℕ → Type 0)
      (starts : AreFirst m m' n sent_net p o x served IsFirst (Unit {0}) c.nodes First) where
    abbrev Then : Which → Type 0
    Then w = LateThen m m' n sent_net p o x served IsFirst (Unit {0}) c.nodes First w

    abbrev Led : ℕ → Type 0
    Led y = HasLed m m' n sent_net p o x served IsFirst (Unit {0}) c.nodes First y

    -- what it sends is late if its hint led so
    own_new : Led x → Then (Own i)
    own_new led =
        new_late m m' n sent_net p o x served IsFirst (Unit {0}) c.nodes First x hop i
        (length (n.posted x hop) + 0) new way new_there (refl, request) refl (omega arith) led

    -- its origin is late then, where it is to write
    origin_late : Led x → body ≡ content.WriteReq p → Then (Node i)
    origin_late led says =
        let s = writer_of c n order p i (Loose 0) old old_there refl says in
        writes i (asker_below c n order p i (Loose 0) old old_there (refl, inr says)) s.0
        (written-other n.entry x p z i p (inl foreign) ∙ s.1) (own_new led)

    hop_then : Led x → Then (Hop x)
    hop_then led = by_hint hinting
      where
        by_hint : IsHinting m m' x p i body → Then (Hop x)
        by_hint (stays_so says same) =
            hop_of m m' n sent_net p o x served IsFirst (Unit {0}) c.nodes First x same led
        by_hint (follows says now) =
            hop_late x (subst (λ v. Then (Node v)) (sym now) (origin_late led says))

    node_then : Then (Hop x) → Then (Node x)
    node_then hop_is = by_sender sender
      where
        by_sender : IsSender e z → Then (Node x)
        by_sender (waits_for_nothing s t h k plain still) =
            idle x here t (entry_now ∙ k) still hop_is
        by_sender (awaits_copy s t h k on) = sent_on x here t (entry_now ∙ k) on hop_is

    -- the request itself is sent on
    first_sent : i ≡ o → Then (Hop x)
    first_sent same = by_hint hinting
      where
        by_hint : IsHinting m m' x p i body → Then (Hop x)
        by_hint (stays_so says hint) = hop_led x (record {
          at = place;
          letter = new;
          chained = first place new new_there (same, request);
          dest = way ∙ sym hint;
          leads = inr refl;
        })
        by_hint (follows says now) = elim starts.asker [
          | inl begun ↦
              hop_late x (begins (hint_of (m' x) p) (subst First (sym same ∙ sym now) begun))
          | inr reader ↦ absurd (
              let s = writer_of c n order p i (Loose 0) old old_there refl says in
              reading_writing
              (subst (λ v. n.entry v p ≡ entry.AwaitRead reader.0) (sym same) reader.1)
              s.1
              )
        ]

    -- another one of the chain is: that of a node at which one is put off
    next_sent : (a : Place) (k : Letter) → IsChained n p o a k → IsPutOff a → k.dest ≡ i
        → body ≡ content.WriteReq p → Then (Hop x)
    next_sent a k before put_off same says = by_hint hinting
      where
        by_hint : IsHinting m m' x p i body → Then (Hop x)
        by_hint (stays_so reads hint) =
            absurd (let f : content.ReadReq p ≡ content.WriteReq p = sym reads ∙ says in cc)
        by_hint (follows writes_it now) =
            elim (chain_kept m m' n sent_net p o x served IsFirst (Unit {0}) sending_order before) [
              | inr gone ↦ absurd (subst IsPutOff gone.0 put_off)
              | inl still ↦ hop_led x (record {
                at = served a;
                letter = still.kept.letter;
                chained = still.chained;
                dest = still.kept.dest ∙ same ∙ sym now;
                leads = inl (sending_order.come a (come_put a put_off));
              })
            ]

    chain_sent : (b : Place) (l : Letter) → IsChained n p o b l → b ≡ Loose 0 → Then (Hop x)
    chain_sent b l (first a k there asks) same =
        first_sent
        (sym (ap (λ (v : Letter). v.message.origin) (is_old l (subst (λ v. IsAt n v l) same there)))
        ∙ asks.0)
    chain_sent b l (next a d k v before put_off there asks) same =
        let it : l ≡ old = is_old l (subst (λ w. IsAt n w l) same there) in
        let request_of = chained_asks n p o before in
        next_sent a k before put_off
        (sym asks.0 ∙ ap (λ (w : Letter). w.message.origin) it)
        (sym (ap (λ (w : Letter). w.message.content) it)
        ∙ next_writes c n order p orders a b k l request_of.0 (chained_at n p o before) request_of.1
        put_off there asks)

    pub sending_served : IsServedLate m m' n sent_net p o x served IsFirst (Unit {0}) c.nodes First
    sending_served s l chained to = node_then (chain_sent (Loose 0) l chained refl)

    was_led : WasLate m m' n sent_net p o x served IsFirst (Unit {0}) c.nodes First x → Led x
    was_led (was_idle s h plain led) = led
    was_led (was_reader s h led) = led
    was_led (was_writer s h) = by_sender sender
      where
        by_sender : IsSender e z → Led x
        by_sender (waits_for_nothing t u k v plain still) = absurd (idle_writing (is ∙ k) h)
        by_sender (awaits_copy t u k v on) = absurd (reading_writing (is ∙ k) h)
    was_led (was_first h) = by_sender sender
      where
        by_sender : IsSender e z → Led x
        by_sender (waits_for_nothing t u k v plain still) =
            absurd (idle_out c n order p x t (is ∙ k)
            (subst (IsOut n p) (sym (starts.own x h)) out))
        by_sender (awaits_copy t u k v on) = starts.led t h (is ∙ k)

    pub sending_still : IsLateStill m m' n sent_net p o x served IsFirst (Unit {0}) c.nodes First
    sending_still = record {
      at_served = λ s j l at asks to late. (
          let it : l ≡ old = is_old l at in
          let mine : i ≡ j = sym (ap (λ (v : Letter). v.message.origin) it) ∙ asks.0 in
          elim late [
            | inl was ↦ subst (λ v. Then (Own v)) mine (own_new (was_led was))
            | inr after ↦ absurd (not_holding (subst (IsAfter n p o (Loose 0)) it after))
          ]
          );
      at_idle = λ lt s h plain led. node_then (hop_then led);
      at_sent_on = λ lt s h on led. node_then (hop_then led);
      at_reads = λ lt s h asked led own. node_then (hop_then led);
      at_writes = λ lt s h asked own. node_then (hop_then (was_led (was_writer s h)));
      at_hop = λ s t h k led. hop_then led;
    }

  -- late nodes stay late
  pub sent_kept : AreOrdered c.nodes m n p → IsLateKept c.nodes m m' n sent_net p o
  sent_kept ordered =
      row_kept c.nodes m m' n sent_net p o x served IsFirst (Unit {0}) ordered out sending_order
      (λ First starts. (sending_served First starts, sending_still First starts))
