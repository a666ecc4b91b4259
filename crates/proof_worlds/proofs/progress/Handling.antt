-- What a message about a page does to one node: it lessens the work that is left, is put off, or is
-- sent on.
use Rattle.std.proofs.Common.{◌≡◌, ◌≢◌, ◌≤◌, ◌<◌, ◌+◌, ◌-◌, ◌*◌, ℕ, Bool, true, false, not, ◌&&◌, List, [], ◌∷◌}
use Rattle.std.proofs.Common.{◌++◌, length, Option, Some, None, refl, sym, ap, ◌∙◌, inl, inr, arith, subst, if◌then◌else◌, ◌==◌}
use Rattle.std.specs.FinSet as set
use Rattle.std.proofs.lemmas.Bool.{and_parts, not-true}
use Rattle.ivy_model.specs.stated.Limits.{most_nodes}
use Rattle.ivy_wire.specs.declared.Content.TheVariants as content
use Rattle.ivy_wire.specs.stated.Data.{Content, Message}
use Rattle.ivy_pagetable.specs.declared.Entry.{Entry}
use Rattle.ivy_pagetable.specs.declared.Entry.TheVariants as entry
use Rattle.ivy_pagetable.specs.declared.PutOff.{PutOff}
use Rattle.ivy_pagetable.specs.declared.Request.{Request}
use Rattle.ivy_pagetable.specs.declared.Request.TheVariants as request
use Rattle.ivy_pagetable.specs.stated.NodeSets.{Nodes, nodes_with}
use Rattle.ivy_pagetable.specs.stated.States.{IdleState, WaitingState}
use Rattle.ivy_pagetable.specs.stated.Entries.{put_offs, can_put_off, with_put_off, copying, owning}
use Rattle.ivy_pagetable.specs.stated.Tables.{entry_at, page_at, with_entry}
use Rattle.ivy_pagetable.specs.stated.Words.{carried_out}
use Rattle.ivy_pagetable.specs.stated.Manager.{Ops}
use Rattle.ivy_coherence.specs.stated.Several.{all_carried}
use Rattle.ivy_coherence.specs.stated.Coherent.{Coherent}
use Rattle.ivy_coherence.specs.stated.MessageSteps.{CoherenceEffect, is_none, is_order, copy_reply, sending, breach, word_unlocked, fetch_unlocked, unlocked, put_by, put_aside, sent_on}
use Rattle.ivy_coherence.proofs.keeping.Fetched.{unlocked_by}
use Rattle.ivy_coherence.specs.stated.MessageSteps.{asked, asked_reader, copy_came, owned_with}
use Rattle.ivy_coherence.specs.stated.MessageSteps.{page_came, left_with, still_collecting, collected, acknowledged, after_serving, handled, handled_as}
use Rattle.ivy_coherence.proofs.keeping.Changing.{entry_with}
use Rattle.ivy_coherence.specs.stated.Serving.{Serving, serving, told, served_by_owner, served_by_other, invalidations}
use Rattle.ivy_wire.specs.stated.Posts.{parcel_to}
use Rattle.proof_table.specs.stated.Letters.{content_of}
use Rattle.proof_table.proofs.transitions.Needs.{page_of}
use Rattle.proof_table.specs.routing.Claiming.{claims}
use Rattle.proof_table.proofs.routing.Claims.{put_claims}
use Rattle.proof_worlds.proofs.progress.Works.{heavy_of, bare, bare_idle, work_posted, work_put, work_some, owner_work, all_served_work, orders_most}

-- a message, as it is put off
abbrev put_off_as : ℕ → ℕ → Request → PutOff
put_off_as origin call kind = record { kind = kind; origin = origin; call = call }

abbrev pub request_of : Bool → ℕ → Content
request_of write page = if write then content.WriteReq page else content.ReadReq page

module _ {S : Type 0} (ops : Ops S) (lost : ℕ) (k : Coherent S) (p : ℕ) where
  abbrev pub before : Entry
  before = entry_at k.table p

  -- before a message is served
  abbrev unserved : IdleState → Serving S
  unserved s = serving s k.manager k.breaches []

  -- what a message of this body does to the node
  pub data Handles (origin call : ℕ) (body : Content) (e : CoherenceEffect S) : Type 0 where
    lessens : work_posted lost e.posted + work_put lost p (put_offs (entry_at e.after.table p))
        + (bare lost (entry_at e.after.table p) - bare lost before)
        < heavy_of lost body + work_put lost p (put_offs before) → Handles origin call body e
    puts_off : (q : PutOff) → content_of q.kind p ≡ body → e.posted ≡ []
        → e.after.manager ≡ k.manager
        → put_offs (entry_at e.after.table p) ≡ put_offs before ++ q ∷ []
        → claims (entry_at e.after.table p) ≡ claims before
        → bare lost (entry_at e.after.table p) ≡ bare lost before → Handles origin call body e
    sends_on : (write : Bool) → body ≡ request_of write p
        → e.posted ≡ parcel_to k.me (ops.next_hop k.manager p) origin call body ∷ []
        → e.after.manager ≡ ops.on_forward k.manager p write origin
        → put_offs (entry_at e.after.table p) ≡ put_offs before
        → claims before ≡ false → claims (entry_at e.after.table p) ≡ false
        → bare lost (entry_at e.after.table p) ≡ bare lost before → Handles origin call body e

  -- and it writes no other entry
  pub record Does (origin call : ℕ) (body : Content) (e : CoherenceEffect S) : Type 0 where
    pub handles : Handles origin call body e
    pub elsewhere : (q : ℕ) → q ≢ p → entry_at e.after.table q ≡ entry_at k.table q

  module _ (within : p < length k.table.entries) where
    here : (z : Entry) → entry_at (with_entry k.table p z) p ≡ z
    here z = elim (entry_with k.table p z p within) [ inl y ↦ y.1 | inr y ↦ absurd (y.0 refl) ]

    there : (z : Entry) (q : ℕ) → q ≢ p
        → entry_at (with_entry k.table p z) q ≡ entry_at k.table q
    there z q ne = elim (entry_with k.table p z q within) [
      | inl y ↦ absurd (ne y.0)
      | inr y ↦ y.1
    ]

    -- it fits no rule
    breach_does : (origin call : ℕ) (body : Content) → Does origin call body (breach ops k)
    breach_does origin call body = record {
      handles = lessens (let a : 1 ≤ heavy_of lost body = work_some lost body in omega (arith, a));
      elsewhere = λ q ne. refl;
    }

    -- what was posted, and is put off then, is less
    less_does : (origin call : ℕ) (body : Content) (e : CoherenceEffect S) (z : Entry)
        → entry_at e.after.table p ≡ z
        → ((q : ℕ) → q ≢ p → entry_at e.after.table q ≡ entry_at k.table q)
        → work_posted lost e.posted + work_put lost p (put_offs z) + (bare lost z - bare lost before)
        < heavy_of lost body + work_put lost p (put_offs before) → Does origin call body e
    less_does origin call body e z is others less = record {
      handles = lessens
          (subst (λ v. work_posted lost e.posted + work_put lost p (put_offs v)
          + (bare lost v - bare lost before)
          < heavy_of lost body + work_put lost p (put_offs before)) (sym is) less);
      elsewhere = others;
    }

    -- the word that waits is carried out, and what was put off is served
    unlocked_does : (from : ℕ) (idle : IdleState) (reply : Option Request) (bytes : List ℕ)
        (s : WaitingState) (origin call : ℕ) (body : Content) → bare_idle lost idle ≡ 0
        → put_offs before ≡ s.put_off
        → Does origin call body (unlocked ops k from p idle reply bytes s)
    unlocked_does from idle reply bytes s origin call body free is =
        unlocked_by ops (Does origin call body) k from p idle reply bytes s
        (λ lock. less_does origin call body (word_unlocked ops k from p idle reply bytes s)
        (entry.Idle _) (here _) (there _)
        (let a =
        all_served_work ops lost k.me p (all_carried k.more (carried_out s.word bytes).bytes).bytes
        (serving idle (told ops from p k.manager reply) k.breaches []) s.put_off in
        let b : 1 ≤ heavy_of lost body = work_some lost body in
        let d : work_put lost p (put_offs before) ≡ work_put lost p s.put_off =
        ap (work_put lost p) is in
        omega (arith, a, b, d, free)))
        (λ elsewhere. less_does origin call body (fetch_unlocked ops k from p idle reply bytes s)
        (entry.Idle _) (here _) (there _)
        (let a =
        all_served_work ops lost k.me p bytes
        (serving idle (told ops from p k.manager reply) k.breaches []) s.put_off in
        let b : 1 ≤ heavy_of lost body = work_some lost body in
        let d : work_put lost p (put_offs before) ≡ work_put lost p s.put_off =
        ap (work_put lost p) is in
        omega (arith, a, b, d, free)))

    -- it is put off
    put_does : (q : PutOff) (e : Entry) → before ≡ e
        → Does q.origin q.call (content_of q.kind p) (put_aside ops k p e q)
    put_does q e is = either (can_put_off e) refl
      where
        last : (z : Entry) → can_put_off z ≡ true
            → put_offs (with_put_off z q) ≡ put_offs z ++ q ∷ []
        last (entry.Idle s) h = absurd (let f : false ≡ true = h in cc)
        last (entry.AwaitRead s) h = refl
        last (entry.AwaitWrite s) h = refl
        last (entry.AwaitAcks s) h = refl

        stays : (z : Entry) → bare lost (with_put_off z q) ≡ bare lost z
        stays (entry.Idle s) = refl
        stays (entry.AwaitRead s) = refl
        stays (entry.AwaitWrite s) = refl
        stays (entry.AwaitAcks s) = refl

        either : (b : Bool) → can_put_off e ≡ b
            → Does q.origin q.call (content_of q.kind p)
            (if b then put_by ops k p e q else breach ops k)
        either true room = record {
          handles = puts_off q refl refl refl
              (ap put_offs (here (with_put_off e q)) ∙ last e room
              ∙ ap (λ v. put_offs v ++ q ∷ []) (sym is))
              (ap claims (here (with_put_off e q)) ∙ put_claims e q ∙ ap claims (sym is))
              (ap (bare lost) (here (with_put_off e q)) ∙ stays e ∙ ap (bare lost) (sym is));
          elsewhere = there (with_put_off e q);
        }
        either false full = breach_does q.origin q.call (content_of q.kind p)

    -- it is served at an idle entry
    idle_does : (origin call : ℕ) (kind : Request) (s : IdleState) → before ≡ entry.Idle s
        → Does origin call (content_of kind p)
        (asked ops k p (put_off_as origin call kind) (entry.Idle s))
    idle_does origin call kind s is = either s.owner refl
      where
        none_before : work_put lost p (put_offs before) ≡ 0
        none_before = ap (λ z. work_put lost p (put_offs z)) is

        goes_on : (write : Bool) → s.owner ≡ false → Does origin call (request_of write p)
            (after_serving ops k p (record {
              idle = s;
              manager = ops.on_forward k.manager p write origin;
              breaches = k.breaches;
              posted =
                  parcel_to k.me (ops.next_hop k.manager p) origin call (request_of write p) ∷ [];
            }))
        goes_on write plain = record {
          handles = sends_on write refl refl refl
              (ap put_offs (here (entry.Idle s)) ∙ ap put_offs (sym is)) (ap claims is ∙ plain)
              (ap claims (here (entry.Idle s)) ∙ plain)
              (ap (bare lost) (here (entry.Idle s)) ∙ ap (bare lost) (sym is));
          elsewhere = there (entry.Idle s);
        }

        by_other : (j : Request) → s.owner ≡ false → Does origin call (content_of j p)
            (after_serving ops k p
            (served_by_other ops k.me p (page_at k.table p) (unserved s) origin call j))
        by_other request.Read plain = goes_on false plain
        by_other request.Write plain = goes_on true plain
        by_other request.Invalidate plain =
            less_does origin call (content.Inval p) _ (entry.Idle _) (here _) (there _)
            (let a = none_before in omega (arith, a))

        either : (own : Bool) → s.owner ≡ own → Does origin call (content_of kind p)
            (after_serving ops k p (if own
            then served_by_owner ops k.me p (page_at k.table p) (unserved s) origin call kind
            else served_by_other ops k.me p (page_at k.table p) (unserved s) origin call kind))
        either false plain = by_other kind plain
        either true own =
            less_does origin call (content_of kind p) _ (entry.Idle _) (here _) (there _)
            (let a =
            owner_work ops lost k.me p (page_at k.table p) (unserved s) origin call kind in
            let b = none_before in
            let d : bare lost before ≡ bare_idle lost s = ap (bare lost) is in
            omega (arith, a, b, d))

    -- a request is sent on where a copy is awaited, or it is put off
    reader_does : (origin call : ℕ) (kind : Request) (s : WaitingState) → before ≡ entry.AwaitRead s
        → Does origin call (content_of kind p)
        (asked_reader ops k p s (put_off_as origin call kind))
    reader_does origin call kind s is = either (k.sends_on && not (is_order kind)) refl
      where
        reader_on : (write : Bool) → Does origin call (request_of write p)
            (record {
              after = record k {
                table = with_entry k.table p (entry.AwaitRead (sending s));
                manager = ops.on_forward k.manager p write origin;
              };
              posted =
                  parcel_to k.me (ops.next_hop k.manager p) origin call (request_of write p) ∷ [];
            })
        reader_on write = record {
          handles = sends_on write refl refl refl
              (ap put_offs (here (entry.AwaitRead (sending s))) ∙ ap put_offs (sym is))
              (ap claims is) (ap claims (here (entry.AwaitRead (sending s))))
              (ap (bare lost) (here (entry.AwaitRead (sending s))) ∙ ap (bare lost) (sym is));
          elsewhere = there (entry.AwaitRead (sending s));
        }

        sent : (j : Request) → is_order j ≡ false → Does origin call (content_of j p)
            (sent_on ops k p s (put_off_as origin call j))
        sent request.Read asks = reader_on false
        sent request.Write asks = reader_on true
        sent request.Invalidate asks = absurd (let f : true ≡ false = asks in cc)

        either : (b : Bool) → (k.sends_on && not (is_order kind)) ≡ b
            → Does origin call (content_of kind p)
            (if b then sent_on ops k p s (put_off_as origin call kind)
            else put_aside ops k p (entry.AwaitRead s) (put_off_as origin call kind))
        either true sends =
            sent kind (not-true (is_order kind) (and_parts k.sends_on (not (is_order kind)) sends).1)
        either false _ = put_does (put_off_as origin call kind) (entry.AwaitRead s) is

    -- a request, or an order
    asked_does : (origin call : ℕ) (kind : Request) (e : Entry) → before ≡ e
        → Does origin call (content_of kind p)
        (asked ops k p (put_off_as origin call kind) e)
    asked_does origin call kind (entry.Idle s) is = idle_does origin call kind s is
    asked_does origin call kind (entry.AwaitRead s) is = reader_does origin call kind s is
    asked_does origin call request.Read (entry.AwaitWrite s) is =
        put_does (put_off_as origin call request.Read) (entry.AwaitWrite s) is
    asked_does origin call request.Write (entry.AwaitWrite s) is =
        put_does (put_off_as origin call request.Write) (entry.AwaitWrite s) is
    asked_does origin call request.Invalidate (entry.AwaitWrite s) is =
        less_does origin call (content.Inval p) _ (entry.AwaitWrite _) (here _) (there _)
        (let a : work_put lost p (put_offs before) ≡ work_put lost p s.waiting.put_off =
        ap (λ z. work_put lost p (put_offs z)) is in
        omega (arith, a))
    asked_does origin call request.Read (entry.AwaitAcks s) is =
        put_does (put_off_as origin call request.Read) (entry.AwaitAcks s) is
    asked_does origin call request.Write (entry.AwaitAcks s) is =
        put_does (put_off_as origin call request.Write) (entry.AwaitAcks s) is
    asked_does origin call request.Invalidate (entry.AwaitAcks s) is =
        breach_does origin call (content.Inval p)

    -- a copy comes
    copy_does : (from origin call : ℕ) (bytes : List ℕ) (e : Entry) → before ≡ e
        → Does origin call (content.ReadRep p bytes) (copy_came ops k from call p bytes e)
    copy_does from origin call bytes (entry.AwaitRead s) is = either (s.call == call)
      where
        either : (b : Bool) → Does origin call (content.ReadRep p bytes)
            (if b then unlocked ops k from p copying (copy_reply s) bytes s else breach ops k)
        either true =
            unlocked_does from copying (copy_reply s) bytes s origin call (content.ReadRep p bytes)
            refl (ap put_offs is)
        either false = breach_does origin call (content.ReadRep p bytes)
    copy_does from origin call bytes (entry.Idle s) is = breach_does origin call _
    copy_does from origin call bytes (entry.AwaitWrite s) is = breach_does origin call _
    copy_does from origin call bytes (entry.AwaitAcks s) is = breach_does origin call _

    -- the page comes
    page_does : (from origin call bits : ℕ) (copies : Nodes) (bytes : List ℕ) (e : Entry)
        → before ≡ e
        → Does origin call (content.WriteRep p bits bytes)
        (page_came ops k from call p copies bytes e)
    page_does from origin call bits copies bytes (entry.AwaitWrite s) is =
        either (s.waiting.call == call && not (set.contains copies k.me))
      where
        collects : (b : Bool) → Does origin call (content.WriteRep p bits bytes)
            (if b then unlocked ops k from p owning (Some request.Write) bytes s.waiting
            else record {
              after = collected ops k from p copies bytes s.waiting;
              posted = invalidations k.me p call copies;
            })
        collects true =
            unlocked_does from owning (Some request.Write) bytes s.waiting origin call
            (content.WriteRep p bits bytes) refl (ap put_offs is)
        collects false =
            less_does origin call (content.WriteRep p bits bytes) _ (entry.AwaitAcks _) (here _)
            (there _)
            (let a : work_posted lost (invalidations k.me p call copies) ≤ (lost + 2) * most_nodes =
            orders_most lost k.me p call copies in
            let d : work_put lost p (put_offs before) ≡ work_put lost p s.waiting.put_off =
            ap (λ z. work_put lost p (put_offs z)) is in
            omega (arith, a, d))

        either : (b : Bool) → Does origin call (content.WriteRep p bits bytes)
            (if b then owned_with ops k from call p copies bytes s.waiting else breach ops k)
        either true = collects (is_none copies)
        either false = breach_does origin call (content.WriteRep p bits bytes)
    page_does from origin call bits copies bytes (entry.Idle s) is = breach_does origin call _
    page_does from origin call bits copies bytes (entry.AwaitRead s) is = breach_does origin call _
    page_does from origin call bits copies bytes (entry.AwaitAcks s) is = breach_does origin call _

    -- an acknowledgement comes
    ack_does : (from origin call : ℕ) (e : Entry) → before ≡ e
        → Does origin call (content.InvalAck p) (acknowledged ops k from call p e)
    ack_does from origin call (entry.AwaitAcks s) is =
        either (s.waiting.call == call && set.contains s.left from)
      where
        fewer : (b : Bool) → Does origin call (content.InvalAck p)
            (if b then unlocked ops k from p owning None (page_at k.table p) s.waiting
            else record {
              after = still_collecting ops k p (set.remove s.left from) s.waiting;
              posted = [];
            })
        fewer true =
            unlocked_does from owning None (page_at k.table p) s.waiting origin call
            (content.InvalAck p) refl (ap put_offs is)
        fewer false =
            less_does origin call (content.InvalAck p) _ (entry.AwaitAcks _) (here _) (there _)
            (let d : work_put lost p (put_offs before) ≡ work_put lost p s.waiting.put_off =
            ap (λ z. work_put lost p (put_offs z)) is in
            omega (arith, d))

        either : (b : Bool) → Does origin call (content.InvalAck p)
            (if b then left_with ops k from p (set.remove s.left from) s.waiting else breach ops k)
        either true = fewer (is_none (set.remove s.left from))
        either false = breach_does origin call (content.InvalAck p)
    ack_does from origin call (entry.Idle s) is = breach_does origin call _
    ack_does from origin call (entry.AwaitRead s) is = breach_does origin call _
    ack_does from origin call (entry.AwaitWrite s) is = breach_does origin call _

module _ {S : Type 0} (ops : Ops S) (lost : ℕ) (k : Coherent S) where
  unless : (p : ℕ) (b : Bool) (origin call : ℕ) (body : Content) (e f : CoherenceEffect S)
      → Does ops lost k p origin call body e → Does ops lost k p origin call body f
      → Does ops lost k p origin call body (if b then e else f)
  unless p true origin call body e f first second = first
  unless p false origin call body e f first second = second

  handled_does_as : (from origin call : ℕ) (body : Content)
      → page_of body < length k.table.entries
      → Does ops lost k (page_of body) origin call body (handled_as ops k from origin call body)
  handled_does_as from origin call (content.ReadReq p) within =
      unless p (origin == k.me) origin call _ _ _ (breach_does ops lost k p within origin call _)
      (asked_does ops lost k p within origin call request.Read (entry_at k.table p) refl)
  handled_does_as from origin call (content.WriteReq p) within =
      unless p (origin == k.me) origin call _ _ _ (breach_does ops lost k p within origin call _)
      (asked_does ops lost k p within origin call request.Write (entry_at k.table p) refl)
  handled_does_as from origin call (content.Inval p) within =
      unless p (origin == from) origin call _ _ _
      (asked_does ops lost k p within origin call request.Invalidate (entry_at k.table p) refl)
      (breach_does ops lost k p within origin call _)
  handled_does_as from origin call (content.ReadRep p bytes) within =
      unless p (origin == k.me) origin call _ _ _
      (copy_does ops lost k p within from origin call bytes (entry_at k.table p) refl)
      (breach_does ops lost k p within origin call _)
  handled_does_as from origin call (content.WriteRep p bits bytes) within =
      unless p (origin == k.me) origin call _ _ _
      (page_does ops lost k p within from origin call bits (nodes_with bits) bytes
      (entry_at k.table p) refl)
      (breach_does ops lost k p within origin call _)
  handled_does_as from origin call (content.InvalAck p) within =
      unless p (origin == k.me) origin call _ _ _
      (ack_does ops lost k p within from origin call (entry_at k.table p) refl)
      (breach_does ops lost k p within origin call _)
  handled_does_as from origin call (content.AllocReq size) within =
      breach_does ops lost k 0 within origin call _
  handled_does_as from origin call (content.AllocRep code addr) within =
      breach_does ops lost k 0 within origin call _
  handled_does_as from origin call (content.FreeReq addr) within =
      breach_does ops lost k 0 within origin call _
  handled_does_as from origin call (content.FreeRep code) within =
      breach_does ops lost k 0 within origin call _

  pub handled_does : (from : ℕ) (m : Message) → page_of m.content < length k.table.entries
      → Does ops lost k (page_of m.content) m.origin m.call m.content (handled ops k from m)
  unfolding handled
  handled_does from m within = handled_does_as from m.origin m.call m.content within
