-- Each delivery lessens the work that is left, or leaves it and lowers how far the messages under
-- way have to go: itself, and the hops left to each request.
use Rattle.std.proofs.Common.{◌≡◌, ◌≢◌, ◌⊎◌, ◌≤◌, ◌<◌, ◌+◌, ℕ, suc, Bool, true, false, List, [], ◌∷◌, ◌++◌, length, Option, Some, None, refl, sym, ap, ◌∙◌, inl, inr, arith, subst}
use Rattle.std.specs.Prelude.{sum_by}
use Rattle.std.proofs.lemmas.Bool.{cases_eq}
use Rattle.std.proofs.lemmas.List.Sums.{sum_by_push}
use Rattle.ivy_model.specs.declared.Config.{Config}
use Rattle.ivy_model.specs.declared.Reply.{Reply}
use Rattle.ivy_model.specs.declared.Reply.TheVariants as reply
use Rattle.ivy_model.specs.stated.Config.{IsConfig}
use Rattle.ivy_wire.specs.declared.Content.TheVariants as content
use Rattle.ivy_wire.specs.stated.Data.{Content, Message, Parcel}
use Rattle.ivy_wire.specs.stated.Spelling.{FitsContent}
use Rattle.ivy_pagetable.specs.declared.Entry.{Entry}
use Rattle.ivy_pagetable.specs.declared.PutOff.{PutOff}
use Rattle.ivy_pagetable.specs.stated.Entries.{put_offs}
use Rattle.ivy_pagetable.specs.stated.Tables.{entry_at}
use Rattle.ivy_wire.specs.stated.Posts.{parcel_to}
use Rattle.ivy_coherence.specs.stated.Coherent.{Coherent}
use Rattle.ivy_coherence.specs.stated.MessageSteps.{CoherenceEffect}
use Rattle.ivy_program.specs.stated.Programs.{Program}
use Rattle.ivy_moves.specs.stated.Cores.{Outcome}
use Rattle.ivy_moves.specs.stated.FifoWorld.{FifoWorld, Delivers}
use Rattle.ivy_alloc.specs.declared.HeapCall.{HeapCall}
use Rattle.ivy_alloc.specs.declared.HeapCall.TheVariants as heap_call
use Rattle.ivy_alloc.specs.stated.HeapCalls.{told_of, request, answer_to}
use Rattle.ivy_memory.proofs.serving.Pages.{is_of_pages}
use Rattle.ivy_host.specs.stated.Hosts.{Host, host_rules, serving}
use Rattle.ivy_host.specs.stated.Managers.{Managed, managed_ops}
use Rattle.ivy_host.specs.declared.opening.Opening.{Opening}
use Rattle.ivy_host.specs.stated.Openings.{managed_start}
use Rattle.ivy_host.proofs.Starts.{managed_new}
use Rattle.ivy_host.specs.ManagedLaws.{managed_laws}
use Rattle.ivy_host.specs.stated.Sound.{IsSoundHost}
use Rattle.ivy_host.proofs.Pages.{page_serving}
use Rattle.proof_table.specs.stated.Letters.{Underway, content_of}
use Rattle.proof_table.specs.stated.Orderly.{IsOrderly}
use Rattle.proof_table.proofs.transitions.Needs.{page_of}
use Rattle.proof_worlds.proofs.refinement.HeapDeliveries.{HeapDelivery, serves, learns}
use Rattle.proof_worlds.specs.stated.Nets.{entry_of, manager_of, managers_of, net_of}
use Rattle.proof_worlds.specs.stated.FifoRuns.{IsReachedInOrder}
use Rattle.proof_worlds.proofs.refinement.LiftedWorlds.{IsSent, IsSoundWorldBy, fits_heap, letter_first}
use Rattle.proof_worlds.proofs.refinement.FifoRuns.{hops_below}
use Rattle.proof_table.specs.routing.Claiming.{claims}
use Rattle.proof_table.specs.stated.Descending.{IsAsked}
use Rattle.proof_table.specs.stated.Routing.{AreRoutes, hops}
use Rattle.proof_table.proofs.routing.Claims.{writer_claims}
use Rattle.proof_table.proofs.routing.Found.{plain_away}
use Rattle.proof_worlds.proofs.progress.EitherRoutes.{either_routed}
use Rattle.proof_worlds.proofs.progress.NumberTotals.{parcels}
use Rattle.proof_worlds.proofs.progress.Hops.{hops_left, no_more_hops, one_hop}
use Rattle.proof_worlds.proofs.progress.Works.{heavy_of, bare, work_posted, work_put, work_some}
use Rattle.proof_worlds.proofs.progress.Handling.{Handles, lessens, puts_off, sends_on, Does, request_of, handled_does}
use Rattle.proof_worlds.proofs.progress.Loads.{lighter, load, aside_load, event_load}
use Rattle.proof_worlds.proofs.progress.Delivered.{under_way, others_under_way, first_taken, others_stay, answers_follow, core_here, core_there}
use Rattle.proof_worlds.proofs.progress.Forwards.{forwarded}
use Rattle.proof_worlds.proofs.progress.Reached.{IsToldBy, reached_told}

-- the page that a request is for
abbrev pub page_asked : Content → Option ℕ
page_asked (content.ReadReq page) = Some page
page_asked (content.WriteReq page) = Some page
page_asked body = None

-- the hops left to a message at a node, by those left to a request for a page there
abbrev pub hops_to : (ℕ → ℕ → ℕ) → ℕ → Option ℕ → ℕ
hops_to far node (Some page) = far page node
hops_to far node None = 0

abbrev pub hops_of : (ℕ → ℕ → ℕ) → ℕ → Content → ℕ
hops_of far node body = hops_to far node (page_asked body)

pub fewer_hops : (less far : ℕ → ℕ → ℕ) → ((p i : ℕ) → less p i ≤ far p i) → (i : ℕ)
    (asked : Option ℕ) → hops_to less i asked ≤ hops_to far i asked
fewer_hops less far le i (Some page) = le page i
fewer_hops less far le i None = omega arith

request_hops : (far : ℕ → ℕ → ℕ) (node page : ℕ) (write : Bool)
    → hops_of far node (request_of write page) ≡ far page node
request_hops far node page true = refl
request_hops far node page false = refl

-- a message about a page is about one that there is
page_inside : (c : Config) (b : Content) → is_of_pages b ≡ true → FitsContent c b
    → page_of b < c.pages
page_inside c (content.ReadReq page) about fits = fits
page_inside c (content.WriteReq page) about fits = fits
page_inside c (content.ReadRep page bytes) about fits = fits.0
page_inside c (content.WriteRep page copies bytes) about fits = fits.0
page_inside c (content.Inval page) about fits = fits
page_inside c (content.InvalAck page) about fits = fits
page_inside c (content.AllocReq size) about fits = absurd (let f : false ≡ true = about in cc)
page_inside c (content.AllocRep code addr) about fits = absurd (let f : false ≡ true = about in cc)
page_inside c (content.FreeReq addr) about fits = absurd (let f : false ≡ true = about in cc)
page_inside c (content.FreeRep code) about fits = absurd (let f : false ≡ true = about in cc)

-- an answer of the heap is less work than its call
answer_less : (lost : ℕ) (k : HeapCall) (r : Reply)
    → heavy_of lost (answer_to k r) < heavy_of lost (request k)
answer_less lost (heap_call.Alloc size) (reply.Value addr) = omega arith
answer_less lost (heap_call.Alloc size) reply.Done = omega arith
answer_less lost (heap_call.Alloc size) (reply.Refused code) = omega arith
answer_less lost (heap_call.Free addr) (reply.Value v) = omega arith
answer_less lost (heap_call.Free addr) reply.Done = omega arith
answer_less lost (heap_call.Free addr) (reply.Refused code) = omega arith

-- of a FIFO world
module _ (c : Config) (o : FifoWorld (Host Managed)) where
  abbrev pub entries : ℕ → ℕ → Entry
  entries i p = (net_of o).entry i p

  abbrev pub claiming : ℕ → ℕ → Bool
  claiming p i = claims (entries i p)

  abbrev pub hop_at : ℕ → ℕ → ℕ
  hop_at p i = managed_ops.next_hop (managers_of (managed_ops.first c 0) o i) p

  -- how many hops are left to a request for a page at a node
  abbrev pub hops_at : ℕ → ℕ → ℕ
  hops_at p i = hops_left (claiming p) (hop_at p) c.nodes i

  abbrev pub far : ℕ → Content → ℕ
  far i b = hops_of hops_at i b

  -- one that is under way has the way to the node too
  abbrev pub far_way : ℕ → Content → ℕ
  far_way i b = 1 + far i b

  -- the work that is left
  abbrev pub work : ℕ → ℕ
  work lost = load c.nodes c.pages (λ i. heavy_of lost) (λ i. heavy_of lost) (under_way o) entries

  -- how far the messages have to go
  abbrev pub way : ℕ
  way = load c.nodes c.pages far_way far (under_way o) entries

-- where entries, next hops and the messages under way are the same, both are
module _ (c : Config) (o u : FifoWorld (Host Managed)) (entry : entries c u ≡ entries c o)
    (hop : hop_at c u ≡ hop_at c o) (under : under_way u ≡ under_way o) where
  pub same_work : (lost : ℕ) → work c u lost ≡ work c o lost
  same_work lost =
      λ k. load c.nodes c.pages (λ i. heavy_of lost) (λ i. heavy_of lost) (under k) (entry k)

  pub same_way : way c u ≡ way c o
  same_way =
      λ k. load c.nodes c.pages
      (λ i b. 1
      + hops_of (λ p j. hops_left (λ y. claims (entry k y p)) (hop k p) c.nodes j) i b)
      (λ i b. hops_of (λ p j. hops_left (λ y. claims (entry k y p)) (hop k p) c.nodes j) i b)
      (under k) (entry k)

-- a delivery lowers the one, or leaves it and lowers the other
abbrev pub Lowers : ℕ → Config → FifoWorld (Host Managed) → FifoWorld (Host Managed) → Type 0
Lowers lost c o o' = (work c o' lost < work c o lost) ⊎ ((work c o' lost ≤ work c o lost) × (way c o' < way c o))

module _ (lost : ℕ) (opened : Opening) (c : Config) (limits : IsConfig c) (programs : List Program)
    (many : length programs ≡ c.nodes) (o o' : FifoWorld (Host Managed))
    (reached : IsReachedInOrder managed_ops (managed_start opened) c programs o) (source x : ℕ)
    (t : Delivers (host_rules managed_ops) o source x o') where
  told : IsToldBy (managed_start opened).sends_on managed_ops c o
  told =
      reached_told managed_ops managed_laws (managed_start opened) c limits
      (managed_new opened c limits) programs many o reached

  sound : IsSoundWorldBy (managed_start opened).sends_on managed_ops c o
  sound = told.faithful.sound

  order : IsOrderly c (net_of o)
  order = told.faithful.orderly

  sent : IsSent c source x t.message
  sent = sound.sent source x (o.delivered source x) t.message t.first

  good : IsSoundHost managed_ops c x t.core
  good = sound.sound x t.core t.there

  abbrev m : Message
  m = t.message

  abbrev k : Coherent Managed
  k = t.core.memory.coherence

  abbrev effect_of : Outcome (Host Managed) → CoherenceEffect Managed
  effect_of e = record { after = e.after.memory.coherence; posted = e.posted }

  abbrev effect : CoherenceEffect Managed
  effect = effect_of (serving managed_ops t.core source m)

  here_before : (q : ℕ) → entries c o x q ≡ entry_at k.table q
  here_before q = ap (λ z. entry_of z q) t.there

  here_after : (q : ℕ) → entries c o' x q ≡ entry_at effect.after.table q
  here_after q = ap (λ z. entry_of z q) (core_here (host_rules managed_ops) o o' source x t)

  hop_before : (q : ℕ) → hop_at c o q x ≡ managed_ops.next_hop k.manager q
  hop_before q =
      ap (λ z. managed_ops.next_hop (manager_of (managed_ops.first c 0) z) q) t.there

  hop_after : (q : ℕ) → hop_at c o' q x ≡ managed_ops.next_hop effect.after.manager q
  hop_after q =
      ap (λ z. managed_ops.next_hop (manager_of (managed_ops.first c 0) z) q)
      (core_here (host_rules managed_ops) o o' source x t)

  hop_there : (q i : ℕ) → i ≢ x → hop_at c o' q i ≡ hop_at c o q i
  hop_there q i ne =
      ap (λ z. managed_ops.next_hop (manager_of (managed_ops.first c 0) z) q)
      (core_there (host_rules managed_ops) o o' source x t i ne)

  module _ (p : ℕ) (inside : p < c.pages)
      (does : Does managed_ops lost k p m.origin m.call m.content effect) where
    entries_there : (i q : ℕ) → (i ≢ x) ⊎ (q ≢ p) → entries c o' i q ≡ entries c o i q
    entries_there i q (inl ne) =
        ap (λ z. entry_of z q) (core_there (host_rules managed_ops) o o' source x t i ne)
    entries_there i q (inr ne) = elim (cases_eq i x) [
      | inl same ↦
          subst (λ v. entries c o' v q ≡ entries c o v q) (sym same)
          (here_after q ∙ does.elsewhere q ne ∙ sym (here_before q))
      | inr other ↦
          ap (λ z. entry_of z q) (core_there (host_rules managed_ops) o o' source x t i other)
    ]

    -- what the delivery does to each load
    loaded : (heavy w : ℕ → Content → ℕ)
        → load c.nodes c.pages heavy w (under_way o') (entries c o') + heavy x m.content
        + aside_load w (entries c o) x p
        ≤ load c.nodes c.pages heavy w (under_way o) (entries c o)
        + parcels c.nodes (λ j n. heavy j n.content) effect.posted
        + aside_load w (entries c o') x p
    loaded heavy w =
        event_load c.nodes c.pages heavy w (under_way o)
        (others_under_way (host_rules managed_ops) o o' source x t) (under_way o') (entries c o)
        (entries c o') source x p m effect.posted sent.below sent.there inside
        (first_taken (host_rules managed_ops) o o' source x t)
        (others_stay (host_rules managed_ops) o o' source x t)
        (answers_follow (host_rules managed_ops) o o' source x t sound.within) entries_there

    pub work_loaded : work c o' lost + heavy_of lost m.content + work_put lost p (put_offs (entry_at k.table p))
        ≤ work c o lost + work_posted lost effect.posted
        + work_put lost p (put_offs (entry_at effect.after.table p))
    work_loaded =
        let a = loaded (λ i. heavy_of lost) (λ i. heavy_of lost) in
        let b : work_put lost p (put_offs (entries c o x p))
        ≡ work_put lost p (put_offs (entry_at k.table p)) =
        ap (λ z. work_put lost p (put_offs z)) (here_before p) in
        let d : work_put lost p (put_offs (entries c o' x p))
        ≡ work_put lost p (put_offs (entry_at effect.after.table p)) =
        ap (λ z. work_put lost p (put_offs z)) (here_after p) in
        omega (arith, a, b, d)

    -- no more hops are left to any request
    no_farther : claims (entry_at effect.after.table p) ≡ claims (entry_at k.table p)
        → ((q : ℕ) → (hop_at c o' q x ≡ hop_at c o q x)
        ⊎ (claiming c o q (hop_at c o' q x) ≡ true))
        → (q i : ℕ) → hops_at c o' q i ≤ hops_at c o q i
    no_farther stays here q i =
        no_more_hops (claiming c o q) (claiming c o' q) (hop_at c o q) (hop_at c o' q) same x
        (λ y ne. hop_there q y ne) (here q) c.nodes i
      where
        same : (y : ℕ) → claiming c o' q y ≡ claiming c o q y
        same y = elim (cases_eq y x) [
          | inr ne ↦ ap claims (entries_there y q (inl ne))
          | inl is ↦ elim (cases_eq q p) [
            | inr other ↦ ap claims (entries_there y q (inr other))
            | inl at ↦
                subst (λ v. claims (entries c o' v q) ≡ claims (entries c o v q)) (sym is)
                (subst (λ v. claims (entries c o' x v) ≡ claims (entries c o x v)) (sym at)
                (ap claims (here_after p) ∙ stays ∙ sym (ap claims (here_before p))))
          ]
        ]

    -- the hops left to the requests among these messages that are put off
    abbrev put_far : List PutOff → ℕ
    put_far qs = sum_by (λ (q : PutOff). far c o x (content_of q.kind p)) qs

    -- where no more hops are left to any
    way_loaded : ((q i : ℕ) → hops_at c o' q i ≤ hops_at c o q i)
        → way c o' + (1 + far c o x m.content) + put_far (put_offs (entry_at k.table p))
        ≤ way c o + parcels c.nodes (λ j n. far_way c o j n.content) effect.posted
        + put_far (put_offs (entry_at effect.after.table p))
    way_loaded fewer =
        let less : (i : ℕ) (b : Content) → far c o' i b ≤ far c o i b =
        λ i b. fewer_hops (hops_at c o') (hops_at c o) fewer i (page_asked b) in
        let light : way c o'
        ≤ load c.nodes c.pages (far_way c o) (far c o) (under_way o') (entries c o') =
        lighter c.nodes c.pages (far_way c o') (far c o') (far_way c o) (far c o)
        (λ i b. (let e = less i b in omega (arith, e))) less (under_way o') (entries c o') in
        let a = loaded (far_way c o) (far c o) in
        let b : put_far (put_offs (entries c o x p)) ≡ put_far (put_offs (entry_at k.table p)) =
        ap (λ z. put_far (put_offs z)) (here_before p) in
        let d : put_far (put_offs (entries c o' x p))
        ≡ put_far (put_offs (entry_at effect.after.table p)) =
        ap (λ z. put_far (put_offs z)) (here_after p) in
        omega (arith, light, a, b, d)

    -- it is put off
    put_lowers : (q : PutOff) → content_of q.kind p ≡ m.content → effect.posted ≡ []
        → effect.after.manager ≡ k.manager
        → put_offs (entry_at effect.after.table p) ≡ put_offs (entry_at k.table p) ++ q ∷ []
        → claims (entry_at effect.after.table p) ≡ claims (entry_at k.table p) → Lowers lost c o o'
    put_lowers q is none manager put stays = inr (same_work, less_way)
      where
        same_work : work c o' lost ≤ work c o lost
        same_work =
            let a = work_loaded in
            let b : work_posted lost effect.posted ≡ 0 = ap (work_posted lost) none in
            let d : work_put lost p (put_offs (entry_at effect.after.table p))
            ≡ work_put lost p (put_offs (entry_at k.table p)) + heavy_of lost (content_of q.kind p) =
            ap (work_put lost p) put
            ∙ sum_by_push (λ (r : PutOff). heavy_of lost (content_of r.kind p))
            (put_offs (entry_at k.table p)) q in
            let e : heavy_of lost (content_of q.kind p) ≡ heavy_of lost m.content = ap (heavy_of lost) is in
            omega (arith, a, b, d, e)

        hop_stays : (r : ℕ) → hop_at c o' r x ≡ hop_at c o r x
        hop_stays r =
            hop_after r ∙ ap (λ s. managed_ops.next_hop s r) manager ∙ sym (hop_before r)

        less_way : way c o' < way c o
        less_way =
            let a = way_loaded (no_farther stays (λ r. inl (hop_stays r))) in
            let b : parcels c.nodes (λ j n. far_way c o j n.content) effect.posted ≡ 0 =
            ap (parcels c.nodes (λ j n. far_way c o j n.content)) none in
            let d : put_far (put_offs (entry_at effect.after.table p))
            ≡ put_far (put_offs (entry_at k.table p)) + far c o x (content_of q.kind p) =
            ap put_far put
            ∙ sum_by_push (λ (r : PutOff). far c o x (content_of r.kind p))
            (put_offs (entry_at k.table p)) q in
            let e : far c o x (content_of q.kind p) ≡ far c o x m.content = ap (far c o x) is in
            omega (arith, a, b, d, e)

    -- it is sent on: one hop less is left to it
    abbrev on : Parcel
    on = parcel_to k.me (managed_ops.next_hop k.manager p) m.origin m.call m.content

    asks : (write : Bool) → m.content ≡ request_of write p → write ≡ true
        → IsAsked (net_of o) (content.WriteReq p) m.origin x
    asks write is so =
        let writes : m.content ≡ content.WriteReq p = is ∙ ap (λ w. request_of w p) so in
        record {
          at = Underway source x ((net_of o).delivered source x);
          letter = record { source = source; dest = x; message = m };
          there =
              (omega arith, letter_first o source x m t.first (ap is_of_pages writes), refl, refl);
          dest = refl;
          asker = refl;
          asks = writes;
        }

    hop_on : (write : Bool) → m.content ≡ request_of write p
        → effect.after.manager ≡ managed_ops.on_forward k.manager p write m.origin → (q : ℕ)
        → (hop_at c o' q x ≡ hop_at c o q x) ⊎ (claiming c o q (hop_at c o' q x) ≡ true)
    hop_on write is manager q =
        elim (cases_eq q p) [
          | inr ne ↦
              inl (now ∙ (managed_laws.keeps_forward k.manager p write m.origin).others q ne
              ∙ sym (hop_before q))
          | inl at ↦
              subst (λ v. (hop_at c o' v x ≡ hop_at c o v x)
              ⊎ (claiming c o v (hop_at c o' v x) ≡ true)) (sym at)
              (elim (forwarded k.manager p write m.origin managed) [
                | inl same ↦ inl (then_hop ∙ same ∙ sym (hop_before p))
                | inr to ↦
                    inr (ap (claiming c o p) (then_hop ∙ to.1)
                    ∙ writer_claims c (net_of o) order p m.origin x (asks write is to.0))
              ])
        ]
      where
        managed : p < managed_ops.size k.manager
        managed =
            let a = good.memory.coherent.managed in
            let b = ap (λ (z : Config). z.pages) good.config in
            omega (arith, a, b, inside)

        now : hop_at c o' q x
            ≡ managed_ops.next_hop (managed_ops.on_forward k.manager p write m.origin) q
        now = hop_after q ∙ ap (λ s. managed_ops.next_hop s q) manager

        then_hop : hop_at c o' p x
            ≡ managed_ops.next_hop (managed_ops.on_forward k.manager p write m.origin) p
        then_hop = hop_after p ∙ ap (λ s. managed_ops.next_hop s p) manager

    one_less : claims (entry_at k.table p) ≡ false
        → hops_at c o p x ≡ suc (hops_at c o p (managed_ops.next_hop k.manager p))
    one_less plain =
        one_hop c.nodes (claiming c o p) (hop_at c o p) routes.height
        (λ y below free.
        routes.lower y (hop_at c o p y)
        (hops (plain_away c (net_of o) p (hop_at c o p) order y below free) refl))
        (hops_below managed_ops c o sound (managed_ops.first c 0) p inside) x sent.there
        (ap claims (here_before p) ∙ plain)
        ∙ ap (λ v. suc (hops_at c o p v)) (hop_before p)
      where
        routes : AreRoutes c (net_of o) p (hop_at c o p)
        routes = (either_routed c limits opened programs many o reached p inside).0

    sent_lowers : (write : Bool) → m.content ≡ request_of write p → effect.posted ≡ on ∷ []
        → effect.after.manager ≡ managed_ops.on_forward k.manager p write m.origin
        → put_offs (entry_at effect.after.table p) ≡ put_offs (entry_at k.table p)
        → claims (entry_at k.table p) ≡ false → claims (entry_at effect.after.table p) ≡ false
        → Lowers lost c o o'
    sent_lowers write is posts manager kept plain free = inr (same_work, less_way)
      where
        same_work : work c o' lost ≤ work c o lost
        same_work =
            let a = work_loaded in
            let b : work_posted lost effect.posted ≡ 0 + heavy_of lost m.content = ap (work_posted lost) posts in
            let d : work_put lost p (put_offs (entry_at effect.after.table p))
            ≡ work_put lost p (put_offs (entry_at k.table p)) = ap (work_put lost p) kept in
            omega (arith, a, b, d)

        less_way : way c o' < way c o
        less_way =
            let a = way_loaded (no_farther (free ∙ sym plain) (hop_on write is manager)) in
            let b : parcels c.nodes (λ j n. far_way c o j n.content) effect.posted
            ≡ 0 + (1 + hops_at c o p (managed_ops.next_hop k.manager p)) =
            ap (parcels c.nodes (λ j n. far_way c o j n.content)) posts
            ∙ ap (λ v. 0 + (1 + v))
            (ap (far c o (managed_ops.next_hop k.manager p)) is
            ∙ request_hops (hops_at c o) (managed_ops.next_hop k.manager p) p write) in
            let d : put_far (put_offs (entry_at effect.after.table p))
            ≡ put_far (put_offs (entry_at k.table p)) = ap put_far kept in
            let e : far c o x m.content ≡ hops_at c o p x =
            ap (far c o x) is ∙ request_hops (hops_at c o) x p write in
            let f = one_less plain in
            omega (arith, a, b, d, e, f)

    lowers_as : Handles managed_ops lost k p m.origin m.call m.content effect → Lowers lost c o o'
    lowers_as (lessens less) = (let a = work_loaded in inl (omega (arith, a, less)))
    lowers_as (puts_off q is none manager put stays bare) = put_lowers q is none manager put stays
    lowers_as (sends_on write is posts manager kept plain free bare) =
        sent_lowers write is posts manager kept plain free

    does_lower : Lowers lost c o o'
    does_lower = lowers_as does.handles

  -- a message of the heap is answered, or ends
  heap_less : HeapDelivery managed_ops o source x t.core m
      → work_posted lost (serving managed_ops t.core source m).posted < heavy_of lost m.content
  heap_less (serves home away asker at call number asked on_way none same heap is does) =
      let a : work_posted lost (serving managed_ops t.core source m).posted
      ≡ 0 + heavy_of lost (answer_to call (told_of heap call).reply) =
      ap (λ (z : Outcome (Host Managed)). work_posted lost z.posted) does in
      let b : heavy_of lost m.content ≡ heavy_of lost (request call) =
      ap (λ (z : Message). heavy_of lost z.content) same in
      let d : heavy_of lost (answer_to call (told_of heap call).reply) < heavy_of lost (request call) =
      answer_less lost call (told_of heap call).reply in
      omega (arith, a, b, d)
  heap_less (learns away home call number r asked back tells does) =
      let a : work_posted lost (serving managed_ops t.core source m).posted ≡ 0 =
      ap (λ (z : Outcome (Host Managed)). work_posted lost z.posted) does in
      let b : 1 ≤ heavy_of lost m.content = work_some lost m.content in
      omega (arith, a, b)

  heap_table : HeapDelivery managed_ops o source x t.core m → effect.after ≡ k
  heap_table (serves home away asker at call number asked on_way none same heap is does) =
      ap (λ (z : Outcome (Host Managed)). z.after.memory.coherence) does
  heap_table (learns away home call number r asked back tells does) =
      ap (λ (z : Outcome (Host Managed)). z.after.memory.coherence) does

  heap_does : HeapDelivery managed_ops o source x t.core m
      → Does managed_ops lost k 0 m.origin m.call m.content effect
  heap_does h = record {
    handles = lessens
        (let a = heap_less h in
        let b : work_put lost 0 (put_offs (entry_at effect.after.table 0))
        ≡ work_put lost 0 (put_offs (entry_at k.table 0)) =
        ap (λ (z : Coherent Managed). work_put lost 0 (put_offs (entry_at z.table 0))) (heap_table h) in
        let d : bare lost (entry_at effect.after.table 0) ≡ bare lost (entry_at k.table 0) =
        ap (λ (z : Coherent Managed). bare lost (entry_at z.table 0)) (heap_table h) in
        omega (arith, a, b, d));
    elsewhere = λ q ne. ap (λ (z : Coherent Managed). entry_at z.table q) (heap_table h);
  }

  pages_does : is_of_pages m.content ≡ true → page_of m.content < c.pages
      → Does managed_ops lost k (page_of m.content) m.origin m.call m.content effect
  pages_does about inside =
      subst (λ z. Does managed_ops lost k (page_of m.content) m.origin m.call m.content (effect_of z))
      (sym (page_serving managed_ops t.core source m about))
      (handled_does managed_ops lost k source m
      (let a = good.memory.coherent.entries in
      let b = ap (λ (z : Config). z.pages) good.config in
      omega (arith, a, b, inside)))

  -- what the delivery does, and to which page
  abbrev IsDone : Type 0
  IsDone = (p : ℕ) × (p < c.pages) × Does managed_ops lost k p m.origin m.call m.content effect

  done_if : (b : Bool) → is_of_pages m.content ≡ b → IsDone
  done_if true about =
      let inside = page_inside c m.content about sent.fits.content in
      (page_of m.content, inside, pages_does about inside)
  done_if false heap = (
    0,
    (let a = limits.pages_from in omega (arith, a)),
    heap_does (fits_heap managed_ops c o o' sound source x t heap),
  )

  pub done : IsDone
  done = done_if (is_of_pages m.content) refl

  pub lowers : Lowers lost c o o'
  lowers = does_lower done.0 done.1 done.2
