-- Each row of the table of coherence events keeps the heights under hints, and under these no
-- message is ever a breach.
use Rattle.std.proofs.Common.{◌≡◌, ◌<◌, ℕ, Bool, true, false, List, [], ◌∷◌, map, if◌then◌else◌, slice_get, Some, refl, sym, ap, ◌∙◌, subst, inl, inr, arith}
use Rattle.std.proofs.lemmas.Bool.{cases_lt, both_ways}
use Rattle.std.proofs.lemmas.Option.{none-some}
use Rattle.ivy_model.specs.declared.Config.{Config}
use Rattle.ivy_model.specs.stated.Config.{IsConfig}
use Rattle.ivy_wire.specs.declared.Content.TheVariants as content
use Rattle.ivy_wire.specs.stated.Data.{Content}
use Rattle.ivy_wire.specs.stated.Posts.{parcel_to}
use Rattle.ivy_pagetable.specs.declared.Entry.{Entry}
use Rattle.ivy_pagetable.specs.declared.Entry.TheVariants as entry
use Rattle.ivy_pagetable.specs.declared.PutOff.{PutOff}
use Rattle.ivy_pagetable.specs.declared.Request.{Request}
use Rattle.ivy_pagetable.specs.declared.Request.TheVariants as request
use Rattle.ivy_pagetable.specs.stated.NodeSets.{Nodes, nodes_with}
use Rattle.ivy_pagetable.specs.stated.Accesses.{reads}
use Rattle.ivy_pagetable.specs.stated.Entries.{put_offs, is_owner, with_put_off, copying, owning, sharing}
use Rattle.ivy_coherence.specs.stated.Serving.{invalidations}
use Rattle.ivy_coherence.specs.stated.MessageSteps.{sending}
use Rattle.ivy_coherence.specs.stated.PageFaults.{waiting_from}
use Rattle.ivy_coherence.proofs.keeping.SoundEntries.{owner_put}
use Rattle.ivy_dynamic.specs.stated.Dynamic.{Hints, hint_of, hinted, dynamic_ops}
use Rattle.proof_table.specs.stated.Letters.{Letter, Net, Place, Loose, content_of, letter_of}
use Rattle.proof_table.specs.transitions.Letters.{goes_on, installs}
use Rattle.proof_table.specs.stated.Orderly.{IsExpectedAs, IsOrderly}
use Rattle.proof_table.specs.transitions.TableSteps.{Served, Comes, Begins, Joins, PutsOff, Notice, Row, IsNamedBy, noticed, letter, with_manager}
use Rattle.proof_table.proofs.transitions.Needs.{page_of, put_about, collects_owner}
use Rattle.proof_table.proofs.transitions.Places.{served, freed}
use Rattle.proof_table.proofs.transitions.Sole.{fits_as}
use Rattle.proof_table.proofs.transitions.NetSteps.{IsStep}
use Rattle.proof_table.proofs.transitions.RowsJoined.{joined_owner, joined_claims, joined_kept}
use Rattle.ivy_coherence.specs.stated.Fetching.{joined_by}
use Rattle.proof_table.proofs.transitions.Parcels.{IsThe, IsNone, IsOrder, answer_step, ask_step, orders_step, free_step, stay_step}
use Rattle.proof_table.proofs.routing.Quiet.{IsRoutedAt}
use Rattle.proof_table.specs.stated.Descending.{IsAsked, Descends}
use Rattle.proof_table.specs.routing.Claiming.{claims}
use Rattle.proof_table.specs.stated.Sending.{HasPage, owns, comes}
use Rattle.proof_table.specs.routing.Hinting.{LeadDown, IsHinted}
use Rattle.proof_table.proofs.routing.Asked.{reader_inside, writer_inside}
use Rattle.proof_table.proofs.routing.Claims.{put_claims}
use Rattle.proof_table.proofs.routing.Old.{installs_letters, taken_letters, put_off_step}
use Rattle.proof_table.proofs.routing.NoBreach.{no_breach}
use Rattle.proof_table.proofs.routing.Managers.{IsTold, none_told, told_itself}
use Rattle.proof_table.proofs.routing.HintedManagers.{told_hint, hint_now}
use Rattle.proof_table.proofs.routing.HintedSteps.{part_hinted, low_hinted}
use Rattle.proof_table.proofs.routing.HintedRows.{given_hinted, sent_hinted}

-- a request goes on, a copy or the page is brought
abbrev LeadsOn : Content → Type 0
LeadsOn (content.ReadReq page) = Unit {0}
LeadsOn (content.WriteReq page) = Unit {0}
LeadsOn (content.ReadRep page bytes) = Unit {0}
LeadsOn (content.WriteRep page copies bytes) = Unit {0}
LeadsOn (content.Inval page) = ⊥
LeadsOn (content.InvalAck page) = ⊥
LeadsOn (content.AllocReq size) = ⊥
LeadsOn (content.AllocRep code addr) = ⊥
LeadsOn (content.FreeReq addr) = ⊥
LeadsOn (content.FreeRep code) = ⊥

-- what is put off is no reply
put_no_copy : (k : Request) (p : ℕ) (bytes : List ℕ) → content_of k p ≡ content.ReadRep p bytes → ⊥
put_no_copy request.Read p bytes h = cc
put_no_copy request.Write p bytes h = cc
put_no_copy request.Invalidate p bytes h = cc

put_no_page : (k : Request) (p bits : ℕ) (bytes : List ℕ)
    → content_of k p ≡ content.WriteRep p bits bytes → ⊥
put_no_page request.Read p bits bytes h = cc
put_no_page request.Write p bits bytes h = cc
put_no_page request.Invalidate p bits bytes h = cc

no_more : {X : Type 0} → false ≡ true → X
no_more h = absurd (let f : false ≡ true = h in cc)

pub hinted_descends : (c : Config) (m : ℕ → Hints) (n : Net) → IsOrderly c n → IsHinted c m n
    → Descends n
hinted_descends c m n order hints q = elim (cases_lt q c.pages) [
  | inl lt ↦ (let f : (g : ℕ → ℕ) × LeadDown c m n q g = hints.heights q lt in (f.0, f.1.requests))
  | inr le ↦ (
    λ y. 0,
    record {
      reads = λ i y k. absurd
          (let lt : q < c.pages = reader_inside c n order q i y k in omega (arith, le, lt));
      writes =
          λ i y k. absurd
          (let lt : q < c.pages = writer_inside c n order q i y k in omega (arith, le, lt));
    },
  )
]

-- what comes is installed
installed_hinted : (c : Config) (m : ℕ → Hints) (n : Net) (x p : ℕ) (bytes : List ℕ)
    → IsHinted c m n → IsHinted c m (installs n x p bytes)
installed_hinted c m n x p bytes =
    part_hinted c m m n (installs n x p bytes)
    (record { letters = installs_letters n x p bytes; entries = λ i q. refl }) (λ i. refl)

-- No letter that leads on is new. The node hints at a lower one then, if it hints.
module _ (c : Config) (m m' : ℕ → Hints) (n n' : Net) (hints : IsHinted c m n) (x p : ℕ)
    (e z : Entry) (now : Place → Place) (New : Place → Letter → Type 0)
    (step : IsStep n n' x p e z now New) (t : IsTold dynamic_ops m m' x p) where
  quiet_hinted : ((a : Place) (l : Letter) → New a l → page_of l.message.content ≡ p)
      → ((a : Place) (l : Letter) → New a l → LeadsOn l.message.content → ⊥)
      → (is_owner z ≡ true → HasPage n x p)
      → ((g : ℕ → ℕ) → LeadDown c m n p g → claims z ≡ false → g (hint_of (m' x) p) < g x)
      → IsHinted c m' n'
  quiet_hinted about none owner hint =
      low_hinted c m m' n n' x p e z now New step t about (λ g was. record {
        reads = λ a l new is. absurd (none a l new (subst LeadsOn (sym is) tt));
        writes = λ a l new is. absurd (none a l new (subst LeadsOn (sym is) tt));
        copies = λ a l bytes new is. absurd (none a l new (subst LeadsOn (sym is) tt));
        pages = λ a l bits bytes new is. none a l new (subst LeadsOn (sym is) tt);
        owner = λ same. owner;
        hint = λ same. hint g was;
      }) hints

-- one letter is new, to be judged as what it is
module _ (c : Config) (m m' : ℕ → Hints) (n n' : Net) (hints : IsHinted c m n) (x p : ℕ)
    (e z : Entry) (now : Place → Place) (at : Place) (new : Letter)
    (step : IsStep n n' x p e z now (IsThe at new)) (t : IsTold dynamic_ops m m' x p) where
  one_hinted : page_of new.message.content ≡ p
      → ((bits : ℕ) (bytes : List ℕ) → new.message.content ≡ content.WriteRep p bits bytes → ⊥)
      → ((g : ℕ → ℕ) → LeadDown c m n p g → new.message.content ≡ content.ReadReq p
      → g new.dest < g new.message.origin)
      → ((g : ℕ → ℕ) → LeadDown c m n p g → new.message.content ≡ content.WriteReq p
      → g new.dest < g new.message.origin)
      → ((g : ℕ → ℕ) → LeadDown c m n p g → (bytes : List ℕ)
      → new.message.content ≡ content.ReadRep p bytes → g new.source < g new.dest)
      → (is_owner z ≡ true → HasPage n x p)
      → ((g : ℕ → ℕ) → LeadDown c m n p g → claims z ≡ false → g (hint_of (m' x) p) < g x)
      → IsHinted c m' n'
  one_hinted about no_page read write copy owner hint =
      low_hinted c m m' n n' x p e z now (IsThe at new) step t
      (λ a l it. ap (λ (v : Letter). page_of v.message.content) it.1 ∙ about) (λ g was. record {
        reads = λ a l it is. subst (λ (v : Letter). g v.dest < g v.message.origin) (sym it.1)
            (read g was (body l it ∙ is));
        writes =
            λ a l it is. subst (λ (v : Letter). g v.dest < g v.message.origin) (sym it.1)
            (write g was (body l it ∙ is));
        copies =
            λ a l bytes it is. subst (λ (v : Letter). g v.source < g v.dest) (sym it.1)
            (copy g was bytes (body l it ∙ is));
        pages = λ a l bits bytes it is. no_page bits bytes (body l it ∙ is);
        owner = λ same. owner;
        hint = λ same. hint g was;
      }) hints
    where
      body : (l : Letter) {a : Place} → IsThe at new a l → new.message.content ≡ l.message.content
      body l it = ap (λ (v : Letter). v.message.content) (sym it.1)

-- the node is told of another one
hints_at : (c : Config) (m : ℕ → Hints) (n : Net) → IsHinted c m n → (x p : ℕ) → x < c.nodes
    → p < c.pages
    → (o : ℕ) (g : ℕ → ℕ) → g o < g x → g (hint_of (with_manager m x (hinted (m x) p o) x) p) < g x
hints_at c m n hints x p here page o g lt =
    subst (λ v. g v < g x)
    (sym (hint_now m x p o (subst (λ k. p < k) (sym (hints.size x here)) page))) lt

-- a request is the first loose letter
asked_first : {c : Config} {n : Net} {T : Type 0} {at : T → Entry} {ask : ℕ → Content}
    (r : Served c n at ask) → IsAsked n (ask r.page) r.origin r.node
asked_first {ask = ask} r = record {
  at = Loose 0;
  letter = letter r.from r.node r.origin r.call (ask r.page);
  there = ap (λ v. slice_get v 0) r.loose;
  dest = refl;
  asker = refl;
  asks = refl;
}

-- who orders a copy to be given up has the page
orderer_has : {c : Config} {n : Net} {T : Type 0} {at : T → Entry} → IsOrderly c n
    → (r : Served c n at content.Inval) → HasPage n r.origin r.page
orderer_has {c} {n} order r =
    let l : Letter = letter r.from r.node r.origin r.call (content.Inval r.page) in
    let fit : IsExpectedAs c n l (content.Inval r.page) =
    fits_as c n order (Loose 0) l (content.Inval r.page) (ap (λ v. slice_get v 0) r.loose)
    refl in
    owns (collects_owner (n.entry r.origin r.page) r.call r.node fit.2)

module _ (c : Config) (m : ℕ → Hints) (n : Net) (order : IsOrderly c n) (hints : IsHinted c m n)
  where
    -- at an idle entry: a copy is given, or a request to read is sent on
    module _ (r : Served c n entry.Idle content.ReadReq) where
      open r use {node as x, page as p, from, origin as o, call, state as s, rest, here, loose, is}

      shared_hinted : (nodes : Nodes) (bytes : List ℕ) → s.owner ≡ true
          → IsHinted c m
          (goes_on n x p (entry.Idle (sharing nodes)) rest
          (parcel_to x o o call (content.ReadRep p bytes) ∷ []))
      shared_hinted nodes bytes owner =
          one_hinted c m m n _ hints x p (entry.Idle s) (entry.Idle (sharing nodes)) served _ _
          (answer_step n x p (entry.Idle s) (entry.Idle (sharing nodes)) _ rest o o call
          (content.ReadRep p bytes) is loose (λ k q h. h))
          (none_told dynamic_ops m m x p (λ i. refl))
          refl (λ b v h. cc)
          (λ g was h. (let f : content.ReadRep p bytes ≡ content.ReadReq p = h in cc))
          (λ g was h. (let f : content.ReadRep p bytes ≡ content.WriteReq p = h in cc))
          (λ g was v h. was.requests.reads o x (asked_first r)) (λ h. owns (ap is_owner is ∙ owner))
          (λ g was h. no_more (sym h))

      read_sent_hinted : s.owner ≡ false
          → IsHinted c (with_manager m x (m x))
          (goes_on n x p (entry.Idle s) rest
          (parcel_to x (hint_of (m x) p) o call (content.ReadReq p) ∷ []))
      read_sent_hinted plain =
          one_hinted c m (with_manager m x (m x)) n _ hints x p (entry.Idle s) (entry.Idle s) served _ _
          (answer_step n x p (entry.Idle s) (entry.Idle s) _ rest (hint_of (m x) p) o call
          (content.ReadReq p) is loose (λ k q h. h))
          (none_told dynamic_ops m (with_manager m x (m x)) x p (told_itself m x))
          refl (λ b v h. cc)
          (λ g was h. (
          let lower : g (hint_of (m x) p) < g x = was.hints x here (ap claims is ∙ plain) in
          let low : g x < g o = was.requests.reads o x (asked_first r) in
          omega (arith, lower, low)
          ))
          (λ g was h. (let f : content.ReadReq p ≡ content.WriteReq p = h in cc))
          (λ g was v h. (let f : content.ReadReq p ≡ content.ReadRep p v = h in cc))
          (λ h. owns (ap is_owner is ∙ h))
          (λ g was h. subst (λ v. g (hint_of v p) < g x) (sym (told_itself m x x))
          (was.hints x here (ap claims is ∙ plain)))

    -- a request to read is sent on where a copy is awaited
    reader_sent_hinted : (r : Served c n entry.AwaitRead content.ReadReq)
        → IsHinted c (with_manager m r.node (m r.node))
        (goes_on n r.node r.page (entry.AwaitRead (sending r.state)) r.rest
        (parcel_to r.node (hint_of (m r.node) r.page) r.origin r.call (content.ReadReq r.page) ∷ []))
    reader_sent_hinted r =
        one_hinted c m (with_manager m x (m x)) n _ hints x p (entry.AwaitRead s)
        (entry.AwaitRead (sending s)) served _ _
        (answer_step n x p (entry.AwaitRead s) (entry.AwaitRead (sending s)) _ rest
        (hint_of (m x) p) o call (content.ReadReq p) is loose (λ k q h. h))
        (none_told dynamic_ops m (with_manager m x (m x)) x p (told_itself m x))
        refl (λ b v h. cc)
        (λ g was h. (
        let lower : g (hint_of (m x) p) < g x = was.hints x here (ap claims is) in
        let low : g x < g o = was.requests.reads o x (asked_first r) in
        omega (arith, lower, low)
        ))
        (λ g was h. (let f : content.ReadReq p ≡ content.WriteReq p = h in cc))
        (λ g was v h. (let f : content.ReadReq p ≡ content.ReadRep p v = h in cc))
        (λ h. no_more h)
        (λ g was h. subst (λ v. g (hint_of v p) < g x) (sym (told_itself m x x))
        (was.hints x here (ap claims is)))
      where
        open r use {node as x, page as p, from, origin as o, call, state as s, rest, here, loose, is}

    -- a copy is given up, under steady hints
    ended_steady : {T : Type 0} {at : T → Entry} (r : Served c n at content.Inval) (z : Entry)
        → ((k : ℕ) (q : PutOff) → slice_get (put_offs z) k ≡ Some q
        → slice_get (put_offs (at r.state)) k ≡ Some q) → is_owner z ≡ false
        → (claims z ≡ false → claims (at r.state) ≡ false)
        → IsHinted c (with_manager m r.node (m r.node))
        (goes_on n r.node r.page z r.rest
        (parcel_to r.node r.origin r.origin r.call (content.InvalAck r.page) ∷ []))
    ended_steady {at = at} r z still unowned free =
        quiet_hinted c m (with_manager m x (m x)) n _ hints x p (at s) z served (IsThe _ _)
        (answer_step n x p (at s) z _ rest o o call (content.InvalAck p) is loose still)
        (none_told dynamic_ops m (with_manager m x (m x)) x p (told_itself m x))
        (λ a l it. ap (λ (v : Letter). page_of v.message.content) it.1)
        (λ a l it on. subst (λ (v : Letter). LeadsOn v.message.content) it.1 on)
        (λ h. absurd (both_ways (is_owner z) unowned h))
        (λ g was h. subst (λ v. g (hint_of v p) < g x) (sym (told_itself m x x))
        (was.hints x here (ap claims is ∙ free h)))
      where
        open r use {node as x, page as p, origin as o, call, state as s, rest, here, loose, is}

    -- a copy is given up, and the hint is who is to write
    ended_hinted : {T : Type 0} {at : T → Entry} (r : Served c n at content.Inval) (z : Entry)
        → ((k : ℕ) (q : PutOff) → slice_get (put_offs z) k ≡ Some q
        → slice_get (put_offs (at r.state)) k ≡ Some q) → is_owner z ≡ false
        → IsHinted c (with_manager m r.node (hinted (m r.node) r.page r.origin))
        (goes_on n r.node r.page z r.rest
        (parcel_to r.node r.origin r.origin r.call (content.InvalAck r.page) ∷ []))
    ended_hinted {at = at} r z still unowned =
        quiet_hinted c m (with_manager m x (hinted (m x) p o)) n _ hints x p (at s) z served (IsThe _ _)
        (answer_step n x p (at s) z _ rest o o call (content.InvalAck p) is loose still)
        (told_hint m x p o)
        (λ a l it. ap (λ (v : Letter). page_of v.message.content) it.1)
        (λ a l it on. subst (λ (v : Letter). LeadsOn v.message.content) it.1 on)
        (λ h. absurd (both_ways (is_owner z) unowned h))
        (λ g was h. hints_at c m n hints x p here inside o g
        (was.lowest o x (orderer_has order r) (λ same. foreign (sym same))))
      where
        open r use {
          node as x,
          page as p,
          from,
          origin as o,
          call,
          state as s,
          rest,
          here,
          inside,
          loose,
          foreign,
          is,
        }

    -- a copy is given up
    ended_by : {T : Type 0} {at : T → Entry} (r : Served c n at content.Inval) (z : Entry)
        → ((k : ℕ) (q : PutOff) → slice_get (put_offs z) k ≡ Some q
        → slice_get (put_offs (at r.state)) k ≡ Some q) → is_owner z ≡ false
        → (claims z ≡ false → claims (at r.state) ≡ false) → (steady : Bool)
        → IsHinted c
        (with_manager m r.node
        (if steady then m r.node else hinted (m r.node) r.page r.origin))
        (goes_on n r.node r.page z r.rest
        (parcel_to r.node r.origin r.origin r.call (content.InvalAck r.page) ∷ []))
    ended_by r z still unowned free true = ended_steady r z still unowned free
    ended_by r z still unowned free false = ended_hinted r z still unowned

    -- a message is put off
    module _ (put : PutsOff c n) where
      open put use {node as x, page as p, from, later as q, before as e, rest, here, loose, is, room}

      put_hinted : IsHinted c m (goes_on n x p (with_put_off e q) rest [])
      put_hinted = one_hinted c m m n _ hints x p e (with_put_off e q) served _ (letter_of x p q)
          (put_off_step n x p from q e rest loose is room) (none_told dynamic_ops m m x p (λ i. refl))
          (put_about q.kind p) (put_no_page q.kind p)
          (λ g was h. was.requests.reads q.origin x (subst (λ b. IsAsked n b q.origin x) h first))
          (λ g was h. was.requests.writes q.origin x (subst (λ b. IsAsked n b q.origin x) h first))
          (λ g was bytes h. absurd (put_no_copy q.kind p bytes h))
          (λ h. owns (ap is_owner is ∙ sym (owner_put e q) ∙ h))
          (λ g was h. was.hints x here (ap claims is ∙ sym (put_claims e q) ∙ h))
        where
          first : IsAsked n (content_of q.kind p) q.origin x
          first = record {
            at = Loose 0;
            letter = letter from x q.origin q.call (content_of q.kind p);
            there = ap (λ v. slice_get v 0) loose;
            dest = refl;
            asker = refl;
            asks = refl;
          }

    -- a copy comes, and the hint stays
    late_hinted : (bytes : List ℕ) (r : Comes c n entry.AwaitRead (λ q. content.ReadRep q bytes))
        → IsHinted c m
        (goes_on n r.node r.page (entry.Idle copying)
        (map (letter_of r.node r.page) r.state.put_off) [])
    late_hinted bytes r =
        quiet_hinted c m m n _ hints x p (entry.AwaitRead w)
        (entry.Idle copying) (freed x p) IsNone
        (free_step n x p (entry.AwaitRead w) (entry.Idle copying) w.put_off is refl refl)
        (none_told dynamic_ops m m x p (λ i. refl)) (λ a l none. absurd none)
        (λ a l none on. none) (λ h. no_more h)
        (λ g was h. was.hints x here (ap claims is))
      where
        open r use {node as x, page as p, from, call, state as w, here, inside, loose, is}

    -- a word joins the fetch of its page
    joined_hinted : (r : Joins c n)
        → IsHinted c m (goes_on n r.node r.page (joined_by r.before r.word) [] [])
    joined_hinted r =
        quiet_hinted c m m n _ hints x p e (joined_by e w) served IsNone
        (stay_step n x p e (joined_by e w) is (joined_kept e w))
        (none_told dynamic_ops m m x p (λ i. refl)) (λ a l none. absurd none)
        (λ a l none on. none) (λ h. owns (ap is_owner is ∙ sym (joined_owner e w) ∙ h))
        (λ g was h. was.hints x here (ap claims is ∙ sym (joined_claims e w) ∙ h))
      where
        open r use {node as x, page as p, word as w, before as e, here, is}

    -- a copy comes
    copied_hinted : (bytes : List ℕ) (r : Comes c n entry.AwaitRead (λ q. content.ReadRep q bytes))
        → IsHinted c (with_manager m r.node (hinted (m r.node) r.page r.from))
        (goes_on n r.node r.page (entry.Idle copying)
        (map (letter_of r.node r.page) r.state.put_off) [])
    copied_hinted bytes r =
        quiet_hinted c m (with_manager m x (hinted (m x) p from)) n _ hints x p (entry.AwaitRead w)
        (entry.Idle copying) (freed x p) IsNone
        (free_step n x p (entry.AwaitRead w) (entry.Idle copying) w.put_off is refl refl)
        (told_hint m x p from) (λ a l none. absurd none) (λ a l none on. none)
        (λ h. no_more h)
        (λ g was h. hints_at c m n hints x p here inside from g (was.copies from x (record {
          at = Loose 0;
          letter = letter from x x call (content.ReadRep p bytes);
          bytes = bytes;
          there = ap (λ v. slice_get v 0) loose;
          from = refl;
          dest = refl;
          brings = refl;
        })))
      where
        open r use {node as x, page as p, from, call, state as w, here, inside, loose, is}

    -- the page comes
    page_there : (copies : ℕ) (bytes : List ℕ)
        (r : Comes c n entry.AwaitWrite (λ q. content.WriteRep q copies bytes))
        → HasPage n r.node r.page
    page_there copies bytes r =
        comes (Loose 0) (letter r.from r.node r.node r.call (content.WriteRep r.page copies bytes))
        copies bytes (ap (λ v. slice_get v 0) r.loose) refl refl

    module _ {T : Type 0} {at : T → Entry} {bring : ℕ → Content} (r : Comes c n at bring)
        (m' : ℕ → Hints) (t : IsTold dynamic_ops m m' r.node r.page) (has : HasPage n r.node r.page)
      where
        open r use {node as x, page as p, state as s, is}

        -- what was put off is loose, at the page's owner
        freed_hinted : IsHinted c m'
            (goes_on n x p (entry.Idle owning) (map (letter_of x p) (put_offs (at s))) [])
        freed_hinted = quiet_hinted c m m' n _ hints x p (at s) (entry.Idle owning) (freed x p) IsNone
            (free_step n x p (at s) (entry.Idle owning) (put_offs (at s)) is refl refl) t
            (λ a l none. absurd none) (λ a l none on. none) (λ h. has) (λ g was h. no_more (sym h))

        -- an acknowledgement comes
        stays_hinted : (z : Entry)
            → ((k : ℕ) (q : PutOff) → slice_get (put_offs z) k ≡ Some q
            → slice_get (put_offs (at s)) k ≡ Some q)
            → claims z ≡ true → IsHinted c m' (goes_on n x p z [] [])
        stays_hinted z still claiming =
            quiet_hinted c m m' n _ hints x p (at s) z served IsNone (stay_step n x p (at s) z is still)
            t
            (λ a l none. absurd none) (λ a l none on. none) (λ h. has)
            (λ g was h. absurd (both_ways (claims z) h claiming))

    -- orders to give copies up go out from the page's owner
    ordered_hinted : (x p : ℕ) (m' : ℕ → Hints) (e z : Entry) (call : ℕ) (nodes : Nodes)
        → IsTold dynamic_ops m m' x p → n.entry x p ≡ e
        → ((k : ℕ) (q : PutOff) → slice_get (put_offs z) k ≡ Some q
        → slice_get (put_offs e) k ≡ Some q) → claims z ≡ true → HasPage n x p
        → IsHinted c m' (goes_on n x p z [] (invalidations x p call nodes))
    ordered_hinted x p m' e z call nodes t is still claiming has =
        quiet_hinted c m m' n _ hints x p e z served (IsOrder n x p call nodes)
        (orders_step n x p e z call nodes is still) t
        (λ a l new. ap (λ (v : Letter). page_of v.message.content) new.3)
        (λ a l new on. subst (λ (v : Letter). LeadsOn v.message.content) new.3 on) (λ h. has)
        (λ g was h. absurd (both_ways (claims z) h claiming))

    -- a word begins to wait
    module _ (r : Begins c n) (plain : r.state.owner ≡ false) where
      open r use {node as x, page as p, call, state as s, word as w, here, loose, is}

      lower : (g : ℕ → ℕ) → LeadDown c m n p g → g (hint_of (m x) p) < g x
      lower g was = was.hints x here (ap claims is ∙ plain)

      copy_asked : IsHinted c m
          (goes_on n x p (entry.AwaitRead (waiting_from w call)) []
          (parcel_to x (hint_of (m x) p) x call (content.ReadReq p) ∷ []))
      copy_asked =
          one_hinted c m m n _ hints x p (entry.Idle s) (entry.AwaitRead (waiting_from w call)) served
          _ _
          (ask_step n x p (entry.Idle s) (entry.AwaitRead (waiting_from w call)) (hint_of (m x) p) x
          call (content.ReadReq p) is loose (λ k q h. absurd (none-some q h)))
          (none_told dynamic_ops m m x p (λ i. refl)) refl (λ b v h. cc) (λ g was h. lower g was)
          (λ g was h. (let f : content.ReadReq p ≡ content.WriteReq p = h in cc))
          (λ g was v h. (let f : content.ReadReq p ≡ content.ReadRep p v = h in cc)) (λ h. no_more h)
          (λ g was h. lower g was)

      page_asked : (had : _)
          → IsHinted c m
          (goes_on n x p (entry.AwaitWrite (record { had_copy = had; waiting = waiting_from w call }))
          []
          (parcel_to x (hint_of (m x) p) x call (content.WriteReq p) ∷ []))
      page_asked had =
          one_hinted c m m n _ hints x p (entry.Idle s)
          (entry.AwaitWrite (record { had_copy = had; waiting = waiting_from w call })) served _ _
          (ask_step n x p (entry.Idle s)
          (entry.AwaitWrite (record { had_copy = had; waiting = waiting_from w call }))
          (hint_of (m x) p) x call (content.WriteReq p) is loose
          (λ k q h. absurd (none-some q h))) (none_told dynamic_ops m m x p (λ i. refl)) refl
          (λ b v h. cc) (λ g was h. (let f : content.WriteReq p ≡ content.ReadReq p = h in cc))
          (λ g was h. lower g was)
          (λ g was v h. (let f : content.WriteReq p ≡ content.ReadRep p v = h in cc)) (λ h. no_more h)
          (λ g was h. no_more (sym h))

module _ (c : Config) (config : IsConfig c) where
  hinted_by : {sends : Bool} {m : ℕ → Hints} {n : Net} {f : ℕ → List ℕ} {notice : Notice} {n' : Net}
      {f' : ℕ → List ℕ} → Row sends c n f notice n' f'
      → IsNamedBy dynamic_ops c m notice → IsOrderly c n → IsHinted c m n
      → IsHinted c (noticed dynamic_ops m notice) n'
  hinted_by (Row.carries r) of o h = installed_hinted c _ _ r.node r.page _ h
  hinted_by {n = n} (Row.takes r) of o h =
      part_hinted c _ _ n _
      (record {
        letters = taken_letters n r.source r.dest r.message r.first;
        entries = λ i q. refl;
      }) (λ i. refl) h
  hinted_by {m = m} (Row.drops r) of o h =
      absurd (no_breach _ (hinted_descends c m _ o h) c config o r.node r.old r.rest r.here r.loose
      r.dest r.misfits)
  hinted_by (Row.shares r owner low) of o h = shared_hinted c _ _ o h r _ _ owner
  hinted_by (Row.gives r owner low) of o h =
      given_hinted c _ _ o h r (λ k w. w) owner (λ k q w. w) _ _
  hinted_by (Row.sends_on_read r hop plain away) of o h =
      rw of.1 (read_sent_hinted c _ _ o h r plain)
  hinted_by (Row.sends_on_write r hop plain away) of o h =
      rw of.1 (sent_hinted c _ _ o h r (λ k w. w) _ plain plain plain (λ k q w. w))
  hinted_by (Row.reader_sends_on_read r hop sends away) of o h =
      rw of.1 (reader_sent_hinted c _ _ o h r)
  hinted_by (Row.reader_sends_on_write r hop sends away) of o h =
      rw of.1 (sent_hinted c _ _ o h r (λ k w. w) _ refl refl refl (λ k q w. w))
  hinted_by {m = m} (Row.ends_copy r sender plain) of o h =
      ended_by c m _ o h r _ (λ k q h. h) refl (λ free. plain) (m r.node).steady
  hinted_by {m = m} (Row.gives_up r sender) of o h =
      ended_by c m _ o h r _ (λ k q h. h) refl (λ free. free) (m r.node).steady
  hinted_by (Row.puts_off r kept) of o h = put_hinted c _ _ o h r
  hinted_by (Row.copy_comes bytes r same quiet) of o h =
      installed_hinted c _ _ r.node r.page bytes (copied_hinted c _ _ o h bytes r)
  hinted_by (Row.copy_comes_late bytes r same sent) of o h =
      installed_hinted c _ _ r.node r.page bytes (late_hinted c _ _ o h bytes r)
  hinted_by {m = m} (Row.page_comes copies bytes r same none) of o h =
      installed_hinted c _ _ r.node r.page bytes
      (freed_hinted c m _ o h r _ (told_hint m r.node r.page (m r.node).me)
      (page_there c m _ o h copies bytes r))
  hinted_by {m = m} (Row.page_comes_shared copies bytes r same some out low) of o h =
      installed_hinted c _ _ r.node r.page bytes
      (ordered_hinted c m _ o h r.node r.page _ (entry.AwaitWrite r.state) _ r.call
      (nodes_with copies) (told_hint m r.node r.page (m r.node).me) r.is (λ k q h. h) refl
      (page_there c m _ o h copies bytes r))
  hinted_by {m = m} (Row.acknowledges r same left more) of o h =
      stays_hinted c m _ o h r m (none_told dynamic_ops m m r.node r.page (λ i. refl))
      (owns (ap is_owner r.is)) _ (λ k q h. h) refl
  hinted_by {m = m} (Row.acknowledges_last r same left last) of o h =
      freed_hinted c m _ o h r m (none_told dynamic_ops m m r.node r.page (λ i. refl))
      (owns (ap is_owner r.is))
  hinted_by (Row.asks_copy r hop plain unread away) of o h = rw of.1 (copy_asked c _ _ o h r plain)
  hinted_by (Row.asks_page r hop plain away) of o h =
      rw of.1 (page_asked c _ _ o h r plain (reads r.state.access))
  hinted_by {m = m} (Row.ends_copies r owner reader unwritten low out) of o h =
      ordered_hinted c m _ o h r.node r.page m (entry.Idle r.state) _ r.call r.state.copies
      (none_told dynamic_ops m m r.node r.page (λ i. refl)) r.is
      (λ k q h. absurd (none-some q h)) refl (owns (ap is_owner r.is ∙ owner))
  hinted_by (Row.joins r) of o h = joined_hinted c _ _ o h r

  pub hinted-routed : {sends : Bool} → IsRoutedAt sends dynamic_ops c (IsHinted c)
  hinted-routed = record { descends = hinted_descends c; by = hinted_by }
