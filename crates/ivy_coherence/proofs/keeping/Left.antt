-- What a message leaves of an entry at which no word waits: its access, but for what the message
-- takes, and the bytes of its page.
use Rattle.std.proofs.Common.{◌≡◌, ◌≢◌, ℕ, ◌<◌, inl, inr, Bool, true, false, List, [], ◌∷◌, length, get_or, slice_set, Option, Some, None, option_map, refl, sym, ap, ◌∙◌, subst, if◌then◌else◌, ◌==◌}
use Rattle.std.proofs.lemmas.Bool.{and_parts, eq-eqb, ne_eqb}
use Rattle.std.proofs.lemmas.Bool.Decides.{eqb_tells}
use Rattle.std.proofs.lemmas.List.{get_or-set_same, get_or-set_other}
use Rattle.ivy_wire.specs.declared.Content.TheVariants as content
use Rattle.ivy_wire.specs.stated.Data.{Content, Message}
use Rattle.ivy_pagetable.specs.declared.Access.{Access}
use Rattle.ivy_pagetable.specs.declared.Entry.{Entry}
use Rattle.ivy_pagetable.specs.declared.Entry.TheVariants as entry
use Rattle.ivy_pagetable.specs.declared.Request.{Request}
use Rattle.ivy_pagetable.specs.declared.Request.TheVariants as request
use Rattle.ivy_pagetable.specs.stated.States.{IdleState, WaitingState}
use Rattle.ivy_pagetable.specs.stated.TableState.{Table}
use Rattle.ivy_pagetable.specs.stated.Entries.{nothing, is_owner, is_locked, copying, owning}
use Rattle.ivy_pagetable.specs.stated.Tables.{entry_at, page_at, with_entry, with_page}
use Rattle.ivy_pagetable.specs.stated.Manager.{Ops}
use Rattle.ivy_coherence.specs.declared.leaving.Leaving.{Leaving}
use Rattle.ivy_coherence.specs.Leavings.{left_by, left_at, leaving_by, wish_as, leaves}
use Rattle.ivy_coherence.specs.stated.Coherent.{Coherent}
use Rattle.ivy_coherence.specs.stated.Serving.{put_off_served}
use Rattle.ivy_coherence.specs.stated.MessageSteps.{CoherenceEffect, is_order, copy_reply, unlocked, handled}
use Rattle.ivy_coherence.proofs.keeping.Fetched.{unlocked_by}
use Rattle.ivy_coherence.proofs.keeping.EventTable.{Rows, Misfits, MayAsk, IsReply, IsOfAllocator, asking, handled-by_rows}
use Rattle.ivy_coherence.proofs.keeping.EventTable.Misfits.{OwnRequest, OrderOfAnother, OrderAtOwner, FullList, ReplyToAnother, NotAwaited, CopyOfItsOwn, NotMissing, OfAllocator}

-- the access to a page, after a message that leaves this
abbrev pub access_left : ℕ → Access → Option Leaving → Access
access_left page access None = access
access_left page access (Some l) = if l.page == page then l.access else access

-- no word waits at the page still, its access is this, and its bytes are those before
pub record IsLeft (t : Table) (page : ℕ) (left : Access) (new : Table) : Type 0 where
  pub idle : IdleState
  pub entry : entry_at new page ≡ entry.Idle idle
  pub access : idle.access ≡ left
  pub bytes : page_at new page ≡ page_at t page

module _ {S : Type 0} (ops : Ops S) (c : Coherent S) (from : ℕ) (p : ℕ) (s : IdleState)
    (is : entry_at c.table p ≡ entry.Idle s) (within : p < length c.table.entries) where
  -- what is to hold in each row
  abbrev Leaves : ℕ → Content → CoherenceEffect S → Type 0
  Leaves origin m e = IsLeft c.table p
      (access_left p s.access (leaving_by c (wish_as c.me from origin m))) e.after.table

  -- nothing is left, so that nothing is taken
  none_left : (l : Option Leaving) → l ≡ None → access_left p s.access l ≡ s.access
  none_left None h = refl
  none_left (Some l) h = absurd cc

  same_there : (new : Table) (l : Option Leaving) → l ≡ None
      → entry_at new p ≡ entry_at c.table p → page_at new p ≡ page_at c.table p
      → IsLeft c.table p (access_left p s.access l) new
  same_there new l h entry bytes = record {
    idle = s;
    entry = entry ∙ is;
    access = sym (none_left l h);
    bytes = bytes;
  }

  -- a word waits at another page
  elsewhere : (q : ℕ) (e : Entry) → entry_at c.table q ≡ e → is_locked e ≡ true → p ≢ q
  elsewhere q e at locked same =
      let f : true ≡ false = sym locked ∙ ap is_locked (sym at ∙ ap (entry_at c.table) (sym same) ∙ is) in
      absurd cc

  -- where a word waits nothing is left
  none_locked : (q : ℕ) (kind : Request) (e : Entry) → entry_at c.table q ≡ e → is_locked e ≡ true
      → leaving_by c (Some (record { page = q; kind = kind })) ≡ None
  none_locked q kind (entry.Idle i) at locked = absurd cc
  none_locked q kind (entry.AwaitRead w) at locked = rw at refl
  none_locked q kind (entry.AwaitWrite w) at locked = rw at refl
  none_locked q kind (entry.AwaitAcks w) at locked = rw at refl

  -- what an order at an owner leaves
  none_owned : (q : ℕ) (e : Entry) → entry_at c.table q ≡ e → is_owner e ≡ true
      → leaving_by c (Some (record { page = q; kind = request.Invalidate })) ≡ None
  none_owned q (entry.Idle i) at own = rw at (rw own refl)
  none_owned q (entry.AwaitRead w) at own = rw at refl
  none_owned q (entry.AwaitWrite w) at own = rw at refl
  none_owned q (entry.AwaitAcks w) at own = rw at refl

  -- a message that may ask is a wish
  asks : (origin : ℕ) (kind : Request) (q : ℕ) → MayAsk c from origin kind
      → wish_as c.me from origin (asking kind q) ≡ Some (record { page = q; kind = kind })
  asks origin request.Read q may = rw (ne_eqb origin c.me may) refl
  asks origin request.Write q may = rw (ne_eqb origin c.me may) refl
  asks origin request.Invalidate q may = rw (eq-eqb origin from may) refl

  no_reply : (origin : ℕ) (m : Content) → IsReply m → leaving_by c (wish_as c.me from origin m) ≡ None
  no_reply origin (content.ReadReq page) r = absurd r
  no_reply origin (content.WriteReq page) r = absurd r
  no_reply origin (content.Inval page) r = absurd r
  no_reply origin (content.ReadRep page bytes) r = refl
  no_reply origin (content.WriteRep page copies bytes) r = refl
  no_reply origin (content.InvalAck page) r = refl
  no_reply origin (content.AllocReq size) r = absurd r
  no_reply origin (content.AllocRep code addr) r = absurd r
  no_reply origin (content.FreeReq addr) r = absurd r
  no_reply origin (content.FreeRep code) r = absurd r

  no_block : (origin : ℕ) (m : Content) → IsOfAllocator m
      → leaving_by c (wish_as c.me from origin m) ≡ None
  no_block origin (content.ReadReq page) r = absurd r
  no_block origin (content.WriteReq page) r = absurd r
  no_block origin (content.Inval page) r = absurd r
  no_block origin (content.ReadRep page bytes) r = absurd r
  no_block origin (content.WriteRep page copies bytes) r = absurd r
  no_block origin (content.InvalAck page) r = absurd r
  no_block origin (content.AllocReq size) r = refl
  no_block origin (content.AllocRep code addr) r = refl
  no_block origin (content.FreeReq addr) r = refl
  no_block origin (content.FreeRep code) r = refl

  own_request : (origin q : ℕ) (kind : Request) → is_order kind ≡ false → origin ≡ c.me
      → leaving_by c (wish_as c.me from origin (asking kind q)) ≡ None
  own_request origin q request.Read order mine = rw (eq-eqb origin c.me mine) refl
  own_request origin q request.Write order mine = rw (eq-eqb origin c.me mine) refl
  own_request origin q request.Invalidate order mine = absurd cc

  -- a message that fits no rule takes nothing
  misfit : (origin call : ℕ) (m : Content) → Misfits c from origin call m
      → leaving_by c (wish_as c.me from origin m) ≡ None
  misfit origin call m (OwnRequest kind page at order mine) =
      rw at (own_request origin page kind order mine)
  misfit origin call m (OrderOfAnother page at other) = rw at (rw (ne_eqb origin from other) refl)
  misfit origin call m (OrderAtOwner page at by own) =
      rw at (rw (eq-eqb origin from by) (none_owned page _ refl own))
  misfit origin call m (FullList kind page at may locked full) =
      rw at (ap (leaving_by c) (asks origin kind page may) ∙ none_locked page kind _ refl locked)
  misfit origin call m (ReplyToAnother reply other) = no_reply origin m reply
  misfit origin call m (NotAwaited reply mine not) = no_reply origin m reply
  misfit origin call m (CopyOfItsOwn page copies bytes at own) = rw at refl
  misfit origin call m (NotMissing page w at there none) = rw at refl
  misfit origin call m (OfAllocator of) = no_block origin m of

  -- what an entry is whose message is served there
  abbrev after_one : ℕ → ℕ → Request → ℕ → IdleState → IdleState
  after_one origin call kind q i =
      (put_off_served ops c.me origin q (page_at c.table q) i c.manager c.breaches None
      (record { kind = kind; origin = origin; call = call } ∷ [])).idle

  -- its access is what the message leaves, or the one before
  abbrev access_after : Access → Option Access → Access
  access_after access None = access
  access_after access (Some left) = left

  served_access : (origin call q : ℕ) (kind : Request) (i : IdleState) (own : Bool)
      → i.owner ≡ own → (is_order kind ≡ true → own ≡ false)
      → (after_one origin call kind q i).access ≡ access_after i.access (left_by kind i)
  served_access origin call q request.Read i true own order = rw own refl
  served_access origin call q request.Read i false own order = rw own refl
  served_access origin call q request.Write i true own order = rw own refl
  served_access origin call q request.Write i false own order = rw own refl
  served_access origin call q request.Invalidate i true own order =
      let f : true ≡ false = order refl in absurd cc
  served_access origin call q request.Invalidate i false own order = rw own refl

  left_here : (access : Access) (o : Option Access)
      → access_left p access (option_map (λ left. record { page = p; access = left }) o)
      ≡ access_after access o
  left_here access None = refl
  left_here access (Some left) = rw (eq-eqb p p refl) refl

  left_elsewhere : (q : ℕ) (access : Access) (o : Option Access) → p ≢ q
      → access_left p access (option_map (λ left. record { page = q; access = left }) o) ≡ access
  left_elsewhere q access None other = refl
  left_elsewhere q access (Some left) other = rw (ne_eqb q p (λ e. other (sym e))) refl

  -- a message is served at an idle entry
  served_left : (origin call q : ℕ) (kind : Request) (i : IdleState)
      → entry_at c.table q ≡ entry.Idle i → (is_order kind ≡ true → i.owner ≡ false)
      → IsLeft c.table p
      (access_left p s.access (leaving_by c (Some (record { page = q; kind = kind }))))
      (with_entry c.table q (entry.Idle (after_one origin call kind q i)))
  served_left origin call q kind i at order = elim (eqb_tells p q) [
    | inl y ↦
        let same : s ≡ i =
        (let f : entry.Idle s ≡ entry.Idle i = sym is ∙ (ap (entry_at c.table) y.1 ∙ at) in cc) in
        record {
          idle = after_one origin call kind q i;
          entry = ap (λ x. get_or (slice_set c.table.entries q (entry.Idle (after_one origin call kind q i))) x nothing) y.1
              ∙ get_or-set_same c.table.entries q (entry.Idle (after_one origin call kind q i)) nothing
              (subst (λ x. x < length c.table.entries) y.1 within);
          access = served_access origin call q kind i i.owner refl order
              ∙ (ap (λ (x : IdleState). access_after x.access (left_by kind i)) (sym same)
              ∙ (sym (left_here s.access (left_by kind i))
              ∙ (ap (λ x. access_left p s.access (option_map (λ left. record { page = x; access = left }) (left_by kind i))) y.1
              ∙ ap (λ e. access_left p s.access (option_map (λ left. record { page = q; access = left }) (left_at kind e))) (sym at))));
          bytes = refl;
        }
    | inr y ↦ record {
      idle = s;
      entry = get_or-set_other c.table.entries q p (entry.Idle (after_one origin call kind q i)) nothing y.1 ∙ is;
      access = sym (left_elsewhere q s.access (left_at kind (entry_at c.table q)) y.1);
      bytes = refl;
    }
  ]

  -- the entry of another page is written, and its bytes
  other_entry : (q : ℕ) (e : Entry) (l : Option Leaving) → p ≢ q → l ≡ None
      → IsLeft c.table p (access_left p s.access l) (with_entry c.table q e)
  other_entry q e l other none =
      same_there (with_entry c.table q e) l none
      (get_or-set_other c.table.entries q p e nothing other) refl

  other_page : (q : ℕ) (e : Entry) (bytes : List ℕ) (l : Option Leaving) → p ≢ q → l ≡ None
      → IsLeft c.table p (access_left p s.access l) (with_page (with_entry c.table q e) q bytes)
  other_page q e bytes l other none =
      same_there (with_page (with_entry c.table q e) q bytes) l none
      (get_or-set_other c.table.entries q p e nothing other)
      (get_or-set_other c.table.pages q p bytes [] other)

  -- another page is unlocked
  other_unlocked : (q : ℕ) (i : IdleState) (reply : Option Request) (bytes : List ℕ)
      (w : WaitingState) (l : Option Leaving) → p ≢ q → l ≡ None
      → IsLeft c.table p (access_left p s.access l)
      (unlocked ops c from q i reply bytes w).after.table
  other_unlocked q i reply bytes w l other none =
      unlocked_by ops (λ e. IsLeft c.table p (access_left p s.access l) e.after.table) c from q i
      reply bytes w (λ here. other_page q _ _ l other none)
      (λ elsewhere. other_page q _ _ l other none)

  wished : (origin q : ℕ) (kind : Request) (e : Entry) → MayAsk c from origin kind
      → entry_at c.table q ≡ e → is_locked e ≡ true
      → leaving_by c (wish_as c.me from origin (asking kind q)) ≡ None
  wished origin q kind e may at locked =
      ap (leaving_by c) (asks origin kind q may) ∙ none_locked q kind e at locked

  rows : (origin call : ℕ) → Rows ops c from origin call (Leaves origin)
  rows origin call = record {
    breach = λ m why. same_there c.table _ (misfit origin call m why) refl refl;
    served = λ kind page i may at order.
        subst (λ w. IsLeft c.table p (access_left p s.access (leaving_by c w))
        (with_entry c.table page (entry.Idle (after_one origin call kind page i))))
        (sym (asks origin kind page may)) (served_left origin call page kind i at order);
    put_off = λ kind page e may at room put.
        let locked = (and_parts (is_locked e) _ room).0 in
        other_entry page _ _ (elsewhere page e at locked) (wished origin page kind e may at locked);
    sent_on = λ kind page w may at asks sends.
        other_entry page _ _ (elsewhere page _ at refl) (wished origin page kind _ may at refl);
    given_up = λ page w by at.
        other_entry page _ _ (elsewhere page _ at refl)
        (wished origin page request.Invalidate _ by at refl);
    copy = λ page bytes w mine at this.
        other_unlocked page copying (copy_reply w) bytes w _ (elsewhere page _ at refl) refl;
    alone = λ page copies bytes w mine at this none.
        other_unlocked page owning (Some request.Write) bytes w.waiting _ (elsewhere page _ at refl)
        refl;
    shared = λ page copies bytes w mine at this some apart.
        other_page page _ _ _ (elsewhere page _ at refl) refl;
    acknowledged = λ page w mine at this missing others.
        other_entry page _ _ (elsewhere page _ at refl) refl;
    last = λ page w mine at this missing none.
        other_unlocked page owning None (page_at c.table page) w.waiting _ (elsewhere page _ at refl)
        refl;
  }

-- a message leaves of an entry at which no word waits what it says beforehand
pub handled_leaves : {S : Type 0} (ops : Ops S) (c : Coherent S) (from : ℕ) (m : Message) (p : ℕ)
    (s : IdleState) → entry_at c.table p ≡ entry.Idle s → p < length c.table.entries
    → IsLeft c.table p (access_left p s.access (leaves c from m)) (handled ops c from m).after.table
handled_leaves ops c from m p s is within =
    handled-by_rows m (rows ops c from p s is within m.origin m.call)
