-- Steps that leave it as it was who owns a page: a request is sent on or put off, a copy is given
-- up.
use Rattle.std.proofs.Common.{◌≡◌, ◌≢◌, ◌⊎◌, ◌+◌, ℕ, zero, suc, true, false, List, [], ◌∷◌, ◌++◌, length, slice_get, Some, refl, sym, ap, ◌∙◌, subst, inl, inr, arith}
use Rattle.std.proofs.lemmas.Option.{same_Some, none-some}
use Rattle.std.specs.FinSet as set
use Rattle.ivy_model.specs.declared.Config.{Config}
use Rattle.ivy_wire.specs.declared.Content.TheVariants as content
use Rattle.ivy_wire.specs.stated.Data.{Content}
use Rattle.ivy_wire.specs.stated.Posts.{parcel_to}
use Rattle.ivy_pagetable.specs.declared.Entry.{Entry}
use Rattle.ivy_pagetable.specs.declared.Entry.TheVariants as entry
use Rattle.ivy_pagetable.specs.declared.PutOff.{PutOff}
use Rattle.ivy_pagetable.specs.declared.Request.{Request}
use Rattle.ivy_pagetable.specs.declared.Request.TheVariants as request
use Rattle.ivy_pagetable.specs.stated.Entries.{put_offs, readable, writable, is_owner, copies_of, can_put_off, with_put_off, without}
use Rattle.ivy_pagetable.specs.stated.States.{WaitingState}
use Rattle.ivy_coherence.specs.stated.MessageSteps.{sending}
use Rattle.proof_table.specs.stated.Letters.{Letter, Net, Place, Underway, Aside, content_of, letter_of}
use Rattle.proof_table.specs.transitions.Letters.{goes_on}
use Rattle.proof_table.specs.stated.Orderly.{AwaitsCopy, AwaitsPage, Collects, CanWait, key_of, IsExpected, IsExpectedAs, IsOrderly}
use Rattle.proof_table.specs.transitions.TableSteps.{letter, bare, Served, PutsOff}
use Rattle.proof_table.proofs.transitions.Places.{get_append, written-other, served}
use Rattle.proof_table.proofs.transitions.Needs.{Needs, needs_met, put_copy, put_page, put_acks}
use Rattle.proof_table.proofs.transitions.NetSteps.{IsStep}
use Rattle.proof_table.proofs.transitions.Sole.{first_fits, copy_lost}
use Rattle.proof_table.proofs.transitions.Parcels.{IsThe, rest_told, is_step, answer_step}
use Rattle.proof_table.proofs.transitions.Replies.{IsEntryOf, same_entry, calm_orderly}

pub idle_without : (x : ℕ) → IsEntryOf x (entry.Idle without)
idle_without x = record {
  foreign = λ k q h. absurd (none-some q h);
  orders = λ k q h. absurd (none-some q h);
  alone = λ h. absurd (let f : false ≡ true = h in cc);
}

-- the letter that is served is posted to this node, and the entry is this one
abbrev sent_net : {c : Config} (n : Net) {T : Type 0} {at : T → Entry} {ask : ℕ → Content}
    → Served c n at ask → Entry → ℕ → Net
sent_net n {ask = ask} r z hop = goes_on n r.node r.page z r.rest
    (parcel_to r.node hop r.origin r.call (ask r.page) ∷ [])

-- what an entry says that stays as it was, but for whether a request was sent on
pub record IsStill (e z : Entry) : Type 0 where
  pub put_off : put_offs z ≡ put_offs e
  pub needs : (l : Letter) → Needs e l l.message.content → Needs z l l.message.content
  pub entry : (x : ℕ) → IsEntryOf x e → IsEntryOf x z
  pub owner : is_owner z ≡ true → (is_owner e ≡ true) × (copies_of z ≡ copies_of e)
  pub reader : readable z ≡ true → readable e ≡ true

pub same_still : (e : Entry) → IsStill e e
same_still e = record {
  put_off = refl;
  needs = λ l h. h;
  entry = λ x h. h;
  owner = λ h. (h, refl);
  reader = λ h. h;
}

pub sending_still : (s : WaitingState) → IsStill (entry.AwaitRead s) (entry.AwaitRead (sending s))
sending_still s = record {
  put_off = refl;
  needs = λ l. needs_met (entry.AwaitRead s) (entry.AwaitRead (sending s)) l l.message.content
      (λ k h. h) (λ k h. h) (λ k node h. h);
  entry = λ x h. record {
    foreign = h.foreign;
    orders = h.orders;
    alone = λ w. absurd (let f : false ≡ true = w in cc);
  };
  owner = λ h. absurd (let f : false ≡ true = h in cc);
  reader = λ h. absurd (let f : false ≡ true = h in cc);
}

-- a request of another node is sent on
module _ (c : Config) (n : Net) (order : IsOrderly c n) {T : Type 0} {at : T → Entry} where
  sent_on : {ask : ℕ → Content} (r : Served c n at ask) (z : Entry) (hop : ℕ)
      → IsStill (at r.state) z
      → key_of (letter r.node hop r.origin r.call (ask r.page))
      ≡ key_of (letter r.from r.node r.origin r.call (ask r.page))
      → ((q : ℕ) (bytes : List ℕ) → ask r.page ≡ content.ReadRep q bytes → ⊥)
      → ((q bits : ℕ) (bytes : List ℕ) → ask r.page ≡ content.WriteRep q bits bytes → ⊥)
      → IsExpected c (sent_net n r z hop) (letter r.node hop r.origin r.call (ask r.page))
      → IsOrderly c (sent_net n r z hop)
  sent_on {ask = ask} r z hop still key no_copy no_page fits =
      calm_orderly c n _ x p (at s) z
      (Underway x hop (length (n.posted x hop)))
      (letter from x o call (ask p)) (letter x hop o call (ask p)) rest
      (answer_step n x p (at s) z _ rest hop o call (ask p) is loose
      (λ k q h. ap (λ l. slice_get l k) (sym still.put_off) ∙ h))
      order
      (record {
        loose = loose;
        same_key = key;
        fits = fits;
        keeps = still.needs;
        entry = still.entry x (same_entry c n x p (at s) order is);
      })
      (record {
        no_copy = no_copy;
        no_page = no_page;
        owner = still.owner;
        reader = still.reader;
      })
    where
      open r use {node as x, page as p, from, origin as o, call, state as s, rest, loose, is}

  pub read_sent_on : (r : Served c n at content.ReadReq) (z : Entry) (hop : ℕ)
      → IsStill (at r.state) z → IsOrderly c (sent_net n r z hop)
  read_sent_on r z hop still = sent_on r z hop still refl (λ q bytes h. cc) (λ q bits bytes h. cc) (
    record { below = fit.0.below; inside = fit.0.inside },
    subst (λ y. AwaitsCopy y call)
        (sym (written-other n.entry x p z o p (inl foreign))) fit.1,
  )
    where
      open r use {node as x, page as p, from, origin as o, call, state as s, rest, loose, foreign}

      fit : IsExpectedAs c n (letter from x o call (content.ReadReq p)) (content.ReadReq p)
      fit = first_fits c n order (letter from x o call (content.ReadReq p)) rest loose

  pub write_sent_on : (r : Served c n at content.WriteReq) (z : Entry) (hop : ℕ)
      → IsStill (at r.state) z → IsOrderly c (sent_net n r z hop)
  write_sent_on r z hop still = sent_on r z hop still refl (λ q bytes h. cc) (λ q bits bytes h. cc) (
    record { below = fit.0.below; inside = fit.0.inside },
    subst (λ y. AwaitsPage y call)
        (sym (written-other n.entry x p z o p (inl foreign))) fit.1,
  )
    where
      open r use {node as x, page as p, from, origin as o, call, state as s, rest, loose, foreign}

      fit : IsExpectedAs c n (letter from x o call (content.WriteReq p)) (content.WriteReq p)
      fit = first_fits c n order (letter from x o call (content.WriteReq p)) rest loose

-- a copy is given up, at an entry at which none is awaited
module _ (c : Config) (n : Net) (order : IsOrderly c n) {T : Type 0} {at : T → Entry}
    (r : Served c n at content.Inval) where
  open r use {node as x, page as p, from, origin as o, call, state as s, rest, loose, foreign, is}

  abbrev e : Entry
  e = at s

  copy_given_up : (z : Entry)
      → ((k : ℕ) (q : PutOff) → slice_get (put_offs z) k ≡ Some q
      → slice_get (put_offs e) k ≡ Some q)
      → ((k : ℕ) → AwaitsCopy e k → ⊥) → ((k : ℕ) → AwaitsPage e k → AwaitsPage z k)
      → ((k node : ℕ) → Collects e k node → ⊥)
      → IsEntryOf x z → readable z ≡ false → is_owner z ≡ false
      → IsOrderly c (goes_on n x p z rest (parcel_to x o o call (content.InvalAck p) ∷ []))
  copy_given_up z same copies pages acks entry shut plain =
      calm_orderly c n n' x p e z here old new rest step order
      (record {
        loose = loose;
        same_key = refl;
        fits = (
          record { below = fit.0.below; inside = fit.0.inside },
          refl,
          subst (λ y. Collects y call x) (sym (written-other n.entry x p z o p (inl foreign)))
              fit.2,
          copy_lost c n n' x p e z served (IsThe here new) step order shut
              (λ k h. copies k (subst (λ y. AwaitsCopy y k) is h))
              (λ a l bytes new it.
              (let g : content.InvalAck p ≡ content.ReadRep p bytes =
              ap (λ (m : Letter). m.message.content) (sym new.1) ∙ it in cc)),
        );
        keeps = λ l. needs_met e z l l.message.content (λ k h. absurd (copies k h)) pages
            (λ k node h. absurd (acks k node h));
        entry = entry;
      })
      (record {
        no_copy = λ q bytes h. cc;
        no_page = λ q bits bytes h. cc;
        owner = λ h. (let g : true ≡ false = sym h ∙ plain in absurd cc);
        reader = λ h. (let g : true ≡ false = sym h ∙ shut in absurd cc);
      })
    where
      here : Place
      here = Underway x o (length (n.posted x o))

      old : Letter
      old = letter from x o call (content.Inval p)

      new : Letter
      new = letter x o o call (content.InvalAck p)

      n' : Net
      n' = goes_on n x p z rest (parcel_to x o o call (content.InvalAck p) ∷ [])

      fit : IsExpectedAs c n (letter from x o call (content.Inval p)) (content.Inval p)
      fit = first_fits c n order (letter from x o call (content.Inval p)) rest loose

      step : IsStep n n' x p e z served (IsThe here new)
      step = answer_step n x p e z old rest o o call (content.InvalAck p) is loose same

-- where none waits, and where the page is awaited
module _ (c : Config) (n : Net) (order : IsOrderly c n) where
  pub copy_ended : (r : Served c n entry.Idle content.Inval)
      → IsOrderly c (goes_on n r.node r.page (entry.Idle without) r.rest
      (parcel_to r.node r.origin r.origin r.call (content.InvalAck r.page) ∷ []))
  copy_ended r = copy_given_up c n order r (entry.Idle without) (λ k q h. h) (λ k h. h) (λ k h. h)
      (λ k node h. h) (idle_without r.node) refl refl

  pub copy_ended_waiting : (r : Served c n entry.AwaitWrite content.Inval)
      → IsOrderly c (goes_on n r.node r.page (entry.AwaitWrite (bare r.state)) r.rest
      (parcel_to r.node r.origin r.origin r.call (content.InvalAck r.page) ∷ []))
  copy_ended_waiting r =
      let was : IsEntryOf r.node (entry.AwaitWrite r.state) =
      same_entry c n r.node r.page (entry.AwaitWrite r.state) order r.is in
      copy_given_up c n order r (entry.AwaitWrite (bare r.state)) (λ k q h. h) (λ k h. h)
      (λ k h. h) (λ k node h. h)
      (record {
        foreign = was.foreign;
        orders = was.orders;
        alone = λ h. absurd (let f : false ≡ true = h in cc);
      }) refl refl

-- to put a message off changes nothing else of an entry
put_offs_put : (e : Entry) (q : PutOff) → can_put_off e ≡ true
    → put_offs (with_put_off e q) ≡ put_offs e ++ q ∷ []
put_offs_put (entry.Idle s) q h = absurd (let f : false ≡ true = h in cc)
put_offs_put (entry.AwaitRead s) q h = refl
put_offs_put (entry.AwaitWrite s) q h = refl
put_offs_put (entry.AwaitAcks s) q h = refl

pub put_same : (e : Entry) (q : PutOff)
    → (writable (with_put_off e q) ≡ writable e) × (is_owner (with_put_off e q) ≡ is_owner e)
    × (copies_of (with_put_off e q) ≡ copies_of e) × (readable (with_put_off e q) ≡ readable e)
put_same (entry.Idle s) q = (refl, refl, refl, refl)
put_same (entry.AwaitRead s) q = (refl, refl, refl, refl)
put_same (entry.AwaitWrite s) q = (refl, refl, refl, refl)
put_same (entry.AwaitAcks s) q = (refl, refl, refl, refl)

put_can_wait : (e : Entry) (q : PutOff) → CanWait e → CanWait (with_put_off e q)
put_can_wait (entry.Idle s) q h = h
put_can_wait (entry.AwaitRead s) q h = h
put_can_wait (entry.AwaitWrite s) q h = h
put_can_wait (entry.AwaitAcks s) q h = h

put_key : (x p from o call : ℕ) (kind : Request)
    → key_of (letter o x o call (content_of kind p))
    ≡ key_of (letter from x o call (content_of kind p))
put_key x p from o call request.Read = refl
put_key x p from o call request.Write = refl
put_key x p from o call request.Invalidate = refl

put_no_copy : (kind : Request) (p q : ℕ) (bytes : List ℕ)
    → content_of kind p ≡ content.ReadRep q bytes → ⊥
put_no_copy request.Read p q bytes h = cc
put_no_copy request.Write p q bytes h = cc
put_no_copy request.Invalidate p q bytes h = cc

pub put_no_page : (kind : Request) (p q bits : ℕ) (bytes : List ℕ)
    → content_of kind p ≡ content.WriteRep q bits bytes → ⊥
put_no_page request.Read p q bits bytes h = cc
put_no_page request.Write p q bits bytes h = cc
put_no_page request.Invalidate p q bits bytes h = cc

put_fits : (c : Config) (n n' : Net) (x p from o call : ℕ) (kind : Request)
    → n'.entry o p ≡ n.entry o p
    → IsExpectedAs c n (letter from x o call (content_of kind p)) (content_of kind p)
    → IsExpectedAs c n' (letter o x o call (content_of kind p)) (content_of kind p)
put_fits c n n' x p from o call request.Read same f = (
  record { below = f.0.below; inside = f.0.inside },
  subst (λ y. AwaitsCopy y call) (sym same) f.1,
)
put_fits c n n' x p from o call request.Write same f = (
  record { below = f.0.below; inside = f.0.inside },
  subst (λ y. AwaitsPage y call) (sym same) f.1,
)
put_fits c n n' x p from o call request.Invalidate same f = (
  record { below = f.0.below; inside = f.0.inside },
  refl,
  subst (λ y. Collects y call x) (sym same) f.2,
)

module _ (c : Config) (n : Net) (r : PutsOff c n) (order : IsOrderly c n) where
  open r use {
    node as x,
    page as p,
    from,
    later as q,
    before,
    rest,
    loose,
    foreign,
    orders,
    is,
    room,
  }

  -- what stands in the list was there, or is put off now
  put_either : (k : ℕ) (v : PutOff) → slice_get (put_offs (with_put_off before q)) k ≡ Some v
      → (slice_get (put_offs before) k ≡ Some v) ⊎ ((k ≡ length (put_offs before)) × (v ≡ q))
  put_either k v h =
      elim (get_append (put_offs before) (q ∷ []) v k
      (ap (λ l. slice_get l k) (sym (put_offs_put before q room)) ∙ h)) [
        | inl y ↦ inl y
        | inr y ↦ inr (last y.0 y.1 y.2)
      ]
    where
      last : (j : ℕ) → k ≡ length (put_offs before) + j → slice_get (q ∷ []) j ≡ Some v
          → (k ≡ length (put_offs before)) × (v ≡ q)
      last zero a b = (omega (arith, a), sym (same_Some q v b))
      last (suc j) a b = absurd (none-some v b)

  -- a message is put off
  pub put_aside : IsOrderly c (goes_on n x p (with_put_off before q) rest [])
  put_aside =
      calm_orderly c n n' x p before z at old (letter_of x p q) rest step order
      (record {
        loose = loose;
        same_key = put_key x p from q.origin q.call q.kind;
        fits = put_fits c n n' x p from q.origin q.call q.kind
            (written-other n.entry x p z q.origin p (inl foreign)) fit;
        keeps = λ l. needs_met before z l l.message.content (put_copy before q) (put_page before q)
            (put_acks before q);
        entry = record {
          foreign =
              λ k r h.
              elim (put_either k r h) [
                | inl y ↦ was.foreign k r y
                | inr y ↦
                    subst (λ (v : PutOff). v.origin ≢ x) (sym y.1) foreign
              ];
          orders = λ k r h order. elim (put_either k r h) [
            | inl y ↦ put_can_wait before q (was.orders k r y order)
            | inr y ↦
                subst (λ y. CanWait (with_put_off y q))
                (sym (orders (ap (λ (v : PutOff). v.kind) (sym y.1) ∙ order)).1.1) tt
          ];
          alone = λ h. (
              let f : (is_owner before ≡ true) × (copies_of before ≡ set.empty) =
              was.alone (sym same.0 ∙ h) in
              (same.1 ∙ f.0, same.2 ∙ f.1)
              );
        };
      })
      (record {
        no_copy = put_no_copy q.kind p;
        no_page = put_no_page q.kind p;
        owner = λ h. (sym same.1 ∙ h, same.2);
        reader = λ h. sym same.3 ∙ h;
      })
    where
      z : Entry
      z = with_put_off before q

      at : Place
      at = Aside x p (length (put_offs before))

      old : Letter
      old = letter from x q.origin q.call (content_of q.kind p)

      n' : Net
      n' = goes_on n x p (with_put_off before q) rest []

      was : IsEntryOf x before
      was = same_entry c n x p before order is

      same : (writable (with_put_off before q) ≡ writable before)
          × (is_owner (with_put_off before q) ≡ is_owner before)
          × (copies_of (with_put_off before q) ≡ copies_of before)
          × (readable (with_put_off before q) ≡ readable before)
      same = put_same before q

      fit : IsExpectedAs c n (letter from x q.origin q.call (content_of q.kind p))
          (content_of q.kind p)
      fit = first_fits c n order (letter from x q.origin q.call (content_of q.kind p)) rest loose

      step : IsStep n n' x p before z served (IsThe at (letter_of x p q))
      step = is_step n x p before z rest [] served (IsThe at (letter_of x p q)) is (record {
        underway = λ i j k. refl;
        elsewhere = λ i r k other. refl;
        aside = λ k r h. elim (put_either k r h) [
          | inl y ↦
              inl (Aside x p k, (r, ap (λ v. slice_get (put_offs v) k) is ∙ y, refl), refl, λ b. cc)
          | inr y ↦ inr (ap (Aside x p) y.0, ap (letter_of x p) y.1)
        ];
        loose = rest_told n x p before z old rest loose;
        posts = λ i j k m h. absurd (none-some m h);
      })
